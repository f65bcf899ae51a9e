pub mod Behind
pub mod Firsts
pub mod Places
pub mod Scales
pub mod Sound
