-- The characters that a root may have. Assumes nothing.
use Rattle.std.specs.Prelude.{◌≡◌, ℕ, Bool, true, ◌&&◌, ◌||◌, nat_le}

-- A to Z or 0 to 9
abbrev pub code_character : ℕ → Bool
code_character c = (nat_le 65 c && nat_le c 90) || (nat_le 48 c && nat_le c 57)

abbrev pub RootRange : ℕ → ℕ → ℕ → Type 0
RootRange first second third = (code_character first ≡ true) × (code_character second ≡ true) × (code_character third ≡ true)
