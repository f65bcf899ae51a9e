-- Which entries fit a ticket's legs, and which fit comes first. Assumes nothing.
use Rattle.std.specs.Prelude.{◌≡◌, ℕ, ◌<◌, ◌≤◌, true, List, length}
use Rattle.contracts.specs.declared.leg.Leg.{Leg}
use Rattle.catalogue.specs.Entries.{Entry, numbered, suits}
use Rattle.catalogue.specs.Rows.{row}
use Rattle.catalogue.specs.Seatings.{Permutation, before}
use Rattle.catalogue.specs.declared.direction.Direction.{Direction}
use Rattle.catalogue.specs.declared.direction.Direction.TheVariants.{Buy, Sell}

-- entry n fits the legs in direction d, seated as s says
abbrev pub Fits : List Entry → List Leg → ℕ → Direction → List ℕ → Type 0
Fits es legs n d s = suits (numbered es n) (row d legs s) ≡ true

-- entry n fits in some direction under some seating
pub record FittedBy (es : List Entry) (legs : List Leg) (n : ℕ) : Type 0 where
  pub direction : Direction
  pub seating : List ℕ
  pub permutes : Permutation (length legs) seating
  pub fits : Fits es legs n direction seating

-- no entry fits in either direction under any seating
abbrev pub Unfitted : List Entry → List Leg → Type 0
Unfitted es legs = (n : ℕ) → FittedBy es legs n → ⊥

-- the first fit: by entry, then BUY before SELL, then seatings in rising order
pub record FirstFit (es : List Entry) (legs : List Leg) (n : ℕ) (d : Direction) (s : List ℕ) : Type 0 where
  pub entry_low : 1 ≤ n
  pub entry_high : n ≤ length es
  pub seated : Permutation (length legs) s
  pub fits : Fits es legs n d s
  pub no_entry_before : (m : ℕ) → m < n → FittedBy es legs m → ⊥
  pub no_direction_before : (z : List ℕ) → Permutation (length legs) z → d ≡ Sell → Fits es legs n Buy z → ⊥
  pub no_seating_before : (z : List ℕ) → Permutation (length legs) z → before z s ≡ true → Fits es legs n d z → ⊥
