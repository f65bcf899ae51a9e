-- What a catalogue means: a list of entries. Assumes nothing.
use Rattle.std.specs.Prelude.{◌≡◌, ℕ, ◌≤◌, Bool, true, false, ◌&&◌, List, ◌∷◌, length, ◌==◌, slice_index_or}
use Rattle.contracts.specs.Ranges.{code_character}
use Rattle.contracts.specs.declared.leg.Leg.{Leg}
use Rattle.catalogue.specs.declared.strategy.StrategyType.{StrategyType}

-- a type, a number of roles, and a yes or no for each row of legs: a leg here is a contract, a side and a ratio, and nothing else
pub record Entry : Type 0 where
  pub type : StrategyType
  pub roles : ℕ
  pub accepts : List Leg → Bool

-- two characters, each A to Z or 0 to 9
abbrev pub Typed : Entry → Type 0
Typed e = (code_character e.type.first ≡ true) × (code_character e.type.second ≡ true)

abbrev pub Sized : Entry → Type 0
Sized e = (2 ≤ e.roles) × (e.roles ≤ 4)

-- what stands at 0 and beyond the count: the type `--`, no role, and nothing fits
abbrev pub no_entry : Entry
no_entry = record { type = record { first = 45; second = 45 }; roles = 0; accepts = λ _. false }

-- the entry of a number, from 1
abbrev pub numbered : List Entry → ℕ → Entry
numbered es n = slice_index_or (no_entry ∷ es) n no_entry

-- a row of another length than the number of roles does not fit
abbrev pub suits : Entry → List Leg → Bool
suits e row = length row == e.roles && e.accepts row
