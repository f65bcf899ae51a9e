-- What the legs of an accepted ticket have in common. Assumes nothing.
use Rattle.std.specs.Prelude.{◌≡◌, ℕ, ◌<◌, List, length, slice_index_or}
use Rattle.std.specs.Int.{◌∣◌}
use Rattle.contracts.specs.declared.leg.Leg.{Leg}

-- no two legs have the same contract
abbrev pub Different : List Leg → Type 0
Different legs = (i j : ℕ) (d : Leg) → (i < j) × (j < length legs) × ((slice_index_or legs i d).contract ≡ (slice_index_or legs j d).contract) → ⊥

-- the ratios have no common divisor but 1
abbrev pub Reduced : List Leg → Type 0
Reduced legs = (k : ℕ) → ((i : ℕ) (d : Leg) → i < length legs → k ∣ (slice_index_or legs i d).ratio) → k ≡ 1
