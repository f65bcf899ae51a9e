-- What the tests of a row of keys decide, for any order and any distance. Assumes nothing.
use Rattle.std.specs.Prelude.{◌≡◌, ℕ, ◌+◌, ◌<◌, List, length, ℤ, pos, ◌*ℤ◌, slice_index_or}
use Rattle.std.specs.declared.cmp.Ordering.{Ordering}
use Rattle.std.specs.declared.cmp.Ordering.TheVariants.{Less}

-- the first key is before the second
abbrev pub Climbing : {K : Type 0} → (K → K → Ordering) → List K → Type 0
Climbing {K} order row = (d : K) → order (slice_index_or row 0 d) (slice_index_or row 1 d) ≡ Less

-- each key is before the next
abbrev pub Rising : {K : Type 0} → (K → K → Ordering) → List K → Type 0
Rising {K} order row = (i : ℕ) (d : K) → i + 1 < length row → order (slice_index_or row i d) (slice_index_or row (i + 1) d) ≡ Less

-- each key is before every later one
abbrev pub Ascending : {K : Type 0} → (K → K → Ordering) → List K → Type 0
Ascending {K} order row = (j : ℕ) → j < length row → (i : ℕ) (d : K) → i < j → order (slice_index_or row i d) (slice_index_or row j d) ≡ Less

-- any two distances between neighbours are the same
abbrev pub Even : {K : Type 0} → (K → K → ℤ) → List K → Type 0
Even {K} gap row =
    (i j : ℕ) (d : K) → i + 1 < length row → j + 1 < length row → gap (slice_index_or row i d) (slice_index_or row (i + 1) d) ≡ gap (slice_index_or row j d) (slice_index_or row (j + 1) d)

-- the second key lies halfway from the first to the third
abbrev pub Halfway : {K : Type 0} → (K → K → ℤ) → List K → Type 0
Halfway {K} gap row = (d : K) → gap (slice_index_or row 0 d) (slice_index_or row 2 d) ≡ pos 2 *ℤ gap (slice_index_or row 0 d) (slice_index_or row 1 d)
