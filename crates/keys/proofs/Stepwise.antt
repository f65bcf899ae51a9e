-- From each key and the next to any two keys. Assumes nothing.
use Rattle.std.proofs.Common.{◌≡◌, ℕ, zero, suc, ◌+◌, ◌<◌, ◌≤◌, List, length, get_or, ℤ, pos, ◌+ℤ◌, ◌*ℤ◌, sym, refl, ◌∙◌, subst, ⊎_elim, add-one, arith}
use Rattle.std.proofs.lemmas.Int.{ints}
use Rattle.std.proofs.lemmas.Bool.{cases_lt}
use Rattle.keys.specs.Rows.{Rising, Ascending, Even}
use Rattle.std.specs.declared.cmp.Ordering.{Ordering}
use Rattle.std.specs.declared.cmp.Ordering.TheVariants.{Less}

module _ {K : Type 0} (order : K → K → Ordering) (transitive : (x y z : K) → order x y ≡ Less → order y z ≡ Less → order x z ≡ Less) where
  climbs : (row : List K) → Rising order row → (j : ℕ) → j < length row → (i : ℕ) (d : K) → i < j → order (get_or row i d) (get_or row j d) ≡ Less
  climbs row h zero p i d q = absurd (omega arith)
  climbs row h (suc j) p i d q =
      let last : order (get_or row j d) (get_or row (suc j) d) ≡ Less = rw add-one at (h j d (omega arith)) in
      ⊎_elim
      (λ (l : i < j). transitive _ _ _ (climbs row h j (omega arith) i d l) last)
      (λ (l : j ≤ i). let e : i ≡ j = omega arith in subst (λ (k : ℕ). order (get_or row k d) (get_or row (suc j) d) ≡ Less) (sym e) last)
      (cases_lt i j)

  pub ascends : (row : List K) → Rising order row → Ascending order row
  ascends row h = climbs row h

-- each inner key below n lies halfway between its neighbours
abbrev pub Halved : {K : Type 0} → (K → K → ℤ) → List K → ℕ → Type 0
Halved {K} gap row n = (i : ℕ) (d : K) → i + 2 < n → gap (get_or row i d) (get_or row (i + 2) d) ≡ pos 2 *ℤ gap (get_or row i d) (get_or row (i + 1) d)

module _ {K : Type 0} (gap : K → K → ℤ) (adds : (x y z : K) → gap x z ≡ gap x y +ℤ gap y z) where
  step : (x y z : K) → gap x z ≡ pos 2 *ℤ gap x y → gap y z ≡ gap x y
  step x y z e = omega (arith, ints, adds x y z)

  half : (x y z : K) → gap x y ≡ gap y z → gap x z ≡ pos 2 *ℤ gap x y
  half x y z e = omega (arith, ints, adds x y z)

  first_step : (row : List K) → Halved gap row (length row) → (i : ℕ) (d : K) → i + 1 < length row → gap (get_or row i d) (get_or row (i + 1) d) ≡ gap (get_or row 0 d) (get_or row 1 d)
  first_step row h zero d p = refl
  first_step row h (suc i) d p =
      let one : i + 1 ≡ suc i = omega arith in
      let two : i + 2 ≡ suc i + 1 = omega arith in
      let s = step (get_or row i d) (get_or row (i + 1) d) (get_or row (i + 2) d) (h i d (omega arith)) in
      let t : gap (get_or row (suc i) d) (get_or row (suc i + 1) d) ≡ gap (get_or row i d) (get_or row (i + 1) d) =
      subst (λ (k : ℕ). gap (get_or row (suc i) d) (get_or row k d) ≡ gap (get_or row i d) (get_or row (i + 1) d)) two
      (subst (λ (k : ℕ). gap (get_or row k d) (get_or row (i + 2) d) ≡ gap (get_or row i d) (get_or row (i + 1) d)) one s) in
      t ∙ first_step row h i d (omega arith)

  pub evens : (row : List K) → Halved gap row (length row) → Even gap row
  evens row h i j d p q = first_step row h i d p ∙ sym (first_step row h j d q)

  pub halves : (row : List K) → Even gap row → Halved gap row (length row)
  halves row even i d p =
      let one : i + 1 + 1 ≡ i + 2 = omega arith in
      half _ _ _ (subst (λ (k : ℕ). gap (get_or row i d) (get_or row (i + 1) d) ≡ gap (get_or row (i + 1) d) (get_or row k d)) one (even i (i + 1) d (omega arith) (omega arith)))
