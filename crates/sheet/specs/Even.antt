-- Even steps of a row of three keys. Assumes nothing.
use Rattle.std.specs.Prelude.{◌≡◌, ℕ, zero, suc, ◌+◌, ◌<◌, [], ◌∷◌, ℤ, pos, ◌-ℤ◌, Decides, slice_index_or, refl}
use Rattle.std.proofs.Common.{sym, arith}
use Rattle.std.proofs.lemmas.Int.{ints}
use Rattle.std.proofs.lemmas.Bool.Decides.{Decides-eqb, Decides-like}
use Rattle.keys.specs.Rows.{Even}
use Rattle.sheet.specs.Meaning.{halfway}

pub half_decides : (a b c : ℕ) → Decides (halfway a b c) (pos b -ℤ pos a ≡ pos c -ℤ pos b)
half_decides a b c =
    Decides-like _ (λ (e : a + c ≡ b + b). omega (arith, ints)) (λ (e : pos b -ℤ pos a ≡ pos c -ℤ pos b). omega (arith, ints)) (Decides-eqb (a + c) (b + b))

module _ {K : Type 0} (gap : K → K → ℤ) (x y z : K) where
  three : gap x y ≡ gap y z → (i j : ℕ) (d : K) → i + 1 < 3 → j + 1 < 3 → gap (slice_index_or (x ∷ y ∷ z ∷ []) i d) (slice_index_or (x ∷ y ∷ z ∷ []) (i + 1) d) ≡ gap (slice_index_or (x ∷ y ∷ z ∷ []) j d) (slice_index_or (x ∷ y ∷ z ∷ []) (j + 1) d)
  three e zero zero d p q = refl
  three e zero (suc zero) d p q = e
  three e zero (suc (suc j)) d p q = absurd (omega arith)
  three e (suc zero) zero d p q = sym e
  three e (suc zero) (suc zero) d p q = refl
  three e (suc zero) (suc (suc j)) d p q = absurd (omega arith)
  three e (suc (suc i)) j d p q = absurd (omega arith)

  pub even_three : gap x y ≡ gap y z → Even gap (x ∷ y ∷ z ∷ [])
  even_three e i j d p q = three e i j d p q

  pub three_even : Even gap (x ∷ y ∷ z ∷ []) → gap x y ≡ gap y z
  three_even h = h 0 1 x (omega arith) (omega arith)

-- of keys that stand apart as their numbers do
module _ {K : Type 0} (number : K → ℕ) where
  abbrev pub gap_of : K → K → ℤ
  gap_of x y = pos (number y) -ℤ pos (number x)

  pub even_decides : (x y z : K) → Decides (halfway (number x) (number y) (number z)) (Even gap_of (x ∷ y ∷ z ∷ []))
  even_decides x y z = Decides-like _ (even_three gap_of x y z) (three_even gap_of x y z) (half_decides (number x) (number y) (number z))
