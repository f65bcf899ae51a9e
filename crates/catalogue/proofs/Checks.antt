-- Tests that antt computes on a whole table, and what they tell. Assumes nothing.
use Rattle.std.proofs.Common.{◌≡◌, ℕ, ◌≤◌, Bool, true, false, not, ◌&&◌, eqb, leb, List, [], ◌∷◌, length, refl}
use Rattle.std.specs.List.{AllByRecursion, list_all}
use Rattle.std.proofs.lemmas.Bool.{and_parts, not-true, eqb-true, eqb-false, leb-true}
use Rattle.catalogue.specs.Seatings.{Distinct, Permutation}

pub all_every : {X : Type 0} (p : X → Bool) (P : X → Type 0) → ((x : X) → p x ≡ true → P x) → (xs : List X) → list_all p xs ≡ true → AllByRecursion P xs
all_every p P tells [] t = tt
all_every p P tells (x ∷ xs) t = let h = and_parts (p x) (list_all p xs) t in (tells x h.0, all_every p P tells xs h.1)

abbrev pub same : List ℕ → List ℕ → Bool
same [] [] = true
same [] (y ∷ ys) = false
same (x ∷ xs) [] = false
same (x ∷ xs) (y ∷ ys) = eqb x y && same xs ys

pub same_true : (xs ys : List ℕ) → same xs ys ≡ true → xs ≡ ys
same_true [] [] t = refl
same_true [] (y ∷ ys) t = cc
same_true (x ∷ xs) [] t = cc
same_true (x ∷ xs) (y ∷ ys) t =
    let h = and_parts (eqb x y) (same xs ys) t in
    let a = eqb-true x y h.0 in
    let b = same_true xs ys h.1 in
    cc

abbrev pub apart : List ℕ → Bool
apart [] = true
apart (x ∷ xs) = list_all (λ y. not (eqb x y)) xs && apart xs

apart_true : (xs : List ℕ) → apart xs ≡ true → Distinct xs
apart_true [] t = tt
apart_true (x ∷ xs) t =
    let h = and_parts (list_all (λ y. not (eqb x y)) xs) (apart xs) t in
    (all_every (λ y. not (eqb x y)) (λ y. x ≡ y → ⊥) (λ y n. eqb-false x y (not-true (eqb x y) n)) xs h.0, apart_true xs h.1)

abbrev pub permutes : ℕ → List ℕ → Bool
permutes n s = eqb (length s) n && (list_all (λ k. leb 1 k && leb k n) s && apart s)

pub permutes_true : (n : ℕ) (s : List ℕ) → permutes n s ≡ true → Permutation n s
permutes_true n s t =
    let a = and_parts (eqb (length s) n) (list_all (λ k. leb 1 k && leb k n) s && apart s) t in
    let b = and_parts (list_all (λ k. leb 1 k && leb k n) s) (apart s) a.1 in
    record {
      long = eqb-true (length s) n a.0;
      legs = all_every (λ k. leb 1 k && leb k n) (λ k. (1 ≤ k) × (k ≤ n)) (λ k u. let v = and_parts (leb 1 k) (leb k n) u in (leb-true 1 k v.0, leb-true k n v.1)) s b.0;
      distinct = apart_true s b.1;
    }
