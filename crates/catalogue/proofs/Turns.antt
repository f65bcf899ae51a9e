-- Permutations one after another, and back. Assumes nothing.
use Rattle.std.proofs.Common.{◌≡◌, ℕ, zero, suc, ◌-◌, ◌<◌, ◌≤◌, Bool, true, cond, ◌&&◌, eqb, List, [], ◌∷◌, map, length, get_or, sym, refl, ap, ◌∙◌, arith}
use Rattle.std.specs.List.{AllByRecursion, list_all}
use Rattle.std.proofs.lemmas.List.{get_or-map, length-map}
use Rattle.std.proofs.ByRecursion.{All-get_or, All-weaker, All-map}
use Rattle.std.proofs.lemmas.Bool.{and_parts}
use Rattle.std.proofs.lemmas.Simd.{map-map}
use Rattle.contracts.specs.declared.leg.Leg.{Leg}
use Rattle.contracts.specs.declared.plain.Side.{Side}
use Rattle.contracts.specs.declared.plain.Side.TheVariants.{Bought, Sold}
use Rattle.catalogue.specs.Rows.{no_leg, opposite, turned, faced, leg_of, row}
use Rattle.catalogue.specs.Seatings.{numbers, seatings, Permutation, Distinct, Apart}
use Rattle.catalogue.specs.declared.direction.Direction.{Direction}
use Rattle.catalogue.specs.declared.direction.Direction.TheVariants.{Buy, Sell}
use Rattle.catalogue.proofs.Checks.{all_every, same, same_true, permutes, permutes_true}
use Rattle.catalogue.proofs.Seats.{by_legs}
use Rattle.catalogue.proofs.Perms.{all_in, seatings_whole}

-- first o, then s
abbrev pub then : List ℕ → List ℕ → List ℕ
then o s = map (λ k. get_or o (k - 1) 0) s

abbrev pub Known : ℕ → ℕ → Type 0
Known n k = (1 ≤ k) × (k ≤ n)

-- two equal functions on the elements of a list
map_same : {X Y : Type 0} (P : X → Type 0) (f g : X → Y) → ((x : X) → P x → f x ≡ g x) → (xs : List X) → AllByRecursion P xs → map f xs ≡ map g xs
map_same P f g e [] a = refl
map_same P f g e (x ∷ xs) a = let p = e x a.0 in let q = map_same P f g e xs a.1 in cc

apart_get_d : (x : ℕ) (xs : List ℕ) → Apart x xs → (i : ℕ) → i < length xs → x ≡ get_or xs i 0 → ⊥
apart_get_d x xs a i h e = All-get_or (λ y. x ≡ y → ⊥) xs i 0 h a e

distinct_get_d : (xs : List ℕ) → Distinct xs → (i j : ℕ) → i < length xs → j < length xs → get_or xs i 0 ≡ get_or xs j 0 → i ≡ j
distinct_get_d [] d i j hi hj e = absurd (omega arith)
distinct_get_d (x ∷ xs) d zero zero hi hj e = refl
distinct_get_d (x ∷ xs) d zero (suc j) hi hj e = absurd (apart_get_d x xs d.0 j (omega arith) e)
distinct_get_d (x ∷ xs) d (suc i) zero hi hj e = absurd (apart_get_d x xs d.0 i (omega arith) (sym e))
distinct_get_d (x ∷ xs) d (suc i) (suc j) hi hj e = ap suc (distinct_get_d xs d.1 i j (omega arith) (omega arith) e)

module _ (n : ℕ) (o : List ℕ) (po : Permutation n o) where
  apart_then : (k : ℕ) → Known n k → (s : List ℕ) → AllByRecursion (Known n) s → Apart k s → Apart (get_or o (k - 1) 0) (then o s)
  apart_then k lk [] ls a = tt
  apart_then k lk (j ∷ s) ls a =
      let long = po.long in
      let lj = ls.0 in (
        (λ e. let ij : k - 1 ≡ j - 1 = distinct_get_d o po.distinct (k - 1) (j - 1) (omega arith) (omega arith) e in a.0 (omega arith)),
        apart_then k lk s ls.1 a.1,
      )

  distinct_then : (s : List ℕ) → AllByRecursion (Known n) s → Distinct s → Distinct (then o s)
  distinct_then [] ls d = tt
  distinct_then (k ∷ s) ls d = (apart_then k ls.0 s ls.1 d.0, distinct_then s ls.1 d.1)

  leg_then : (k : ℕ) → Known n k → Known n (get_or o (k - 1) 0)
  leg_then k l = let long = po.long in All-get_or (Known n) o (k - 1) 0 (omega arith) po.legs

  pub then_permutes : (s : List ℕ) → Permutation n s → Permutation n (then o s)
  then_permutes s ps = record {
    long = length-map s (λ k. get_or o (k - 1) 0) ∙ ps.long;
    legs = All-map (Known n) (λ k. get_or o (k - 1) 0) s (All-weaker (Known n) (λ k. Known n (get_or o (k - 1) 0)) leg_then s ps.legs);
    distinct = distinct_then s ps.legs ps.distinct;
  }

-- one direction, then another
abbrev pub both_turns : Direction → Direction → Direction
both_turns Buy f = f
both_turns Sell Buy = Sell
both_turns Sell Sell = Buy

opposite_opposite : (s : Side) → opposite (opposite s) ≡ s
opposite_opposite Bought = refl
opposite_opposite Sold = refl

pub turned_turned : (x : Leg) → turned (turned x) ≡ x
turned_turned x = ap (λ (s : Side). record { contract = x.contract; side = s; ratio = x.ratio }) (opposite_opposite x.side)

pub faced_faced : (d f : Direction) (x : Leg) → faced d (faced f x) ≡ faced (both_turns d f) x
faced_faced Buy f x = refl
faced_faced Sell Buy x = refl
faced_faced Sell Sell x = turned_turned x

pub turned_back : (d : Direction) → both_turns d d ≡ Buy
turned_back Buy = refl
turned_back Sell = refl

-- a row of a row is a row
pub row_row : (t : List Leg) (o s : List ℕ) (d f : Direction) → Permutation (length t) o → Permutation (length t) s → row d (row f t o) s ≡ row (both_turns d f) t (then o s)
row_row t o s d f po ps =
    map_same (Known (length t)) (λ k. faced d (leg_of (row f t o) k)) (λ k. faced (both_turns d f) (leg_of t (get_or o (k - 1) 0)))
    (λ k l.
    let long = po.long in
    let lk : (1 ≤ k) × (k ≤ length t) = l in
    ap (faced d) (get_or-map (λ j. faced f (leg_of t j)) o (k - 1) 0 no_leg (omega arith)) ∙ faced_faced d f (leg_of t (get_or o (k - 1) 0)))
    s ps.legs
    ∙ sym (map-map (λ j. faced (both_turns d f) (leg_of t j)) (λ k. get_or o (k - 1) 0) s)

pub row_length : (t : List Leg) (o : List ℕ) (f : Direction) → Permutation (length t) o → length (row f t o) ≡ length t
row_length t o f po = length-map o (λ k. faced f (leg_of t k)) ∙ po.long

pub row_itself : (t : List Leg) → length t ≤ 4 → row Buy t (numbers 1 (length t)) ≡ t
row_itself [] h = refl
row_itself (a ∷ []) h = refl
row_itself (a ∷ b ∷ []) h = refl
row_itself (a ∷ b ∷ c ∷ []) h = refl
row_itself (a ∷ b ∷ c ∷ d ∷ []) h = refl
row_itself (a ∷ b ∷ c ∷ d ∷ e ∷ t) h = absurd (omega arith)

-- the place of k, from 1
index : ℕ → List ℕ → ℕ
index k [] = 1
index k (x ∷ xs) = cond (eqb k x) 1 (suc (index k xs))

pub back : ℕ → List ℕ → List ℕ
back n o = map (λ k. index k o) (numbers 1 n)

pub record Back (n : ℕ) (o : List ℕ) : Type 0 where
  pub permutes : Permutation n (back n o)
  pub undoes : then o (back n o) ≡ numbers 1 n

undone : ℕ → List ℕ → Bool
undone n o = permutes n (back n o) && same (then o (back n o)) (numbers 1 n)

undone_true : (n : ℕ) (o : List ℕ) → undone n o ≡ true → Back n o
unfolding undone
undone_true n o t =
    let h = and_parts (permutes n (back n o)) (same (then o (back n o)) (numbers 1 n)) t in
    record { permutes = permutes_true n (back n o) h.0; undoes = same_true (then o (back n o)) (numbers 1 n) h.1 }

all_undone : (n : ℕ) → 2 ≤ n → n ≤ 4 → list_all (undone n) (seatings n) ≡ true
unfolding seatings undone back index
all_undone = by_legs (λ n. list_all (undone n) (seatings n) ≡ true) refl refl refl

pub back_of : (n : ℕ) (o : List ℕ) → 2 ≤ n → n ≤ 4 → Permutation n o → Back n o
back_of n o low high po = all_in (Back n) o (seatings n) (all_every (undone n) (Back n) (undone_true n) (seatings n) (all_undone n low high)) (seatings_whole n o po)
