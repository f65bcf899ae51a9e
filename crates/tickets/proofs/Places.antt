-- One leg more in a row. Assumes nothing.
use Rattle.std.proofs.Common.{◌≡◌, ℕ, zero, suc, ◌+◌, ◌<◌, ◌≤◌, List, [], ◌∷◌, ◌++◌, length, take, set, min, sym, refl, ap, ◌∙◌, ⊎_elim, arith, replicate}
use Rattle.std.proofs.lemmas.Bool.{cases_lt}
use Rattle.std.proofs.lemmas.Bool.Decides.{nat_tests}
use Rattle.std.proofs.lemmas.List.{length-take-le, take_all, take_more_set}
use Rattle.contracts.specs.Ranges.{RootRange}
use Rattle.contracts.specs.Same.{same_contract}
use Rattle.contracts.specs.declared.contract.Contract.TheVariants.{Future}
use Rattle.contracts.specs.declared.leg.Leg.{Leg}
use Rattle.contracts.specs.declared.plain.Side.TheVariants.{Bought}
use Rattle.keys.specs.Ranges.{MonthRange}
use Rattle.tickets.specs.Filled.{blank_leg, filled, length-filled, counted}

-- the blank leg as the code has it, and what shows that it is in range
abbrev ranged : RootRange 65 65 65 → MonthRange 2000 1 → Leg
ranged r m = record { contract = Future (record { first = 65; second = 65; third = 65; range = r }) (record { year = 2000; month = 1; range = m }); side = Bought; ratio = 0 }

-- whatever shows that, the leg is one
pub one_blank : (r : RootRange 65 65 65) (m : MonthRange 2000 1) → ranged r m ≡ blank_leg
one_blank r m =
    let e = same_contract (ranged r m).contract blank_leg.contract
    (record { first = refl; second = refl; third = refl; kind = refl; month = refl; strike = refl; underlying = refl }) in
    λ i. record { contract = e i; side = Bought; ratio = 0 }

pub set_next : {X : Type 0} (n : ℕ) (blank : X) (xs : List X) (x : X) → length xs < n → set (filled n blank xs) (length xs) x ≡ filled n blank (xs ++ x ∷ [])
set_next zero blank xs x h = absurd (omega (arith, h))
set_next (suc n) blank [] x h = refl
set_next (suc n) blank (y ∷ ys) x h = ap (λ l. y ∷ l) (set_next n blank ys x (omega (arith, h)))

pub next_filled : {X : Type 0} (n : ℕ) (blank : X) (count : ℕ) (row : List X) (x : X) → count < n → row ≡ filled n blank (take count row) → set row count x ≡ filled n blank (take (count + 1) (set row count x))
next_filled n blank count row x h is =
    let many = counted n blank count row (omega arith) is in
    (λ i. set (is i) (sym many i) x)
    ∙ set_next n blank (take count row) x (omega (arith, many))
    ∙ sym (ap (filled n blank) (take_more_set row count x (omega (arith, ap length is ∙ length-filled n blank (take count row)))))

-- the legs that fill a row
pub take_filled : {X : Type 0} (n : ℕ) (blank : X) (xs : List X) → length xs ≤ n → take (length xs) (filled n blank xs) ≡ xs
take_filled zero blank [] h = refl
take_filled zero blank (x ∷ xs) h = absurd (omega (arith, h))
take_filled (suc n) blank [] h = refl
take_filled (suc n) blank (x ∷ xs) h = ap (λ l. x ∷ l) (take_filled n blank xs (omega (arith, h)))

pub blank_row : {X : Type 0} (n : ℕ) (blank : X) → replicate n blank ≡ filled n blank []
blank_row zero blank = refl
blank_row (suc n) blank = ap (λ l. blank ∷ l) (blank_row n blank)

-- a row with no place past its legs
pub filled_whole : {X : Type 0} (n : ℕ) (blank : X) (xs : List X) → length xs ≡ n → xs ≡ filled n blank xs
filled_whole zero blank [] h = refl
filled_whole zero blank (x ∷ xs) h = absurd (omega arith)
filled_whole (suc n) blank [] h = absurd (omega arith)
filled_whole (suc n) blank (x ∷ xs) h = ap (λ l. x ∷ l) (filled_whole n blank xs (omega arith))

blank_next : {X : Type 0} (n : ℕ) (blank : X) (xs : List X) → length xs ≤ n → filled n blank xs ++ blank ∷ [] ≡ filled (suc n) blank xs
blank_next zero blank [] h = refl
blank_next zero blank (x ∷ xs) h = absurd (omega arith)
blank_next (suc n) blank [] h = ap (λ l. blank ∷ l) (blank_next n blank [] (omega arith))
blank_next (suc n) blank (x ∷ xs) h = ap (λ l. x ∷ l) (blank_next n blank xs (omega arith))

-- one place more is made blank
pub blanked_more : {X : Type 0} (blank : X) (xs row : List X) (i : ℕ) → i < length row → length xs ≤ i → take i row ≡ filled i blank xs → take (i + 1) (set row i blank) ≡ filled (i + 1) blank xs
blanked_more blank xs row i within few so_far =
    let one : i + 1 ≡ suc i = omega arith in
    take_more_set row i blank within ∙ ap (λ l. l ++ blank ∷ []) so_far ∙ blank_next i blank xs few ∙ ap (λ n. filled n blank xs) (sym one)

-- all are
pub blanked_all : {X : Type 0} (blank : X) (xs row : List X) (n i : ℕ) → length row ≡ n → i ≡ n → take i row ≡ filled i blank xs → row ≡ filled n blank xs
blanked_all blank xs row n i long done so_far = sym (take_all i row (omega arith)) ∙ so_far ∙ ap (λ m. filled m blank xs) done

-- as many of the first places as are counted, and as there are
pub counted_places : {X : Type 0} (count n k : ℕ) (places : List X) → length places ≡ n → k ≡ min count n → take k places ≡ take count places
counted_places count n k places long is =
    ⊎_elim (λ (h : count < n). let e : k ≡ count = grind (arith, nat_tests) in ap (λ m. take m places) e)
    (λ (h : n ≤ count). let e : n ≤ k = grind (arith, nat_tests) in take_all k places (omega arith) ∙ sym (take_all count places (omega arith)))
    (cases_lt count n)

-- a row of all places, seen as its legs
pub row_seen : {X : Type 0} (blank : X) (places legs : List X) (n k : ℕ) → length places ≡ n → k ≤ n → legs ≡ filled n blank (take k places) → (take k legs ≡ take k places) × (legs ≡ filled n blank (take k legs))
row_seen blank places legs n k long few is =
    let many = length-take-le k places (omega arith) in
    let seen : take k legs ≡ take k places =
    ap (take k) is ∙ ap (λ m. take m (filled n blank (take k places))) (sym many) ∙ take_filled n blank (take k places) (omega arith) in
    (seen, is ∙ ap (filled n blank) (sym seen))
