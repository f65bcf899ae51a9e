-- The row that a seating makes, role by role. Assumes nothing.
use Rattle.std.proofs.Common.{◌≡◌, ℕ, ◌+◌, ◌<◌, ◌≤◌, List, [], ◌∷◌, ◌++◌, length, get_or, take, set, sym, refl, ap, ◌∙◌, arith}
use Rattle.std.proofs.lemmas.List.{map_more, length-map, length-take-le, length_push, take_all}
use Rattle.std.proofs.ByRecursion.{All-get_or}
use Rattle.contracts.specs.declared.leg.Leg.{Leg}
use Rattle.tickets.specs.Filled.{blank_leg, filled}
use Rattle.tickets.proofs.Places.{set_next, take_filled}
use Rattle.catalogue.specs.Rows.{faced, leg_of, row}
use Rattle.catalogue.specs.Seatings.{Permutation}
use Rattle.catalogue.specs.declared.direction.Direction.{Direction}

-- the leg that a seating names for a role is one of the n
pub leg_named : (n : ℕ) (s : List ℕ) → Permutation n s → (i : ℕ) → i < length s → (1 ≤ get_or s i 0) × (get_or s i 0 ≤ n)
leg_named n s p i within = All-get_or (λ k. (1 ≤ k) × (k ≤ n)) s i 0 within p.legs

-- one role more
pub row_more :
    (d : Direction) (legs : List Leg) (s : List ℕ) (i : ℕ) (before after : List Leg) (leg : Leg) →
    i < 4 → i < length s → before ≡ row d legs (take i s) → leg ≡ faced d (leg_of legs (get_or s i 0)) → after ≡ take 4 (before ++ leg ∷ []) →
    after ≡ row d legs (take (i + 1) s)
row_more d legs s i before after leg room within so_far here is =
    let many : length before ≡ i = ap length so_far ∙ length-map (take i s) (λ k. faced d (leg_of legs k)) ∙ length-take-le i s (omega arith) in
    is
    ∙ take_all 4 (before ++ leg ∷ []) (omega (arith, length_push before leg))
    ∙ ap (λ l. l ++ leg ∷ []) so_far
    ∙ ap (λ y. row d legs (take i s) ++ y ∷ []) here
    ∙ sym (map_more (λ k. faced d (leg_of legs k)) s i 0 within)

-- one place more of a row whose other places are blank
pub seat_more :
    (d : Direction) (legs : List Leg) (s : List ℕ) (i : ℕ) (before after : List Leg) (leg : Leg) →
    i < 4 → i < length s → before ≡ filled 4 blank_leg (row d legs (take i s)) → leg ≡ faced d (leg_of legs (get_or s i 0)) → after ≡ set before i leg →
    after ≡ filled 4 blank_leg (row d legs (take (i + 1) s))
seat_more d legs s i before after leg room within so_far here is =
    let r = row d legs (take i s) in
    let many : length r ≡ i = length-map (take i s) (λ k. faced d (leg_of legs k)) ∙ length-take-le i s (omega arith) in
    is
    ∙ (λ j. set (so_far j) (sym many j) leg)
    ∙ set_next 4 blank_leg r leg (omega (arith, many))
    ∙ ap (filled 4 blank_leg) (sym (take_all 4 (r ++ leg ∷ []) (omega (arith, length_push r leg))) ∙ row_more d legs s i r (take 4 (r ++ leg ∷ [])) leg room within refl here refl)

-- each role of a ticket seated: the row's legs
pub seat_whole :
    (d : Direction) (legs : List Leg) (s : List ℕ) (i : ℕ) (places : List Leg) →
    length s ≡ length legs → length legs ≤ 4 → length s ≤ i → places ≡ filled 4 blank_leg (row d legs (take i s)) →
    take (length legs) places ≡ row d legs s
seat_whole d legs s i places long few done is =
    let r = row d legs s in
    let many : length r ≡ length legs = length-map s (λ k. faced d (leg_of legs k)) ∙ long in
    ap (take (length legs)) (is ∙ ap (λ l. filled 4 blank_leg (row d legs l)) (take_all i s done))
    ∙ ap (λ n. take n (filled 4 blank_leg r)) (sym many)
    ∙ take_filled 4 blank_leg r (omega (arith, many))
