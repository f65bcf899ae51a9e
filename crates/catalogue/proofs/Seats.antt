-- The seatings of 2 to 4 legs. Assumes nothing.
use Rattle.std.proofs.Common.{◌≡◌, ℕ, zero, suc, ◌<◌, ◌≤◌, Bool, true, ◌&&◌, leb, List, [], map, length, get_or, take, refl, ap, ◌∙◌, arith}
use Rattle.std.specs.List.{AllByRecursion, list_all}
use Rattle.std.proofs.lemmas.List.{get_or-map, length-map}
use Rattle.std.proofs.ByRecursion.{All-get_or}
use Rattle.std.proofs.lemmas.Bool.{and_parts, and_from, cond-true, le-leb}
use Rattle.contracts.specs.declared.leg.Leg.{Leg}
use Rattle.tickets.specs.Refused.{legs_of}
use Rattle.tickets.specs.declared.ticket.Ticket.{Ticket}
use Rattle.catalogue.specs.Seatings.{seatings, seating_table, padded, Permutation, unpadded, Seats}
use Rattle.catalogue.proofs.Checks.{all_every, same, same_true, permutes, permutes_true}

-- what holds of 2, 3 and 4 holds of each ticket's length
pub by_legs : (P : ℕ → Type 0) → P 2 → P 3 → P 4 → (n : ℕ) → 2 ≤ n → n ≤ 4 → P n
by_legs P two three four zero low high = absurd (omega arith)
by_legs P two three four (suc zero) low high = absurd (omega arith)
by_legs P two three four (suc (suc zero)) low high = two
by_legs P two three four (suc (suc (suc zero))) low high = three
by_legs P two three four (suc (suc (suc (suc zero)))) low high = four
by_legs P two three four (suc (suc (suc (suc (suc n))))) low high = absurd (omega arith)

abbrev pub Good : ℕ → List ℕ → Type 0
Good n s = (take n (padded s) ≡ s) × Permutation n s

good : ℕ → List ℕ → Bool
good n s = same (take n (padded s)) s && permutes n s

good_true : (n : ℕ) (s : List ℕ) → good n s ≡ true → Good n s
unfolding good
good_true n s t = let h = and_parts (same (take n (padded s)) s) (permutes n s) t in (same_true (take n (padded s)) s h.0, permutes_true n s h.1)

all_good : (n : ℕ) → 2 ≤ n → n ≤ 4 → list_all (good n) (seatings n) ≡ true
unfolding seatings good
all_good = by_legs (λ n. list_all (good n) (seatings n) ≡ true) refl refl refl

pub all_seated : (n : ℕ) → 2 ≤ n → n ≤ 4 → AllByRecursion (Good n) (seatings n)
all_seated n low high = all_every (good n) (Good n) (good_true n) (seatings n) (all_good n low high)

-- of the seating at a place of the code's table, where the table is that of a ticket's legs
module _ (t : Ticket) (legs : List Leg) (same-legs : legs ≡ legs_of t) (table : List (List ℕ)) (is : table ≡ seating_table (length legs)) where
  pub all_padded : table ≡ map padded (seatings (length (legs_of t)))
  all_padded =
      let n = length (legs_of t) in
      is
      ∙ ap (λ (l : List Leg). seating_table (length l)) same-legs
      ∙ cond-true (leb 2 n && leb n 4) (map padded (seatings n)) [] (and_from (leb 2 n) (leb n 4) (le-leb 2 n t.two) (le-leb n 4 t.four))

  pub table_length : length table ≡ length (seatings (length (legs_of t)))
  table_length = ap length all_padded ∙ length-map (seatings (length (legs_of t))) padded

  module _ (i : ℕ) (within : i < length (seatings (length (legs_of t)))) where
    good_place : Good (length (legs_of t)) (get_or (seatings (length (legs_of t))) i [])
    good_place = All-get_or (Good (length (legs_of t))) (seatings (length (legs_of t))) i [] within (all_seated (length (legs_of t)) t.two t.four)

    pub place_padded : get_or table i [] ≡ padded (get_or (seatings (length (legs_of t))) i [])
    place_padded = rw all_padded (get_or-map padded (seatings (length (legs_of t))) i [] [] within)

    pub place_short : unpadded t (get_or table i []) ≡ get_or (seatings (length (legs_of t))) i []
    place_short = rw place_padded good_place.0

    pub place_seats : Seats t (get_or table i [])
    place_seats = rw place_short good_place.1
