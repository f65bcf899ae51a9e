-- The candidates that the search has still to try, where it stands. Assumes nothing.
use Rattle.std.proofs.Common.{◌≡◌, ℕ, suc, ◌+◌, ◌-◌, ◌<◌, ◌≤◌, Bool, true, false, List, [], ◌∷◌, ◌++◌, map, length, get_or, take, drop, Some, None, sym, refl, ap, ◌∙◌, append_assoc, add-one, arith}
use Rattle.std.specs.List.{find, flat_map}
use Rattle.std.proofs.lemmas.List.{drop_more, drop_all}
use Rattle.std.proofs.lemmas.Bool.{cond-true, cond-false}
use Rattle.contracts.specs.declared.leg.Leg.{Leg}
use Rattle.catalogue.specs.Entries.{Entry}
use Rattle.catalogue.specs.Seatings.{numbers, seatings}
use Rattle.catalogue.specs.Search.{Candidate, candidate, directions, of_direction, of_entry, fitting, first_fit}
use Rattle.catalogue.specs.declared.direction.Direction.{Direction}
use Rattle.catalogue.specs.declared.direction.Direction.TheVariants.{Buy}

numbers_more : (a m : ℕ) → a < m → numbers a (m - a) ≡ a ∷ numbers (a + 1) (m - (a + 1))
numbers_more a m h =
    let e : m - a ≡ suc (m - (a + 1)) = omega arith in
    rw (e, add-one)

numbers_none : (a m : ℕ) → m ≤ a → numbers a (m - a) ≡ []
numbers_none a m h = let e : m - a ≡ 0 = omega arith in rw e

-- the direction at a place, from 0
abbrev pub facing : ℕ → Direction
facing d = get_or directions d Buy

-- from entry n on; from its direction at d on; from the seating at i on
unfoldable pub from_entry : ℕ → ℕ → ℕ → List Candidate
from_entry legs count n = flat_map (of_entry legs) (numbers n (count + 1 - n))

unfoldable pub from_direction : ℕ → ℕ → ℕ → ℕ → List Candidate
from_direction legs count n d = flat_map (of_direction legs n) (drop d directions) ++ from_entry legs count (n + 1)

unfoldable pub from_seating : ℕ → ℕ → ℕ → ℕ → ℕ → List Candidate
from_seating legs count n d i = map (candidate n (facing d)) (drop i (seatings legs)) ++ from_direction legs count n (d + 1)

-- the search goes on with xs: what they give is the answer
abbrev pub Goes : List Entry → List Leg → List Candidate → Type 0
Goes es ticket xs = find (fitting es ticket) xs ≡ first_fit es ticket

module _ (legs count : ℕ) where
  pub entry_begins : (n : ℕ) → n < count + 1 → from_direction legs count n 0 ≡ from_entry legs count n
  unfolding from_entry from_direction
  entry_begins n h = sym (ap (flat_map (of_entry legs)) (numbers_more n (count + 1) h))

  entries_end : (n : ℕ) → count + 1 ≤ n → from_entry legs count n ≡ []
  unfolding from_entry
  entries_end n h = ap (flat_map (of_entry legs)) (numbers_none n (count + 1) h)

  direction_begins : (n d : ℕ) → d < 2 → from_seating legs count n d 0 ≡ from_direction legs count n d
  unfolding from_direction from_seating
  direction_begins n d h =
      sym (append_assoc (of_direction legs n (facing d)) _ _)
      ∙ sym (ap (λ l. flat_map (of_direction legs n) l ++ from_entry legs count (n + 1)) (drop_more directions d Buy h))

  directions_end : (n d : ℕ) → 2 ≤ d → from_direction legs count n d ≡ from_entry legs count (n + 1)
  unfolding from_direction
  directions_end n d h = ap (λ l. flat_map (of_direction legs n) l ++ from_entry legs count (n + 1)) (drop_all d directions h)

  seating_begins : (n d i : ℕ) → i < length (seatings legs) → from_seating legs count n d i ≡ candidate n (facing d) (get_or (seatings legs) i []) ∷ from_seating legs count n d (i + 1)
  unfolding from_seating
  seating_begins n d i h = ap (λ l. map (candidate n (facing d)) l ++ from_direction legs count n (d + 1)) (drop_more (seatings legs) i [] h)

  seatings_end : (n d i : ℕ) → length (seatings legs) ≤ i → from_seating legs count n d i ≡ from_direction legs count n (d + 1)
  unfolding from_seating
  seatings_end n d i h = ap (λ l. map (candidate n (facing d)) l ++ from_direction legs count n (d + 1)) (drop_all i (seatings legs) h)

module _ (es : List Entry) (ticket : List Leg) where
  pub starts : Goes es ticket (from_entry (length ticket) (length es) 1)
  unfolding from_entry first_fit
  starts = let e : length es + 1 - 1 ≡ length es = omega arith in rw e refl

  goes_to : (xs ys : List Candidate) → ys ≡ xs → Goes es ticket xs → Goes es ticket ys
  goes_to xs ys e g = ap (find (fitting es ticket)) e ∙ g

  -- from one list of what is left to the next
  module _ (count n : ℕ) where
    pub to_first_direction : n < count + 1 → Goes es ticket (from_entry (length ticket) count n) → Goes es ticket (from_direction (length ticket) count n 0)
    to_first_direction h = goes_to _ _ (entry_begins (length ticket) count n h)

    pub to_first_seating : (d : ℕ) → d < 2 → Goes es ticket (from_direction (length ticket) count n d) → Goes es ticket (from_seating (length ticket) count n d 0)
    to_first_seating d h = goes_to _ _ (direction_begins (length ticket) count n d h)

    pub to_next_direction : (d i : ℕ) → length (seatings (length ticket)) ≤ i → Goes es ticket (from_seating (length ticket) count n d i) → Goes es ticket (from_direction (length ticket) count n (d + 1))
    to_next_direction d i h = goes_to _ _ (sym (seatings_end (length ticket) count n d i h))

    pub to_next_entry : (d : ℕ) → 2 ≤ d → Goes es ticket (from_direction (length ticket) count n d) → Goes es ticket (from_entry (length ticket) count (n + 1))
    to_next_entry d h = goes_to _ _ (sym (directions_end (length ticket) count n d h))

    pub none_left : count + 1 ≤ n → Goes es ticket (from_entry (length ticket) count n) → first_fit es ticket ≡ None
    none_left h g = sym (goes_to _ [] (sym (entries_end (length ticket) count n h)) g)

  -- one candidate is tried: in the direction at d, by the seating at i, which the code holds as `cells`
  module _
      (count n d i : ℕ) (within : i < length (seatings (length ticket))) (goes : Goes es ticket (from_seating (length ticket) count n d i))
      (face : Direction) (faced : face ≡ facing d) (cells : List ℕ) (short : take (length ticket) cells ≡ get_or (seatings (length ticket)) i [])
      (fits : Bool) (said : fits ≡ fitting es ticket (candidate n face (take (length ticket) cells))) where
    tried : fits ≡ fitting es ticket (candidate n (facing d) (get_or (seatings (length ticket)) i []))
    tried = said ∙ (λ j. fitting es ticket (candidate n (faced j) (short j)))

    head : Goes es ticket (candidate n (facing d) (get_or (seatings (length ticket)) i []) ∷ from_seating (length ticket) count n d (i + 1))
    head = goes_to (from_seating (length ticket) count n d i) _ (sym (seating_begins (length ticket) count n d i within)) goes

    pub hit : fits ≡ true → first_fit es ticket ≡ Some (candidate n face (get_or (seatings (length ticket)) i []))
    hit t =
        sym head
        ∙ cond-true (fitting es ticket (candidate n (facing d) (get_or (seatings (length ticket)) i []))) _ _ (sym tried ∙ t)
        ∙ ap (λ (e : Direction). Some (candidate n e (get_or (seatings (length ticket)) i []))) (sym faced)

    pub miss : fits ≡ false → Goes es ticket (from_seating (length ticket) count n d (i + 1))
    miss t = sym (cond-false (fitting es ticket (candidate n (facing d) (get_or (seatings (length ticket)) i []))) _ _ (sym tried ∙ t)) ∙ head
