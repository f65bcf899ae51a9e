-- An entry of another number of roles has no fit, so the search may pass it over. Assumes nothing.
use Rattle.std.proofs.Common.{◌≡◌, ℕ, ◌+◌, ◌<◌, ◌≤◌, Bool, false, eqb, List, [], ◌∷◌, length, None, sym, refl, ap, ◌∙◌}
use Rattle.std.specs.List.{AllByRecursion, find}
use Rattle.std.specs.Option.{option_or}
use Rattle.std.proofs.lemmas.List.Folds.{find-append}
use Rattle.std.proofs.lemmas.List.{length-map}
use Rattle.std.proofs.ByRecursion.{All-append, All-map, All-weaker}
use Rattle.std.proofs.lemmas.Bool.{cond-false, and_left, ne_eqb}
use Rattle.contracts.specs.declared.leg.Leg.{Leg}
use Rattle.catalogue.specs.Entries.{Entry, numbered}
use Rattle.catalogue.specs.Rows.{row, faced, leg_of}
use Rattle.catalogue.specs.Seatings.{seatings}
use Rattle.catalogue.specs.Search.{candidate, of_direction, of_entry, fitting}
use Rattle.catalogue.specs.declared.direction.Direction.{Direction}
use Rattle.catalogue.specs.declared.direction.Direction.TheVariants.{Buy, Sell}
use Rattle.catalogue.proofs.Seats.{Good, all_seated}
use Rattle.catalogue.proofs.Rest.{Goes, from_entry, from_direction, entry_begins}

first_none : {X : Type 0} (p : X → Bool) (xs : List X) → AllByRecursion (λ x. p x ≡ false) xs → find p xs ≡ None
first_none p [] a = refl
first_none p (x ∷ xs) a = cond-false (p x) _ _ a.0 ∙ first_none p xs a.1

module _ (es : List Entry) (ticket : List Leg) (n : ℕ) (low : 2 ≤ length ticket) (high : length ticket ≤ 4) (ne : (numbered es n).roles ≡ length ticket → ⊥) where
  unfit : (d : Direction) (s : List ℕ) → Good (length ticket) s → fitting es ticket (candidate n d s) ≡ false
  unfit d s g =
      let e : length (row d ticket s) ≡ length ticket = length-map s (λ k. faced d (leg_of ticket k)) ∙ g.1.long in
      and_left (eqb (length (row d ticket s)) (numbered es n).roles) _ (ne_eqb (length (row d ticket s)) (numbered es n).roles (λ h. ne (sym h ∙ e)))

  one_direction : (d : Direction) → AllByRecursion (λ x. fitting es ticket x ≡ false) (of_direction (length ticket) n d)
  one_direction d = All-map (λ x. fitting es ticket x ≡ false) (candidate n d) (seatings (length ticket)) (All-weaker (Good (length ticket)) (λ s. fitting es ticket (candidate n d s) ≡ false) (unfit d) (seatings (length ticket)) (all_seated (length ticket) low high))

  none_here : find (fitting es ticket) (of_entry (length ticket) n) ≡ None
  none_here =
      first_none (fitting es ticket) (of_entry (length ticket) n)
      (All-append (λ x. fitting es ticket x ≡ false) (of_direction (length ticket) n Buy) _ (one_direction Buy) (All-append (λ x. fitting es ticket x ≡ false) (of_direction (length ticket) n Sell) [] (one_direction Sell) tt))

  pub passed_over : (count : ℕ) → n < count + 1 → Goes es ticket (from_entry (length ticket) count n) → Goes es ticket (from_entry (length ticket) count (n + 1))
  unfolding from_direction
  passed_over count h goes =
      sym (find-append (fitting es ticket) (of_entry (length ticket) n) (from_entry (length ticket) count (n + 1)) ∙ ap (λ o. option_or o (find (fitting es ticket) (from_entry (length ticket) count (n + 1)))) none_here)
      ∙ ap (find (fitting es ticket)) (entry_begins (length ticket) count n h) ∙ goes
