-- What an analysis answers, from what the check and the search found. Assumes nothing.
use Rattle.std.proofs.Common.{◌≡◌, ℕ, ◌-◌, ◌<◌, ◌≤◌, List, length, get_or, Some, None, Ok, Err, Option, Result, sym, refl, ap, ◌∙◌, subst, inl, inr, ⊎_elim, arith}
use Rattle.std.proofs.ByRecursion.{All-get_or}
use Rattle.std.proofs.lemmas.List.{get_or-map}
use Rattle.contracts.specs.declared.leg.Leg.{Leg}
use Rattle.contracts.specs.declared.plain.PlainLeg.{PlainLeg}
use Rattle.tickets.specs.Lines.{leg_at}
use Rattle.tickets.specs.Refusals.{ticket_fault, leg_number}
use Rattle.tickets.specs.Refused.{Refused, Clear, Keeps, TicketOf, legs_of}
use Rattle.tickets.specs.declared.fault.Fault.{Fault}
use Rattle.tickets.specs.declared.refusal.TicketRefusal.{TicketRefusal}
use Rattle.tickets.specs.declared.refusal.TicketRefusal.TheVariants as refusal
use Rattle.tickets.specs.declared.ticket.Ticket.{Ticket}
use Rattle.tickets.proofs.Firsts.{low}
use Rattle.tickets.proofs.Sound.{two, four}
use Rattle.catalogue.specs.Analysis.{Places, Outcome, outcome, refused_with, told, analysis_of, ComesBack, Nameless, Analysed}
use Rattle.catalogue.specs.Entries.{Entry, numbered}
use Rattle.catalogue.specs.Fits.{FittedBy}
use Rattle.catalogue.specs.Refusals.{catalogue_fault}
use Rattle.catalogue.specs.Rows.{no_leg, faced, direction_number, leg_of, row}
use Rattle.catalogue.specs.Search.{Candidate, first_fit, Searched}
use Rattle.catalogue.specs.Seatings.{Permutation, Complete}
use Rattle.catalogue.specs.declared.direction.Direction.{Direction}
use Rattle.catalogue.specs.declared.refusal.CatalogueRefusal.TheVariants.{NoEntryFits}
use Rattle.catalogue.specs.declared.search.Fit.{Fit}
use Rattle.catalogue.proofs.Named.{unfitted, first_fit_named}
use Rattle.catalogue.proofs.Perms.{complete}
use Rattle.catalogue.specs.Same.{SameName}
use Rattle.catalogue.proofs.Same.{same_name, fitted}
use Rattle.catalogue.proofs.Turns.{faced_faced, turned_back}
use Rattle.catalogue.proofs.Unique.{same_legs, same_scale}

faced_back : (d : Direction) (x : Leg) → faced d (faced d x) ≡ x
faced_back d x = faced_faced d d x ∙ ap (λ (f : Direction). faced f x) (turned_back d)

-- no refusal of a ticket has the number 12
not_twelve : (e : TicketRefusal) → ticket_fault e ≡ catalogue_fault NoEntryFits → ⊥
not_twelve refusal.Minute h = let k = ap (λ (f : Fault). f.number) h in omega arith
not_twelve refusal.LegCount h = let k = ap (λ (f : Fault). f.number) h in omega arith
not_twelve (refusal.Leg line leg) h = let b = low line in let k : leg_number line ≡ 12 = ap (λ (f : Fault). f.number) h in omega arith

abbrev failed : Fault → Result (ℕ × ℕ × ℕ) Fault
failed f = Err f

module _ (es : List Entry) (minute : ℕ) (legs : List PlainLeg) (lent : Places) where
  -- refusal 12 is told exactly where no entry fits
  pub untyped_nameless : (r : Result (ℕ × ℕ × ℕ) Fault) (after : Places) → Analysed es minute legs lent r after → r ≡ Err (catalogue_fault NoEntryFits) → Nameless es minute legs
  untyped_nameless (Ok x) after h e = cc
  untyped_nameless (Err f) after h e =
      let same : f ≡ catalogue_fault NoEntryFits = cc in
      ⊎_elim (λ k. absurd (not_twelve k.0 (sym k.2 ∙ same))) (λ k. k.0) h.0

  pub nameless_untyped : (r : Result (ℕ × ℕ × ℕ) Fault) (after : Places) → Analysed es minute legs lent r after → Nameless es minute legs → r ≡ Err (catalogue_fault NoEntryFits)
  nameless_untyped (Ok x) after h n =
      let e = same_legs minute legs n.in_order h.ticket n.ticket h.of_legs n.of_legs in
      absurd (n.unfitted x.0 (subst (λ (l : List Leg). FittedBy es l x.0) e (fitted es (legs_of h.ticket) x.0 h.direction h.seating h.first)))
  nameless_untyped (Err f) after h n = ⊎_elim (λ k. absurd (n.in_order k.0 k.1.applies)) (λ k. ap failed k.1) h.0

  -- what follows from the outcome in the subject's words
  module _ (r : Result (ℕ × ℕ × ℕ) Fault) (after : Places) where
    pub record Clauses : Type 0 where
      pub refused : (e : TicketRefusal) → Refused minute legs e → outcome r after.type after.seating ≡ refused_with (ticket_fault e) lent
      pub answered : (t : Ticket) → Clear minute legs → TicketOf legs t → outcome r after.type after.seating ≡ analysis_of es t lent
      pub named : Analysed es minute legs lent r after
      pub untyped : (r ≡ Err (catalogue_fault NoEntryFits) → Nameless es minute legs) × (Nameless es minute legs → r ≡ Err (catalogue_fault NoEntryFits))
      pub same_strategy : SameName es minute legs r after

  clauses :
      (r : Result (ℕ × ℕ × ℕ) Fault) (after : Places) →
      ((e : TicketRefusal) → Refused minute legs e → outcome r after.type after.seating ≡ refused_with (ticket_fault e) lent) →
      ((t : Ticket) → Clear minute legs → TicketOf legs t → outcome r after.type after.seating ≡ analysis_of es t lent) →
      Analysed es minute legs lent r after →
      Clauses r after
  clauses r after refused answered named =
      record {
        refused = refused;
        answered = answered;
        named = named;
        untyped = (untyped_nameless r after named, nameless_untyped r after named);
        same_strategy = same_name es minute legs lent r after named;
      }

  -- the check refused
  pub refused_clauses : (r : Result (ℕ × ℕ × ℕ) Fault) (e : TicketRefusal) → r ≡ Err (ticket_fault e) → Refused minute legs e → ((f : TicketRefusal) → Refused minute legs f → e ≡ f) → Clauses r lent
  refused_clauses r e is h only =
      subst (λ (y : Result (ℕ × ℕ × ℕ) Fault). Clauses y lent) (sym is)
      (clauses (Err (ticket_fault e)) lent
      (λ f k. ap (λ (x : TicketRefusal). refused_with (ticket_fault x) lent) (only f k))
      (λ t clear of. absurd (clear e h.applies))
      (inl (e, h, refl), refl))

  module _ (t : Ticket) (clear : Clear minute legs) (of : TicketOf legs t) where
    two_legs : 2 ≤ length (legs_of t)
    two_legs = let p = two minute legs clear in let e = of.count in omega arith

    four_legs : length (legs_of t) ≤ 4
    four_legs = let p = four minute legs clear in let e = of.count in omega arith

    all_seatings : Complete (length (legs_of t))
    all_seatings = complete (length (legs_of t)) two_legs four_legs

    comes_back : (d : Direction) (s : List ℕ) → Permutation (length (legs_of t)) s → ComesBack legs t.scale d s (row d (legs_of t) s)
    comes_back d s p k none h =
        let e = of.count in
        let l = p.long in
        let within : k < length s = omega arith in
        let known = All-get_or (λ j. (1 ≤ j) × (j ≤ length (legs_of t))) s k 0 within p.legs in
        let low = known.0 in
        let high = known.1 in
        subst (Keeps t.scale (leg_at legs (get_or s k 0 - 1)))
        (sym (ap (faced d) (get_or-map (λ j. faced d (leg_of (legs_of t) j)) s k 0 none within) ∙ faced_back d (leg_of (legs_of t) (get_or s k 0))))
        (of.keeps (get_or s k 0 - 1) no_leg (omega arith))

    analysed : (o : Option Candidate) → first_fit es (legs_of t) ≡ o → Analysed es minute legs lent (told es t.scale lent o).answer (told es t.scale lent o).places
    analysed None h = (inr (record { ticket = t; in_order = clear; of_legs = of; unfitted = unfitted es (legs_of t) all_seatings h }, refl), refl)
    analysed (Some x) h =
        let f = first_fit_named es (legs_of t) all_seatings x h in
        record {
          ticket = t;
          in_order = clear;
          of_legs = of;
          direction = x.direction;
          seating = x.seating;
          first = f;
          direction_told = refl;
          scale_told = refl;
          type_told = refl;
          seating_told = refl;
          comes_back = comes_back x.direction x.seating f.seated;
        }

    same_analysis : (u : Ticket) → TicketOf legs u → analysis_of es t lent ≡ analysis_of es u lent
    same_analysis u of' = λ i. told es (same_scale minute legs clear t u of of' i) lent (first_fit es (same_legs minute legs clear t u of of' i))

    answered_clauses : (r : Result (ℕ × ℕ × ℕ) Fault) (after : Places) → outcome r after.type after.seating ≡ analysis_of es t lent → Clauses r after
    answered_clauses r after e =
        clauses r after
        (λ f k. absurd (clear f k.applies))
        (λ u clear' of'. e ∙ same_analysis u of')
        (subst (λ (o : Outcome). Analysed es minute legs lent o.answer o.places) (sym e) (analysed (first_fit es (legs_of t)) refl))

    -- the search found nothing
    pub none_clauses : (r : Result (ℕ × ℕ × ℕ) Fault) → r ≡ Err (catalogue_fault NoEntryFits) → first_fit es (legs_of t) ≡ None → Clauses r lent
    none_clauses r is h =
        answered_clauses r lent (ap (λ (y : Result (ℕ × ℕ × ℕ) Fault). outcome y lent.type lent.seating) is ∙ sym (ap (told es t.scale lent) h))

    -- the search found a fit
    module _ (fit : Fit) (searched : Searched es (legs_of t) (Ok fit)) where
      pub found-clauses :
          (answer : ℕ × ℕ × ℕ) (after : Places) →
          answer ≡ (fit.entry, direction_number fit.direction, t.scale) → after.type ≡ (numbered es fit.entry).type → after.seating ≡ fit.seating →
          Clauses (Ok answer) after
      found-clauses answer after told-so type seating =
          let padded-so = seating ∙ searched.2 in
          answered_clauses (Ok answer) after ((λ i. outcome (Ok (told-so i)) (type i) (padded-so i)) ∙ sym (ap (told es t.scale lent) searched.1))
