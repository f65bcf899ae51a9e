-- Tickets of the same strategy are fitted by the same entries, and bear the same name. Assumes nothing.
use Rattle.std.proofs.Common.{◌≡◌, ℕ, ◌+◌, ◌-◌, ◌<◌, ◌≤◌, List, length, get_or, Ok, Err, Result, sym, ap, ◌∙◌, subst, ⊎_elim, arith}
use Rattle.std.proofs.lemmas.List.{same_lists, get_or-map, get_or_default}
use Rattle.std.proofs.lemmas.Bool.{cases_order}
use Rattle.contracts.specs.declared.leg.Leg.{Leg}
use Rattle.contracts.specs.declared.plain.PlainLeg.{PlainLeg}
use Rattle.tickets.specs.Refused.{Clear, TicketOf, legs_of}
use Rattle.tickets.specs.declared.fault.Fault.{Fault}
use Rattle.tickets.specs.declared.ticket.Ticket.{Ticket}
use Rattle.tickets.proofs.Sound.{two, four}
use Rattle.catalogue.specs.Analysis.{Places, Analysed}
use Rattle.catalogue.specs.Entries.{Entry, numbered, suits}
use Rattle.catalogue.specs.Fits.{FittedBy, Unfitted, FirstFit}
use Rattle.catalogue.specs.Refusals.{catalogue_fault}
use Rattle.catalogue.specs.Rows.{no_leg, faced, leg_of, row}
use Rattle.catalogue.specs.Same.{Agree, SameStrategy, name_of, FittedAlike, SameName}
use Rattle.catalogue.specs.Seatings.{Permutation}
use Rattle.catalogue.specs.declared.direction.Direction.{Direction}
use Rattle.catalogue.specs.declared.direction.Direction.TheVariants.{Buy, Sell}
use Rattle.catalogue.specs.declared.refusal.CatalogueRefusal.TheVariants.{NoEntryFits}
use Rattle.catalogue.specs.declared.strategy.StrategyType.{StrategyType}
use Rattle.catalogue.proofs.Turns.{then, then_permutes, both_turns, turned_back, row_row, row_length, row_itself, back, back_of}
use Rattle.catalogue.proofs.Unique.{same_leg, same_legs}

-- u has the legs of t in another order, each as it was or each turned
pub record Alike (t u : List Leg) : Type 0 where
  pub order : List ℕ
  pub facing : Direction
  pub permutes : Permutation (length t) order
  pub is : u ≡ row facing t order

agree_faced : (f : Direction) (x y : Leg) → Agree f x y → y ≡ faced f x
agree_faced Buy x y a = same_leg y x (sym a.instrument) a.side (sym a.ratio)
agree_faced Sell x y a = same_leg y (faced Sell x) (sym a.instrument) a.side (sym a.ratio)

pub alike : (t u : List Leg) → SameStrategy t u → Alike t u
alike t u s =
    let long = s.one_to_one.long in
    let many = s.as_many in
    record {
      order = s.matching;
      facing = s.facing;
      permutes = s.one_to_one;
      is =
          same_lists u (row s.facing t s.matching) (many ∙ sym (row_length t s.matching s.facing s.one_to_one))
          (λ k d h.
          let one : k ≡ k + 1 - 1 = omega arith in
          get_or_default u k d no_leg h
          ∙ ap (λ (j : ℕ). get_or u j no_leg) one
          ∙ agree_faced s.facing (leg_of t (get_or s.matching k 0)) (leg_of u (k + 1)) (s.agree k (omega arith))
          ∙ sym (get_or-map (λ j. faced s.facing (leg_of t j)) s.matching k 0 d (omega arith)));
    }

pub alike_length : (t u : List Leg) → Alike t u → length u ≡ length t
alike_length t u a = ap length a.is ∙ row_length t a.order a.facing a.permutes

pub alike_sym : (t u : List Leg) → 2 ≤ length t → length t ≤ 4 → Alike t u → Alike u t
alike_sym t u low high a =
    let b = back_of (length t) a.order low high a.permutes in
    record {
      order = back (length t) a.order;
      facing = a.facing;
      permutes = subst (λ (n : ℕ). Permutation n (back (length t) a.order)) (sym (alike_length t u a)) b.permutes;
      is =
          sym (ap (λ v. row a.facing v (back (length t) a.order)) a.is
          ∙ row_row t a.order (back (length t) a.order) a.facing a.facing a.permutes b.permutes
          ∙ ap (λ d. row d t (then a.order (back (length t) a.order))) (turned_back a.facing)
          ∙ ap (row Buy t) b.undoes
          ∙ row_itself t high);
    }

abbrev named_so : ℕ → StrategyType → Result (ℕ × StrategyType) Fault
named_so n type = Ok (n, type)

abbrev refused_so : Fault → Result (ℕ × StrategyType) Fault
refused_so f = Err f

module _ (es : List Entry) where
  pub moved : (t u : List Leg) (n : ℕ) → Alike t u → FittedBy es u n → FittedBy es t n
  moved t u n a f =
      let ps : Permutation (length t) f.seating = subst (λ (m : ℕ). Permutation m f.seating) (alike_length t u a) f.permutes in
      record {
        direction = both_turns f.direction a.facing;
        seating = then a.order f.seating;
        permutes = then_permutes (length t) a.order a.permutes f.seating ps;
        fits =
            ap (suits (numbered es n)) (sym (ap (λ v. row f.direction v f.seating) a.is ∙ row_row t a.order f.seating f.direction a.facing a.permutes ps))
            ∙ f.fits;
      }

  pub fitted_alike : (t u : List Leg) → 2 ≤ length t → length t ≤ 4 → SameStrategy t u → FittedAlike es t u
  fitted_alike t u low high s n = (moved u t n (alike_sym t u low high (alike t u s)), moved t u n (alike t u s))

  pub fitted : (t : List Leg) (n : ℕ) (d : Direction) (s : List ℕ) → FirstFit es t n d s → FittedBy es t n
  fitted t n d s h = record { direction = d; seating = s; permutes = h.seated; fits = h.fits }

  -- what an answer says of the legs of its ticket
  abbrev Known : List Leg → Result (ℕ × ℕ × ℕ) Fault → Places → Type 0
  Known t (Ok x) after = ((d : Direction) × (s : List ℕ) × FirstFit es t x.0 d s) × (after.type ≡ (numbered es x.0).type)
  Known t (Err f) after = Unfitted es t × (f ≡ catalogue_fault NoEntryFits)

  module _ (minute : ℕ) (legs : List PlainLeg) (lent : Places) (clear : Clear minute legs) (t : Ticket) (of : TicketOf legs t) where
    known : (r : Result (ℕ × ℕ × ℕ) Fault) (after : Places) → Analysed es minute legs lent r after → Known (legs_of t) r after
    known (Ok x) after h = (
      (
        h.direction,
        h.seating,
        subst (λ (l : List Leg). FirstFit es l x.0 h.direction h.seating) (same_legs minute legs clear h.ticket t h.of_legs of) h.first,
      ),
      h.type_told,
    )
    known (Err f) after h =
        ⊎_elim
        (λ k. absurd (clear k.0 k.1.applies))
        (λ k. (subst (Unfitted es) (same_legs minute legs clear k.0.ticket t k.0.of_legs of) k.0.unfitted, k.1))
        h.0

  module _ (t u : List Leg) (same : FittedAlike es t u) where
    same_entry : (n m : ℕ) (d e : Direction) (s z : List ℕ) → FirstFit es t n d s → FirstFit es u m e z → n ≡ m
    same_entry n m d e s z p q =
        ⊎_elim (λ (h : n ≡ m). h)
        (⊎_elim
        (λ (lt : n < m). absurd (q.no_entry_before n lt ((same n).0 (fitted t n d s p))))
        (λ (lt : m < n). absurd (p.no_entry_before m lt ((same m).1 (fitted u m e z q)))))
        (cases_order n m)

    same_names : (r q : Result (ℕ × ℕ × ℕ) Fault) (after other : Places) → Known t r after → Known u q other → name_of r after ≡ name_of q other
    same_names (Ok x) (Ok y) after other h k =
        let n = same_entry x.0 y.0 h.0.0 k.0.0 h.0.1 k.0.1 h.0.2 k.0.2 in
        let type = h.1 ∙ ap (λ (m : ℕ). (numbered es m).type) n ∙ sym k.1 in
        λ i. named_so (n i) (type i)
    same_names (Ok x) (Err f) after other h k = absurd (k.0 x.0 ((same x.0).0 (fitted t x.0 h.0.0 h.0.1 h.0.2)))
    same_names (Err f) (Ok y) after other h k = absurd (h.0 y.0 ((same y.0).1 (fitted u y.0 k.0.0 k.0.1 k.0.2)))
    same_names (Err f) (Err g) after other h k = ap refused_so (h.1 ∙ sym k.1)

  pub same_name : (minute : ℕ) (legs : List PlainLeg) (lent : Places) (r : Result (ℕ × ℕ × ℕ) Fault) (after : Places) → Analysed es minute legs lent r after → SameName es minute legs r after
  same_name minute legs lent r after h minute' legs' lent' after' answer' t u clear of clear' of' strategy h' =
      let e = of.count in
      let p = two minute legs clear in
      let q = four minute legs clear in
      let same = fitted_alike (legs_of t) (legs_of u) (omega arith) (omega arith) strategy in (
        same,
        same_names (legs_of t) (legs_of u) same r answer' after after' (known minute legs lent clear t of r after h) (known minute' legs' lent' clear' u of' answer' after' h'),
      )
