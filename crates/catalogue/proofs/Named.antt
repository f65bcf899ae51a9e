-- What the first fit means. Assumes nothing.
use Rattle.std.proofs.Common.{◌≡◌, ℕ, ◌<◌, ◌≤◌, Bool, false, eqb, List, [], ◌∷◌, ◌++◌, length, Some, None, Option, sym, refl, ap, ◌∙◌, subst, ⊎_elim, arith}
use Rattle.std.specs.List.{find, flat_map}
use Rattle.std.specs.Option.{option_or}
use Rattle.std.proofs.lemmas.List.Folds.{find-append}
use Rattle.std.proofs.lemmas.List.{get_or_past}
use Rattle.std.proofs.lemmas.Bool.{both_ways, and_right, cases_lt}
use Rattle.contracts.specs.declared.leg.Leg.{Leg}
use Rattle.catalogue.specs.Entries.{Entry, numbered, suits, no_entry}
use Rattle.catalogue.specs.Fits.{Fits, FittedBy, Unfitted, FirstFit}
use Rattle.catalogue.specs.Rows.{row}
use Rattle.catalogue.specs.Seatings.{seatings, Permutation, Complete}
use Rattle.catalogue.specs.Search.{Candidate, candidate, directions, of_direction, of_entry, fitting, first_fit}
use Rattle.catalogue.specs.declared.direction.Direction.{Direction}
use Rattle.catalogue.specs.declared.direction.Direction.TheVariants.{Buy, Sell}
use Rattle.catalogue.proofs.Firsts.{numbers_some, numbers_none, seats_some, seats_none}

-- the first over both directions
module _ {X : Type 0} (p : X → Bool) (f : Direction → List X) where
  pub record Faced (x : X) : Type 0 where
    pub at : Direction
    pub is : find p (f at) ≡ Some x
    pub none_before : at ≡ Sell → find p (f Buy) ≡ None

  parts : find p (flat_map f directions) ≡ option_or (find p (f Buy)) (option_or (find p (f Sell)) None)
  parts = find-append p (f Buy) (f Sell ++ []) ∙ ap (option_or (find p (f Buy))) (find-append p (f Sell) [])

  some_faced : (x : X) (b s : Option X) → find p (f Buy) ≡ b → find p (f Sell) ≡ s → option_or b (option_or s None) ≡ Some x → Faced x
  some_faced x (Some y) s hb hs e = record { at = Buy; is = hb ∙ e; none_before = λ z. cc }
  some_faced x None (Some y) hb hs e = record { at = Sell; is = hs ∙ e; none_before = λ z. hb }
  some_faced x None None hb hs e = cc

  pub directions_some : (x : X) → find p (flat_map f directions) ≡ Some x → Faced x
  directions_some x e = some_faced x (find p (f Buy)) (find p (f Sell)) refl refl (sym parts ∙ e)

  none_faced : (b s : Option X) → find p (f Buy) ≡ b → find p (f Sell) ≡ s → option_or b (option_or s None) ≡ None → (d : Direction) → find p (f d) ≡ None
  none_faced (Some y) s hb hs e d = cc
  none_faced None (Some y) hb hs e d = cc
  none_faced None None hb hs e Buy = hb
  none_faced None None hb hs e Sell = hs

  pub directions_none : find p (flat_map f directions) ≡ None → (d : Direction) → find p (f d) ≡ None
  directions_none e = none_faced (find p (f Buy)) (find p (f Sell)) refl refl (sym parts ∙ e)

module _ (es : List Entry) (legs : List Leg) where
  abbrev Never : ℕ → Direction → Type 0
  Never n d = (s : List ℕ) → Permutation (length legs) s → Fits es legs n d s → ⊥

  not_fitted : (n : ℕ) → ((d : Direction) → Never n d) → FittedBy es legs n → ⊥
  not_fitted n never f = never f.direction f.seating f.permutes f.fits

  -- what is no entry never fits
  never_no_entry : (n : ℕ) → numbered es n ≡ no_entry → (d : Direction) → Never n d
  never_no_entry n e d s p fits =
      both_ways (suits (numbered es n) (row d legs s)) (ap (λ x. suits x (row d legs s)) e ∙ and_right (eqb (length (row d legs s)) 0) false refl) fits

  never_zero : (n : ℕ) → n < 1 → (d : Direction) → Never n d
  never_zero n h = let z : n ≡ 0 = omega arith in never_no_entry n (ap (numbered es) z)

  never_beyond : (n : ℕ) → length es < n → (d : Direction) → Never n d
  never_beyond n h = never_no_entry n (get_or_past (no_entry ∷ es) n no_entry h)

  module _ (whole : Complete (length legs)) where
    never_seats : (n : ℕ) (d : Direction) → find (fitting es legs) (of_direction (length legs) n d) ≡ None → Never n d
    never_seats n d h s p fits = both_ways _ (seats_none (fitting es legs) (candidate n d) (seatings (length legs)) h s (whole.whole s p)) fits

    never_entry : (n : ℕ) → find (fitting es legs) (of_entry (length legs) n) ≡ None → (d : Direction) → Never n d
    never_entry n h d = never_seats n d (directions_none (fitting es legs) (of_direction (length legs) n) h d)

    pub unfitted : first_fit es legs ≡ None → Unfitted es legs
    unfolding first_fit
    unfitted h n =
        ⊎_elim (λ (z : n < 1). not_fitted n (never_zero n z))
        (λ (low : 1 ≤ n). ⊎_elim (λ (far : length es < n). not_fitted n (never_beyond n far))
        (λ (high : n ≤ length es). not_fitted n (never_entry n (numbers_none (fitting es legs) (of_entry (length legs)) (length es) 1 h n low (omega arith)))) (cases_lt (length es) n))
        (cases_lt n 1)

    pub first_fit_named : (x : Candidate) → first_fit es legs ≡ Some x → FirstFit es legs x.entry x.direction x.seating
    unfolding first_fit
    first_fit_named x h =
        let p = fitting es legs in
        let many = length legs in
        let n = numbers_some p (of_entry many) (length es) 1 x h in
        let d = directions_some p (of_direction many n.at) x n.is in
        let s = seats_some p (candidate n.at d.at) (seatings many) x whole.rising d.is in
        subst (λ (y : Candidate). FirstFit es legs y.entry y.direction y.seating) s.is
        (record {
          entry_low = n.low;
          entry_high = let k = n.high in omega arith;
          seated = whole.sound s.at s.among;
          fits = s.passes;
          no_entry_before = λ m lt. ⊎_elim (λ (z : m < 1). not_fitted m (never_zero m z)) (λ (low : 1 ≤ m). not_fitted m (never_entry m (n.none_before m low lt))) (cases_lt m 1);
          no_direction_before = λ z perm sell fits. never_seats n.at Buy (d.none_before sell) z perm fits;
          no_seating_before = λ z perm b fits. both_ways _ (s.none_before z (whole.whole z perm) b) fits;
        })
