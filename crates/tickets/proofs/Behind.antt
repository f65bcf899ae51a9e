-- A leg that stands behind earlier ones, and what is true of it there. Assumes nothing.
use Rattle.std.proofs.Common.{◌≡◌, ℕ, ◌<◌, Bool, true, false, List, [], ◌∷◌, ◌++◌, length, get_or, Decides, MatchBool, sym, refl, ap, ◌∙◌, arith}
use Rattle.std.specs.List.{HoldsAt, AllWithin}
use Rattle.std.proofs.Math.Seq.{get_or-append_seam}
use Rattle.std.proofs.lemmas.List.{get_or_append_left}
use Rattle.std.proofs.lemmas.Bool.{false≢true}
use Rattle.contracts.specs.declared.plain.PlainLeg.{PlainLeg}
use Rattle.tickets.specs.Lines.{Repeats, leg_at, no_leg}

module _ (earlier : List PlainLeg) (leg : PlainLeg) where
  pub own_place : leg_at (earlier ++ leg ∷ []) (length earlier) ≡ leg
  own_place = get_or-append_seam earlier leg [] no_leg

  pub earlier_place : (i : ℕ) → i < length earlier → leg_at (earlier ++ leg ∷ []) i ≡ leg_at earlier i
  earlier_place i h = get_or_append_left earlier (leg ∷ []) no_leg i h

  own_contract : (leg_at (earlier ++ leg ∷ []) (length earlier)).contract ≡ leg.contract
  own_contract = ap (λ (l : PlainLeg). l.contract) own_place

  earlier_contract : (i : ℕ) → i < length earlier → (leg_at (earlier ++ leg ∷ []) i).contract ≡ (leg_at earlier i).contract
  earlier_contract i h = ap (λ (l : PlainLeg). l.contract) (earlier_place i h)

  pub repeats_found : (r : Bool) → MatchBool r ((k : ℕ) × (k < length earlier) × HoldsAt (λ x. x.contract ≡ leg.contract) earlier k) (AllWithin (λ x. x.contract ≡ leg.contract → ⊥) earlier 0 (length earlier)) → Decides r (Repeats (earlier ++ leg ∷ []) (length earlier))
  repeats_found true h = (λ _. (h.0, h.1, earlier_contract h.0 h.1 ∙ h.2 no_leg ∙ sym own_contract), λ _. refl)
  repeats_found false none = (λ e. absurd (false≢true e), λ h. absurd (none h.0 no_leg (omega arith) h.1 (sym (earlier_contract h.0 h.1) ∙ h.2 ∙ own_contract)))

pub first_place : (earlier : List PlainLeg) (leg : PlainLeg) → leg_at (earlier ++ leg ∷ []) 0 ≡ get_or earlier 0 leg
first_place [] leg = refl
first_place (x ∷ earlier) leg = refl
