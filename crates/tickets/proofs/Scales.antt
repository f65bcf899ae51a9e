-- The scale of legs, and of one leg more. Assumes nothing.
use Rattle.std.proofs.Common.{◌≡◌, ℕ, ◌<◌, ◌≤◌, List, [], ◌∷◌, ◌++◌, length, sym, subst, ⊎_elim, arith, length-append}
use Rattle.std.specs.Int.{◌∣◌, IsGcd}
use Rattle.std.proofs.lemmas.Bool.{cases_lt}
use Rattle.std.proofs.lemmas.Nat.Gcd.{dvd-zero, dvd_trans}
use Rattle.contracts.specs.declared.plain.PlainLeg.{PlainLeg}
use Rattle.tickets.specs.Lines.{leg_at}
use Rattle.tickets.specs.Scales.{Scale}
use Rattle.tickets.proofs.Behind.{own_place, earlier_place}

pub scale_none : Scale [] 0
scale_none = record { divides = λ i h. absurd (omega arith); greatest = λ k all. dvd-zero k }

module _ (legs : List PlainLeg) (leg : PlainLeg) (a g : ℕ) (before : Scale legs a) (step : IsGcd a leg.lots g) where
  divides : (i : ℕ) → i < length (legs ++ leg ∷ []) → g ∣ (leg_at (legs ++ leg ∷ []) i).lots
  divides i h =
      ⊎_elim
      (λ (p : i < length legs). subst (λ (l : PlainLeg). g ∣ l.lots) (sym (earlier_place legs leg i p)) (dvd_trans g step.0 (before.divides i p)))
      (λ (p : length legs ≤ i).
      let e : i ≡ length legs = omega (arith, length-append legs (leg ∷ [])) in
      subst (λ (n : ℕ). g ∣ (leg_at (legs ++ leg ∷ []) n).lots) (sym e) (subst (λ (l : PlainLeg). g ∣ l.lots) (sym (own_place legs leg)) step.1))
      (cases_lt i (length legs))

  pub scale_more : Scale (legs ++ leg ∷ []) g
  scale_more =
      record {
        divides = divides;
        greatest =
            λ k common.
            step.2 k
            (before.greatest k (λ i h. subst (λ (l : PlainLeg). k ∣ l.lots) (earlier_place legs leg i h) (common i (omega (arith, length-append legs (leg ∷ []))))))
            (subst (λ (l : PlainLeg). k ∣ l.lots) (own_place legs leg) (common (length legs) (omega (arith, length-append legs (leg ∷ [])))));
      }
