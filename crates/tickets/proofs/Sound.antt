-- What holds of the legs where no refusal applies, and of the ticket that is made of them. Assumes nothing.
use Rattle.std.proofs.Common.{◌≡◌, ℕ, ◌+◌, ◌-◌, ◌*◌, ◌/◌, ◌<◌, ◌≤◌, List, [], ◌∷◌, ◌++◌, length, get_or, take, sym, refl, ap, ◌∙◌, subst, inl, inr, ⊎_elim, one-mul, arith}
use Prim.Native.Nat.{◌∣◌}
use native.Mathlib.Nat.{div-mul_cancel, dvd-zero, dvd_antisymm, dvd_of_mul-dvd-mul_right, mul-dvd-mul_right, eq-one_of_dvd-one}
use Rattle.std.proofs.lemmas.List.{get_or_append_left, get_or_push, length_push, take_all}
use Rattle.std.proofs.lemmas.Bool.{cases_lt, cases_eq}
use Rattle.contracts.specs.Plain.{plain_contract, ContractInRange}
use Rattle.contracts.specs.declared.leg.Leg.{Leg}
use Rattle.contracts.specs.declared.plain.PlainLeg.{PlainLeg}
use Rattle.tickets.specs.Filled.{blank_leg}
use Rattle.tickets.specs.Kept.{Different, Reduced}
use Rattle.tickets.specs.Lines.{Holds, leg_at}
use Rattle.tickets.specs.Refused.{Clear, Keeps}
use Rattle.tickets.specs.Scales.{Scale}
use Rattle.tickets.specs.declared.refusal.LegLine.{LegLine}
use Rattle.tickets.specs.declared.refusal.LegLine.TheVariants.{Range, Repeat, Core, LotOrTick}
use Rattle.tickets.specs.declared.refusal.TicketRefusal.TheVariants as refusal

-- the row has the first n legs, as they are kept
pub record Kept (s : ℕ) (legs : List PlainLeg) (row : List Leg) (n : ℕ) : Type 0 where
  pub many : length row ≡ n
  pub each : (k : ℕ) (d : Leg) → k < n → Keeps s (leg_at legs k) (get_or row k d)

pub none_kept : (s : ℕ) (legs : List PlainLeg) → Kept s legs [] 0
none_kept s legs = record { many = refl; each = λ k d h. absurd (omega arith) }

-- one leg more, where there is room for it
pub one_kept : (s : ℕ) (legs : List PlainLeg) (row after : List Leg) (n : ℕ) (l : Leg) → n < 4 → Kept s legs row n → Keeps s (leg_at legs n) l → after ≡ take 4 (row ++ l ∷ []) → Kept s legs after (n + 1)
one_kept s legs row after n l room before here is =
    let m = before.many in
    let e : after ≡ row ++ l ∷ [] = is ∙ take_all 4 (row ++ l ∷ []) (omega (arith, length_push row l)) in
    subst (λ (r : List Leg). Kept s legs r (n + 1)) (sym e)
    (record {
      many = omega (arith, length_push row l);
      each =
          λ k d h.
          ⊎_elim
          (λ (p : k < n). subst (Keeps s (leg_at legs k)) (sym (get_or_append_left row (l ∷ []) d k (omega arith))) (before.each k d p))
          (λ (p : n ≤ k).
          let q : k ≡ n = omega arith in
          subst (λ (j : ℕ). Keeps s (leg_at legs j) (get_or (row ++ l ∷ []) j d)) (sym q) (subst (Keeps s (leg_at legs n)) (sym (get_or_push row l d n m)) here))
          (cases_lt k n);
    })

-- two numbers that are not different are the same
level : (a b : ℕ) → ((a ≡ b → ⊥) → ⊥) → a ≡ b
level a b h = ⊎_elim (λ (e : a ≡ b). e) (λ (n : a ≡ b → ⊥). absurd (h n)) (cases_eq a b)

module _ (minute : ℕ) (legs : List PlainLeg) (clear : Clear minute legs) where
  pub two : 2 ≤ length legs
  two = ⊎_elim (λ (h : length legs < 2). absurd (clear refusal.LegCount (inl h))) (λ (h : 2 ≤ length legs). h) (cases_lt (length legs) 2)

  pub four : length legs ≤ 4
  four = ⊎_elim (λ (h : 4 < length legs). absurd (clear refusal.LegCount (inr h))) (λ (h : length legs ≤ 4). h) (cases_lt 4 (length legs))

  nowhere : (line : LegLine) (i : ℕ) → i < length legs → Holds line minute legs i → ⊥
  nowhere line i h p =
      let one : i ≡ i + 1 - 1 = omega arith in
      clear (refusal.Leg line (i + 1)) (omega arith, omega arith, subst (λ (k : ℕ). Holds line minute legs k) one p)

  pub in_range : (i : ℕ) → i < length legs → (ContractInRange (leg_at legs i).contract → ⊥) → ⊥
  in_range i h n = nowhere Range i h (λ r. n r.contract)

  lots_some : (i : ℕ) → i < length legs → 0 < (leg_at legs i).lots
  lots_some i h =
      ⊎_elim
      (λ (p : 0 < (leg_at legs i).lots). p)
      (λ (p : (leg_at legs i).lots ≤ 0). absurd (nowhere Range i h (λ r. let q = r.lots.0 in omega arith)))
      (cases_lt 0 (leg_at legs i).lots)

  pub one_core : (i : ℕ) → i < length legs → (leg_at legs i).reference.core ≡ (leg_at legs 0).reference.core
  one_core i h = level _ _ (nowhere Core i h)

  pub one_lot_size : (i : ℕ) → i < length legs → (leg_at legs i).reference.lot_size ≡ (leg_at legs 0).reference.lot_size
  one_lot_size i h = level _ _ (λ n. nowhere LotOrTick i h (λ p. n p.0))

  pub one_tick : (i : ℕ) → i < length legs → (leg_at legs i).reference.tick ≡ (leg_at legs 0).reference.tick
  one_tick i h = level _ _ (λ n. nowhere LotOrTick i h (λ p. n p.1))

  -- a scale is not 0, since 0 divides nothing but 0
  pub scale_some : (s : ℕ) → Scale legs s → 0 < s
  scale_some s scale =
      let some = two in
      let lots = lots_some 0 (omega arith) in
      ⊎_elim
      (λ (p : 0 < s). p)
      (λ (p : s ≤ 0).
      let z : s ≡ 0 = omega arith in
      let d : 0 ∣ (leg_at legs 0).lots = subst (λ (n : ℕ). n ∣ (leg_at legs 0).lots) z (scale.divides 0 (omega arith)) in
      let e : 0 ≡ (leg_at legs 0).lots = dvd_antisymm d (dvd-zero (leg_at legs 0).lots) in
      absurd (omega arith))
      (cases_lt 0 s)

  pub keeps : (s : ℕ) → Scale legs s → (i : ℕ) → i < length legs → (l : Leg) → plain_contract l.contract ≡ (leg_at legs i).contract → l.side ≡ (leg_at legs i).side → l.ratio ≡ (leg_at legs i).lots / s → Keeps s (leg_at legs i) l
  keeps s scale i h l p q r = record { contract = p; side = q; lots = ap (λ (n : ℕ). n * s) r ∙ div-mul_cancel s (scale.divides i h) }

  module _ (s : ℕ) (scale : Scale legs s) (xs : List Leg) (kept : Kept s legs xs (length legs)) where
    pub different : Different xs
    different i j d h =
        let p = h.0 in
        let q = h.1 in
        let m = kept.many in
        let a = (kept.each i d (omega arith)).contract in
        let b = (kept.each j d (omega arith)).contract in
        nowhere Repeat j (omega arith) (i, p, sym a ∙ ap plain_contract h.2 ∙ b)

    pub reduced : Reduced xs
    reduced k all =
        let m = kept.many in
        let lots : (i : ℕ) → i < length legs → k * s ∣ (leg_at legs i).lots =
        λ i h. subst (λ (n : ℕ). k * s ∣ n) (kept.each i blank_leg h).lots (mul-dvd-mul_right k (all i blank_leg (omega arith)) s) in
        let whole : k * s ∣ 1 * s = subst (λ (n : ℕ). k * s ∣ n) (sym (one-mul s)) (scale.greatest (k * s) lots) in
        eq-one_of_dvd-one (dvd_of_mul-dvd-mul_right k (scale_some s scale) whole)
