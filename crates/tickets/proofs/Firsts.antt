-- The refusals in their order: one line after another is clear, or the first that applies is told. Assumes nothing.
use Rattle.std.proofs.Common.{◌≡◌, ℕ, zero, suc, ◌+◌, ◌-◌, ◌<◌, ◌≤◌, cond, eqb, List, [], ◌∷◌, length, get_or, sym, refl, ap, ◌∙◌, subst, inl, inr, ⊎_elim, arith}
use Rattle.std.proofs.lemmas.Bool.{cases_lt}
use Rattle.contracts.specs.declared.plain.PlainLeg.{PlainLeg}
use Rattle.tickets.specs.Lines.{Holds, Nowhere, First}
use Rattle.tickets.specs.Refusals.{leg_number}
use Rattle.tickets.specs.Refused.{Applies, NoLater, Refused, Clear}
use Rattle.tickets.specs.declared.refusal.LegLine.{LegLine}
use Rattle.tickets.specs.declared.refusal.LegLine.TheVariants.{Range, Repeat, Core, LotOrTick, Halted, Late}
use Rattle.tickets.specs.declared.refusal.TicketRefusal.{TicketRefusal}
use Rattle.tickets.specs.declared.refusal.TicketRefusal.TheVariants.{Minute, LegCount, Leg}

-- a line from its number
abbrev line_of : ℕ → LegLine
line_of n = cond (eqb n 6) Range (cond (eqb n 7) Repeat (cond (eqb n 8) Core (cond (eqb n 9) LotOrTick (cond (eqb n 10) Halted Late))))

back : (l : LegLine) → line_of (leg_number l) ≡ l
back Range = refl
back Repeat = refl
back Core = refl
back LotOrTick = refl
back Halted = refl
back Late = refl

pub low : (l : LegLine) → (6 ≤ leg_number l) × (leg_number l ≤ 11)
low Range = (omega arith, omega arith)
low Repeat = (omega arith, omega arith)
low Core = (omega arith, omega arith)
low LotOrTick = (omega arith, omega arith)
low Halted = (omega arith, omega arith)
low Late = (omega arith, omega arith)

-- in the order of the list the lines have the numbers from 6 on
abbrev pub in_order : List LegLine
in_order = Range ∷ Repeat ∷ Core ∷ LotOrTick ∷ Halted ∷ Late ∷ []

pub number_in_order : (i : ℕ) (d : LegLine) → i < 6 → leg_number (get_or in_order i d) ≡ 6 + i
number_in_order zero d h = refl
number_in_order (suc zero) d h = refl
number_in_order (suc (suc zero)) d h = refl
number_in_order (suc (suc (suc zero))) d h = refl
number_in_order (suc (suc (suc (suc zero)))) d h = refl
number_in_order (suc (suc (suc (suc (suc zero))))) d h = refl
number_in_order (suc (suc (suc (suc (suc (suc i)))))) d h = absurd (omega arith)

same_line : (l k : LegLine) → leg_number l ≡ leg_number k → l ≡ k
same_line l k e = sym (back l) ∙ ap line_of e ∙ back k

module _ (minute : ℕ) (legs : List PlainLeg) where
  -- every line of a number below n is true of no leg
  abbrev pub Upto : ℕ → Type 0
  Upto n = (l : LegLine) → leg_number l < n → Nowhere l minute legs

  pub upto_none : Upto 6
  upto_none l h = let b = low l in absurd (omega arith)

  pub upto_more : (line : LegLine) → Upto (leg_number line) → Nowhere line minute legs → Upto (suc (leg_number line))
  upto_more line u none l h =
      ⊎_elim
      (λ (p : leg_number l < leg_number line). u l p)
      (λ (p : leg_number line ≤ leg_number l). subst (λ (k : LegLine). Nowhere k minute legs) (same_line line l (omega arith)) none)
      (cases_lt (leg_number l) (leg_number line))

  pub clear : minute ≤ 1439 → 2 ≤ length legs → length legs ≤ 4 → Upto 12 → Clear minute legs
  clear m p q u Minute a = omega arith
  clear m p q u LegCount (inl a) = omega arith
  clear m p q u LegCount (inr a) = omega arith
  clear m p q u (Leg line leg) a = let b = low line in let c = a.0 in let d = a.1 in u line (omega arith) (leg - 1) (omega arith) a.2

  module _ (m : minute ≤ 1439) (p : 2 ≤ length legs) (q : length legs ≤ 4) (line : LegLine) (u : Upto (leg_number line)) where
    first_leg : (i : ℕ) → ((k : ℕ) → k < i → Holds line minute legs k → ⊥) → (f : TicketRefusal) → Applies minute legs f → NoLater (Leg line (i + 1)) f
    first_leg i none Minute a = absurd (omega arith)
    first_leg i none LegCount (inl a) = absurd (omega arith)
    first_leg i none LegCount (inr a) = absurd (omega arith)
    first_leg i none (Leg l leg) a =
        let low-leg = a.0 in
        let high-leg = a.1 in
        ⊎_elim
        (λ (h : leg_number l < leg_number line). absurd (u l h (leg - 1) (omega arith) a.2))
        (λ (h : leg_number line ≤ leg_number l).
        ⊎_elim
        (λ (b : leg_number line < leg_number l). inl b)
        (λ (b : leg_number l ≤ leg_number line).
        let e : leg_number l ≡ leg_number line = omega arith in
        inr (
          sym e,
          ⊎_elim
              (λ (s : leg - 1 < i). absurd (none (leg - 1) s (subst (λ (k : LegLine). Holds k minute legs (leg - 1)) (same_line l line e) a.2)))
              (λ (s : i ≤ leg - 1). omega arith)
              (cases_lt (leg - 1) i),
        ))
        (cases_lt (leg_number line) (leg_number l)))
        (cases_lt (leg_number l) (leg_number line))

    pub told : (e : TicketRefusal) → First line minute legs e → Refused minute legs e
    told e h =
        let i = h.at in
        let w = h.within in
        let one : i ≡ i + 1 - 1 = omega arith in
        subst (Refused minute legs) (sym h.told)
        (record {
          applies = (omega arith, omega arith, subst (λ (k : ℕ). Holds line minute legs k) one h.true_there);
          first = first_leg i h.not_before;
        })

  -- one line after another, in their order
  pub upto_next : (i : ℕ) (d : LegLine) → i < 6 → Upto (6 + i) → Nowhere (get_or in_order i d) minute legs → Upto (6 + (i + 1))
  upto_next i d h u none =
      let e = number_in_order i d h in
      λ l p. upto_more (get_or in_order i d) (subst Upto (sym e) u) none l (omega (arith, e))

  pub told_next : minute ≤ 1439 → 2 ≤ length legs → length legs ≤ 4 → (i : ℕ) (d : LegLine) → i < 6 → Upto (6 + i) → (e : TicketRefusal) → First (get_or in_order i d) minute legs e → Refused minute legs e
  told_next m p q i d h u e = told m p q (get_or in_order i d) (subst Upto (sym (number_in_order i d h)) u) e
