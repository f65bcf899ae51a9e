-- A leg is read just where it is spelled. Assumes nothing.
use Rattle.std.proofs.Common.{◌≡◌, ℕ, cond, eqb, List, [], ◌∷◌, ◌++◌, length, Ok, Err, codes, sym, refl, ap, ◌∙◌, subst, inl, inr, append_assoc, append-nil}
use Rattle.std.proofs.lemmas.List.{nil_from_length}
use Rattle.std.proofs.lemmas.Bool.{eqb-true}
use Rattle.contracts.specs.declared.plain.Reference.{Reference}
use Rattle.contracts.specs.declared.plain.PlainLeg.{PlainLeg}
use Rattle.notation.specs.Reading.{Read, mark, opens, number}
use Rattle.notation.specs.LegReading.{read_side, read_state, read_contract, read_field, read_own, read_reference, read_parts, read_leg, whole}
use Rattle.contracts.specs.Letters.{side_text, state_text}
use Rattle.notation.specs.Spelling.{Number, OwnSpelled, ReferenceSpelled, Spells}
use Rattle.notation.specs.declared.part.LegPart.{LegPart}
use Rattle.notation.specs.declared.part.LegPart.TheVariants as part
use Rattle.notation.proofs.Numbers.{Cut, cond_ways, err_not_ok, ok_same, number_past, number_at}
use Rattle.notation.proofs.Parts.{then_ways, mark_past, side_past, side_at, state_past, state_at}
use Rattle.notation.proofs.Terms.{Closed, contract_past, contract_at}

-- `/` and a number
field_past : (part : LegPart) (text : List ℕ) (got : ℕ × List ℕ) → read_field part text ≡ Ok got → (s : List ℕ) × Number got.0 s × (text ≡ codes "/" ++ (s ++ got.1))
field_past part text got e =
    let a = then_ways (mark 47 part text) _ got e in
    let n = number_past part a.0.1 got a.2 in
    (n.0, n.1, mark_past 47 part text a.0 a.1 ∙ ap (λ (x : List ℕ). 47 ∷ x) n.2)

-- the parts of the reference data, one after another
module _ (reference : Reference) (p q r t : List ℕ) (hp : Number reference.core p) (hq : Number reference.lot_size q) (hr : Number reference.tick r) (ht : Number reference.session_end t) where
  own_cut : (text a b c d f rest : List ℕ) → text ≡ 47 ∷ (p ++ a) → a ≡ 47 ∷ (q ++ b) → b ≡ 47 ∷ (r ++ c) → c ≡ 47 ∷ d → d ≡ state_text reference.state ++ f → f ≡ 47 ∷ (t ++ rest) → Cut OwnSpelled text (reference, rest)
  own_cut text a b c d f rest e1 e2 e3 e4 e5 e6 = (
    codes "/" ++ p ++ codes "/" ++ q ++ codes "/" ++ r ++ codes "/" ++ state_text reference.state ++ codes "/" ++ t,
    record { core = p; lot = q; tick = r; end = t; core_is = hp; lot_is = hq; tick_is = hr; end_is = ht; all = refl },
    simp append_assoc (cc),
  )

-- the reference data of a leg
own_past : (text : List ℕ) (got : Reference × List ℕ) → read_own text ≡ Ok got → Cut OwnSpelled text got
own_past text got e =
    let a = then_ways (read_field part.Core text) _ got e in
    let b = then_ways (read_field part.LotSize a.0.1) _ got a.2 in
    let c = then_ways (read_field part.Tick b.0.1) _ got b.2 in
    let d = then_ways (mark 47 part.State c.0.1) _ got c.2 in
    let f = then_ways (read_state d.0.1) _ got d.2 in
    let g = then_ways (read_field part.SessionEnd f.0.1) _ got f.2 in
    let p = field_past part.Core text a.0 a.1 in
    let q = field_past part.LotSize a.0.1 b.0 b.1 in
    let r = field_past part.Tick b.0.1 c.0 c.1 in
    let k = mark_past 47 part.State c.0.1 d.0 d.1 in
    let s = state_past d.0.1 f.0 f.1 in
    let t = field_past part.SessionEnd f.0.1 g.0 g.1 in
    let own : Reference = record { core = a.0.0; lot_size = b.0.0; tick = c.0.0; state = f.0.0; session_end = g.0.0 } in
    subst (Cut OwnSpelled text) {x = (own, g.0.1)} {y = got} (ok_same {x = (own, g.0.1)} {y = got} g.2)
    (own_cut own p.0 q.0 r.0 t.0 p.1 q.1 r.1 t.1 text a.0.1 b.0.1 c.0.1 d.0.1 f.0.1 g.0.1 p.2 q.2 r.2 k s t.2)

own_at : (reference : Reference) (text : List ℕ) → OwnSpelled reference text → read_own text ≡ Ok (reference, [])
own_at reference text h =
    let last : number part.SessionEnd h.end ≡ Ok (reference.session_end, []) = rw (append-nil h.end) at (number_at part.SessionEnd reference.session_end h.end [] h.end_is tt) in
    let all : text ≡ codes "/" ++ (h.core ++ (codes "/" ++ (h.lot ++ (codes "/" ++ (h.tick ++ (codes "/" ++ (state_text reference.state ++ (codes "/" ++ h.end)))))))) = h.all ∙ simp append_assoc in
    rw (
      all,
      number_at part.Core reference.core h.core (codes "/" ++ (h.lot ++ (codes "/" ++ (h.tick ++ (codes "/" ++ (state_text reference.state ++ (codes "/" ++ h.end))))))) h.core_is refl,
      number_at part.LotSize reference.lot_size h.lot (codes "/" ++ (h.tick ++ (codes "/" ++ (state_text reference.state ++ (codes "/" ++ h.end))))) h.lot_is refl,
      number_at part.Tick reference.tick h.tick (codes "/" ++ (state_text reference.state ++ (codes "/" ++ h.end))) h.tick_is refl,
      state_at reference.state (codes "/" ++ h.end),
      last,
    )

reference_past : (market : Reference) (text : List ℕ) (got : Reference × List ℕ) → read_reference market text ≡ Ok got → Cut (ReferenceSpelled market) text got
reference_past market text got e =
    elim (cond_ways (opens 47 text) _ _ _ e) [
      | inl h ↦ let o = own_past text got h.1 in (o.0, inr o.1, o.2)
      | inr h ↦ subst (Cut (ReferenceSpelled market) text) (ok_same h.1) ([], inl (refl, refl), refl)
    ]

reference_at : (market reference : Reference) (text : List ℕ) → ReferenceSpelled market reference text → read_reference market text ≡ Ok (reference, [])
reference_at market reference text (inl h) = rw (h.0, h.1)
reference_at market reference text (inr h) = ap (λ (x : List ℕ). cond (opens 47 x) (read_own text) (Ok (market, text))) h.all ∙ own_at reference text h

reference_closed : (market reference : Reference) (text : List ℕ) → ReferenceSpelled market reference text → Closed text
reference_closed market reference text (inl h) = rw h.0 tt
reference_closed market reference text (inr h) = rw h.all refl

-- the parts of a leg, one after another
leg_joined : (s n k r text a b c rest : List ℕ) → text ≡ s ++ a → a ≡ n ++ b → b ≡ 58 ∷ (k ++ c) → c ≡ r ++ rest → text ≡ (s ++ n ++ codes ":" ++ k ++ r) ++ rest
leg_joined s n k r text a b c rest e1 e2 e3 e4 = simp append_assoc (cc)

-- the whole leg
parts_past : (market : Reference) (text : List ℕ) (got : PlainLeg × List ℕ) → read_parts market text ≡ Ok got → Cut (Spells market) text got
parts_past market text got e =
    let a = then_ways (read_side text) _ got e in
    let b = then_ways (number part.Lots a.0.1) _ got a.2 in
    let c = then_ways (read_contract b.0.1) _ got b.2 in
    let d = then_ways (read_reference market c.0.1) _ got c.2 in
    let s = side_past text a.0 a.1 in
    let n = number_past part.Lots a.0.1 b.0 b.1 in
    let k = contract_past b.0.1 c.0 c.1 in
    let r = reference_past market c.0.1 d.0 d.1 in
    subst (Cut (Spells market) text) (ok_same d.2) (
      side_text a.0.0 ++ n.0 ++ codes ":" ++ k.0 ++ r.0,
      record { lots = n.0; contract = k.0; reference = r.0; lots_is = n.1; contract_is = k.1; reference_is = r.1; all = refl },
      leg_joined (side_text a.0.0) n.0 k.0 r.0 text a.0.1 b.0.1 c.0.1 d.0.1 s n.2 k.2 r.2,
    )

parts_at : (market : Reference) (leg : PlainLeg) (text : List ℕ) → Spells market leg text → read_parts market text ≡ Ok (leg, [])
parts_at market leg text h =
    let all : text ≡ side_text leg.side ++ (h.lots ++ (codes ":" ++ (h.contract ++ h.reference))) = h.all ∙ simp append_assoc in
    rw (
      all,
      side_at leg.side (h.lots ++ (codes ":" ++ (h.contract ++ h.reference))),
      number_at part.Lots leg.lots h.lots (codes ":" ++ (h.contract ++ h.reference)) h.lots_is refl,
      contract_at leg.contract h.contract h.reference h.contract_is (reference_closed market leg.reference h.reference h.reference_is),
      reference_at market leg.reference h.reference h.reference_is,
    )

pub whole_past : {X : Type 0} (r : Read X) (x : X) → whole r ≡ Ok x → r ≡ Ok (x, [])
whole_past (Ok got) x e =
    elim (cond_ways (eqb (length got.1) 0) _ _ _ e) [
      | inl h ↦ let n = nil_from_length got.1 (eqb-true _ 0 h.0) in let same : got.0 ≡ x = cc in λ i. Ok (same i, n i)
      | inr h ↦ absurd (err_not_ok h.1)
    ]
whole_past (Err part) x e = absurd (err_not_ok e)

pub spelled_from_read : (market : Reference) (leg : PlainLeg) (text : List ℕ) → read_leg market text ≡ Ok leg → Spells market leg text
unfolding read_leg
spelled_from_read market leg text e =
    let h = parts_past market text (leg, []) (whole_past (read_parts market text) leg e) in
    subst (Spells market leg) (sym (append-nil h.0) ∙ sym h.2) h.1

pub read_from_spelled : (market : Reference) (leg : PlainLeg) (text : List ℕ) → Spells market leg text → read_leg market text ≡ Ok leg
unfolding read_leg
read_from_spelled market leg text h = ap whole (parts_at market leg text h)
