-- What is read of a line is what it says. Assumes nothing.
use Rattle.std.proofs.Common.{◌≡◌, ℕ, ◌+◌, List, [], ◌∷◌, get_or, Some, Ok, Err, codes, Result, sym, refl, ap, ◌∙◌, subst, arith, ◌==◌}
use Rattle.std.specs.Str.{bytes_eq}
use Rattle.std.proofs.lemmas.Bool.{cond_both}
use Rattle.std.proofs.lemmas.Bool.Decides.{Decides-eqb, not_from_Decides}
use Rattle.std.proofs.lemmas.Slice.Eq.{bytes_eq-Decides}
use Rattle.contracts.specs.declared.plain.PlainLeg.{PlainLeg}
use Rattle.contracts.specs.declared.plain.Reference.{Reference}
use Rattle.contracts.specs.declared.plain.State.{State}
use Rattle.contracts.specs.Letters.{state_text}
use Rattle.notation.specs.LegReading.{whole, read_state, read_leg}
use Rattle.notation.specs.Reading.{number}
use Rattle.notation.specs.Spelling.{Number}
use Rattle.notation.specs.declared.part.LegPart.{LegPart}
use Rattle.notation.specs.declared.part.LegPart.TheVariants as part
use Rattle.notation.proofs.Fields.{number_told, state_told}
use Rattle.notation.proofs.Legs.{spelled_from_read, read_from_spelled}
use Rattle.notation.proofs.Numbers.{err_not_ok}
use Rattle.notation.proofs.Parts.{then_ways}
use Rattle.script.specs.Lines.{Read, told, number_word, state_word, minute_word, leg_word, placed, field, ended, read_market, read_legs, read_ticket, made, reading}
use Rattle.script.specs.Says.{MarketLine, LegsSpelled, TicketLine, Says}
use Rattle.script.specs.declared.line.Line.TheVariants as line
use Rattle.script.specs.declared.line.What.{What}
use Rattle.script.specs.declared.line.What.TheVariants.{Minute, Part}

read_same : {X : Type 0} (x : X) (rest : List (List ℕ)) (got : X × List (List ℕ)) → ◌≡◌ {A = Read X} (Ok (x, rest)) (Ok got) → x ≡ got.0
read_same {X} x rest got e = let same : (x, rest) ≡ got = cc in ap (λ (g : X × List (List ℕ)). g.0) same

-- a word that was read, and what is left
told_ways : {X : Type 0} (wrong : LegPart → What) (r : Result X LegPart) (x : X) → told wrong r ≡ Ok x → r ≡ Ok x
told_ways wrong (Ok y) x e = cc
told_ways wrong (Err p) x e = absurd (err_not_ok e)

placed_ways : {X : Type 0} (word : ℕ) (rest : List (List ℕ)) (r : Result X What) (got : X × List (List ℕ)) → placed word rest r ≡ Ok got → (r ≡ Ok got.0) × (rest ≡ got.1)
placed_ways word rest (Ok x) got e = (cc, cc)
placed_ways word rest (Err what) got e = absurd (err_not_ok e)

field_past : {X : Type 0} (of : List ℕ → Result X What) (word : ℕ) (ws : List (List ℕ)) (got : X × List (List ℕ)) → field of word ws ≡ Ok got → (w : List ℕ) × (of w ≡ Ok got.0) × (ws ≡ w ∷ got.1)
field_past of word [] got e = absurd (err_not_ok e)
field_past of word (w ∷ ws) got e = let h = placed_ways word ws (of w) got e in (w, h.0, ap (λ (r : List (List ℕ)). w ∷ r) h.1)

number_past : (word : ℕ) (p : LegPart) (ws : List (List ℕ)) (got : ℕ × List (List ℕ)) → field (number_word p) word ws ≡ Ok got → (w : List ℕ) × Number got.0 w × (ws ≡ w ∷ got.1)
number_past word p ws got e =
    let h = field_past (number_word p) word ws got e in
    (h.0, (number_told p h.0 _ refl got.0).0 (told_ways Part (whole (number p h.0)) got.0 h.1), h.2)

number_at : (word : ℕ) (p : LegPart) (n : ℕ) (w : List ℕ) (ws : List (List ℕ)) → Number n w → field (number_word p) word (w ∷ ws) ≡ Ok (n, ws)
number_at word p n w ws h = ap (λ (r : Result ℕ LegPart). placed word ws (told Part r)) ((number_told p w _ refl n).1 h)

state_past : (word : ℕ) (ws : List (List ℕ)) (got : State × List (List ℕ)) → field state_word word ws ≡ Ok got → ws ≡ state_text got.0 ∷ got.1
state_past word ws got e =
    let h = field_past state_word word ws got e in
    h.2 ∙ ap (λ (w : List ℕ). w ∷ got.1) ((state_told h.0 _ refl got.0).0 (told_ways Part (whole (read_state h.0)) got.0 h.1))

state_at : (word : ℕ) (s : State) (ws : List (List ℕ)) → field state_word word (state_text s ∷ ws) ≡ Ok (s, ws)
state_at word s ws = ap (λ (r : Result State LegPart). placed word ws (told Part r)) ((state_told (state_text s) _ refl s).1 refl)

ended_past : (word : ℕ) (ws : List (List ℕ)) (got : Unit {0} × List (List ℕ)) → ended word ws ≡ Ok got → ws ≡ []
ended_past word [] got e = refl
ended_past word (w ∷ ws) got e = absurd (err_not_ok e)

-- market lines: five words and nothing after them
row : {core lot tick state end : List ℕ} (ws a b c d rest : List (List ℕ)) → ws ≡ core ∷ a → a ≡ lot ∷ b → b ≡ tick ∷ c → c ≡ state ∷ d → d ≡ end ∷ rest → rest ≡ [] → ◌≡◌ {A = List (List ℕ)} (codes "market" ∷ ws) (codes "market" ∷ core ∷ lot ∷ tick ∷ state ∷ end ∷ [])
row ws a b c d rest p q r s t u = cc

market_past : (ws : List (List ℕ)) (got : Reference × List (List ℕ)) → read_market ws ≡ Ok got → MarketLine got.0 (codes "market" ∷ ws)
market_past ws got e =
    let a = then_ways (field (number_word part.Core) 2 ws) _ got e in
    let b = then_ways (field (number_word part.LotSize) 3 a.0.1) _ got a.2 in
    let c = then_ways (field (number_word part.Tick) 4 b.0.1) _ got b.2 in
    let d = then_ways (field state_word 5 c.0.1) _ got c.2 in
    let f = then_ways (field (number_word part.SessionEnd) 6 d.0.1) _ got d.2 in
    let g = then_ways (ended 7 f.0.1) _ got f.2 in
    let p = number_past 2 part.Core ws a.0 a.1 in
    let q = number_past 3 part.LotSize a.0.1 b.0 b.1 in
    let r = number_past 4 part.Tick b.0.1 c.0 c.1 in
    let s = state_past 5 c.0.1 d.0 d.1 in
    let t = number_past 6 part.SessionEnd d.0.1 f.0 f.1 in
    let u = ended_past 7 f.0.1 g.0 g.1 in
    let m : Reference = record { core = a.0.0; lot_size = b.0.0; tick = c.0.0; state = d.0.0; session_end = f.0.0 } in
    let same = read_same m g.0.1 got g.2 in
    let market : MarketLine m (codes "market" ∷ ws) =
    record {
      core = p.0;
      lot = q.0;
      tick = r.0;
      end = t.0;
      core_is = p.1;
      lot_is = q.1;
      tick_is = r.1;
      end_is = t.1;
      all = row ws a.0.1 b.0.1 c.0.1 d.0.1 f.0.1 p.2 q.2 r.2 s t.2 u;
    } in
    subst (λ (x : Reference). MarketLine x (codes "market" ∷ ws)) same market

head_same : (v w : List ℕ) (vs ws : List (List ℕ)) → ◌≡◌ {A = List (List ℕ)} (v ∷ vs) (w ∷ ws) → v ≡ w
head_same v w vs ws e = cc

tail_same : (v w : List ℕ) (vs ws : List (List ℕ)) → ◌≡◌ {A = List (List ℕ)} (v ∷ vs) (w ∷ ws) → vs ≡ ws
tail_same v w vs ws e = cc

market_at : (w : List ℕ) (ws : List (List ℕ)) (m : Reference) → MarketLine m (w ∷ ws) → (rest : List (List ℕ)) × (read_market ws ≡ Ok (m, rest))
market_at w ws m h = (
  [],
  ap read_market (tail_same w (codes "market") ws _ h.all)
      ∙ rw (
        number_at 2 part.Core m.core h.core (h.lot ∷ h.tick ∷ state_text m.state ∷ h.end ∷ []) h.core_is,
        number_at 3 part.LotSize m.lot_size h.lot (h.tick ∷ state_text m.state ∷ h.end ∷ []) h.lot_is,
        number_at 4 part.Tick m.tick h.tick (state_text m.state ∷ h.end ∷ []) h.tick_is,
        state_at 5 m.state (h.end ∷ []),
        number_at 6 part.SessionEnd m.session_end h.end [] h.end_is,
      ),
)

-- ticket lines
legs_past : (ref : Reference) (word : ℕ) (ws : List (List ℕ)) (got : List PlainLeg × List (List ℕ)) → read_legs ref word ws ≡ Ok got → LegsSpelled ref got.0 ws
legs_past ref word [] got e = let none : [] ≡ got.0 = cc in subst (λ (legs : List PlainLeg). LegsSpelled ref legs []) none tt
legs_past ref word (w ∷ ws) got e =
    let a = then_ways (placed word ws (leg_word ref w)) _ got e in
    let b = then_ways (read_legs ref (word + 1) ws) (λ legs rest. Ok (a.0.0 ∷ legs, rest)) got a.2 in
    let read = told_ways Part (read_leg ref w) a.0.0 (placed_ways word ws (leg_word ref w) a.0 a.1).0 in
    let same = read_same (a.0.0 ∷ b.0.0) b.0.1 got b.2 in
    subst (λ (legs : List PlainLeg). LegsSpelled ref legs (w ∷ ws)) same (spelled_from_read ref a.0.0 w read, legs_past ref (word + 1) ws b.0 b.1)

legs_at : (ref : Reference) (word : ℕ) (legs : List PlainLeg) (ws : List (List ℕ)) → LegsSpelled ref legs ws → read_legs ref word ws ≡ Ok (legs, [])
legs_at ref word [] [] h = refl
legs_at ref word [] (w ∷ ws) h = absurd h
legs_at ref word (leg ∷ legs) [] h = absurd h
legs_at ref word (leg ∷ legs) (w ∷ ws) h = rw (read_from_spelled ref leg w h.0, legs_at ref (word + 1) legs ws h.1)

ticket_past : (ref : Reference) (ws : List (List ℕ)) (got : (ℕ × List PlainLeg) × List (List ℕ)) → read_ticket ref ws ≡ Ok got → TicketLine ref got.0.0 got.0.1 (codes "ticket" ∷ ws)
ticket_past ref ws got e =
    let a = then_ways (field minute_word 2 ws) _ got e in
    let b = then_ways (read_legs ref 3 a.0.1) (λ legs rest. Ok ((a.0.0, legs), rest)) got a.2 in
    let f = field_past minute_word 2 ws a.0 a.1 in
    let is = (number_told part.End f.0 _ refl a.0.0).0 (told_ways (λ _. Minute) (whole (number part.End f.0)) a.0.0 f.1) in
    let ticket : TicketLine ref a.0.0 b.0.0 (codes "ticket" ∷ ws) =
    record {
      minute_word = f.0;
      leg_words = a.0.1;
      minute_is = is;
      legs_are = legs_past ref 3 a.0.1 b.0 b.1;
      all = ap (λ (l : List (List ℕ)). codes "ticket" ∷ l) f.2;
    } in
    let same = read_same (a.0.0, b.0.0) b.0.1 got b.2 in
    subst (λ (t : ℕ × List PlainLeg). TicketLine ref t.0 t.1 (codes "ticket" ∷ ws)) same ticket

ticket_at : (ref : Reference) (w : List ℕ) (ws : List (List ℕ)) (n : ℕ) (legs : List PlainLeg) → TicketLine ref n legs (w ∷ ws) → read_ticket ref ws ≡ Ok ((n, legs), [])
ticket_at ref w ws n legs h =
    ap (read_ticket ref) (tail_same w (codes "ticket") ws _ h.all)
    ∙ rw ((number_told part.End h.minute_word _ refl n).1 h.minute_is, legs_at ref 3 legs h.leg_words h.legs_are)

-- the two calls have different words, and neither is a comment
not_both : (w : List ℕ) → w ≡ codes "market" → w ≡ codes "ticket" → ⊥
not_both w p q = let z : ◌≡◌ {A = ℕ} 109 116 = cc in omega arith

market_word : (w : List ℕ) → w ≡ codes "market" → get_or w 0 0 ≡ 35 → ⊥
market_word w e h = let z : ◌≡◌ {A = ℕ} 109 35 = sym (ap (λ (l : List ℕ). get_or l 0 0) e) ∙ h in omega arith

ticket_word : (w : List ℕ) → w ≡ codes "ticket" → get_or w 0 0 ≡ 35 → ⊥
ticket_word w e h = let z : ◌≡◌ {A = ℕ} 116 35 = sym (ap (λ (l : List ℕ). get_or l 0 0) e) ∙ h in omega arith

says_market : (ref : Reference) (w : List ℕ) (ws : List (List ℕ)) (r : Read Reference) → w ≡ codes "market" → read_market ws ≡ r → Says ref (w ∷ ws) (made (λ m. Some (line.Market m)) r)
says_market ref w ws (Ok got) e is = subst (λ (v : List ℕ). MarketLine got.0 (v ∷ ws)) (sym e) (market_past ws got is)
says_market ref w ws (Err t) e is = (
  market_word w e,
  λ m h. err_not_ok (sym is ∙ (market_at w ws m h).1),
  λ n legs h. not_both w e (head_same w (codes "ticket") ws _ h.all),
)

says_ticket : (ref : Reference) (w : List ℕ) (ws : List (List ℕ)) (r : Read (ℕ × List PlainLeg)) → w ≡ codes "ticket" → read_ticket ref ws ≡ r → Says ref (w ∷ ws) (made (λ t. Some (line.Ticket t.0 t.1)) r)
says_ticket ref w ws (Ok got) e is = subst (λ (v : List ℕ). TicketLine ref got.0.0 got.0.1 (v ∷ ws)) (sym e) (ticket_past ref ws got is)
says_ticket ref w ws (Err t) e is = (
  ticket_word w e,
  λ m h. not_both w (head_same w (codes "market") ws _ h.all) e,
  λ n legs h. err_not_ok (sym is ∙ ticket_at ref w ws n legs h),
)

pub says : (ref : Reference) (ws : List (List ℕ)) → Says ref ws (reading ref ws)
says ref [] = tt
says ref (w ∷ ws) =
    cond_both (get_or w 0 0 == 35) _ _ (Says ref (w ∷ ws)) (λ e. (Decides-eqb (get_or w 0 0) 35).0 e)
    (λ hash.
    cond_both (bytes_eq w (codes "market")) _ _ (Says ref (w ∷ ws)) (λ e. says_market ref w ws (read_market ws) ((bytes_eq-Decides w (codes "market")).0 e) refl)
    (λ market.
    cond_both (bytes_eq w (codes "ticket")) _ _ (Says ref (w ∷ ws)) (λ e. says_ticket ref w ws (read_ticket ref ws) ((bytes_eq-Decides w (codes "ticket")).0 e) refl)
    (λ ticket. (
      not_from_Decides _ (Decides-eqb (get_or w 0 0) 35) hash,
      λ m h. not_from_Decides _ (bytes_eq-Decides w (codes "market")) market (head_same w (codes "market") ws _ h.all),
      λ n legs h. not_from_Decides _ (bytes_eq-Decides w (codes "ticket")) ticket (head_same w (codes "ticket") ws _ h.all),
    ))))
