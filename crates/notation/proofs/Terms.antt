-- The contract is read just where it is spelled. Assumes nothing.
use Rattle.std.proofs.Common.{◌≡◌, ℕ, false, eqb, List, [], ◌∷◌, ◌++◌, Ok, codes, refl, ap, subst, inl, inr, append_assoc}
use Rattle.std.proofs.lemmas.Bool.{cond-false}
use Rattle.contracts.specs.declared.contract.Kind.{Kind}
use Rattle.contracts.specs.declared.contract.Kind.TheVariants as kind
use Rattle.contracts.specs.declared.contract.Right.{Right}
use Rattle.contracts.specs.declared.contract.Right.TheVariants.{Call, Put}
use Rattle.contracts.specs.declared.plain.PlainRoot.{PlainRoot}
use Rattle.contracts.specs.declared.plain.PlainMonth.{PlainMonth}
use Rattle.contracts.specs.declared.plain.PlainUnderlying.{PlainUnderlying}
use Rattle.contracts.specs.declared.plain.PlainUnderlying.TheVariants as on
use Rattle.contracts.specs.declared.plain.PlainContract.{PlainContract}
use Rattle.contracts.specs.declared.plain.PlainContract.TheVariants as plain
use Rattle.notation.specs.Reading.{mark, opens, digit, number}
use Rattle.notation.specs.LegReading.{read_root, read_kind, read_month, read_underlying, read_option, read_terms, read_contract}
use Rattle.contracts.specs.Letters.{right_text}
use Rattle.notation.specs.Spelling.{MonthSpelled, RootSpelled, UnderlyingSpelled, ContractSpelled}
use Rattle.notation.specs.declared.part.LegPart.TheVariants as part
use Rattle.notation.proofs.Numbers.{Stops, Cut, cond_ways, ok_same, number_past, number_at}
use Rattle.notation.proofs.Parts.{then_ways, mark_past, kind_text, kind_past, optional, right_at, month_past, month_at, root_past, root_at}

-- what follows a contract is nothing, or begins with `/`
abbrev pub Closed : List ℕ → Type 0
Closed [] = Unit {0}
Closed (c ∷ text) = c ≡ 47

pub closed_stops : (rest : List ℕ) → Closed rest → Stops rest
closed_stops [] h = tt
closed_stops (c ∷ rest) h = ap digit h

closed_spot : (rest : List ℕ) → Closed rest → opens 64 rest ≡ false
closed_spot [] h = refl
closed_spot (c ∷ rest) h = ap (λ (k : ℕ). eqb k 64) h

-- the underlying
underlying_past : (text : List ℕ) (got : PlainUnderlying × List ℕ) → read_underlying text ≡ Ok got → Cut UnderlyingSpelled text got
underlying_past text got e =
    elim (cond_ways (opens 64 text) _ _ _ e) [
      | inl h ↦
          let a = then_ways (mark 64 part.Underlying text) _ got h.1 in
          let b = then_ways (read_month part.Underlying a.0.1) _ got a.2 in
          let k = mark_past 64 part.Underlying text a.0 a.1 in
          let m = month_past part.Underlying a.0.1 b.0 b.1 in
          let em = m.2 in
          subst (Cut UnderlyingSpelled text) (ok_same b.2) (codes "@" ++ m.0, (m.0, m.1, refl), cc)
      | inr h ↦ subst (Cut UnderlyingSpelled text) (ok_same h.1) ([], refl, refl)
    ]

underlying_at : (u : PlainUnderlying) (text rest : List ℕ) → UnderlyingSpelled u text → Closed rest → read_underlying (text ++ rest) ≡ Ok (u, rest)
underlying_at on.Spot text rest h closed = rw h (cond-false _ _ _ (closed_spot rest closed))
underlying_at (on.Future month) text rest h closed =
    rw (h.2, month_at part.Underlying month h.0 rest h.1 (closed_stops rest closed))

underlying_stops : (u : PlainUnderlying) (text rest : List ℕ) → UnderlyingSpelled u text → Closed rest → Stops (text ++ rest)
underlying_stops on.Spot text rest h closed = rw h (closed_stops rest closed)
underlying_stops (on.Future month) text rest h closed = rw h.2 refl

-- a contract after its `:`
module _ (root : PlainRoot) (month : PlainMonth) (r m : List ℕ) (hr : RootSpelled root r) (hm : MonthSpelled month m) where
  abbrev Sofar : List ℕ → List ℕ → PlainContract × List ℕ → Type 0
  Sofar k text got = (c : List ℕ) × ContractSpelled got.0 c × (r ++ (codes ":" ++ (k ++ (codes ":" ++ (m ++ text)))) ≡ c ++ got.1)

  option_past : (right : Right) (text : List ℕ) (got : PlainContract × List ℕ) → read_option right root month text ≡ Ok got → Sofar (right_text right) text got
  option_past right text got e =
      let a = then_ways (mark 58 part.Strike text) _ got e in
      let b = then_ways (number part.Strike a.0.1) _ got a.2 in
      let c = then_ways (read_underlying b.0.1) _ got b.2 in
      let k = mark_past 58 part.Strike text a.0 a.1 in
      let s = number_past part.Strike a.0.1 b.0 b.1 in
      let u = underlying_past b.0.1 c.0 c.1 in
      let es = s.2 in
      let eu = u.2 in
      let all = r ++ codes ":" ++ right_text right ++ codes ":" ++ m ++ codes ":" ++ s.0 ++ u.0 in
      subst (Sofar (right_text right) text) (ok_same c.2) (all, (r, m, s.0, u.0, hr, hm, s.1, u.1, refl {a = all}), simp append_assoc (cc))

  terms_past : (k : Kind) (text : List ℕ) (got : PlainContract × List ℕ) → read_terms k root month text ≡ Ok got → Sofar (kind_text k) text got
  terms_past kind.Future text got e =
      subst (Sofar (codes "F") text) (ok_same e) (r ++ codes ":F:" ++ m, (r, m, hr, hm, refl), simp append_assoc)
  terms_past kind.Call text got e = option_past Call text got e
  terms_past kind.Put text got e = option_past Put text got e

optional_terms : (right : Right) (root : PlainRoot) (month : PlainMonth) (text : List ℕ) → read_terms (optional right) root month text ≡ read_option right root month text
optional_terms Call root month text = refl
optional_terms Put root month text = refl

-- the parts of a contract, one after another
contract_joined : (r k m t text a b c d f g rest : List ℕ) → text ≡ 58 ∷ a → a ≡ r ++ b → b ≡ 58 ∷ c → c ≡ k ++ d → d ≡ 58 ∷ f → f ≡ m ++ g → r ++ (58 ∷ (k ++ (58 ∷ (m ++ g)))) ≡ t ++ rest → text ≡ codes ":" ++ (t ++ rest)
contract_joined r k m t text a b c d f g rest e1 e2 e3 e4 e5 e6 e7 = cc

pub contract_past : (text : List ℕ) (got : PlainContract × List ℕ) → read_contract text ≡ Ok got → (c : List ℕ) × ContractSpelled got.0 c × (text ≡ codes ":" ++ (c ++ got.1))
contract_past text got e =
    let a = then_ways (mark 58 part.Root text) _ got e in
    let b = then_ways (read_root a.0.1) _ got a.2 in
    let c = then_ways (mark 58 part.Kind b.0.1) _ got b.2 in
    let d = then_ways (read_kind c.0.1) _ got c.2 in
    let f = then_ways (mark 58 part.Month d.0.1) _ got d.2 in
    let g = then_ways (read_month part.Month f.0.1) _ got f.2 in
    let r = root_past a.0.1 b.0 b.1 in
    let m = month_past part.Month f.0.1 g.0 g.1 in
    let t = terms_past b.0.0 g.0.0 r.0 m.0 r.1 m.1 d.0.0 g.0.1 got g.2 in (
      t.0,
      t.1,
      contract_joined r.0 (kind_text d.0.0) m.0 t.0 text a.0.1 b.0.1 c.0.1 d.0.1 f.0.1 g.0.1 got.1
          (mark_past 58 part.Root text a.0 a.1)
          r.2
          (mark_past 58 part.Kind b.0.1 c.0 c.1)
          (kind_past c.0.1 d.0 d.1)
          (mark_past 58 part.Month d.0.1 f.0 f.1)
          m.2
          t.2,
    )

pub contract_at : (contract : PlainContract) (text rest : List ℕ) → ContractSpelled contract text → Closed rest → read_contract (codes ":" ++ (text ++ rest)) ≡ Ok (contract, rest)
contract_at (plain.Future root month) text rest (r, m, hr, hm, all) closed =
    let whole : text ++ rest ≡ r ++ (codes ":F:" ++ (m ++ rest)) = rw all (simp append_assoc) in
    rw (whole, root_at root r (codes ":F:" ++ (m ++ rest)) hr, month_at part.Month month m rest hm (closed_stops rest closed))
contract_at (plain.Option right root month strike underlying) text rest (r, m, s, u, hr, hm, hs, hu, all) closed =
    let whole : text ++ rest ≡ r ++ (codes ":" ++ (right_text right ++ (codes ":" ++ (m ++ (codes ":" ++ (s ++ (u ++ rest))))))) = rw all (simp append_assoc) in
    rw (
      whole,
      root_at root r (codes ":" ++ (right_text right ++ (codes ":" ++ (m ++ (codes ":" ++ (s ++ (u ++ rest))))))) hr,
      right_at right (codes ":" ++ (m ++ (codes ":" ++ (s ++ (u ++ rest))))),
      month_at part.Month month m (codes ":" ++ (s ++ (u ++ rest))) hm refl,
      optional_terms right root month (codes ":" ++ (s ++ (u ++ rest))),
      number_at part.Strike strike s (u ++ rest) hs (underlying_stops underlying u rest hu closed),
      underlying_at underlying u rest hu closed,
    )
