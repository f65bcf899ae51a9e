-- The ticket that legs are accepted as has one row of legs and one scale. Assumes nothing.
use Rattle.std.proofs.Common.{◌≡◌, ℕ, ◌*◌, ◌<◌, List, length, get_or, sym, refl, ap, ◌∙◌, arith}
use native.Mathlib.Nat.{dvd_antisymm, eq_of_mul-eq-mul_right}
use Rattle.std.proofs.lemmas.List.{same_lists}
use Rattle.keys.specs.Same.{same_strike, same_month}
use Rattle.contracts.specs.Plain.{plain_root, plain_month, plain_underlying, plain_contract}
use Rattle.contracts.specs.declared.contract.Contract.{Contract}
use Rattle.contracts.specs.declared.contract.Contract.TheVariants.{Future, Option}
use Rattle.contracts.specs.declared.contract.Underlying.{Underlying}
use Rattle.contracts.specs.declared.contract.Underlying.TheVariants as on
use Rattle.contracts.specs.declared.leg.Leg.{Leg}
use Rattle.contracts.specs.declared.plain.PlainLeg.{PlainLeg}
use Rattle.contracts.specs.declared.plain.PlainMonth.{PlainMonth}
use Rattle.contracts.specs.declared.plain.PlainRoot.{PlainRoot}
use Rattle.contracts.specs.declared.root.Root.{Root}
use Rattle.contracts.specs.Same.{same_root_lem}
use Rattle.keys.specs.declared.month.Month.{Month}
use Rattle.tickets.specs.Refused.{Clear, TicketOf, legs_of}
use Rattle.tickets.specs.declared.ticket.Ticket.{Ticket}
use Rattle.tickets.proofs.Sound.{scale_some}

root_of_plain : (r q : Root) → plain_root r ≡ plain_root q → r ≡ q
root_of_plain r q e = same_root_lem r q (ap (λ (p : PlainRoot). p.first) e) (ap (λ (p : PlainRoot). p.second) e) (ap (λ (p : PlainRoot). p.third) e)

month_of_plain : (m n : Month) → plain_month m ≡ plain_month n → m ≡ n
month_of_plain m n e = same_month m n (ap (λ (p : PlainMonth). p.year) e) (ap (λ (p : PlainMonth). p.month) e)

underlying_of_plain : (u v : Underlying) → plain_underlying u ≡ plain_underlying v → u ≡ v
underlying_of_plain on.Spot on.Spot e = refl
underlying_of_plain on.Spot (on.Future n) e = cc
underlying_of_plain (on.Future m) on.Spot e = cc
underlying_of_plain (on.Future m) (on.Future n) e = let f : plain_month m ≡ plain_month n = cc in ap on.Future (month_of_plain m n f)

-- a contract's plain numbers are that contract's alone
pub same_plain : (x y : Contract) → plain_contract x ≡ plain_contract y → x ≡ y
same_plain (Future r m) (Future q n) e =
    let a : plain_root r ≡ plain_root q = cc in
    let b : plain_month m ≡ plain_month n = cc in
    λ i. Future (root_of_plain r q a i) (month_of_plain m n b i)
same_plain (Future r m) (Option h q n t v) e = cc
same_plain (Option g r m s u) (Future q n) e = cc
same_plain (Option g r m s u) (Option h q n t v) e =
    let a : plain_root r ≡ plain_root q = cc in
    let b : plain_month m ≡ plain_month n = cc in
    let c : s.hundredths ≡ t.hundredths = cc in
    let d : plain_underlying u ≡ plain_underlying v = cc in
    let f : g ≡ h = cc in
    λ i. Option (f i) (root_of_plain r q a i) (month_of_plain m n b i) (same_strike s t c i) (underlying_of_plain u v d i)

pub same_leg : (x y : Leg) → x.contract ≡ y.contract → x.side ≡ y.side → x.ratio ≡ y.ratio → x ≡ y
same_leg x y e f g = λ i. record { contract = e i; side = f i; ratio = g i }

module _ (minute : ℕ) (legs : List PlainLeg) (clear : Clear minute legs) (t u : Ticket) (p : TicketOf legs t) (q : TicketOf legs u) where
  pub same_scale : t.scale ≡ u.scale
  same_scale = dvd_antisymm (q.scale.greatest t.scale p.scale.divides) (p.scale.greatest u.scale q.scale.divides)

  same_kept : (k : ℕ) (d : Leg) → k < length (legs_of t) → get_or (legs_of t) k d ≡ get_or (legs_of u) k d
  same_kept k d h =
      let long = p.count in
      let within : k < length legs = omega arith in
      let a = p.keeps k d within in
      let b = q.keeps k d within in
      same_leg (get_or (legs_of t) k d) (get_or (legs_of u) k d)
      (same_plain _ _ (a.contract ∙ sym b.contract))
      (a.side ∙ sym b.side)
      (eq_of_mul-eq-mul_right t.scale (scale_some minute legs clear t.scale p.scale) _ _
      (a.lots ∙ sym b.lots ∙ ap (λ (n : ℕ). (get_or (legs_of u) k d).ratio * n) (sym same_scale)))

  pub same_legs : legs_of t ≡ legs_of u
  same_legs = same_lists (legs_of t) (legs_of u) (p.count ∙ sym q.count) same_kept
