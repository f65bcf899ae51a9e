-- Two contracts with the same numbers are the same: a range that holds adds nothing. Assumes nothing.
use Rattle.std.specs.Prelude.{◌≡◌, ℕ, refl}
use Rattle.std.proofs.Common.{ap, subst, arith}
use Rattle.std.proofs.Math.Bool.{Bool-set}
use Rattle.keys.specs.Ranges.{month_index}
use Rattle.keys.specs.declared.month.Month.{Month}
use Rattle.keys.specs.declared.strike.Strike.{Strike}
use Rattle.keys.specs.Same.{same_strike, same_index}
use Rattle.contracts.specs.Ladder.{kind_rank, strike_rank, underlying_rank}
use Rattle.contracts.specs.Parts.{root_of, month_of}
use Rattle.contracts.specs.Ranges.{RootRange}
use Rattle.contracts.specs.declared.contract.Right.{Right}
use Rattle.contracts.specs.declared.contract.Right.TheVariants.{Call, Put}
use Rattle.contracts.specs.declared.contract.Underlying.{Underlying}
use Rattle.contracts.specs.declared.contract.Underlying.TheVariants as on
use Rattle.contracts.specs.declared.contract.Contract.{Contract}
use Rattle.contracts.specs.declared.contract.Contract.TheVariants.{Future, Option}
use Rattle.contracts.specs.declared.root.Root.{Root}

abbrev root : (a b c : ℕ) → RootRange a b c → Root
root a b c r = record { first = a; second = b; third = c; range = r }

root_range : (a b c : ℕ) (p q : RootRange a b c) → p ≡ q
root_range a b c p q = λ i. (Bool-set _ _ p.0 q.0 i, Bool-set _ _ p.1 q.1 i, Bool-set _ _ p.2 q.2 i)

pub same_root_lem : (x y : Root) → x.first ≡ y.first → x.second ≡ y.second → x.third ≡ y.third → x ≡ y
same_root_lem x y e f g =
    subst (λ (a : ℕ). (r : RootRange a y.second y.third) → x ≡ root a y.second y.third r) e
    (subst (λ (b : ℕ). (r : RootRange x.first b y.third) → x ≡ root x.first b y.third r) f
    (subst (λ (c : ℕ). (r : RootRange x.first x.second c) → x ≡ root x.first x.second c r) g
    (λ r. ap (root x.first x.second x.third) (root_range x.first x.second x.third x.range r))))
    y.range

-- on every level of the ladder the two have the same number
pub record Level (x y : Contract) : Type 0 where
  pub first : (root_of x).first ≡ (root_of y).first
  pub second : (root_of x).second ≡ (root_of y).second
  pub third : (root_of x).third ≡ (root_of y).third
  pub kind : kind_rank x ≡ kind_rank y
  pub month : month_index (month_of x).year (month_of x).month ≡ month_index (month_of y).year (month_of y).month
  pub strike : strike_rank x ≡ strike_rank y
  pub underlying : underlying_rank x ≡ underlying_rank y

module _ (g : Right) (r q : Root) (m n : Month) (s t : Strike) where
  option : (u v : Underlying) → u ≡ v → Level (Option g r m s u) (Option g q n t v) → Option g r m s u ≡ Option g q n t v
  option u v e h =
      λ i.
      Option g
      (same_root_lem r q h.first h.second h.third i)
      (same_index m n h.month i)
      (same_strike s t h.strike i)
      (e i)

  same_option : (u v : Underlying) → Level (Option g r m s u) (Option g q n t v) → Option g r m s u ≡ Option g q n t v
  same_option on.Spot on.Spot h = option on.Spot on.Spot refl h
  same_option on.Spot (on.Future f) h = absurd (let e = h.underlying in omega arith)
  same_option (on.Future f) on.Spot h = absurd (let e = h.underlying in omega arith)
  same_option (on.Future f) (on.Future k) h =
      let e = h.underlying in
      let d : month_index f.year f.month ≡ month_index k.year k.month = omega arith in
      option (on.Future f) (on.Future k) (ap on.Future (same_index f k d)) h

pub same_contract : (x y : Contract) → Level x y → x ≡ y
same_contract (Future r m) (Future q n) h = λ i. Future (same_root_lem r q h.first h.second h.third i) (same_index m n h.month i)
same_contract (Future r m) (Option Call q n t v) h = absurd (let e = h.kind in omega arith)
same_contract (Future r m) (Option Put q n t v) h = absurd (let e = h.kind in omega arith)
same_contract (Option Call r m s u) (Future q n) h = absurd (let e = h.kind in omega arith)
same_contract (Option Put r m s u) (Future q n) h = absurd (let e = h.kind in omega arith)
same_contract (Option Call r m s u) (Option Call q n t v) h = same_option Call r q m n s t u v h
same_contract (Option Call r m s u) (Option Put q n t v) h = absurd (let e = h.kind in omega arith)
same_contract (Option Put r m s u) (Option Call q n t v) h = absurd (let e = h.kind in omega arith)
same_contract (Option Put r m s u) (Option Put q n t v) h = same_option Put r q m n s t u v h
