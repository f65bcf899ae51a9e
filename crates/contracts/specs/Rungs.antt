-- Ladder order is a total order, and tells any two contracts apart. Assumes nothing.
use Rattle.std.specs.Prelude.{◌≡◌, ℕ, refl}
use Rattle.std.proofs.Common.{ap, subst, arith}
use Rattle.std.proofs.lemmas.Bool.Decides.{nat_tests}
use Rattle.std.proofs.lemmas.Cmp.{nat_cmp_total, on_total, then_total, tied_itself}
use Rattle.std.specs.Cmp.{IsTotalOrder, both_ways, Equal-is}
use Rattle.std.specs.Ordering.{nat_cmp, ordering_then, is_eq, eq_by_cmp}
use Rattle.std.specs.declared.cmp.Ordering.{Ordering}
use Rattle.std.specs.declared.cmp.Ordering.TheVariants.{Less, Equal, Greater}
use Rattle.keys.specs.Ranges.{month_index}
use Rattle.contracts.specs.Ladder.{ladder, by_month, kind_rank, strike_rank, underlying_rank}
use Rattle.contracts.specs.Parts.{root_of, month_of}
use Rattle.contracts.specs.Same.{same_contract}
use Rattle.contracts.specs.Alike.{contract_decides}
use Rattle.contracts.specs.contracts.contract.ContractPartialEq.TheImpl as contract
use Rattle.contracts.specs.declared.contract.Contract.{Contract}

by_level : (f : Contract → ℕ) → IsTotalOrder (λ x y. nat_cmp (f x) (f y))
by_level f = on_total f nat_cmp_total

pub ladder_total : IsTotalOrder ladder
ladder_total =
    then_total
    (then_total
    (then_total
    (then_total
    (then_total (by_level (λ c. (root_of c).first)) (then_total (by_level (λ c. (root_of c).second)) (by_level (λ c. (root_of c).third))))
    (by_level kind_rank))
    (by_level (λ c. month_index (month_of c).year (month_of c).month)))
    (by_level strike_rank))
    (by_level underlying_rank)

both_equal : (a b : Ordering) → ordering_then a b ≡ Equal → (a ≡ Equal) × (b ≡ Equal)
both_equal Less b e = let z : ◌≡◌ {A = ℕ} 0 1 = cc in absurd (omega arith)
both_equal Equal b e = (refl, e)
both_equal Greater b e = let z : ◌≡◌ {A = ℕ} 0 1 = cc in absurd (omega arith)

pub number_same : (a b : ℕ) → nat_cmp a b ≡ Equal → a ≡ b
number_same a b e = grind (arith, nat_tests)

pub ladder_same : (x y : Contract) → ladder x y ≡ Equal → x ≡ y
ladder_same x y e =
    let h5 = both_equal _ (nat_cmp (underlying_rank x) (underlying_rank y)) e in
    let h4 = both_equal _ (nat_cmp (strike_rank x) (strike_rank y)) h5.0 in
    let h3 = both_equal _ (by_month (month_of x) (month_of y)) h4.0 in
    let h2 = both_equal _ (nat_cmp (kind_rank x) (kind_rank y)) h3.0 in
    let h1 = both_equal (nat_cmp (root_of x).first (root_of y).first) _ h2.0 in
    let h0 = both_equal (nat_cmp (root_of x).second (root_of y).second) (nat_cmp (root_of x).third (root_of y).third) h1.1 in
    same_contract x y
    (record {
      first = number_same _ _ h1.0;
      second = number_same _ _ h0.0;
      third = number_same _ _ h0.1;
      kind = number_same _ _ h2.1;
      month = number_same _ _ h3.1;
      strike = number_same _ _ h4.1;
      underlying = number_same _ _ h5.1;
    })

-- `==` holds exactly where ladder order tells no difference
pub ladder_equal : (x y : Contract) → contract.ghosts.eq x y ≡ eq_by_cmp ladder x y
ladder_equal x y =
    both_ways (contract.ghosts.eq x y) (eq_by_cmp ladder x y)
    (λ e. ap is_eq (subst (λ (z : Contract). ladder x z ≡ Equal) ((contract_decides x y).0 e) (tied_itself ladder_total x)))
    (λ e. (contract_decides x y).1 (ladder_same x y ((Equal-is (ladder x y)).0 e)))
