-- What `==` calls equal is one contract: a range that holds adds nothing. Assumes nothing.
use Rattle.std.specs.Prelude.{◌≡◌, ℕ, Bool, true, ◌&&◌, ◌==◌, Decides, refl}
use Rattle.std.proofs.Common.{ap, subst}
use Rattle.std.proofs.lemmas.Bool.{false≢true, and_from}
use Rattle.std.specs.Cmp.{first_so, second_so, unsigned_Decides}
use Rattle.keys.specs.declared.month.Month.{Month}
use Rattle.keys.specs.declared.strike.Strike.{Strike}
use Rattle.keys.specs.Same.{same_strike, same_month}
use Rattle.contracts.specs.Same.{same_root_lem}
use Rattle.contracts.specs.declared.root.Root.{Root}
use Rattle.contracts.specs.declared.contract.Right.{Right}
use Rattle.contracts.specs.declared.contract.Right.TheVariants.{Call, Put}
use Rattle.contracts.specs.declared.contract.Underlying.{Underlying}
use Rattle.contracts.specs.declared.contract.Underlying.TheVariants as on
use Rattle.contracts.specs.declared.contract.Contract.{Contract}
use Rattle.contracts.specs.declared.contract.Contract.TheVariants.{Future, Option}
use Rattle.contracts.specs.contracts.contract.ContractPartialEq.TheImpl as contract
use Rattle.contracts.specs.contracts.contract.UnderlyingPartialEq.TheImpl as underlying
use Rattle.contracts.specs.contracts.contract.RightPartialEq.TheImpl as right
use Rattle.contracts.specs.contracts.root.RootPartialEq.TheImpl as root
use Rattle.keys.specs.contracts.month.MonthPartialEq.TheImpl as month
use Rattle.keys.specs.contracts.strike.StrikePartialEq.TheImpl as strike

one : (a b : ℕ) → (a == b) ≡ true → a ≡ b
one a b = (unsigned_Decides a b).0

root_alike : (x y : Root) → root.ghosts.eq x y ≡ true → x ≡ y
root_alike x y e =
    let rest = second_so (x.first == y.first) (x.second == y.second && x.third == y.third) e in
    same_root_lem x y
    (one _ _ (first_so (x.first == y.first) (x.second == y.second && x.third == y.third) e))
    (one _ _ (first_so (x.second == y.second) (x.third == y.third) rest))
    (one _ _ (second_so (x.second == y.second) (x.third == y.third) rest))

month_alike : (x y : Month) → month.ghosts.eq x y ≡ true → x ≡ y
month_alike x y e =
    same_month x y (one _ _ (first_so (x.year == y.year) (x.month == y.month) e)) (one _ _ (second_so (x.year == y.year) (x.month == y.month) e))

strike_alike : (x y : Strike) → strike.ghosts.eq x y ≡ true → x ≡ y
strike_alike x y e = same_strike x y (one _ _ e)

right_alike : (x y : Right) → right.ghosts.eq x y ≡ true → x ≡ y
right_alike Call Call e = refl
right_alike Call Put e = absurd (false≢true e)
right_alike Put Call e = absurd (false≢true e)
right_alike Put Put e = refl

underlying_alike : (x y : Underlying) → underlying.ghosts.eq x y ≡ true → x ≡ y
underlying_alike on.Spot on.Spot e = refl
underlying_alike on.Spot (on.Future m) e = absurd (false≢true e)
underlying_alike (on.Future m) on.Spot e = absurd (false≢true e)
underlying_alike (on.Future m) (on.Future n) e = ap on.Future (month_alike m n e)

contract_alike : (x y : Contract) → contract.ghosts.eq x y ≡ true → x ≡ y
contract_alike (Future r m) (Future q n) e =
    let first = root_alike r q (first_so (root.ghosts.eq r q) (month.ghosts.eq m n) e) in
    let second = month_alike m n (second_so (root.ghosts.eq r q) (month.ghosts.eq m n) e) in
    λ i. Future (first i) (second i)
contract_alike (Future r m) (Option h q n t v) e = absurd (false≢true e)
contract_alike (Option g r m s u) (Future q n) e = absurd (false≢true e)
contract_alike (Option g r m s u) (Option h q n t v) e =
    let last = strike.ghosts.eq s t && underlying.ghosts.eq u v in
    let past_root = month.ghosts.eq m n && last in
    let past_right = root.ghosts.eq r q && past_root in
    let e1 = second_so (right.ghosts.eq g h) past_right e in
    let e2 = second_so (root.ghosts.eq r q) past_root e1 in
    let e3 = second_so (month.ghosts.eq m n) last e2 in
    let a = right_alike g h (first_so (right.ghosts.eq g h) past_right e) in
    let b = root_alike r q (first_so (root.ghosts.eq r q) past_root e1) in
    let c = month_alike m n (first_so (month.ghosts.eq m n) last e2) in
    let d = strike_alike s t (first_so (strike.ghosts.eq s t) (underlying.ghosts.eq u v) e3) in
    let f = underlying_alike u v (second_so (strike.ghosts.eq s t) (underlying.ghosts.eq u v) e3) in
    λ i. Option (a i) (b i) (c i) (d i) (f i)

itself : (n : ℕ) → (n == n) ≡ true
itself n = (unsigned_Decides n n).1 refl

root_itself : (x : Root) → root.ghosts.eq x x ≡ true
root_itself x = and_from _ _ (itself x.first) (and_from _ _ (itself x.second) (itself x.third))

month_itself : (x : Month) → month.ghosts.eq x x ≡ true
month_itself x = and_from _ _ (itself x.year) (itself x.month)

right_itself : (x : Right) → right.ghosts.eq x x ≡ true
right_itself Call = refl
right_itself Put = refl

underlying_itself : (x : Underlying) → underlying.ghosts.eq x x ≡ true
underlying_itself on.Spot = refl
underlying_itself (on.Future m) = month_itself m

contract_itself : (x : Contract) → contract.ghosts.eq x x ≡ true
contract_itself (Future r m) = and_from _ _ (root_itself r) (month_itself m)
contract_itself (Option g r m s u) =
    and_from _ _ (right_itself g) (and_from _ _ (root_itself r) (and_from _ _ (month_itself m) (and_from _ _ (itself s.hundredths) (underlying_itself u))))

module _ {X : Type 0} (eq : X → X → Bool) (alike : (x y : X) → eq x y ≡ true → x ≡ y) (itself : (x : X) → eq x x ≡ true) where
  told_by_eq : (x y : X) → Decides (eq x y) (x ≡ y)
  told_by_eq x y = (alike x y, λ e. subst (λ (z : X). eq x z ≡ true) e (itself x))

pub root_decides : (x y : Root) → Decides (root.ghosts.eq x y) (x ≡ y)
root_decides = told_by_eq root.ghosts.eq root_alike root_itself

pub underlying_decides : (x y : Underlying) → Decides (underlying.ghosts.eq x y) (x ≡ y)
underlying_decides = told_by_eq underlying.ghosts.eq underlying_alike underlying_itself

pub contract_decides : (x y : Contract) → Decides (contract.ghosts.eq x y) (x ≡ y)
contract_decides = told_by_eq contract.ghosts.eq contract_alike contract_itself
