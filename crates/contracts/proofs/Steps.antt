-- The derived orders of a contract's parts, one after another, are ladder order. Assumes nothing.
use Rattle.std.specs.Prelude.{◌≡◌, ℕ, ◌+◌, refl}
use Rattle.std.proofs.Common.{◌∙◌, arith}
use Rattle.std.proofs.lemmas.Bool.Decides.{nat_tests}
use Rattle.std.specs.Option.{option_cmp}
use Rattle.std.specs.Ordering.{nat_cmp, ordering_then}
use Rattle.std.specs.declared.cmp.Ordering.{Ordering}
use Rattle.std.specs.declared.cmp.Ordering.TheVariants.{Less, Equal, Greater}
use Rattle.keys.specs.Ranges.{month_index}
use Rattle.keys.specs.Same.{by_index}
use Rattle.keys.specs.declared.month.Month.{Month}
use Rattle.keys.specs.declared.strike.Strike.{Strike}
use Rattle.keys.specs.contracts.month.MonthOrd.TheImpl as month
use Rattle.keys.specs.contracts.strike.StrikeOrd.TheImpl as strike
use Rattle.contracts.specs.Ladder.{ladder, by_month, underlying_rank}
use Rattle.contracts.specs.Parts.{root_of, kind_of, month_of, strike_of, underlying_of}
use Rattle.contracts.specs.declared.root.Root.{Root}
use Rattle.contracts.specs.declared.contract.Right.{Right}
use Rattle.contracts.specs.declared.contract.Right.TheVariants.{Call, Put}
use Rattle.contracts.specs.declared.contract.Underlying.{Underlying}
use Rattle.contracts.specs.declared.contract.Underlying.TheVariants as on
use Rattle.contracts.specs.declared.contract.Contract.{Contract}
use Rattle.contracts.specs.declared.contract.Contract.TheVariants as contract
use Rattle.contracts.specs.contracts.root.RootOrd.TheImpl as root
use Rattle.contracts.specs.contracts.contract.KindOrd.TheImpl as kind
use Rattle.contracts.specs.contracts.contract.UnderlyingOrd.TheImpl as underlying

-- five orders in a row
abbrev pub five : Ordering → Ordering → Ordering → Ordering → Ordering → Ordering
five a b c d e = ordering_then (ordering_then (ordering_then (ordering_then a b) c) d) e

-- what stands behind the first two counts only where they tell no difference
less : (a c d e f g h : Ordering) → five a Less c d e ≡ five a Less f g h
less Less c d e f g h = refl
less Equal c d e f g h = refl
less Greater c d e f g h = refl

greater : (a c d e f g h : Ordering) → five a Greater c d e ≡ five a Greater f g h
greater Less c d e f g h = refl
greater Equal c d e f g h = refl
greater Greater c d e f g h = refl

-- the spot first, then by month
abbrev underlying_number : Underlying → ℕ
underlying_number on.Spot = 0
underlying_number (on.Future future) = 1 + month_index future.year future.month

by_number : (x y : Underlying) → underlying.ghosts.cmp x y ≡ nat_cmp (underlying_number x) (underlying_number y)
by_number on.Spot on.Spot = refl
by_number on.Spot (on.Future m) = grind (arith, nat_tests)
by_number (on.Future m) on.Spot = grind (arith, nat_tests)
by_number (on.Future m) (on.Future n) = by_index m n ∙ grind (arith, nat_tests)

-- two options of one right
module _ (r q : Root) (m n : Month) (s t : Strike) where
  levels : (u v : Underlying) → five (root.ghosts.cmp r q) Equal (month.ghosts.cmp m n) (nat_cmp s.hundredths t.hundredths) (underlying.ghosts.cmp u v) ≡ five (root.ghosts.cmp r q) Equal (by_month m n) (nat_cmp s.hundredths t.hundredths) (nat_cmp (underlying_number u) (underlying_number v))
  levels u v = λ i. five (root.ghosts.cmp r q) Equal (by_index m n i) (nat_cmp s.hundredths t.hundredths) (by_number u v i)

numbered : (g : Right) (r : Root) (m : Month) (s : Strike) (u : Underlying) → underlying_number u ≡ underlying_rank (contract.Option g r m s u)
numbered g r m s on.Spot = refl
numbered g r m s (on.Future f) = refl

pub steps : (x y : Contract) → five (root.ghosts.cmp (root_of x) (root_of y)) (kind.ghosts.cmp (kind_of x) (kind_of y)) (month.ghosts.cmp (month_of x) (month_of y)) (option_cmp strike.ghosts.cmp (strike_of x) (strike_of y)) (option_cmp underlying.ghosts.cmp (underlying_of x) (underlying_of y)) ≡ ladder x y
steps (contract.Future r m) (contract.Future q n) = λ i. five (root.ghosts.cmp r q) Equal (by_index m n i) Equal Equal
steps (contract.Future r m) (contract.Option Call q n t v) = less (root.ghosts.cmp r q) _ _ _ _ _ _
steps (contract.Future r m) (contract.Option Put q n t v) = less (root.ghosts.cmp r q) _ _ _ _ _ _
steps (contract.Option Call r m s u) (contract.Future q n) = greater (root.ghosts.cmp r q) _ _ _ _ _ _
steps (contract.Option Put r m s u) (contract.Future q n) = greater (root.ghosts.cmp r q) _ _ _ _ _ _
steps (contract.Option Call r m s u) (contract.Option Call q n t v) =
    levels r q m n s t u v ∙ (λ i. five (root.ghosts.cmp r q) Equal (by_month m n) (nat_cmp s.hundredths t.hundredths) (nat_cmp (numbered Call r m s u i) (numbered Call q n t v i)))
steps (contract.Option Call r m s u) (contract.Option Put q n t v) = less (root.ghosts.cmp r q) _ _ _ _ _ _
steps (contract.Option Put r m s u) (contract.Option Call q n t v) = greater (root.ghosts.cmp r q) _ _ _ _ _ _
steps (contract.Option Put r m s u) (contract.Option Put q n t v) =
    levels r q m n s t u v ∙ (λ i. five (root.ghosts.cmp r q) Equal (by_month m n) (nat_cmp s.hundredths t.hundredths) (nat_cmp (numbered Put r m s u i) (numbered Put q n t v i)))
