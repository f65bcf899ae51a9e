-- Which rows of legs a record asks for. Assumes nothing.
use Rattle.std.specs.Prelude.{◌≡◌, ℕ, ◌<◌, true, List, Option, Some, IfSome, IsSomeAnd, pos, ◌-ℤ◌}
use Rattle.std.specs.List.{AllByRecursion, AllZip}
use Rattle.std.specs.Option.{option_map}
use Rattle.keys.specs.Ranges.{month_index}
use Rattle.contracts.specs.Parts.{root_of, kind_of, month_of, strike_of, underlying_of}
use Rattle.contracts.specs.declared.contract.Contract.{Contract}
use Rattle.contracts.specs.declared.contract.Underlying.{Underlying}
use Rattle.contracts.specs.declared.leg.Leg.{Leg}
use Rattle.contracts.specs.declared.root.Root.{Root}
use Rattle.catalogue.specs.Rows.{leg_of}
use Rattle.sheet.specs.Rules.{Rule}
use Rattle.sheet.specs.declared.record.Aspect.{Aspect}
use Rattle.sheet.specs.declared.record.Aspect.TheVariants as aspect
use Rattle.sheet.specs.declared.record.Comparison.{Comparison}
use Rattle.sheet.specs.declared.record.Comparison.TheVariants.{Before, Same, After, Different}
use Rattle.sheet.specs.declared.record.Relation.{Relation}
use Rattle.sheet.specs.declared.record.Relation.TheVariants.{Compare, EvenSteps}
use Rattle.sheet.specs.declared.record.Role.{Role}

-- a leg plays a role where it has its side, its kind and its ratio
pub record Plays (role : Role) (leg : Leg) : Type 0 where
  pub side : leg.side ≡ role.side
  pub kind : kind_of leg.contract ≡ role.kind
  pub ratio : leg.ratio ≡ role.ratio

-- all legs have one root, and all options one underlying
pub record OneMarket (row : List Leg) : Type 0 where
  pub root : Root
  pub underlying : Underlying
  pub of_root : AllByRecursion (λ leg. root_of leg.contract ≡ root) row
  -- a future is on none, so it may stand beside any
  pub on_underlying : AllByRecursion (λ leg. IfSome (underlying_of leg.contract) (λ u. u ≡ underlying)) row

-- what an aspect reads off a contract: the strike in hundredths, which a future has not, or the index of the month
abbrev pub read : Aspect → Contract → Option ℕ
read aspect.Strike c = option_map (λ strike. strike.hundredths) (strike_of c)
read aspect.Month c = Some (month_index (month_of c).year (month_of c).month)

-- the same off the contract of role k
abbrev pub read_role : List Leg → Aspect → ℕ → Option ℕ
read_role row on k = read on (leg_of row k).contract

-- how one number stands to another
abbrev pub Stands : ℕ → Comparison → ℕ → Type 0
Stands a Before b = a < b
Stands a Same b = a ≡ b
Stands a After b = b < a
Stands a Different b = a ≡ b → ⊥

-- both are there, and the first stands to the second as the comparison says
abbrev pub Compared : Option ℕ → Comparison → Option ℕ → Type 0
Compared x comparison y = IsSomeAnd x (λ a. IsSomeAnd y (λ b. Stands a comparison b))

-- all three are there, and the distance from the first to the second is that from the second to the third
abbrev pub Evenly : Option ℕ → Option ℕ → Option ℕ → Type 0
Evenly x y z = IsSomeAnd x (λ a. IsSomeAnd y (λ b. IsSomeAnd z (λ c. pos b -ℤ pos a ≡ pos c -ℤ pos b)))

-- a relation holds of the legs of the roles that it names
abbrev pub Holds : List Leg → Relation → Type 0
Holds row (Compare on first comparison second) = Compared (read_role row on first) comparison (read_role row on second)
Holds row (EvenSteps on first second third) = Evenly (read_role row on first) (read_role row on second) (read_role row on third)

-- a row is what a record asks for
pub record Meets (rule : Rule) (row : List Leg) : Type 0 where
  -- as many legs as roles, and each leg plays its own
  pub roles : AllZip Plays rule.roles row
  pub mark : rule.marked ≡ true → OneMarket row
  pub relations : AllByRecursion (Holds row) rule.relations
