-- Which records are in form. Assumes nothing.
use Rattle.std.specs.Prelude.{◌≡◌, ℕ, ◌≤◌, true, List, length, ◌≢◌}
use Rattle.std.specs.List.{AllByRecursion, AllByRecursion-prop}
use Rattle.std.proofs.Props.{props}
use Rattle.contracts.specs.Ranges.{code_character}
use Rattle.sheet.specs.Rules.{Rule}
use Rattle.sheet.specs.declared.record.Relation.{Relation}
use Rattle.sheet.specs.declared.record.Relation.TheVariants.{Compare, EvenSteps}
use Rattle.sheet.specs.declared.record.Role.{Role}

-- the ratio of a role is 1 to 9
abbrev pub RatioInForm : Role → Type 0
RatioInForm role = (1 ≤ role.ratio) × (role.ratio ≤ 9)

-- k is one of so many roles, which are numbered from 1
abbrev pub NamesRole : ℕ → ℕ → Type 0
NamesRole count k = (1 ≤ k) × (k ≤ count)

-- a relation names roles of its own record, all of them different
abbrev pub RelationInForm : ℕ → Relation → Type 0
RelationInForm count (Compare aspect first comparison second) = NamesRole count first × NamesRole count second × (first ≢ second)
RelationInForm count (EvenSteps aspect first second third) =
    NamesRole count first × NamesRole count second × NamesRole count third × (first ≢ second) × (first ≢ third) × (second ≢ third)

pub record InForm (rule : Rule) : Type 0 where
  pub type_first : code_character rule.strategy.first ≡ true
  pub type_second : code_character rule.strategy.second ≡ true
  pub two_roles : 2 ≤ length rule.roles
  pub four_roles : length rule.roles ≤ 4
  pub ratios : AllByRecursion RatioInForm rule.roles
  pub six_relations : length rule.relations ≤ 6
  pub own_roles : AllByRecursion (RelationInForm (length rule.roles)) rule.relations

-- a record is in form in one way at most, so a sheet is no more than its records
RelationInForm-prop : (count : ℕ) (x : Relation) → IsProp (RelationInForm count x)
RelationInForm-prop count (Compare aspect first comparison second) = Prim.hlevel props
RelationInForm-prop count (EvenSteps aspect first second third) = Prim.hlevel props

pub InForm-prop : (rule : Rule) → IsProp (InForm rule)
InForm-prop rule = Prim.hlevel (props, RelationInForm-prop)

pub all_in_form-prop : (rules : List Rule) → IsProp (AllByRecursion InForm rules)
all_in_form-prop rules = AllByRecursion-prop InForm InForm-prop rules
