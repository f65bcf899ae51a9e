-- What a record means: an entry, whose yes or no is computed here. Assumes nothing.
use Rattle.std.specs.Prelude.{ℕ, ◌+◌, Bool, true, false, not, ◌&&◌, ◌||◌, List, [], ◌∷◌, length, Some, None, Option, ◌==◌}
use Rattle.std.specs.List.{list_all, zip}
use Rattle.std.specs.Ordering.{nat_cmp, is_lt, is_eq, is_gt, is_ne, is_some_and}
use Rattle.std.specs.declared.cmp.Ordering.{Ordering}
use Rattle.contracts.specs.Parts.{root_of, kind_of, underlying_of}
use Rattle.contracts.specs.declared.contract.Underlying.{Underlying}
use Rattle.contracts.specs.declared.leg.Leg.{Leg}
use Rattle.contracts.specs.contracts.contract.KindPartialEq.TheImpl as kind
use Rattle.contracts.specs.contracts.contract.UnderlyingPartialEq.TheImpl as underlying
use Rattle.contracts.specs.contracts.plain.SidePartialEq.TheImpl as side
use Rattle.contracts.specs.contracts.root.RootPartialEq.TheImpl as root
use Rattle.catalogue.specs.Entries.{Entry}
use Rattle.sheet.specs.Meets.{read_role}
use Rattle.sheet.specs.Rules.{Rule}
use Rattle.sheet.specs.declared.record.Comparison.{Comparison}
use Rattle.sheet.specs.declared.record.Comparison.TheVariants.{Before, Same, After, Different}
use Rattle.sheet.specs.declared.record.Relation.{Relation}
use Rattle.sheet.specs.declared.record.Relation.TheVariants.{Compare, EvenSteps}
use Rattle.sheet.specs.declared.record.Role.{Role}

-- equality is that of `==`
abbrev pub can_play : Role → Leg → Bool
can_play role leg = side.ghosts.eq leg.side role.side && kind.ghosts.eq (kind_of leg.contract) role.kind && leg.ratio == role.ratio

-- as many legs as roles, and each leg plays its own
abbrev pub all_play : List Role → List Leg → Bool
all_play roles row = length row == length roles && list_all (λ p. can_play p.0 p.1) (zip roles row)

-- a comparison allows an order
abbrev pub allows : Comparison → Ordering → Bool
allows Before order = is_lt order
allows Same order = is_eq order
allows After order = is_gt order
allows Different order = is_ne order

-- two options have one underlying; a future, which has none, does not differ from anything
abbrev pub shared : Option Underlying → Option Underlying → Bool
shared None v = true
shared (Some u) None = true
shared (Some u) (Some v) = underlying.ghosts.eq u v

-- two legs have one root, and one underlying if both are options
abbrev pub agrees : Leg → Leg → Bool
agrees x y = root.ghosts.eq (root_of x.contract) (root_of y.contract) && shared (underlying_of x.contract) (underlying_of y.contract)

-- any two agree
abbrev pub all_agree : List Leg → Bool
all_agree [] = true
all_agree (x ∷ row) = list_all (agrees x) row && all_agree row

-- none where either is not there
abbrev pub ordered : Option ℕ → Option ℕ → Option Ordering
ordered None y = None
ordered (Some x) None = None
ordered (Some x) (Some y) = Some (nat_cmp x y)

abbrev pub halfway : ℕ → ℕ → ℕ → Bool
halfway a b c = a + c == b + b

-- not where one is not there
abbrev pub steps_even : Option ℕ → Option ℕ → Option ℕ → Bool
steps_even None y z = false
steps_even (Some x) None z = false
steps_even (Some x) (Some y) None = false
steps_even (Some x) (Some y) (Some z) = halfway x y z

abbrev pub relation_holds : List Leg → Relation → Bool
relation_holds row (Compare on first comparison second) = is_some_and (allows comparison) (ordered (read_role row on first) (read_role row on second))
relation_holds row (EvenSteps on first second third) = steps_even (read_role row on first) (read_role row on second) (read_role row on third)

abbrev pub mark_kept : Bool → List Leg → Bool
mark_kept marked row = not marked || all_agree row

abbrev pub accepts : Rule → List Leg → Bool
accepts rule row = all_play rule.roles row && mark_kept rule.marked row && list_all (relation_holds row) rule.relations

-- the entry of a record
abbrev pub meaning : Rule → Entry
meaning rule = record { type = rule.strategy; roles = length rule.roles; accepts = accepts rule }
