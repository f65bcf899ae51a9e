-- A record as its reader sees it. Assumes nothing.
use Rattle.std.specs.Prelude.{Bool, List, vec_items}
use Rattle.catalogue.specs.declared.strategy.StrategyType.{StrategyType}
use Rattle.sheet.specs.declared.record.Record.{Record}
use Rattle.sheet.specs.declared.record.Relation.{Relation}
use Rattle.sheet.specs.declared.record.Role.{Role}

-- what a record says: its lists, without the memory that holds them
pub record Rule : Type 0 where
  pub strategy : StrategyType
  pub marked : Bool
  pub roles : List Role
  pub relations : List Relation

abbrev pub rule_of : Record → Rule
rule_of r = record { strategy = r.strategy; marked = r.marked; roles = vec_items r.roles; relations = vec_items r.relations }
