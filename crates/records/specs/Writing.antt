-- The text of a record. Assumes nothing.
use Rattle.std.specs.Prelude.{◌≡◌, ℕ, ◌^◌, ◌<◌, false, List, [], ◌∷◌, ◌++◌, Some, Ok, Err, codes, Option, Result, ◌≢◌}
use Rattle.std.specs.Fmt.{◌++?◌}
use Rattle.std.specs.List.{AllByRecursion, flat_map}
use Rattle.notation.specs.Words.{space}
use Rattle.sheet.specs.Rules.{Rule, rule_of}
use Rattle.sheet.specs.Writing.{role_text, relation_text}
use Rattle.sheet.specs.declared.record.Record.{Record}
use Rattle.sheet.specs.declared.record.Relation.{Relation}
use Rattle.sheet.specs.declared.record.Relation.TheVariants.{Compare, EvenSteps}
use Rattle.records.specs.Letters.{mark_text}
use Rattle.records.specs.declared.trouble.Unread.{Unread}
use Rattle.records.specs.declared.trouble.Unread.TheVariants.{Trouble, NoMemory}

-- the text of each, with a space before it
abbrev pub spaced : {X : Type 0} → (X → List ℕ) → List X → List ℕ
spaced text xs = flat_map (λ x. codes " " ++ text x) xs

-- the same where one may have no text: then there is none
abbrev pub shown : {X : Type 0} → (X → Option (List ℕ)) → List X → Option (List ℕ)
shown text [] = Some []
shown text (x ∷ xs) = Some (codes " ") ++? text x ++? shown text xs

-- ` MARK ROLE.. RELATION..`
abbrev pub behind_type : Rule → List ℕ
behind_type rule = codes " " ++ (mark_text rule.marked ++ (spaced role_text rule.roles ++ spaced relation_text rule.relations))

-- TYPE MARK ROLE.. RELATION..
unfoldable pub record_text : Rule → List ℕ
record_text rule = (rule.strategy.first ∷ rule.strategy.second ∷ []) ++ behind_type rule

-- the numbers of a relation fit 32 bits
abbrev pub RelationFits : Relation → Type 0
RelationFits (Compare aspect first comparison second) = (first < 2 ^ 32) × (second < 2 ^ 32)
RelationFits (EvenSteps aspect first second third) = (first < 2 ^ 32) × (second < 2 ^ 32) × (third < 2 ^ 32)

-- a rule that can be written: no character of its type is a space, and its numbers fit 32 bits
pub record Writable (rule : Rule) : Type 0 where
  pub first : space rule.strategy.first ≡ false
  pub second : space rule.strategy.second ≡ false
  pub roles : AllByRecursion (λ role. role.ratio < 2 ^ 32) rule.roles
  pub relations : AllByRecursion RelationFits rule.relations

-- the text that was written of a rule is read as that rule
abbrev pub ReadBack : List ℕ → Result Record Unread → Type 0
ReadBack text (Ok r) = (rule : Rule) → Writable rule → text ≡ record_text rule → rule_of r ≡ rule
ReadBack text (Err (Trouble t)) = (rule : Rule) → Writable rule → text ≢ record_text rule
ReadBack text (Err NoMemory) = Unit {0}
