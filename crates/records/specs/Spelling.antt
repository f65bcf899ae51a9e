-- Which words spell which record. `codes` is a text that is written out. Assumes nothing.
use Rattle.std.specs.Prelude.{◌≡◌, ℕ, List, [], ◌∷◌, ◌++◌, Ok, Err, codes, Result}
use Rattle.std.specs.List.{AllZip}
use Rattle.contracts.specs.Letters.{side_text, kind_text}
use Rattle.notation.specs.Spelling.{Number}
use Rattle.sheet.specs.Letters.{aspect_text, comparison_text}
use Rattle.sheet.specs.Rules.{Rule, rule_of}
use Rattle.sheet.specs.declared.record.Record.{Record}
use Rattle.sheet.specs.declared.record.Relation.{Relation}
use Rattle.sheet.specs.declared.record.Relation.TheVariants.{Compare, EvenSteps}
use Rattle.sheet.specs.declared.record.Role.{Role}
use Rattle.records.specs.Letters.{mark_text}
use Rattle.records.specs.declared.trouble.Unread.{Unread}
use Rattle.records.specs.declared.trouble.Unread.TheVariants.{Trouble, NoMemory}

-- the side, the ratio and the kind, as B1C
abbrev pub RoleSpelled : Role → List ℕ → Type 0
RoleSpelled role word =
    (ratio : List ℕ) × Number role.ratio ratio × (word ≡ side_text role.side ++ (ratio ++ kind_text role.kind))

-- `s:1<2`, and `s:1~2~3` for even steps
abbrev pub RelationSpelled : Relation → List ℕ → Type 0
RelationSpelled (Compare aspect first comparison second) word =
    (a : List ℕ) × (b : List ℕ) × Number first a × Number second b × (word ≡ aspect_text aspect ++ (codes ":" ++ (a ++ (comparison_text comparison ++ b))))
RelationSpelled (EvenSteps aspect first second third) word =
    (a : List ℕ) × (b : List ℕ) × (c : List ℕ) × Number first a × Number second b × Number third c × (word ≡ aspect_text aspect ++ (codes ":" ++ (a ++ (codes "~" ++ (b ++ (codes "~" ++ c))))))

-- the type's two characters, the mark, a word for each role, and behind them one for each relation
pub record RecordSpelled (rule : Rule) (ws : List (List ℕ)) : Type 0 where
  pub role_words : List (List ℕ)
  pub relation_words : List (List ℕ)
  pub roles_are : AllZip RoleSpelled rule.roles role_words
  pub relations_are : AllZip RelationSpelled rule.relations relation_words
  pub all : ws ≡ (rule.strategy.first ∷ rule.strategy.second ∷ []) ∷ mark_text rule.marked ∷ (role_words ++ relation_words)

-- the record that was read is the one that the words spell, and there is none where they cannot be read
abbrev pub ReadSpelled : List (List ℕ) → Result Record Unread → Type 0
ReadSpelled ws (Ok r) = RecordSpelled (rule_of r) ws × ((rule : Rule) → RecordSpelled rule ws → rule ≡ rule_of r)
ReadSpelled ws (Err (Trouble t)) = (rule : Rule) → RecordSpelled rule ws → ⊥
ReadSpelled ws (Err NoMemory) = Unit {0}
