-- What is read of the words of a record. Assumes nothing.
use Rattle.std.specs.Prelude.{◌≡◌, ℕ, ◌+◌, Bool, List, [], ◌∷◌, length, Some, None, Ok, Err, Option, Result}
use Rattle.std.specs.Option.{ok_or}
use Rattle.catalogue.specs.declared.strategy.StrategyType.{StrategyType}
use Rattle.sheet.specs.Rules.{Rule, rule_of}
use Rattle.sheet.specs.declared.record.Record.{Record}
use Rattle.sheet.specs.declared.record.Relation.{Relation}
use Rattle.sheet.specs.declared.record.Role.{Role}
use Rattle.records.specs.Terms.{read_type, read_mark, read_role, read_relation}
use Rattle.records.specs.declared.trouble.RecordPart.{RecordPart}
use Rattle.records.specs.declared.trouble.RecordPart.TheVariants.{Missing, «Type», Mark, Term}
use Rattle.records.specs.declared.trouble.RecordTrouble.{RecordTrouble}
use Rattle.records.specs.declared.trouble.Unread.{Unread}
use Rattle.records.specs.declared.trouble.Unread.TheVariants.{Trouble, NoMemory}

-- the trouble with word number `word`
abbrev pub trouble_at : ℕ → RecordPart → RecordTrouble
trouble_at word part = record { word = word; part = part }

-- what is read next, if the part before it was read
abbrev pub followed : {X Y : Type 0} → Result X RecordTrouble → (X → Result Y RecordTrouble) → Result Y RecordTrouble
followed (Ok x) next = next x
followed (Err t) next = Err t

-- one role more at the front; where the word was none, it and all behind it are left
abbrev pub role_first : List (List ℕ) → Option Role → List Role × List (List ℕ) → List Role × List (List ℕ)
role_first ws (Some role) got = (role ∷ got.0, got.1)
role_first ws None got = ([], ws)

-- the roles at the front, and the words from the first that is none
abbrev pub take_roles : List (List ℕ) → List Role × List (List ℕ)
take_roles [] = ([], [])
take_roles (w ∷ ws) = role_first (w ∷ ws) (read_role w) (take_roles ws)

-- all words from number `word` on are relations
abbrev pub read_relations : ℕ → List (List ℕ) → Result (List Relation) RecordTrouble
read_relations word [] = Ok []
read_relations word (w ∷ ws) =
    followed (ok_or (read_relation w) (trouble_at word Term))
    (λ relation. followed (read_relations (word + 1) ws) (λ relations. Ok (relation ∷ relations)))

-- the roles, and behind them the relations
abbrev pub read_terms : StrategyType → Bool → List Role × List (List ℕ) → Result Rule RecordTrouble
read_terms strategy marked got =
    followed (read_relations (length got.0 + 3) got.1)
    (λ relations. Ok (record { strategy = strategy; marked = marked; roles = got.0; relations = relations }))

-- the second word, and those behind it
abbrev pub read_marked : StrategyType → List (List ℕ) → Result Rule RecordTrouble
read_marked strategy [] = Err (trouble_at 2 Missing)
read_marked strategy (w ∷ ws) =
    followed (ok_or (read_mark w) (trouble_at 2 Mark)) (λ marked. read_terms strategy marked (take_roles ws))

-- TYPE MARK ROLE.. RELATION..
abbrev pub read_words : List (List ℕ) → Result Rule RecordTrouble
read_words [] = Err (trouble_at 1 Missing)
read_words (w ∷ ws) = followed (ok_or (read_type w) (trouble_at 1 «Type»)) (λ strategy. read_marked strategy ws)

-- the record that words say, or the first word that cannot be read
unfoldable pub read_record : List (List ℕ) → Result Rule RecordTrouble
read_record ws = read_words ws

-- what was read is what the words say, and a trouble is the one that they have; want of memory says nothing of them
abbrev pub Told : {X Y : Type 0} → (X → Y) → Result Y RecordTrouble → Result X Unread → Type 0
Told seen said (Ok x) = said ≡ Ok (seen x)
Told seen said (Err (Trouble t)) = said ≡ Err t
Told seen said (Err NoMemory) = Unit {0}

-- the record that was read of words, or the trouble with them
abbrev pub ReadAs : List (List ℕ) → Result Record Unread → Type 0
ReadAs ws r = Told rule_of (read_record ws) r
