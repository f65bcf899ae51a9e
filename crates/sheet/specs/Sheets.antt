-- What becomes of the records that a sheet is made from. Assumes nothing.
use Rattle.std.specs.Prelude.{◌≡◌, ℕ, ◌-◌, ◌<◌, ◌≤◌, List, map, length, take, Ok, Err, vec_items, Decides, Result, slice_index_or}
use Rattle.std.specs.List.{AllByRecursion}
use Rattle.contracts.specs.declared.leg.Leg.{Leg}
use Rattle.catalogue.specs.Entries.{Entry, numbered, suits}
use Rattle.catalogue.specs.declared.refusal.CatalogueRefusal.{CatalogueRefusal}
use Rattle.catalogue.specs.declared.refusal.CatalogueRefusal.TheVariants.{OutOfForm, TooManyRecords, NoEntryFits}
use Rattle.sheet.specs.Forms.{InForm}
use Rattle.sheet.specs.Meaning.{meaning}
use Rattle.sheet.specs.Meets.{Meets}
use Rattle.sheet.specs.Rules.{Rule, rule_of}
use Rattle.sheet.specs.declared.sheet.Sheet.{Sheet}

-- what a sheet means: the entries of its records, in their order
abbrev pub entries_of : Sheet → List Entry
entries_of sheet = map meaning (map rule_of (vec_items sheet.records))

-- record n, numbered from 1, is out of form, and all before it are in form
pub record FirstOutOfForm (rules : List Rule) (n : ℕ) : Type 0 where
  pub low : 1 ≤ n
  pub high : n ≤ length rules
  pub before : AllByRecursion InForm (take (n - 1) rules)
  pub faulty : (none : Rule) → InForm (slice_index_or rules (n - 1) none) → ⊥

-- an entry fits a row exactly where the row is what the record of that number asks for
abbrev pub FitsAsTold : List Rule → List Entry → Type 0
FitsAsTold rules entries =
    (n : ℕ) (none : Rule) (row : List Leg) → 1 ≤ n → n ≤ length rules → Decides (suits (numbered entries n) row) (Meets (slice_index_or rules (n - 1) none) row)

-- a sheet of these records
pub record Made (rules : List Rule) (sheet : Sheet) : Type 0 where
  pub in_form : AllByRecursion InForm rules
  pub few : length rules ≤ 64
  pub entries : entries_of sheet ≡ map meaning rules
  pub means : FitsAsTold rules (entries_of sheet)

-- the outcome for these records: a record out of form is told before there being too many
abbrev pub SheetOf : List Rule → Result Sheet CatalogueRefusal → Type 0
SheetOf rules (Ok sheet) = Made rules sheet
SheetOf rules (Err (OutOfForm n)) = FirstOutOfForm rules n
SheetOf rules (Err TooManyRecords) = AllByRecursion InForm rules × (64 < length rules)
SheetOf rules (Err NoEntryFits) = ⊥
