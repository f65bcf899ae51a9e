-- The entries of a sheet, record by record. Assumes nothing.
use Rattle.std.specs.Prelude.{◌≡◌, ℕ, zero, suc, ◌+◌, ◌-◌, ◌<◌, ◌≤◌, ◌⊎◌, List, [], ◌∷◌, map, length, Some, None, Option, MatchOption, take, Decides, slice_index_or, vec_items, refl}
use Rattle.std.proofs.Common.{sym, ap, subst, ◌∙◌, ⊎_elim, arith}
use Rattle.std.specs.List.{AllWithin, AllByRecursion, HoldsAt}
use Rattle.std.proofs.ByRecursion.{all_from_every, All-get_or, All-map, All-weaker}
use Rattle.std.proofs.lemmas.List.{get_or-map, get_or_past, length-map}
use Rattle.catalogue.specs.Entries.{Entry, Sized, Typed, no_entry, numbered, suits}
use Rattle.sheet.specs.Forms.{InForm}
use Rattle.sheet.specs.Meaning.{meaning}
use Rattle.sheet.specs.Meets.{Meets}
use Rattle.sheet.specs.Rules.{Rule, rule_of}
use Rattle.sheet.specs.Sheets.{FirstOutOfForm, FitsAsTold, Made, entries_of}
use Rattle.sheet.specs.declared.record.Record.{Record}
use Rattle.sheet.specs.declared.sheet.Sheet.{Sheet}
use Rattle.sheet.specs.Meeting.{fits_decides}

abbrev pub entries : List Record → List Entry
entries records = map meaning (map rule_of records)

pub length_entries : (records : List Record) → length (entries records) ≡ length records
length_entries records = length-map (map rule_of records) meaning ∙ length-map records rule_of

-- number 0, and each beyond the count, is no entry
pub numbered_none : (records : List Record) (n : ℕ) → (n ≡ 0) ⊎ (length records < n) → numbered (entries records) n ≡ no_entry
numbered_none records n h =
    let e = length_entries records in
    ⊎_elim (λ (z : n ≡ 0). ap (numbered (entries records)) z) (λ (far : length records < n). get_or_past (no_entry ∷ entries records) n no_entry (omega arith)) h

numbered_rule : (rules : List Rule) (n : ℕ) (d : Rule) → 1 ≤ n → n ≤ length rules → numbered (map meaning rules) n ≡ meaning (slice_index_or rules (n - 1) d)
numbered_rule rules zero d low high = absurd (omega arith)
numbered_rule rules (suc m) d low high = let e : suc m - 1 ≡ m = omega arith in rw e (get_or-map meaning rules m d no_entry high)

-- as the record is read at a place
pub numbered_at : (records : List Record) (n : ℕ) (x : Record) → 1 ≤ n → n ≤ length records → x ≡ slice_index_or records (n - 1) x → numbered (entries records) n ≡ meaning (rule_of x)
numbered_at records n x low high is =
    let e = length-map records rule_of in
    numbered_rule (map rule_of records) n (rule_of x) low (omega arith)
    ∙ ap meaning (get_or-map rule_of records (n - 1) x (rule_of x) (omega arith) ∙ ap rule_of (sym is))

-- an entry fits what its record asks for
pub as_told : (rules : List Rule) → FitsAsTold rules (map meaning rules)
as_told rules n none row low high =
    subst (λ (e : Entry). Decides (suits e row) (Meets (slice_index_or rules (n - 1) none) row)) (sym (numbered_rule rules n none low high)) (fits_decides (slice_index_or rules (n - 1) none) row)

-- a sheet is one of its records
pub made : (sheet : Sheet) → Made (map rule_of (vec_items sheet.records)) sheet
made sheet =
    let rules = map rule_of (vec_items sheet.records) in
    let e = length-map (vec_items sheet.records) rule_of in
    let o = sheet.records.ok.0 in
    let f = sheet.few in
    record { in_form = sheet.in_form; few = omega arith; entries = refl; means = as_told rules }

module _ (sheet : Sheet) where
  abbrev rules : List Rule
  rules = map rule_of (vec_items sheet.records)

  pub few_entries : length (entries_of sheet) ≤ 64
  few_entries = let e = length-map rules meaning in let f = (made sheet).few in omega arith

  pub all_typed : AllByRecursion Typed (entries_of sheet)
  all_typed = All-map Typed meaning rules (All-weaker InForm (λ r. Typed (meaning r)) (λ r f. (f.type_first, f.type_second)) rules sheet.in_form)

  pub all_sized : AllByRecursion Sized (entries_of sheet)
  all_sized = All-map Sized meaning rules (All-weaker InForm (λ r. Sized (meaning r)) (λ r f. (f.two_roles, f.four_roles)) rules sheet.in_form)

-- as the record is read at a place
pub in_form_at : (records : List Record) (i : ℕ) (x : Record) → i < length records → x ≡ slice_index_or records i x → AllByRecursion InForm (map rule_of records) → InForm (rule_of x)
in_form_at records i x h is all =
    let e = length-map records rule_of in
    subst InForm (get_or-map rule_of records i x (rule_of x) h ∙ ap rule_of (sym is)) (All-get_or InForm (map rule_of records) i (rule_of x) (omega arith) all)

abbrev RecordInForm : Record → Type 0
RecordInForm r = InForm (rule_of r)

in_form_before : (records : List Record) (i : ℕ) → i ≤ length records → AllWithin RecordInForm records 0 i → AllByRecursion InForm (take i (map rule_of records))
in_form_before records zero h before = tt
in_form_before [] (suc i) h before = absurd (omega arith)
in_form_before (r ∷ records) (suc i) h before =
    (before 0 r (omega arith) (omega arith), in_form_before records i (omega arith) (λ k d low high. before (suc k) d (omega arith) (omega arith)))

pub first_at : (records : List Record) (d : Record) (i : ℕ) → i < length records → HoldsAt (λ x. ¬ RecordInForm x) records i → AllWithin RecordInForm records 0 i → FirstOutOfForm (map rule_of records) (i + 1)
first_at records d i h out before =
    let e = length-map records rule_of in
    let one : i + 1 - 1 ≡ i = omega arith in
    record {
      low = omega arith;
      high = omega arith;
      before = rw one (in_form_before records i (omega arith) before);
      faulty = rw one (λ none f. out d (subst InForm (get_or-map rule_of records i d none h) f));
    }

-- where a search for the first record that is out of form ends
pub first_or_none : (records : List Record) (r : Option ℕ) → MatchOption r (AllWithin RecordInForm records 0 (length records)) (λ i. (i < length records) × HoldsAt (λ x. ¬ RecordInForm x) records i × AllWithin RecordInForm records 0 i)
    → MatchOption r (AllByRecursion InForm (map rule_of records)) (λ i. FirstOutOfForm (map rule_of records) (i + 1))
first_or_none records None h = All-map InForm rule_of records (all_from_every RecordInForm records h)
first_or_none [] (Some i) h = absurd (omega (arith, h.0))
first_or_none (r ∷ records) (Some i) h = first_at (r ∷ records) r i h.0 h.1 h.2
