-- A sheet of given records has one outcome. Assumes nothing.
use Rattle.std.proofs.Common.{◌≡◌, ℕ, ◌-◌, ◌<◌, List, [], ◌∷◌, length, take, Ok, Err, Result, refl, ap, subst, ⊎_elim, arith, length-take}
use Rattle.std.specs.List.{AllByRecursion}
use Rattle.std.proofs.ByRecursion.{All-get_or}
use Rattle.std.proofs.lemmas.List.{get_or-take}
use Rattle.std.proofs.lemmas.Bool.{cases_order}
use Rattle.catalogue.specs.declared.refusal.CatalogueRefusal.{CatalogueRefusal}
use Rattle.catalogue.specs.declared.refusal.CatalogueRefusal.TheVariants.{OutOfForm, TooManyRecords, NoEntryFits}
use Rattle.sheet.specs.Forms.{InForm}
use Rattle.sheet.specs.Rules.{Rule}
use Rattle.sheet.specs.Sheets.{FirstOutOfForm, SheetOf}
use Rattle.sheet.specs.declared.sheet.Sheet.{Sheet}

-- where all are in form, none is the first that is not
never_first : (rules : List Rule) (n : ℕ) → AllByRecursion InForm rules → FirstOutOfForm rules n → ⊥
never_first [] n a f = let low = f.low in let high = f.high in absurd (omega arith)
never_first (r ∷ rs) n a f =
    let low = f.low in
    let high = f.high in
    f.faulty r (All-get_or InForm (r ∷ rs) (n - 1) r (omega arith) a)

-- of two firsts neither comes before the other
not_earlier : (rules : List Rule) (m n : ℕ) → m < n → FirstOutOfForm rules m → FirstOutOfForm rules n → ⊥
not_earlier [] m n h f g = let low = f.low in let high = f.high in absurd (omega arith)
not_earlier (r ∷ rs) m n h f g =
    let low = f.low in
    let high = g.high in
    let long = length-take (n - 1) (r ∷ rs) in
    let within : m - 1 < n - 1 = omega arith in
    let fits : m - 1 < length (take (n - 1) (r ∷ rs)) = omega arith in
    f.faulty r (subst InForm (get_or-take (n - 1) (r ∷ rs) (m - 1) r within) (All-get_or InForm (take (n - 1) (r ∷ rs)) (m - 1) r fits g.before))

same_first : (rules : List Rule) (m n : ℕ) → FirstOutOfForm rules m → FirstOutOfForm rules n → m ≡ n
same_first rules m n f g =
    ⊎_elim (λ (e : m ≡ n). e) (⊎_elim (λ (h : m < n). absurd (not_earlier rules m n h f g)) (λ (h : n < m). absurd (not_earlier rules n m h g f))) (cases_order m n)

abbrev refused_at : ℕ → Result Sheet CatalogueRefusal
refused_at n = Err (OutOfForm n)

-- where a refusal is met, it is the outcome
pub settled : (rules : List Rule) (r : Result Sheet CatalogueRefusal) → SheetOf rules r → (e : CatalogueRefusal) → SheetOf rules (Err e) → r ≡ Err e
settled rules (Ok sheet) s (OutOfForm n) t = absurd (never_first rules n s.in_form t)
settled rules (Ok sheet) s TooManyRecords t = let few = s.few in let many = t.1 in absurd (omega arith)
settled rules (Ok sheet) s NoEntryFits t = absurd t
settled rules (Err (OutOfForm m)) s (OutOfForm n) t = ap refused_at (same_first rules m n s t)
settled rules (Err (OutOfForm m)) s TooManyRecords t = absurd (never_first rules m t.0 s)
settled rules (Err (OutOfForm m)) s NoEntryFits t = absurd t
settled rules (Err TooManyRecords) s (OutOfForm n) t = absurd (never_first rules n s.0 t)
settled rules (Err TooManyRecords) s TooManyRecords t = refl
settled rules (Err TooManyRecords) s NoEntryFits t = absurd t
settled rules (Err NoEntryFits) s e t = absurd s
