-- The letters of the mark. Assumes nothing.
use Rattle.std.specs.Prelude.{ℕ, Bool, true, false, cond, List, codes, Option, Some, None, ◌==◌}
use Rattle.records.specs.declared.mark.Mark.{Mark}

-- `M` where it is set
abbrev pub mark_text : Bool → List ℕ
mark_text true = codes "M"
mark_text false = codes "-"

abbrev pub mark_of : ℕ → Option Mark
mark_of c = cond (c == 77) (Some (record { 0 = true })) (cond (c == 45) (Some (record { 0 = false })) None)
