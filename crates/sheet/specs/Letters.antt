-- The letters of a relation: how each is written, and what a character stands for. Assumes nothing.
use Rattle.std.specs.Prelude.{ℕ, List, codes, cond, Option, Some, None, ◌==◌}
use Rattle.sheet.specs.declared.record.Aspect.{Aspect}
use Rattle.sheet.specs.declared.record.Aspect.TheVariants.{Strike, Month}
use Rattle.sheet.specs.declared.record.Comparison.{Comparison}
use Rattle.sheet.specs.declared.record.Comparison.TheVariants.{Before, Same, After, Different}

-- strike or month
abbrev pub aspect_text : Aspect → List ℕ
aspect_text Strike = codes "s"
aspect_text Month = codes "m"

abbrev pub aspect_of : ℕ → Option Aspect
aspect_of c = cond (c == 115) (Some Strike) (cond (c == 109) (Some Month) None)

-- how the first role stands to the second
abbrev pub comparison_text : Comparison → List ℕ
comparison_text Before = codes "<"
comparison_text Same = codes "="
comparison_text After = codes ">"
comparison_text Different = codes "!"

abbrev pub comparison_of : ℕ → Option Comparison
comparison_of c =
    cond (c == 60) (Some Before) (cond (c == 61) (Some Same) (cond (c == 62) (Some After) (cond (c == 33) (Some Different) None)))
