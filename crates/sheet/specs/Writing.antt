-- The text of a role and of a relation. Assumes nothing.
use Rattle.std.specs.Prelude.{ℕ, List, ◌++◌, codes, decimal}
use Rattle.contracts.specs.Letters.{side_text, kind_text}
use Rattle.sheet.specs.Letters.{aspect_text, comparison_text}
use Rattle.sheet.specs.declared.record.Relation.{Relation}
use Rattle.sheet.specs.declared.record.Relation.TheVariants.{Compare, EvenSteps}
use Rattle.sheet.specs.declared.record.Role.{Role}

-- the side, the ratio and the kind
abbrev pub role_text : Role → List ℕ
role_text role = side_text role.side ++ (decimal role.ratio ++ kind_text role.kind)

-- the aspect, `:`, and the roles with what stands between them
abbrev pub relation_text : Relation → List ℕ
relation_text (Compare aspect first comparison second) =
    aspect_text aspect ++ (codes ":" ++ (decimal first ++ (comparison_text comparison ++ decimal second)))
relation_text (EvenSteps aspect first second third) =
    aspect_text aspect ++ (codes ":" ++ (decimal first ++ (codes "~" ++ (decimal second ++ (codes "~" ++ decimal third)))))
