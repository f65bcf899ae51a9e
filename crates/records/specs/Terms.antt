-- What is read of one word of a record. Assumes nothing.
use Rattle.std.specs.Prelude.{ℕ, Bool, cond, List, [], ◌∷◌, Some, None, Option, ◌==◌}
use Rattle.std.specs.Option.{option_map}
use Rattle.std.specs.Result.{result_ok}
use Rattle.catalogue.specs.declared.strategy.StrategyType.{StrategyType}
use Rattle.contracts.specs.Letters.{side_of, kind_of}
use Rattle.notation.specs.LegReading.{whole}
use Rattle.notation.specs.Reading.{number}
use Rattle.notation.specs.declared.part.LegPart.TheVariants.{Lots}
use Rattle.sheet.specs.Letters.{aspect_of, comparison_of}
use Rattle.sheet.specs.declared.record.Aspect.{Aspect}
use Rattle.sheet.specs.declared.record.Relation.{Relation}
use Rattle.sheet.specs.declared.record.Relation.TheVariants.{Compare, EvenSteps}
use Rattle.sheet.specs.declared.record.Role.{Role}
use Rattle.records.specs.Letters.{mark_of}

-- one part after another
abbrev pub and_then : {X Y : Type 0} → Option X → (X → Option Y) → Option Y
and_then (Some x) next = next x
and_then None next = None

-- what a text of one letter stands for
abbrev pub letter : {X : Type 0} → (ℕ → Option X) → List ℕ → Option X
letter meaning [] = None
letter meaning (c ∷ []) = meaning c
letter meaning (c ∷ d ∷ rest) = None

-- what the letter at the front stands for, and what follows it
abbrev pub letter_front : {X : Type 0} → (ℕ → Option X) → List ℕ → Option (X × List ℕ)
letter_front meaning [] = None
letter_front meaning (c ∷ rest) = option_map (λ x. (x, rest)) (meaning c)

-- what follows this character at the front
abbrev pub after : ℕ → List ℕ → Option (List ℕ)
after mark [] = None
after mark (c ∷ rest) = cond (c == mark) (Some rest) None

-- the number that a whole text spells
abbrev pub numeral : List ℕ → Option ℕ
numeral text = result_ok (whole (number Lots text))

-- the number at the front of a text, and what follows its digits
abbrev pub number_front : List ℕ → Option (ℕ × List ℕ)
number_front text = result_ok (number Lots text)

-- two characters
abbrev pub read_type : List ℕ → Option StrategyType
read_type [] = None
read_type (a ∷ []) = None
read_type (a ∷ b ∷ []) = Some (record { first = a; second = b })
read_type (a ∷ b ∷ c ∷ rest) = None

abbrev pub read_mark : List ℕ → Option Bool
read_mark word = option_map (λ mark. mark.0) (letter mark_of word)

-- a side, a ratio and a kind
abbrev pub read_role : List ℕ → Option Role
read_role word =
    and_then (letter_front side_of word)
    (λ side.
    and_then (number_front side.1)
    (λ ratio. option_map (λ kind. record { side = side.0; ratio = ratio.0; kind = kind }) (letter kind_of ratio.1)))

-- a comparison and the second role
abbrev pub compared : Aspect → ℕ → List ℕ → Option Relation
compared aspect one text =
    and_then (letter_front comparison_of text) (λ comparison. option_map (λ two. Compare aspect one comparison.0 two) (numeral comparison.1))

-- the second and the third role of even steps, after the first `~`
abbrev pub stepped : Aspect → ℕ → List ℕ → Option Relation
stepped aspect one text =
    and_then (number_front text)
    (λ two. and_then (after 126 two.1) (λ rest. option_map (λ three. EvenSteps aspect one two.0 three) (numeral rest)))

-- even steps where a `~` stood, and else a comparison
abbrev pub steps_or_compared : Aspect → ℕ → List ℕ → Option (List ℕ) → Option Relation
steps_or_compared aspect one text (Some rest) = stepped aspect one rest
steps_or_compared aspect one text None = compared aspect one text

-- what is said of the first role
abbrev pub relation_on : Aspect → ℕ → List ℕ → Option Relation
relation_on aspect one text = steps_or_compared aspect one text (after 126 text)

-- an aspect, `:`, the first role, and what is said of it
abbrev pub read_relation : List ℕ → Option Relation
read_relation word =
    and_then (letter_front aspect_of word)
    (λ aspect. and_then (after 58 aspect.1) (λ rest. and_then (number_front rest) (λ one. relation_on aspect.0 one.0 one.1)))
