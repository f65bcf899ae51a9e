-- What is written. Assumes nothing.
use Rattle.std.specs.Prelude.{◌≡◌, ℕ, Bool, true, ◌&&◌, List, [], ◌∷◌, ◌++◌, Ok, Err, codes, decimal, Result, nat_le}
use Rattle.std.specs.List.{flat_map, list_all}
use Rattle.contracts.specs.declared.leg.Leg.{Leg}
use Rattle.tickets.specs.Refused.{legs_of}
use Rattle.tickets.specs.Writing.{fault_text}
use Rattle.script.specs.declared.answer.Answer.{Answer}
use Rattle.script.specs.declared.answer.Answer.TheVariants as answer
use Rattle.script.specs.declared.line.Trouble.{Trouble}

-- a ratio behind another
abbrev pub further_ratio : Leg → List ℕ
further_ratio leg = codes "," ++ decimal leg.ratio

-- the ratios of legs, with a comma before each but the first
abbrev pub ratios_text : List Leg → List ℕ
ratios_text [] = []
ratios_text (leg ∷ legs) = decimal leg.ratio ++ flat_map further_ratio legs

abbrev pub answer_text : Answer → List ℕ
answer_text answer.Market = codes "market"
answer_text (answer.Ticket (Ok t)) = codes "ticket " ++ (decimal t.scale ++ (codes " " ++ ratios_text (legs_of t)))
answer_text (answer.Ticket (Err f)) = codes "ticket NO " ++ fault_text f

-- each character can be printed, and none ends a line
abbrev pub printable : List ℕ → Bool
printable text = list_all (λ c. nat_le 32 c && nat_le c 126) text

-- the words that tell a person what is wrong are free
abbrev pub ErrorText : ℕ → Trouble → List ℕ → Type 0
ErrorText number t bytes =
    (what : List ℕ) × (printable what ≡ true) × (bytes ≡ decimal number ++ (codes " error word " ++ (decimal t.word ++ (codes ": " ++ what))))

-- how the answer to line `number` is written
abbrev pub AnswerText : ℕ → Result Answer Trouble → List ℕ → Type 0
AnswerText number (Ok a) bytes = bytes ≡ decimal number ++ (codes " " ++ answer_text a)
AnswerText number (Err t) bytes = ErrorText number t bytes
