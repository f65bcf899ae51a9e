-- What a line of the script says. Assumes nothing.
use Rattle.std.specs.Prelude.{ℕ, ◌+◌, cond, List, [], ◌∷◌, take, Some, None, Ok, Err, codes, Option, Result, ◌==◌, slice_index}
use Rattle.std.specs.Str.{bytes_eq}
use Rattle.contracts.specs.declared.plain.PlainLeg.{PlainLeg}
use Rattle.contracts.specs.declared.plain.Reference.{Reference}
use Rattle.contracts.specs.declared.plain.State.{State}
use Rattle.notation.specs.LegReading.{whole, read_state, read_leg}
use Rattle.notation.specs.Reading.{ReadFrom, and_then, number}
use Rattle.notation.specs.declared.part.LegPart.{LegPart}
use Rattle.notation.specs.declared.part.LegPart.TheVariants as part
use Rattle.script.specs.declared.line.Trouble.{Trouble}
use Rattle.script.specs.declared.line.What.{What}
use Rattle.script.specs.declared.line.What.TheVariants.{UnknownCall, MissingWord, SurplusWord, Minute, Part}
use Rattle.script.specs.declared.line.Line.{Line}
use Rattle.script.specs.declared.line.Line.TheVariants as line

abbrev pub trouble : ℕ → What → Trouble
trouble word what = record { word = word; what = what }

-- what the next words say, and the words after them; or what is wrong with one of them
abbrev pub Read : Type 0 → Type 0
Read X = ReadFrom (List (List ℕ)) Trouble X

-- what a word says, or what is wrong with it
abbrev pub told : {X : Type 0} → (LegPart → What) → Result X LegPart → Result X What
told wrong (Ok x) = Ok x
told wrong (Err p) = Err (wrong p)

abbrev pub number_word : LegPart → List ℕ → Result ℕ What
number_word p w = told Part (whole (number p w))

abbrev pub state_word : List ℕ → Result State What
state_word w = told Part (whole (read_state w))

abbrev pub minute_word : List ℕ → Result ℕ What
minute_word w = told (λ _. Minute) (whole (number part.End w))

abbrev pub leg_word : Reference → List ℕ → Result PlainLeg What
leg_word market w = told Part (read_leg market w)

-- a word that was read, or the trouble with it
abbrev pub placed : {X : Type 0} → ℕ → List (List ℕ) → Result X What → Read X
placed word rest (Ok x) = Ok (x, rest)
placed word rest (Err what) = Err (trouble word what)

-- word number `word` of a line
abbrev pub field : {X : Type 0} → (List ℕ → Result X What) → ℕ → List (List ℕ) → Read X
field says word [] = Err (trouble word MissingWord)
field says word (w ∷ ws) = placed word ws (says w)

-- nothing follows
abbrev pub ended : ℕ → List (List ℕ) → Read (Unit {0})
ended word [] = Ok (tt, [])
ended word (w ∷ ws) = Err (trouble word SurplusWord)

-- CORE LOT TICK STATE END
abbrev pub read_market : List (List ℕ) → Read Reference
read_market ws =
    and_then (field (number_word part.Core) 2 ws)
    (λ core rest.
    and_then (field (number_word part.LotSize) 3 rest)
    (λ lot_size rest.
    and_then (field (number_word part.Tick) 4 rest)
    (λ tick rest.
    and_then (field state_word 5 rest)
    (λ state rest.
    and_then (field (number_word part.SessionEnd) 6 rest)
    (λ session_end rest.
    and_then (ended 7 rest)
    (λ _ rest. Ok (record { core = core; lot_size = lot_size; tick = tick; state = state; session_end = session_end }, rest)))))))

-- each further word is a leg; the first that is none is told
abbrev pub read_legs : Reference → ℕ → List (List ℕ) → Read (List PlainLeg)
read_legs market word [] = Ok ([], [])
read_legs market word (w ∷ ws) =
    and_then (placed word ws (leg_word market w))
    (λ leg rest. and_then (read_legs market (word + 1) ws) (λ legs rest. Ok (leg ∷ legs, rest)))

-- MINUTE LEG..
abbrev pub read_ticket : Reference → List (List ℕ) → Read (ℕ × List PlainLeg)
read_ticket market ws =
    and_then (field minute_word 2 ws) (λ minute rest. and_then (read_legs market 3 rest) (λ legs rest. Ok ((minute, legs), rest)))

-- what a line comes to: it is passed over, it is a call, or it cannot be read
abbrev pub Reading : Type 0
Reading = Result (Option Line) Trouble

-- what is made of what was read; or the trouble
abbrev pub made : {X Y : Type 0} → (X → Y) → Read X → Result Y Trouble
made f (Ok got) = Ok (f got.0)
made f (Err t) = Err t

-- what the words of a line say, where `market` is the reference data that a leg takes which leaves its own out. `#` is 35
abbrev pub reading : Reference → List (List ℕ) → Reading
reading market [] = Ok None
reading market (w ∷ ws) =
    cond (slice_index w 0 == 35)
    (Ok None)
    (cond (bytes_eq w (codes "market"))
    (made (λ m. Some (line.Market m)) (read_market ws))
    (cond (bytes_eq w (codes "ticket"))
    (made (λ t. Some (line.Ticket t.0 t.1)) (read_ticket market ws))
    (Err (trouble 1 UnknownCall))))

-- of a ticket's legs the first five are kept
abbrev pub kept_of : Reading → Reading
kept_of (Ok None) = Ok None
kept_of (Ok (Some (line.Market m))) = Ok (Some (line.Market m))
kept_of (Ok (Some (line.Ticket minute legs))) = Ok (Some (line.Ticket minute (take 5 legs)))
kept_of (Err t) = Err t
