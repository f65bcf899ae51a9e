-- What is read of a leg's text, part by part. Assumes nothing.
use Rattle.std.specs.Prelude.{ℕ, Bool, true, false, cond, ◌||◌, List, length, Some, None, Ok, Err, Option, Result, ◌==◌}
use Rattle.contracts.specs.Letters.{side_of, kind_of, state_of}
use Rattle.contracts.specs.declared.contract.Kind.{Kind}
use Rattle.contracts.specs.declared.contract.Kind.TheVariants as kind
use Rattle.contracts.specs.declared.contract.Right.{Right}
use Rattle.contracts.specs.declared.contract.Right.TheVariants.{Call, Put}
use Rattle.contracts.specs.declared.plain.Side.{Side}
use Rattle.contracts.specs.declared.plain.State.{State}
use Rattle.contracts.specs.declared.plain.PlainRoot.{PlainRoot}
use Rattle.contracts.specs.declared.plain.PlainMonth.{PlainMonth}
use Rattle.contracts.specs.declared.plain.PlainUnderlying.{PlainUnderlying}
use Rattle.contracts.specs.declared.plain.PlainUnderlying.TheVariants as on
use Rattle.contracts.specs.declared.plain.PlainContract.{PlainContract}
use Rattle.contracts.specs.declared.plain.PlainContract.TheVariants as plain
use Rattle.contracts.specs.declared.plain.Reference.{Reference}
use Rattle.contracts.specs.declared.plain.PlainLeg.{PlainLeg}
use Rattle.notation.specs.declared.part.LegPart.{LegPart}
use Rattle.notation.specs.declared.part.LegPart.TheVariants as part
use Rattle.notation.specs.Reading.{Read, and_then, one, mark, opens, number}

-- no space, `:` or `/`
abbrev pub root_character : ℕ → Bool
root_character c = cond (c == 32 || (c == 58 || c == 47)) false true

-- what a letter stands for, or the part that it is not a letter of
abbrev pub meant : {X : Type 0} → LegPart → List ℕ → Option X → Read X
meant part rest (Some x) = Ok (x, rest)
meant part rest None = Err part

-- the next letter's meaning
abbrev pub letter : {X : Type 0} → (ℕ → Option X) → LegPart → List ℕ → Read X
letter meaning part text = and_then (one part text) (λ c rest. meant part rest (meaning c))

abbrev pub read_side : List ℕ → Read Side
read_side text = letter side_of part.Side text

abbrev pub read_kind : List ℕ → Read Kind
read_kind text = letter kind_of part.Kind text

abbrev pub read_state : List ℕ → Read State
read_state text = letter state_of part.State text

abbrev pub read_root_character : List ℕ → Read ℕ
read_root_character text = and_then (one part.Root text) (λ c rest. cond (root_character c) (Ok (c, rest)) (Err part.Root))

abbrev pub read_root : List ℕ → Read PlainRoot
read_root text =
    and_then (read_root_character text)
    (λ a rest.
    and_then (read_root_character rest)
    (λ b rest. and_then (read_root_character rest) (λ c rest. Ok (record { first = a; second = b; third = c }, rest))))

-- year, `-`, month
abbrev pub read_month : LegPart → List ℕ → Read PlainMonth
read_month part text =
    and_then (number part text)
    (λ year rest.
    and_then (mark 45 part rest) (λ _ rest. and_then (number part rest) (λ month rest. Ok (record { year = year; month = month }, rest))))

-- `@` and a month, or nothing for the spot
abbrev pub read_underlying : List ℕ → Read PlainUnderlying
read_underlying text =
    cond (opens 64 text)
    (and_then (mark 64 part.Underlying text) (λ _ rest. and_then (read_month part.Underlying rest) (λ month rest. Ok (on.Future month, rest))))
    (Ok (on.Spot, text))

-- what an option has after its month: `:`, the strike and the underlying
abbrev pub read_option : Right → PlainRoot → PlainMonth → List ℕ → Read PlainContract
read_option right root month text =
    and_then (mark 58 part.Strike text)
    (λ _ rest.
    and_then (number part.Strike rest)
    (λ strike rest. and_then (read_underlying rest) (λ underlying rest. Ok (plain.Option right root month strike underlying, rest))))

-- what a contract of a kind has after its month
abbrev pub read_terms : Kind → PlainRoot → PlainMonth → List ℕ → Read PlainContract
read_terms kind.Future root month text = Ok (plain.Future root month, text)
read_terms kind.Call root month text = read_option Call root month text
read_terms kind.Put root month text = read_option Put root month text

-- `:`, the root, `:`, the kind, `:`, the month, and what else an option has
abbrev pub read_contract : List ℕ → Read PlainContract
read_contract text =
    and_then (mark 58 part.Root text)
    (λ _ rest.
    and_then (read_root rest)
    (λ root rest.
    and_then (mark 58 part.Kind rest)
    (λ _ rest.
    and_then (read_kind rest)
    (λ kind rest.
    and_then (mark 58 part.Month rest) (λ _ rest. and_then (read_month part.Month rest) (λ month rest. read_terms kind root month rest))))))

-- `/` and a number
abbrev pub read_field : LegPart → List ℕ → Read ℕ
read_field part text = and_then (mark 47 part text) (λ _ rest. number part rest)

-- `/` and each of the reference data in turn
abbrev pub read_own : List ℕ → Read Reference
read_own text =
    and_then (read_field part.Core text)
    (λ core rest.
    and_then (read_field part.LotSize rest)
    (λ lot_size rest.
    and_then (read_field part.Tick rest)
    (λ tick rest.
    and_then (mark 47 part.State rest)
    (λ _ rest.
    and_then (read_state rest)
    (λ state rest.
    and_then (read_field part.SessionEnd rest)
    (λ session_end rest.
    Ok (record { core = core; lot_size = lot_size; tick = tick; state = state; session_end = session_end }, rest)))))))

-- the reference data, or nothing: then it is that of the market
abbrev pub read_reference : Reference → List ℕ → Read Reference
read_reference market text = cond (opens 47 text) (read_own text) (Ok (market, text))

abbrev pub read_parts : Reference → List ℕ → Read PlainLeg
read_parts market text =
    and_then (read_side text)
    (λ side rest.
    and_then (number part.Lots rest)
    (λ lots rest.
    and_then (read_contract rest)
    (λ contract rest.
    and_then (read_reference market rest)
    (λ reference rest. Ok (record { contract = contract; side = side; lots = lots; reference = reference }, rest)))))

-- what was read, if nothing follows
abbrev pub whole : {X : Type 0} → Read X → Result X LegPart
whole (Ok got) = cond (length got.1 == 0) (Ok got.0) (Err part.End)
whole (Err part) = Err part

-- the leg of a whole text
unfoldable pub read_leg : Reference → List ℕ → Result PlainLeg LegPart
read_leg market text = whole (read_parts market text)
