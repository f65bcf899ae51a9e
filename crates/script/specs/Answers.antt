-- What a line is answered with. Assumes nothing.
use Rattle.std.specs.Prelude.{◌≡◌, ℕ, List, Some, None, Ok, Err, Option, Result, MatchResult}
use Rattle.contracts.specs.declared.plain.PlainLeg.{PlainLeg}
use Rattle.contracts.specs.declared.plain.Reference.{Reference}
use Rattle.contracts.specs.declared.plain.State.TheVariants.{Trading}
use Rattle.tickets.specs.Refused.{Clear, Refused, TicketOf}
use Rattle.tickets.specs.Refusals.{ticket_fault}
use Rattle.tickets.specs.declared.fault.Fault.{Fault}
use Rattle.tickets.specs.declared.refusal.TicketRefusal.{TicketRefusal}
use Rattle.tickets.specs.declared.ticket.Ticket.{Ticket}
use Rattle.script.specs.Lines.{Reading, reading}
use Rattle.script.specs.Says.{Says}
use Rattle.notation.specs.Words.{words, body_of}
use Rattle.script.specs.declared.answer.Answer.{Answer}
use Rattle.script.specs.declared.answer.Answer.TheVariants as answer
use Rattle.script.specs.declared.line.Line.TheVariants as line
use Rattle.script.specs.declared.line.Trouble.{Trouble}

-- the market before the first `market` line: 1 1 1 T 1439
abbrev pub opening_market : Reference
opening_market = record { core = 1; lot_size = 1; tick = 1; state = Trading; session_end = 1439 }

-- the fault of the refusal that a ticket meets
abbrev pub FaultOf : ℕ → List PlainLeg → Fault → Type 0
FaultOf minute legs f = (e : TicketRefusal) × Refused minute legs e × (f ≡ ticket_fault e)

-- a ticket is accepted where no refusal applies, and else refused by the first that does
abbrev pub Checked : ℕ → List PlainLeg → Result Ticket Fault → Type 0
Checked minute legs r = MatchResult r (λ t. Clear minute legs × TicketOf legs t) (FaultOf minute legs)

-- the answer to what a line says, and the market after it
abbrev pub AnswerTo : Reference → Reading → Option (Result Answer Trouble) → Reference → Type 0
AnswerTo before (Ok None) o after = (o ≡ None) × (after ≡ before)
AnswerTo before (Ok (Some (line.Market market))) o after = (o ≡ Some (Ok answer.Market)) × (after ≡ market)
AnswerTo before (Ok (Some (line.Ticket minute legs))) o after =
    ((r : Result Ticket Fault) × Checked minute legs r × (o ≡ Some (Ok (answer.Ticket r)))) × (after ≡ before)
AnswerTo before (Err t) o after = (o ≡ Some (Err t)) × (after ≡ before)

-- the answer to a line: to what its words say by the grammar, as they are read
abbrev pub Answered : Reference → List ℕ → Option (Result Answer Trouble) → Reference → Type 0
Answered before line o after =
    Says before (words (body_of line)) (reading before (words (body_of line))) × AnswerTo before (reading before (words (body_of line))) o after
