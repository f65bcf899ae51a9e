-- Five legs are answered as any more are: by the minute or by their number. Assumes nothing.
use Rattle.std.proofs.Common.{◌≡◌, ℕ, ◌<◌, ◌≤◌, List, length, take, Some, None, Ok, Err, Option, Result, refl, subst, inl, inr, ⊎_elim, arith}
use Rattle.std.proofs.lemmas.List.{take_all, length-take-le}
use Rattle.std.proofs.lemmas.Bool.{cases_lt}
use Rattle.contracts.specs.declared.plain.PlainLeg.{PlainLeg}
use Rattle.contracts.specs.declared.plain.Reference.{Reference}
use Rattle.notation.specs.Words.{words, body_of}
use Rattle.tickets.specs.Refused.{Applies, NoLater, Refused}
use Rattle.tickets.specs.declared.fault.Fault.{Fault}
use Rattle.tickets.specs.declared.refusal.TicketRefusal.{TicketRefusal}
use Rattle.tickets.specs.declared.refusal.TicketRefusal.TheVariants.{Minute, LegCount, Leg}
use Rattle.tickets.specs.declared.ticket.Ticket.{Ticket}
use Rattle.tickets.proofs.Firsts.{low}
use Rattle.script.specs.Answers.{Checked, AnswerTo, Answered}
use Rattle.script.specs.Lines.{Reading, reading, kept_of}
use Rattle.script.specs.declared.answer.Answer.{Answer}
use Rattle.script.specs.declared.line.Line.TheVariants as line
use Rattle.script.specs.declared.line.Trouble.{Trouble}
use Rattle.script.proofs.Saying.{says}

module _ (minute : ℕ) (all : List PlainLeg) (many : 5 < length all) where
  five : length (take 5 all) ≡ 5
  five = length-take-le 5 all (omega arith)

  too_many : Applies minute (take 5 all) LegCount
  too_many = let f = five in inr (omega arith)

  no_later_minute : (f : TicketRefusal) → NoLater Minute f
  no_later_minute Minute = inr (refl, omega arith)
  no_later_minute LegCount = inl (omega arith)
  no_later_minute (Leg line leg) = let b = low line in inl (omega arith)

  no_later_count : Refused minute (take 5 all) LegCount → (f : TicketRefusal) → Applies minute all f → NoLater LegCount f
  no_later_count r Minute a = r.first Minute a
  no_later_count r LegCount a = inr (refl, omega arith)
  no_later_count r (Leg line leg) a = let b = low line in inl (omega arith)

  refused_all : (e : TicketRefusal) → Refused minute (take 5 all) e → Refused minute all e
  refused_all Minute r = record { applies = r.applies; first = λ f _. no_later_minute f }
  refused_all LegCount r = record { applies = inr (omega arith); first = no_later_count r }
  refused_all (Leg line leg) r =
      let b = low line in
      ⊎_elim (λ h. absurd (omega arith)) (λ h. let k = h.0 in absurd (omega arith)) (r.first LegCount too_many)

  checked_all : (r : Result Ticket Fault) → Checked minute (take 5 all) r → Checked minute all r
  checked_all (Ok t) h = absurd (h.0 LegCount too_many)
  checked_all (Err f) h = (h.0, refused_all h.0 h.1, h.2)

checked_five : (minute : ℕ) (all : List PlainLeg) (r : Result Ticket Fault) → Checked minute (take 5 all) r → Checked minute all r
checked_five minute all r h =
    ⊎_elim
    (λ (many : 5 < length all). checked_all minute all many r h)
    (λ (few : length all ≤ 5). subst (λ (l : List PlainLeg). Checked minute l r) (take_all 5 all few) h)
    (cases_lt 5 (length all))

answer_five : (before : Reference) (r : Reading) (o : Option (Result Answer Trouble)) (after : Reference) → AnswerTo before (kept_of r) o after → AnswerTo before r o after
answer_five before (Ok None) o after h = h
answer_five before (Ok (Some (line.Market m))) o after h = h
answer_five before (Ok (Some (line.Ticket minute legs))) o after h = ((h.0.0, checked_five minute legs h.0.0 h.0.1, h.0.2), h.1)
answer_five before (Err t) o after h = h

-- what is kept of a line is enough to answer it
pub answered : (before : Reference) (line : List ℕ) (k : Reading) (o : Option (Result Answer Trouble)) (after : Reference) → k ≡ kept_of (reading before (words (body_of line))) → AnswerTo before k o after → Answered before line o after
answered before line k o after is h = (says before (words (body_of line)), answer_five before (reading before (words (body_of line))) o after (subst (λ (r : Reading). AnswerTo before r o after) is h))
