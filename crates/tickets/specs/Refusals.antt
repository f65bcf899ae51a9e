-- Every refusal of a ticket, with its number, its layer and its place. Assumes nothing.
use Rattle.std.specs.Prelude.{ℕ}
use Rattle.tickets.specs.declared.fault.Fault.{Fault}
use Rattle.tickets.specs.declared.fault.Layer.TheVariants.{Ticket}
use Rattle.tickets.specs.declared.refusal.LegLine.{LegLine}
use Rattle.tickets.specs.declared.refusal.LegLine.TheVariants.{Range, Repeat, Core, LotOrTick, Halted, Late}
use Rattle.tickets.specs.declared.refusal.TicketRefusal.{TicketRefusal}
use Rattle.tickets.specs.declared.refusal.TicketRefusal.TheVariants.{Minute, LegCount, Leg}

abbrev pub leg_number : LegLine → ℕ
leg_number Range = 6
leg_number Repeat = 7
leg_number Core = 8
leg_number LotOrTick = 9
leg_number Halted = 10
leg_number Late = 11

abbrev pub ticket_fault : TicketRefusal → Fault
ticket_fault Minute = record { number = 4; layer = Ticket; place = 0 }
ticket_fault LegCount = record { number = 5; layer = Ticket; place = 0 }
ticket_fault (Leg line leg) = record { number = leg_number line; layer = Ticket; place = leg }
