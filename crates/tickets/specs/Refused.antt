-- The refusal that a ticket meets, or what is accepted. Assumes nothing.
use Rattle.std.specs.Prelude.{◌≡◌, ℕ, ◌-◌, ◌*◌, ◌<◌, ◌≤◌, ◌⊎◌, List, length, slice_index_or}
use Rattle.contracts.specs.Plain.{plain_contract}
use Rattle.contracts.specs.declared.leg.Leg.{Leg}
use Rattle.contracts.specs.declared.plain.PlainLeg.{PlainLeg}
use Rattle.tickets.specs.Lines.{Holds, leg_at}
use Rattle.tickets.specs.Refusals.{ticket_fault}
use Rattle.tickets.specs.Scales.{Scale}
use Rattle.tickets.specs.declared.refusal.TicketRefusal.{TicketRefusal}
use Rattle.tickets.specs.declared.refusal.TicketRefusal.TheVariants as refusal
use Rattle.tickets.specs.declared.ticket.Ticket.{Ticket}

-- a refusal applies to a minute and the legs handed in, which are numbered from 1
abbrev pub Applies : ℕ → List PlainLeg → TicketRefusal → Type 0
Applies minute legs refusal.Minute = 1439 < minute
Applies minute legs refusal.LegCount = (length legs < 2) ⊎ (4 < length legs)
Applies minute legs (refusal.Leg line leg) = (1 ≤ leg) × (leg ≤ length legs) × Holds line minute legs (leg - 1)

-- e stands before f in the list, or it is the same line at no later leg
abbrev pub NoLater : TicketRefusal → TicketRefusal → Type 0
NoLater e f =
    ((ticket_fault e).number < (ticket_fault f).number)
    ⊎ (((ticket_fault e).number ≡ (ticket_fault f).number) × ((ticket_fault e).place ≤ (ticket_fault f).place))

-- e is the first refusal of the list that applies, at its lowest leg
pub record Refused (minute : ℕ) (legs : List PlainLeg) (e : TicketRefusal) : Type 0 where
  pub applies : Applies minute legs e
  pub first : (f : TicketRefusal) → Applies minute legs f → NoLater e f

-- no refusal applies
abbrev pub Clear : ℕ → List PlainLeg → Type 0
Clear minute legs = (f : TicketRefusal) → Applies minute legs f → ⊥

-- a leg is kept with its contract and its side, and its lots are its ratio times the scale
pub record Keeps (scale : ℕ) (leg : PlainLeg) (kept : Leg) : Type 0 where
  pub contract : plain_contract kept.contract ≡ leg.contract
  pub side : kept.side ≡ leg.side
  pub lots : kept.ratio * scale ≡ leg.lots

abbrev pub legs_of : Ticket → List Leg
legs_of t = t.legs

-- the ticket's legs are those handed in, in that order; its reference data is that of each of them
pub record TicketOf (legs : List PlainLeg) (t : Ticket) : Type 0 where
  pub count : length (legs_of t) ≡ length legs
  pub keeps : (i : ℕ) (d : Leg) → i < length legs → Keeps t.scale (leg_at legs i) (slice_index_or (legs_of t) i d)
  pub scale : Scale legs t.scale
  pub core : (i : ℕ) → i < length legs → (leg_at legs i).reference.core ≡ t.shared.core
  pub lot_size : (i : ℕ) → i < length legs → (leg_at legs i).reference.lot_size ≡ t.shared.lot_size
  pub tick : (i : ℕ) → i < length legs → (leg_at legs i).reference.tick ≡ t.shared.tick
