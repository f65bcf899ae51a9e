-- What an analysis answers, and what it leaves in the places that the caller lends. Assumes nothing.
use Rattle.std.specs.Prelude.{◌≡◌, ℕ, ◌-◌, ◌<◌, ◌⊎◌, List, length, Some, None, Ok, Err, Option, Result, slice_index, slice_index_or}
use Rattle.contracts.specs.declared.leg.Leg.{Leg}
use Rattle.contracts.specs.declared.plain.PlainLeg.{PlainLeg}
use Rattle.tickets.specs.Lines.{leg_at}
use Rattle.tickets.specs.Refusals.{ticket_fault}
use Rattle.tickets.specs.Refused.{Clear, Keeps, Refused, TicketOf, legs_of}
use Rattle.tickets.specs.declared.fault.Fault.{Fault}
use Rattle.tickets.specs.declared.refusal.TicketRefusal.{TicketRefusal}
use Rattle.tickets.specs.declared.ticket.Ticket.{Ticket}
use Rattle.catalogue.specs.Entries.{Entry, numbered}
use Rattle.catalogue.specs.Fits.{FirstFit, Unfitted}
use Rattle.catalogue.specs.Refusals.{catalogue_fault}
use Rattle.catalogue.specs.Rows.{row, faced, direction_number}
use Rattle.catalogue.specs.Seatings.{padded}
use Rattle.catalogue.specs.Search.{Candidate, first_fit}
use Rattle.catalogue.specs.declared.direction.Direction.{Direction}
use Rattle.catalogue.specs.declared.refusal.CatalogueRefusal.TheVariants.{NoEntryFits}
use Rattle.catalogue.specs.declared.strategy.StrategyType.{StrategyType}

-- the two places: a type, and a seating in four numbers
pub record Places : Type 0 where
  pub type : StrategyType
  pub seating : List ℕ

-- what the two places hold
abbrev pub held : StrategyType → List ℕ → Places
held type seating = record { type = type; seating = seating }

-- an answer (entry, direction, scale) or a fault, and what the places hold then
pub record Outcome : Type 0 where
  pub answer : Result (ℕ × ℕ × ℕ) Fault
  pub places : Places

-- an answer, with what the two places hold
abbrev pub outcome : Result (ℕ × ℕ × ℕ) Fault → StrategyType → List ℕ → Outcome
outcome answer type seating = record { answer = answer; places = held type seating }

-- a refused call writes nothing
abbrev pub refused_with : Fault → Places → Outcome
refused_with fault lent = record { answer = Err fault; places = lent }

-- what a first fit, or none, comes to
abbrev pub told : List Entry → ℕ → Places → Option Candidate → Outcome
told es scale lent None = refused_with (catalogue_fault NoEntryFits) lent
told es scale lent (Some x) =
    record {
      answer = Ok (x.entry, direction_number x.direction, scale);
      places = held (numbered es x.entry).type (padded x.seating);
    }

-- what is answered to a ticket that is in order
abbrev pub analysis_of : List Entry → Ticket → Places → Outcome
analysis_of es t lent = told es t.scale lent (first_fit es (legs_of t))

-- role k has the contract and the lots of the leg that the seating names, and its side as the direction has it
abbrev pub ComesBack : List PlainLeg → ℕ → Direction → List ℕ → List Leg → Type 0
ComesBack legs scale d seating roles = (k : ℕ) (none : Leg) → k < length legs → Keeps scale (leg_at legs (slice_index seating k - 1)) (faced d (slice_index_or roles k none))

-- the ticket is in order, and it is named by its first fit
pub record Named (es : List Entry) (minute : ℕ) (legs : List PlainLeg) (n d scale : ℕ) (after : Places) : Type 0 where
  pub ticket : Ticket
  pub in_order : Clear minute legs
  pub of_legs : TicketOf legs ticket
  pub direction : Direction
  pub seating : List ℕ
  pub first : FirstFit es (legs_of ticket) n direction seating
  pub direction_told : d ≡ direction_number direction
  pub scale_told : scale ≡ ticket.scale
  pub type_told : after.type ≡ (numbered es n).type
  pub seating_told : after.seating ≡ padded seating
  pub comes_back : ComesBack legs scale direction seating (row direction (legs_of ticket) seating)

-- the ticket is in order, and no entry fits it
pub record Nameless (es : List Entry) (minute : ℕ) (legs : List PlainLeg) : Type 0 where
  pub ticket : Ticket
  pub in_order : Clear minute legs
  pub of_legs : TicketOf legs ticket
  pub unfitted : Unfitted es (legs_of ticket)

-- the first refusal that applies: of the ticket, or else 12 where no entry fits
abbrev pub RefusedBy : List Entry → ℕ → List PlainLeg → Fault → Type 0
RefusedBy es minute legs f =
    ((e : TicketRefusal) × Refused minute legs e × (f ≡ ticket_fault e)) ⊎ (Nameless es minute legs × (f ≡ catalogue_fault NoEntryFits))

-- the outcome of an analysis in the subject's words, where `lent` is what the places held before
abbrev pub Analysed : List Entry → ℕ → List PlainLeg → Places → Result (ℕ × ℕ × ℕ) Fault → Places → Type 0
Analysed es minute legs lent (Ok x) after = Named es minute legs x.0 x.1 x.2 after
Analysed es minute legs lent (Err f) after = RefusedBy es minute legs f × (after ≡ lent)
