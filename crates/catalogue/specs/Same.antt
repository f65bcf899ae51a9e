-- Tickets of the same strategy. Assumes nothing.
use Rattle.std.specs.Prelude.{◌≡◌, ℕ, ◌+◌, ◌<◌, List, length, Ok, Err, Result, slice_index}
use Rattle.contracts.specs.declared.leg.Leg.{Leg}
use Rattle.contracts.specs.declared.plain.PlainLeg.{PlainLeg}
use Rattle.contracts.specs.declared.plain.Side.{Side}
use Rattle.tickets.specs.Refused.{Clear, TicketOf, legs_of}
use Rattle.tickets.specs.declared.fault.Fault.{Fault}
use Rattle.tickets.specs.declared.ticket.Ticket.{Ticket}
use Rattle.catalogue.specs.Analysis.{Places, Analysed}
use Rattle.catalogue.specs.Entries.{Entry}
use Rattle.catalogue.specs.Fits.{FittedBy}
use Rattle.catalogue.specs.Rows.{opposite, leg_of}
use Rattle.catalogue.specs.Seatings.{Permutation}
use Rattle.catalogue.specs.declared.direction.Direction.{Direction}
use Rattle.catalogue.specs.declared.direction.Direction.TheVariants.{Buy, Sell}
use Rattle.catalogue.specs.declared.strategy.StrategyType.{StrategyType}

-- the same side, or the other one
abbrev pub faced_side : Direction → Side → Side
faced_side Buy side = side
faced_side Sell side = opposite side

-- two legs agree in instrument and ratio, and in their sides as `facing` says
pub record Agree (facing : Direction) (x y : Leg) : Type 0 where
  pub instrument : x.contract ≡ y.contract
  pub ratio : x.ratio ≡ y.ratio
  pub side : y.side ≡ faced_side facing x.side

-- the legs can be matched one to one so that instruments and ratios agree and the sides are all equal or all opposite
pub record SameStrategy (t u : List Leg) : Type 0 where
  pub as_many : length u ≡ length t
  pub matching : List ℕ
  pub one_to_one : Permutation (length t) matching
  pub facing : Direction
  pub agree : (k : ℕ) → k < length t → Agree facing (leg_of t (slice_index matching k)) (leg_of u (k + 1))

-- what a ticket is called: its entry and type, or the fault
abbrev pub name_of : Result (ℕ × ℕ × ℕ) Fault → Places → Result (ℕ × StrategyType) Fault
name_of (Ok x) after = Ok (x.0, after.type)
name_of (Err f) after = Err f

-- entries that fit the one fit the other
abbrev pub FittedAlike : List Entry → List Leg → List Leg → Type 0
FittedAlike es t u = (n : ℕ) → (FittedBy es t n → FittedBy es u n) × (FittedBy es u n → FittedBy es t n)

-- any other ticket of the same strategy is fitted by the same entries, and its analysis answers the same type or the same refusal
abbrev pub SameName : List Entry → ℕ → List PlainLeg → Result (ℕ × ℕ × ℕ) Fault → Places → Type 0
SameName es minute legs answer after =
    (minute' : ℕ) (legs' : List PlainLeg) (lent' after' : Places) (answer' : Result (ℕ × ℕ × ℕ) Fault) (t u : Ticket) →
    Clear minute legs → TicketOf legs t → Clear minute' legs' → TicketOf legs' u → SameStrategy (legs_of t) (legs_of u) → Analysed es minute' legs' lent' answer' after' →
    FittedAlike es (legs_of t) (legs_of u) × (name_of answer after ≡ name_of answer' after')
