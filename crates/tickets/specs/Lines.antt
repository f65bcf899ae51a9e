-- What each line of the list of refusals says of a leg, over the legs as they are handed in. Assumes nothing.
use Rattle.std.specs.Prelude.{◌≡◌, ℕ, ◌+◌, ◌-◌, ◌<◌, ◌⊎◌, List, length, slice_index_or}
use Rattle.contracts.specs.Plain.{LegInRange}
use Rattle.contracts.specs.declared.plain.PlainContract.TheVariants as contract
use Rattle.contracts.specs.declared.plain.PlainLeg.{PlainLeg}
use Rattle.contracts.specs.declared.plain.Side.TheVariants.{Bought}
use Rattle.contracts.specs.declared.plain.State.{State}
use Rattle.contracts.specs.declared.plain.State.TheVariants.{Trading, Suspended, Forbidden}
use Rattle.tickets.specs.declared.refusal.LegLine.{LegLine}
use Rattle.tickets.specs.declared.refusal.LegLine.TheVariants.{Range, Repeat, Core, LotOrTick, Halted, Late}
use Rattle.tickets.specs.declared.refusal.TicketRefusal.{TicketRefusal}
use Rattle.tickets.specs.declared.refusal.TicketRefusal.TheVariants.{Leg}

-- what stands past the last leg: every number 0. No line speaks of it
abbrev pub no_leg : PlainLeg
no_leg =
    record {
      contract = contract.Future (record { first = 0; second = 0; third = 0 }) (record { year = 0; month = 0 });
      side = Bought;
      lots = 0;
      reference = record { core = 0; lot_size = 0; tick = 0; state = Trading; session_end = 0 };
    }

-- legs counted from 0
abbrev pub leg_at : List PlainLeg → ℕ → PlainLeg
leg_at legs i = slice_index_or legs i no_leg

-- an earlier leg has the same contract
abbrev pub Repeats : List PlainLeg → ℕ → Type 0
Repeats legs i = (j : ℕ) × (j < i) × ((leg_at legs j).contract ≡ (leg_at legs i).contract)

-- suspended or forbidden; in auction counts like trading
abbrev pub Halts : State → Type 0
Halts state = (state ≡ Suspended) ⊎ (state ≡ Forbidden)

-- a line is true of a leg, at a minute
abbrev pub Holds : LegLine → ℕ → List PlainLeg → ℕ → Type 0
Holds Range minute legs i = LegInRange (leg_at legs i) → ⊥
Holds Repeat minute legs i = Repeats legs i
Holds Core minute legs i = (leg_at legs i).reference.core ≡ (leg_at legs 0).reference.core → ⊥
Holds LotOrTick minute legs i =
    ((leg_at legs i).reference.lot_size ≡ (leg_at legs 0).reference.lot_size) × ((leg_at legs i).reference.tick ≡ (leg_at legs 0).reference.tick) → ⊥
Holds Halted minute legs i = Halts (leg_at legs i).reference.state
Holds Late minute legs i = (leg_at legs i).reference.session_end - 30 < minute

-- a line is true of no leg
abbrev pub Nowhere : LegLine → ℕ → List PlainLeg → Type 0
Nowhere line minute legs = (i : ℕ) → i < length legs → Holds line minute legs i → ⊥

-- a line is true of a leg and of none before it, and the refusal tells that leg
pub record First (line : LegLine) (minute : ℕ) (legs : List PlainLeg) (e : TicketRefusal) : Type 0 where
  pub at : ℕ
  pub told : e ≡ Leg line (at + 1)
  pub within : at < length legs
  pub true_there : Holds line minute legs at
  pub not_before : (k : ℕ) → k < at → Holds line minute legs k → ⊥
