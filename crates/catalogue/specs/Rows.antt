-- The row that a seating makes of a ticket's legs, in a direction. Assumes nothing.
use Rattle.std.specs.Prelude.{ℕ, ◌-◌, List, map, slice_index_or}
use Rattle.contracts.specs.declared.leg.Leg.{Leg}
use Rattle.contracts.specs.declared.plain.Side.{Side}
use Rattle.contracts.specs.declared.plain.Side.TheVariants.{Bought, Sold}
use Rattle.tickets.specs.Filled.{blank_leg}
use Rattle.catalogue.specs.declared.direction.Direction.{Direction}
use Rattle.catalogue.specs.declared.direction.Direction.TheVariants.{Buy, Sell}

abbrev pub opposite : Side → Side
opposite Bought = Sold
opposite Sold = Bought

-- the same leg, taken from the other side
abbrev pub turned : Leg → Leg
turned leg = record { contract = leg.contract; side = opposite leg.side; ratio = leg.ratio }

-- BUY takes a leg as it is, SELL turns it
abbrev pub faced : Direction → Leg → Leg
faced Buy leg = leg
faced Sell leg = turned leg

-- as a caller is told it
abbrev pub direction_number : Direction → ℕ
direction_number Buy = 1
direction_number Sell = 2

-- what stands past the last leg; no seating names it
abbrev pub no_leg : Leg
no_leg = blank_leg

-- legs are numbered from 1
abbrev pub leg_of : List Leg → ℕ → Leg
leg_of legs k = slice_index_or legs (k - 1) no_leg

-- the legs in the order of the roles, each as the direction has it
abbrev pub row : Direction → List Leg → List ℕ → List Leg
row d legs s = map (λ k. faced d (leg_of legs k)) s
