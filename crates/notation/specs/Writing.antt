-- A leg that was written, as it is read back. Assumes nothing.
use Rattle.contracts.specs.Plain.{plain_contract}
use Rattle.contracts.specs.declared.plain.Reference.{Reference}
use Rattle.contracts.specs.declared.plain.PlainLeg.{PlainLeg}
use Rattle.contracts.specs.declared.leg.Leg.{Leg}

-- its ratio as the lots, and the market's reference data
abbrev pub handed_back : Reference → Leg → PlainLeg
handed_back market leg = record { contract = plain_contract leg.contract; side = leg.side; lots = leg.ratio; reference = market }
