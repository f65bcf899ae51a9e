use Rattle.std.proofs.Common.{◌≡◌, length, take}
use Rattle.tickets.specs.Filled.{blank_leg, filled}
use Rattle.catalogue.specs.Rows.{row}
use Rattle.catalogue.proofs.seating.seated.Given as goal

abbrev pub invariant-loop-role : goal.invariant-loop-role
invariant-loop-role l = l.row ≡ filled 4 blank_leg (row l.direction l.legs (take l.role (take (length l.legs) l.seating)))
