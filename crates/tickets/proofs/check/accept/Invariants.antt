use Rattle.tickets.proofs.Sound.{Kept}
use Rattle.tickets.proofs.check.accept.Given as goal

abbrev pub invariant-loop-leg : goal.invariant-loop-leg
invariant-loop-leg l = Kept l.scale l.legs l.row l.leg-index
