use Rattle.std.proofs.Common.{◌+◌}
use Rattle.tickets.proofs.Firsts.{Upto}
use Rattle.tickets.proofs.check.refuse_first.Given as goal

-- every line before the one at hand is true of no leg
abbrev pub invariant-loop-line : goal.invariant-loop-line
invariant-loop-line l = Upto l.minute l.legs (6 + l.line-index)
