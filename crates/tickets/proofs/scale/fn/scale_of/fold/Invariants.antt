use Rattle.std.specs.Int.{IsGcd}
use Rattle.tickets.proofs.scale.fn.scale_of.fold.Given as goal

abbrev pub ensures : goal.ensures
ensures l r = IsGcd l.common l.leg.entry.now.lots r
