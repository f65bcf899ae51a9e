use Rattle.std.proofs.Common.{arith}
use Rattle.tickets.proofs.Places.{next_filled}
use Rattle.tickets.proofs.row.Row.keep.Goals as goal

pub invariant_of-self : goal.invariant_of-self
invariant_of-self g c = (omega arith, next_filled g.row.N g.T.Blank.blank c.self.inside.count c.self.inside.legs c.args.leg (omega arith) c.self.invariant.1)
