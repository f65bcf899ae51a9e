use Rattle.script.proofs.Keeping.{Sofar}
use Rattle.script.proofs.read.read_legs.Given as goal

abbrev pub invariant-loop-i : goal.invariant-loop-i
invariant-loop-i l = Sofar l.market l.fn.words l.legs l.i-iterator.count l.i-iterator.iter.now
