use Rattle.std.proofs.Common.{ℕ, ◌<◌}
use Rattle.tickets.specs.Lines.{Holds}
use Rattle.tickets.proofs.lines.refuse.Given as goal

abbrev pub invariant-loop-i : goal.invariant-loop-i
invariant-loop-i l = (k : ℕ) → k < l.i → Holds l.line l.minute l.legs k → ⊥
