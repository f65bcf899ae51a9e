use Rattle.std.proofs.Common.{◌≡◌, length}
use Rattle.notation.specs.Reading.{more}
use Rattle.notation.proofs.cursor.Cursor.digits_after.Given as goal

-- the digits that are left give what is read of them all
abbrev pub invariant-loop-digit : goal.invariant-loop-digit
invariant-loop-digit l = more l.part l.value l.self ≡ more l.part l.start l.initial.self

abbrev pub decreases-loop-digit : goal.decreases-loop-digit
decreases-loop-digit l = length l.self
