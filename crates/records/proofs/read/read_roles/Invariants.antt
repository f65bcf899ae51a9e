use Rattle.std.proofs.Common.{◌≡◌, ◌+◌, ◌≤◌, ◌++◌, length, vec_items, vec_len}
use Rattle.records.specs.Reading.{take_roles}
use Rattle.records.proofs.read.read_roles.Given as goal

-- the roles so far and those that are left are all that there are
abbrev pub invariant-loop-role : goal.invariant-loop-role
invariant-loop-role l =
    (take_roles l.fn.rest ≡ (vec_items l.roles ++ (take_roles l.rest).0, (take_roles l.rest).1))
    × (l.ahead ≡ l.rest)
    × (vec_len l.roles + length l.rest ≤ length l.fn.rest)

abbrev pub decreases-loop-role : goal.decreases-loop-role
decreases-loop-role l = length l.ahead
