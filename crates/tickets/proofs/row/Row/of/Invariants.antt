use Rattle.std.proofs.Common.{◌≡◌, ◌≤◌, length, take}
use Rattle.tickets.specs.Filled.{filled}
use Rattle.tickets.proofs.row.Row.of.Given as goal

-- the places before this one are the legs, and blank past them
abbrev pub invariant-loop-place : goal.invariant-loop-place
invariant-loop-place g l =
    (take l.place l.legs ≡ filled l.place g.T.Blank.blank (take l.count l.fn.places)) × (length l.legs ≡ g.row.N) × (l.count ≤ l.place) × (l.count ≤ g.row.N) × (l.place ≤ g.row.N)
