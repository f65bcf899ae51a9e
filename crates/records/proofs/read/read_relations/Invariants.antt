use Rattle.std.proofs.Common.{◌≡◌, ◌+◌, length, vec_items}
use Rattle.records.specs.Reading.{read_relations}
use Rattle.records.proofs.Row.{behind}
use Rattle.records.proofs.read.read_relations.Given as goal

-- the relations so far and those that are left are all that there are
abbrev pub invariant-loop-i : goal.invariant-loop-i
invariant-loop-i l =
    (read_relations l.start l.fn.rest ≡ behind (vec_items l.relations) (read_relations (l.start + l.i-iterator.count) l.i-iterator.iter.now))
    × (l.i-iterator.count + length l.i-iterator.iter.now ≡ length l.fn.rest)
