use Rattle.std.proofs.Common.{replicate, ap, ◌∙◌, arith}
use Rattle.tickets.proofs.Places.{blank_row}
use Rattle.tickets.proofs.row.Row.new.Goals as goal

pub invariant_of-result : goal.invariant_of-result
invariant_of-result g c = (omega arith, ap (replicate g.row.N) c.blank.ensures ∙ blank_row g.row.N g.T.Blank.blank)
