use Rattle.tickets.proofs.Places.{one_blank}
use Rattle.tickets.proofs.row.LegBlank.blank.Goals as goal

pub returns : goal.returns
returns c = one_blank _ _
