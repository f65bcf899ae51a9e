use Rattle.std.proofs.Common.{Ok, rules}
use Rattle.sheet.specs.Read.{made}
use Rattle.sheet.proofs.Settled.{settled}
use Rattle.sheet.proofs.sheet.Sheet.new.Goals as goal

pub returns-in_err-refuse-clause-refused : goal.returns-in_err-refuse-clause-refused
returns-in_err-refuse-clause-refused c = settled _ c.from_residual.result (search rules)

pub returns : goal.returns
returns c = record { outcome = made _; refused = settled _ (Ok _) (made _) }
