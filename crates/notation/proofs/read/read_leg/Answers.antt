use Rattle.std.proofs.Common.{rules}
use Rattle.notation.proofs.Back.{told, told_back}
use Rattle.notation.proofs.read.read_leg.Goals as goal

pub returns-clause-spelled : goal.returns-clause-spelled
returns-clause-spelled c = told _ _ _ (search rules)

pub returns-clause-back : goal.returns-clause-back
returns-clause-back c = told_back _ _ _ (search rules)
