use Rattle.std.proofs.Common.{rules}
use Rattle.notation.proofs.Fields.{number_told}
use Rattle.notation.proofs.field.read_number.Goals as goal

pub returns-in_err-number-clause-spelled : goal.returns-in_err-number-clause-spelled
returns-in_err-number-clause-spelled c = number_told c.args.part _ _ (search rules)

pub returns-in_err-end-clause-spelled : goal.returns-in_err-end-clause-spelled
returns-in_err-end-clause-spelled c = number_told c.args.part _ _ (search rules)

pub returns-clause-spelled : goal.returns-clause-spelled
returns-clause-spelled c = number_told c.args.part _ _ (search rules)
