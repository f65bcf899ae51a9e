use Rattle.std.proofs.Common.{rules}
use Rattle.script.proofs.Printed.{all_print}
use Rattle.script.proofs.text.answer_text.Goals as goal

pub returns-in-Ok-clause-one_line : goal.returns-in-Ok-clause-one_line
returns-in-Ok-clause-one_line c = all_print c.args.number c.args.answer.now _ (search rules)

pub returns-in-Err-clause-one_line : goal.returns-in-Err-clause-one_line
returns-in-Err-clause-one_line c = all_print c.args.number c.args.answer.now _ (search rules)
