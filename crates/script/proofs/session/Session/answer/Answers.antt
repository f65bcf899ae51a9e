use Rattle.std.proofs.Common.{rules}
use Rattle.script.proofs.Five.{answered}
use Rattle.script.proofs.session.Session.answer.Goals as goal

pub returns-in-Ok-Some : goal.returns-in-Ok-Some
returns-in-Ok-Some c = answered c.args.self.now.market c.args.line.now c.read_line.result _ _ c.read_line.ensures (search rules)

pub returns-in-Err : goal.returns-in-Err
returns-in-Err c = answered c.args.self.now.market c.args.line.now c.read_line.result _ _ c.read_line.ensures (search rules)
