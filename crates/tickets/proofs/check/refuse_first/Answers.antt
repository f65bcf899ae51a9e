use Rattle.std.proofs.Common.{◌≤◌, length, rules}
use Rattle.std.proofs.lemmas.Result.{err_from_is_err_and}
use Rattle.tickets.specs.declared.refusal.LegLine.TheVariants.{Range}
use Rattle.tickets.proofs.Firsts.{told_next, upto_next}
use Rattle.tickets.proofs.check.refuse_first.Goals as goal

pub loop-line-preserved : goal.loop-line-preserved
loop-line-preserved c = upto_next c.args.minute c.args.legs.now c.loop-line.line-index Range c.loop-line-test.true c.loop-line.invariant c.in_ok-refuse.ensures

pub returns-in_err-refuse : goal.returns-in_err-refuse
returns-in_err-refuse c =
    let p = err_from_is_err_and c.from_residual.result c.from_residual.ensures.1 in
    let low : 2 ≤ length c.args.legs.now = search rules in
    let high : length c.args.legs.now ≤ 4 = search rules in
    rw (p.1, p.2)
    (told_next c.args.minute c.args.legs.now c.if-minute-gt1439.false low high c.loop-line.line-index Range c.loop-line-test.true c.loop-line.invariant _ c.in_err-refuse.ensures)
