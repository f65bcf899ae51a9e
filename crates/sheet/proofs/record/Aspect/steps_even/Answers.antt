use Rattle.std.proofs.Common.{rules}
use Rattle.std.proofs.lemmas.Bool.Decides.{same_from_decides}
use Rattle.keys.specs.Ranges.{month_index}
use Rattle.keys.specs.declared.month.Month.{Month}
use Rattle.keys.specs.declared.strike.Strike.{Strike}
use Rattle.sheet.specs.Even.{even_decides}
use Rattle.sheet.proofs.record.Aspect.steps_even.Goals as goal

pub returns-in-Some-Some-Some : goal.returns-in-Some-Some-Some
returns-in-Some-Some-Some c =
    let x = c.in-Some-Some-Some.a in
    let y = c.in-Some-Some-Some.b in
    let z = c.in-Some-Some-Some.c in
    let e = same_from_decides _ _ c.even_steps.ensures (even_decides (λ (k : Strike). k.hundredths) x y z) in
    search (rules, e)

pub returns-in-Month : goal.returns-in-Month
returns-in-Month c =
    let e = same_from_decides _ _ c.even_steps-in-Month.ensures (even_decides (λ (m : Month). month_index m.year m.month) _ _ _) in
    search (rules, e)
