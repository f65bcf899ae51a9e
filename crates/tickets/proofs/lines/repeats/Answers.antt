use Rattle.std.proofs.Common.{◌≡◌, rules, tests}
use Rattle.std.proofs.lemmas.Iterator.{cases_from_any, YieldsList-from_slice}
use Rattle.tickets.proofs.Behind.{repeats_found}
use Rattle.tickets.proofs.lines.repeats.Goals as goal

pub returns : goal.returns
returns c =
    let own = c.args.leg.now.contract in
    repeats_found c.args.earlier.now c.args.leg.now c.any.result
    (cases_from_any _ _ _ (λ x. x.contract ≡ own) (λ x. x.contract ≡ own → ⊥) c.any.ensures.ran (YieldsList-from_slice c.args.earlier.now cc)
    (λ x q k. search (rules, tests)) (λ x q k. search (rules, tests)))
