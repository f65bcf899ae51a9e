use Rattle.std.proofs.Common.{rules, tests}
use Rattle.std.proofs.lemmas.Iterator.{IsFirst-from_position, YieldsList-from_slice}
use Rattle.sheet.specs.Forms.{InForm}
use Rattle.sheet.specs.Rules.{rule_of}
use Rattle.sheet.specs.Read.{first_or_none}
use Rattle.sheet.proofs.make.first_out_of_form.Goals as goal

pub returns : goal.returns
returns c =
    let records = c.args.records.now in
    first_or_none records _
    (IsFirst-from_position _ _ _ (λ x. ¬ InForm (rule_of x)) (λ x. InForm (rule_of x)) c.position.ensures.ran (YieldsList-from_slice records cc) (λ x q k. search (rules, tests)) (λ x q k. search (rules, tests)))
