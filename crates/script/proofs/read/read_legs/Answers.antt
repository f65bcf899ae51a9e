use Rattle.std.proofs.Common.{◌∷◌, [], ◌++◌, rules}
use Rattle.script.proofs.Keeping.{behind_more}
use Rattle.script.proofs.read.read_legs.Goals as goal

pub loop-i-preserved : goal.loop-i-preserved
loop-i-preserved c =
    let sofar = c.loop-i.invariant in
    let leg = c.in_ok-leg.leg in
    record {
      all = sofar.all ++ leg ∷ [];
      five = search rules;
      same = search (rules, sofar.same, behind_more);
      within = search rules;
    }
