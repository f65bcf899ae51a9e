use Rattle.std.proofs.Common.{subst, rules}
use Rattle.std.proofs.lemmas.Fn.{fold_over, slice_gives, fronts}
use Rattle.tickets.specs.Scales.{Scale}
use Rattle.tickets.proofs.Scales.{scale_none, scale_more}
use Rattle.tickets.proofs.scale.scale_of.Goals as goal

pub returns : goal.returns
returns c =
    subst (λ legs. Scale legs c.fold.result) c.iter.ensures.rest
    (fold_over fronts (λ y. y.now) _ Scale _ (λ ys a x b f j k. (scale_more ys x.now a b j (search rules), search rules))
    _ _ _ _ (slice_gives c.iter.result) scale_none c.fold.ensures.ran)
