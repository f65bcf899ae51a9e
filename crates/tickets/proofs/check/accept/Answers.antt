use Rattle.std.proofs.Common.{◌≡◌, ◌<◌, length, subst, arith}
use Rattle.tickets.proofs.Sound.{two, four, in_range, scale_some, one_core, one_lot_size, one_tick, keeps, one_kept, different, reduced, Kept}
use Rattle.tickets.proofs.check.accept.Goals as goal

pub kept-requires-clause-in_range : goal.kept-requires-clause-in_range
kept-requires-clause-in_range c = in_range c.requires.0 c.args.legs.now c.requires.1 c.loop-leg.leg-index c.loop-leg-test.true

pub kept-requires-clause-some : goal.kept-requires-clause-some
kept-requires-clause-some c = scale_some c.requires.0 c.args.legs.now c.requires.1 _ c.scale_of-scale.ensures

pub loop-leg-preserved : goal.loop-leg-preserved
loop-leg-preserved c =
    let legs = c.args.legs.now in
    let i = c.loop-leg.leg-index in
    let s = c.scale_of-scale.result in
    let k = c.kept.ensures in
    let few = four c.requires.0 legs c.requires.1 in
    let room : i < 4 = omega arith in
    one_kept s legs c.loop-leg.row c.keep.new.self i c.kept.result room c.loop-leg.invariant
    (keeps c.requires.0 legs c.requires.1 s c.scale_of-scale.ensures i c.loop-leg-test.true c.kept.result k.contract k.side k.ratio)
    c.keep.ensures

pub bounds-legs-0 : goal.bounds-legs-0
bounds-legs-0 c = let p = two c.requires.0 c.args.legs.now c.requires.1 in omega arith

pub invariant_of-result : goal.invariant_of-result
invariant_of-result c =
    let m = c.requires.0 in
    let legs = c.args.legs.now in
    let s = c.scale_of-scale.result in
    let low = two m legs c.requires.1 in
    let high = four m legs c.requires.1 in
    let all : c.loop-leg.leg-index ≡ length legs = omega arith in
    let kept = subst (λ n. Kept s legs c.loop-leg.row n) all c.loop-leg.invariant in
    let many = kept.many in
    record {
      two = omega arith;
      four = omega arith;
      different = different m legs c.requires.1 s c.scale_of-scale.ensures c.loop-leg.row kept;
      reduced = reduced m legs c.requires.1 s c.scale_of-scale.ensures c.loop-leg.row kept;
    }

pub returns : goal.returns
returns c =
    let m = c.requires.0 in
    let legs = c.args.legs.now in
    let s = c.scale_of-scale.result in
    let all : c.loop-leg.leg-index ≡ length legs = omega arith in
    let kept = subst (λ n. Kept s legs c.loop-leg.row n) all c.loop-leg.invariant in
    record {
      count = kept.many;
      keeps = kept.each;
      scale = c.scale_of-scale.ensures;
      core = one_core m legs c.requires.1;
      lot_size = one_lot_size m legs c.requires.1;
      tick = one_tick m legs c.requires.1;
    }
