use Rattle.std.proofs.Common.{rules, ◌≡◌, ◌≤◌, ◌∙◌, take, length, arith}
use Rattle.std.proofs.lemmas.Bool.Decides.{nat_tests}
use Rattle.std.proofs.lemmas.List.{length-set, length-take-le}
use Rattle.tickets.proofs.Places.{blanked_all, blanked_more, counted_places, filled_whole, row_seen}
use Rattle.tickets.proofs.row.Row.of.Goals as goal

pub loop-place-init : goal.loop-place-init
loop-place-init g c =
    let k = c.min-count.result in
    let long : length c.args.places ≡ g.row.N = search rules in
    let few : k ≤ g.row.N = grind (arith, nat_tests) in
    (filled_whole k g.T.Blank.blank (take k c.args.places) (length-take-le k c.args.places (omega arith)), long, omega arith, few, few)

pub loop-place-preserved : goal.loop-place-preserved
loop-place-preserved g c =
    let k = c.min-count.result in
    let inv = c.loop-place.invariant in
    let long : length c.args.places ≡ g.row.N = search rules in
    let few = length-take-le k c.args.places (omega arith) in
    let more = blanked_more g.T.Blank.blank (take k c.args.places) c.loop-place.legs c.loop-place.place (omega arith) (omega arith) inv.0 in
    (rw c.blank.ensures more, length-set c.loop-place.legs c.loop-place.place c.blank.result ∙ inv.1, omega arith, omega arith, omega arith)

pub invariant_of-result : goal.invariant_of-result
invariant_of-result g c =
    let inv = c.loop-place.invariant in
    let long : length c.args.places ≡ g.row.N = search rules in
    let whole = blanked_all g.T.Blank.blank (take c.min-count.result c.args.places) c.loop-place.legs g.row.N c.loop-place.place inv.1 (omega arith) inv.0 in
    let seen = (row_seen g.T.Blank.blank c.args.places c.loop-place.legs g.row.N c.min-count.result long inv.3 whole).1 in
    (omega arith, search (rules, seen))

pub returns : goal.returns
returns g c =
    let inv = c.loop-place.invariant in
    let long : length c.args.places ≡ g.row.N = search rules in
    let whole = blanked_all g.T.Blank.blank (take c.min-count.result c.args.places) c.loop-place.legs g.row.N c.loop-place.place inv.1 (omega arith) inv.0 in
    let seen = (row_seen g.T.Blank.blank c.args.places c.loop-place.legs g.row.N c.min-count.result long inv.3 whole).0 in
    let all = seen ∙ counted_places c.args.count g.row.N c.min-count.result c.args.places long c.min-count.ensures in
    search (rules, all)
