use Rattle.std.proofs.Common.{◌-◌, ◌<◌, ◌≤◌, List, length, get_or, take, replicate, sym, refl, ap, ◌∙◌, subst, arith}
use Rattle.std.proofs.lemmas.List.{get_or_read}
use Rattle.contracts.specs.declared.leg.Leg.{Leg}
use Rattle.tickets.proofs.Places.{blank_row}
use Rattle.tickets.specs.Filled.{blank_leg}
use Rattle.catalogue.specs.Rows.{faced, no_leg, row}
use Rattle.catalogue.specs.Seatings.{Permutation}
use Rattle.catalogue.proofs.Rows.{leg_named, seat_more, seat_whole}
use Rattle.catalogue.proofs.seating.seated.Goals as goal

pub loop-role-init : goal.loop-role-init
loop-role-init c = ap (replicate 4) c.blank-row.ensures ∙ blank_row 4 blank_leg

pub loop-role-preserved : goal.loop-role-preserved
loop-role-preserved c =
    let legs = c.legs-legs.result.now in
    let numbers = take (length legs) c.args.seating.now in
    let i = c.loop-role.role in
    let seats = subst (λ (l : List Leg). Permutation (length l) (take (length l) c.args.seating.now)) (sym c.legs-legs.ensures) c.requires in
    let named = leg_named (length legs) numbers seats i c.loop-role-test.true in
    let long = seats.long in
    let few = c.args.ticket.now.four in
    let many = ap length c.legs-legs.ensures in
    let within : get_or numbers i 0 - 1 < length legs = omega arith in
    let leg = get_or_read legs (get_or numbers i 0 - 1) c.index-legs-number.result within c.index-legs-number.is no_leg in
    seat_more c.args.direction legs numbers i c.loop-role.row _ c.turn.new.leg (omega arith) c.loop-role-test.true c.loop-role.invariant
    (c.turn.ensures ∙ ap (faced c.args.direction) leg) refl

pub returns : goal.returns
returns c =
    let legs = c.legs-legs.result.now in
    let numbers = take (length legs) c.args.seating.now in
    let seats = subst (λ (l : List Leg). Permutation (length l) (take (length l) c.args.seating.now)) (sym c.legs-legs.ensures) c.requires in
    let four = c.args.ticket.now.four in
    let many = ap length c.legs-legs.ensures in
    let few : length legs ≤ 4 = omega arith in
    c.of.ensures
    ∙ seat_whole c.args.direction legs numbers c.loop-role.role c.loop-role.row seats.long few c.loop-role-test.false c.loop-role.invariant
    ∙ ap (λ (l : List Leg). row c.args.direction l (take (length l) c.args.seating.now)) c.legs-legs.ensures
