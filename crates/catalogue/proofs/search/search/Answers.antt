use Rattle.std.proofs.Common.{◌+◌, ◌<◌, List, [], length, get_or, Option, sym, refl, ap, ◌∙◌, subst, arith}
use Rattle.std.specs.Option.{ok_or}
use Rattle.catalogue.specs.Search.{Searched}
use Rattle.catalogue.specs.Seatings.{seatings}
use Rattle.catalogue.specs.declared.direction.Direction.{Direction}
use Rattle.catalogue.specs.declared.direction.Direction.TheVariants.{Buy}
use Rattle.catalogue.specs.declared.refusal.CatalogueRefusal.TheVariants.{NoEntryFits}
use Rattle.catalogue.specs.declared.search.Fit.{Fit}
use Rattle.catalogue.proofs.Rest.{starts, to_first_direction, to_first_seating, to_next_direction, to_next_entry, hit, miss, none_left}
use Rattle.catalogue.proofs.Seats.{table_length, place_padded, place_seats, place_short}
use Rattle.catalogue.proofs.Skips.{passed_over}
use Rattle.catalogue.proofs.search.search.Goals as goal
use Rattle.catalogue.proofs.search.search.Goals.{then-loop-entry-test+else-role_count-roles+then-loop-direction-test+then-loop-seating-test+then-fits_so as broke, else-loop-entry-test as none_at_all, then-loop-entry-test+then-role_count-roles+else-entry-entry-end as last_passed_over, then-loop-entry-test+else-role_count-roles+else-loop-direction-test+else-entry-entry-end-2 as last_tried}

pub loop-entry-init : goal.loop-entry-init
loop-entry-init g c = starts (g.C.Catalogue.entries c.args.catalogue.now) c.args.ticket.now.legs

pub loop-entry-preserved-then-role_count-roles : goal.loop-entry-preserved-then-role_count-roles
loop-entry-preserved-then-role_count-roles g c =
    let t = c.args.ticket.now in
    let es = g.C.Catalogue.entries c.args.catalogue.now in
    let count = c.count-entry-end.ensures in
    let within : c.loop-entry.entry < length es + 1 = omega arith in
    passed_over es t.legs c.loop-entry.entry t.two t.four (λ e. c.if-role_count-roles.true (c.role_count.ensures ∙ e ∙ sym (ap length c.legs-roles.ensures)))
    (length es) within c.loop-entry.invariant

pub loop-direction-init : goal.loop-direction-init
loop-direction-init g c =
    let es = g.C.Catalogue.entries c.args.catalogue.now in
    let count = c.count-entry-end.ensures in
    let within : c.loop-entry.entry < length es + 1 = omega arith in
    to_first_direction es c.args.ticket.now.legs (length es) c.loop-entry.entry within c.loop-entry.invariant

pub loop-seating-init : goal.loop-seating-init
loop-seating-init g c =
    let es = g.C.Catalogue.entries c.args.catalogue.now in
    to_first_seating es c.args.ticket.now.legs (length es) c.loop-entry.entry c.loop-direction.direction-index c.loop-direction-test.true c.loop-direction.invariant

pub fits_so-requires : goal.fits_so-requires
fits_so-requires g c =
    let t = c.args.ticket.now in
    let table = c.seatings_of-seating-items.result.now in
    let said = c.seatings_of-seating-items.ensures.table in
    let long = table_length t c.legs-roles.result.now c.legs-roles.ensures table said in
    place_seats t c.legs-roles.result.now c.legs-roles.ensures table said c.loop-seating.seating-index (omega arith)

pub loop-seating-preserved : goal.loop-seating-preserved
loop-seating-preserved g c =
    let t = c.args.ticket.now in
    let es = g.C.Catalogue.entries c.args.catalogue.now in
    let table = c.seatings_of-seating-items.result.now in
    let said = c.seatings_of-seating-items.ensures.table in
    let long = table_length t c.legs-roles.result.now c.legs-roles.ensures table said in
    let i = c.loop-seating.seating-index in
    let here : i < length (seatings (length t.legs)) = omega arith in
    miss es t.legs (length es) c.loop-entry.entry c.loop-direction.direction-index i here c.loop-seating.invariant _ (ap (λ (l : List Direction). get_or l c.loop-direction.direction-index Buy) c.both-direction-items.ensures)
    _ (place_short t c.legs-roles.result.now c.legs-roles.ensures table said i here)
    c.fits_so.result c.fits_so.ensures c.if-fits_so.false

pub loop-direction-preserved : goal.loop-direction-preserved
loop-direction-preserved g c =
    let t = c.args.ticket.now in
    let es = g.C.Catalogue.entries c.args.catalogue.now in
    let table = c.seatings_of-seating-items.result.now in
    let said = c.seatings_of-seating-items.ensures.table in
    let long = table_length t c.legs-roles.result.now c.legs-roles.ensures table said in
    to_next_direction es t.legs (length es) c.loop-entry.entry c.loop-direction.direction-index c.loop-seating.seating-index (omega arith) c.loop-seating.invariant

pub loop-entry-preserved : goal.loop-entry-preserved
loop-entry-preserved g c =
    let es = g.C.Catalogue.entries c.args.catalogue.now in
    to_next_entry es c.args.ticket.now.legs (length es) c.loop-entry.entry c.loop-direction.direction-index c.loop-direction-test.false c.loop-direction.invariant

pub returns : goal.returns
returns g c =
    let t = c.args.ticket.now in
    let es = g.C.Catalogue.entries c.args.catalogue.now in
    let count = c.count-entry-end.ensures in
    let Told : Option Fit → Type 0 = λ o. Searched es t.legs (ok_or o NoEntryFits) in
    let so_far : Told c.loop-entry-test.found =
    elim c.loop-entry-test.branch [
      | broke w ↦
          let table = w.seatings_of-seating-items.result.now in
          let said = w.seatings_of-seating-items.ensures.table in
          let long = table_length t c.legs-roles.result.now c.legs-roles.ensures table said in
          let i = w.loop-seating.seating-index in
          let here : i < length (seatings (length t.legs)) = omega arith in
          subst Told (sym w.found-is) (
            get_or (seatings (length t.legs)) i [],
            hit es t.legs (length es) c.loop-entry.entry w.loop-direction.direction-index i here w.loop-seating.invariant _ (ap (λ (l : List Direction). get_or l w.loop-direction.direction-index Buy) w.both-direction-items.ensures)
                _ (place_short t c.legs-roles.result.now c.legs-roles.ensures table said i here)
                w.fits_so.result w.fits_so.ensures w.if-fits_so.true,
            place_padded t c.legs-roles.result.now c.legs-roles.ensures table said i here,
          )
      | none_at_all w ↦ subst Told (sym w.found-is) (refl, none_left es t.legs (length es) c.loop-entry.entry (omega arith) c.loop-entry.invariant)
      | last_passed_over w ↦
          let within : c.loop-entry.entry < length es + 1 = omega arith in
          subst Told (sym w.found-is) (
            refl,
            none_left es t.legs (length es) (c.loop-entry.entry + 1) (omega arith)
                (passed_over es t.legs c.loop-entry.entry t.two t.four (λ e. w.if-role_count-roles.true (w.role_count.ensures ∙ e ∙ sym (ap length c.legs-roles.ensures)))
                (length es) within c.loop-entry.invariant),
          )
      | last_tried w ↦
          subst Told (sym w.found-is) (
            refl,
            none_left es t.legs (length es) (c.loop-entry.entry + 1) (omega arith)
                (to_next_entry es t.legs (length es) c.loop-entry.entry w.loop-direction.direction-index w.loop-direction-test.false w.loop-direction.invariant),
          )
    ] in
    subst (Searched es t.legs) (sym c.ok_or.ensures.value) so_far
