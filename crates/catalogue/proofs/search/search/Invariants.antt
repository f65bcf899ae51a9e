use Rattle.std.proofs.Common.{length}
use Rattle.catalogue.proofs.Rest.{Goes, from_entry, from_direction, from_seating}
use Rattle.catalogue.proofs.search.search.Given as goal

abbrev pub invariant-loop-entry : goal.invariant-loop-entry
invariant-loop-entry g l = Goes (g.C.Catalogue.entries l.catalogue) l.ticket.legs (from_entry (length l.ticket.legs) (length (g.C.Catalogue.entries l.catalogue)) l.entry)

abbrev pub invariant-loop-direction : goal.invariant-loop-direction
invariant-loop-direction g l =
    Goes (g.C.Catalogue.entries l.catalogue) l.ticket.legs (from_direction (length l.ticket.legs) (length (g.C.Catalogue.entries l.catalogue)) l.entry l.direction-index)

abbrev pub invariant-loop-seating : goal.invariant-loop-seating
invariant-loop-seating g l =
    Goes (g.C.Catalogue.entries l.catalogue) l.ticket.legs
    (from_seating (length l.ticket.legs) (length (g.C.Catalogue.entries l.catalogue)) l.entry l.direction-index l.seating-index)
