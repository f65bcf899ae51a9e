use Rattle.std.proofs.Common.{◌≡◌, ℕ, Err, Result, refl, ap, ◌∙◌}
use Rattle.std.proofs.lemmas.Result.{err_from_is_err_and}
use Rattle.tickets.specs.declared.fault.Fault.{Fault}
use Rattle.tickets.specs.declared.refusal.TicketRefusal.{TicketRefusal}
use Rattle.tickets.specs.declared.ticket.Ticket.{Ticket}
use Rattle.catalogue.specs.Analysis.{held}
use Rattle.catalogue.specs.Refusals.{catalogue_fault}
use Rattle.catalogue.proofs.Outcomes.{refused_clauses, none_clauses, found-clauses}
use Rattle.catalogue.proofs.analyse.analyse.Goals as goal

abbrev failed : Fault → Result (ℕ × ℕ × ℕ) Fault
failed f = Err f

same_refusal : (e f : TicketRefusal) → ◌≡◌ {A = Result Ticket TicketRefusal} (Err e) (Err f) → e ≡ f
same_refusal e f h = cc

pub returns-in_err-ticket : goal.returns-in_err-ticket
returns-in_err-ticket g c =
    let e = c.in_err-ticket.field-0.0 in
    let w = c.in_err-ticket.ensures.refused in
    let q = err_from_is_err_and c.from_residual.result c.from_residual.ensures.1 in
    let k =
    refused_clauses (g.C.Catalogue.entries c.args.catalogue.now) c.args.minute c.args.legs.now (held c.args.strategy.now c.args.seating.now)
    c.from_residual.result e (q.1 ∙ ap failed q.2) ((w e).0 refl) (λ f h. same_refusal e f ((w f).1 h)) in
    record { refused = k.refused; answered = k.answered; named = k.named; untyped = k.untyped; same_strategy = k.same_strategy }

pub returns-in_err-fit : goal.returns-in_err-fit
returns-in_err-fit g c =
    let es = g.C.Catalogue.entries c.args.catalogue.now in
    let v = c.in_ok-ticket.ensures.accepted in
    let w = c.in_err-fit.ensures in
    let r = c.from_residual-in_err-fit.result in
    let q = err_from_is_err_and r c.from_residual-in_err-fit.ensures.1 in
    let k =
    none_clauses es c.args.minute c.args.legs.now (held c.args.strategy.now c.args.seating.now) c.in_ok-ticket.ticket v.0 v.1
    r (q.1 ∙ ap failed (q.2 ∙ ap catalogue_fault w.0)) w.1 in
    record { refused = k.refused; answered = k.answered; named = k.named; untyped = k.untyped; same_strategy = k.same_strategy }

pub returns : goal.returns
returns g c =
    let v = c.in_ok-ticket.ensures.accepted in
    let k =
    found-clauses (g.C.Catalogue.entries c.args.catalogue.now) c.args.minute c.args.legs.now (held c.args.strategy.now c.args.seating.now)
    c.in_ok-ticket.ticket v.0 v.1 c.in_ok-fit.fit c.in_ok-fit.ensures
    c.tell.result (held c.tell.new.strategy c.tell.new.seating) c.tell.ensures.answer c.tell.ensures.named c.tell.ensures.seated in
    record { refused = k.refused; answered = k.answered; named = k.named; untyped = k.untyped; same_strategy = k.same_strategy }
