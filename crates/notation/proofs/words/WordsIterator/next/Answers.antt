use Rattle.std.proofs.Common.{rules, not, List, ℕ, length, sym, ap, ◌∙◌, arith}
use Rattle.std.specs.Option.{unwrap_or}
use Rattle.std.proofs.lemmas.Iterator.{YieldsList-from_slice}
use Rattle.std.proofs.lemmas.Iterator.Search.{position_from_yields_List}
use borrow.Author.Tests.{tests}
use Rattle.notation.specs.Words.{space}
use Rattle.notation.proofs.Split.{no_word, one_word}
use Rattle.notation.proofs.words.WordsIterator.next.Goals as goal

pub returns-in_err-start-clause-steps : goal.returns-in_err-start-clause-steps
returns-in_err-start-clause-steps c =
    let start = position_from_yields_List (λ x. not (space x)) _ _ c.position.result c.position.ensures.ran (YieldsList-from_slice c.self.inside.rest.now cc) (λ x b q k. search (rules, tests)) in
    let none = sym c.self.view_is ∙ no_word c.self.inside.rest.now (sym start ∙ c.in_err-start.was) in
    rw c.from_residual.ensures (none, none)

pub returns-clause-steps : goal.returns-clause-steps
returns-clause-steps c =
    let text = c.split_at.result.1.now in
    let start = position_from_yields_List (λ x. not (space x)) _ _ c.position.result c.position.ensures.ran (YieldsList-from_slice c.self.inside.rest.now cc) (λ x b q k. search (rules, tests)) in
    let end = position_from_yields_List space _ _ c.position-2.result c.position-2.ensures.ran (YieldsList-from_slice text cc) (λ x b q k. search (rules, tests)) in
    sym c.self.view_is ∙ one_word c.self.inside.rest.now text _ _ c.in_ok-start.start c.unwrap_or-end.result (sym start ∙ c.in_ok-start.was) c.split_at.ensures.back (c.unwrap_or-end.ensures ∙ ap (λ o. unwrap_or o (length text)) end) c.split_at-2.ensures.front c.split_at-2.ensures.back

pub returns-clause-goes : goal.returns-clause-goes
returns-clause-goes c =
    let fewer = ap (λ (l : List (List ℕ)). length l) (returns-clause-steps c) in
    record { on = λ _. (tt, tt, omega arith); keeps = tt; rests = λ _. tt }
