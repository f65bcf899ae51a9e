-- What a letter of the mark stands for is written as that letter, and nothing else is. Assumes nothing.
use Rattle.std.specs.Prelude.{◌≡◌, ◌↔◌, ℕ, Bool, true, false, [], ◌∷◌, Some}
use Rattle.std.proofs.Common.{arith}
use Rattle.std.proofs.lemmas.Bool.Decides.{nat_tests}
use Rattle.records.specs.Letters.{mark_text, mark_of}
use Rattle.records.specs.declared.mark.Mark.{Mark}

set_told : (c : ℕ) (set : Bool) → (mark_of c ≡ Some (record { 0 = set })) ↔ (Some (mark_text set) ≡ Some (c ∷ []))
set_told c true = (λ e. grind (arith, nat_tests), λ e. grind (arith, nat_tests))
set_told c false = (λ e. grind (arith, nat_tests), λ e. grind (arith, nat_tests))

pub marks_told : (c : ℕ) (mark : Mark) → (mark_of c ≡ Some mark) ↔ (Some (mark_text mark.0) ≡ Some (c ∷ []))
marks_told c mark = set_told c mark.0
