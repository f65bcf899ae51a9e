-- What a letter of a relation stands for is written as that letter, and nothing else is. Assumes nothing.
use Rattle.std.specs.Prelude.{◌≡◌, ◌↔◌, ℕ, [], ◌∷◌, Some}
use Rattle.std.proofs.Common.{arith}
use Rattle.std.proofs.lemmas.Bool.Decides.{nat_tests}
use Rattle.sheet.specs.Letters.{aspect_text, aspect_of, comparison_text, comparison_of}
use Rattle.sheet.specs.declared.record.Aspect.{Aspect}
use Rattle.sheet.specs.declared.record.Aspect.TheVariants.{Strike, Month}
use Rattle.sheet.specs.declared.record.Comparison.{Comparison}
use Rattle.sheet.specs.declared.record.Comparison.TheVariants.{Before, Same, After, Different}

pub aspects_told : (c : ℕ) (x : Aspect) → (aspect_of c ≡ Some x) ↔ (Some (aspect_text x) ≡ Some (c ∷ []))
aspects_told c Strike = (λ e. grind (arith, nat_tests), λ e. grind (arith, nat_tests))
aspects_told c Month = (λ e. grind (arith, nat_tests), λ e. grind (arith, nat_tests))

pub comparisons_told : (c : ℕ) (x : Comparison) → (comparison_of c ≡ Some x) ↔ (Some (comparison_text x) ≡ Some (c ∷ []))
comparisons_told c Before = (λ e. grind (arith, nat_tests), λ e. grind (arith, nat_tests))
comparisons_told c Same = (λ e. grind (arith, nat_tests), λ e. grind (arith, nat_tests))
comparisons_told c After = (λ e. grind (arith, nat_tests), λ e. grind (arith, nat_tests))
comparisons_told c Different = (λ e. grind (arith, nat_tests), λ e. grind (arith, nat_tests))
