-- What a letter stands for is written as that letter, and nothing else is. Assumes nothing.
use Rattle.std.specs.Prelude.{◌≡◌, ◌↔◌, ℕ, [], ◌∷◌, Some}
use Rattle.std.proofs.Common.{arith}
use Rattle.std.proofs.lemmas.Bool.Decides.{nat_tests}
use Rattle.contracts.specs.Letters.{side_text, side_of, kind_text, kind_of, state_text, state_of}
use Rattle.contracts.specs.declared.contract.Kind.{Kind}
use Rattle.contracts.specs.declared.contract.Kind.TheVariants as kind
use Rattle.contracts.specs.declared.plain.Side.{Side}
use Rattle.contracts.specs.declared.plain.Side.TheVariants.{Bought, Sold}
use Rattle.contracts.specs.declared.plain.State.{State}
use Rattle.contracts.specs.declared.plain.State.TheVariants.{Trading, Auction, Suspended, Forbidden}

pub sides_told : (c : ℕ) (x : Side) → (side_of c ≡ Some x) ↔ (Some (side_text x) ≡ Some (c ∷ []))
sides_told c Bought = (λ e. grind (arith, nat_tests), λ e. grind (arith, nat_tests))
sides_told c Sold = (λ e. grind (arith, nat_tests), λ e. grind (arith, nat_tests))

pub kinds_told : (c : ℕ) (x : Kind) → (kind_of c ≡ Some x) ↔ (Some (kind_text x) ≡ Some (c ∷ []))
kinds_told c kind.Future = (λ e. grind (arith, nat_tests), λ e. grind (arith, nat_tests))
kinds_told c kind.Call = (λ e. grind (arith, nat_tests), λ e. grind (arith, nat_tests))
kinds_told c kind.Put = (λ e. grind (arith, nat_tests), λ e. grind (arith, nat_tests))

pub states_told : (c : ℕ) (x : State) → (state_of c ≡ Some x) ↔ (Some (state_text x) ≡ Some (c ∷ []))
states_told c Trading = (λ e. grind (arith, nat_tests), λ e. grind (arith, nat_tests))
states_told c Auction = (λ e. grind (arith, nat_tests), λ e. grind (arith, nat_tests))
states_told c Suspended = (λ e. grind (arith, nat_tests), λ e. grind (arith, nat_tests))
states_told c Forbidden = (λ e. grind (arith, nat_tests), λ e. grind (arith, nat_tests))
