-- A row of n places, told from its legs: each place past them holds one and the same value. Assumes nothing.
use Rattle.std.specs.Prelude.{◌≡◌, ℕ, zero, suc, ◌≤◌, List, [], ◌∷◌, length, take, refl}
use Rattle.std.proofs.Common.{lit≤, ap, ◌∙◌, arith}
use Rattle.std.proofs.lemmas.List.{length-take-le}
use Rattle.contracts.specs.declared.contract.Contract.TheVariants.{Future}
use Rattle.contracts.specs.declared.leg.Leg.{Leg}
use Rattle.contracts.specs.declared.plain.Side.TheVariants.{Bought}

-- what stands past the last leg of a ticket
abbrev pub blank_leg : Leg
blank_leg =
    record {
      contract = Future (record { first = 65; second = 65; third = 65; range = (refl, refl, refl) }) (record { year = 2000; month = 1; range = (lit≤ tt, lit≤ tt, lit≤ tt, lit≤ tt) });
      side = Bought;
      ratio = 0;
    }

abbrev pub filled : {X : Type 0} → ℕ → X → List X → List X
filled zero blank xs = []
filled (suc n) blank [] = blank ∷ filled n blank []
filled (suc n) blank (x ∷ xs) = x ∷ filled n blank xs

pub length-filled : {X : Type 0} (n : ℕ) (blank : X) (xs : List X) → length (filled n blank xs) ≡ n
length-filled zero blank xs = refl
length-filled (suc n) blank [] = ap suc (length-filled n blank [])
length-filled (suc n) blank (x ∷ xs) = ap suc (length-filled n blank xs)

-- so many legs are in the row as it counts
pub counted : {X : Type 0} (n : ℕ) (blank : X) (count : ℕ) (row : List X) → count ≤ n → row ≡ filled n blank (take count row) → length (take count row) ≡ count
counted n blank count row few is = length-take-le count row (omega (arith, ap length is ∙ length-filled n blank (take count row)))
