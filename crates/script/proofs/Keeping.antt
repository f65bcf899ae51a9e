-- The legs of a line, one after another. Assumes nothing.
use Rattle.std.proofs.Common.{◌≡◌, ℕ, ◌+◌, List, ◌∷◌, [], ◌++◌, Ok, Err, length, take, sym, refl, ap, append_assoc}
use Rattle.contracts.specs.declared.plain.PlainLeg.{PlainLeg}
use Rattle.contracts.specs.declared.plain.Reference.{Reference}
use Rattle.notation.specs.Reading.{and_then}
use Rattle.script.specs.Lines.{Read, read_legs}

-- legs behind others
abbrev pub behind : List PlainLeg → Read (List PlainLeg) → Read (List PlainLeg)
behind all (Ok got) = Ok (all ++ got.0, got.1)
behind all (Err t) = Err t

pub behind_more : (all : List PlainLeg) (leg : PlainLeg) (r : Read (List PlainLeg)) → behind all (and_then r (λ legs rest. Ok (leg ∷ legs, rest))) ≡ behind (all ++ leg ∷ []) r
behind_more all leg (Ok got) = ap (λ (legs : List PlainLeg). Ok (legs, got.1)) (sym (append_assoc all (leg ∷ []) got.0))
behind_more all leg (Err t) = refl

-- some legs were read: they and the words that are left say what the line says
pub record Sofar (market : Reference) (line : List (List ℕ)) (kept : List PlainLeg) (count : ℕ) (left : List (List ℕ)) : Type 0 where
  pub all : List PlainLeg
  pub five : kept ≡ take 5 all
  pub same : read_legs market 3 line ≡ behind all (read_legs market (count + 3) left)
  pub within : count + length left ≡ length line
