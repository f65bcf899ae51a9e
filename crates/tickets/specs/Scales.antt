-- The scale of a ticket: the greatest common divisor of the lots. Assumes nothing.
use Rattle.std.specs.Prelude.{ℕ, ◌<◌, List, length}
use Rattle.std.specs.Int.{◌∣◌}
use Rattle.contracts.specs.declared.plain.PlainLeg.{PlainLeg}
use Rattle.tickets.specs.Lines.{leg_at}

-- k divides the lots of every leg
abbrev pub Common : ℕ → List PlainLeg → Type 0
Common k legs = (i : ℕ) → i < length legs → k ∣ (leg_at legs i).lots

-- it divides every lot, and every common divisor of the lots divides it
pub record Scale (legs : List PlainLeg) (s : ℕ) : Type 0 where
  pub divides : Common s legs
  pub greatest : (k : ℕ) → Common k legs → k ∣ s
