-- The letters of a leg: how each is written, and what a character stands for. Assumes nothing.
use Rattle.std.specs.Prelude.{ℕ, List, codes, cond, Option, Some, None, ◌==◌}
use Rattle.contracts.specs.declared.contract.Kind.{Kind}
use Rattle.contracts.specs.declared.contract.Kind.TheVariants as kind
use Rattle.contracts.specs.declared.contract.Right.{Right}
use Rattle.contracts.specs.declared.contract.Right.TheVariants as right
use Rattle.contracts.specs.declared.plain.Side.{Side}
use Rattle.contracts.specs.declared.plain.Side.TheVariants.{Bought, Sold}
use Rattle.contracts.specs.declared.plain.State.{State}
use Rattle.contracts.specs.declared.plain.State.TheVariants.{Trading, Auction, Suspended, Forbidden}

abbrev pub side_text : Side → List ℕ
side_text Bought = codes "B"
side_text Sold = codes "S"

abbrev pub side_of : ℕ → Option Side
side_of c = cond (c == 66) (Some Bought) (cond (c == 83) (Some Sold) None)

abbrev pub right_text : Right → List ℕ
right_text right.Call = codes "C"
right_text right.Put = codes "P"

abbrev pub kind_text : Kind → List ℕ
kind_text kind.Future = codes "F"
kind_text kind.Call = codes "C"
kind_text kind.Put = codes "P"

abbrev pub kind_of : ℕ → Option Kind
kind_of c = cond (c == 70) (Some kind.Future) (cond (c == 67) (Some kind.Call) (cond (c == 80) (Some kind.Put) None))

abbrev pub state_text : State → List ℕ
state_text Trading = codes "T"
state_text Auction = codes "A"
state_text Suspended = codes "H"
state_text Forbidden = codes "X"

abbrev pub state_of : ℕ → Option State
state_of c =
    cond (c == 84) (Some Trading) (cond (c == 65) (Some Auction) (cond (c == 72) (Some Suspended) (cond (c == 88) (Some Forbidden) None)))
