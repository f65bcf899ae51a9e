-- The parts of a contract. Assumes nothing.
use Rattle.std.specs.Prelude.{Option, Some, None}
use Rattle.keys.specs.declared.month.Month.{Month}
use Rattle.keys.specs.declared.strike.Strike.{Strike}
use Rattle.contracts.specs.declared.root.Root.{Root}
use Rattle.contracts.specs.declared.contract.Right.{Right}
use Rattle.contracts.specs.declared.contract.Right.TheVariants as right
use Rattle.contracts.specs.declared.contract.Kind.{Kind}
use Rattle.contracts.specs.declared.contract.Kind.TheVariants as kind
use Rattle.contracts.specs.declared.contract.Underlying.{Underlying}
use Rattle.contracts.specs.declared.contract.Contract.{Contract}
use Rattle.contracts.specs.declared.contract.Contract.TheVariants as contract

abbrev pub root_of : Contract → Root
root_of (contract.Future root month) = root
root_of (contract.Option right root month strike underlying) = root

abbrev pub kind_of_right : Right → Kind
kind_of_right right.Call = kind.Call
kind_of_right right.Put = kind.Put

abbrev pub kind_of : Contract → Kind
kind_of (contract.Future root month) = kind.Future
kind_of (contract.Option right root month strike underlying) = kind_of_right right

abbrev pub month_of : Contract → Month
month_of (contract.Future root month) = month
month_of (contract.Option right root month strike underlying) = month

-- a future has none
abbrev pub strike_of : Contract → Option Strike
strike_of (contract.Future root month) = None
strike_of (contract.Option right root month strike underlying) = Some strike

-- a future has none
abbrev pub underlying_of : Contract → Option Underlying
underlying_of (contract.Future root month) = None
underlying_of (contract.Option right root month strike underlying) = Some underlying
