-- A contract's numbers are in range, and they are that contract's alone. Assumes nothing.
use Rattle.contracts.specs.Plain.{plain_underlying, plain_contract, UnderlyingInRange, ContractInRange}
use Rattle.contracts.specs.declared.contract.Underlying.{Underlying}
use Rattle.contracts.specs.declared.contract.Underlying.TheVariants as on
use Rattle.contracts.specs.declared.contract.Contract.{Contract}
use Rattle.contracts.specs.declared.contract.Contract.TheVariants.{Future, Option}

underlying_in_range : (u : Underlying) → UnderlyingInRange (plain_underlying u)
underlying_in_range on.Spot = tt
underlying_in_range (on.Future month) = month.range

pub plain_in_range : (x : Contract) → ContractInRange (plain_contract x)
plain_in_range (Future root month) = (root.range, month.range)
plain_in_range (Option right root month strike underlying) = (root.range, month.range, strike.range, underlying_in_range underlying)
