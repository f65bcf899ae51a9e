-- A contract as the plain numbers that it was handed in as, and which plain numbers are in range. Assumes nothing.
use Rattle.std.specs.Prelude.{◌≤◌}
use Rattle.keys.specs.Ranges.{StrikeRange, MonthRange}
use Rattle.keys.specs.declared.month.Month.{Month}
use Rattle.contracts.specs.Ranges.{RootRange}
use Rattle.contracts.specs.declared.root.Root.{Root}
use Rattle.contracts.specs.declared.contract.Underlying.{Underlying}
use Rattle.contracts.specs.declared.contract.Underlying.TheVariants as on
use Rattle.contracts.specs.declared.contract.Contract.{Contract}
use Rattle.contracts.specs.declared.contract.Contract.TheVariants as contract
use Rattle.contracts.specs.declared.plain.PlainRoot.{PlainRoot}
use Rattle.contracts.specs.declared.plain.PlainMonth.{PlainMonth}
use Rattle.contracts.specs.declared.plain.PlainUnderlying.{PlainUnderlying}
use Rattle.contracts.specs.declared.plain.PlainUnderlying.TheVariants as plain_on
use Rattle.contracts.specs.declared.plain.PlainContract.{PlainContract}
use Rattle.contracts.specs.declared.plain.PlainContract.TheVariants as plain
use Rattle.contracts.specs.declared.plain.PlainLeg.{PlainLeg}
use Rattle.contracts.specs.declared.plain.Reference.{Reference}

abbrev pub plain_root : Root → PlainRoot
plain_root r = record { first = r.first; second = r.second; third = r.third }

abbrev pub plain_month : Month → PlainMonth
plain_month m = record { year = m.year; month = m.month }

abbrev pub plain_underlying : Underlying → PlainUnderlying
plain_underlying on.Spot = plain_on.Spot
plain_underlying (on.Future month) = plain_on.Future (plain_month month)

abbrev pub plain_contract : Contract → PlainContract
plain_contract (contract.Future root month) = plain.Future (plain_root root) (plain_month month)
plain_contract (contract.Option right root month strike underlying) =
    plain.Option right (plain_root root) (plain_month month) strike.hundredths (plain_underlying underlying)

abbrev pub RootInRange : PlainRoot → Type 0
RootInRange r = RootRange r.first r.second r.third

abbrev pub MonthInRange : PlainMonth → Type 0
MonthInRange m = MonthRange m.year m.month

abbrev pub UnderlyingInRange : PlainUnderlying → Type 0
UnderlyingInRange plain_on.Spot = Unit {0}
UnderlyingInRange (plain_on.Future month) = MonthInRange month

abbrev pub ContractInRange : PlainContract → Type 0
ContractInRange (plain.Future root month) = RootInRange root × MonthInRange month
ContractInRange (plain.Option right root month strike underlying) =
    RootInRange root × MonthInRange month × StrikeRange strike × UnderlyingInRange underlying

-- each number of the reference data has a range
pub record ReferenceInRange (reference : Reference) : Type 0 where
  pub core : (1 ≤ reference.core) × (reference.core ≤ 99)
  pub lot_size : (1 ≤ reference.lot_size) × (reference.lot_size ≤ 1000000)
  pub tick : (1 ≤ reference.tick) × (reference.tick ≤ 1000000)
  pub session_end : (30 ≤ reference.session_end) × (reference.session_end ≤ 1439)

-- and so has each other field of a leg that is a number
pub record LegInRange (leg : PlainLeg) : Type 0 where
  pub contract : ContractInRange leg.contract
  pub lots : (1 ≤ leg.lots) × (leg.lots ≤ 9999)
  pub reference : ReferenceInRange leg.reference
