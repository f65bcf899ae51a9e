-- Ladder order, in five levels. Assumes nothing.
use Rattle.std.specs.Prelude.{ℕ, ◌+◌, List, [], ◌∷◌}
use Rattle.std.specs.Ordering.{nat_cmp, ordering_then}
use Rattle.std.specs.declared.cmp.Ordering.{Ordering}
use Rattle.std.specs.declared.cmp.Ordering.TheVariants.{Equal}
use Rattle.keys.specs.Ranges.{month_index}
use Rattle.keys.specs.declared.month.Month.{Month}
use Rattle.contracts.specs.Parts.{root_of, month_of}
use Rattle.contracts.specs.declared.root.Root.{Root}
use Rattle.contracts.specs.declared.contract.Right.TheVariants.{Call, Put}
use Rattle.contracts.specs.declared.contract.Underlying.TheVariants as on
use Rattle.contracts.specs.declared.contract.Contract.{Contract}
use Rattle.contracts.specs.declared.contract.Contract.TheVariants.{Future, Option}

-- future before call before put
abbrev pub kind_rank : Contract → ℕ
kind_rank (Future root month) = 0
kind_rank (Option Call root month strike underlying) = 1
kind_rank (Option Put root month strike underlying) = 2

-- a future counts 0
abbrev pub strike_rank : Contract → ℕ
strike_rank (Future root month) = 0
strike_rank (Option right root month strike underlying) = strike.hundredths

-- the spot first, then by month
abbrev pub underlying_rank : Contract → ℕ
underlying_rank (Future root month) = 0
underlying_rank (Option right root month strike on.Spot) = 0
underlying_rank (Option right root month strike (on.Future future)) = 1 + month_index future.year future.month

-- byte by byte
abbrev pub by_root : Root → Root → Ordering
by_root x y = ordering_then (nat_cmp x.first y.first) (ordering_then (nat_cmp x.second y.second) (nat_cmp x.third y.third))

abbrev pub by_month : Month → Month → Ordering
by_month x y = nat_cmp (month_index x.year x.month) (month_index y.year y.month)

-- of orders in a row, the first that tells the two apart
abbrev pub decided : Ordering → List Ordering → Ordering
decided order [] = order
decided order (next ∷ more) = decided (ordering_then order next) more

-- the five levels: each counts only where all before it are the same
abbrev pub ladder : Contract → Contract → Ordering
ladder x y =
    decided Equal
    (by_root (root_of x) (root_of y)
    ∷ nat_cmp (kind_rank x) (kind_rank y)
    ∷ by_month (month_of x) (month_of y)
    ∷ nat_cmp (strike_rank x) (strike_rank y)
    ∷ nat_cmp (underlying_rank x) (underlying_rank y)
    ∷ [])
