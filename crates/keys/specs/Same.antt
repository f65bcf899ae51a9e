-- Two keys with the same numbers are the same: a range that holds adds nothing. Assumes nothing.
use Rattle.std.proofs.Common.{◌≡◌, ℕ, pos, ◌-ℤ◌, ◌<ℤ◌, refl, sym, ap, ◌∙◌, subst, lit≤, arith}
use Rattle.std.proofs.lemmas.Int.{ints}
use Rattle.std.proofs.lemmas.Bool.Decides.{nat_tests}
use native.Mathlib.Bridge.{le_prop}
use Rattle.keys.specs.Ranges.{StrikeRange, MonthRange, month_index}
use Rattle.std.specs.Ordering.{nat_cmp, ordering_then}
use Rattle.std.specs.declared.cmp.Ordering.TheVariants.{Equal, Less}
use Rattle.keys.specs.declared.strike.Strike.{Strike}
use Rattle.keys.specs.declared.month.Month.{Month}

abbrev pub strike : (a : ℕ) → StrikeRange a → Strike
strike a r = record { hundredths = a; range = r }

strike_range : (a : ℕ) (p q : StrikeRange a) → p ≡ q
strike_range a p q = λ i. (le_prop p.0 q.0 i, le_prop p.1 q.1 i)

pub same_strike : (x y : Strike) → x.hundredths ≡ y.hundredths → x ≡ y
same_strike x y e =
    subst (λ (b : ℕ). (r : StrikeRange b) → x ≡ strike b r) e (λ r. ap (strike x.hundredths) (strike_range x.hundredths x.range r)) y.range

abbrev pub made_month : (y m : ℕ) → MonthRange y m → Month
made_month y m r = record { year = y; month = m; range = r }

month_range : (y m : ℕ) (p q : MonthRange y m) → p ≡ q
month_range y m p q = λ i. (le_prop p.0 q.0 i, le_prop p.1 q.1 i, le_prop p.2 q.2 i, le_prop p.3 q.3 i)

pub same_month : (x y : Month) → x.year ≡ y.year → x.month ≡ y.month → x ≡ y
same_month x y e f =
    subst (λ (a : ℕ). (r : MonthRange a y.month) → x ≡ made_month a y.month r) e
    (subst (λ (b : ℕ). (r : MonthRange x.year b) → x ≡ made_month x.year b r) f (λ r. ap (made_month x.year x.month) (month_range x.year x.month x.range r)))
    y.range

pub same_index : (x y : Month) → month_index x.year x.month ≡ month_index y.year y.month → x ≡ y
same_index x y e = let p = x.range in let q = y.range in same_month x y (omega arith) (omega arith)

-- strikes of one number are one strike
pub strikes_same : (x y : Strike) → nat_cmp x.hundredths y.hundredths ≡ Equal → x ≡ y
strikes_same x y e = same_strike x y (grind (arith, nat_tests))

pub strikes_reached : (x : Strike) × (y : Strike) × (pos y.hundredths -ℤ pos x.hundredths ≡ pos 99999998)
strikes_reached = (strike 1 (lit≤ tt, lit≤ tt), strike 99999999 (lit≤ tt, lit≤ tt), refl)

-- by year and then by month is by index
pub by_index : (x y : Month) → ordering_then (nat_cmp x.year y.year) (nat_cmp x.month y.month) ≡ nat_cmp (month_index x.year x.month) (month_index y.year y.month)
by_index x y = let p = x.range in let q = y.range in grind (arith, nat_tests)

pub months_same : (x y : Month) → ordering_then (nat_cmp x.year y.year) (nat_cmp x.month y.month) ≡ Equal → x ≡ y
months_same x y e = let f = sym (by_index x y) ∙ e in same_index x y (grind (arith, nat_tests))

pub months_reached : (x : Month) × (y : Month) × (pos (month_index y.year y.month) -ℤ pos (month_index x.year x.month) ≡ pos 1199)
months_reached = (made_month 2000 1 (lit≤ tt, lit≤ tt, lit≤ tt, lit≤ tt), made_month 2099 12 (lit≤ tt, lit≤ tt, lit≤ tt, lit≤ tt), refl)

pub months_ahead : (x y : Month) → ordering_then (nat_cmp x.year y.year) (nat_cmp x.month y.month) ≡ Less → pos 0 <ℤ (pos (month_index y.year y.month) -ℤ pos (month_index x.year x.month))
months_ahead x y e = let f = sym (by_index x y) ∙ e in grind (arith, ints, nat_tests)

pub months_behind : (x y : Month) → pos 0 <ℤ (pos (month_index y.year y.month) -ℤ pos (month_index x.year x.month)) → ordering_then (nat_cmp x.year y.year) (nat_cmp x.month y.month) ≡ Less
months_behind x y h = by_index x y ∙ grind (arith, ints, nat_tests)
