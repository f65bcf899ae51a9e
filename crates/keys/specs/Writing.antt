-- The text of a strike and of a contract month. Assumes nothing.
use Rattle.std.specs.Prelude.{ℕ, ◌/◌, ◌%◌, List, ◌++◌, codes, decimal}
use Rattle.keys.specs.declared.month.Month.{Month}
use Rattle.keys.specs.declared.strike.Strike.{Strike}

abbrev pub strike_text : Strike → List ℕ
strike_text strike = decimal strike.hundredths

-- a number below a hundred
abbrev pub two_digits : ℕ → List ℕ
two_digits n = decimal (n / 10) ++ decimal (n % 10)

-- the year, `-`, and the month by two digits
abbrev pub month_text : Month → List ℕ
month_text m = decimal m.year ++ (codes "-" ++ two_digits m.month)
