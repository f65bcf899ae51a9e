-- The numbers that a strike and a contract month may have. Assumes nothing.
use Rattle.std.specs.Prelude.{ℕ, ◌+◌, ◌-◌, ◌*◌, ◌≤◌}

-- a strike, in hundredths
abbrev pub StrikeRange : ℕ → Type 0
StrikeRange hundredths = (1 ≤ hundredths) × (hundredths ≤ 99999999)

-- a contract month: its year, and its number in the year
abbrev pub MonthRange : ℕ → ℕ → Type 0
MonthRange year month = (2000 ≤ year) × (year ≤ 2099) × (1 ≤ month) × (month ≤ 12)

-- the months from January 2000 to a month
abbrev pub month_index : ℕ → ℕ → ℕ
month_index year month = 12 * (year - 2000) + (month - 1)
