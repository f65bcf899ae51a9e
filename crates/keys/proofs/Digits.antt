-- A month padded to two digits. Assumes nothing.
use Rattle.std.specs.Prelude.{◌≡◌, ℕ, List, ◌/◌, ◌%◌, ◌<◌, ◌≤◌, refl}
use Rattle.std.proofs.Common.{sym, subst, ⊎_elim, arith}
use Rattle.std.proofs.lemmas.Bool.{cases_lt}
use Rattle.std.proofs.lemmas.Fmt.{decimal_digit}
use Rattle.std.specs.Fmt.{format_spec, styled_decimal, padded_integral, char_count, digits}
use Rattle.keys.specs.Writing.{two_digits}

-- by `{:02}`
abbrev pub in_two_places : ℕ → List ℕ
in_two_places m = styled_decimal (format_spec 32 0 4 2 18446744073709551615) m

-- a digit gets a zero in front
one_digit : (m : ℕ) → m < 10 → in_two_places m ≡ two_digits m
unfolding padded_integral char_count
one_digit m h =
    let e : m / 10 ≡ 0 = omega arith in
    let f : m % 10 ≡ m = omega arith in
    rw (e, f, decimal_digit m h, decimal_digit 0 (omega arith))

pub padded_month : (m : ℕ) → m ≤ 12 → in_two_places m ≡ two_digits m
unfolding padded_integral char_count digits
padded_month m p =
    let Goal : Type 0 = in_two_places m ≡ two_digits m in
    let at : (n : ℕ) → in_two_places n ≡ two_digits n → m ≡ n → Goal = λ n h e. subst (λ k. in_two_places k ≡ two_digits k) (sym e) h in
    ⊎_elim (one_digit m)
    (λ (q : 10 ≤ m).
    ⊎_elim (λ (r : m < 11). at 10 refl (omega arith))
    (λ (r : 11 ≤ m). ⊎_elim (λ (s : m < 12). at 11 refl (omega arith)) (λ (s : 12 ≤ m). at 12 refl (omega arith)) (cases_lt m 12))
    (cases_lt m 11))
    (cases_lt m 10)
