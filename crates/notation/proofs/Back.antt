-- What is written of a leg spells it. Assumes nothing.
use Rattle.std.proofs.Common.{◌≡◌, ℕ, ◌/◌, ◌%◌, ◌^◌, ◌<◌, true, List, [], ◌++◌, codes, Ok, decimal, Result, sym, refl, ◌∙◌, subst, inl, append_assoc, append-nil, arith, rules}
use Rattle.std.proofs.lemmas.Str.Parse.{IsNumeralModel, numerals_by_fold}
use Rattle.std.proofs.lemmas.Fmt.{decimal_nonempty, decimal_digit, digits_decimal, digits_value-decimal}
use Rattle.std.proofs.lemmas.Bool.Decides.{nat_tests}
use Rattle.keys.specs.declared.month.Month.{Month}
use Rattle.contracts.specs.Ranges.{code_character}
use Rattle.contracts.specs.Plain.{plain_root, plain_month, plain_underlying, plain_contract}
use Rattle.contracts.specs.declared.root.Root.{Root}
use Rattle.contracts.specs.declared.contract.Underlying.{Underlying}
use Rattle.contracts.specs.declared.contract.Underlying.TheVariants as on
use Rattle.contracts.specs.declared.contract.Contract.{Contract}
use Rattle.contracts.specs.declared.contract.Contract.TheVariants as contract
use Rattle.contracts.specs.declared.plain.Reference.{Reference}
use Rattle.contracts.specs.declared.plain.PlainLeg.{PlainLeg}
use Rattle.contracts.specs.declared.leg.Leg.{Leg}
use Rattle.notation.specs.LegReading.{read_leg}
use Rattle.notation.specs.Spelling.{Digits, number_after, Number, MonthSpelled, RootCharacter, RootSpelled, UnderlyingSpelled, ContractSpelled, Spells}
use Rattle.keys.specs.Writing.{two_digits, month_text}
use Rattle.contracts.specs.Letters.{right_text}
use Rattle.contracts.specs.Writing.{root_text, underlying_text, contract_text, leg_text}
use Rattle.notation.specs.Writing.{handed_back}
use Rattle.notation.specs.declared.part.LegPart.{LegPart}
use Rattle.notation.proofs.Legs.{spelled_from_read, read_from_spelled}

own : IsNumeralModel Digits (number_after 0)
own = numerals_by_fold Digits (search rules) number_after (search rules)

-- a number is written by digits that spell it
pub number_written : (n : ℕ) → n < 2 ^ 32 → Number n (decimal n)
number_written n small =
    let wide : n < 2 ^ 64 = omega arith in
    record { some = decimal_nonempty n wide; digits = digits_decimal own n wide; value = digits_value-decimal own n wide; small = small }

-- two digits
two_written : (n : ℕ) → n < 100 → Number n (two_digits n)
two_written n small =
    rw (decimal_digit (n / 10) (omega arith), decimal_digit (n % 10) (omega arith))
    (record { some = omega arith; digits = (omega arith, omega arith, (omega arith, omega arith, tt)); value = omega arith; small = omega arith })

month_written : (m : Month) → MonthSpelled (plain_month m) (month_text m)
month_written m =
    let range = m.range in
    record {
      year = decimal m.year;
      number = two_digits m.month;
      year_is = number_written m.year (omega arith);
      number_is = two_written m.month (omega arith);
      all = simp append_assoc;
    }

character : (c : ℕ) → code_character c ≡ true → RootCharacter c
character c e = (λ is. grind (arith, nat_tests), λ is. grind (arith, nat_tests), λ is. grind (arith, nat_tests))

root_written : (root : Root) → RootSpelled (plain_root root) (root_text root)
root_written root =
    let range = root.range in
    record { first = character _ range.0; second = character _ range.1; third = character _ range.2; all = refl }

underlying_written : (u : Underlying) → UnderlyingSpelled (plain_underlying u) (underlying_text u)
underlying_written on.Spot = refl
underlying_written (on.Future month) = (month_text month, month_written month, refl)

regrouped : (a c k m s u : List ℕ) → a ++ (c ++ (k ++ (c ++ (m ++ (c ++ (s ++ u)))))) ≡ a ++ c ++ k ++ c ++ m ++ c ++ s ++ u
regrouped a c k m s u = simp append_assoc

contract_written : (k : Contract) → ContractSpelled (plain_contract k) (contract_text k)
contract_written (contract.Future root month) = (root_text root, month_text month, root_written root, month_written month, refl)
contract_written (contract.Option right root month strike underlying) =
    let range = strike.range in
    (root_text root, month_text month, decimal strike.hundredths, underlying_text underlying, root_written root, month_written month, number_written strike.hundredths (omega arith), underlying_written underlying, regrouped (root_text root) (codes ":") (right_text right) (month_text month) (decimal strike.hundredths) (underlying_text underlying))

pub leg_written : (market : Reference) (leg : Leg) → leg.ratio < 2 ^ 32 → Spells market (handed_back market leg) (leg_text leg)
unfolding leg_text
leg_written market leg small =
    record {
      lots = decimal leg.ratio;
      contract = contract_text leg.contract;
      reference = [];
      lots_is = number_written leg.ratio small;
      contract_is = contract_written leg.contract;
      reference_is = inl (refl, refl);
      all = simp (append_assoc, append-nil);
    }

-- what `read_leg` answers is `Ok` of just the leg that the text spells
pub told : (market : Reference) (text : List ℕ) (r : Result PlainLeg LegPart) → r ≡ read_leg market text → (leg : PlainLeg) → (r ≡ Ok leg → Spells market leg text) × (Spells market leg text → r ≡ Ok leg)
told market text r is leg = (λ e. spelled_from_read market leg text (sym is ∙ e), λ h. is ∙ read_from_spelled market leg text h)

-- so a text that was written is read back
pub told_back : (market : Reference) (text : List ℕ) (r : Result PlainLeg LegPart) → r ≡ read_leg market text → (leg : Leg) → leg.ratio < 2 ^ 32 → text ≡ leg_text leg → r ≡ Ok (handed_back market leg)
told_back market text r is leg small written =
    (told market text r is (handed_back market leg)).1 (subst (Spells market (handed_back market leg)) (sym written) (leg_written market leg small))
