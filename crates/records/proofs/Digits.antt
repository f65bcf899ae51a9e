-- The digits at the front of a text spell the number that stands there. Assumes nothing.
use Rattle.std.proofs.Common.{◌≡◌, ℕ, suc, ◌+◌, ◌-◌, ◌*◌, ◌^◌, ltb, true, false, List, [], ◌∷◌, length, take, drop, refl, ◌∙◌, inl, inr}
use Rattle.std.specs.List.{prefix_len, take_while}
use Rattle.std.specs.Option.{option_map}
use Rattle.std.specs.Result.{result_ok}
use Rattle.std.proofs.Math.Numerals.{one-add}
use Rattle.std.proofs.lemmas.Bool.{cases_Bool, cond-true, cond-false}
use Rattle.std.proofs.lemmas.List.Folds.{length-prefix_len}
use Rattle.notation.specs.LegReading.{whole}
use Rattle.notation.specs.Reading.{digit, more, number}
use Rattle.notation.specs.declared.part.LegPart.{LegPart}

end_here : (c : ℕ) (text : List ℕ) → digit c ≡ false → prefix_len digit (c ∷ text) ≡ 0
end_here c text d = cond-false _ _ _ d

end_later : (c : ℕ) (text : List ℕ) → digit c ≡ true → prefix_len digit (c ∷ text) ≡ suc (prefix_len digit text)
end_later c text d = cond-true _ _ _ d ∙ one-add _

more_cut : (part : LegPart) (n : ℕ) (text : List ℕ) → result_ok (more part n text) ≡ option_map (λ v. (v, drop (prefix_len digit text) text)) (result_ok (whole (more part n (take (prefix_len digit text) text))))
more_cut part n [] = refl
more_cut part n (c ∷ text) =
    elim (cases_Bool (digit c)) [
      | inl d ↦ elim (cases_Bool (ltb (n * 10 + (c - 48)) (2 ^ 32))) [
        | inl small ↦ rw (end_later c text d, d, small) (more_cut part (n * 10 + (c - 48)) text)
        | inr large ↦ rw (end_later c text d, d, large) refl
      ]
      | inr d ↦ rw (end_here c text d, d) refl
    ]

number_cut : (part : LegPart) (text : List ℕ) → result_ok (number part text) ≡ option_map (λ v. (v, drop (prefix_len digit text) text)) (result_ok (whole (number part (take (prefix_len digit text) text))))
number_cut part [] = refl
number_cut part (c ∷ text) =
    elim (cases_Bool (digit c)) [
      | inl d ↦ rw (end_later c text d, d) (more_cut part (c - 48) text)
      | inr d ↦ rw (end_here c text d, d) refl
    ]

-- the text is cut where its digits end
pub number_split : (part : LegPart) (text digits rest : List ℕ) (n : ℕ) → n ≡ length (take_while digit text) → digits ≡ take n text → rest ≡ drop n text → result_ok (number part text) ≡ option_map (λ v. (v, rest)) (result_ok (whole (number part digits)))
number_split part text digits rest n at front back =
    let end : n ≡ prefix_len digit text = at ∙ length-prefix_len digit text in rw (front, back, end) (number_cut part text)
