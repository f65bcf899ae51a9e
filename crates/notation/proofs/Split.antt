-- The first word of a line: it begins behind the spaces, and ends before the next space. Assumes nothing.
use Rattle.std.proofs.Common.{◌≡◌, ℕ, suc, ◌<◌, ◌≤◌, ltb, cond, Bool, true, false, not, List, [], ◌∷◌, length, get_or, take, drop, Some, None, sym, refl, ap, ◌∙◌, inl, inr, add-zero, arith}
use Rattle.std.specs.List.{position, position_or_len}
use Rattle.std.specs.Option.{unwrap_or}
use Rattle.std.proofs.Math.Numerals.{one-add}
use Rattle.std.proofs.lemmas.Bool.Decides.{nat_tests}
use Rattle.std.proofs.lemmas.Bool.{cases_Bool, cond-true, cond-false, not-true}
use Rattle.std.proofs.lemmas.List.{drop_all, length-drop, get_or-drop}
use Rattle.std.proofs.lemmas.List.Sums.{prefix_len-le-length}
use Rattle.std.proofs.lemmas.List.Quantifiers.{position-Some}
use Rattle.notation.specs.Words.{space, onto, opening, words}

-- the place of the first character that passes
place_here : (p : ℕ → Bool) (c : ℕ) (cs : List ℕ) → p c ≡ true → position_or_len p (c ∷ cs) ≡ 0
place_here p c cs h = cond-false _ _ _ (ap not h)

place_later : (p : ℕ → Bool) (c : ℕ) (cs : List ℕ) → p c ≡ false → position_or_len p (c ∷ cs) ≡ suc (position_or_len p cs)
place_later p c cs h = cond-true _ _ _ (ap not h) ∙ one-add _

past_spaces : (xs : List ℕ) → words xs ≡ words (drop (position_or_len (λ c. not (space c)) xs) xs)
past_spaces [] = refl
past_spaces (c ∷ cs) =
    elim (cases_Bool (space c)) [
      | inl s ↦ cond-true _ _ _ s ∙ past_spaces cs ∙ ap (λ n. words (drop n (c ∷ cs))) (sym (place_later (λ c. not (space c)) c cs (ap not s)))
      | inr s ↦ ap (λ n. words (drop n (c ∷ cs))) (sym (place_here (λ c. not (space c)) c cs (ap not s)))
    ]

first_word : (c : ℕ) (cs : List ℕ) → space c ≡ false → words (c ∷ cs) ≡ take (suc (position_or_len space cs)) (c ∷ cs) ∷ words (drop (position_or_len space cs) cs)
first_word c [] h = cond-false _ _ _ h
first_word c (d ∷ ds) h =
    elim (cases_Bool (space d)) [
      | inl s ↦ cond-false _ _ _ h ∙ cond-true _ _ _ s ∙ ap (λ n. take (suc n) (c ∷ d ∷ ds) ∷ words (drop n (d ∷ ds))) (sym (place_here space d ds s))
      | inr s ↦
          cond-false _ _ _ h ∙ cond-false _ _ _ s ∙ ap (onto c) (first_word d ds s)
          ∙ ap (λ n. take (suc n) (c ∷ d ∷ ds) ∷ words (drop n (d ∷ ds))) (sym (place_later space d ds s))
    ]

first_of : (text : List ℕ) → 0 < length text → space (get_or text 0 0) ≡ false → words text ≡ take (position_or_len space text) text ∷ words (drop (position_or_len space text) text)
first_of [] some h = absurd (omega arith)
first_of (c ∷ cs) some h = first_word c cs h ∙ ap (λ n. take n (c ∷ cs) ∷ words (drop n (c ∷ cs))) (sym (place_later space c cs h))

-- what `position` answers of that place, n, in a text of length l
found : (n l i : ℕ) → cond (ltb n l) (Some n) None ≡ Some i → n ≡ i
found n l i e = grind (arith, nat_tests)

not_found : (n l : ℕ) → cond (ltb n l) (Some n) None ≡ None → l ≤ n
not_found n l e = grind (arith, nat_tests)

or_all : (n l : ℕ) → n ≤ l → unwrap_or (cond (ltb n l) (Some n) None) l ≡ n
or_all n l within = grind (arith, nat_tests)

-- no character is other than a space
pub no_word : (xs : List ℕ) → position (λ c. not (space c)) xs ≡ None → words xs ≡ []
no_word xs e = past_spaces xs ∙ ap words (drop_all _ xs (not_found _ _ e))

-- n spaces stand before the word, and m characters are in it
pub one_word : (xs text word rest : List ℕ) (n m : ℕ) → position (λ c. not (space c)) xs ≡ Some n → text ≡ drop n xs → m ≡ unwrap_or (position space text) (length text) → word ≡ take m text → rest ≡ drop m text → words xs ≡ word ∷ words rest
one_word xs text word rest n m e f g h k =
    let at = position-Some (λ c. not (space c)) xs n 0 e in
    let within = at.0 in
    let long = ap length f ∙ length-drop n xs in
    let begins : space (get_or text 0 0) ≡ false =
    ap (λ (l : List ℕ). space (get_or l 0 0)) f ∙ ap space (get_or-drop n xs 0 0 ∙ ap (λ i. get_or xs i 0) (add-zero n)) ∙ not-true _ at.1 in
    past_spaces xs
    ∙ ap (λ i. words (drop i xs)) (found _ _ _ e)
    ∙ ap words (sym f)
    ∙ first_of text (omega arith) begins
    ∙ ap (λ i. take i text ∷ words (drop i text)) (sym (g ∙ or_all _ _ (prefix_len-le-length (λ c. not (space c)) text)))
    ∙ (λ i. sym h i ∷ words (sym k i))

opening_few : (c : ℕ) (cs : List ℕ) (ws : List (List ℕ)) → length (opening c cs ws) ≤ suc (length ws)
opening_few c [] ws = omega arith
opening_few c (d ∷ ds) [] = grind (arith, nat_tests)
opening_few c (d ∷ ds) (w ∷ ws) = grind (arith, nat_tests)

-- each word has a character of its own
pub words_few : (xs : List ℕ) → length (words xs) ≤ length xs
words_few [] = omega arith
words_few (c ∷ cs) = grind (arith, nat_tests, words_few cs, opening_few c cs (words cs))
