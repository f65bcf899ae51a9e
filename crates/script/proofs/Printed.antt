-- An answer is one line: each of its characters can be printed. Assumes nothing.
use Rattle.std.proofs.Common.{◌≡◌, ℕ, zero, suc, ◌/◌, ◌%◌, ◌<◌, ◌+◌, true, false, eqb, ltb, List, [], ◌∷◌, ◌++◌, IfOk, Ok, Err, String, string_bytes, codes, decimal, Result, sym, refl, ◌∙◌, subst, mod-lt, arith}
use Rattle.std.proofs.lemmas.Result.{IfOk-weaker}
use Rattle.std.specs.Fmt.{digits, digits_onto, digit_glyph}
use Rattle.std.specs.List.{flat_map}
use Rattle.std.proofs.lemmas.Bool.{and_from, le-leb, lt-ltb, cond-true, cond_both}
use Rattle.std.proofs.lemmas.List.Folds.{list_all-append}
use Rattle.contracts.specs.declared.leg.Leg.{Leg}
use Rattle.tickets.specs.Refused.{legs_of}
use Rattle.tickets.specs.Writing.{layer_text}
use Rattle.tickets.specs.declared.fault.Layer.{Layer}
use Rattle.tickets.specs.declared.fault.Layer.TheVariants as layer
use Rattle.script.specs.Texts.{printable, further_ratio, ratios_text, answer_text, AnswerText}
use Rattle.script.specs.declared.answer.Answer.{Answer}
use Rattle.script.specs.declared.answer.Answer.TheVariants as answer
use Rattle.script.specs.declared.line.Trouble.{Trouble}

abbrev Prints : List ℕ → Type 0
Prints text = printable text ≡ true

joined : (xs ys : List ℕ) → Prints xs → Prints ys → Prints (xs ++ ys)
joined xs ys p q = list_all-append _ xs ys ∙ and_from (printable xs) (printable ys) p q

digit : (d : ℕ) (text : List ℕ) → d < 10 → Prints text → Prints (digit_glyph false d ∷ text)
digit d text h p =
    let e : digit_glyph false d ≡ 48 + d = cond-true (ltb d 10) _ _ (lt-ltb d 10 h) in
    and_from _ _ (and_from _ _ (le-leb 32 (digit_glyph false d) (omega (arith, e))) (le-leb (digit_glyph false d) 126 (omega (arith, e)))) p

spells : (k n : ℕ) (text : List ℕ) → Prints text → Prints (digits_onto k 10 false n text)
spells zero n text p = p
spells (suc k) n text p =
    let q = digit (n % 10) text (mod-lt n (omega arith)) p in
    cond_both (eqb (n / 10) 0) (digit_glyph false (n % 10) ∷ text) (digits_onto k 10 false (n / 10) (digit_glyph false (n % 10) ∷ text)) Prints (λ _. q) (λ _. spells k (n / 10) _ q)

number : (n : ℕ) → Prints (decimal n)
unfolding digits
number n = spells 64 n [] refl

-- text that is printed behind a number, or in front of one
then : (n : ℕ) (text : List ℕ) → Prints text → Prints (decimal n ++ text)
then n text p = joined (decimal n) text (number n) p

letter : (l : Layer) (text : List ℕ) → Prints text → Prints (layer_text l ++ text)
letter layer.Ticket text p = p
letter layer.Catalogue text p = p
letter layer.Register text p = p

further : (legs : List Leg) → Prints (flat_map further_ratio legs)
further [] = refl
further (l ∷ ls) = joined (further_ratio l) (flat_map further_ratio ls) (number l.ratio) (further ls)

ratios : (legs : List Leg) → Prints (ratios_text legs)
ratios [] = refl
ratios (l ∷ ls) = then l.ratio (flat_map further_ratio ls) (further ls)

told : (a : Answer) → Prints (answer_text a)
told answer.Market = refl
told (answer.Ticket (Ok t)) = then t.scale (codes " " ++ ratios_text (legs_of t)) (ratios (legs_of t))
told (answer.Ticket (Err f)) =
    then f.number (codes " " ++ (layer_text f.layer ++ (codes " " ++ decimal f.place)))
    (letter f.layer (codes " " ++ decimal f.place) (number f.place))

pub one_line : (n : ℕ) (r : Result Answer Trouble) (bytes : List ℕ) → AnswerText n r bytes → Prints bytes
one_line n (Ok a) bytes e = subst Prints (sym e) (then n (codes " " ++ answer_text a) (told a))
one_line n (Err t) bytes h =
    subst Prints (sym h.2)
    (then n (codes " error word " ++ (decimal t.word ++ (codes ": " ++ h.0))) (then t.word (codes ": " ++ h.0) h.1))

pub all_print : {A E : Type 0} (n : ℕ) (r : Result Answer Trouble) (o : Result (String A) E) → IfOk o (λ s. AnswerText n r (string_bytes s)) → IfOk o (λ s. printable (string_bytes s) ≡ true)
all_print n r o told = IfOk-weaker o (λ s. AnswerText n r (string_bytes s)) (λ s. printable (string_bytes s) ≡ true) (λ s h. one_line n r (string_bytes s) h) told
