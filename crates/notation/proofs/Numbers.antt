-- A number is read just where its digits stand. Assumes nothing.
use Rattle.std.proofs.Common.{◌≡◌, ℕ, ◌+◌, ◌-◌, ◌*◌, ◌^◌, ◌<◌, ◌≤◌, Bool, true, false, cond, ltb, ◌⊎◌, List, [], ◌∷◌, ◌++◌, Ok, Err, Result, sym, refl, ap, ◌∙◌, inl, inr, arith}
use Rattle.std.proofs.lemmas.Bool.{lt-ltb, ltb-true, cond-true}
use Rattle.std.proofs.lemmas.Bool.Decides.{nat_tests}
use Rattle.notation.specs.Reading.{Read, digit, more, number}
use Rattle.notation.specs.Spelling.{Digits, number_after, Number}
use Rattle.notation.specs.declared.part.LegPart.{LegPart}

-- what follows a number does not begin with a digit
abbrev pub Stops : List ℕ → Type 0
Stops [] = Unit {0}
Stops (c ∷ text) = digit c ≡ false

pub cond_ways : {X : Type 0} (b : Bool) (x y r : X) → cond b x y ≡ r → ((b ≡ true) × (x ≡ r)) ⊎ ((b ≡ false) × (y ≡ r))
cond_ways true x y r e = inl (refl, e)
cond_ways false x y r e = inr (refl, e)

pub err_not_ok : {E X : Type 0} {e : E} {x : X} → ◌≡◌ {A = Result X E} (Err e) (Ok x) → ⊥
err_not_ok e = cc

pub ok_same : {X : Type 0} {x y : X × List ℕ} → ◌≡◌ {A = Read X} (Ok x) (Ok y) → x ≡ y
ok_same e = cc

is_digit : (c : ℕ) → 48 ≤ c → c ≤ 57 → digit c ≡ true
is_digit c low high = grind (arith, nat_tests)

digit_range : (c : ℕ) → digit c ≡ true → (48 ≤ c) × (c ≤ 57)
digit_range c e = (grind (arith, nat_tests), grind (arith, nat_tests))

-- the digits that `more` goes past
pub record Past (n : ℕ) (text : List ℕ) (v : ℕ) (rest : List ℕ) : Type 0 where
  pub went : List ℕ
  pub digits : Digits went
  pub value : number_after n went ≡ v
  pub small : v < 2 ^ 32
  pub all : text ≡ went ++ rest

here : (n v : ℕ) (text rest : List ℕ) → n < 2 ^ 32 → ◌≡◌ {A = Read ℕ} (Ok (n, text)) (Ok (v, rest)) → Past n text v rest
here n v text rest lt e =
    let same = ok_same e in
    let value = ap (λ (g : ℕ × List ℕ). g.0) same in
    record { went = []; digits = tt; value = value; small = omega arith; all = ap (λ (g : ℕ × List ℕ). g.1) same }

further : (n c v : ℕ) (text rest : List ℕ) → digit c ≡ true → Past (n * 10 + (c - 48)) text v rest → Past n (c ∷ text) v rest
further n c v text rest d h =
    let r = digit_range c d in
    record { went = c ∷ h.went; digits = (r.0, r.1, h.digits); value = h.value; small = h.small; all = ap (λ t. c ∷ t) h.all }

pub more_past : (part : LegPart) (n : ℕ) (text : List ℕ) (v : ℕ) (rest : List ℕ) → n < 2 ^ 32 → more part n text ≡ Ok (v, rest) → Past n text v rest
more_past part n [] v rest lt e = here n v [] rest lt e
more_past part n (c ∷ text) v rest lt e =
    elim (cond_ways (digit c) _ _ _ e) [
      | inl d ↦ elim (cond_ways (ltb (n * 10 + (c - 48)) (2 ^ 32)) _ _ _ d.1) [
        | inl small ↦ further n c v text rest d.0 (more_past part (n * 10 + (c - 48)) text v rest (ltb-true _ _ small.0) small.1)
        | inr large ↦ absurd (err_not_ok large.1)
      ]
      | inr d ↦ here n v (c ∷ text) rest lt d.1
    ]

at_least : (n : ℕ) (text : List ℕ) → n ≤ number_after n text
at_least n [] = omega arith
at_least n (c ∷ text) = omega (arith, at_least (n * 10 + (c - 48)) text)

more_stops : (part : LegPart) (n : ℕ) (rest : List ℕ) → Stops rest → more part n rest ≡ Ok (n, rest)
more_stops part n [] s = refl
more_stops part n (c ∷ rest) s = rw s

pub more_digits : (part : LegPart) (n : ℕ) (text : List ℕ) (v : ℕ) (rest : List ℕ) → Digits text → number_after n text ≡ v → v < 2 ^ 32 → Stops rest → more part n (text ++ rest) ≡ Ok (v, rest)
more_digits part n [] v rest d e lt s = more_stops part n rest s ∙ ap (λ x. Ok (x, rest)) e
more_digits part n (c ∷ text) v rest d e lt s =
    let fits : n * 10 + (c - 48) < 2 ^ 32 = omega (arith, at_least (n * 10 + (c - 48)) text) in
    cond-true _ _ _ (is_digit c d.0 d.1) ∙ cond-true _ _ _ (lt-ltb _ _ fits) ∙ more_digits part (n * 10 + (c - 48)) text v rest d.2 e lt s

-- text is what spells the first of `got`, and then the second
abbrev pub Cut : {X : Type 0} → (X → List ℕ → Type 0) → List ℕ → X × List ℕ → Type 0
Cut P text got = (s : List ℕ) × P got.0 s × (text ≡ s ++ got.1)

first_digit : (c : ℕ) → c - 48 ≡ 0 * 10 + (c - 48)
first_digit c = omega arith

pub number_past : (part : LegPart) (text : List ℕ) (got : ℕ × List ℕ) → number part text ≡ Ok got → Cut Number text got
number_past part [] got e = absurd (err_not_ok e)
number_past part (c ∷ text) got e =
    elim (cond_ways (digit c) _ _ _ e) [
      | inl d ↦
          let r = digit_range c d.0 in
          let low = r.0 in
          let high = r.1 in
          let h = more_past part (c - 48) text got.0 got.1 (omega arith) d.1 in (
            c ∷ h.went,
            record { some = omega arith; digits = (low, high, h.digits); value = ap (λ n. number_after n h.went) (sym (first_digit c)) ∙ h.value; small = h.small },
            ap (λ t. c ∷ t) h.all,
          )
      | inr d ↦ absurd (err_not_ok d.1)
    ]

pub number_at : (part : LegPart) (v : ℕ) (text rest : List ℕ) → Number v text → Stops rest → number part (text ++ rest) ≡ Ok (v, rest)
number_at part v [] rest n s = absurd (let h = n.some in omega arith)
number_at part v (c ∷ text) rest n s =
    let d = n.digits in
    cond-true _ _ _ (is_digit c d.0 d.1) ∙ more_digits part (c - 48) text v rest d.2 (ap (λ k. number_after k text) (first_digit c) ∙ n.value) n.small s
