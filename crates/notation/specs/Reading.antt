-- A text that is read from its front: what is read, and what is left of the text. Assumes nothing.
use Rattle.std.specs.Prelude.{◌≡◌, ℕ, ◌+◌, ◌-◌, ◌*◌, ◌^◌, Bool, false, cond, ◌&&◌, List, [], ◌∷◌, Some, None, Ok, Err, Option, Result, ◌==◌, nat_le, nat_lt}
use Rattle.notation.specs.declared.part.LegPart.{LegPart}

-- what is read from the front of a text or of a row of words, and the rest of it; or the error
abbrev pub ReadFrom : Type 0 → Type 0 → Type 0 → Type 0
ReadFrom Rest E X = Result (X × Rest) E

-- r is what f reads, and it leaves `after`
abbrev pub Reads : {Rest E X : Type 0} → (Rest → ReadFrom Rest E X) → Rest → Result X E → Rest → Type 0
Reads f before (Ok x) after = f before ≡ Ok (x, after)
Reads f before (Err e) after = f before ≡ Err e

-- one part after another
abbrev pub and_then : {Rest E X Y : Type 0} → ReadFrom Rest E X → (X → Rest → ReadFrom Rest E Y) → ReadFrom Rest E Y
and_then (Ok got) next = next got.0 got.1
and_then (Err e) next = Err e

-- what is read of a text; or the part that cannot be read
abbrev pub Read : Type 0 → Type 0
Read X = ReadFrom (List ℕ) LegPart X

-- the next character
abbrev pub one : LegPart → List ℕ → Read ℕ
one part [] = Err part
one part (c ∷ rest) = Ok (c, rest)

-- the next character, which has to be this one
abbrev pub mark : ℕ → LegPart → List ℕ → Read (Unit {0})
mark wanted part text = and_then (one part text) (λ c rest. cond (c == wanted) (Ok (tt, rest)) (Err part))

-- whether a text begins with a character
abbrev pub opens : ℕ → List ℕ → Bool
opens wanted [] = false
opens wanted (c ∷ rest) = c == wanted

abbrev pub digit : ℕ → Bool
digit c = nat_le 48 c && nat_le c 57

-- the next character's digit, if it is one
abbrev pub digit_at : List ℕ → Option (ℕ × List ℕ)
digit_at [] = None
digit_at (c ∷ rest) = cond (digit c) (Some (c - 48, rest)) None

-- all the digits from here on, after those of n; a number of 2^32 or more cannot be read
abbrev pub more : LegPart → ℕ → List ℕ → Read ℕ
more part n [] = Ok (n, [])
more part n (c ∷ rest) =
    cond (digit c) (cond (nat_lt (n * 10 + (c - 48)) (2 ^ 32)) (more part (n * 10 + (c - 48)) rest) (Err part)) (Ok (n, c ∷ rest))

-- a number: one digit or more, as many as there are
abbrev pub number : LegPart → List ℕ → Read ℕ
number part [] = Err part
number part (c ∷ rest) = cond (digit c) (more part (c - 48) rest) (Err part)
