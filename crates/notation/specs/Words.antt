-- The words of a line. Assumes nothing.
use Rattle.std.specs.Prelude.{ℕ, ◌-◌, Bool, cond, List, [], ◌∷◌, length, take, ◌==◌, slice_index}

-- a space, and no other character
abbrev pub space : ℕ → Bool
space c = c == 32

-- a character in front of the first word
abbrev pub onto : ℕ → List (List ℕ) → List (List ℕ)
onto c [] = (c ∷ []) ∷ []
onto c (w ∷ ws) = (c ∷ w) ∷ ws

-- a character that is no space: it opens the word that follows, or is a word of its own where a space or nothing follows
abbrev pub opening : ℕ → List ℕ → List (List ℕ) → List (List ℕ)
opening c [] ws = (c ∷ []) ∷ ws
opening c (d ∷ ds) ws = cond (space d) ((c ∷ []) ∷ ws) (onto c ws)

-- the longest runs of characters other than spaces
abbrev pub words : List ℕ → List (List ℕ)
words [] = []
words (c ∷ cs) = cond (space c) (words cs) (opening c cs (words cs))

-- a text without this character at its end
abbrev pub without : ℕ → List ℕ → List ℕ
without c text = cond (slice_index text (length text - 1) == c) (take (length text - 1) text) text

-- a line without its line feed and the carriage return before it, if it has them
abbrev pub body_of : List ℕ → List ℕ
body_of line = without 13 (without 10 line)
