-- Seatings: each role gets one leg, and each leg one role. Assumes nothing.
use Rattle.std.specs.Prelude.{◌≡◌, ℕ, zero, suc, ◌≤◌, Bool, true, false, cond, ◌&&◌, ◌||◌, ◌⊎◌, List, [], ◌∷◌, ◌++◌, map, length, take, ◌==◌, ◌≢◌, nat_le, nat_lt}
use Rattle.std.specs.List.{flat_map, AllByRecursion}
use Rattle.tickets.specs.Refused.{legs_of}
use Rattle.tickets.specs.declared.ticket.Ticket.{Ticket}

-- x is none of these
abbrev pub Apart : ℕ → List ℕ → Type 0
Apart x ys = AllByRecursion (λ y. x ≢ y) ys

abbrev pub Distinct : List ℕ → Type 0
Distinct [] = Unit {0}
Distinct (x ∷ xs) = Apart x xs × Distinct xs

-- a seating of n legs: the leg of role 1, of role 2 and so on, each of the legs 1 to n once
pub record Permutation (n : ℕ) (s : List ℕ) : Type 0 where
  pub long : length s ≡ n
  pub legs : AllByRecursion (λ k. (1 ≤ k) × (k ≤ n)) s
  pub distinct : Distinct s

-- s comes before t: at the first role at which they differ, it has the smaller leg
abbrev pub before : List ℕ → List ℕ → Bool
before [] t = false
before (x ∷ s) [] = false
before (x ∷ s) (y ∷ t) = nat_lt x y || (x == y && before s t)

-- m numbers, from a on
abbrev pub numbers : ℕ → ℕ → List ℕ
numbers a zero = []
numbers a (suc m) = a ∷ numbers (suc a) m

pub record Pick : Type 0 where
  pub taken : ℕ
  pub left : List ℕ

-- each number of a list in turn, with the others
abbrev pub picks : List ℕ → List Pick
picks [] = []
picks (x ∷ xs) = record { taken = x; left = xs } ∷ map (λ p. record { taken = p.taken; left = x ∷ p.left }) (picks xs)

-- the orders of m numbers: each of them first in turn, with the orders of the others behind it
abbrev pub orders : ℕ → List ℕ → List (List ℕ)
orders zero xs = [] ∷ []
orders (suc m) xs = flat_map (λ p. map (λ s. p.taken ∷ s) (orders m p.left)) (picks xs)

-- the seatings of n legs, as the search tries them
unfoldable pub seatings : ℕ → List (List ℕ)
seatings n = orders n (numbers 1 n)

-- as the code holds a seating: four places, with 0 in those past the roles
abbrev pub padded : List ℕ → List ℕ
padded s = take 4 (s ++ 0 ∷ 0 ∷ 0 ∷ 0 ∷ [])

-- as the code holds the seatings of a number of legs; a ticket has 2 to 4, and there is none of another number
abbrev pub seating_table : ℕ → List (List ℕ)
seating_table n = cond (nat_le 2 n && nat_le n 4) (map padded (seatings n)) []

-- x stands in a list
abbrev pub In : {X : Type 0} → X → List X → Type 0
In x [] = ⊥
In x (y ∷ ys) = (x ≡ y) ⊎ In x ys

-- each seating comes before all that stand behind it, and none of those comes before it: so none stands twice
abbrev pub RisingOrder : List (List ℕ) → Type 0
RisingOrder [] = Unit {0}
RisingOrder (s ∷ ss) = AllByRecursion (λ z. (before s z ≡ true) × (before z s ≡ false)) ss × RisingOrder ss

-- what the search tries are all the seatings of n legs, each once, in rising order
pub record Complete (n : ℕ) : Type 0 where
  pub sound : (s : List ℕ) → In s (seatings n) → Permutation n s
  pub whole : (s : List ℕ) → Permutation n s → In s (seatings n)
  pub rising : RisingOrder (seatings n)

-- the leg of each role of a ticket, as the code holds a seating
abbrev pub unpadded : Ticket → List ℕ → List ℕ
unpadded t places = take (length (legs_of t)) places

-- they are a seating of the ticket's legs
abbrev pub Seats : Ticket → List ℕ → Type 0
Seats t places = Permutation (length (legs_of t)) (unpadded t places)
