-- The first fit as a search finds it. Assumes nothing.
use Rattle.std.specs.Prelude.{◌≡◌, ℕ, Bool, List, [], ◌∷◌, map, length, Some, None, Ok, Err, Option, Result}
use Rattle.std.specs.List.{find, flat_map}
use Rattle.contracts.specs.declared.leg.Leg.{Leg}
use Rattle.catalogue.specs.Entries.{Entry, numbered, suits}
use Rattle.catalogue.specs.Rows.{row}
use Rattle.catalogue.specs.Seatings.{numbers, seatings, padded}
use Rattle.catalogue.specs.declared.direction.Direction.{Direction}
use Rattle.catalogue.specs.declared.direction.Direction.TheVariants.{Buy, Sell}
use Rattle.catalogue.specs.declared.refusal.CatalogueRefusal.{CatalogueRefusal}
use Rattle.catalogue.specs.declared.refusal.CatalogueRefusal.TheVariants.{NoEntryFits}
use Rattle.catalogue.specs.declared.search.Fit.{Fit}

pub record Candidate : Type 0 where
  pub entry : ℕ
  pub direction : Direction
  pub seating : List ℕ

abbrev pub candidate : ℕ → Direction → List ℕ → Candidate
candidate n d s = record { entry = n; direction = d; seating = s }

-- BUY before SELL
abbrev pub directions : List Direction
directions = Buy ∷ Sell ∷ []

-- the candidates of an entry in a direction: every seating
abbrev pub of_direction : ℕ → ℕ → Direction → List Candidate
of_direction legs n d = map (candidate n d) (seatings legs)

-- the candidates of an entry: BUY before SELL
abbrev pub of_entry : ℕ → ℕ → List Candidate
of_entry legs n = flat_map (of_direction legs n) directions

-- all candidates: the entries by their numbers
abbrev pub candidates : ℕ → ℕ → List Candidate
candidates legs count = flat_map (of_entry legs) (numbers 1 count)

abbrev pub fitting : List Entry → List Leg → Candidate → Bool
fitting es legs x = suits (numbered es x.entry) (row x.direction legs x.seating)

-- of all candidates the first that fits
unfoldable pub first_fit : List Entry → List Leg → Option Candidate
first_fit es legs = find (fitting es legs) (candidates (length legs) (length es))

-- what the search hands back: the first fit, its seating as the code holds it; or that no entry fits
abbrev pub Searched : List Entry → List Leg → Result Fit CatalogueRefusal → Type 0
Searched es legs (Ok fit) = (s : List ℕ) × (first_fit es legs ≡ Some (candidate fit.entry fit.direction s)) × (fit.seating ≡ padded s)
Searched es legs (Err e) = (e ≡ NoEntryFits) × (first_fit es legs ≡ None)
