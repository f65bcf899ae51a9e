-- Which text spells which leg. A text is a list of characters, `++` puts texts together, and `codes` is a text that is written out. Assumes nothing.
use Rattle.std.specs.Prelude.{◌≡◌, ℕ, ◌+◌, ◌-◌, ◌*◌, ◌^◌, ◌<◌, ◌≤◌, ◌⊎◌, List, [], ◌∷◌, ◌++◌, length, codes, ◌≢◌}
use Rattle.contracts.specs.declared.plain.PlainRoot.{PlainRoot}
use Rattle.contracts.specs.declared.plain.PlainMonth.{PlainMonth}
use Rattle.contracts.specs.declared.plain.PlainUnderlying.{PlainUnderlying}
use Rattle.contracts.specs.declared.plain.PlainUnderlying.TheVariants as on
use Rattle.contracts.specs.declared.plain.PlainContract.{PlainContract}
use Rattle.contracts.specs.declared.plain.PlainContract.TheVariants as plain
use Rattle.contracts.specs.declared.plain.Reference.{Reference}
use Rattle.contracts.specs.declared.plain.PlainLeg.{PlainLeg}
use Rattle.contracts.specs.Letters.{side_text, right_text, state_text}

-- each character is one of 0 to 9
abbrev pub Digits : List ℕ → Type 0
Digits [] = Unit {0}
Digits (c ∷ text) = (48 ≤ c) × (c ≤ 57) × Digits text

-- the number that digits write after those of n
abbrev pub number_after : ℕ → List ℕ → ℕ
number_after n [] = n
number_after n (c ∷ text) = number_after (n * 10 + (c - 48)) text

-- a number below 2^32: its digits, of which there is at least one; zeros in front do not matter
pub record Number (n : ℕ) (text : List ℕ) : Type 0 where
  pub some : 0 < length text
  pub digits : Digits text
  pub value : number_after 0 text ≡ n
  pub small : n < 2 ^ 32

-- year, `-`, month
pub record MonthSpelled (month : PlainMonth) (text : List ℕ) : Type 0 where
  pub year : List ℕ
  pub number : List ℕ
  pub year_is : Number month.year year
  pub number_is : Number month.month number
  pub all : text ≡ year ++ codes "-" ++ number

-- any character but a space, `:` and `/`
abbrev pub RootCharacter : ℕ → Type 0
RootCharacter c = (c ≢ 32) × (c ≢ 58) × (c ≢ 47)

-- three characters
pub record RootSpelled (root : PlainRoot) (text : List ℕ) : Type 0 where
  pub first : RootCharacter root.first
  pub second : RootCharacter root.second
  pub third : RootCharacter root.third
  pub all : text ≡ root.first ∷ root.second ∷ root.third ∷ []

-- nothing for the spot, and `@` with its month for a future
abbrev pub UnderlyingSpelled : PlainUnderlying → List ℕ → Type 0
UnderlyingSpelled on.Spot text = text ≡ []
UnderlyingSpelled (on.Future month) text = (future : List ℕ) × MonthSpelled month future × (text ≡ codes "@" ++ future)

-- ROOT:F:MONTH, and ROOT:C:MONTH:STRIKE or ROOT:P:MONTH:STRIKE with the underlying
abbrev pub ContractSpelled : PlainContract → List ℕ → Type 0
ContractSpelled (plain.Future root month) text =
    (r : List ℕ) × (m : List ℕ) × RootSpelled root r × MonthSpelled month m × (text ≡ r ++ codes ":F:" ++ m)
ContractSpelled (plain.Option right root month strike underlying) text =
    (r : List ℕ) × (m : List ℕ) × (s : List ℕ) × (u : List ℕ) × RootSpelled root r × MonthSpelled month m × Number strike s × UnderlyingSpelled underlying u × (text ≡ r ++ codes ":" ++ right_text right ++ codes ":" ++ m ++ codes ":" ++ s ++ u)

-- /CORE/LOT/TICK/STATE/END
pub record OwnSpelled (reference : Reference) (text : List ℕ) : Type 0 where
  pub core : List ℕ
  pub lot : List ℕ
  pub tick : List ℕ
  pub end : List ℕ
  pub core_is : Number reference.core core
  pub lot_is : Number reference.lot_size lot
  pub tick_is : Number reference.tick tick
  pub end_is : Number reference.session_end end
  pub all : text ≡ codes "/" ++ core ++ codes "/" ++ lot ++ codes "/" ++ tick ++ codes "/" ++ state_text reference.state ++ codes "/" ++ end

-- nothing, and then it is the market's; or the leg's own
abbrev pub ReferenceSpelled : Reference → Reference → List ℕ → Type 0
ReferenceSpelled market reference text = ((text ≡ []) × (reference ≡ market)) ⊎ OwnSpelled reference text

-- the side, the lots, `:`, the contract and the reference data
pub record Spells (market : Reference) (leg : PlainLeg) (text : List ℕ) : Type 0 where
  pub lots : List ℕ
  pub contract : List ℕ
  pub reference : List ℕ
  pub lots_is : Number leg.lots lots
  pub contract_is : ContractSpelled leg.contract contract
  pub reference_is : ReferenceSpelled market leg.reference reference
  pub all : text ≡ side_text leg.side ++ lots ++ codes ":" ++ contract ++ reference
