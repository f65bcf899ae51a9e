-- What the words of a line say, by the grammar of the script. Assumes nothing.
use Rattle.std.specs.Prelude.{◌≡◌, ℕ, List, [], ◌∷◌, Some, None, Ok, Err, codes, slice_index}
use Rattle.std.specs.List.{AllZip}
use Rattle.contracts.specs.declared.plain.PlainLeg.{PlainLeg}
use Rattle.contracts.specs.declared.plain.Reference.{Reference}
use Rattle.contracts.specs.Letters.{state_text}
use Rattle.notation.specs.Spelling.{Number, Spells}
use Rattle.script.specs.Lines.{Reading}
use Rattle.script.specs.declared.line.Line.TheVariants as line

-- no word, or a first word that begins with `#`
abbrev pub PassedOver : List (List ℕ) → Type 0
PassedOver [] = Unit {0}
PassedOver (w ∷ ws) = slice_index w 0 ≡ 35

-- market CORE LOT TICK STATE END
pub record MarketLine (m : Reference) (ws : List (List ℕ)) : Type 0 where
  pub core : List ℕ
  pub lot : List ℕ
  pub tick : List ℕ
  pub end : List ℕ
  pub core_is : Number m.core core
  pub lot_is : Number m.lot_size lot
  pub tick_is : Number m.tick tick
  pub end_is : Number m.session_end end
  pub all : ws ≡ codes "market" ∷ core ∷ lot ∷ tick ∷ state_text m.state ∷ end ∷ []

-- each word spells its leg; `ref` is the reference data of a leg that leaves its own out
abbrev pub LegsSpelled : Reference → List PlainLeg → List (List ℕ) → Type 0
LegsSpelled ref legs ws = AllZip (Spells ref) legs ws

-- ticket MINUTE LEG..
pub record TicketLine (ref : Reference) (minute : ℕ) (legs : List PlainLeg) (ws : List (List ℕ)) : Type 0 where
  pub minute_word : List ℕ
  pub leg_words : List (List ℕ)
  pub minute_is : Number minute minute_word
  pub legs_are : LegsSpelled ref legs leg_words
  pub all : ws ≡ codes "ticket" ∷ minute_word ∷ leg_words

-- a line is unreadable exactly where it says none of these
abbrev pub Says : Reference → List (List ℕ) → Reading → Type 0
Says ref ws (Ok None) = PassedOver ws
Says ref ws (Ok (Some (line.Market m))) = MarketLine m ws
Says ref ws (Ok (Some (line.Ticket minute legs))) = TicketLine ref minute legs ws
Says ref ws (Err t) =
    (PassedOver ws → ⊥) × ((m : Reference) → MarketLine m ws → ⊥) × ((minute : ℕ) (legs : List PlainLeg) → TicketLine ref minute legs ws → ⊥)
