-- A number and a state that stand alone are read just where they are spelled. Assumes nothing.
use Rattle.std.proofs.Common.{◌≡◌, ℕ, List, [], Ok, Result, sym, ap, ◌∙◌, subst, append-nil}
use Rattle.contracts.specs.declared.plain.State.{State}
use Rattle.notation.specs.LegReading.{whole, read_state}
use Rattle.contracts.specs.Letters.{state_text}
use Rattle.notation.specs.Reading.{number}
use Rattle.notation.specs.Spelling.{Number}
use Rattle.notation.specs.declared.part.LegPart.{LegPart}
use Rattle.notation.proofs.Legs.{whole_past}
use Rattle.notation.proofs.Numbers.{number_past, number_at}
use Rattle.notation.proofs.Parts.{state_past, state_at}

pub number_told : (part : LegPart) (text : List ℕ) (r : Result ℕ LegPart) → r ≡ whole (number part text) → (n : ℕ) → (r ≡ Ok n → Number n text) × (Number n text → r ≡ Ok n)
number_told part text r value n = (
  λ e.
      let h = number_past part text (n, []) (whole_past (number part text) n (sym value ∙ e)) in
      subst (Number n) (sym (append-nil h.0) ∙ sym h.2) h.1,
  λ h. value ∙ ap whole (ap (number part) (sym (append-nil text)) ∙ number_at part n text [] h tt),
)

pub state_told : (text : List ℕ) (r : Result State LegPart) → r ≡ whole (read_state text) → (s : State) → (r ≡ Ok s → text ≡ state_text s) × (text ≡ state_text s → r ≡ Ok s)
state_told text r value s = (
  λ e. state_past text (s, []) (whole_past (read_state text) s (sym value ∙ e)) ∙ append-nil (state_text s),
  λ h. value ∙ ap whole (ap read_state (h ∙ sym (append-nil (state_text s))) ∙ state_at s []),
)
