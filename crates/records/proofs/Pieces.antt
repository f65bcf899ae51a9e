-- Texts with a space before each. Assumes nothing.
use Rattle.std.proofs.Common.{◌≡◌, ℕ, ◌+◌, ◌<◌, List, [], ◌∷◌, ◌++◌, length, get_or, take, Some, None, Ok, codes, Option, sym, refl, ap, ◌∙◌, append-nil}
use Rattle.std.specs.Fmt.{DisplaysOnOk, ◌++?◌}
use Rattle.std.specs.declared.fmt.Formatter.{Formatter}
use Rattle.std.proofs.Output.{then_text_assoc, displays_on_IsOk_append}
use Rattle.std.proofs.lemmas.List.{take_more}
use Rattle.sheet.specs.Writing.{role_text, relation_text}
use Rattle.sheet.specs.declared.record.Relation.{Relation}
use Rattle.sheet.specs.declared.record.Role.{Role}
use Rattle.records.specs.Writing.{spaced, shown}

alone : (o : Option (List ℕ)) → Some (codes " ") ++? o ++? Some [] ≡ Some [] ++? Some (codes " ") ++? o
alone None = refl
alone (Some text) = ap (λ t. Some (codes " " ++ t)) (append-nil text)

shown_push : {X : Type 0} (text : X → Option (List ℕ)) (xs : List X) (x : X) → shown text (xs ++ x ∷ []) ≡ shown text xs ++? (Some (codes " ") ++? text x)
shown_push text [] x = alone (text x)
shown_push text (y ∷ ys) x =
    let space = Some (codes " ") in
    ap (λ o. space ++? text y ++? o) (shown_push text ys x)
    ∙ sym (then_text_assoc space (text y ++? shown text ys) (space ++? text x) ∙ ap (λ o. space ++? o) (then_text_assoc (text y) (shown text ys) (space ++? text x)))

-- one more is written
pub spaced_more : {W X : Type 0} (took : W → List ℕ → W → Type 0) (text : X → Option (List ℕ)) (f g h : Formatter W) (xs : List X) (i : ℕ) (x : X) → i < length xs → x ≡ get_or xs i x → DisplaysOnOk took f (Ok tt) (shown text (take i xs)) g → DisplaysOnOk took g (Ok tt) (Some (codes " ") ++? text x) h → DisplaysOnOk took f (Ok tt) (shown text (take (i + 1) xs)) h
spaced_more took text f g h xs i x l is before more =
    rw (ap (shown text) (take_more xs i x l) ∙ shown_push text (take i xs) (get_or xs i x), sym is)
    (displays_on_IsOk_append took f g h (Ok tt) (Ok tt) _ _ (λ e. e) before more)

-- where each has a text
shown_spaced : {X : Type 0} (text : X → List ℕ) (xs : List X) → shown (λ x. Some (text x)) xs ≡ Some (spaced text xs)
shown_spaced text [] = refl
shown_spaced text (x ∷ xs) = ap (λ o. Some (codes " ") ++? Some (text x) ++? o) (shown_spaced text xs)

pub roles_shown : (roles : List Role) → shown (λ role. Some (role_text role)) roles ≡ Some (spaced role_text roles)
roles_shown roles = shown_spaced role_text roles

pub relations_shown : (relations : List Relation) → shown (λ relation. Some (relation_text relation)) relations ≡ Some (spaced relation_text relations)
relations_shown relations = shown_spaced relation_text relations
