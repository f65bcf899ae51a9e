-- A word is read as a role or a relation just where it spells it. Assumes nothing.
use Rattle.std.proofs.Common.{◌≡◌, ◌↔◌, ℕ, Bool, true, false, eqb, List, [], ◌∷◌, ◌++◌, Some, None, Ok, Err, codes, Option, Result, sym, refl, ap, ◌∙◌, subst, inl, inr}
use Rattle.std.specs.Option.{option_map}
use Rattle.std.specs.Result.{result_ok}
use Rattle.std.proofs.lemmas.Bool.{eqb-true}
use Rattle.catalogue.specs.declared.strategy.StrategyType.{StrategyType}
use Rattle.contracts.specs.Letters.{side_text, side_of, kind_text, kind_of}
use Rattle.contracts.specs.Lettered.{sides_told, kinds_told}
use Rattle.contracts.specs.declared.contract.Kind.{Kind}
use Rattle.contracts.specs.declared.contract.Kind.TheVariants.{Future, Call, Put}
use Rattle.contracts.specs.declared.plain.Side.{Side}
use Rattle.contracts.specs.declared.plain.Side.TheVariants.{Bought, Sold}
use Rattle.notation.specs.LegReading.{whole}
use Rattle.notation.specs.Reading.{number}
use Rattle.notation.specs.Spelling.{Number}
use Rattle.notation.specs.declared.part.LegPart.TheVariants.{Lots}
use Rattle.notation.proofs.Fields.{number_told}
use Rattle.notation.proofs.Numbers.{Stops, Cut, cond_ways, number_past, number_at}
use Rattle.sheet.specs.Letters.{aspect_text, aspect_of, comparison_text, comparison_of}
use Rattle.sheet.specs.Lettered.{aspects_told, comparisons_told}
use Rattle.sheet.specs.declared.record.Aspect.{Aspect}
use Rattle.sheet.specs.declared.record.Aspect.TheVariants.{Strike, Month}
use Rattle.sheet.specs.declared.record.Comparison.{Comparison}
use Rattle.sheet.specs.declared.record.Comparison.TheVariants.{Before, Same, After, Different}
use Rattle.sheet.specs.declared.record.Relation.{Relation}
use Rattle.sheet.specs.declared.record.Relation.TheVariants.{Compare, EvenSteps}
use Rattle.sheet.specs.declared.record.Role.{Role}
use Rattle.records.specs.Letters.{mark_text, mark_of}
use Rattle.records.specs.Lettered.{marks_told}
use Rattle.records.specs.Spelling.{RoleSpelled, RelationSpelled}
use Rattle.records.specs.Terms.{and_then, letter, letter_front, after, numeral, number_front, read_type, read_mark, read_role, compared, stepped, steps_or_compared, relation_on, read_relation}

-- where all the parts are read, each is
then_ways : {X Y : Type 0} (o : Option X) (next : X → Option Y) (y : Y) → and_then o next ≡ Some y → (x : X) × (o ≡ Some x) × (next x ≡ Some y)
then_ways (Some x) next y e = (x, refl, e)
then_ways None next y e = absurd cc

map_ways : {X Y : Type 0} (f : X → Y) (o : Option X) (y : Y) → option_map f o ≡ Some y → (x : X) × (o ≡ Some x) × (f x ≡ y)
map_ways f (Some x) y e = (x, refl, cc)
map_ways f None y e = absurd cc

ok_part : {T E : Type 0} (r : Result T E) (x : T) → result_ok r ≡ Some x → r ≡ Ok x
ok_part (Ok y) x e = cc
ok_part (Err d) x e = absurd cc

-- a letter is read just where it is written
module _ {X : Type 0} (meaning : ℕ → Option X) (text : X → List ℕ) (told : (c : ℕ) (x : X) → (meaning c ≡ Some x) ↔ (Some (text x) ≡ Some (c ∷ []))) where
  written : (c : ℕ) (x : X) → meaning c ≡ Some x → text x ≡ c ∷ []
  written c x e = let t = (told c x).0 e in cc

  letter_past : (word : List ℕ) (x : X) → letter meaning word ≡ Some x → word ≡ text x
  letter_past [] x e = absurd cc
  letter_past (c ∷ []) x e = sym (written c x e)
  letter_past (c ∷ d ∷ rest) x e = absurd cc

  front_past : (word : List ℕ) (got : X × List ℕ) → letter_front meaning word ≡ Some got → word ≡ text got.0 ++ got.1
  front_past [] got e = absurd cc
  front_past (c ∷ rest) got e =
      let m = map_ways (λ x. (x, rest)) (meaning c) got e in
      subst (λ (g : X × List ℕ). c ∷ rest ≡ text g.0 ++ g.1) m.2 (ap (λ t. t ++ rest) (sym (written c m.0 m.1)))

side_at : (side : Side) (rest : List ℕ) → letter_front side_of (side_text side ++ rest) ≡ Some (side, rest)
side_at Bought rest = refl
side_at Sold rest = refl

kind_at : (kind : Kind) → letter kind_of (kind_text kind) ≡ Some kind
kind_at Future = refl
kind_at Call = refl
kind_at Put = refl

kind_stops : (kind : Kind) → Stops (kind_text kind)
kind_stops Future = refl
kind_stops Call = refl
kind_stops Put = refl

aspect_at : (aspect : Aspect) (rest : List ℕ) → letter_front aspect_of (aspect_text aspect ++ rest) ≡ Some (aspect, rest)
aspect_at Strike rest = refl
aspect_at Month rest = refl

comparison_at : (aspect : Aspect) (n : ℕ) (k : Comparison) (b : List ℕ) → relation_on aspect n (comparison_text k ++ b) ≡ option_map (λ m. Compare aspect n k m) (numeral b)
comparison_at aspect n Before b = refl
comparison_at aspect n Same b = refl
comparison_at aspect n After b = refl
comparison_at aspect n Different b = refl

comparison_stops : (k : Comparison) (b : List ℕ) → Stops (comparison_text k ++ b)
comparison_stops Before b = refl
comparison_stops Same b = refl
comparison_stops After b = refl
comparison_stops Different b = refl

after_past : (mark : ℕ) (text rest : List ℕ) → after mark text ≡ Some rest → text ≡ mark ∷ rest
after_past mark [] rest e = absurd cc
after_past mark (c ∷ text) rest e =
    elim (cond_ways (eqb c mark) _ _ _ e) [
      | inl h ↦ let is = eqb-true c mark h.0 in let same = h.1 in cc
      | inr h ↦ let none = h.1 in absurd cc
    ]

-- numbers
numeral_past : (text : List ℕ) (n : ℕ) → numeral text ≡ Some n → Number n text
numeral_past text n e = (number_told Lots text _ refl n).0 (ok_part (whole (number Lots text)) n e)

numeral_at : (n : ℕ) (text : List ℕ) → Number n text → numeral text ≡ Some n
numeral_at n text h = ap result_ok ((number_told Lots text _ refl n).1 h)

number_front_past : (text : List ℕ) (got : ℕ × List ℕ) → number_front text ≡ Some got → Cut Number text got
number_front_past text got e = number_past Lots text got (ok_part (number Lots text) got e)

number_front_at : (n : ℕ) (s rest : List ℕ) → Number n s → Stops rest → number_front (s ++ rest) ≡ Some (n, rest)
number_front_at n s rest h stops = ap result_ok (number_at Lots n s rest h stops)

-- the type and the mark
pub type_past : (word : List ℕ) (t : StrategyType) → read_type word ≡ Some t → word ≡ t.first ∷ t.second ∷ []
type_past [] t e = absurd cc
type_past (a ∷ []) t e = absurd cc
type_past (a ∷ b ∷ []) t e = cc
type_past (a ∷ b ∷ c ∷ rest) t e = absurd cc

pub mark_past : (word : List ℕ) (b : Bool) → read_mark word ≡ Some b → word ≡ mark_text b
mark_past word b e =
    let m = map_ways (λ mark. mark.0) (letter mark_of word) b e in
    letter_past mark_of (λ mark. mark_text mark.0) marks_told word m.0 m.1 ∙ ap mark_text m.2

pub mark_at : (b : Bool) → read_mark (mark_text b) ≡ Some b
mark_at true = refl
mark_at false = refl

-- roles
pub role_past : (word : List ℕ) (role : Role) → read_role word ≡ Some role → RoleSpelled role word
role_past word role e =
    let a = then_ways (letter_front side_of word) _ role e in
    let b = then_ways (number_front a.0.1) _ role a.2 in
    let c = map_ways _ (letter kind_of b.0.1) role b.2 in
    let side = front_past side_of side_text sides_told word a.0 a.1 in
    let ratio = number_front_past a.0.1 b.0 b.1 in
    let rest = ratio.2 in
    let kind = letter_past kind_of kind_text kinds_told b.0.1 c.0 c.1 in
    subst (λ (r : Role). RoleSpelled r word) c.2 (ratio.0, ratio.1, cc)

pub role_at : (role : Role) (word : List ℕ) → RoleSpelled role word → read_role word ≡ Some role
role_at role word (ratio, n, all) =
    rw (all, side_at role.side (ratio ++ kind_text role.kind), number_front_at role.ratio ratio (kind_text role.kind) n (kind_stops role.kind), kind_at role.kind) refl

-- relations
abbrev Line : Aspect → List ℕ → List ℕ → List ℕ
Line aspect a text = aspect_text aspect ++ (codes ":" ++ (a ++ text))

compared_past : (aspect : Aspect) (n : ℕ) (a text : List ℕ) (relation : Relation) → Number n a → compared aspect n text ≡ Some relation → RelationSpelled relation (Line aspect a text)
compared_past aspect n a text relation na e =
    let k = then_ways (letter_front comparison_of text) _ relation e in
    let m = map_ways _ (numeral k.0.1) relation k.2 in
    subst (λ (r : Relation). RelationSpelled r (Line aspect a text)) m.2
    (a, k.0.1, na, numeral_past k.0.1 m.0 m.1, ap (Line aspect a) (front_past comparison_of comparison_text comparisons_told text k.0 k.1))

stepped_past : (aspect : Aspect) (n : ℕ) (a text : List ℕ) (relation : Relation) → Number n a → stepped aspect n text ≡ Some relation → RelationSpelled relation (Line aspect a (codes "~" ++ text))
stepped_past aspect n a text relation na e =
    let two = then_ways (number_front text) _ relation e in
    let rest = then_ways (after 126 two.0.1) _ relation two.2 in
    let three = map_ways _ (numeral rest.0) relation rest.2 in
    let b = number_front_past text two.0 two.1 in
    let cut = b.2 in
    let tilde = after_past 126 two.0.1 rest.0 rest.1 in
    subst (λ (r : Relation). RelationSpelled r (Line aspect a (codes "~" ++ text))) three.2
    (a, b.0, rest.0, na, b.1, numeral_past rest.0 three.0 three.1, cc)

on_past : (aspect : Aspect) (n : ℕ) (a text : List ℕ) (o : Option (List ℕ)) (relation : Relation) → Number n a → after 126 text ≡ o → steps_or_compared aspect n text o ≡ Some relation → RelationSpelled relation (Line aspect a text)
on_past aspect n a text (Some rest) relation na is e =
    subst (λ (t : List ℕ). RelationSpelled relation (Line aspect a t)) (sym (after_past 126 text rest is)) (stepped_past aspect n a rest relation na e)
on_past aspect n a text None relation na is e = compared_past aspect n a text relation na e

pub relation_past : (word : List ℕ) (relation : Relation) → read_relation word ≡ Some relation → RelationSpelled relation word
relation_past word relation e =
    let aspect = then_ways (letter_front aspect_of word) _ relation e in
    let rest = then_ways (after 58 aspect.0.1) _ relation aspect.2 in
    let one = then_ways (number_front rest.0) _ relation rest.2 in
    let start = front_past aspect_of aspect_text aspects_told word aspect.0 aspect.1 in
    let colon = after_past 58 aspect.0.1 rest.0 rest.1 in
    let a = number_front_past rest.0 one.0 one.1 in
    let cut = a.2 in
    let is : word ≡ Line aspect.0.0 a.0 one.0.1 = cc in
    subst (RelationSpelled relation) (sym is) (on_past aspect.0.0 one.0.0 a.0 one.0.1 (after 126 one.0.1) relation a.1 refl one.2)

pub relation_at : (relation : Relation) (word : List ℕ) → RelationSpelled relation word → read_relation word ≡ Some relation
relation_at (Compare aspect n k m) word (a, b, na, nb, all) =
    rw (all, aspect_at aspect (codes ":" ++ (a ++ (comparison_text k ++ b))), number_front_at n a (comparison_text k ++ b) na (comparison_stops k b), comparison_at aspect n k b, numeral_at m b nb) refl
relation_at (EvenSteps aspect n m k) word (a, b, c, na, nb, nc, all) =
    rw (all, aspect_at aspect (codes ":" ++ (a ++ (codes "~" ++ (b ++ (codes "~" ++ c))))), number_front_at n a (codes "~" ++ (b ++ (codes "~" ++ c))) na refl, number_front_at m b (codes "~" ++ c) nb refl, numeral_at k c nc) refl

-- a relation is no role
not_side : (aspect : Aspect) (text : List ℕ) → read_role (aspect_text aspect ++ text) ≡ None
not_side Strike text = refl
not_side Month text = refl

pub relation_no_role : (relation : Relation) (word : List ℕ) → RelationSpelled relation word → read_role word ≡ None
relation_no_role (Compare aspect n k m) word (a, b, na, nb, all) = ap read_role all ∙ not_side aspect _
relation_no_role (EvenSteps aspect n m k) word (a, b, c, na, nb, nc, all) = ap read_role all ∙ not_side aspect _
