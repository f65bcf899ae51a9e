-- Each part is read just where it is spelled. Assumes nothing.
use Rattle.std.proofs.Common.{◌≡◌, ℕ, true, List, [], ◌∷◌, ◌++◌, Some, None, Ok, Err, codes, Option, refl, ◌∙◌, subst, inl, inr, append_assoc, arith}
use Rattle.std.proofs.lemmas.Bool.Decides.{nat_tests}
use Rattle.std.proofs.lemmas.Bool.{cond-true}
use Rattle.contracts.specs.declared.contract.Kind.{Kind}
use Rattle.contracts.specs.declared.contract.Kind.TheVariants as kind
use Rattle.contracts.specs.declared.contract.Right.{Right}
use Rattle.contracts.specs.declared.contract.Right.TheVariants.{Call, Put}
use Rattle.contracts.specs.declared.plain.Side.{Side}
use Rattle.contracts.specs.declared.plain.Side.TheVariants.{Bought, Sold}
use Rattle.contracts.specs.declared.plain.State.{State}
use Rattle.contracts.specs.declared.plain.State.TheVariants.{Trading, Auction, Suspended, Forbidden}
use Rattle.contracts.specs.declared.plain.PlainRoot.{PlainRoot}
use Rattle.contracts.specs.declared.plain.PlainMonth.{PlainMonth}
use Rattle.notation.specs.Reading.{ReadFrom, and_then, one, mark, number}
use Rattle.contracts.specs.Letters.{side_of, kind_of, state_of}
use Rattle.notation.specs.LegReading.{root_character, meant, read_side, read_kind, read_state, read_root_character, read_root, read_month}
use Rattle.contracts.specs.Letters.{side_text, right_text, state_text}
use Rattle.notation.specs.Spelling.{MonthSpelled, RootCharacter, RootSpelled}
use Rattle.notation.specs.declared.part.LegPart.{LegPart}
use Rattle.notation.specs.declared.part.LegPart.TheVariants as part
use Rattle.notation.proofs.Numbers.{Stops, Cut, cond_ways, err_not_ok, ok_same, number_past, number_at}

-- where both of two parts are read, the first is, and then the second
pub then_ways : {Rest E X Y : Type 0} (r : ReadFrom Rest E X) (next : X → Rest → ReadFrom Rest E Y) (y : Y × Rest) → and_then r next ≡ Ok y → (got : X × Rest) × (r ≡ Ok got) × (next got.0 got.1 ≡ Ok y)
then_ways (Ok got) next y e = (got, refl, e)
then_ways (Err left) next y e = absurd (err_not_ok e)

pub mark_past : (wanted : ℕ) (part : LegPart) (text : List ℕ) (got : Unit {0} × List ℕ) → mark wanted part text ≡ Ok got → text ≡ wanted ∷ got.1
mark_past wanted part [] got e = absurd (err_not_ok e)
mark_past wanted part (c ∷ text) got e = grind (arith, nat_tests)

one_past : (part : LegPart) (text : List ℕ) (got : ℕ × List ℕ) → one part text ≡ Ok got → text ≡ got.0 ∷ got.1
one_past part [] got e = absurd (err_not_ok e)
one_past part (c ∷ text) got e = cc

meant_past : {X : Type 0} (part : LegPart) (rest : List ℕ) (o : Option X) (got : X × List ℕ) → meant part rest o ≡ Ok got → (o ≡ Some got.0) × (rest ≡ got.1)
meant_past part rest (Some x) got e = (cc, cc)
meant_past part rest None got e = absurd (err_not_ok e)

-- the letters
side_letter : (c : ℕ) (side : Side) → side_of c ≡ Some side → c ∷ [] ≡ side_text side
side_letter c Bought e = grind (arith, nat_tests)
side_letter c Sold e = grind (arith, nat_tests)

abbrev pub kind_text : Kind → List ℕ
kind_text kind.Future = codes "F"
kind_text kind.Call = right_text Call
kind_text kind.Put = right_text Put

kind_letter : (c : ℕ) (k : Kind) → kind_of c ≡ Some k → c ∷ [] ≡ kind_text k
kind_letter c kind.Future e = grind (arith, nat_tests)
kind_letter c kind.Call e = grind (arith, nat_tests)
kind_letter c kind.Put e = grind (arith, nat_tests)

state_letter : (c : ℕ) (s : State) → state_of c ≡ Some s → c ∷ [] ≡ state_text s
state_letter c Trading e = grind (arith, nat_tests)
state_letter c Auction e = grind (arith, nat_tests)
state_letter c Suspended e = grind (arith, nat_tests)
state_letter c Forbidden e = grind (arith, nat_tests)

-- one letter that stands for something
letter_past : {X : Type 0} (part : LegPart) (of : ℕ → Option X) (spelt : X → List ℕ) → ((c : ℕ) (x : X) → of c ≡ Some x → c ∷ [] ≡ spelt x) → (text : List ℕ) (got : X × List ℕ) → and_then (one part text) (λ c rest. meant part rest (of c)) ≡ Ok got → text ≡ spelt got.0 ++ got.1
letter_past part of spelt told text got e =
    let a = then_ways (one part text) (λ c rest. meant part rest (of c)) got e in
    let b = meant_past part a.0.1 (of a.0.0) got a.2 in
    let first = told a.0.0 got.0 b.0 in
    one_past part text a.0 a.1 ∙ (λ i. first i ++ b.1 i)

pub side_past : (text : List ℕ) (got : Side × List ℕ) → read_side text ≡ Ok got → text ≡ side_text got.0 ++ got.1
side_past text got e = letter_past part.Side side_of side_text side_letter text got e

pub kind_past : (text : List ℕ) (got : Kind × List ℕ) → read_kind text ≡ Ok got → text ≡ kind_text got.0 ++ got.1
kind_past text got e = letter_past part.Kind kind_of kind_text kind_letter text got e

pub state_past : (text : List ℕ) (got : State × List ℕ) → read_state text ≡ Ok got → text ≡ state_text got.0 ++ got.1
state_past text got e = letter_past part.State state_of state_text state_letter text got e

pub side_at : (side : Side) (rest : List ℕ) → read_side (side_text side ++ rest) ≡ Ok (side, rest)
side_at Bought rest = refl
side_at Sold rest = refl

-- the kind of an option
abbrev pub optional : Right → Kind
optional Call = kind.Call
optional Put = kind.Put

pub right_at : (right : Right) (rest : List ℕ) → read_kind (right_text right ++ rest) ≡ Ok (optional right, rest)
right_at Call rest = refl
right_at Put rest = refl

pub state_at : (s : State) (rest : List ℕ) → read_state (state_text s ++ rest) ≡ Ok (s, rest)
state_at Trading rest = refl
state_at Auction rest = refl
state_at Suspended rest = refl
state_at Forbidden rest = refl

-- the month
pub month_past : (part : LegPart) (text : List ℕ) (got : PlainMonth × List ℕ) → read_month part text ≡ Ok got → Cut MonthSpelled text got
month_past part text got e =
    let a = then_ways (number part text) _ got e in
    let b = then_ways (mark 45 part a.0.1) _ got a.2 in
    let c = then_ways (number part b.0.1) _ got b.2 in
    let y = number_past part text a.0 a.1 in
    let k = mark_past 45 part a.0.1 b.0 b.1 in
    let m = number_past part b.0.1 c.0 c.1 in
    let ey = y.2 in
    let em = m.2 in
    subst (Cut MonthSpelled text) (ok_same c.2) (
      y.0 ++ codes "-" ++ m.0,
      record { year = y.0; number = m.0; year_is = y.1; number_is = m.1; all = refl },
      simp append_assoc (cc),
    )

pub month_at : (part : LegPart) (month : PlainMonth) (text rest : List ℕ) → MonthSpelled month text → Stops rest → read_month part (text ++ rest) ≡ Ok (month, rest)
month_at part month text rest h stops =
    let whole : text ++ rest ≡ h.year ++ (codes "-" ++ (h.number ++ rest)) = rw h.all (simp append_assoc) in
    rw (whole, number_at part month.year h.year (codes "-" ++ (h.number ++ rest)) h.year_is refl, number_at part month.month h.number rest h.number_is stops)

-- the root
root_told : (c : ℕ) → root_character c ≡ true → RootCharacter c
root_told c e = (λ is. grind (arith, nat_tests), λ is. grind (arith, nat_tests), λ is. grind (arith, nat_tests))

root_tells : (c : ℕ) → RootCharacter c → root_character c ≡ true
root_tells c h = grind (arith, nat_tests)

root_character_past : (text : List ℕ) (got : ℕ × List ℕ) → read_root_character text ≡ Ok got → RootCharacter got.0 × (text ≡ got.0 ∷ got.1)
root_character_past text got e =
    let a = then_ways (one part.Root text) _ got e in
    elim (cond_ways (root_character a.0.0) _ _ _ a.2) [
      | inl h ↦ subst (λ (g : ℕ × List ℕ). RootCharacter g.0 × (text ≡ g.0 ∷ g.1)) (ok_same h.1) (root_told a.0.0 h.0, one_past part.Root text a.0 a.1)
      | inr h ↦ absurd (err_not_ok h.1)
    ]

root_character_at : (c : ℕ) (rest : List ℕ) → RootCharacter c → read_root_character (c ∷ rest) ≡ Ok (c, rest)
root_character_at c rest h = cond-true _ _ _ (root_tells c h)

pub root_past : (text : List ℕ) (got : PlainRoot × List ℕ) → read_root text ≡ Ok got → Cut RootSpelled text got
root_past text got e =
    let a = then_ways (read_root_character text) _ got e in
    let b = then_ways (read_root_character a.0.1) _ got a.2 in
    let c = then_ways (read_root_character b.0.1) _ got b.2 in
    let x = root_character_past text a.0 a.1 in
    let y = root_character_past a.0.1 b.0 b.1 in
    let z = root_character_past b.0.1 c.0 c.1 in
    let ex = x.1 in
    let ey = y.1 in
    let ez = z.1 in
    subst (Cut RootSpelled text) (ok_same c.2)
    (a.0.0 ∷ b.0.0 ∷ c.0.0 ∷ [], record { first = x.0; second = y.0; third = z.0; all = refl }, cc)

pub root_at : (root : PlainRoot) (text rest : List ℕ) → RootSpelled root text → read_root (text ++ rest) ≡ Ok (root, rest)
root_at root text rest h =
    rw (h.all, root_character_at root.first (root.second ∷ root.third ∷ rest) h.first, root_character_at root.second (root.third ∷ rest) h.second, root_character_at root.third rest h.third)
