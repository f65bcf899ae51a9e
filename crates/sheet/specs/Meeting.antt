-- The yes or no of a record's entry tells exactly the rows that meet the record. Assumes nothing.
use Rattle.std.specs.Prelude.{◌≡◌, ℕ, ◌<◌, Bool, true, false, List, [], ◌∷◌, length, Option, Some, None, IfSome, Decides, nat_eq, refl}
use Rattle.std.proofs.Common.{sym, ◌∙◌, arith}
use Rattle.std.specs.List.{AllByRecursion, AllZip, list_all, zip}
use Rattle.std.proofs.ByRecursion.{All-weaker, Decides-by_and}
use Rattle.std.proofs.lemmas.Bool.{false≢true, eq-eqb, and_parts, and_from}
use Rattle.std.proofs.lemmas.Bool.Decides.{nat_tests, Decides-and, Decides-eqb, Decides-like}
use Rattle.std.proofs.lemmas.Slice.Zip.{AllZip-long}
use Rattle.std.specs.Ordering.{nat_cmp, is_some_and}
use Rattle.contracts.specs.Alike.{root_decides, underlying_decides}
use Rattle.contracts.specs.Parts.{root_of, kind_of, underlying_of}
use Rattle.contracts.specs.declared.contract.Kind.{Kind}
use Rattle.contracts.specs.contracts.contract.Kind.{the_type as kind_type}
use Rattle.contracts.specs.contracts.contract.KindPartialEq.TheImpl as kind
use Rattle.contracts.specs.contracts.plain.Side.{the_type as side_type}
use Rattle.contracts.specs.contracts.plain.SidePartialEq.TheImpl as side
use denote.Enum.Bare.{same_true, true_same}
use Rattle.contracts.specs.declared.contract.Underlying.{Underlying}
use Rattle.contracts.specs.declared.contract.Underlying.TheVariants as on
use Rattle.contracts.specs.declared.leg.Leg.{Leg}
use Rattle.contracts.specs.declared.plain.Side.{Side}
use Rattle.contracts.specs.declared.root.Root.{Root}
use Rattle.catalogue.specs.Entries.{suits}
use Rattle.catalogue.specs.Rows.{no_leg}
use Rattle.sheet.specs.Meaning.{accepts, agrees, all_agree, all_play, allows, can_play, mark_kept, meaning, ordered, relation_holds, shared, steps_even}
use Rattle.sheet.specs.Meets.{Compared, Evenly, Holds, Meets, OneMarket, Plays, read_role, Stands}
use Rattle.sheet.specs.Rules.{Rule}
use Rattle.sheet.specs.declared.record.Comparison.{Comparison}
use Rattle.sheet.specs.declared.record.Comparison.TheVariants.{Before, Same, After, Different}
use Rattle.sheet.specs.declared.record.Relation.{Relation}
use Rattle.sheet.specs.declared.record.Relation.TheVariants.{Compare, EvenSteps}
use Rattle.sheet.specs.declared.record.Role.{Role}
use Rattle.sheet.specs.Even.{half_decides}

pub list_all_decides : {X : Type 0} (p : X → Bool) (P : X → Type 0) → ((x : X) → Decides (p x) (P x)) → (xs : List X) → Decides (list_all p xs) (AllByRecursion P xs)
list_all_decides p P each xs = Decides-by_and p P (list_all p) each refl (λ _ _. refl) xs

side_decides : (x y : Side) → Decides (side.ghosts.eq x y) (x ≡ y)
side_decides x y = (same_true side_type tt x y, true_same side_type x y)

kind_decides : (x y : Kind) → Decides (kind.ghosts.eq x y) (x ≡ y)
kind_decides x y = (same_true kind_type tt x y, true_same kind_type x y)

pub plays_decides : (role : Role) (leg : Leg) → Decides (can_play role leg) (Plays role leg)
plays_decides role leg =
    Decides-like _
    (λ h. record { side = h.0.0; kind = h.0.1; ratio = h.1 })
    (λ h. ((h.side, h.kind), h.ratio))
    (Decides-and _ _
    (Decides-and _ _ (side_decides leg.side role.side) (kind_decides (kind_of leg.contract) role.kind))
    (Decides-eqb leg.ratio role.ratio))

-- row by row, and pair by pair
from_pairs : (roles : List Role) (row : List Leg) → length row ≡ length roles → AllByRecursion (λ p. Plays p.0 p.1) (zip roles row) → AllZip Plays roles row
from_pairs [] [] e h = tt
from_pairs [] (leg ∷ row) e h = absurd (omega arith)
from_pairs (role ∷ roles) [] e h = absurd (omega arith)
from_pairs (role ∷ roles) (leg ∷ row) e h = (h.0, from_pairs roles row (omega arith) h.1)

to_pairs : (roles : List Role) (row : List Leg) → AllZip Plays roles row → AllByRecursion (λ p. Plays p.0 p.1) (zip roles row)
to_pairs [] row h = tt
to_pairs (role ∷ roles) [] h = tt
to_pairs (role ∷ roles) (leg ∷ row) h = (h.0, to_pairs roles row h.1)

played_decides : (roles : List Role) (row : List Leg) → Decides (all_play roles row) (AllZip Plays roles row)
played_decides roles row =
    Decides-like _
    (λ h. from_pairs roles row h.0 h.1)
    (λ h. (AllZip-long Plays roles row h, to_pairs roles row h))
    (Decides-and _ _
    (Decides-eqb (length row) (length roles))
    (list_all_decides (λ p. can_play p.0 p.1) (λ p. Plays p.0 p.1) (λ p. plays_decides p.0 p.1) (zip roles row)))

allows_decides : (c : Comparison) (a b : ℕ) → Decides (allows c (nat_cmp a b)) (Stands a c b)
allows_decides Before a b = (λ e. grind (arith, nat_tests), λ (h : a < b). grind (arith, nat_tests))
allows_decides Same a b = (λ e. grind (arith, nat_tests), λ (h : a ≡ b). grind (arith, nat_tests))
allows_decides After a b = (λ e. grind (arith, nat_tests), λ (h : b < a). grind (arith, nat_tests))
allows_decides Different a b = (λ e s. grind (arith, nat_tests), λ (h : a ≡ b → ⊥). grind (arith, nat_tests))

-- two options have one underlying
abbrev Shares : Option Underlying → Option Underlying → Type 0
Shares None v = Unit {0}
Shares (Some u) None = Unit {0}
Shares (Some u) (Some v) = u ≡ v

shares_decides : (u v : Option Underlying) → Decides (shared u v) (Shares u v)
shares_decides None v = (λ _. tt, λ _. refl)
shares_decides (Some u) None = (λ _. tt, λ _. refl)
shares_decides (Some u) (Some v) = underlying_decides u v

abbrev Alike : Leg → Leg → Type 0
Alike x y = (root_of x.contract ≡ root_of y.contract) × Shares (underlying_of x.contract) (underlying_of y.contract)

agrees_decides : (x y : Leg) → Decides (agrees x y) (Alike x y)
agrees_decides x y = Decides-and _ _ (root_decides (root_of x.contract) (root_of y.contract)) (shares_decides (underlying_of x.contract) (underlying_of y.contract))

abbrev Pairs : List Leg → Type 0
Pairs [] = Unit {0}
Pairs (x ∷ row) = AllByRecursion (Alike x) row × Pairs row

pairs_decides : (row : List Leg) → Decides (all_agree row) (Pairs row)
pairs_decides [] = (λ _. tt, λ _. refl)
pairs_decides (x ∷ row) = Decides-and _ _ (list_all_decides (agrees x) (Alike x) (agrees_decides x) row) (pairs_decides row)

abbrev OnIt : Underlying → Leg → Type 0
OnIt u leg = IfSome (underlying_of leg.contract) (λ v. v ≡ u)

abbrev OfIt : Root → Leg → Type 0
OfIt r leg = root_of leg.contract ≡ r

on_shared : (u : Underlying) (o : Option Underlying) → Shares (Some u) o → IfSome o (λ v. v ≡ u)
on_shared u None e = tt
on_shared u (Some v) e = sym e

on_found : (o : Option Underlying) (row : List Leg) → AllByRecursion (λ y. Shares o (underlying_of y.contract)) row → (u : Underlying) × AllByRecursion (OnIt u) row → (u : Underlying) × IfSome o (λ v. v ≡ u) × AllByRecursion (OnIt u) row
on_found None row h rest = (rest.0, tt, rest.1)
on_found (Some u) row h rest =
    (u, refl, All-weaker (λ y. Shares (Some u) (underlying_of y.contract)) (OnIt u) (λ y e. on_shared u (underlying_of y.contract) e) row h)

underlying_found : (row : List Leg) → Pairs row → (u : Underlying) × AllByRecursion (OnIt u) row
underlying_found [] h = (on.Spot, tt)
underlying_found (x ∷ row) h =
    let o = underlying_of x.contract in
    let f = on_found o row (All-weaker (Alike x) (λ y. Shares o (underlying_of y.contract)) (λ y a. a.1) row h.0) (underlying_found row h.1) in
    (f.0, (f.1, f.2))

root_found : (row : List Leg) → Pairs row → (r : Root) × AllByRecursion (OfIt r) row
root_found [] h = (root_of no_leg.contract, tt)
root_found (x ∷ row) h = (root_of x.contract, (refl, All-weaker (Alike x) (OfIt (root_of x.contract)) (λ y a. sym a.0) row h.0))

module _ (r : Root) (u : Underlying) where
  share : (x y : Option Underlying) → IfSome x (λ v. v ≡ u) → IfSome y (λ v. v ≡ u) → Shares x y
  share None y p q = tt
  share (Some v) None p q = tt
  share (Some v) (Some w) p q = p ∙ sym q

  all_alike : (x : Leg) → OfIt r x → OnIt u x → (row : List Leg) → AllByRecursion (OfIt r) row → AllByRecursion (OnIt u) row → AllByRecursion (Alike x) row
  all_alike x p q [] ps qs = tt
  all_alike x p q (y ∷ row) ps qs = ((p ∙ sym ps.0, share (underlying_of x.contract) (underlying_of y.contract) q qs.0), all_alike x p q row ps.1 qs.1)

  pairs : (row : List Leg) → AllByRecursion (OfIt r) row → AllByRecursion (OnIt u) row → Pairs row
  pairs [] ps qs = tt
  pairs (x ∷ row) ps qs = (all_alike x ps.0 qs.0 row ps.1 qs.1, pairs row ps.1 qs.1)

market_decides : (row : List Leg) → Decides (all_agree row) (OneMarket row)
market_decides row =
    Decides-like _
    (λ h.
    let r = root_found row h in
    let u = underlying_found row h in
    record { root = r.0; underlying = u.0; of_root = r.1; on_underlying = u.1 })
    (λ m. pairs m.root m.underlying row m.of_root m.on_underlying)
    (pairs_decides row)

mark_decides : (marked : Bool) (row : List Leg) → Decides (mark_kept marked row) (marked ≡ true → OneMarket row)
mark_decides false row = (λ _. λ e. absurd (false≢true e), λ _. refl)
mark_decides true row = (λ e. λ _. (market_decides row).0 e, λ h. (market_decides row).1 (h refl))

compared_decides : (c : Comparison) (x y : Option ℕ) → Decides (is_some_and (allows c) (ordered x y)) (Compared x c y)
compared_decides c None y = (λ e. absurd (false≢true e), λ h. absurd h)
compared_decides c (Some x) None = (λ e. absurd (false≢true e), λ h. absurd h)
compared_decides c (Some x) (Some y) = allows_decides c x y

even_decides : (x y z : Option ℕ) → Decides (steps_even x y z) (Evenly x y z)
even_decides None y z = (λ e. absurd (false≢true e), λ h. absurd h)
even_decides (Some x) None z = (λ e. absurd (false≢true e), λ h. absurd h)
even_decides (Some x) (Some y) None = (λ e. absurd (false≢true e), λ h. absurd h)
even_decides (Some x) (Some y) (Some z) = half_decides x y z

holds_decides : (row : List Leg) (x : Relation) → Decides (relation_holds row x) (Holds row x)
holds_decides row (Compare on first comparison second) = compared_decides comparison (read_role row on first) (read_role row on second)
holds_decides row (EvenSteps on first second third) = even_decides (read_role row on first) (read_role row on second) (read_role row on third)

accepts_decides : (rule : Rule) (row : List Leg) → Decides (accepts rule row) (Meets rule row)
accepts_decides rule row =
    Decides-like _
    (λ h. record { roles = h.0.0; mark = h.0.1; relations = h.1 })
    (λ m. ((m.roles, m.mark), m.relations))
    (Decides-and _ _
    (Decides-and _ _ (played_decides rule.roles row) (mark_decides rule.marked row))
    (list_all_decides (relation_holds row) (Holds row) (holds_decides row) rule.relations))

-- an entry fits a row exactly where the row meets the record
pub fits_decides : (rule : Rule) (row : List Leg) → Decides (suits (meaning rule) row) (Meets rule row)
fits_decides rule row =
    let d = accepts_decides rule row in
    let long = nat_eq (length row) (length rule.roles) in (
      λ e. d.0 (and_parts long (accepts rule row) e).1,
      λ m. and_from long (accepts rule row) (eq-eqb (length row) (length rule.roles) (AllZip-long Plays rule.roles row m.roles)) (d.1 m),
    )
