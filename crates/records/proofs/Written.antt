-- What is written of a record is read back as it. Assumes nothing.
use Rattle.std.proofs.Common.{◌≡◌, ℕ, ◌^◌, ◌<◌, Bool, true, false, List, [], ◌∷◌, ◌++◌, map, Ok, Err, codes, decimal, Result, sym, refl, ap, ◌∙◌, subst, append_assoc, append-nil, arith}
use Rattle.std.specs.List.{AllByRecursion, AllZip}
use Rattle.std.proofs.lemmas.Bool.{cond-true, cond-false, ne_eqb}
use Rattle.contracts.specs.Letters.{side_text, kind_text}
use Rattle.contracts.specs.declared.contract.Kind.{Kind}
use Rattle.contracts.specs.declared.contract.Kind.TheVariants.{Future, Call, Put}
use Rattle.contracts.specs.declared.plain.Side.{Side}
use Rattle.contracts.specs.declared.plain.Side.TheVariants.{Bought, Sold}
use Rattle.notation.specs.Spelling.{Digits}
use Rattle.notation.proofs.Back.{number_written}
use Rattle.notation.specs.Words.{space, onto, words}
use Rattle.sheet.specs.Letters.{aspect_text, comparison_text}
use Rattle.sheet.specs.Rules.{Rule}
use Rattle.sheet.specs.Writing.{role_text, relation_text}
use Rattle.sheet.specs.declared.record.Aspect.{Aspect}
use Rattle.sheet.specs.declared.record.Aspect.TheVariants.{Strike, Month}
use Rattle.sheet.specs.declared.record.Comparison.{Comparison}
use Rattle.sheet.specs.declared.record.Comparison.TheVariants.{Before, Same, After, Different}
use Rattle.sheet.specs.declared.record.Record.{Record}
use Rattle.sheet.specs.declared.record.Relation.{Relation}
use Rattle.sheet.specs.declared.record.Relation.TheVariants.{Compare, EvenSteps}
use Rattle.sheet.specs.declared.record.Role.{Role}
use Rattle.records.specs.Letters.{mark_text}
use Rattle.records.specs.Reading.{ReadAs}
use Rattle.records.specs.Spelling.{RoleSpelled, RelationSpelled, RecordSpelled}
use Rattle.records.specs.Writing.{spaced, record_text, RelationFits, Writable, ReadBack}
use Rattle.records.specs.declared.trouble.Unread.{Unread}
use Rattle.records.specs.declared.trouble.Unread.TheVariants.{Trouble, NoMemory}
use Rattle.records.proofs.Spelled.{record_at}

-- no character is a space
abbrev Solid : List ℕ → Type 0
Solid text = AllByRecursion (λ c. space c ≡ false) text

-- nothing, or a space first
abbrev Blank : List ℕ → Type 0
Blank [] = Unit {0}
Blank (c ∷ text) = space c ≡ true

-- one character at least, and no space
abbrev Word : List ℕ → Type 0
Word [] = ⊥
Word (c ∷ text) = Solid (c ∷ text)

solid_both : (a b : List ℕ) → Solid a → Solid b → Solid (a ++ b)
solid_both [] b h k = k
solid_both (c ∷ a) b h k = (h.0, solid_both a b h.1 k)

solid_digits : (text : List ℕ) → Digits text → Solid text
solid_digits [] d = tt
solid_digits (c ∷ text) d = let low = d.0 in (ne_eqb c 32 (λ e. omega arith), solid_digits text d.2)

solid_number : (n : ℕ) → n < 2 ^ 32 → Solid (decimal n)
solid_number n small = solid_digits (decimal n) (number_written n small).digits

one_word : (w rest : List ℕ) → Word w → Blank rest → words (w ++ rest) ≡ w ∷ words rest
one_word [] rest h b = absurd h
one_word (c ∷ []) [] h b = cond-false (space c) _ _ h.0
one_word (c ∷ []) (d ∷ rest) h b = cond-false (space c) _ _ h.0 ∙ cond-true (space d) _ _ b
one_word (c ∷ d ∷ w) rest h b = cond-false (space c) _ _ h.0 ∙ cond-false (space d) _ _ h.1.0 ∙ ap (onto c) (one_word (d ∷ w) rest h.1 b)

-- each has a text that is one word
abbrev EachWord : {X : Type 0} → (X → List ℕ) → List X → Type 0
EachWord text xs = AllByRecursion (λ x. Word (text x)) xs

spaced_blank : {X : Type 0} (text : X → List ℕ) (xs : List X) (behind : List ℕ) → Blank behind → Blank (spaced text xs ++ behind)
spaced_blank text [] behind b = b
spaced_blank text (x ∷ xs) behind b = refl

spaced_words : {X : Type 0} (text : X → List ℕ) (xs : List X) (behind : List ℕ) → EachWord text xs → Blank behind → words (spaced text xs ++ behind) ≡ map text xs ++ words behind
spaced_words text [] behind h b = refl
spaced_words text (x ∷ xs) behind h b =
    ap words (append_assoc (text x) (spaced text xs) behind)
    ∙ one_word (text x) (spaced text xs ++ behind) h.0 (spaced_blank text xs behind b)
    ∙ ap (λ (ws : List (List ℕ)). text x ∷ ws) (spaced_words text xs behind h.1 b)

-- the texts of roles and relations are words
kind_solid : (kind : Kind) → Solid (kind_text kind)
kind_solid Future = (refl, tt)
kind_solid Call = (refl, tt)
kind_solid Put = (refl, tt)

comparison_solid : (k : Comparison) → Solid (comparison_text k)
comparison_solid Before = (refl, tt)
comparison_solid Same = (refl, tt)
comparison_solid After = (refl, tt)
comparison_solid Different = (refl, tt)

side_word : (side : Side) (text : List ℕ) → Solid text → Word (side_text side ++ text)
side_word Bought text h = (refl, h)
side_word Sold text h = (refl, h)

aspect_word : (aspect : Aspect) (text : List ℕ) → Solid text → Word (aspect_text aspect ++ (codes ":" ++ text))
aspect_word Strike text h = (refl, (refl, h))
aspect_word Month text h = (refl, (refl, h))

mark_word : (b : Bool) → Word (mark_text b)
mark_word true = (refl, tt)
mark_word false = (refl, tt)

role_word : (role : Role) → role.ratio < 2 ^ 32 → Word (role_text role)
role_word role small = side_word role.side _ (solid_both (decimal role.ratio) _ (solid_number role.ratio small) (kind_solid role.kind))

relation_word : (relation : Relation) → RelationFits relation → Word (relation_text relation)
relation_word (Compare aspect n k m) h =
    aspect_word aspect _ (solid_both (decimal n) _ (solid_number n h.0) (solid_both (comparison_text k) _ (comparison_solid k) (solid_number m h.1)))
relation_word (EvenSteps aspect n m k) h =
    aspect_word aspect _
    (solid_both (decimal n) _ (solid_number n h.0) (refl, solid_both (decimal m) _ (solid_number m h.1) (refl, solid_number k h.2)))

-- and spell them
role_written : (role : Role) → role.ratio < 2 ^ 32 → RoleSpelled role (role_text role)
role_written role small = (decimal role.ratio, number_written role.ratio small, refl)

relation_written : (relation : Relation) → RelationFits relation → RelationSpelled relation (relation_text relation)
relation_written (Compare aspect n k m) h = (decimal n, decimal m, number_written n h.0, number_written m h.1, refl)
relation_written (EvenSteps aspect n m k) h =
    (decimal n, decimal m, decimal k, number_written n h.0, number_written m h.1, number_written k h.2, refl)

-- so do those of all of them
module _ {X : Type 0} (text : X → List ℕ) (Fits : X → Type 0) where
  each_word : ((x : X) → Fits x → Word (text x)) → (xs : List X) → AllByRecursion Fits xs → EachWord text xs
  each_word word [] h = tt
  each_word word (x ∷ xs) h = (word x h.0, each_word word xs h.1)

  each_written : (Spelled : X → List ℕ → Type 0) → ((x : X) → Fits x → Spelled x (text x)) → (xs : List X) → AllByRecursion Fits xs → AllZip Spelled xs (map text xs)
  each_written Spelled written [] h = tt
  each_written Spelled written (x ∷ xs) h = (written x h.0, each_written Spelled written xs h.1)

pub record_written : (rule : Rule) → Writable rule → RecordSpelled rule (words (record_text rule))
unfolding record_text
record_written rule h =
    let t = rule.strategy.first ∷ rule.strategy.second ∷ [] in
    let some = spaced relation_text rule.relations in
    let behind : Blank some = subst Blank (append-nil some) (spaced_blank relation_text rule.relations [] tt) in
    let small = λ (role : Role). role.ratio < 2 ^ 32 in
    let relations : words some ≡ map relation_text rule.relations =
    ap words (sym (append-nil some)) ∙ spaced_words relation_text rule.relations [] (each_word relation_text RelationFits relation_word rule.relations h.relations) tt ∙ append-nil _ in
    record {
      role_words = map role_text rule.roles;
      relation_words = map relation_text rule.relations;
      roles_are = each_written role_text small RoleSpelled role_written rule.roles h.roles;
      relations_are = each_written relation_text RelationFits RelationSpelled relation_written rule.relations h.relations;
      all =
          one_word t (codes " " ++ (mark_text rule.marked ++ (spaced role_text rule.roles ++ some))) (h.first, (h.second, tt)) refl
          ∙ ap (λ (ws : List (List ℕ)). t ∷ ws)
          (one_word (mark_text rule.marked) _ (mark_word rule.marked) (spaced_blank role_text rule.roles some behind)
          ∙ ap (λ (ws : List (List ℕ)). mark_text rule.marked ∷ ws)
          (spaced_words role_text rule.roles some (each_word role_text small role_word rule.roles h.roles) behind
          ∙ ap (λ (ws : List (List ℕ)). map role_text rule.roles ++ ws) relations));
    }

-- so a text that was written is read back
pub told_back : (text : List ℕ) (r : Result Record Unread) → ReadAs (words text) r → ReadBack text r
told_back text (Ok rec) e = λ rule h is. let at = record_at rule (words (record_text rule)) (record_written rule h) in cc
told_back text (Err (Trouble t)) e = λ rule h is. let at = record_at rule (words (record_text rule)) (record_written rule h) in absurd cc
told_back text (Err NoMemory) e = tt
