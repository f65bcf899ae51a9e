-- A record is read just where its words spell it. Assumes nothing.
use Rattle.std.proofs.Common.{◌≡◌, ℕ, ◌+◌, List, [], ◌∷◌, ◌++◌, length, Some, None, Ok, Err, Option, Result, refl, ap, subst}
use Rattle.std.specs.List.{AllZip}
use Rattle.std.specs.Option.{ok_or}
use Rattle.sheet.specs.Rules.{Rule, rule_of}
use Rattle.sheet.specs.declared.record.Record.{Record}
use Rattle.sheet.specs.declared.record.Relation.{Relation}
use Rattle.sheet.specs.declared.record.Role.{Role}
use Rattle.records.specs.Reading.{followed, role_first, take_roles, read_relations, read_record, ReadAs}
use Rattle.records.specs.Spelling.{RoleSpelled, RelationSpelled, RecordSpelled, ReadSpelled}
use Rattle.records.specs.Terms.{read_type, read_mark, read_role, read_relation}
use Rattle.records.specs.declared.trouble.RecordTrouble.{RecordTrouble}
use Rattle.records.specs.declared.trouble.Unread.{Unread}
use Rattle.records.specs.declared.trouble.Unread.TheVariants.{Trouble, NoMemory}
use Rattle.records.proofs.Row.{Taken}
use Rattle.records.proofs.Terms.{type_past, mark_past, mark_at, role_past, role_at, relation_past, relation_at, relation_no_role}

-- where all the parts are read, each is
followed_ways : {X Y : Type 0} (r : Result X RecordTrouble) (next : X → Result Y RecordTrouble) (y : Y) → followed r next ≡ Ok y → (x : X) × (r ≡ Ok x) × (next x ≡ Ok y)
followed_ways (Ok x) next y e = (x, refl, e)
followed_ways (Err t) next y e = absurd cc

some_part : {X : Type 0} (o : Option X) (t : RecordTrouble) (x : X) → ok_or o t ≡ Ok x → o ≡ Some x
some_part (Some y) t x e = cc
some_part None t x e = absurd cc

pub ok_same : {X : Type 0} {x y : X} → ◌≡◌ {A = Result X RecordTrouble} (Ok x) (Ok y) → x ≡ y
ok_same e = cc

-- the words of the roles that are taken
abbrev RolesOf : List (List ℕ) → Taken → Type 0
RolesOf ws got = (front : List (List ℕ)) × AllZip RoleSpelled got.0 front × (ws ≡ front ++ got.1)

taken_step : (w : List ℕ) (ws : List (List ℕ)) (o : Option Role) → read_role w ≡ o → RolesOf ws (take_roles ws) → RolesOf (w ∷ ws) (role_first (w ∷ ws) o (take_roles ws))
taken_step w ws (Some role) e (front, roles, all) = (w ∷ front, (role_past w role e, roles), ap (λ (r : List (List ℕ)). w ∷ r) all)
taken_step w ws None e h = ([], tt, refl)

taken_roles : (ws : List (List ℕ)) → RolesOf ws (take_roles ws)
taken_roles [] = ([], tt, refl)
taken_roles (w ∷ ws) = taken_step w ws (read_role w) refl (taken_roles ws)

-- before relations
roles_stop : (relations : List Relation) (behind : List (List ℕ)) → AllZip RelationSpelled relations behind → take_roles behind ≡ ([], behind)
roles_stop [] [] h = refl
roles_stop [] (w ∷ ws) h = absurd h
roles_stop (relation ∷ relations) [] h = absurd h
roles_stop (relation ∷ relations) (w ∷ ws) h = rw (relation_no_role relation w h.0) refl

roles_at : (roles : List Role) (front : List (List ℕ)) (relations : List Relation) (behind : List (List ℕ)) → AllZip RoleSpelled roles front → AllZip RelationSpelled relations behind → take_roles (front ++ behind) ≡ (roles, behind)
roles_at [] [] relations behind h k = roles_stop relations behind k
roles_at [] (w ∷ front) relations behind h k = absurd h
roles_at (role ∷ roles) [] relations behind h k = absurd h
roles_at (role ∷ roles) (w ∷ front) relations behind h k = rw (role_at role w h.0, roles_at roles front relations behind h.1 k) refl

relations_past : (word : ℕ) (ws : List (List ℕ)) (relations : List Relation) → read_relations word ws ≡ Ok relations → AllZip RelationSpelled relations ws
relations_past word [] relations e = subst (λ (l : List Relation). AllZip RelationSpelled l []) (ok_same e) tt
relations_past word (w ∷ ws) relations e =
    let a = followed_ways (ok_or (read_relation w) _) _ relations e in
    let b = followed_ways (read_relations (word + 1) ws) _ relations a.2 in
    subst (λ (l : List Relation). AllZip RelationSpelled l (w ∷ ws)) (ok_same b.2)
    (relation_past w a.0 (some_part (read_relation w) _ a.0 a.1), relations_past (word + 1) ws b.0 b.1)

relations_at : (word : ℕ) (relations : List Relation) (ws : List (List ℕ)) → AllZip RelationSpelled relations ws → read_relations word ws ≡ Ok relations
relations_at word [] [] h = refl
relations_at word [] (w ∷ ws) h = absurd h
relations_at word (relation ∷ relations) [] h = absurd h
relations_at word (relation ∷ relations) (w ∷ ws) h = rw (relation_at relation w h.0, relations_at (word + 1) relations ws h.1) refl

pub record_past : (ws : List (List ℕ)) (rule : Rule) → read_record ws ≡ Ok rule → RecordSpelled rule ws
unfolding read_record
record_past [] rule e = absurd cc
record_past (t ∷ []) rule e = let a = followed_ways (ok_or (read_type t) _) _ rule e in let none = a.2 in absurd cc
record_past (t ∷ m ∷ ws) rule e =
    let a = followed_ways (ok_or (read_type t) _) _ rule e in
    let b = followed_ways (ok_or (read_mark m) _) _ rule a.2 in
    let got = take_roles ws in
    let k = followed_ways (read_relations (length got.0 + 3) got.1) _ rule b.2 in
    let (front, roles, all) = taken_roles ws in
    let type-is = type_past t a.0 (some_part (read_type t) _ a.0 a.1) in
    let mark-is = mark_past m b.0 (some_part (read_mark m) _ b.0 b.1) in
    subst (λ (r : Rule). RecordSpelled r (t ∷ m ∷ ws)) (ok_same k.2)
    (record { role_words = front; relation_words = got.1; roles_are = roles; relations_are = relations_past (length got.0 + 3) got.1 k.0 k.1; all = cc })

pub record_at : (rule : Rule) (ws : List (List ℕ)) → RecordSpelled rule ws → read_record ws ≡ Ok rule
unfolding read_record
record_at rule ws h =
    rw (
      h.all,
      mark_at rule.marked,
      roles_at rule.roles h.role_words rule.relations h.relation_words h.roles_are h.relations_are,
      relations_at (length rule.roles + 3) rule.relations h.relation_words h.relations_are,
    )
    refl

-- what is told of a record's words is what they spell
pub told_spelled : (ws : List (List ℕ)) (r : Result Record Unread) → ReadAs ws r → ReadSpelled ws r
told_spelled ws (Ok rec) e = (record_past ws (rule_of rec) e, λ rule h. let at = record_at rule ws h in cc)
told_spelled ws (Err (Trouble t)) e = λ rule h. let at = record_at rule ws h in absurd cc
told_spelled ws (Err NoMemory) e = tt
