-- What the first of a list that passes says of the others. Assumes nothing.
use Rattle.std.proofs.Common.{◌≡◌, ℕ, zero, suc, ◌+◌, ◌<◌, ◌≤◌, Bool, true, false, ◌&&◌, eqb, ltb, List, [], ◌∷◌, map, Some, None, Option, sym, refl, ap, ◌∙◌, subst, inl, inr, ⊎_elim, arith}
use Rattle.std.specs.List.{find, flat_map}
use Rattle.std.specs.Option.{option_or}
use Rattle.std.proofs.lemmas.List.Folds.{find-append}
use Rattle.std.proofs.lemmas.Bool.{cases_Bool, cond-true, cond-false, cases_eq, both_ways, or_from, le-ltb, and_right}
use Rattle.catalogue.specs.Seatings.{numbers, In, RisingOrder, before}
use Rattle.catalogue.proofs.Perms.{all_in}

irreflexive : (s : List ℕ) → before s s ≡ false
irreflexive [] = refl
irreflexive (x ∷ s) = or_from (ltb x x) (eqb x x && before s s) (le-ltb x x (omega arith)) (and_right (eqb x x) (before s s) (irreflexive s))

module _ {X : Type 0} (p : X → Bool) where
  module _ (f : ℕ → List X) where
    pub record Found (a m : ℕ) (x : X) : Type 0 where
      pub at : ℕ
      pub low : a ≤ at
      pub high : at < a + m
      pub is : find p (f at) ≡ Some x
      pub none_before : (k : ℕ) → a ≤ k → k < at → find p (f k) ≡ None

    some_step : (a m : ℕ) (x : X) (o : Option X) → find p (f a) ≡ o → option_or o (find p (flat_map f (numbers (suc a) m))) ≡ Some x → (find p (flat_map f (numbers (suc a) m)) ≡ Some x → Found (suc a) m x) → Found a (suc m) x
    some_step a m x (Some y) here e rest = record { at = a; low = omega arith; high = omega arith; is = here ∙ e; none_before = λ k l h. absurd (omega arith) }
    some_step a m x None here e rest =
        let r = rest e in
        record {
          at = r.at;
          low = let h = r.low in omega arith;
          high = let h = r.high in omega arith;
          is = r.is;
          none_before = λ k l h. ⊎_elim (λ (ka : k ≡ a). subst (λ (i : ℕ). find p (f i) ≡ None) (sym ka) here) (λ ne. r.none_before k (omega arith) h) (cases_eq k a);
        }

    pub numbers_some : (m a : ℕ) (x : X) → find p (flat_map f (numbers a m)) ≡ Some x → Found a m x
    numbers_some zero a x e = cc
    numbers_some (suc m) a x e =
        some_step a m x (find p (f a)) refl (sym (find-append p (f a) (flat_map f (numbers (suc a) m))) ∙ e) (numbers_some m (suc a) x)

    none_step : (a m : ℕ) (o : Option X) → find p (f a) ≡ o → option_or o (find p (flat_map f (numbers (suc a) m))) ≡ None → (find p (f a) ≡ None) × (find p (flat_map f (numbers (suc a) m)) ≡ None)
    none_step a m None here e = (here, e)
    none_step a m (Some y) here e = cc

    pub numbers_none : (m a : ℕ) → find p (flat_map f (numbers a m)) ≡ None → (k : ℕ) → a ≤ k → k < a + m → find p (f k) ≡ None
    numbers_none zero a e k low high = absurd (omega arith)
    numbers_none (suc m) a e k low high =
        let h = none_step a m (find p (f a)) refl (sym (find-append p (f a) (flat_map f (numbers (suc a) m))) ∙ e) in
        ⊎_elim (λ (ka : k ≡ a). subst (λ (i : ℕ). find p (f i) ≡ None) (sym ka) h.0) (λ ne. numbers_none m (suc a) h.1 k (omega arith) (omega arith)) (cases_eq k a)

  module _ (g : List ℕ → X) where
    pub record Seat (ss : List (List ℕ)) (x : X) : Type 0 where
      pub at : List ℕ
      pub among : In at ss
      pub is : g at ≡ x
      pub passes : p (g at) ≡ true
      pub none_before : (z : List ℕ) → In z ss → before z at ≡ true → p (g z) ≡ false

    pub seats_some : (ss : List (List ℕ)) (x : X) → RisingOrder ss → find p (map g ss) ≡ Some x → Seat ss x
    seats_some [] x r e = cc
    seats_some (s ∷ ss) x r e =
        ⊎_elim
        (λ t. record {
          at = s;
          among = inl refl;
          is = let q = sym (cond-true (p (g s)) (Some (g s)) (find p (map g ss)) t) ∙ e in cc;
          passes = t;
          none_before = λ z i b. ⊎_elim (λ (zs : z ≡ s). absurd (both_ways (before z s) (ap (λ y. before y s) zs ∙ irreflexive s) b)) (λ j. absurd (both_ways (before z s) (all_in _ z ss r.0 j).1 b)) i;
        })
        (λ f. let q = seats_some ss x r.1 (sym (cond-false (p (g s)) (Some (g s)) (find p (map g ss)) f) ∙ e) in record {
          at = q.at;
          among = inr q.among;
          is = q.is;
          passes = q.passes;
          none_before = λ z i b. ⊎_elim (λ (zs : z ≡ s). subst (λ (y : List ℕ). p (g y) ≡ false) (sym zs) f) (λ j. q.none_before z j b) i;
        })
        (cases_Bool (p (g s)))

    pub seats_none : (ss : List (List ℕ)) → find p (map g ss) ≡ None → (z : List ℕ) → In z ss → p (g z) ≡ false
    seats_none [] e z i = absurd i
    seats_none (s ∷ ss) e z i =
        ⊎_elim
        (λ t. let q = sym (cond-true (p (g s)) (Some (g s)) (find p (map g ss)) t) ∙ e in cc)
        (λ f. ⊎_elim (λ (zs : z ≡ s). subst (λ (y : List ℕ). p (g y) ≡ false) (sym zs) f) (λ j. seats_none ss (sym (cond-false (p (g s)) (Some (g s)) (find p (map g ss)) f) ∙ e) z j) i)
        (cases_Bool (p (g s)))
