-- The seatings are all the permutations, in rising order. Assumes nothing.
use Rattle.std.proofs.Common.{◌≡◌, ℕ, zero, suc, ◌+◌, ◌<◌, ◌≤◌, Bool, true, false, not, ◌&&◌, List, [], ◌∷◌, ◌++◌, map, length, sym, refl, ap, ◌∙◌, subst, inl, inr, ⊎_elim, arith}
use Rattle.std.specs.List.{flat_map, AllByRecursion, list_all}
use Rattle.std.proofs.ByRecursion.{All-weaker}
use Rattle.std.proofs.lemmas.Bool.{and_parts, not-true, cases_eq}
use Rattle.catalogue.specs.Seatings.{numbers, Pick, picks, orders, seatings, Permutation, Distinct, In, RisingOrder, Complete, before}
use Rattle.catalogue.proofs.Checks.{all_every}
use Rattle.catalogue.proofs.Seats.{by_legs, all_seated, Good}

pub in_map : {X Y : Type 0} (f : X → Y) (x : X) (xs : List X) → In x xs → In (f x) (map f xs)
in_map f x [] h = h
in_map f x (y ∷ ys) h = ⊎_elim (λ e. inl (ap f e)) (λ k. inr (in_map f x ys k)) h

pub in_left : {X : Type 0} (x : X) (xs ys : List X) → In x xs → In x (xs ++ ys)
in_left x [] ys h = absurd h
in_left x (y ∷ xs) ys h = ⊎_elim (λ e. inl e) (λ k. inr (in_left x xs ys k)) h

pub in_right : {X : Type 0} (x : X) (xs ys : List X) → In x ys → In x (xs ++ ys)
in_right x [] ys h = h
in_right x (y ∷ xs) ys h = inr (in_right x xs ys h)

pub in_joined : {X Y : Type 0} (f : X → List Y) (x : X) (y : Y) (xs : List X) → In x xs → In y (f x) → In y (flat_map f xs)
in_joined f x y [] h k = absurd h
in_joined f x y (z ∷ xs) h k =
    ⊎_elim (λ e. in_left y (f z) (flat_map f xs) (subst (λ w. In y (f w)) e k)) (λ i. in_right y (f z) (flat_map f xs) (in_joined f x y xs i k)) h

pub all_in : {X : Type 0} (P : X → Type 0) (x : X) (xs : List X) → AllByRecursion P xs → In x xs → P x
all_in P x [] a h = absurd h
all_in P x (y ∷ ys) a h = ⊎_elim (λ e. subst P (sym e) a.0) (λ k. all_in P x ys a.1 k) h

pub in_numbers : (m a k : ℕ) → a ≤ k → k < a + m → In k (numbers a m)
in_numbers zero a k low high = absurd (omega arith)
in_numbers (suc m) a k low high = ⊎_elim (λ e. inl e) (λ n. inr (in_numbers m (suc a) k (omega arith) (omega arith))) (cases_eq k a)

-- each number of a list can be taken out of it, and leaves the others
pub record Taken (y : ℕ) (xs : List ℕ) : Type 0 where
  pub pick : Pick
  pub among : In pick (picks xs)
  pub is : pick.taken ≡ y
  pub others : (k : ℕ) → In k xs → (y ≡ k → ⊥) → In k pick.left

abbrev under : ℕ → Pick → Pick
under x p = record { taken = p.taken; left = x ∷ p.left }

take_out : (y : ℕ) (xs : List ℕ) → In y xs → Taken y xs
take_out y [] h = absurd h
take_out y (x ∷ xs) h =
    ⊎_elim
    (λ e. record {
      pick = record { taken = x; left = xs };
      among = inl refl;
      is = sym e;
      others = λ k i ne. ⊎_elim (λ kx. absurd (ne (e ∙ sym kx))) (λ j. j) i;
    })
    (λ i. let t = take_out y xs i in record {
      pick = under x t.pick;
      among = inr (in_map (under x) t.pick (picks xs) t.among);
      is = t.is;
      others = λ k j ne. ⊎_elim (λ kx. inl kx) (λ l. inr (t.others k l ne)) j;
    })
    h

both : {X : Type 0} (P Q R : X → Type 0) → ((x : X) → P x → Q x → R x) → (xs : List X) → AllByRecursion P xs → AllByRecursion Q xs → AllByRecursion R xs
both P Q R f [] p q = tt
both P Q R f (x ∷ xs) p q = (f x p.0 q.0, both P Q R f xs p.1 q.1)

pub orders_whole : (m : ℕ) (xs s : List ℕ) → length s ≡ m → AllByRecursion (λ k. In k xs) s → Distinct s → In s (orders m xs)
orders_whole zero xs [] e a d = inl refl
orders_whole zero xs (y ∷ s) e a d = absurd (omega arith)
orders_whole (suc m) xs [] e a d = absurd (omega arith)
orders_whole (suc m) xs (y ∷ s) e a d =
    let t = take_out y xs a.0 in
    let rest : AllByRecursion (λ k. In k t.pick.left) s = both (λ k. In k xs) (λ k. y ≡ k → ⊥) (λ k. In k t.pick.left) (λ k i ne. t.others k i ne) s a.1 d.0 in
    let inner = orders_whole m t.pick.left s (omega arith) rest d.1 in
    let here : In (y ∷ s) (map (λ z. t.pick.taken ∷ z) (orders m t.pick.left)) = subst (λ v. In (v ∷ s) (map (λ z. t.pick.taken ∷ z) (orders m t.pick.left))) t.is (in_map (λ z. t.pick.taken ∷ z) s (orders m t.pick.left) inner) in
    in_joined (λ p. map (λ z. p.taken ∷ z) (orders m p.left)) t.pick (y ∷ s) (picks xs) t.among here

pub seatings_whole : (n : ℕ) (s : List ℕ) → Permutation n s → In s (seatings n)
unfolding seatings
seatings_whole n s p =
    orders_whole n (numbers 1 n) s p.long (All-weaker (λ k. (1 ≤ k) × (k ≤ n)) (λ k. In k (numbers 1 n)) (λ k h. in_numbers n 1 k h.0 (omega arith)) s p.legs) p.distinct

rises : List (List ℕ) → Bool
rises [] = true
rises (s ∷ ss) = list_all (λ z. before s z && not (before z s)) ss && rises ss

rises_true : (ss : List (List ℕ)) → rises ss ≡ true → RisingOrder ss
unfolding rises
rises_true [] t = tt
rises_true (s ∷ ss) t =
    let h = and_parts (list_all (λ z. before s z && not (before z s)) ss) (rises ss) t in (
      all_every (λ z. before s z && not (before z s)) (λ z. (before s z ≡ true) × (before z s ≡ false)) (λ z u. let v = and_parts (before s z) (not (before z s)) u in (v.0, not-true (before z s) v.1)) ss h.0,
      rises_true ss h.1,
    )

all_rise : (n : ℕ) → 2 ≤ n → n ≤ 4 → rises (seatings n) ≡ true
unfolding seatings rises
all_rise = by_legs (λ n. rises (seatings n) ≡ true) refl refl refl

pub complete : (n : ℕ) → 2 ≤ n → n ≤ 4 → Complete n
complete n low high = record {
  sound = λ s i. (all_in (Good n) s (seatings n) (all_seated n low high) i).1;
  whole = seatings_whole n;
  rising = rises_true (seatings n) (all_rise n low high);
}
