-- The kept entries, and the shards after they advance to the end of the list.
use Rattle.std.proofs.Common.{◌≡◌, ℕ, zero, suc, ◌+◌, ◌-◌, ◌<◌, ◌≤◌, Bool, false, cond, Some, List, [], ◌∷◌, length, map, drop, take, ◌++◌, nat_lt, slice_get, get_or, refl, sym, ap, ◌∙◌, subst, arith, length-drop}
use Rattle.std.specs.Prelude.{count_by}
use Rattle.std.proofs.lemmas.{Bool.le-ltb, List.get_or-drop, List.take-append-le, List.take_all, List.Sums.sum_by-cons}
use Rattle.std.proofs.lemmas.Option.{get_or_from_slice_get, slice_get-get_or, slice_get_read, slice_get_within}
use Rattle.bx_history.proofs.Elements.{mapped}
use Rattle.bx_advice.specs.Limits.{greatest_length}
use Rattle.bx_entry.specs.Words.{Listed, entries}
use Rattle.bx_entry.specs.declared.entry.Entry.{Entry}
use Rattle.bx_shard.specs.Words.{Setup, takes_no_memory}
use Rattle.bx_shard.specs.declared.shard.Shard.{Shard}
use Rattle.bx_shard.specs.Upward.{AreConsecutive, AreOf, AreWithin, BroughtUp, WentOn, count_behind, end_of, first_of, is_behind}
use Rattle.bx_world.specs.Words.{EachRefines, RefinesFrom, WorldHolds}
use Rattle.bx_theory.proofs.{Lists.entries_length, Lists.place_within, Verdicts.entry_placed}

-- ---- lists

drop_get : {X : Type 0} (n : ℕ) (xs : List X) (k : ℕ) → slice_get (drop n xs) k ≡ slice_get xs (n + k)
drop_get zero xs k = grind arith
drop_get (suc n) [] k = grind arith
drop_get (suc n) (x ∷ xs) k = grind (arith, drop_get n xs k)

count_cons : {X : Type 0} (p : X → Bool) (x : X) (xs : List X) → count_by p (x ∷ xs) ≡ cond (p x) 1 0 + count_by p xs
count_cons {X} p x xs = sum_by-cons (λ (y : X). cond (p y) 1 0) x xs

count_alike : {X : Type 0} (p : X → Bool) (q : ℕ → Bool) (f : X → ℕ) (xs : List X) → ((k : ℕ) (x : X) → slice_get xs k ≡ Some x → p x ≡ q (f x)) → count_by p xs ≡ count_by q (map f xs)
count_alike p q f [] same = refl
count_alike p q f (x ∷ xs) same =
    count_cons p x xs ∙ ap (λ (b : Bool). cond b 1 0 + count_by p xs) (same 0 x refl)
    ∙ ap (λ (n : ℕ). cond (q (f x)) 1 0 + n) (count_alike p q f xs (λ k y e. same (suc k) y e)) ∙ sym (count_cons q (f x) (map f xs))

-- ---- the kept entries

abbrev StandAt : ℕ → List Entry → Type 0
StandAt first es = (k : ℕ) (e : Entry) → slice_get es k ≡ Some e → e.place ≡ first + k

first_place : (first : ℕ) (es : List Entry) → StandAt first es → 0 < length es → first_of es ≡ first
first_place first [] each some = absurd (omega (arith, some))
first_place first (e ∷ es) each some = let p : e.place ≡ first + 0 = each 0 e refl in omega (arith, p)

module _ {P : Type 0} {place_of : P → ℕ → ℕ → ℕ} {setup : Setup} {list : List Listed} {taken : List ℕ} {first : ℕ} {kept : List Entry} {xs : List (Shard P)} (h : WorldHolds place_of setup list taken first kept xs) where
  abbrev all : List Entry
  all = entries setup.config list

  kept_there : (k : ℕ) (e : Entry) → slice_get kept k ≡ Some e → slice_get all (first + k) ≡ Some e
  kept_there k e there = sym (drop_get first all k) ∙ ap (λ (es : List Entry). slice_get es k) (sym h.kept_is) ∙ there

  kept_stand : StandAt first kept
  kept_stand k e there = entry_placed setup.config list (first + k) e (kept_there k e there)

  pub kept_long : length kept ≡ length list - first
  kept_long = ap (λ (es : List Entry). length es) h.kept_is ∙ length-drop first all ∙ ap (λ (n : ℕ). n - first) (entries_length setup.config list)

  kept_first : 0 < length kept → first_of kept ≡ first
  kept_first some = first_place first kept kept_stand some

  kept_end : 0 < length kept → end_of kept ≡ length list
  kept_end some = omega (arith, kept_first some, kept_long, some)

  pub kept_consecutive : AreConsecutive kept
  kept_consecutive k e there =
      let within : k < length kept = slice_get_within kept k e there in
      let some : 0 < length kept = omega (arith, within) in
      omega (arith, kept_stand k e there, kept_first some)

  pub kept_bounded : end_of kept ≤ greatest_length
  kept_bounded = ends_within kept kept_end
    where
      ends_within : (es : List Entry) → (0 < length es → end_of es ≡ length list) → end_of es ≤ greatest_length
      ends_within [] end = omega arith
      ends_within (e ∷ es) end = subst (λ (n : ℕ). n ≤ greatest_length) (sym (end (omega arith))) h.bounded

  pub kept_within : AreWithin kept xs
  kept_within k s there some =
      let low : first ≤ s.place = (h.holding k s there).past in
      let high : s.place ≤ length list = (h.holding k s there).holds.within in
      (omega (arith, low, kept_first some), omega (arith, high, kept_end some))

  kept_of : AreOf setup list kept
  kept_of k e there = ap (slice_get all) (kept_stand k e there) ∙ kept_there k e there

  pub next_kept : (n : ℕ) → first ≤ n → slice_get kept (n - first) ≡ slice_get all n
  next_kept n from =
      let sum : first + (n - first) ≡ n = omega (arith, from) in
      ap (λ (es : List Entry). slice_get es (n - first)) h.kept_is ∙ drop_get first all (n - first) ∙ ap (slice_get all) sum

  -- ---- the shards after they advance

  module _ (ys : List (Shard P)) (up : BroughtUp place_of kept xs ys) where
    record Was (k : ℕ) (t : Shard P) : Type 0 where
      old : Shard P
      there : slice_get xs k ≡ Some old
      went : WentOn place_of kept old t

    was : (k : ℕ) (t : Shard P) → slice_get ys k ≡ Some t → Was k t
    was k t is =
        let within : k < length ys = slice_get_within ys k t is in
        let at : slice_get xs k ≡ Some (get_or xs k t) = slice_get-get_or xs k t (omega (arith, within, up.all)) in
        record { old = get_or xs k t; there = at; went = up.each k (get_or xs k t) t at is }

    pub each_upward : EachRefines place_of setup list taken first ys
    each_upward k t is =
        let before = was k t is in
        let held : RefinesFrom place_of setup list taken first k before.old = h.holding k before.old before.there in
        let room : 0 < setup.config.limits.batch = omega (arith, setup.config.limits.some_batch) in
        let past : first ≤ before.old.place = held.past in
        let on : before.old.place ≤ t.place = before.went.onward in
        record { holds = before.went.holds setup list taken k room kept_of held.holds; past = omega (arith, past, on) }

    pub places_onward : (k m n : ℕ) → slice_get (map (λ (s : Shard P). s.place) xs) k ≡ Some m → slice_get (map (λ (s : Shard P). s.place) ys) k ≡ Some n → m ≤ n
    places_onward k m n old new =
        let s = mapped (λ (s : Shard P). s.place) xs k m old in
        let t = mapped (λ (s : Shard P). s.place) ys k n new in
        let on : s.one.place ≤ t.one.place = (up.each k s.one t.one s.there t.there).onward in
        omega (arith, on, s.is, t.is)

    pub places_within : (k n : ℕ) → slice_get (map (λ (s : Shard P). s.place) ys) k ≡ Some n → n ≤ length list
    places_within k n at =
        let t = mapped (λ (s : Shard P). s.place) ys k n at in
        let le : t.one.place ≤ length list = (each_upward k t.one t.there).holds.within in
        omega (arith, le, t.is)

    pub places_stopped : (k n : ℕ) (e : Entry) → slice_get (map (λ (s : Shard P). s.place) ys) k ≡ Some n → slice_get all n ≡ Some e → takes_no_memory e ≡ false
    places_stopped k n e at next =
        let t = mapped (λ (s : Shard P). s.place) ys k n at in
        let before = was k t.one t.there in
        let low : first ≤ t.one.place = (each_upward k t.one t.there).past in
        let inside : n < length list = place_within setup.config list n e next in
        let some : 0 < length kept = omega (arith, kept_long, inside, low, t.is) in
        let here : slice_get kept (n - first) ≡ Some e = next_kept n (omega (arith, low, t.is)) ∙ next in
        let moved : n - first ≡ t.one.place - first_of kept = omega (arith, t.is, kept_first some) in
        before.went.stopped e (subst (λ (i : ℕ). slice_get kept i ≡ Some e) moved here)

    behind_alike : (s : Shard P) → first ≤ s.place → s.place ≤ length list → is_behind kept s ≡ nat_lt s.place (length list)
    behind_alike s from within = alike kept kept_end kept_long
      where
        alike : (es : List Entry) → (0 < length es → end_of es ≡ length list) → length es ≡ length list - first → is_behind es s ≡ nat_lt s.place (length list)
        alike [] end long = sym (le-ltb s.place (length list) (omega (arith, long, from, within)))
        alike (e ∷ es) end long = ap (nat_lt s.place) (end (omega arith))

    pub count_upward : count_behind kept ys ≡ count_by (λ n. nat_lt n (length list)) (map (λ (s : Shard P). s.place) ys)
    count_upward = count_alike (is_behind kept) (λ n. nat_lt n (length list)) (λ (s : Shard P). s.place) ys
        (λ k s there. behind_alike s (each_upward k s there).past (each_upward k s there).holds.within)

-- ---- all elements of a list are written back

pub written_back : {X : Type 0} (n : ℕ) (xs ys : List X) → length xs ≡ n → length ys ≡ length xs → take n (ys ++ drop (length ys) xs) ≡ ys
written_back n xs ys long same = take-append-le n ys (drop (length ys) xs) (omega (arith, long, same)) ∙ take_all n ys (omega (arith, long, same))
