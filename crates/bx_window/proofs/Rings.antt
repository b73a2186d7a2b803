-- The batches of a ring after a publish or a trim, and the batch at a place.
use Rattle.std.proofs.Common.{◌≡◌, ℕ, zero, suc, ◌+◌, ◌-◌, ◌<◌, ◌≤◌, List, [], ◌∷◌, ◌++◌, length, drop, map, slice_index_or, slice_get, Some, ◌⊎◌, inl, inr, refl, ap, sym, ◌∙◌, subst, arith, length-append}
use Rattle.std.proofs.lemmas.{Bool.cases_lt, List.drop-map, List.get_or_past, List.map-append, List.length-map, Option.get_or_from_slice_get, Option.slice_get-map, Option.slice_get_within}
use Rattle.std.specs.Prelude.{option_map}
use Rattle.std.proofs.Math.Seq.{take-append_seam}
use Rattle.circular_buffer.specs.Buffer.{keep_last}
use Rattle.bx_entry.specs.Listing.{Listed}
use Rattle.bx_advice.specs.declared.config.Config.{Config}
use Rattle.bx_entry.specs.declared.{entry.Batch.Batch, input.Input.Input}
use Rattle.bx_window.specs.declared.{batch.UnpublishedBatch.UnpublishedBatch, law.LogStep.LogStep}
use Rattle.bx_window.specs.Places.{IsOf, Spans, Continues}
use Rattle.bx_window.specs.Steps.{adding, trimming, list_of, firsts_of, begin_of, before, ends_in, ends_of, IsNewest, IsTrimmed}
use Rattle.bx_window.proofs.{Firsts.kept_all, Places.many_elements}
use Rattle.bx_window.proofs.Lists.{end_is, list_of-adding, firsts_of_adding, firsts_of_trimming, list_of_trimming}

pub before_added : (log : List LogStep) (s : LogStep) → before (log ++ s ∷ []) ≡ log
before_added log s =
    let short : length (log ++ s ∷ []) - 1 ≡ length log = omega (arith, length-append log (s ∷ [])) in
    rw short (take-append_seam log (s ∷ []))

pub newest : (log : List LogStep) (xs : List Listed) (inputs : List Input) (first : ℕ) → 0 < length xs → first ≡ length (list_of log) → length (firsts_of log) < 4096 → IsNewest (log ++ adding xs inputs ∷ []) first
newest log xs inputs first some is room =
    let all = firsts_of_adding log xs inputs some in
    let same = before_added log (adding xs inputs) in
    let old : firsts_of (before (log ++ adding xs inputs ∷ [])) ≡ firsts_of log = ap firsts_of same in
    record {
      begins = is ∙ sym (ap (λ l. length (list_of l)) same);
      firsts = all ∙ (ap (λ n. firsts_of log ++ n ∷ []) (sym is) ∙ ap (λ fs. fs ++ first ∷ []) (sym old));
      room = omega (arith, ap length all, length-append (firsts_of log) (length (list_of log) ∷ []), room);
    }

pub trimmed : (log : List LogStep) (n : ℕ) → IsTrimmed (log ++ trimming n ∷ []) n
trimmed log n =
    let same = before_added log (trimming n) in
    record {
      same = list_of_trimming log n ∙ sym (ap list_of same);
      firsts = firsts_of_trimming log n ∙ sym (ap (λ l. drop n (firsts_of l)) same);
    }

ends_many : (end : ℕ) (fs : List ℕ) → length (ends_in end fs) ≡ length fs
ends_many end [] = refl
ends_many end (f ∷ fs) = ap suc (ends_many end fs)

head_added : (fs : List ℕ) (end last : ℕ) → slice_index_or (fs ++ end ∷ []) 0 last ≡ slice_index_or fs 0 end
head_added [] end last = refl
head_added (f ∷ fs) end last = refl

pub ends_added : (fs : List ℕ) (end last : ℕ) → ends_in last (fs ++ end ∷ []) ≡ ends_in end fs ++ last ∷ []
ends_added [] end last = refl
ends_added (f ∷ fs) end last = cc (head_added fs end last, ends_added fs end last)

pub ends_dropped : (n end : ℕ) (fs : List ℕ) → ends_in end (drop n fs) ≡ drop n (ends_in end fs)
ends_dropped zero end fs = refl
ends_dropped (suc n) end [] = refl
ends_dropped (suc n) end (f ∷ fs) = ends_dropped n end fs

pub room_left : (log next : List LogStep) (first : ℕ) → before next ≡ log → IsNewest next first → length (firsts_of log) < 4096
room_left log next first same new =
    let old : firsts_of (before next) ≡ firsts_of log = ap firsts_of same in
    omega (arith, new.room, ap length new.firsts, length-append (firsts_of (before next)) (first ∷ []), ap length old)

pub firsts_more : {A : Type 0} (f : A → ℕ) (items : List A) (x : A) (log next : List LogStep) → map f items ≡ firsts_of log → before next ≡ log → IsNewest next (f x) → map f (items ++ x ∷ []) ≡ firsts_of next
firsts_more f items x log next h same new =
    map-append f items (x ∷ []) ∙ (ap (λ fs. fs ++ f x ∷ []) (h ∙ sym (ap firsts_of same)) ∙ sym new.firsts)

pub ends_more : {A : Type 0} (f : A → ℕ) (items : List A) (x : A) (first : ℕ) (log next : List LogStep) → map f items ≡ ends_of log → before next ≡ log → IsNewest next first → f x ≡ length (list_of next) → map f (items ++ x ∷ []) ≡ ends_of next
ends_more f items x first log next h same new end =
    let fs = firsts_of log in
    let begins : first ≡ length (list_of log) = new.begins ∙ ap (λ l. length (list_of l)) same in
    let all : firsts_of next ≡ fs ++ length (list_of log) ∷ [] =
    new.firsts ∙ (ap (λ l. firsts_of l ++ first ∷ []) same ∙ ap (λ n. fs ++ n ∷ []) begins) in
    let grown : ends_of next ≡ ends_of log ++ length (list_of next) ∷ [] =
    ap (λ l. ends_in (length (list_of next)) l) all ∙ ends_added fs (length (list_of log)) (length (list_of next)) in
    map-append f items (x ∷ []) ∙ (ap (λ es. es ++ f x ∷ []) h ∙ (ap (λ n. ends_of log ++ n ∷ []) end ∙ sym grown))

pub firsts_less : {A : Type 0} (f : A → ℕ) (items : List A) (n : ℕ) (log next : List LogStep) → map f items ≡ firsts_of log → before next ≡ log → IsTrimmed next n → map f (drop n items) ≡ firsts_of next
firsts_less f items n log next h same less =
    sym (drop-map f n items) ∙ (ap (λ fs. drop n fs) (h ∙ sym (ap firsts_of same)) ∙ sym less.firsts)

pub ends_less : {A : Type 0} (f : A → ℕ) (items : List A) (n : ℕ) (log next : List LogStep) → map f items ≡ ends_of log → before next ≡ log → IsTrimmed next n → map f (drop n items) ≡ ends_of next
ends_less f items n log next h same less =
    let list : list_of next ≡ list_of log = less.same ∙ ap list_of same in
    let firsts : firsts_of next ≡ drop n (firsts_of log) = less.firsts ∙ ap (λ l. drop n (firsts_of l)) same in
    let fewer : ends_of next ≡ drop n (ends_of log) =
    ap (λ l. ends_in (length l) (firsts_of next)) list ∙ (ap (λ fs. ends_in (length (list_of log)) fs) firsts ∙ ends_dropped n (length (list_of log)) (firsts_of log)) in
    sym (drop-map f n items) ∙ (ap (λ es. drop n es) h ∙ sym fewer)

pub kept_ring : {A : Type 0} (f : A → ℕ) (items : List A) (capacity : ℕ) (x : A) (log : List LogStep) → map f items ≡ firsts_of log → capacity ≡ 4096 → length (firsts_of log) < 4096 → keep_last capacity (items ++ x ∷ []) ≡ items ++ x ∷ []
kept_ring f items capacity x log h cap room =
    kept_all capacity x items (omega (arith, cap, room, ap length h, length-map items f))

first_at : {A : Type 0} (f : A → ℕ) (items : List A) (fs : List ℕ) (i end : ℕ) (x : A) → map f items ≡ fs → slice_get items i ≡ Some x → f x ≡ slice_index_or fs i end
first_at f items fs i end x h is =
    sym (get_or_from_slice_get fs i (f x) end (ap (λ l. slice_get l i) (sym h) ∙ slice_get-map f items i ∙ ap (option_map f) is))

ends_at : (fs : List ℕ) (i end d : ℕ) → i < length fs → slice_index_or (ends_in end fs) i d ≡ slice_index_or fs (i + 1) end
ends_at [] i end d lt = absurd (omega arith)
ends_at (f ∷ fs) zero end d lt = refl
ends_at (f ∷ fs) (suc i) end d lt = let e : suc i + 1 ≡ suc (i + 1) = omega arith in rw e (ends_at fs i end d (omega arith))

pub newest_bundle : (config : Config) (log : List LogStep) (b : UnpublishedBatch) → Continues config (list_of log) b → length (firsts_of log) < 4096 → IsNewest (log ++ adding b.elements b.inputs ∷ []) b.batch.first
newest_bundle config log b c room =
    let some : 0 < length b.elements = omega (arith, many_elements config (list_of log) b c, c.some) in
    newest log b.elements b.inputs b.batch.first some c.first room

pub ends_bundle : (config : Config) (log : List LogStep) (b : UnpublishedBatch) → Continues config (list_of log) b → b.batch.first + length b.batch.entries ≡ length (list_of (log ++ adding b.elements b.inputs ∷ []))
ends_bundle config log b c =
    let all = ap length (list_of-adding log b.elements b.inputs) in
    omega (arith, all, length-append (list_of log) b.elements, many_elements config (list_of log) b c, c.first)

-- A place of the window is at or after where the first batch begins, and before the list's end.
pub inside_all : (log : List LogStep) (n place : ℕ) → n ≡ length (firsts_of log) → begin_of log ≤ place → place < length (list_of log)
    → (slice_index_or (firsts_of log) 0 (length (list_of log)) ≤ place) × (place < slice_index_or (firsts_of log) n (length (list_of log)))
inside_all log n place is low high =
    let begin : begin_of log ≡ slice_index_or (firsts_of log) 0 (length (list_of log)) = ap (λ d. slice_index_or (firsts_of log) 0 d) (end_is log) in
    let past = get_or_past (firsts_of log) n (length (list_of log)) (omega arith) in
    (subst (λ m. m ≤ place) begin low, rw past high)

pub below_it : {A : Type 0} (f : A → ℕ) (items : List A) (log : List LogStep) (i place : ℕ) (x : A) → map f items ≡ firsts_of log → slice_get items i ≡ Some x → place < f x
    → place < slice_index_or (firsts_of log) i (length (list_of log))
below_it f items log i place x h is less =
    subst (λ m. place < m) (first_at f items (firsts_of log) i (length (list_of log)) x h is) less

pub above_it : {A : Type 0} (f : A → ℕ) (items : List A) (log : List LogStep) (i place : ℕ) (x : A) → map f items ≡ ends_of log → slice_get items i ≡ Some x → f x ≤ place
    → slice_index_or (firsts_of log) (i + 1) (length (list_of log)) ≤ place
above_it f items log i place x h is less =
    let end = length (list_of log) in
    let inside : i < length (firsts_of log) = omega (arith, slice_get_within items i x is, sym (length-map items f), ap length h, ends_many end (firsts_of log)) in
    subst (λ m. m ≤ place) (first_at f items (ends_of log) i end x h is ∙ ends_at (firsts_of log) i end end inside) less

pub behind : (first end place : ℕ) → ((first ≤ place) × (place < end) → ⊥) → first ≤ place → end ≤ place
behind first end place out low = by_place (cases_lt place end)
  where
    by_place : (place < end) ⊎ (end ≤ place) → end ≤ place
    by_place (inl less) = absurd (out (low, less))
    by_place (inr past) = past

pub is_of : (b : Batch) (first end place : ℕ) → Spans b first end → (first ≤ place) × (place < end) → IsOf b place
is_of b first end place spans has = (omega (arith, spans.0, has.0), omega (arith, spans.0, spans.1, has.1))
