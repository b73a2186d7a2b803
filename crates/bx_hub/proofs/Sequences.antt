-- Posts, ticks and polls are sequentially consistent.
use Rattle.std.proofs.Common.{◌≡◌, ◌≢◌, ◌⊎◌, inl, inr, ⊎_elim, ◌∙◌, ℕ, ◌+◌, ◌<◌, ◌≤◌, Bool, true, false, cond, ◌||◌, ◌==◌, Option, Some, None, Result, Ok, Err, List, [], ◌∷◌, ◌++◌, length, take, drop, option_map, refl, sym, ap, subst, arith, append-nil, append_assoc, length-append, length-take, take-append-drop, take_all}
use Rattle.std.proofs.lemmas.{Bool.cases_lt, Bool.cond_both, Bool.leb-true, Bool.leb-false, Bool.le-leb, List.drop_all, List.drop_at, Grind.common_steps}
use Rattle.std.proofs.lemmas.{List.Sorted.IsPermutation-refl, List.Sorted.IsPermutation-cons, List.Sorted.IsPermutation-middle, List.Sorted.IsPermutation-sym, List.Sorted.IsPermutation-trans, List.Sorted.sum_by-IsPermutation, List.Concat.length-flat_map}
use Rattle.std.proofs.ByRecursion.{All-weaker, all_kept_by}
use Rattle.std.specs.Prelude.{IsPermutation}
use Rattle.std.specs.List.{AllByRecursion, filter, flat_map}
use mathlib.Core.List.{IsPrefix}
use Rattle.bx_advice.specs.declared.config.Config.{Config}
use Rattle.bx_message.specs.declared.reply.Answer.{Answer}
use Rattle.bx_entry.specs.Inputs.{refusal_of}
use Rattle.bx_entry.specs.Placings.{Setup}
use Rattle.bx_entry.specs.Listing.{Listed, listed_from}
use Rattle.bx_entry.specs.Listing as messages
use Rattle.bx_entry.specs.Requests.{arrival_messages, read_by}
use Rattle.bx_entry.specs.Words.{PlacedAnswer, added_by, answer, read_input}
use Rattle.bx_entry.specs.declared.input.Refusal.{Refusal}
use Rattle.bx_message.specs.MessageKinds.{is_handshake}
use Rattle.bx_message.specs.declared.message.Message.{Message}
use Rattle.bx_entry.specs.declared.input.Input.TheVariants as inputs
use Rattle.bx_theory.proofs.Lists.{answer_more}
use Rattle.bx_shard.specs.Words.{given_of}
use Rattle.bx_window.specs.Steps.{list_of}
use Rattle.bx_window.specs.declared.law.LogStep.{LogStep}
use Rattle.bx_window.proofs.{Fronts.prefix_length, Fronts.prefix_shorter, Fronts.prefix_trans, Lists.list_of-prefix}
use Rattle.bx_hub.specs.Consistency.{AllDiffer, Answered, MomentsDiffer, NoncesDiffer, AreAllDistinct, AreDistinct, Call, Executes, InTurn, IsCall, IsPromised, IsReturned, Knows, Outcome, Posted, Rejected, SequentiallyConsistent, Stays, Ticked, appended, effect_place, end_of, found, in_order, inserted, is_before, start_of}

-- ---- What the clauses say of a call

record Facts (setup : Setup) (before after : List LogStep) (o : Outcome) : Type 0 where
  end : effect_place after o + length (appended o) ≡ length (list_of after)
  fresh : length (list_of before) ≤ effect_place after o
  returned : IsReturned setup (take (effect_place after o) (list_of after)) o
  appends : list_of after ≡ take (effect_place after o) (list_of after) ++ appended o
  whole : (front : List LogStep) → IsPrefix front after → (length (list_of front) ≤ effect_place after o) ⊎ (list_of front ≡ list_of after)

list_shorter : (xs ys : List LogStep) → IsPrefix xs ys → length (list_of xs) ≤ length (list_of ys)
list_shorter xs ys p = prefix_length (list_of xs) (list_of ys) (list_of-prefix xs ys p)

facts : (setup : Setup) (before after : List LogStep) (o : Outcome) → IsPrefix before after → IsPromised setup before after o → Facts setup before after o
facts setup before after (Posted arrival first slots) b p =
    let at : length (take first (list_of after)) ≡ first = omega (arith, length-take first (list_of after), p.0.end) in
    record {
      end = sym p.0.end;
      fresh = p.0.fresh;
      returned = (subst (λ (n : ℕ). refusal_of n (read_input (inputs.Post arrival)) ≡ None) (sym at) p.0.allowed, sym at, p.1);
      appends = sym (ap (λ (xs : List Listed). take first (list_of after) ++ xs) (sym p.0.there) ∙ take-append-drop first (list_of after));
      whole = p.0.at_once;
    }
facts setup before after (Ticked moment place) b p =
    let at : length (take place (list_of after)) ≡ place = omega (arith, length-take place (list_of after), p.end) in
    record {
      end = sym p.end;
      fresh = p.fresh;
      returned = (subst (λ (n : ℕ). refusal_of n (read_input (inputs.Tick moment)) ≡ None) (sym at) p.allowed, sym at);
      appends = sym (ap (λ (xs : List Listed). take place (list_of after) ++ xs) (sym p.there) ∙ take-append-drop place (list_of after));
      whole = p.at_once;
    }
facts setup before after (Rejected input refusal) b p =
    let all : take (length (list_of after)) (list_of after) ≡ list_of after = take_all (length (list_of after)) (list_of after) (omega arith) in
    record {
      end = omega arith;
      fresh = list_shorter before after b;
      returned = subst (λ (xs : List Listed). refusal_of (length xs) (read_input input) ≡ Some refusal) (sym all) p;
      appends = sym (append-nil (take (length (list_of after)) (list_of after)) ∙ all);
      whole = λ front f. inl (list_shorter front after f);
    }
facts setup before after (Answered place a) b p =
    let all : take (length (list_of after)) (list_of after) ≡ list_of after = take_all (length (list_of after)) (list_of after) (omega arith) in
    record {
      end = omega arith;
      fresh = list_shorter before after b;
      returned = subst (λ (xs : List Listed). option_map given_of (answer setup.config xs place) ≡ Some a) (sym all) p;
      appends = sym (append-nil (take (length (list_of after)) (list_of after)) ∙ all);
      whole = λ front f. inl (list_shorter front after f);
    }

record Good (setup : Setup) (log : List LogStep) (c : Call) : Type 0 where
  facts : Facts setup c.before c.after c.outcome
  one : IsPrefix c.after log

good : (setup : Setup) (log : List LogStep) (c : Call) → IsCall setup log c → Good setup log c
good setup log c h = record { facts = facts setup c.before c.after c.outcome h.seen h.promised; one = h.one }

-- ---- Different elements

abbrev HasNonce : ℕ → Listed → Type 0
HasNonce n (messages.Post p) = p.nonce ≡ n
HasNonce n (messages.Tick moment) = ⊥

nonces_in : (moment nonce : ℕ) (sole seen : Bool) (ms : List Message) → AllByRecursion (HasNonce nonce) (listed_from moment nonce sole seen ms)
nonces_in moment nonce sole seen [] = tt
nonces_in moment nonce sole seen (m ∷ ms) = (refl, nonces_in moment nonce sole (seen || is_handshake m) ms)

nonces_by : (moment nonce : ℕ) (r : Result (List Message) Refusal) → AllByRecursion (HasNonce nonce) (added_by (read_by moment nonce r))
nonces_by moment nonce (Ok ms) = nonces_in moment nonce (length ms == 1) false ms
nonces_by moment nonce (Err f) = tt

other_nonce : (m n : ℕ) (x y : Listed) → m ≢ n → HasNonce m x → HasNonce n y → x ≢ y
other_nonce m n (messages.Post p) (messages.Post q) other h k = λ e. let same : p ≡ q = cc e in other (sym h ∙ ap (λ (r : messages.Posted). r.nonce) same ∙ k)
other_nonce m n (messages.Post p) (messages.Tick moment) other h k = absurd k
other_nonce m n (messages.Tick moment) y other h k = absurd h

other_nonces : (m n : ℕ) (x : Listed) (ys : List Listed) → m ≢ n → HasNonce m x → AllByRecursion (HasNonce n) ys → AllByRecursion (λ y. x ≢ y) ys
other_nonces m n x ys other h k = All-weaker (HasNonce n) (λ y. x ≢ y) (λ y j. other_nonce m n x y other h j) ys k

pub nonces_differ : NoncesDiffer
nonces_differ a b other =
    let xs : List Listed = added_by (read_input (inputs.Post a)) in
    let ys : List Listed = added_by (read_input (inputs.Post b)) in
    let theirs : AllByRecursion (HasNonce b.nonce) ys = nonces_by b.moment b.nonce (arrival_messages b) in
    All-weaker (HasNonce a.nonce) (λ x. AllByRecursion (λ y. x ≢ y) ys) (λ x h. other_nonces a.nonce b.nonce x ys other h theirs) xs (nonces_by a.moment a.nonce (arrival_messages a))

pub moments_differ : MomentsDiffer
moments_differ m n other = (((λ e. other (cc e)), tt), tt)

-- ---- Two calls

abbrev Fits : Call → Call → Type 0
Fits c d = end_of c ≤ start_of d

abbrev Apart : Call → Call → Type 0
Apart c d = Fits c d ⊎ Fits d c

knows_fits : (setup : Setup) (log : List LogStep) (c d : Call) → Good setup log c → Good setup log d → Knows d c → Fits c d
knows_fits setup log c d g h k = omega (arith, g.facts.end, h.facts.fresh, list_shorter c.after d.before k)

less_differ : (xs ys : List Listed) (y : Listed) → AllDiffer xs (y ∷ ys) → AllDiffer xs ys
less_differ xs ys y h = All-weaker (λ x. AllByRecursion (λ z. x ≢ z) (y ∷ ys)) (λ x. AllByRecursion (λ z. x ≢ z) ys) (λ x d. d.1) xs h

-- Lists of different elements are not both at the end of one list.
ends_differ : (us vs xs ys : List Listed) → us ++ xs ≡ vs ++ ys → 0 < length xs → 0 < length ys → AllDiffer xs ys → ⊥
ends_differ us vs [] ys e l m d = absurd (omega (arith, l))
ends_differ us vs (x ∷ xs) [] e l m d = absurd (omega (arith, m))
ends_differ [] [] (x ∷ xs) (y ∷ ys) e l m d = d.0.0 (cc e)
ends_differ [] (v ∷ vs) (x ∷ xs) (y ∷ ys) e l m d =
    let rest : xs ≡ vs ++ y ∷ ys = cc e in
    ends_differ [] vs xs (y ∷ ys) rest (omega (arith, ap (λ (zs : List Listed). length zs) rest, length-append vs (y ∷ ys))) m d.1
ends_differ (u ∷ us) [] (x ∷ xs) (y ∷ ys) e l m d =
    let rest : us ++ x ∷ xs ≡ ys = cc e in
    ends_differ us [] (x ∷ xs) ys rest l (omega (arith, ap (λ (zs : List Listed). length zs) rest, length-append us (x ∷ xs))) (less_differ (x ∷ xs) ys y d)
ends_differ (u ∷ us) (v ∷ vs) (x ∷ xs) (y ∷ ys) e l m d = let rest : us ++ x ∷ xs ≡ vs ++ y ∷ ys = cc e in ends_differ us vs (x ∷ xs) (y ∷ ys) rest l m d

-- The pass of `d` has seen what the pass of `c` has.
later_apart : (setup : Setup) (log : List LogStep) (c d : Call) → Good setup log c → Good setup log d → IsPrefix c.after d.after → (0 < length (appended c.outcome) → 0 < length (appended d.outcome) → list_of c.after ≡ list_of d.after → ⊥) → Apart c d
later_apart setup log c d g h b n =
    let equal : list_of c.after ≡ list_of d.after → Apart c d = λ e.
    let many : length (list_of c.after) ≡ length (list_of d.after) = ap (λ (xs : List Listed). length xs) e in
    ⊎_elim
    (λ (i : 0 < length (appended c.outcome)).
    ⊎_elim (λ (j : 0 < length (appended d.outcome)). absurd (n i j e)) (λ (j : length (appended d.outcome) ≤ 0). let l : Fits c d = omega (arith, g.facts.end, h.facts.end, many, j) in inl l) (cases_lt 0 (length (appended d.outcome))))
    (λ (i : length (appended c.outcome) ≤ 0). let l : Fits d c = omega (arith, g.facts.end, h.facts.end, many, i) in inr l) (cases_lt 0 (length (appended c.outcome))) in
    ⊎_elim (λ (l : length (list_of c.after) ≤ start_of d). let f : Fits c d = omega (arith, l, g.facts.end) in inl f) equal (h.facts.whole c.after b)

differ_apart : (setup : Setup) (log : List LogStep) (c d : Call) → Good setup log c → Good setup log d → AllDiffer (appended c.outcome) (appended d.outcome) → Apart c d
differ_apart setup log c d g h n =
    let clash : 0 < length (appended c.outcome) → 0 < length (appended d.outcome) → list_of c.after ≡ list_of d.after → ⊥ = λ i j e.
    ends_differ (found c) (found d) (appended c.outcome) (appended d.outcome) (sym g.facts.appends ∙ e ∙ h.facts.appends) i j n in
    ⊎_elim
    (λ (l : length c.after < length d.after). later_apart setup log c d g h (prefix_shorter c.after d.after log g.one h.one (omega (arith, l))) clash)
    (λ (l : length d.after ≤ length c.after). ⊎_elim (λ (f : Fits d c). inr f) (λ (f : Fits c d). inl f) (later_apart setup log d c h g (prefix_shorter d.after c.after log h.one g.one l) (λ i j e. clash j i (sym e))))
    (cases_lt (length c.after) (length d.after))

apart : (setup : Setup) (log : List LogStep) (c d : Call) → Good setup log c → Good setup log d → AreDistinct c d → Apart c d
apart setup log c d g h (inl (inl k)) = inr (knows_fits setup log d c h g k)
apart setup log c d g h (inl (inr k)) = inl (knows_fits setup log c d g h k)
apart setup log c d g h (inr n) = differ_apart setup log c d g h n

all_apart : (setup : Setup) (log : List LogStep) (c : Call) (ds : List Call) → Good setup log c → AllByRecursion (Good setup log) ds → AllByRecursion (AreDistinct c) ds → AllByRecursion (Apart c) ds
all_apart setup log c [] g h n = tt
all_apart setup log c (d ∷ ds) g h n = (apart setup log c d g h.0 n.0, all_apart setup log c ds g h.1 n.1)

-- ---- The order

abbrev InLine : List Call → Type 0
InLine [] = Unit {0}
InLine (c ∷ cs) = AllByRecursion (Fits c) cs × InLine cs

before_fits : (c d : Call) → is_before c d ≡ true → Apart c d → Fits c d
before_fits c d t a =
    let l : start_of c + end_of c ≤ start_of d + end_of d = leb-true (start_of c + end_of c) (start_of d + end_of d) t in
    ⊎_elim (λ (f : Fits c d). f) (λ (f : Fits d c). omega (arith, l, f)) a

behind_fits : (c d : Call) → is_before c d ≡ false → Apart c d → Fits d c
behind_fits c d t a =
    let l : start_of d + end_of d < start_of c + end_of c = leb-false (start_of c + end_of c) (start_of d + end_of d) t in
    ⊎_elim (λ (f : Fits c d). omega (arith, l, f)) (λ (f : Fits d c). f) a

fits_before : (c d : Call) → Fits c d → is_before c d ≡ true
fits_before c d f = le-leb (start_of c + end_of c) (start_of d + end_of d) (omega (arith, f))

fits_on : (c d : Call) (cs : List Call) → Fits c d → AllByRecursion (Fits d) cs → AllByRecursion (Fits c) cs
fits_on c d cs f h = All-weaker (Fits d) (Fits c) (λ e l. omega (arith, f, l)) cs h

all_inserted : (P : Call → Type 0) (c : Call) (ds : List Call) → P c → AllByRecursion P ds → AllByRecursion P (inserted c ds)
all_inserted P c [] p h = (p, tt)
all_inserted P c (d ∷ ds) p h = cond_both (is_before c d) (c ∷ d ∷ ds) (d ∷ inserted c ds) (AllByRecursion P) (λ t. (p, h)) (λ t. (h.0, all_inserted P c ds p h.1))

all_in_order : (P : Call → Type 0) (cs : List Call) → AllByRecursion P cs → AllByRecursion P (in_order cs)
all_in_order P [] h = tt
all_in_order P (c ∷ cs) h = all_inserted P c (in_order cs) h.0 (all_in_order P cs h.1)

line_inserted : (c : Call) (ds : List Call) → AllByRecursion (Apart c) ds → InLine ds → InLine (inserted c ds)
line_inserted c [] a l = (tt, tt)
line_inserted c (d ∷ ds) a l =
    cond_both (is_before c d) (c ∷ d ∷ ds) (d ∷ inserted c ds) InLine (λ t. let f : Fits c d = before_fits c d t a.0 in ((f, fits_on c d ds f l.0), l))
    (λ t. (all_inserted (Fits d) c ds (behind_fits c d t a.0) l.0, line_inserted c ds a.1 l.1))

line_in_order : (setup : Setup) (log : List LogStep) (cs : List Call) → AllByRecursion (Good setup log) cs → AreAllDistinct cs → InLine (in_order cs)
line_in_order setup log [] g n = tt
line_in_order setup log (c ∷ cs) g n =
    line_inserted c (in_order cs) (all_in_order (Apart c) cs (all_apart setup log c cs g.0 g.1 n.0)) (line_in_order setup log cs g.1 n.1)

-- ---- The same calls

same_inserted : (c : Call) (ds : List Call) → IsPermutation (c ∷ ds) (inserted c ds)
same_inserted c [] = IsPermutation-refl (c ∷ [])
same_inserted c (d ∷ ds) =
    let swapped : IsPermutation (c ∷ d ∷ ds) (d ∷ c ∷ ds) = IsPermutation-sym (d ∷ c ∷ ds) (c ∷ d ∷ ds) (IsPermutation-middle (d ∷ []) c ds) in
    cond_both (is_before c d) (c ∷ d ∷ ds) (d ∷ inserted c ds) (IsPermutation (c ∷ d ∷ ds)) (λ t. IsPermutation-refl (c ∷ d ∷ ds))
    (λ t. IsPermutation-trans (c ∷ d ∷ ds) (d ∷ c ∷ ds) (d ∷ inserted c ds) swapped (IsPermutation-cons d (c ∷ ds) (inserted c ds) (same_inserted c ds)))

same_calls : (cs : List Call) → IsPermutation cs (in_order cs)
same_calls [] = IsPermutation-refl []
same_calls (c ∷ cs) = IsPermutation-trans (c ∷ cs) (c ∷ in_order cs) (inserted c (in_order cs)) (IsPermutation-cons c cs (in_order cs) (same_calls cs)) (same_inserted c (in_order cs))

-- ---- Calls in turn

filter_no : (p : Call → Bool) (c : Call) (ds : List Call) → p c ≡ false → filter p (inserted c ds) ≡ filter p ds
filter_no p c [] n = grind (arith, common_steps)
filter_no p c (d ∷ ds) n =
    let none : filter p (c ∷ d ∷ ds) ≡ filter p (d ∷ ds) = ap (λ (b : Bool). cond b (c ∷ filter p (d ∷ ds)) (filter p (d ∷ ds))) n in
    let rest : filter p (d ∷ inserted c ds) ≡ filter p (d ∷ ds) = ap (λ (xs : List Call). cond (p d) (d ∷ xs) xs) (filter_no p c ds n) in
    cond_both (is_before c d) (c ∷ d ∷ ds) (d ∷ inserted c ds) (λ xs. filter p xs ≡ filter p (d ∷ ds)) (λ t. none) (λ t. rest)

filter_yes : (p : Call → Bool) (c : Call) (ds : List Call) → p c ≡ true → AllByRecursion (λ d. is_before c d ≡ true) (filter p ds) → filter p (inserted c ds) ≡ c ∷ filter p ds
filter_yes p c [] y h = ap (λ (b : Bool). cond b (c ∷ []) []) y
filter_yes p c (d ∷ ds) y h =
    let here : filter p (c ∷ d ∷ ds) ≡ c ∷ filter p (d ∷ ds) = ap (λ (b : Bool). cond b (c ∷ filter p (d ∷ ds)) (filter p (d ∷ ds))) y in
    let Q : Bool → Type 0 = λ b. AllByRecursion (λ x. is_before c x ≡ true) (cond b (d ∷ filter p ds) (filter p ds)) → is_before c d ≡ false → cond b (d ∷ filter p (inserted c ds)) (filter p (inserted c ds)) ≡ c ∷ cond b (d ∷ filter p ds) (filter p ds) in
    let picked : Q true = λ k f. absurd (let t : is_before c d ≡ true = k.0 in let e : true ≡ false = sym t ∙ f in cc e) in
    let other : Q false = λ k f. filter_yes p c ds y k in
    let rest : Q (p d) = (elim (p d) as Q [ true ↦ picked | false ↦ other ]) in
    cond_both (is_before c d) (c ∷ d ∷ ds) (d ∷ inserted c ds) (λ xs. filter p xs ≡ c ∷ filter p (d ∷ ds)) (λ t. here) (λ f. rest h f)

turn_line : (setup : Setup) (log : List LogStep) (cs : List Call) → AllByRecursion (Good setup log) cs → InTurn cs → InLine cs
turn_line setup log [] g t = tt
turn_line setup log (c ∷ []) g t = (tt, tt)
turn_line setup log (c ∷ d ∷ cs) g t =
    let rest : InLine (d ∷ cs) = turn_line setup log (d ∷ cs) g.1 t.1 in
    let f : Fits c d = knows_fits setup log c d g.0 g.1.0 t.0 in
    ((f, fits_on c d cs f rest.0), rest)

turn_rest : (c : Call) (cs : List Call) → InTurn (c ∷ cs) → InTurn cs
turn_rest c [] t = tt
turn_rest c (d ∷ cs) t = t.1

turn_in_order : (setup : Setup) (log : List LogStep) (p : Call → Bool) (cs : List Call) → AllByRecursion (Good setup log) cs → InTurn (filter p cs) → filter p (in_order cs) ≡ filter p cs
turn_in_order setup log p [] g t = refl
turn_in_order setup log p (c ∷ cs) g t =
    let Q : Bool → Type 0 = λ b. p c ≡ b → InTurn (cond b (c ∷ filter p cs) (filter p cs)) → filter p (inserted c (in_order cs)) ≡ cond b (c ∷ filter p cs) (filter p cs) in
    let other : Q false = λ n k. filter_no p c (in_order cs) n ∙ turn_in_order setup log p cs g.1 k in
    let picked : Q true = λ y k.
    let rest : filter p (in_order cs) ≡ filter p cs = turn_in_order setup log p cs g.1 (turn_rest c (filter p cs) k) in
    let line : InLine (c ∷ filter p cs) = turn_line setup log (c ∷ filter p cs) (g.0, all_kept_by p (Good setup log) cs g.1) k in
    let before : AllByRecursion (λ d. is_before c d ≡ true) (filter p cs) = All-weaker (Fits c) (λ d. is_before c d ≡ true) (λ d f. fits_before c d f) (filter p cs) line.0 in
    filter_yes p c (in_order cs) y (subst (AllByRecursion (λ d. is_before c d ≡ true)) (sym rest) before) ∙ ap (λ (xs : List Call). c ∷ xs) rest in
    (elim (p c) as Q [ true ↦ picked | false ↦ other ]) refl t

-- ---- One thread

executes : (setup : Setup) (log : List LogStep) (list : List Listed) (cs : List Call) → IsPrefix list (list_of log) → AllByRecursion (λ c. length list ≤ start_of c) cs → InLine cs → AllByRecursion (Good setup log) cs →
    Executes setup list cs
executes setup log list [] b n l g = tt
executes setup log list (c ∷ cs) b n l g =
    let f : Facts setup c.before c.after c.outcome = g.0.facts in
    let within : IsPrefix (list_of c.after) (list_of log) = list_of-prefix c.after log g.0.one in
    let part : IsPrefix (found c) (list_of log) = prefix_trans (found c) (list_of c.after) (list_of log) (drop (start_of c) (list_of c.after), take-append-drop (start_of c) (list_of c.after)) within in
    let many : length (found c) ≡ start_of c = omega (arith, length-take (start_of c) (list_of c.after), f.end) in
    let next : AllByRecursion (λ d. length (list_of c.after) ≤ start_of d) cs = All-weaker (Fits c) (λ d. length (list_of c.after) ≤ start_of d) (λ d h. omega (arith, h, f.end)) cs l.0 in (
      record { others = prefix_shorter list (found c) (list_of log) b part (omega (arith, n.0, many)); returned = f.returned; appends = f.appends },
      executes setup log (list_of c.after) cs within next l.1 g.1,
    )

from_nothing : (cs : List Call) → AllByRecursion (λ c. 0 ≤ start_of c) cs
from_nothing [] = tt
from_nothing (c ∷ cs) = (omega arith, from_nothing cs)

-- ---- The whole list

abbrev all_appended : List Call → List Listed
all_appended cs = flat_map (λ (c : Call). appended c.outcome) cs

record Gapless (list : List Listed) (n : ℕ) (cs : List Call) : Type 0 where
  fits : n + length (all_appended cs) ≤ length list
  all : n + length (all_appended cs) ≡ length list → drop n list ≡ all_appended cs

gapless : (setup : Setup) (log : List LogStep) (n : ℕ) (cs : List Call) → n ≤ length (list_of log) → AllByRecursion (λ c. n ≤ start_of c) cs → InLine cs → AllByRecursion (Good setup log) cs → Gapless (list_of log) n cs
gapless setup log n [] b a l g = record { fits = omega (arith, b); all = λ e. drop_all n (list_of log) (omega (arith, e)) }
gapless setup log n (c ∷ cs) b a l g =
    let f : Facts setup c.before c.after c.outcome = g.0.facts in
    let within : IsPrefix (list_of c.after) (list_of log) = list_of-prefix c.after log g.0.one in
    let long : end_of c ≤ length (list_of log) = omega (arith, f.end, prefix_length (list_of c.after) (list_of log) within) in
    let rest : Gapless (list_of log) (end_of c) cs = gapless setup log (end_of c) cs long l.0 l.1 g.1 in
    let count : length (all_appended (c ∷ cs)) ≡ length (appended c.outcome) + length (all_appended cs) = length-append (appended c.outcome) (all_appended cs) in
    let many : length (found c) ≡ start_of c = omega (arith, length-take (start_of c) (list_of c.after), f.end) in
    let list : list_of log ≡ found c ++ (appended c.outcome ++ within.0) = sym within.1 ∙ ap (λ (xs : List Listed). xs ++ within.0) f.appends ∙ append_assoc (found c) (appended c.outcome) within.0 in
    let here : drop (start_of c) (list_of log) ≡ appended c.outcome ++ within.0 = ap (drop (start_of c)) list ∙ drop_at (found c) (appended c.outcome ++ within.0) (start_of c) many in
    let behind : drop (end_of c) (list_of log) ≡ within.0 = ap (drop (end_of c)) (sym within.1) ∙ drop_at (list_of c.after) within.0 (end_of c) (sym f.end) in
    record {
      fits = omega (arith, a.0, rest.fits, count);
      all = λ e.
          let at : n ≡ start_of c = omega (arith, a.0, rest.fits, count, e) in
          let more : drop (end_of c) (list_of log) ≡ all_appended cs = rest.all (omega (arith, at, count, e)) in
          ap (λ (k : ℕ). drop k (list_of log)) at ∙ here ∙ ap (λ (xs : List Listed). appended c.outcome ++ xs) (sym behind ∙ more);
    }

same_count : (cs ds : List Call) → IsPermutation cs ds → length (all_appended ds) ≡ length (all_appended cs)
same_count cs ds h =
    length-flat_map (λ (c : Call). appended c.outcome) ds ∙ sum_by-IsPermutation (λ (c : Call). length (appended c.outcome)) cs ds h ∙ sym (length-flat_map (λ (c : Call). appended c.outcome) cs)

-- ---- Answers stay

stays_over : (config : Config) (xs ys : List Listed) (place : ℕ) (a : Answer) (o : Option PlacedAnswer) → 0 < config.limits.batch → answer config xs place ≡ o → option_map given_of o ≡ Some a → option_map given_of (answer config (xs ++ ys) place) ≡ Some a
stays_over config xs ys place a None room h e = cc
stays_over config xs ys place a (Some p) room h e = ap (option_map given_of) (answer_more config xs ys place p room h) ∙ e

stays : (setup : Setup) (log before after : List LogStep) (o : Outcome) → 0 < setup.config.limits.batch → IsPrefix after log → IsPromised setup before after o → Stays setup log o
stays setup log before after (Posted arrival first slots) room b p = tt
stays setup log before after (Ticked moment place) room b p = tt
stays setup log before after (Rejected input refusal) room b p = tt
stays setup log before after (Answered place a) room b p =
    let q : IsPrefix (list_of after) (list_of log) = list_of-prefix after log b in
    subst (λ (xs : List Listed). option_map given_of (answer setup.config xs place) ≡ Some a) q.1 (stays_over setup.config (list_of after) q.0 place a (answer setup.config (list_of after) place) room refl p)

-- ---- The law

pub sequentially_consistent : SequentiallyConsistent
sequentially_consistent setup log calls room h =
    let all : AllByRecursion (Good setup log) calls = All-weaker (IsCall setup log) (Good setup log) (λ c i. good setup log c i) calls h.each in
    let sorted : AllByRecursion (Good setup log) (in_order calls) = all_in_order (Good setup log) calls all in
    let line : InLine (in_order calls) = line_in_order setup log calls all h.distinct in
    let same : IsPermutation calls (in_order calls) = same_calls calls in
    record {
      same = same;
      executes = executes setup log [] (in_order calls) (list_of log, refl) (from_nothing (in_order calls)) line sorted;
      turn = λ p t. turn_in_order setup log p calls all t;
      whole = λ e. (gapless setup log 0 (in_order calls) (omega arith) (from_nothing (in_order calls)) line sorted).all (omega (arith, e, same_count calls (in_order calls) same));
      stays = All-weaker (IsCall setup log) (λ (c : Call). Stays setup log c.outcome) (λ c i. stays setup log c.before c.after c.outcome room i.one i.promised) calls h.each;
    }
