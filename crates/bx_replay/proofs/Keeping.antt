-- Proves what outs print, given what is kept of their inputs.
use Rattle.std.proofs.Common.{◌≡◌, ℕ, ◌+◌, ◌<◌, Bool, true, false, cond, Option, Some, None, option_map, List, [], ◌∷◌, ◌++◌, length, map, take, get_or, slice_get, string_bytes, codes, OnOk, Result, Ok, Err, refl, sym, ap, ◌∙◌, subst, arith, append-nil, append_assoc}
use Rattle.std.specs.{BTreeMap.is_at, Io.KnownBytes.Appends, Ordering.nat_cmp}
use Rattle.std.proofs.lemmas.{Bool.Decides.nat_tests, Grind.flat_map-append, List.map-append, List.take_more, Option.slice_get_within}
use Rattle.bx_replay.specs.Kept.{IsKept, AreKept, PrintsOuts, held_texts}
use Rattle.bx_replay.specs.declared.kept.PendingLine.{PendingLine}
use Rattle.bx_entry.specs.Words.{ReadInput, Out}
use Rattle.bx_script.specs.Words.{Numbered, line_text, result_text, out_by, held_text, is_tick}
use Rattle.bx_fanout.specs.Stages.{seen_out}
use Rattle.bx_fanout.specs.declared.out.Out as fanout
use Rattle.bx_theory.specs.Lines.{outs_text}
use Rattle.bx_theory.proofs.Lines.{get_front}
use Rattle.bx_script.specs.Printing as script

-- ---- Writing

pub appends_more : (a b c : Option (List ℕ)) (xs ys : List ℕ) → Appends a b xs → Appends b c ys → Appends a c (xs ++ ys)
appends_more None b c xs ys h k = tt
appends_more (Some a) None c xs ys h k = absurd h
appends_more (Some a) (Some b) None xs ys h k = absurd k
appends_more (Some a) (Some b) (Some c) xs ys h k = k ∙ ap (λ (bs : List ℕ). bs ++ ys) h ∙ append_assoc a xs ys

pub appends_none : (a : Option (List ℕ)) → Appends a a []
appends_none None = tt
appends_none (Some a) = sym (append-nil a)

pub appends_same : (a b : Option (List ℕ)) (xs ys : List ℕ) → xs ≡ ys → Appends a b xs → Appends a b ys
appends_same a b xs ys e h = subst (Appends a b) e h

-- ---- One out

pub out_same : (numbered : List Numbered) (o : Out) (a : PendingLine) (k : IsKept numbered o.input a) →
    result_text (script.numbered a.line (option_map string_bytes a.callback) k.one.input) k.one.input o.result ≡ outs_text numbered (o ∷ [])
out_same numbered o a k =
    let n : Numbered = k.one in
    ap (λ (line : ℕ). result_text (script.numbered line (option_map string_bytes a.callback) n.input) n.input o.result) k.line
    ∙ ap (λ (callback : Option (List ℕ)). result_text (script.numbered n.line callback n.input) n.input o.result) k.callback
    ∙ ap (out_by o) (sym k.there)
    ∙ sym (append-nil (out_by o (slice_get numbered o.input)))

pub held_same : (numbered : List Numbered) (i : ℕ) (a : PendingLine) (text : ℕ → List ℕ) → IsKept numbered i a → ((n : Numbered) → text n.line ≡ held_text (Some n)) → text a.line ≡ held_text (slice_get numbered i)
held_same numbered i a text k e = ap text k.line ∙ e k.one ∙ ap held_text (sym k.there)

pub record TicksAs (tick : Bool) : Type 0 where
  pub read : ReadInput
  pub ticks : is_tick read ≡ tick

-- ---- What is kept

pub at_is : (a b : ℕ) → is_at (nat_cmp a) b ≡ true → b ≡ a
at_is a b e = grind (arith, nat_tests)

pub kept_less : (numbered : List Numbered) (old new : ℕ → Option PendingLine) (test : ℕ → Bool) → ((i : ℕ) → new i ≡ cond (test i) None (old i)) → AreKept numbered old → AreKept numbered new
kept_less numbered old new test is kept =
    λ i a found.
    let by : (b : Bool) → cond b None (old i) ≡ Some a → IsKept numbered i a = λ b. (elim b as (λ c. cond c None (old i) ≡ Some a → IsKept numbered i a) [ true ↦ λ h. cc | false ↦ λ h. kept i a h ]) in
    by (test i) (sym (is i) ∙ found)

kept_longer : (numbered ones : List Numbered) (i : ℕ) (a : PendingLine) → IsKept numbered i a → IsKept (numbered ++ ones) i a
kept_longer numbered ones i a k = record {
  one = k.one;
  there = get_front numbered ones i (slice_get_within numbered i k.one k.there) ∙ k.there;
  line = k.line;
  callback = k.callback;
  tick = k.tick;
}

get_last : (ns : List Numbered) (n : Numbered) → slice_get (ns ++ n ∷ []) (length ns) ≡ Some n
get_last [] n = refl
get_last (m ∷ ns) n = get_last ns n

pub kept_last : (numbered : List Numbered) (one : Numbered) (a : PendingLine) → a.line ≡ one.line → option_map string_bytes a.callback ≡ one.callback → a.tick ≡ is_tick one.input →
    IsKept (numbered ++ one ∷ []) (length numbered) a
kept_last numbered one a line callback tick = record { one = one; there = get_last numbered one; line = line; callback = callback; tick = tick }

pub kept_more : (numbered : List Numbered) (one : Numbered) (old new : ℕ → Option PendingLine) (a : PendingLine) (test : ℕ → Bool) →
    ((i : ℕ) → new i ≡ cond (test i) (Some a) (old i)) → ((i : ℕ) → test i ≡ true → i ≡ length numbered) → IsKept (numbered ++ one ∷ []) (length numbered) a → AreKept numbered old → AreKept (numbered ++ one ∷ []) new
kept_more numbered one old new a test is at last kept =
    λ i b found.
    let by : (t : Bool) → test i ≡ t → cond t (Some a) (old i) ≡ Some b → IsKept (numbered ++ one ∷ []) i b =
    λ t. (elim t as (λ c. test i ≡ c → cond c (Some a) (old i) ≡ Some b → IsKept (numbered ++ one ∷ []) i b) [
      | true ↦ λ e h. let same : a ≡ b = cc in subst (λ (x : PendingLine). IsKept (numbered ++ one ∷ []) i x) same (subst (λ (j : ℕ). IsKept (numbered ++ one ∷ []) j a) (sym (at i e)) last)
      | false ↦ λ e h. kept_longer numbered (one ∷ []) i b (kept i b h)
    ]) in
    by (test i) refl (sym (is i) ∙ found)

pub outs_none : (numbered : List Numbered) (a : Option (List ℕ)) (kept : ℕ → Option PendingLine) → AreKept numbered kept → PrintsOuts numbered [] a a kept
outs_none numbered a kept k = record { kept = k; appends = appends_none a }

pub outs_more : (numbered : List Numbered) (os us : List Out) (a b c : Option (List ℕ)) (kept new : ℕ → Option PendingLine) →
    PrintsOuts numbered os a b kept → (AreKept numbered kept → PrintsOuts numbered us b c new) → PrintsOuts numbered (os ++ us) a c new
outs_more numbered os us a b c kept new p q =
    let r : PrintsOuts numbered us b c new = q p.kept in
    record {
      kept = r.kept;
      appends = appends_same a c (outs_text numbered os ++ outs_text numbered us) (outs_text numbered (os ++ us)) (sym (flat_map-append (λ (o : Out). out_by o (slice_get numbered o.input)) os us))
          (appends_more a b c (outs_text numbered os) (outs_text numbered us) p.appends r.appends);
    }

-- ---- Steps

pub on_ok_both : {A E P Q R : Type 0} (r : Result A E) → (P → Q → R) → OnOk r P → OnOk r Q → OnOk r R
on_ok_both (Ok x) f h k = f h k
on_ok_both (Err e) f h k = h

pub on_ok_each : {A E N Q : Type 0} (r : Result A E) (P : N → Type 0) → ((n : N) → OnOk r (P n)) → (((n : N) → P n) → Q) → OnOk r Q
on_ok_each (Ok x) P h f = f h
on_ok_each (Err e) P h f = tt

pub out_printed : (numbered : List Numbered) (o : Out) (a : PendingLine) (old new : ℕ → Option PendingLine) (test : ℕ → Bool) (before after : Option (List ℕ)) → old o.input ≡ Some a → ((i : ℕ) → new i ≡ cond (test i) None (old i)) →
    ((read : TicksAs a.tick) → Appends before after (result_text (script.numbered a.line (option_map string_bytes a.callback) read.read) read.read o.result)) → AreKept numbered old → PrintsOuts numbered (o ∷ []) before after new
out_printed numbered o a old new test before after found is appends kept =
    let k : IsKept numbered o.input a = kept o.input a found in
    record {
      kept = kept_less numbered old new test is kept;
      appends = appends_same before after (result_text (script.numbered a.line (option_map string_bytes a.callback) k.one.input) k.one.input o.result) (outs_text numbered (o ∷ [])) (out_same numbered o a k)
          (appends (record { read = k.one.input; ticks = sym k.tick }));
    }

pub held_printed : (numbered : List Numbered) (is : List ℕ) (i : ℕ) (a : PendingLine) (old : ℕ → Option PendingLine) (first before after : Option (List ℕ)) → old i ≡ Some a → AreKept numbered old →
    Appends first before (held_texts numbered is) → Appends before after (line_text a.line (codes "held")) → Appends first after (held_texts numbered (is ++ i ∷ []))
held_printed numbered is i a old first before after found kept h k =
    let one : line_text a.line (codes "held") ≡ held_texts numbered (i ∷ []) = held_same numbered i a (λ (line : ℕ). line_text line (codes "held")) (kept i a found) (λ n. refl) ∙ sym (append-nil (held_text (slice_get numbered i))) in
    appends_same first after (held_texts numbered is ++ line_text a.line (codes "held")) (held_texts numbered (is ++ i ∷ []))
    (ap (λ (t : List ℕ). held_texts numbered is ++ t) one ∙ sym (flat_map-append (λ (index : ℕ). held_text (slice_get numbered index)) is (i ∷ [])))
    (appends_more first before after (held_texts numbered is) (line_text a.line (codes "held")) h k)

pub outs_next : (os : List fanout.Out) (i : ℕ) (o : fanout.Out) → i < length os → o ≡ get_or os i o → map seen_out (take (i + 1) os) ≡ map seen_out (take i os) ++ seen_out o ∷ []
outs_next os i o h e =
    ap (map seen_out) (take_more os i o h ∙ ap (λ (u : fanout.Out). take i os ++ u ∷ []) (sym e))
    ∙ map-append seen_out (take i os) (o ∷ [])

pub ok_of : {A E P : Type 0} (r : Result A E) → P → OnOk r P
ok_of (Ok x) h = h
ok_of (Err e) h = tt
