-- An input with an unanswered message is a request of one message, a held connect.
use Rattle.std.proofs.Common.{◌≡◌, ℕ, suc, ◌+◌, ◌<◌, max, Bool, true, false, not, is_some, Option, Some, None, List, [], ◌∷◌, ◌++◌, length, map, filter, fold, option_map, slice_get, ◌==◌, refl, sym, ap, ◌∙◌, subst, arith, append-nil, append_assoc, ne_eqb}
use Rattle.std.proofs.lemmas.Bool.{cond_both, both_ways, not-true}
use Rattle.std.specs.List.{AllByRecursion}
use Rattle.bx_advice.specs.declared.config.Config.{Config}
use Rattle.bx_message.specs.declared.message.Message.{Message}
use Rattle.bx_message.specs.MessageKinds.{message_kind_of}
use Rattle.bx_entry.specs.Words.{Listed, Post, Posted, listed_from, ReadInput, Request, refusal_of, added_by, Registry, Judged, PlaceSlot, Ready, Waiting, NoSlot, refusal, hold_of, registry, entries_of, answer_by, answer_at, answer_in, answer, Intake, Taking, taken_as, take_in, taken_in, numbers_from, places_of, latest}
use Rattle.bx_entry.specs.declared.{input.Refusal.Refusal, entry.Rider.Rider}
use Rattle.bx_theory.specs.Opens.{Numbered, numbered_from, is_whole}
use Rattle.bx_theory.specs.Sole.{IsConnect, OpenAreSole}
use Rattle.bx_theory.proofs.Verdicts.{Slotted, each_verdict, found_there, judge_is, next_found, next_noted, registry_next, slotted, verdict_of}
use Rattle.bx_theory.proofs.{Lists.judged_length, Senders.sender_reads, Stages.live_from_opening_to_first_close}
use Rattle.bx_theory.proofs.AtOnce.{There, AllThere, latest_there, messages_there, rider_served, there_stays}

-- ---- The places of an input's messages

record Stands (list : List Listed) (d : Intake) (input : ReadInput) : Type 0 where
  before : List Listed
  behind : List Listed
  whole : before ++ (added_by input ++ behind) ≡ list
  first : d.first ≡ length before
  count : d.count ≡ length (added_by input)

abbrev Placed : List Listed → Intake → Option Refusal → Type 0
Placed list d None = Stands list d d.input
Placed list d (Some refusal) = d.count ≡ 0

placed_more : (list more : List Listed) (d : Intake) (o : Option Refusal) → Placed list d o → Placed (list ++ more) d o
placed_more list more d None s = record {
  before = s.before;
  behind = s.behind ++ more;
  whole = sym (append_assoc s.before (added_by d.input ++ s.behind) more ∙ ap (λ (xs : List Listed). s.before ++ xs) (append_assoc (added_by d.input) s.behind more)) ∙ ap (λ (xs : List Listed). xs ++ more) s.whole;
  first = s.first;
  count = s.count;
}
placed_more list more d (Some refusal) s = s

abbrev EachPlaced : List Listed → List Intake → Type 0
EachPlaced list [] = Unit {0}
EachPlaced list (d ∷ ds) = Placed list d d.refusal × EachPlaced list ds

each_more : (list more : List Listed) (ds : List Intake) → EachPlaced list ds → EachPlaced (list ++ more) ds
each_more list more [] e = tt
each_more list more (d ∷ ds) e = (placed_more list more d d.refusal e.0, each_more list more ds e.1)

each_push : (list : List Listed) (ds : List Intake) (d : Intake) → EachPlaced list ds → Placed list d d.refusal → EachPlaced list (ds ++ d ∷ [])
each_push list [] d e h = (h, tt)
each_push list (c ∷ ds) d e h = (e.0, each_push list ds d e.1 h)

taken_as_placed : (t : Taking) (input : ReadInput) (o : Option Refusal) → EachPlaced t.list t.intake → EachPlaced (taken_as t input o).list (taken_as t input o).intake
taken_as_placed t input None e =
    each_push (t.list ++ added_by input) t.intake _ (each_more t.list (added_by input) t.intake e)
    (record { before = t.list; behind = []; whole = ap (λ (xs : List Listed). t.list ++ xs) (append-nil (added_by input)); first = refl; count = refl })
taken_as_placed t input (Some refusal) e = each_push t.list t.intake _ e refl

run_placed : (t : Taking) (inputs : List ReadInput) → EachPlaced t.list t.intake → EachPlaced (fold take_in t inputs).list (fold take_in t inputs).intake
run_placed t [] e = e
run_placed t (i ∷ inputs) e = run_placed (take_in t i) inputs (taken_as_placed t i (refusal_of (length t.list) i) e)

-- ---- The result of a message

rider_answered : (config : Config) (xs : List Listed) (x : Listed) (rider : Rider) → (verdict_of config (registry config xs) x).rides ≡ Some rider → There (answer config (xs ++ x ∷ []) (length xs))
rider_answered config xs x rider rides =
    let r : Registry = registry config xs in
    subst (λ (t : Registry). There (answer_in config t (length xs))) (sym (registry_next config xs x ∙ judge_is config r x))
    (subst (λ (n : ℕ). There (answer_in config (next_noted (registry config xs) x (verdict_of config (registry config xs) x)) n)) (judged_length config xs)
    (each_verdict config r (λ y v. v.rides ≡ Some rider → There (answer_in config (next_noted r y v) (length r.judged))) (record {
      refuses = λ p sender error e. cc;
      opens = λ p e. cc;
      none = λ p e. cc;
      serves = λ p s named e.
          rider_served config r (max r.clock p.moment) p (message_kind_of p.message.channel) s (hold_of config p) (live_from_opening_to_first_close config s.number (entries_of r) ∙ sender_reads config xs p s named) rider e;
      ticks = λ moment e. cc;
    }) x rides))

-- ---- Inputs that are not complete

abbrev NotWhole : Config → List Listed → List ℕ → Type 0
NotWhole config list ps = is_some (latest 0 (map (answer_in config (registry config list)) ps)) ≡ false

not_there : (config : Config) (list : List Listed) (ps : List ℕ) → NotWhole config list ps → AllThere (map (answer_in config (registry config list)) ps) → ⊥
not_there config list ps n d = both_ways (is_some (latest 0 (map (answer_in config (registry config list)) ps))) n (latest_there 0 (map (answer_in config (registry config list)) ps) d)

record Waits (config : Config) (list : List Listed) (place : ℕ) : Type 0 where
  session : ℕ
  waits : option_map (λ (j : Judged). j.slot) (slice_get (registry config list).judged place) ≡ Some (Waiting session)
  unridden : option_map (λ (j : Judged). j.entry.rides) (slice_get (registry config list).judged place) ≡ Some None

not_ridden : (config : Config) (list : List Listed) (place : ℕ) (rides : Option Rider) → ((rider : Rider) → rides ≡ Some rider → There (answer_in config (registry config list) place)) → NotWhole config list (place ∷ []) → rides ≡ None
not_ridden config list place None h n = refl
not_ridden config list place (Some rider) h n = absurd (not_there config list (place ∷ []) n (h rider refl, tt))

waits_by : (config : Config) (list : List Listed) (place : ℕ) (p : Posted) (j : Judged) (slot : PlaceSlot) → slice_get (registry config list).judged place ≡ Some j → j.slot ≡ slot → Slotted (Post p) slot →
    ((rider : Rider) → j.entry.rides ≡ Some rider → There (answer_in config (registry config list) place)) → NotWhole config list (place ∷ []) → Waits config list place
waits_by config list place p j (Ready reply) e s i h n =
    let there : There (answer_in config (registry config list) place) = record {
      answer = record { place = place; events = []; reply = reply };
      is = ap (answer_at config (entries_of (registry config list)) place) e ∙ ap (answer_by config (entries_of (registry config list)) place) s;
    } in
    absurd (not_there config list (place ∷ []) n (there, tt))
waits_by config list place p j (Waiting number) e s i h n = record {
  session = number;
  waits = ap (option_map (λ (k : Judged). k.slot)) e ∙ ap Some s;
  unridden = ap (option_map (λ (k : Judged). k.entry.rides)) e ∙ ap Some (not_ridden config list place j.entry.rides h n);
}
waits_by config list place p j NoSlot e s i h n = absurd i

one_waits : (config : Config) (list xs ys : List Listed) (p : Posted) → 0 < config.limits.batch → xs ++ (Post p ∷ ys) ≡ list → NotWhole config list (length xs ∷ []) → Waits config list (length xs)
one_waits config list xs ys p room e n =
    let j : Judged = next_found config (registry config xs) (Post p) in
    waits_by config list (length xs) p j j.slot (ap (λ (zs : List Listed). slice_get (registry config zs).judged (length xs)) (sym e) ∙ found_there config xs (Post p) ys) refl (slotted config (registry config xs) (Post p))
    (λ rider g. there_stays config list xs ys (Post p) room e (rider_answered config xs (Post p) rider g)) n

record Single (config : Config) (list : List Listed) (d : Intake) (input : ReadInput) : Type 0 where
  sole : places_of d input ≡ d.first ∷ []
  waits : Waits config list d.first

request_single : (config : Config) (list : List Listed) (d : Intake) (moment nonce : ℕ) (ms : List Message) → 0 < config.limits.batch → Stands list d (Request moment nonce ms) →
    NotWhole config list (numbers_from d.first d.count) → Single config list d (Request moment nonce ms)
request_single config list d moment nonce [] room s n = absurd (not_there config list [] (subst (λ (k : ℕ). NotWhole config list (numbers_from d.first k)) s.count n) tt)
request_single config list d moment nonce (m ∷ []) room s n =
    let one : numbers_from d.first d.count ≡ d.first ∷ [] = ap (numbers_from d.first) s.count in
    let here : NotWhole config list (length s.before ∷ []) = subst (λ (k : ℕ). NotWhole config list (k ∷ [])) s.first (subst (NotWhole config list) one n) in
    record {
      sole = one;
      waits = subst (Waits config list) (sym s.first) (one_waits config list s.before s.behind _ room s.whole here);
    }
request_single config list d moment nonce (m ∷ k ∷ ms) room s n =
    let many : (length (m ∷ k ∷ ms) == 1) ≡ false = ne_eqb (length (m ∷ k ∷ ms)) 1 (λ e. absurd (let l : suc (suc (length ms)) ≡ 1 = e in omega arith)) in
    let whole : s.before ++ (listed_from moment nonce false false (m ∷ k ∷ ms) ++ s.behind) ≡ list =
    subst (λ (b : Bool). s.before ++ (listed_from moment nonce b false (m ∷ k ∷ ms) ++ s.behind) ≡ list) many s.whole in
    let count : d.count ≡ length (listed_from moment nonce false false (m ∷ k ∷ ms)) = subst (λ (b : Bool). d.count ≡ length (listed_from moment nonce b false (m ∷ k ∷ ms))) many s.count in
    let places : numbers_from d.first d.count ≡ numbers_from (length s.before) (length (listed_from moment nonce false false (m ∷ k ∷ ms))) =
    ap (numbers_from d.first) count ∙ ap (λ (f : ℕ). numbers_from f (length (listed_from moment nonce false false (m ∷ k ∷ ms)))) s.first in
    absurd (not_there config list (numbers_from (length s.before) (length (listed_from moment nonce false false (m ∷ k ∷ ms)))) (subst (NotWhole config list) places n)
    (messages_there config list s.before s.behind moment nonce false (m ∷ k ∷ ms) room whole))

stands_single : (config : Config) (list : List Listed) (d : Intake) (input : ReadInput) → 0 < config.limits.batch → Stands list d input → NotWhole config list (places_of d input) → Single config list d input
stands_single config list d (Request moment nonce ms) room s n = request_single config list d moment nonce ms room s n
stands_single config list d _ room s n = absurd (not_there config list [] n tt)

pub none_missing : (config : Config) (list : List Listed) (d : Intake) (input : ReadInput) → d.count ≡ 0 → is_some (latest 0 (map (answer_in config (registry config list)) (places_of d input))) ≡ true
none_missing config list d (Request moment nonce ms) h = subst (λ (k : ℕ). is_some (latest 0 (map (answer_in config (registry config list)) (numbers_from d.first k))) ≡ true) (sym h) refl
none_missing config list d _ h = refl

is_connect_by : (config : Config) (list : List Listed) (o : Numbered) (refusal : Option Refusal) → 0 < config.limits.batch → o.intake.refusal ≡ refusal → Placed list o.intake refusal →
    is_whole config (registry config list) o ≡ false → IsConnect config list o
is_connect_by config list o None room e p n =
    let s : Single config list o.intake o.intake.input = stands_single config list o.intake o.intake.input room p n in
    record { session = s.waits.session; accepted = e; sole = s.sole; waits = s.waits.waits; unridden = s.waits.unridden }
is_connect_by config list o (Some refusal) room e p n = absurd (both_ways (is_whole config (registry config list) o) n (none_missing config list o.intake o.intake.input p))

opens_connect : (config : Config) (list : List Listed) (number : ℕ) (ds : List Intake) → 0 < config.limits.batch → EachPlaced list ds →
    AllByRecursion (IsConnect config list) (filter (λ (o : Numbered). not (is_whole config (registry config list) o)) (numbered_from number ds))
opens_connect config list number [] room e = tt
opens_connect config list number (d ∷ ds) room e =
    let o : Numbered = record { number = number; intake = d } in
    let rest : List Numbered = filter (λ (o : Numbered). not (is_whole config (registry config list) o)) (numbered_from (number + 1) ds) in
    let others : AllByRecursion (IsConnect config list) (filter (λ (o : Numbered). not (is_whole config (registry config list) o)) (numbered_from (number + 1) ds)) = opens_connect config list (number + 1) ds room e.1 in
    cond_both (not (is_whole config (registry config list) o)) (o ∷ rest) rest (AllByRecursion (IsConnect config list))
    (λ h. (is_connect_by config list o d.refusal room refl e.0 (not-true (is_whole config (registry config list) o) h), others)) (λ h. others)

pub incomplete_input_is_one_held_connect : OpenAreSole
incomplete_input_is_one_held_connect config inputs room =
    let t : Taking = taken_in inputs in
    opens_connect config t.list 0 t.intake room (run_placed (record { list = []; intake = [] }) inputs tt)
