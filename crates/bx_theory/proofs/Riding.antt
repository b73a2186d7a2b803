-- Which messages of a request are riders, and what a rider gets.
use Rattle.std.proofs.Common.{take-append-drop, ◌≡◌, ◌↔◌, ℕ, suc, ◌+◌, ◌<◌, ◌||◌, ne_eqb, max, Bool, true, false, cond, not, ◌&&◌, Option, Some, None, List, [], ◌∷◌, ◌++◌, length, take, drop, flat_map, fold, ◌==◌, refl, sym, ap, ◌∙◌, subst, arith, true≢false, append-nil, append_assoc, eqb-true, eq-eqb}
use Rattle.std.proofs.lemmas.Bool.{cond_both, cond-true, cond-false, and_parts, both_ways, not-true}
use Rattle.std.proofs.lemmas.{List.length_push, Grind.common_steps, List.Sums.fold-append}
use Rattle.std.proofs.{Math.Seq.drop-append_seam, Math.Seq.take-append_seam, ByRecursion.All-push}
use Rattle.std.specs.List.{AllByRecursion}
use Rattle.bx_advice.specs.declared.{config.Config.Config, error.Error.Error}
use Rattle.bx_message.specs.declared.{message.Message.Message, message_kind.MessageKind.MessageKind}
use Rattle.bx_message.specs.MessageKinds.{message_kind_of, is_handshake}
use Rattle.bx_entry.specs.Inputs.{ReadInput, Request, Unread, Tick, added_by}
use Rattle.bx_entry.specs.Words.{Listed, Post, Posted, listed_from, State, judged_by, Registry, Registered, Judged, PlaceSlot, is_one, joined, senders_after, may_ride, is_rider, rider_for, kind_for, slot_for, judge, judged_by, named_by, refusal, hold_of, registry, empty_registry, entries_of, entries, noted, state_of, Session, Stage, Unopened, Live, is_live, session, step, step_by, rider_of, is_riding, ridden, ridden_by, ride_portion}
use Rattle.bx_entry.specs.Listing as messages
use Rattle.bx_entry.specs.declared.{entry.Entry.Entry, entry.Rider.Rider, entry.EntryKind.EntryKind, senders.Senders.Senders}
use Rattle.bx_entry.specs.declared.senders.Senders.TheVariants.{NoneYet, Only, Mixed}
use Rattle.bx_theory.specs.Readings.{is_from, opens_by}
use Rattle.bx_theory.specs.Riding.{found_after, is_own, may_have_rider, IsRiderOf, rider_session, RiderReading, NothingRidesBeside, OthersNeverRide, GivesRider, RiderGiven}
use Rattle.bx_theory.proofs.Verdicts.{by_verdict, each_found, found_from, judged_after, verdict_of}
use Rattle.bx_theory.proofs.{Dues.named_session, Lists.judged_length, Lives.found_of, Stages.Next, Stages.next_by, Stages.step_by_next}
use Rattle.bx_theory.proofs.Riders.{WasOpened, step_by_a, acks_later, entries_all}

-- ---- Messages of one session

abbrev Own : ℕ → List Judged → Type 0
Own number js = AllByRecursion (λ (i : Judged). is_own number i ≡ true) js

own_before : (number : ℕ) (js : List Judged) (j : Judged) → Own number (js ++ j ∷ []) → Own number js
own_before number [] j d = tt
own_before number (i ∷ js) j d = (d.0, own_before number js j d.1)

own_last : (number : ℕ) (js : List Judged) (j : Judged) → Own number (js ++ j ∷ []) → is_own number j ≡ true
own_last number [] j d = d.0
own_last number (i ∷ js) j d = own_last number js j d.1

from_one : (n k : ℕ) (o : Option ℕ) → is_from n o ≡ true → is_from k o ≡ true → n ≡ k
from_one n k None h g = absurd (true≢false (sym h))
from_one n k (Some m) h g = eqb-true n m h ∙ sym (eqb-true k m g)

same_own : (n k : ℕ) (j : Judged) → is_own n j ≡ true → is_own k j ≡ true → n ≡ k
same_own n k j h g = from_one n k j.sender (and_parts (is_from n j.sender) (not (opens_by n j.entry.kind)) h).0 (and_parts (is_from k j.sender) (not (opens_by k j.entry.kind)) g).0

same_owner : (n k : ℕ) (js : List Judged) → 0 < length js → Own n js → Own k js → n ≡ k
same_owner n k [] l d e = absurd (omega arith)
same_owner n k (j ∷ js) l d e = same_own n k j d.0 e.0

none_own : (n : ℕ) (j : Judged) → j.sender ≡ None → is_own n j ≡ true → ⊥
none_own n j e h = true≢false (sym (sym (ap (is_from n) e) ∙ (and_parts (is_from n j.sender) (not (opens_by n j.entry.kind)) h).0))

own_is : (m : ℕ) (j : Judged) → j.sender ≡ Some m → opens_by m j.entry.kind ≡ false → is_own m j ≡ true
own_is m j e o = ap (λ (sender : Option ℕ). is_from m sender && not (opens_by m j.entry.kind)) e ∙ ap (λ (b : Bool). (m == m) && not b) o ∙ ap (λ (b : Bool). b && true) (eq-eqb m m refl)

-- ---- The senders of a request so far

abbrev Says : Senders → List Judged → Type 0
Says NoneYet js = js ≡ []
Says (Only n) js = (0 < length js) × Own n js
Says Mixed js = (n : ℕ) → Own n js → ⊥

longer_push : (js : List Judged) (j : Judged) → 0 < length (js ++ j ∷ [])
longer_push js j = let l = length_push js j in omega arith

mixed_says : (js : List Judged) (j : Judged) → ((n : ℕ) → is_own n j ≡ true → ⊥) → Says Mixed (js ++ j ∷ [])
mixed_says js j h = λ n d. h n (own_last n js j d)

joined_says : (x : Senders) (js : List Judged) (j : Judged) (m : ℕ) → is_own m j ≡ true → Says x js → Says (joined x m) (js ++ j ∷ [])
joined_says NoneYet js j m o h = (longer_push js j, All-push (λ (i : Judged). is_own m i ≡ true) js j (subst (Own m) (sym h) tt) o)
joined_says (Only other) js j m o h =
    cond_both (other == m) (Only other) Mixed (λ (x : Senders). Says x (js ++ j ∷ []))
    (λ q. (longer_push js j, All-push (λ (i : Judged). is_own other i ≡ true) js j h.1 (subst (λ (n : ℕ). is_own n j ≡ true) (sym (eqb-true other m q)) o)))
    (λ q n d. both_ways (other == m) q (eq-eqb other m (same_owner other n js h.0 h.1 (own_before n js j d) ∙ same_own n m j (own_last n js j d) o)))
joined_says Mixed js j m o h = λ n d. h n (own_before n js j d)

one_says : (x : Senders) (js : List Judged) (n : ℕ) → Says x js → 0 < length js → Own n js → is_one x ≡ true
one_says NoneYet js n h l d = absurd (let e : length js ≡ 0 = ap length h in omega arith)
one_says (Only m) js n h l d = refl
one_says Mixed js n h l d = absurd (h n d)

record Owner (js : List Judged) : Type 0 where
  number : ℕ
  own : Own number js

one_owner : (x : Senders) (js : List Judged) → Says x js → is_one x ≡ true → Owner js
one_owner (Only n) js h e = record { number = n; own = h.1 }
one_owner _ js h e = absurd (true≢false (sym e))

-- ---- The result of a message

record Makes (config : Config) (es : List Entry) (number : ℕ) (is_last : Bool) (js : List Judged) (j : Judged) : Type 0 where
  asked : config.ride ≡ true
  plain : (session config number es).ack ≡ false
  last : is_last ≡ true
  own : Own number (js ++ j ∷ [])
  kind : may_have_rider j.entry.kind ≡ true

record Reads (config : Config) (es : List Entry) (last : Bool) (js : List Judged) (j : Judged) : Type 0 where
  to : (number : ℕ) → rider_session j.entry.rides ≡ Some number → Makes config es number last js j
  from : (number : ℕ) → Makes config es number last js j → rider_session j.entry.rides ≡ Some number

unowned_reads : (config : Config) (es : List Entry) (last : Bool) (js : List Judged) (j : Judged) → ((n : ℕ) → is_own n j ≡ true → ⊥) → j.entry.rides ≡ None → Reads config es last js j
unowned_reads config es last js j h none = record {
  to = λ number e. absurd (let n : rider_session j.entry.rides ≡ None = ap rider_session none in cc);
  from = λ number k. absurd (h number (own_last number js j k.own));
}

carried_kind : (c : MessageKind) (p : Posted) (s : Registered) (hold : ℕ) → may_have_rider (kind_for c p s hold) ≡ may_ride c
carried_kind c p s hold = grind (arith, common_steps)

opens_none : (c : MessageKind) (p : Posted) (s : Registered) (hold n : ℕ) → opens_by n (kind_for c p s hold) ≡ false
opens_none c p s hold n = grind (arith, common_steps)

rides_then : (config : Config) (c : MessageKind) (p : Posted) (s : Registered) (b : Bool) → b ≡ true → may_ride c ≡ true → rider_session (rider_for b s.number (slot_for config c p s)) ≡ Some s.number
rides_then config c p s b e m = grind (arith, common_steps)

rides_by : (b : Bool) (m n : ℕ) (slot : PlaceSlot) → rider_session (rider_for b m slot) ≡ Some n → (b ≡ true) × (m ≡ n)
rides_by b m n slot h = grind (arith, common_steps)

record Tested (config : Config) (senders : Senders) (c : MessageKind) (p : Posted) (s : Registered) : Type 0 where
  asked : config.ride ≡ true
  last : p.last ≡ true
  plain : s.ack ≡ false
  one : is_one (joined senders s.number) ≡ true
  may : may_ride c ≡ true

tested : (config : Config) (senders : Senders) (c : MessageKind) (p : Posted) (s : Registered) → is_rider config senders c p s ≡ true → Tested config senders c p s
tested config senders c p s h = grind (arith, common_steps)

served_reads : (config : Config) (es : List Entry) (r : Registry) (moment : ℕ) (p : Posted) (c : MessageKind) (s : Registered) (hold : ℕ) (js : List Judged) → Says r.senders js →
    (session config s.number es).ack ≡ s.ack → Reads config es p.last js (found_of config r moment p c s hold)
served_reads config es r moment p c s hold js says acks =
    let j : Judged = found_of config r moment p c s hold in
    let own : is_own s.number (found_of config r moment p c s hold) ≡ true = own_is s.number (found_of config r moment p c s hold) refl (opens_none c p s hold s.number) in
    let now : Says (joined r.senders s.number) (js ++ found_of config r moment p c s hold ∷ []) = joined_says r.senders js (found_of config r moment p c s hold) s.number own says in
    record {
      to = λ number e.
          let b = rides_by (is_rider config r.senders c p s) s.number number (slot_for config c p s) e in
          let x : Tested config r.senders c p s = tested config r.senders c p s b.0 in
          let owner : Owner (js ++ found_of config r moment p c s hold ∷ []) = one_owner (joined r.senders s.number) (js ++ found_of config r moment p c s hold ∷ []) now x.one in
          let same : owner.number ≡ number = same_own owner.number s.number (found_of config r moment p c s hold) (own_last owner.number js (found_of config r moment p c s hold) owner.own) own ∙ b.1 in
          record {
            asked = x.asked;
            plain = ap (λ (n : ℕ). (session config n es).ack) (sym b.1) ∙ acks ∙ x.plain;
            last = x.last;
            own = subst (λ (n : ℕ). Own n (js ++ found_of config r moment p c s hold ∷ [])) same owner.own;
            kind = carried_kind c p s hold ∙ x.may;
          };
      from = λ number k.
          let same : number ≡ s.number = same_own number s.number (found_of config r moment p c s hold) (own_last number js (found_of config r moment p c s hold) k.own) own in
          let may : may_ride c ≡ true = sym (carried_kind c p s hold) ∙ k.kind in
          let plain : s.ack ≡ false = sym acks ∙ ap (λ (n : ℕ). (session config n es).ack) (sym same) ∙ k.plain in
          let one : is_one (joined r.senders s.number) ≡ true = one_says (joined r.senders s.number) (js ++ found_of config r moment p c s hold ∷ []) number now (longer_push js (found_of config r moment p c s hold)) k.own in
          let rider : is_rider config r.senders c p s ≡ true = grind (arith, common_steps, k.asked, k.last, plain, one, may) in
          rides_then config c p s (is_rider config r.senders c p s) rider may ∙ ap Some (sym same);
    }

-- ---- One message of a request

record Judging (config : Config) (es : List Entry) (js : List Judged) (p : Posted) (r t : Registry) : Type 0 where
  found : Judged
  judged : t.judged ≡ r.judged ++ found ∷ []
  now : Senders
  senders : t.senders ≡ senders_after p now
  says : Says now (js ++ found ∷ [])
  reads : Reads config es p.last js found

opened_own : (n m : ℕ) → ((n == m) && not (m == n)) ≡ true → ⊥
opened_own n m h = let a = and_parts (n == m) (not (m == n)) h in both_ways (m == n) (not-true (m == n) a.1) (eq-eqb m n (sym (eqb-true n m a.0)))

unowned_judging : (config : Config) (es : List Entry) (js : List Judged) (p : Posted) (r t : Registry) (j : Judged) → t.judged ≡ r.judged ++ j ∷ [] → t.senders ≡ senders_after p Mixed → ((n : ℕ) → is_own n j ≡ true → ⊥) → j.entry.rides ≡ None → Judging config es js p r t
unowned_judging config es js p r t j judged senders h none = record { found = j; judged = judged; now = Mixed; senders = senders; says = mixed_says js j h; reads = unowned_reads config es p.last js j h none }

judged_by_judging : (config : Config) (es : List Entry) (js : List Judged) (r : Registry) (moment : ℕ) (p : Posted) (sender : Option Registered) (error : Option Error) → Says r.senders js →
    ((s : Registered) → sender ≡ Some s → (session config s.number es).ack ≡ s.ack) → Judging config es js p r (noted r moment (judged_by config (state_of r) moment p sender error))
judged_by_judging config es js r moment p sender error says acks =
    let c : MessageKind = message_kind_of p.message.channel in
    by_verdict (λ v. Judging config es js p r (noted r moment v)) config (state_of r) moment p sender error
    (λ e. unowned_judging config es js p r _ _ refl refl (λ n h. true≢false (sym h)) refl)
    (unowned_judging config es js p r _ _ refl refl (λ n h. opened_own n (length r.sessions + 1) h) refl)
    (unowned_judging config es js p r _ _ refl refl (λ n h. true≢false (sym h)) refl)
    (λ s e. record {
      found = found_of config r moment p (message_kind_of p.message.channel) s (hold_of config p);
      judged = refl;
      now = joined r.senders s.number;
      senders = refl;
      says = joined_says r.senders js (found_of config r moment p c s (hold_of config p)) s.number (own_is s.number (found_of config r moment p c s (hold_of config p)) refl (opens_none c p s (hold_of config p) s.number)) says;
      reads = served_reads config es r moment p (message_kind_of p.message.channel) s (hold_of config p) js says (acks s e);
    })

judging : (config : Config) (ys zs : List Listed) (js : List Judged) (p : Posted) → Says (registry config ys).senders js →
    Judging config (entries config (ys ++ zs)) js p (registry config ys) (judge config (registry config ys) (Post p))
judging config ys zs js p says =
    let r : Registry = registry config ys in
    judged_by_judging config (entries config (ys ++ zs)) js r (max r.clock p.moment) p (named_by r.sessions (message_kind_of p.message.channel) p.message) (refusal config r.sessions p) says
    (λ s e. named_session (λ q. (session config q.number (entries_of (registry config (ys ++ zs)))).ack ≡ q.ack) r.sessions (message_kind_of p.message.channel) p.message s e (acks_later config ys zs))

-- ---- After whole requests, there are no senders yet

last_ends : (config : Config) (r : Registry) (p : Posted) → p.last ≡ true → (judge config r (Post p)).senders ≡ NoneYet
last_ends config r p h =
    let none : (x : Senders) → senders_after p x ≡ NoneYet = λ x. ap (λ (last : Bool). cond last NoneYet x) h in
    by_verdict (λ v. v.state.senders ≡ NoneYet) config (state_of r) (max r.clock p.moment) p (named_by r.sessions (message_kind_of p.message.channel) p.message) (refusal config r.sessions p)
    (λ e. none _) (none _) (none _) (λ s e. none _)

request_ends : (config : Config) (r : Registry) (moment nonce : ℕ) (sole seen : Bool) (m : Message) (ms : List Message) → (fold (judge config) r (listed_from moment nonce sole seen (m ∷ ms))).senders ≡ NoneYet
request_ends config r moment nonce sole seen m [] = last_ends config r (record { message = m; moment = moment; nonce = nonce; sole = sole; last = true; second = seen && is_handshake m }) refl
request_ends config r moment nonce sole seen m (k ∷ ms) =
    request_ends config (judge config r (Post (record { message = m; moment = moment; nonce = nonce; sole = sole; last = length (k ∷ ms) == 0; second = seen && is_handshake m }))) moment nonce sole (seen || is_handshake m) k ms

input_ends : (config : Config) (r : Registry) (i : ReadInput) → r.senders ≡ NoneYet → (fold (judge config) r (added_by i)).senders ≡ NoneYet
input_ends config r (Request moment nonce []) h = h
input_ends config r (Request moment nonce (m ∷ ms)) h = request_ends config r moment nonce (length (m ∷ ms) == 1) false m ms
input_ends config r (Unread fault) h = h
input_ends config r (Tick moment) h = h

inputs_end : (config : Config) (r : Registry) (inputs : List ReadInput) → r.senders ≡ NoneYet → (fold (judge config) r (flat_map added_by inputs)).senders ≡ NoneYet
inputs_end config r [] h = h
inputs_end config r (i ∷ inputs) h =
    ap (λ (t : Registry). t.senders) (fold-append (judge config) r (added_by i) (flat_map added_by inputs))
    ∙ inputs_end config (fold (judge config) r (added_by i)) inputs (input_ends config r i h)

-- ---- The messages of a request

abbrev EachReads : Config → List Entry → List Judged → List Judged → Type 0
EachReads config es js [] = Unit {0}
EachReads config es js (j ∷ behind) = ((number : ℕ) → (rider_session j.entry.rides ≡ Some number → IsRiderOf number config es js j behind) × (IsRiderOf number config es js j behind → rider_session j.entry.rides ≡ Some number)) × EachReads config es (js ++ j ∷ []) behind

record RequestReads (config : Config) (es : List Entry) (js : List Judged) (count : ℕ) (r t : Registry) : Type 0 where
  more : List Judged
  judged : t.judged ≡ r.judged ++ more
  many : length more ≡ count
  reads : EachReads config es js more

reads_row : (config : Config) (es : List Entry) (js : List Judged) (j : Judged) (behind : List Judged) → Reads config es (length behind == 0) js j → EachReads config es (js ++ j ∷ []) behind → EachReads config es js (j ∷ behind)
reads_row config es js j [] a d = (
  λ number. (
    (λ e. let m : Makes config es number true js j = a.to number e in record { asked = m.asked; plain = m.plain; last = refl; own = m.own; kind = m.kind }),
    (λ k. a.from number (record { asked = k.asked; plain = k.plain; last = refl; own = k.own; kind = k.kind })),
  ),
  d,
)
reads_row config es js j (i ∷ behind) a d = (
  λ number. (
    (λ e. let m : Makes config es number (length (i ∷ behind) == 0) js j = a.to number e in absurd (both_ways (length (i ∷ behind) == 0) (ne_eqb (length (i ∷ behind)) 0 (λ h. omega arith)) m.last)),
    (λ k. absurd (let none : length (i ∷ behind) ≡ 0 = ap length k.last in omega arith)),
  ),
  d,
)

request_read : (config : Config) (ys zs : List Listed) (js : List Judged) (moment nonce : ℕ) (sole seen : Bool) (ms : List Message) → (0 < length ms → Says (registry config ys).senders js) →
    RequestReads config (entries config (ys ++ (listed_from moment nonce sole seen ms ++ zs))) js (length ms) (registry config ys) (registry config (ys ++ listed_from moment nonce sole seen ms))
request_read config ys zs js moment nonce sole seen [] says = record {
  more = [];
  judged = ap (λ (xs : List Listed). (registry config xs).judged) (append-nil ys) ∙ sym (append-nil (registry config ys).judged);
  many = refl;
  reads = tt;
}
request_read config ys zs js moment nonce sole seen (m ∷ ms) says =
    let p : Posted = record { message = m; moment = moment; nonce = nonce; sole = sole; last = length ms == 0; second = seen && is_handshake m } in
    let xs : List Listed = listed_from moment nonce sole (seen || is_handshake m) ms in
    let es : List Entry = entries config (ys ++ Post p ∷ (listed_from moment nonce sole (seen || is_handshake m) ms ++ zs)) in
    let d : Judging config (entries config (ys ++ Post p ∷ (listed_from moment nonce sole (seen || is_handshake m) ms ++ zs))) js p (registry config ys) (judge config (registry config ys) (Post p)) = judging config ys (Post p ∷ (xs ++ zs)) js p (says (omega arith)) in
    let next : registry config (ys ++ Post p ∷ []) ≡ judge config (registry config ys) (Post p) = fold-append (judge config) empty_registry ys (Post p ∷ []) in
    let senders : 0 < length ms → (registry config (ys ++ Post p ∷ [])).senders ≡ d.now = λ l.
    ap (λ (t : Registry). t.senders) next ∙ d.senders ∙ cond-false (length ms == 0) NoneYet d.now (ne_eqb (length ms) 0 (λ h. omega arith)) in
    let rest : RequestReads config (entries config ((ys ++ Post p ∷ []) ++ (listed_from moment nonce sole (seen || is_handshake m) ms ++ zs))) (js ++ d.found ∷ []) (length ms) (registry config (ys ++ Post p ∷ [])) (registry config ((ys ++ Post p ∷ []) ++ listed_from moment nonce sole (seen || is_handshake m) ms)) =
    request_read config (ys ++ Post p ∷ []) zs (js ++ d.found ∷ []) moment nonce sole (seen || is_handshake m) ms (λ l. subst (λ (x : Senders). Says x (js ++ d.found ∷ [])) (sym (senders l)) d.says) in
    record {
      more = d.found ∷ rest.more;
      judged = ap (λ (list : List Listed). (registry config list).judged) (sym (append_assoc ys (Post p ∷ []) xs)) ∙ rest.judged
          ∙ ap (λ (is : List Judged). is ++ rest.more) (ap (λ (t : Registry). t.judged) next ∙ d.judged) ∙ append_assoc (registry config ys).judged (d.found ∷ []) rest.more;
      many = ap suc rest.many;
      reads = reads_row config es js d.found rest.more (subst (λ (n : ℕ). Reads config (entries config (ys ++ Post p ∷ (listed_from moment nonce sole (seen || is_handshake m) ms ++ zs))) (n == 0) js d.found) (sym rest.many) d.reads)
          (subst (λ (list : List Listed). EachReads config (entries config list) (js ++ d.found ∷ []) rest.more) (append_assoc ys (Post p ∷ []) (xs ++ zs)) rest.reads);
    }

listed_length : (moment nonce : ℕ) (sole seen : Bool) (ms : List Message) → length (listed_from moment nonce sole seen ms) ≡ length ms
listed_length moment nonce sole seen [] = refl
listed_length moment nonce sole seen (m ∷ ms) = ap suc (listed_length moment nonce sole (seen || is_handshake m) ms)

reads_at : (config : Config) (es : List Entry) (first js before : List Judged) (j : Judged) (behind : List Judged) (number : ℕ) → EachReads config es first js → js ≡ before ++ j ∷ behind →
    (rider_session j.entry.rides ≡ Some number) ↔ IsRiderOf number config es (first ++ before) j behind
reads_at config es first [] [] j behind number d e = cc
reads_at config es first [] (b ∷ before) j behind number d e = cc
reads_at config es first (i ∷ js) [] j behind number d e =
    let one : i ≡ j = cc in
    let rest : js ≡ behind = cc in
    subst (λ (bs : List Judged). (rider_session j.entry.rides ≡ Some number) ↔ IsRiderOf number config es bs j behind) (sym (append-nil first))
    (subst (λ (ks : List Judged). (rider_session j.entry.rides ≡ Some number) ↔ IsRiderOf number config es first j ks) rest
    (subst (λ (k : Judged). (rider_session k.entry.rides ≡ Some number) ↔ IsRiderOf number config es first k js) one (d.0 number)))
reads_at config es first (i ∷ js) (b ∷ before) j behind number d e =
    let one : i ≡ b = cc in
    let rest : js ≡ before ++ j ∷ behind = cc in
    subst (λ (bs : List Judged). (rider_session j.entry.rides ≡ Some number) ↔ IsRiderOf number config es bs j behind) (append_assoc first (b ∷ []) before)
    (reads_at config es (first ++ b ∷ []) js before j behind number (subst (λ (k : Judged). EachReads config es (first ++ k ∷ []) js) one d.1) rest)

found_is : (config : Config) (ys xs zs : List Listed) (more : List Judged) → (registry config (ys ++ xs)).judged ≡ (registry config ys).judged ++ more → length more ≡ length xs → found_after config ys xs zs ≡ more
found_is config ys xs zs more judged many =
    let r : Registry = registry config ys in
    let rest : List Judged = found_from config (registry config (ys ++ xs)) zs in
    let whole : (registry config (ys ++ (xs ++ zs))).judged ≡ (registry config ys).judged ++ (more ++ found_from config (registry config (ys ++ xs)) zs) =
    ap (λ (list : List Listed). (registry config list).judged) (sym (append_assoc ys xs zs)) ∙ judged_after config (ys ++ xs) zs ∙ ap (λ (js : List Judged). js ++ rest) judged ∙ append_assoc r.judged more rest in
    ap (λ (js : List Judged). take (length xs) (drop (length ys) js)) whole
    ∙ ap (λ (n : ℕ). take (length xs) (drop n (r.judged ++ (more ++ rest)))) (sym (judged_length config ys))
    ∙ ap (take (length xs)) (drop-append_seam r.judged (more ++ rest))
    ∙ ap (λ (n : ℕ). take n (more ++ rest)) (sym many) ∙ take-append_seam more rest

pub when_a_message_is_a_rider : RiderReading
when_a_message_is_a_rider config inputs moment nonce ms more before j behind number split =
    let ys : List Listed = flat_map added_by inputs in
    let xs : List Listed = listed_from moment nonce (length ms == 1) false ms in
    let fresh : (registry config (flat_map added_by inputs)).senders ≡ NoneYet = inputs_end config empty_registry inputs refl in
    let a : RequestReads config (entries config (flat_map added_by inputs ++ (listed_from moment nonce (length ms == 1) false ms ++ more))) [] (length ms) (registry config (flat_map added_by inputs)) (registry config (flat_map added_by inputs ++ listed_from moment nonce (length ms == 1) false ms)) =
    request_read config ys more [] moment nonce (length ms == 1) false ms (λ l. subst (λ (x : Senders). Says x []) (sym fresh) refl) in
    let found : found_after config (flat_map added_by inputs) (listed_from moment nonce (length ms == 1) false ms) more ≡ a.more = found_is config ys xs more a.more a.judged (a.many ∙ sym (listed_length moment nonce (length ms == 1) false ms)) in
    reads_at config (entries config (ys ++ (xs ++ more))) [] a.more before j behind number a.reads (sym found ∙ split)

own_at : (number : ℕ) (before : List Judged) (j : Judged) (behind : List Judged) → Own number (before ++ j ∷ behind) → is_own number j ≡ true
own_at number [] j behind d = d.0
own_at number (i ∷ before) j behind d = own_at number before j behind d.1

none_where : (rides : Option Rider) → ((number : ℕ) → rider_session rides ≡ Some number → ⊥) → rides ≡ None
none_where None h = refl
none_where (Some rider) h = absurd (h rider.session refl)

pub no_rider_beside_rejected_or_sessionless : NothingRidesBeside
no_rider_beside_rejected_or_sessionless config inputs moment nonce ms more before other behind first j rest there none here =
    none_where j.entry.rides (λ number e.
    let k = (when_a_message_is_a_rider config inputs moment nonce ms more first j rest number here).0 e in
    none_own number other none (own_at number before other behind (subst (Own number) (sym here ∙ there) k.own)))

-- ---- Nothing else is a rider

unridden_by : (config : Config) (state : State) (moment : ℕ) (p : Posted) (sender : Option Registered) (error : Option Error) →
    may_have_rider (judged_by config state moment p sender error).kind ≡ false → (judged_by config state moment p sender error).rides ≡ None
unridden_by config state moment p sender error h = grind (arith, common_steps)

unridden : (config : Config) (r : Registry) (x : Listed) → may_have_rider (verdict_of config r x).kind ≡ false → (verdict_of config r x).rides ≡ None
unridden config r (Post p) h = unridden_by config (state_of r) (max r.clock p.moment) p (named_by r.sessions (message_kind_of p.message.channel) p.message) (refusal config r.sessions p) h
unridden config r (messages.Tick moment) h = refl

pub only_subscriptions_and_publishes_ride : OthersNeverRide
only_subscriptions_and_publishes_ride config list =
    entries_all (λ (e : Entry). may_have_rider e.kind ≡ false → e.rides ≡ None) (registry config list).judged
    (each_found config list (λ j. may_have_rider j.entry.kind ≡ false → j.entry.rides ≡ None) (λ ys x zs whole. unridden config (registry config ys) x))

-- ---- What a rider gets

rider_stays : (number : ℕ) (stage : Stage) (k : EntryKind) (rides : Option Rider) (rider : Rider) → rider_of k rides ≡ Some rider → next_by number stage k ≡ stage
rider_stays number stage k rides rider h = grind (arith, common_steps)

pub rider_given : RiderGiven
rider_given config s e rider rides own live plain =
    let u : Session = step_by config e.place e.moment s e.kind in
    let n : Next s e.kind (step_by config e.place e.moment s e.kind) = step_by_next config e.place e.moment s e.kind in
    let opened : WasOpened s = λ h. (let no : Live ≡ Unopened = sym live ∙ h in cc) in
    let acks : (step_by config e.place e.moment s e.kind).ack ≡ false = step_by_a config e.place e.moment s e.kind opened ∙ plain in
    let stage : (step_by config e.place e.moment s e.kind).stage ≡ Live = n.stage ∙ rider_stays s.number s.stage e.kind e.rides rider rides ∙ live in
    let riding : is_riding rider (step_by config e.place e.moment s e.kind) ≡ true =
    ap (λ (b : Bool). b && is_live u.stage) (eq-eqb rider.session u.number (own ∙ sym n.number)) ∙ ap is_live stage in
    let same : step config s e ≡ ridden config e.place rider.reply (step_by config e.place e.moment s e.kind) =
    ap (ridden_by config e.place u) rides ∙ cond-true (is_riding rider u) (ridden config e.place rider.reply u) u riding in
    subst (GivesRider config.limits.batch e.place rider u) (sym same) (record {
      given = take (ride_portion config u) u.queue;
      answers = refl;
      queue = sym (take-append-drop (ride_portion config u) u.queue);
      count = grind (arith, common_steps, acks);
      left = grind (arith, common_steps, acks);
    })
