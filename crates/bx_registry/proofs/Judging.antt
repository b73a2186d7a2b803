-- The outcome of a message has the edit, the entry and the slot of its verdict.
use Rattle.std.proofs.Common.{◌≡◌, ℕ, ◌+◌, ◌<◌, ◌^◌, Bool, true, false, List, [], ◌∷◌, ◌++◌, length, refl, sym, ap, subst, arith, Result, Ok, Err, not, get_or}
use Rattle.std.specs.Prelude.{nat_le, Option, Some, None, IsSome, IfOk, MatchOption, is_some, option_map, if◌then◌else◌}
use Rattle.std.proofs.lemmas.{Bool.cond-true, Bool.leb-false, Grind.common_steps, List.Folds.list_any_at}
use Rattle.bx_names.specs.Faults.{first_case, pattern_fault}
use Rattle.bx_advice.specs.declared.{config.Config.Config, error.Error.Error, advice.Outcome.TheVariants.Failed}
use Rattle.bx_registry.specs.declared.{session_overlay.Sender.Sender, judge.MessageOutcome.MessageOutcome}
use Rattle.bx_registry.specs.MessageOutcomes.{has_fault}
use Rattle.bx_registry.specs.Words.{named, state_of, IsSender, edit_for, IsRidden, IsVerdict}
use Rattle.bx_advice.specs.declared.advice.Outcome.TheVariants as advice
use Rattle.bx_message.specs.declared.{message_kind.MessageKind.MessageKind, message.Message.Message, message.TextMember.TextMember, message_kind.MessageKind.TheVariants.Handshake}
use Rattle.bx_message.specs.declared.reply.AckReply.TheVariants as replies
use Rattle.bx_message.specs.{MessageKinds.message_kind_of, MessageKinds.is_handshake, Replies.reply_to}
use Rattle.bx_entry.specs.Words.{Posted, due_of, newcomer, rider_by, sessionless_kind, verdict, judged_by, unnamed, Registered, cases_of, client_id, closed, count_live, extended, hold_of, is_ack, joined, kind_for, left_by, live_with_id, named_by, refusal, sender_of, senders_after, slot_for}
use Rattle.bx_entry.specs.declared.{senders.Senders.Senders, senders.Senders.TheVariants.Mixed, entry.Slot.TheVariants.Ready}
use Rattle.bx_entry.specs.declared.entry.EntryKind.TheVariants as entries
use Rattle.bx_roster.specs.Words.{Members, live_in, with_live, client_and_ack_of, AllLive, edited, CanEdit}
use Rattle.bx_roster.specs.declared.edit.Edit.TheVariants.{Open}
use Rattle.bx_roster.proofs.{Sessions.AllLive-push, Tables.live_in-all}
use Rattle.bx_entry.specs.Placings.{Setup}
use Rattle.bx_registry.proofs.Digits.{drop-client_id}

pub all_four : {T E : Type 0} (r : Result T E) (P Q R S X : T → Type 0) → ((x : T) → P x → Q x → R x → S x → X x) → IfOk r P → IfOk r Q → IfOk r R → IfOk r S → IfOk r X
all_four (Ok x) P Q R S X f p q r s = f x p q r s
all_four (Err e) P Q R S X f p q r s = tt

abbrev pub IsFound : Option Sender → Option Registered → Type 0
IsFound o r = MatchOption o (r ≡ None) (λ s. IsSender r s.number s.client.now s.ack)

pub found-known : (o : Option Sender) (r : Option Registered) → IsFound o r → is_some o ≡ is_some r
found-known o r e = grind (arith, common_steps)

pub found-client : (o : Option Sender) (r : Option Registered) → IsFound o r → option_map (λ (s : Sender). s.client.now) o ≡ option_map (λ (s : Registered). s.client) r
found-client o r e = grind (arith, common_steps)

-- ---- A rejected message

same-members : (ms : Members) → AllLive ms.live → ms ≡ record ms { live = live_in ms.live }
same-members ms all = ap (λ (live : List Registered). record ms { live = live }) (sym (live_in-all ms.live all))

pub refused-verdict : (setup : Setup) (ms : Members) (senders : Senders) (moment place : ℕ) (p : Posted) (message_kind : MessageKind) (error : Error) (o : Option Sender) (j : MessageOutcome) →
    message_kind ≡ message_kind_of p.message.channel → AllLive ms.live → refusal setup.config ms.live p ≡ Some error → IsFound o (named_by ms.live message_kind p.message) →
    j.edit ≡ None → (j.kind ≡ entries.Refused) × (j.rides ≡ None) → j.senders ≡ senders_after p Mixed →
    j.slot ≡ Ready (reply_to setup.config message_kind p.message (option_map (λ (s : Sender). s.client.now) o) (Failed error) replies.NoAck) →
    IsVerdict setup ms place (verdict setup.config (state_of ms senders) moment p) j
refused-verdict setup ms senders moment place p message_kind error o j k all is found e f behind g =
    grind (arith, common_steps, same-members, found-client)

-- ---- A handshake

room : (config : Config) (live : List Registered) (p : Posted) → first_case (cases_of config live p Handshake) ≡ None → nat_le config.limits.sessions (count_live live) ≡ false
room config live p h = grind (arith, common_steps)

pub handshake-kind : (m : Message) → is_handshake m ≡ true → message_kind_of m.channel ≡ Handshake
handshake-kind m h = cond-true (is_handshake m) Handshake _ h

pub opened-verdict : (setup : Setup) (ms : Members) (senders : Senders) (moment place n : ℕ) (p : Posted) (message_kind : MessageKind) (j : MessageOutcome) →
    message_kind ≡ message_kind_of p.message.channel → AllLive ms.live → ms.limit ≡ setup.config.limits.sessions → n ≡ ms.opened + 1 → n < 2 ^ 64 → is_handshake p.message ≡ true →
    refusal setup.config ms.live p ≡ None → named_by ms.live message_kind p.message ≡ None →
    j.edit ≡ Some (Open (newcomer setup.config moment p n)) → (j.kind ≡ entries.Opened n (is_ack p.message.ack)) × (j.rides ≡ None) → j.senders ≡ senders_after p Mixed →
    j.slot ≡ Ready (reply_to setup.config Handshake p.message (Some (client_id p.nonce n)) advice.Opened (if is_ack p.message.ack then replies.AckTrue else replies.NoAck)) →
    IsVerdict setup ms place (verdict setup.config (state_of ms senders) moment p) j
opened-verdict setup ms senders moment place n p message_kind j k all limit number small opens is who e f behind g =
    let full = room setup.config ms.live p (rw (handshake-kind p.message opens) at is) in
    let free : length ms.live < ms.limit = omega (arith, leb-false setup.config.limits.sessions (count_live ms.live) full, limit, ap length (live_in-all ms.live all)) in
    let one : IsVerdict setup ms place (unnamed setup.config (state_of ms senders) moment p true) j = record {
      members = rw (e, number) (same-members (record ms { opened = ms.opened + 1; live = ms.live ++ newcomer setup.config moment p (ms.opened + 1) ∷ [] }) (AllLive-push ms.live _ all refl));
      can = rw (e, number) (record { room = free; number = refl; small = rw (← number) small; named = drop-client_id p.nonce (ms.opened + 1); live = refl }, tt);
      behind = behind;
      what = rw (f.0, number) refl;
      rider = f.1;
      answer = rw (g, number) refl;
    } in
    rw (is, ← k, who) (subst (λ (b : Bool). IsVerdict setup ms place (unnamed setup.config (state_of ms senders) moment p b) j) (sym opens) one)

-- ---- A message without a session

pub sessionless-verdict : (setup : Setup) (ms : Members) (senders : Senders) (moment place : ℕ) (p : Posted) (message_kind : MessageKind) (j : MessageOutcome) →
    message_kind ≡ message_kind_of p.message.channel → AllLive ms.live → is_handshake p.message ≡ false → refusal setup.config ms.live p ≡ None → named_by ms.live message_kind p.message ≡ None →
    j.edit ≡ None → (j.kind ≡ sessionless_kind message_kind p.message) × (j.rides ≡ None) → j.senders ≡ senders_after p Mixed →
    j.slot ≡ Ready (reply_to setup.config message_kind p.message None advice.Done replies.NoAck) →
    IsVerdict setup ms place (verdict setup.config (state_of ms senders) moment p) j
sessionless-verdict setup ms senders moment place p message_kind j k all other is who e f behind g = grind (arith, common_steps, same-members)

-- ---- The session that a message names

found-at : (r : Registered) (rs : List Registered) (text : List ℕ) → live_with_id rs text ≡ Some r → IsSome (client_and_ack_of r.number rs)
found-at r [] text e = cc
found-at r (s ∷ rs) text e = grind (arith, common_steps, found-at r rs text)

sender-at : (r : Registered) (rs : List Registered) (client : TextMember) → sender_of rs client ≡ Some r → IsSome (client_and_ack_of r.number rs)
sender-at r rs client h1 = grind (arith, common_steps, found-at)

named-at : (r : Registered) (rs : List Registered) (message_kind : MessageKind) (m : Message) → named_by rs message_kind m ≡ Some r → IsSome (client_and_ack_of r.number rs)
named-at r rs message_kind m h1 = grind (arith, common_steps, sender-at)

-- ---- An accepted message of a session

closed-extended : (n due : ℕ) (rs : List Registered) → live_in (closed n (extended n due rs)) ≡ live_in (closed n rs)
closed-extended n due [] = refl
closed-extended n due (r ∷ rs) = grind (arith, common_steps, closed-extended n due rs)

edited-for : (ms : Members) (message_kind : MessageKind) (n due : ℕ) → edited ms (edit_for message_kind n due) ≡ with_live ms (live_in (left_by message_kind n (extended n due ms.live)))
edited-for ms message_kind n due = grind (arith, common_steps, closed-extended)

can-for : (ms : Members) (message_kind : MessageKind) (n due : ℕ) → IsSome (client_and_ack_of n ms.live) → CanEdit ms (edit_for message_kind n due)
can-for ms message_kind n due h1 = grind (arith, common_steps)

kind-for : (message_kind : MessageKind) (p : Posted) (s : Sender) (r : Registered) (hold : ℕ) → r.number ≡ s.number → r.client ≡ s.client.now → kind_for message_kind p (named s) hold ≡ kind_for message_kind p r hold
kind-for message_kind p s r hold e f = grind (arith, common_steps)

slot-for : (config : Config) (message_kind : MessageKind) (p : Posted) (s : Sender) (r : Registered) → r.number ≡ s.number → r.client ≡ s.client.now → slot_for config message_kind p (named s) ≡ slot_for config message_kind p r
slot-for config message_kind p s r e f = grind (arith, common_steps)

ridden-for : (config : Config) (senders : Senders) (message_kind : MessageKind) (p : Posted) (s : Sender) (r : Registered) → r.number ≡ s.number → r.client ≡ s.client.now → r.ack ≡ s.ack →
    rider_by config senders message_kind p (named s) ≡ rider_by config senders message_kind p r
ridden-for config senders message_kind p s r e f a = grind (arith, common_steps, slot-for)

served-by : (setup : Setup) (ms : Members) (senders : Senders) (moment place due : ℕ) (p : Posted) (message_kind : MessageKind) (s : Sender) (o : Option Registered) (j : MessageOutcome) →
    message_kind ≡ message_kind_of p.message.channel → o ≡ named_by ms.live message_kind p.message → IsSender o s.number s.client.now s.ack → due ≡ due_of setup.config moment (hold_of setup.config p) →
    j.edit ≡ Some (edit_for message_kind s.number due) → j.kind ≡ kind_for message_kind p (named s) (hold_of setup.config p) → j.senders ≡ senders_after p (joined senders s.number) →
    IsRidden setup place (rider_by setup.config senders message_kind p (named s)) (slot_for setup.config message_kind p (named s)) j.rides j.slot →
    IsVerdict setup ms place (judged_by setup.config (state_of ms senders) moment p o None) j
served-by setup ms senders moment place due p message_kind s o j h1 h2 h3 h4 h5 h6 h7 h8 =
    grind (arith, common_steps, named-at, ridden-for, slot-for, edited-for, can-for, kind-for)

pub served-verdict : (setup : Setup) (ms : Members) (senders : Senders) (moment place : ℕ) (p : Posted) (message_kind : MessageKind) (s : Sender) (j : MessageOutcome) →
    message_kind ≡ message_kind_of p.message.channel → refusal setup.config ms.live p ≡ None → IsSender (named_by ms.live message_kind p.message) s.number s.client.now s.ack →
    j.edit ≡ Some (edit_for message_kind s.number (due_of setup.config moment (hold_of setup.config p))) → j.kind ≡ kind_for message_kind p (named s) (hold_of setup.config p) →
    j.senders ≡ senders_after p (joined senders s.number) →
    IsRidden setup place (rider_by setup.config senders message_kind p (named s)) (slot_for setup.config message_kind p (named s)) j.rides j.slot →
    IsVerdict setup ms place (verdict setup.config (state_of ms senders) moment p) j
served-verdict setup ms senders moment place p message_kind s j k is who e f behind g =
    rw (is, ← k) (served-by setup ms senders moment place _ p message_kind s (named_by ms.live message_kind p.message) j k refl who refl e f behind g)

-- ---- Patterns

none_of : {A : Type 0} (o : Option A) → is_some o ≡ false → o ≡ None
none_of None h = refl
none_of (Some x) h = cc

pub no_fault_at : (texts : List (List ℕ)) (i : ℕ) (d : List ℕ) → i < length texts → has_fault texts ≡ false → pattern_fault (get_or texts i d) ≡ None
no_fault_at texts i d within none = grind (arith, common_steps, none_of, list_any_at)

pub ruleset reading = (no_fault_at, common_steps)

pub is_not : (b : Bool) → true ≡ not b → b ≡ false
is_not b h1 = grind (arith, common_steps)

pub ruleset accepted = (is_not, common_steps)
