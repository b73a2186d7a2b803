-- Judging the messages of a request in order, and committing the plan.
use Rattle.std.proofs.Common.{◌≡◌, ℕ, ◌+◌, ◌≤◌, Bool, true, false, List, [], ◌∷◌, ◌++◌, length, fold, refl, sym, ap, subst, ◌∙◌, arith, append_assoc, append-nil}
use Rattle.std.specs.Prelude.{Ok, ◌&&◌, ◌||◌, ◌==◌, max, Option}
use Rattle.std.proofs.lemmas.Grind.{common_steps}
use Rattle.bx_advice.specs.declared.{config.Config.Config, error.Error.Error}
use Rattle.bx_advice.specs.Limits.{greatest_moment, greatest_length}
use Rattle.bx_message.specs.declared.message.Message.{Message}
use Rattle.bx_message.specs.MessageKinds.{message_kind_of, is_handshake}
use Rattle.bx_entry.specs.Words.{Posted, Listed, Post, listed_from, request, Registered, State, Verdict, judged_by, named_by, refusal, verdict}
use Rattle.bx_entry.specs.declared.{entry.Entry.Entry, entry.Slot.Slot, senders.Senders.Senders, senders.Senders.TheVariants.NoneYet}
use Rattle.bx_entry.specs.{Inputs.refused_beyond, Placings.Setup}
use Rattle.bx_roster.specs.Words.{Members, CanEditEach, edited, edited_by}
use Rattle.bx_registry.specs.Words.{Roll, after, found, next, state_of, step, Overlay, members_of, Amendment, IsPlannedAt, IsWithin, changed, checked, entries_in, slots_in, IsFoundAt, IsPlannedBy, roll_between, roll_with}
use Rattle.bx_roster.specs.declared.{edit.Edit.Edit, edit.Edits.Edits, edit.Edits.TheVariants.Each}
use Rattle.bx_registry.proofs.Overlays.{limit-same}

judged-opened : (config : Config) (state : State) (moment : ℕ) (p : Posted) (sender : Option Registered) (fault : Option Error) → (judged_by config state moment p sender fault).state.opened ≤ state.opened + 1
judged-opened config state moment p sender fault = grind (arith, common_steps)

judged-last : (config : Config) (state : State) (moment : ℕ) (p : Posted) (sender : Option Registered) (fault : Option Error) → p.last ≡ true → (judged_by config state moment p sender fault).state.senders ≡ NoneYet
judged-last config state moment p sender fault last = grind (arith, common_steps)

after-last : (roll : Roll) (moment nonce : ℕ) (sole seen : Bool) (m : Message) (ms : List Message) → (after roll (listed_from moment nonce sole seen (m ∷ ms))).senders ≡ NoneYet
after-last roll moment nonce sole seen m [] = grind (arith, common_steps, judged-last)
after-last roll moment nonce sole seen m (n ∷ ms) =
    let p : Posted = record { message = m; moment = moment; nonce = nonce; sole = sole; last = length (n ∷ ms) == 0; second = seen && is_handshake m } in
    after-last (next roll (Post p)) moment nonce sole (seen || is_handshake m) n ms

pub after-request : (roll : Roll) (moment nonce : ℕ) (ms : List Message) → roll.senders ≡ NoneYet → (after roll (request moment nonce ms)).senders ≡ NoneYet
after-request roll moment nonce [] none = none
after-request roll moment nonce (m ∷ ms) none = after-last roll moment nonce (length (m ∷ ms) == 1) false m ms

pub record SoFar (setup : Setup) (before base : Members) (clock first : ℕ) (list rest : List Listed) (d : Overlay) (senders : Senders) (now place : ℕ) (es : List Entry) (ss : List Slot) : Type 0 where
  pub roll : after (roll_with setup.config (members_of d) senders now place) rest ≡ after (roll_between setup.config before clock first) list
  pub entries : es ++ entries_in (found (roll_with setup.config (members_of d) senders now place) rest) ≡ entries_in (found (roll_between setup.config before clock first) list)
  pub slots : ss ++ slots_in setup (found (roll_with setup.config (members_of d) senders now place) rest) ≡ slots_in setup (found (roll_between setup.config before clock first) list)
  pub same : d.base ≡ base
  pub limit : (members_of d).limit ≡ setup.config.limits.sessions
  pub opened : (members_of d).opened ≤ place
  pub moment : now ≤ greatest_moment
  pub end : place + length rest ≡ first + length list

pub one_next : {setup : Setup} {before base : Members} {clock first : ℕ} {list rest : List Listed} {d e : Overlay} {senders behind : Senders} {now place : ℕ} {es : List Entry} {ss : List Slot} {entry : Entry} {slot : Slot} (p : Posted) →
    SoFar setup before base clock first list (Post p ∷ rest) d senders now place es ss → max now p.moment ≤ greatest_moment → e.base ≡ d.base →
    IsFoundAt setup place (max now p.moment) (members_of d) (verdict setup.config (state_of (members_of d) senders) (max now p.moment) p) (members_of e) behind entry slot →
    SoFar setup before base clock first list rest e behind (max now p.moment) (place + 1) (es ++ entry ∷ []) (ss ++ slot ∷ [])
one_next {setup} {before} {base} {clock} {first} {list} {rest} {d} {e} {senders} {behind} {now} {place} {es} {ss} {entry} {slot} p so le same f =
    let later = max now p.moment in
    let o : Verdict = verdict setup.config (state_of (members_of d) senders) later p in
    let old : Roll = roll_with setup.config (members_of d) senders now place in
    let new : Roll = roll_with setup.config (members_of e) behind later (place + 1) in
    let ms : Members = members_of d in
    let roll : next old (Post p) ≡ new =
    ap (λ (x : Members). roll_with setup.config x o.state.senders later (place + 1)) (sym f.members) ∙ ap (λ (x : Senders). roll_with setup.config (members_of e) x later (place + 1)) (sym f.behind) in
    let sender = named_by ms.live (message_kind_of p.message.channel) p.message in
    let fault = refusal setup.config ms.live p in
    let here : slots_in setup (found old (Post p ∷ rest)) ≡ slot ∷ slots_in setup (found (next old (Post p)) rest) = rw f.answer refl in
    record {
      roll = sym (ap (λ (r : Roll). after r rest) roll) ∙ so.roll;
      entries = append_assoc es (entry ∷ []) (entries_in (found new rest))
          ∙ ap (λ (x : Entry). es ++ x ∷ entries_in (found new rest)) f.noted
          ∙ ap (λ (r : Roll). es ++ (step old (Post p)).found.entry ∷ entries_in (found r rest)) (sym roll)
          ∙ so.entries;
      slots = append_assoc ss (slot ∷ []) (slots_in setup (found new rest))
          ∙ ap (λ (r : Roll). ss ++ slot ∷ slots_in setup (found r rest)) (sym roll)
          ∙ ap (λ (xs : List Slot). ss ++ xs) (sym here)
          ∙ so.slots;
      same = same ∙ so.same;
      limit = ap (λ (x : Members). x.limit) f.members ∙ so.limit;
      opened = omega (arith, ap (λ (x : Members). x.opened) f.members, judged-opened setup.config (state_of ms senders) later p sender fault, so.opened);
      moment = le;
      end = omega (arith, so.end);
    }

pub all_planned : {setup : Setup} {before base : Members} {clock first : ℕ} {list : List Listed} {d : Overlay} {senders : Senders} {now place : ℕ} {es : List Entry} {ss : List Slot} →
    SoFar setup before base clock first list [] d senders now place es ss → (after (roll_between setup.config before clock first) list).senders ≡ NoneYet →
    IsPlannedBy setup before (members_of d) clock first list es ss now
all_planned {setup} {before} {base} {clock} {first} {list} {d} {senders} {now} {place} {es} {ss} so none =
    let behind : senders ≡ NoneYet = ap (λ (r : Roll). r.senders) so.roll ∙ none in
    let end : place ≡ first + length list = omega (arith, so.end) in
    record {
      roll = sym so.roll ∙ ap (λ (x : Senders). roll_with setup.config (members_of d) x now place) behind ∙ ap (λ (n : ℕ). roll_between setup.config (members_of d) now n) end;
      listed = sym (append-nil es) ∙ so.entries;
      answers = sym (append-nil ss) ∙ so.slots;
      opened = omega (arith, so.opened, end);
      moment = so.moment;
    }

-- ---- Plans and commits of a registry

pub admitted : (moment end : ℕ) (x : Unit {0}) → Ok x ≡ checked (refused_beyond moment end) → (moment ≤ greatest_moment) × (end ≤ greatest_length)
admitted moment end x e = (grind (arith, common_steps), grind (arith, common_steps))

pub planned_limit : (ms : Members) (edits : Edits) → (edited_by ms edits).limit ≡ ms.limit
planned_limit ms edits = grind (arith, common_steps, limit-same)

pub planned-within : (roll : Roll) (c : Amendment) → IsWithin roll.config roll.members roll.clock roll.length → IsPlannedAt roll c → IsWithin roll.config (edited_by roll.members c.edits) c.clock c.length
planned-within roll c w p = record { limit = planned_limit roll.members c.edits ∙ w.limit; opened = p.opened; moment = p.clock; end = p.length }

behind-is : (roll : Roll) (d e : Overlay) (es : List Edit) → d ≡ record { base = roll.members; edits = [] } → e.base ≡ d.base → es ≡ e.edits → members_of e ≡ fold edited roll.members es
behind-is roll d e es start same is = grind (arith, common_steps)

pub planned-at : (setup : Setup) (roll : Roll) (d e : Overlay) (es : List Edit) (list : List Listed) (entries : List Entry) (slots : List Slot) (now end : ℕ) → d ≡ record { base = roll.members; edits = [] } → e.base ≡ d.base → es ≡ e.edits →
    CanEditEach e.base e.edits → IsPlannedBy setup (members_of d) (members_of e) roll.clock roll.length list entries slots now → end ≡ roll.length + length list → end ≤ greatest_length →
    IsPlannedAt roll (record { edits = Each es; clock = now; length = end })
planned-at setup roll d e es list entries slots now end start same is can p long room =
    let behind = behind-is roll d e es start same is in record {
      edits = rw is (subst (λ (b : Members). CanEditEach b e.edits) (same ∙ ap (λ (x : Overlay). x.base) start) can);
      opened = omega (arith, ap (λ (x : Members). x.opened) behind, p.opened, long);
      clock = p.moment;
      length = room;
    }

pub planned-after : (setup : Setup) (ms : Members) (clock first : ℕ) (d e : Overlay) (es : List Edit) (list : List Listed) (entries : List Entry) (slots : List Slot) (now end : ℕ) → d ≡ record { base = ms; edits = [] } → e.base ≡ d.base → es ≡ e.edits →
    IsPlannedBy setup (members_of d) (members_of e) clock first list entries slots now → end ≡ first + length list →
    changed (roll_between setup.config ms clock first) (record { edits = Each es; clock = now; length = end }) ≡ after (roll_between setup.config ms clock first) list
planned-after setup ms clock first d e es list entries slots now end start same is p long =
    let behind = behind-is (roll_between setup.config ms clock first) d e es start same is in
    ap (λ (x : Members). roll_between setup.config x now end) (sym behind) ∙ ap (λ (k : ℕ). roll_between setup.config (members_of e) now k) long
    ∙ sym p.roll ∙ ap (λ (x : Overlay). after (roll_between setup.config (members_of x) clock first) list) start

pub ruleset committing = (planned-within, common_steps)
