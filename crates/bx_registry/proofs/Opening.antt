-- A request opens at most one session.
use Rattle.std.proofs.Common.{◌≡◌, ℕ, ◌+◌, ◌≤◌, Bool, true, List, [], ◌∷◌, fold, refl, arith}
use Rattle.std.specs.Prelude.{◌&&◌, ◌||◌, ◌==◌, max, length, if◌then◌else◌, Option, Some}
use Rattle.std.proofs.lemmas.Grind.{common_steps}
use Rattle.bx_advice.specs.declared.{config.Config.Config, error.Error.Error, error.Error.TheVariants.SecondHandshake}
use Rattle.bx_message.specs.declared.message.Message.{Message}
use Rattle.bx_message.specs.MessageKinds.{message_kind_of, is_handshake}
use Rattle.bx_entry.specs.Words.{Posted, Post, listed_from, request, Registered, State, judged_by, named_by, refusal}
use Rattle.bx_roster.specs.Words.{Members, CanEdit, CanEditEach, edited, opened_by, opened_by_each}
use Rattle.bx_roster.specs.declared.{edit.Edit.Edit, edit.Edits.TheVariants.Each}
use Rattle.bx_registry.specs.Words.{Roll, after, next, state_of, changed}
use Rattle.bx_registry.proofs.Judging.{handshake-kind}

abbrev left : Bool → ℕ
left seen = if seen then 0 else 1

-- ---- A message

second-refused : (config : Config) (sessions : List Registered) (p : Posted) → is_handshake p.message ≡ true → p.second ≡ true → refusal config sessions p ≡ Some SecondHandshake
second-refused config sessions p h second = grind (arith, common_steps, handshake-kind)

judged-once : (config : Config) (state : State) (moment : ℕ) (p : Posted) (seen : Bool) → p.second ≡ (seen && is_handshake p.message) →
    (sender : Option Registered) (fault : Option Error) → refusal config state.sessions p ≡ fault →
    (judged_by config state moment p sender fault).state.opened + left (seen || is_handshake p.message) ≤ state.opened + left seen
judged-once config state moment p seen second sender fault is = grind (arith, common_steps, second-refused config state.sessions p)

-- ---- A request

after-once : (roll : Roll) (moment nonce : ℕ) (sole seen : Bool) (ms : List Message) → (after roll (listed_from moment nonce sole seen ms)).members.opened ≤ roll.members.opened + left seen
after-once roll moment nonce sole seen [] = omega arith
after-once roll moment nonce sole seen (m ∷ ms) =
    let p : Posted = record { message = m; moment = moment; nonce = nonce; sole = sole; last = length ms == 0; second = seen && is_handshake m } in
    let live = roll.members.live in
    let one = judged-once roll.config (state_of roll.members roll.senders) (max roll.clock moment) p seen refl (named_by live (message_kind_of m.channel) m) (refusal roll.config live p) refl in
    omega (arith, after-once (next roll (Post p)) moment nonce sole (seen || is_handshake m) ms, one)

-- ---- The planned edits of a request

opened-edit : (ms : Members) (e : Edit) → CanEdit ms e → (edited ms e).opened ≡ ms.opened + opened_by e
opened-edit ms e h1 = grind (arith, common_steps)

opened-edits : (ms : Members) (es : List Edit) → CanEditEach ms es → (fold edited ms es).opened ≡ ms.opened + opened_by_each es
opened-edits ms [] can = omega arith
opened-edits ms (e ∷ es) can = omega (arith, opened-edits (edited ms e) es can.1, opened-edit ms e can.0)

pub few-opened : (roll : Roll) (moment nonce : ℕ) (ms : List Message) (es : List Edit) (now end : ℕ) → CanEditEach roll.members es →
    changed roll (record { edits = Each es; clock = now; length = end }) ≡ after roll (request moment nonce ms) → opened_by_each es ≤ 1
few-opened roll moment nonce ms es now end can same = grind (arith, common_steps, opened-edits, after-once)
