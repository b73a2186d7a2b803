-- A publish without a client id has no session.
use Rattle.std.proofs.Common.{◌≡◌, ℕ, max, Bool, true, false, cond, not, ◌&&◌, is_some, is_none, Option, None, List, [], ◌∷◌, refl, sym, ap, ◌∙◌, subst}
use Rattle.bx_names.specs.Faults.{first_case, name_fault}
use Rattle.bx_advice.specs.declared.{config.Config.Config, error.Error.Error}
use Rattle.bx_advice.specs.declared.error.Error.TheVariants.{NoClientId, UnknownClient, InvalidChannel, MissingData}
use Rattle.bx_message.specs.declared.{message.Message.Message, message.TextMember.TextMember, message_kind.MessageKind.MessageKind, message.TextMember.TheVariants.Absent}
use Rattle.bx_message.specs.MessageKinds.{message_kind_of, is_handshake}
use Rattle.bx_entry.specs.Words.{Post, Posted, State, Verdict, verdict, Registry, Registered, cases_of, event_of, is_text, judged_by, named_by, needs_session, publish_cases, refusal, sender_of, sessionless_kind, unnamed, registry, state_of}
use Rattle.bx_entry.specs.declared.entry.EntryKind.TheVariants.{Publish, Refused}
use Rattle.bx_theory.proofs.Verdicts.{registry_next}
use Rattle.bx_theory.specs.Readings.{PublishesOfNone, IsOfNone}

record IsOf (taken faulty empty : Bool) (m : Message) (state : State) (v : Verdict) : Type 0 where
  kind : v.kind ≡ cond (taken && (not faulty && not empty)) (Publish (event_of m)) Refused
  sender : v.sender ≡ None
  rides : v.rides ≡ None
  sessions : v.state.sessions ≡ state.sessions

abbrev fault_by : Bool → Bool → Bool → Option Error
fault_by taken faulty empty = first_case ((not taken && true, NoClientId) ∷ (not taken && true, UnknownClient) ∷ (faulty, InvalidChannel) ∷ (empty, MissingData) ∷ [])

by : (config : Config) (state : State) (moment : ℕ) (p : Posted) → is_handshake p.message ≡ false → message_kind_of p.message.channel ≡ MessageKind.Publish → (taken faulty empty : Bool) →
    IsOf taken faulty empty p.message state (judged_by config state moment p None (fault_by taken faulty empty))
by config state moment p other is false faulty empty = record { kind = refl; sender = refl; rides = refl; sessions = refl }
by config state moment p other is true true empty = record { kind = refl; sender = refl; rides = refl; sessions = refl }
by config state moment p other is true false true = record { kind = refl; sender = refl; rides = refl; sessions = refl }
by config state moment p other is true false false =
    subst (λ (b : Bool). IsOf true false false p.message state (unnamed config state moment p b)) (sym other)
    (record { kind = ap (λ (c : MessageKind). sessionless_kind c p.message) is; sender = refl; rides = refl; sessions = refl })

opens_not : (b : Bool) (c : MessageKind) → cond b MessageKind.Handshake c ≡ MessageKind.Publish → b ≡ false
opens_not true c h = cc
opens_not false c h = refl

no_handshake : (m : Message) → message_kind_of m.channel ≡ MessageKind.Publish → is_handshake m ≡ false
no_handshake m h = opens_not (is_handshake m) _ h

of_none : (config : Config) (state : State) (moment : ℕ) (p : Posted) → message_kind_of p.message.channel ≡ MessageKind.Publish → p.message.client ≡ Absent →
    IsOf config.anonymous (is_some (name_fault p.message.channel)) (is_none p.message.payload) p.message state (verdict config state moment p)
of_none config state moment p is absent =
    let faulty : Bool = is_some (name_fault p.message.channel) in
    let empty : Bool = is_none p.message.payload in
    let rs : List Registered = state.sessions in
    let named : named_by state.sessions (message_kind_of p.message.channel) p.message ≡ None = ap (λ (c : MessageKind). named_by rs c p.message) is ∙ ap (sender_of rs) absent in
    let refused : refusal config state.sessions p ≡ fault_by config.anonymous (is_some (name_fault p.message.channel)) (is_none p.message.payload) =
    ap (λ (c : MessageKind). first_case (cases_of config rs p c)) is
    ∙ ap (λ (client : TextMember). first_case ((needs_session config client && not (is_text client), NoClientId) ∷ (needs_session config client && is_none (sender_of rs client), UnknownClient) ∷ publish_cases p.message)) absent in
    subst (λ (o : Option Registered). IsOf config.anonymous faulty empty p.message state (judged_by config state moment p o (refusal config rs p))) (sym named)
    (subst (λ (e : Option Error). IsOf config.anonymous faulty empty p.message state (judged_by config state moment p None e)) (sym refused)
    (by config state moment p (no_handshake p.message is) is config.anonymous faulty empty))

pub publish_without_client_has_no_session : PublishesOfNone
publish_without_client_has_no_session config list p is absent =
    let r : Registry = registry config list in
    let a = of_none config (state_of r) (max r.clock p.moment) p is absent in
    subst (IsOfNone config p.message r) (sym (registry_next config list (Post p))) (record { found = _; judged = refl; kind = a.kind; sender = a.sender; rides = a.rides; sessions = a.sessions })
