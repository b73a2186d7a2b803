-- A registry and its roll, the part of it that the program stores, judge elements alike.
use Rattle.std.proofs.Common.{◌≡◌, ℕ, ◌+◌, Bool, true, false, List, [], ◌∷◌, ◌++◌, length, map, refl, sym, ap, ◌∙◌, fold, append_assoc, append-nil, length-append, arith}
use Rattle.std.specs.Prelude.{max, Option, Some, None}
use Rattle.std.proofs.lemmas.{List.length-map, List.Elements.filter-append, Grind.common_steps}
use Rattle.bx_names.specs.Faults.{first_case}
use Rattle.bx_advice.specs.declared.{config.Config.Config, error.Error.Error}
use Rattle.bx_message.specs.declared.{message_kind.MessageKind.MessageKind, message.Message.Message, message.TextMember.TextMember, message.TextMember.TheVariants.Text}
use Rattle.bx_message.specs.MessageKinds.{message_kind_of, is_handshake}
use Rattle.bx_entry.specs.Words.{Posted, Listed, Post, State, due_of, Registered, Registry, Judged, judge, judged_by, refusal, cases_of, sender_of, named_by, count_live, extended, left_by, overdue, hold_of, joined, senders_after, unnamed, noted, state_of, Verdict, verdict}
use Rattle.bx_entry.specs.Listing as messages
use Rattle.bx_entry.specs.declared.{senders.Senders.Senders, senders.Senders.TheVariants.Mixed}
use Rattle.bx_roster.specs.Live.{live_in}
use Rattle.bx_registry.specs.Words.{Roll, roll_of, step, after, found, GoesOn, StepsAgree, RunsAgree}
use Rattle.bx_registry.specs.Rolls as rolls
use Rattle.bx_roster.proofs.Live.{live_in-live, live_in-extended, live_in-closed, live_in-overdue_closed}
use Rattle.bx_registry.proofs.Lists.{filter-more, find-more}

abbrev is_live : Registered → Bool
is_live r = r.live

count_live-live : (sessions : List Registered) → count_live (live_in sessions) ≡ count_live sessions
count_live-live sessions = ap length (live_in-live sessions)

pub sender_of-live : (sessions : List Registered) (client : TextMember) → sender_of (live_in sessions) client ≡ sender_of sessions client
sender_of-live sessions (Text client) = find-more is_live _ sessions
sender_of-live sessions _ = refl

cases_of-live : (config : Config) (sessions : List Registered) (p : Posted) (message_kind : MessageKind) → cases_of config (live_in sessions) p message_kind ≡ cases_of config sessions p message_kind
cases_of-live config sessions p message_kind = grind (arith, common_steps, count_live-live, sender_of-live)

pub refusal-live : (config : Config) (sessions : List Registered) (p : Posted) → refusal config (live_in sessions) p ≡ refusal config sessions p
refusal-live config sessions p = ap first_case (cases_of-live config sessions p (message_kind_of p.message.channel))

named_by-live : (sessions : List Registered) (message_kind : MessageKind) (m : Message) → named_by (live_in sessions) message_kind m ≡ named_by sessions message_kind m
named_by-live sessions message_kind m = grind (arith, common_steps, sender_of-live)

pub overdue-live : (moment : ℕ) (sessions : List Registered) → overdue moment (live_in sessions) ≡ overdue moment sessions
overdue-live moment sessions = ap (map (λ (r : Registered). r.number)) (filter-more is_live _ sessions)

left_by-live : (message_kind : MessageKind) (number due : ℕ) (sessions : List Registered) →
    live_in (left_by message_kind number (extended number due (live_in sessions))) ≡ live_in (left_by message_kind number (extended number due sessions))
left_by-live message_kind number due sessions = grind (arith, common_steps, live_in-extended, live_in-closed, live_in-live)

-- ---- One element

length-left_by : (message_kind : MessageKind) (number due : ℕ) (sessions : List Registered) → length (left_by message_kind number (extended number due sessions)) ≡ length sessions
length-left_by message_kind number due sessions = grind (arith, common_steps, length-map)

same_roll : (config : Config) (limit moment : ℕ) (senders : Senders) {opened opened' : ℕ} {live live' : List Registered} {len len' : ℕ} → opened ≡ opened' → live ≡ live' → len ≡ len' →
    let roll : Roll = record { config = config; members = record { limit = limit; opened = opened; live = live }; clock = moment; length = len; senders = senders } in
    roll ≡ record { config = config; members = record { limit = limit; opened = opened'; live = live' }; clock = moment; length = len'; senders = senders }
same_roll config limit moment senders e f g = cc

one_more : (js : List Judged) (j : Judged) → length (js ++ j ∷ []) ≡ length js + 1
one_more js j = length-append js (j ∷ [])

pub record Went (config : Config) (r : Registry) (moment : ℕ) (o : Verdict) (s : Registry) : Type 0 where
  pub roll : (rolls.noted (roll_of config r) moment o).roll ≡ roll_of config s
  pub judged : s.judged ≡ r.judged ++ (rolls.noted (roll_of config r) moment o).found ∷ []

abbrev asked : Config → Registry → State
asked config r = rolls.state_of (roll_of config r).members r.senders

live_in-push : (sessions : List Registered) (r : Registered) → live_in (live_in sessions ++ r ∷ []) ≡ live_in (sessions ++ r ∷ [])
live_in-push sessions r = grind (arith, common_steps, filter-append, live_in-live)

goes-unnamed : (config : Config) (r : Registry) (moment : ℕ) (p : Posted) (b : Bool) → Went config r moment (unnamed config (asked config r) moment p b) (noted r moment (unnamed config (state_of r) moment p b))
goes-unnamed config r moment p true = record {
  roll = same_roll config config.limits.sessions moment (senders_after p Mixed) (sym (length-append r.sessions (_ ∷ []))) (live_in-push r.sessions _) (sym (one_more r.judged _));
  judged = refl;
}
goes-unnamed config r moment p false = record { roll = same_roll config config.limits.sessions moment (senders_after p Mixed) refl (live_in-live r.sessions) (sym (one_more r.judged _)); judged = refl }

goes-by : (config : Config) (r : Registry) (moment : ℕ) (p : Posted) (sender : Option Registered) (fault : Option Error) →
    Went config r moment (judged_by config (asked config r) moment p sender fault) (noted r moment (judged_by config (state_of r) moment p sender fault))
goes-by config r moment p sender (Some error) = record { roll = same_roll config config.limits.sessions moment (senders_after p Mixed) refl (live_in-live r.sessions) (sym (one_more r.judged _)); judged = refl }
goes-by config r moment p None None = goes-unnamed config r moment p (is_handshake p.message)
goes-by config r moment p (Some s) None = record {
  roll = same_roll config config.limits.sessions moment (senders_after p (joined r.senders s.number))
      (sym (length-left_by (message_kind_of p.message.channel) s.number (due_of config moment (hold_of config p)) r.sessions))
      (left_by-live (message_kind_of p.message.channel) s.number (due_of config moment (hold_of config p)) r.sessions)
      (sym (one_more r.judged _));
  judged = refl;
}

goes : (config : Config) (r : Registry) (element : Listed) → GoesOn config r (judge config r element) (element ∷ [])
goes config r (Post p) =
    let moment = max r.clock p.moment in
    let message_kind = message_kind_of p.message.channel in
    let named = named_by r.sessions message_kind p.message in
    let went : Went config r moment (verdict config (asked config r) moment p) (judge config r (Post p)) =
    rw (refusal-live config r.sessions p, named_by-live r.sessions message_kind p.message) (goes-by config r moment p named (refusal config r.sessions p)) in
    record { roll = went.roll; judged = went.judged }
goes config r (messages.Tick moment) = record {
  roll = same_roll config config.limits.sessions (max r.clock moment) r.senders (sym (length-map r.sessions _)) (live_in-overdue_closed (max r.clock moment) r.sessions) (sym (one_more r.judged _));
  judged = rw (overdue-live (max r.clock moment) r.sessions) refl;
}

pub roll_judges_element_as_registry : StepsAgree
roll_judges_element_as_registry = goes

runs : (config : Config) (list : List Listed) (r : Registry) → GoesOn config r (fold (judge config) r list) list
runs config [] r = record { roll = refl; judged = sym (append-nil r.judged) }
runs config (element ∷ list) r =
    let one = goes config r element in
    let more = runs config list (judge config r element) in
    record {
      roll = ap (λ roll. after roll list) one.roll ∙ more.roll;
      judged = more.judged ∙ ap (λ js. js ++ found (roll_of config (judge config r element)) list) one.judged
          ∙ append_assoc r.judged ((step (roll_of config r) element).found ∷ []) (found (roll_of config (judge config r element)) list)
          ∙ ap (λ roll. r.judged ++ (step (roll_of config r) element).found ∷ found roll list) (sym one.roll);
    }

pub roll_judges_list_as_registry : RunsAgree
roll_judges_list_as_registry config r list = runs config list r
