-- The session of an accepted message is live, unless the message opens it.
use Rattle.std.proofs.Common.{length, ◌≡◌, ℕ, Bool, true, false, ◌&&◌, Some, slice_get, take, List, ◌∷◌, map, ◌==◌, sym, ap, ◌∙◌, subst, eq-eqb}
use Rattle.std.proofs.lemmas.Bool.{and_parts, both_ways}
use Rattle.std.proofs.Math.Seq.{take-append_seam}
use Rattle.std.specs.Str.{bytes_eq}
use Rattle.bx_advice.specs.declared.config.Config.{Config}
use Rattle.bx_message.specs.declared.{message.Message.Message, message.TextMember.TextMember, message_kind.MessageKind.MessageKind, message.TextMember.TheVariants.Text}
use Rattle.bx_message.specs.MessageKinds.{message_kind_of}
use Rattle.bx_entry.specs.Words.{Listed, Posted, Registered, Judged, sender_of, named_by, registry, entries_of}
use Rattle.bx_entry.specs.declared.entry.Entry.{Entry}
use Rattle.bx_theory.specs.Readings.{opens_by, since_opening, unclosed, AcceptedWhileLive}
use Rattle.bx_theory.proofs.Verdicts.{FoundOf, each_verdict, found_of_place, got_here, judged_before, verdict_of}
use Rattle.bx_theory.proofs.{Dues.named_session, Lists.find_true, Lives.registry_and_entries_agree_on_live}

-- ---- The sender is live

sender_live : (rs : List Registered) (m : TextMember) (r : Registered) → sender_of rs m ≡ Some r → r.live ≡ true
sender_live rs (Text client) r e = (and_parts r.live (bytes_eq r.client client) (find_true (λ q. q.live && bytes_eq q.client client) rs r e)).0
sender_live rs _ r e = cc

named_live : (rs : List Registered) (c : MessageKind) (m : Message) (r : Registered) → named_by rs c m ≡ Some r → r.live ≡ true
named_live rs MessageKind.Handshake m r e = cc
named_live rs MessageKind.UnknownMeta m r e = cc
named_live rs _ m r e = sender_live rs m.client r e

-- ---- One element

abbrev pub live_by : ℕ → List Entry → Bool
live_by number es = unclosed number (since_opening number es)

own_opening : (number m : ℕ) → Some m ≡ Some number → (m == number) ≡ false → ⊥
own_opening number m s o = let same : m ≡ number = cc in both_ways (m == number) o (eq-eqb m number same)

pub sender_reads : (config : Config) (ys : List Listed) (p : Posted) (s : Registered) → named_by (registry config ys).sessions (message_kind_of p.message.channel) p.message ≡ Some s → live_by s.number (entries_of (registry config ys)) ≡ true
sender_reads config ys p s e =
    let rs : List Registered = (registry config ys).sessions in
    sym (named_session (λ q. q.live ≡ live_by q.number (entries_of (registry config ys))) rs (message_kind_of p.message.channel) p.message s e (registry_and_entries_agree_on_live config ys)) ∙ named_live rs (message_kind_of p.message.channel) p.message s e

accepted_live : (config : Config) (ys : List Listed) (x : Listed) (number : ℕ) → (verdict_of config (registry config ys) x).sender ≡ Some number →
    opens_by number (verdict_of config (registry config ys) x).kind ≡ false → live_by number (entries_of (registry config ys)) ≡ true
accepted_live config ys x number =
    let es : List Entry = entries_of (registry config ys) in
    each_verdict config (registry config ys) (λ y v. v.sender ≡ Some number → opens_by number v.kind ≡ false → live_by number es ≡ true) (record {
      refuses = λ p sender error s o. cc;
      opens = λ p s o. absurd (own_opening number _ s o);
      none = λ p s o. cc;
      serves = λ p q e s o. let same : q.number ≡ number = cc in subst (λ (n : ℕ). live_by n es ≡ true) same (sender_reads config ys p q e);
      ticks = λ moment s o. cc;
    }) x

-- ---- All elements

pub accepted_while_live : AcceptedWhileLive
accepted_while_live config list before j behind number whole sender opens =
    let f : FoundOf config list (length before) j = found_of_place config list (length before) j (ap (λ (js : List Judged). slice_get js (length before)) whole ∙ got_here before j behind) in
    let same : entries_of (registry config f.before) ≡ map (λ (i : Judged). i.entry) before =
    ap (map (λ (i : Judged). i.entry)) (judged_before config list (length before) j f ∙ ap (take (length before)) whole ∙ take-append_seam before (j ∷ behind)) in
    ap (live_by number) (sym same)
    ∙ accepted_live config f.before f.element number (ap (λ (i : Judged). i.sender) f.found ∙ sender) (ap (λ (i : Judged). opens_by number i.entry.kind) f.found ∙ opens)
