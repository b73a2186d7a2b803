-- A session that an operator sees is one that the definitions give.
use Rattle.std.proofs.Common.{◌≡◌, ℕ, [], Option, Some, None, sym, ◌∙◌}
use Rattle.std.specs.Prelude.{◌==◌, find}
use Rattle.bx_entry.specs.Keeping.{Kept}
use Rattle.bx_window.specs.Steps.{list_of}
use Rattle.bx_shard.specs.Surveys.{IsSurveyAt}
use Rattle.bx_shard.specs.Words.{IsCounted, Setup, kept_in, patterns_in, shard_at}
use Rattle.bx_shard.specs.declared.{sessions.Sessions.Sessions, survey.SessionSurvey.SessionSurvey}
use Rattle.bx_hub.specs.Held.{Held, Stands}
use Rattle.bx_hub.specs.Surveys.{IsSessionOf}
use Rattle.bx_hub.specs.declared.shard_state.evidence.SessionEvidence.{SessionEvidence}

kept_at : (setup : Setup) (h : Held) (index : ℕ) (k : Kept) (shown : SessionSurvey) → Stands setup h → IsSurveyAt h.state.sessions index k shown
    → find (λ (j : Kept). j.number == shown.number) (shard_at setup (list_of h.seen) [] h.state.index h.state.place).sessions ≡ Some k
kept_at setup h index k shown stands is = sym (stands.holds.sessions shown.number) ∙ is.session_is

counted_patterns : (s : Sessions) (n : ℕ) (o : Option Kept) (k : Kept) → IsCounted n o (patterns_in s n) → o ≡ Some k → patterns_in s n ≡ k.patterns
counted_patterns s n (Some j) k own e = cc (own.patterns_are)
counted_patterns s n None k none e = cc

patterns_at : (setup : Setup) (h : Held) (index : ℕ) (k : Kept) (shown : SessionSurvey) → Stands setup h → IsSurveyAt h.state.sessions index k shown → shown.patterns.items ≡ k.patterns
patterns_at setup h index k shown stands is =
    let s = h.state.sessions in
    let n : ℕ = shown.number in
    is.patterns_are ∙ counted_patterns s n (kept_in s n) k (stands.holds.sound.tied.patterns n) is.session_is

-- Evidence of a shard's place and of the log that its reader has seen, made with the shard locked.
pub session_of : {L : Type 0} (setup : Setup) (h : Held) (index : ℕ) (k : Kept) (shown : SessionSurvey) (e : SessionEvidence L) → Stands setup h → IsSurveyAt h.state.sessions index k shown
    → e.shard.value ≡ h.state.index → e.index.value ≡ index → e.survey.value ≡ shown → e.place ≡ h.state.place → e.front ≡ h.seen → IsSessionOf setup h.state.index index shown e
session_of setup h index k shown e stands is shard_is index_is survey_is place front = record {
  shard_is = shard_is;
  index_is = index_is;
  survey_is = survey_is;
  within = rw (place, front) stands.holds.within;
  kept = k;
  session_is = rw (place, front) (kept_at setup h index k shown stands is);
  patterns_are = patterns_at setup h index k shown stands is;
  shown_is = is.state_is;
}
