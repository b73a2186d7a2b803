-- The session at an index of a shard's sessions.
use Rattle.std.proofs.Common.{◌≡◌, ℕ, nat_eq, Some, option_map, slice_get, sym, ap, ◌∙◌}
use Rattle.std.proofs.lemmas.Option.{slice_get-map}
use Rattle.std.specs.Map.{lookup}
use Rattle.bx_entry.specs.Keeping.{Kept}
use Rattle.bx_session.specs.Views.{WithRoom}
use Rattle.bx_shard.specs.Sessions.{kept_in, patterns_in}
use Rattle.bx_shard.specs.Surveys.{IsSurveyAt, IsSurveyOf, opened_in}
use Rattle.bx_shard.specs.declared.{sessions.Sessions.Sessions, survey.SessionSurvey.SessionSurvey}

pub survey_at : (s : Sessions) (index n : ℕ) (x : WithRoom) (shown : SessionSurvey) → slice_get s.by_number.entries index ≡ Some (n, x) → lookup (nat_eq n) s.by_number.entries ≡ Some x
    → shown.number ≡ n → shown.opened ≡ x.opened → shown.patterns.items ≡ patterns_in s n → IsSurveyOf x.kept shown → (k : Kept) × IsSurveyAt s index k shown
survey_at s index n x shown entry found number opened patterns state = (
  x.kept,
  record {
    number_is = slice_get-map (λ (e : ℕ × WithRoom). e.0) s.by_number.entries index ∙ ap (option_map (λ (e : ℕ × WithRoom). e.0)) entry ∙ ap (λ (m : ℕ). Some m) (sym number);
    session_is = ap (kept_in s) number ∙ ap (option_map (λ (y : WithRoom). y.kept)) found;
    opened_is = ap (opened_in s) number ∙ ap (option_map (λ (y : WithRoom). y.opened)) found ∙ ap (λ (m : ℕ). Some m) (sym opened);
    patterns_are = patterns ∙ ap (patterns_in s) (sym number);
    state_is = state;
  },
)
