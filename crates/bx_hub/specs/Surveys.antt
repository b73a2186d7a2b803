-- The state of a hub, as shown to its operator.
use Rattle.std.specs.Prelude.{ℕ, ◌≡◌, ◌≤◌, ◌==◌, List, [], length, find, Some}
use Rattle.bx_advice.specs.declared.config.Config.{Config}
use Rattle.bx_entry.specs.Keeping.{Kept}
use Rattle.bx_entry.specs.Placings.{Setup}
use Rattle.bx_entry.specs.Registry.{count_live, registry}
use Rattle.bx_registry.specs.Standings.{roll_at}
use Rattle.bx_shard.specs.Shards.{shard_at}
use Rattle.bx_shard.specs.Surveys.{IsSurveyOf}
use Rattle.bx_shard.specs.declared.survey.SessionSurvey.{SessionSurvey}
use Rattle.bx_window.specs.Steps.{firsts_of, list_of}
use Rattle.bx_window.specs.declared.law.LogStep.{LogStep}
use Rattle.bx_hub.specs.declared.{survey.Survey.Survey, shard_state.evidence.SessionEvidence.SessionEvidence}

-- The counts of entries, live sessions, sessions ever opened and batches in the window, after
-- `steps`.
abbrev pub survey_of : Config → List LogStep → Survey
survey_of config steps = record {
  entries = length (list_of steps);
  live = count_live (registry config (list_of steps)).sessions;
  opened = (roll_at config (list_of steps)).members.opened;
  batches = length (firsts_of steps);
}

module _ {L : Type 0} where
  -- The survey `shown` is that of session `kept` of shard `shard`. `evidence` is of the survey and
  -- the session's index. By the definitions, the shard has this session after the first
  -- `evidence.place` entries of the list of `evidence.front`.
  pub record IsSessionOf (setup : Setup) (shard index : ℕ) (shown : SessionSurvey) (evidence : SessionEvidence L) : Type 0 where
    pub shard_is : evidence.shard.value ≡ shard
    pub index_is : evidence.index.value ≡ index
    pub survey_is : evidence.survey.value ≡ shown
    pub within : evidence.place ≤ length (list_of evidence.front)
    pub kept : Kept
    pub session_is : find (λ (k : Kept). k.number == shown.number) (shard_at setup (list_of evidence.front) [] shard evidence.place).sessions ≡ Some kept
    pub patterns_are : shown.patterns.items ≡ kept.patterns
    pub shown_is : IsSurveyOf kept shown
