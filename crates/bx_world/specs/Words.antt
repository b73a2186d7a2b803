-- Names of this crate's definitions, for files that import several.
pub use Rattle.bx_theory.specs.Fronts.{AsksAgain, slot_at}
pub use Rattle.bx_world.specs.Headline.{BatchesRepeat, EachReplied, EachSlot, Gave, GaveIn, GivenAgain, GivenLater, IsAdmitted, IsSlot, IsTicket, NoneGivenAgain, Replied, RepliedBy, RepliesAreAnswers, asked_by}
pub use Rattle.bx_world.specs.Outputs.{admission, application}
pub use Rattle.bx_world.specs.Refining.{EachRefines, HasApplied, HasStayed, IsApplication, RefinesFrom, StandFrom, StandWithin, WorldHolds, some_stands_at}
pub use Rattle.bx_world.specs.Schedules.{AnswersAreFiled, AnswersCanBeTaken, EachNew, EachTook, ListIsAdmitted, NoneTakenTwice, SchedulesCompose, TakesAreAnswers, Took, TookBy, added_in, admitted_in, taken_by, taken_places}
pub use Rattle.bx_world.specs.Seen.{Ran, Steps, setup_of, world_of}
pub use Rattle.bx_world.specs.Worlds.{IsOutput, IsPlanned, Runs, WorldState, after, filed_under, is_level, may_take_memory, new_world, next_entry, output_admit}
