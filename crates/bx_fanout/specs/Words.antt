-- The names of this crate's definitions, for files that import several.
pub use Rattle.bx_fanout.specs.CurrentInputs.{AreAnswers, IsCollected, IsWhole, NoneTakenFrom, given_at, next_place, response_of}
pub use Rattle.bx_fanout.specs.Draining.{CanDrain, Drained, Draining, IsEmptied, Waits, count_filed, filled, put_if}
pub use Rattle.bx_fanout.specs.HeldInputs.{Row, answered_at, items_of, numbers, outs_of, waits, waits_there, with_answer}
pub use Rattle.bx_fanout.specs.RoundStates.{AddsOuts, IsDone, IsSettled, IsConsistent}
pub use Rattle.bx_fanout.specs.Runs.{AreHeldBefore}
pub use Rattle.bx_fanout.specs.Stages.{AllUntaken, GivesOut, IsCollecting, IsGiving, IsStaged, IsTakenIn, bare, is_collecting, own, seen_out}
