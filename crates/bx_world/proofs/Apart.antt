-- No event is in two answers of a session that does not acknowledge.
use Rattle.std.proofs.Common.{sym, ap, ◌∙◌}
use Rattle.bx_theory.specs.Fronts as fronts
use Rattle.bx_theory.proofs.Fronts.{answers_share_no_event}
use Rattle.bx_shard.specs.Refining.{given_of}
use Rattle.bx_world.specs.Headline.{PlainGivenOnce}
use Rattle.bx_world.specs.Words.{EachTook}
use Rattle.bx_world.proofs.{Giving.GivenAs, Giving.gave_as, Takes.taken_answers_match_one_thread}

pub plain_events_given_once : PlainGivenOnce
plain_events_given_once setup first steps outs last room r number place later a b l plain w v g h =
    let d : EachTook setup.config last.list steps outs = taken_answers_match_one_thread setup first steps outs last room r in
    let x : GivenAs setup.config last.list place a = gave_as setup.config last.list steps outs place a d g in
    let y : GivenAs setup.config last.list later b = gave_as setup.config last.list steps outs later b d h in
    let t : fronts.GivenApart setup.config last.list number place later x.placed y.placed =
    answers_share_no_event setup.config last.list number place later x.placed y.placed room plain l w v x.given y.given in
    record {
      filed = t.filed;
      next = t.next;
      found = t.filed_is.found;
      found_next = t.next_is.found;
      given = sym x.is ∙ ap given_of t.filed_is.is;
      given_next = sym y.is ∙ ap given_of t.next_is.is;
      apart = t.apart;
    }
