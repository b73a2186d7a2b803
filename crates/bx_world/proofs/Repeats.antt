-- A connect that acknowledges nothing new gets the outstanding batch again.
use Rattle.std.proofs.Common.{◌≡◌, ℕ, ◌<◌, Some, List, option_map, sym, ap, ◌∙◌}
use Rattle.bx_advice.specs.declared.config.Config.{Config}
use Rattle.bx_message.specs.declared.reply.Answer.{Answer}
use Rattle.bx_entry.specs.Words.{Listed, PlacedAnswer, answer}
use Rattle.bx_theory.specs.Fronts as fronts
use Rattle.bx_theory.proofs.Fronts.{repeated_connect_gets_the_same_batch}
use Rattle.bx_shard.specs.Refining.{given_of}
use Rattle.bx_world.specs.Words.{AsksAgain, BatchesRepeat, EachTook, Gave, GivenAgain}
use Rattle.bx_world.specs.declared.step.{Step.Step, StepOut.StepOut}
use Rattle.bx_world.proofs.{Giving.gave_answer, Takes.taken_answers_match_one_thread}

given_is : (config : Config) (list : List Listed) (place : ℕ) (x : PlacedAnswer) (steps : List Step) (outs : List StepOut) (a : Answer) → EachTook config list steps outs → answer config list place ≡ Some x →
    Gave steps outs place a → given_of x ≡ a
given_is config list place x steps outs a d e g =
    let h : Some (given_of x) ≡ Some a = sym (ap (option_map given_of) e) ∙ gave_answer config list steps outs place a d g in
    cc

given_again : (config : Config) (list : List Listed) (steps : List Step) (outs : List StepOut) (number place : ℕ) → 0 < config.limits.batch → EachTook config list steps outs → AsksAgain config list number place →
    GivenAgain config list steps outs number place
given_again config list steps outs number place room d a =
    let t : fronts.GivenAgain config list number place = repeated_connect_gets_the_same_batch config list number place room a in
    let former_is : (b : Answer) → Gave steps outs t.former b → given_of t.first ≡ b = λ b g. given_is config list t.former t.first steps outs b d t.answered g in
    let later_is : (b : Answer) → Gave steps outs place b → given_of t.again ≡ b = λ b g. given_is config list place t.again steps outs b d t.answered_again g in
    record {
      repeated = t;
      given = λ b g. sym (ap (λ (x : Answer). x.events) (later_is b g)) ∙ t.batch_is;
      numbered = λ b g. sym (ap (λ (x : Answer). x.reply.ack) (former_is b g)) ∙ t.first_number;
      numbered_again = λ b g. sym (ap (λ (x : Answer). x.reply.ack) (later_is b g)) ∙ t.again_number;
      same = λ b c g h. sym (ap (λ (x : Answer). x.events) (later_is c h)) ∙ t.events ∙ ap (λ (x : Answer). x.events) (former_is b g);
    }

pub batches_repeat : BatchesRepeat
batches_repeat setup first steps outs last room r number place a = given_again setup.config last.list steps outs number place room (taken_answers_match_one_thread setup first steps outs last room r) a
