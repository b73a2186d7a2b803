-- A filed answer is the one that the list gives.
use Rattle.std.proofs.Common.{arith, ◌≡◌, ℕ, ◌<◌, Bool, Option, Some, None, List, take, find, option_map, ◌==◌, sym, ap, ◌∙◌}
use mathlib.Core.List.{IsPrefix}
use Rattle.bx_advice.specs.declared.config.Config.{Config}
use Rattle.bx_message.specs.declared.reply.Answer.{Answer}
use Rattle.bx_entry.specs.Words.{Listed, Filed, answer_of, answer}
use Rattle.bx_connects.specs.Connects.{filed_answer, taken_from}
use Rattle.bx_connects.specs.declared.connects.ConnectState.{ConnectState}
use Rattle.bx_shard.specs.Words.{FiledIsGiven, Took, filed_with_place, given_of, Setup, shard_at, State, IsAsBefore, connect_in}
use Rattle.bx_theory.proofs.{Lists.answer_more, Waits.session_answer}
use Rattle.bx_shard.proofs.{Cases.by_option, Untaken.found_in}

pub found_answer : (setup : Setup) (list : List Listed) (taken : List ℕ) (k n place : ℕ) (f : Filed) →
    find (λ (g : Filed). g.connect == place) (shard_at setup list taken k n).filed ≡ Some f → answer setup.config (take n list) place ≡ Some (answer_of f)
found_answer setup list taken k n place f e = let d = found_in setup list taken k n place f e in session_answer setup.config d.one.number place (take n list) f d.found

pub given_filed : (o : Option ConnectState) → filed_answer o ≡ option_map given_of (filed_with_place o)
given_filed o = grind arith

pub filed_answers_match_definitions : FiledIsGiven
filed_answers_match_definitions setup list taken k n place s a h e =
    let fs : List Filed = (shard_at setup list taken k n).filed in
    let test : Filed → Bool = λ g. g.connect == place in
    let given : filed_answer (connect_in s place) ≡ option_map given_of (option_map answer_of (find test fs)) = given_filed (connect_in s place) ∙ ap (option_map given_of) (h.filed place) in
    by_option (λ o. option_map given_of (option_map answer_of o) ≡ Some a → option_map given_of (answer setup.config (take n list) place) ≡ Some a) (find test fs)
    (λ i j. cc) (λ f i j. ap (option_map given_of) (found_answer setup list taken k n place f i) ∙ j) (sym given ∙ e)

pub given_longer : (config : Config) (xs ys : List Listed) (place : ℕ) (a : Answer) → 0 < config.limits.batch → IsPrefix xs ys → option_map given_of (answer config xs place) ≡ Some a → option_map given_of (answer config ys place) ≡ Some a
given_longer config xs ys place a room p e =
    by_option (λ o. option_map given_of o ≡ Some a → option_map given_of (answer config ys place) ≡ Some a) (answer config xs place) (λ i j. cc)
    (λ b i j. ap (λ (zs : List Listed). option_map given_of (answer config zs place)) (sym p.1) ∙ ap (option_map given_of) (answer_more config xs p.0 place b room i) ∙ j) e

-- ---- a taking without a filed answer

none_taken : (o : Option ConnectState) → filed_answer o ≡ None → taken_from o ≡ o
none_taken o e = grind arith

pub as_before : (place : ℕ) (old new : State) → filed_answer (connect_in old place) ≡ None → Took place old new → IsAsBefore old new
as_before place old new none took = record {
  place = took.place_is;
  setup = took.setup_is;
  index = took.index_is;
  shut = took.shut_is;
  sessions = took.sessions;
  connects = λ p. grind (arith, took.connects p, none_taken (connect_in old place) none);
}
