use Rattle.std.proofs.Common.{ℕ, List, [], option_and_then, sym, ap, ◌∙◌, arith}
use Rattle.std.proofs.lemmas.{Bool.true≢false, Option.none-some, Grind.common_steps}
use Rattle.json.specs.Text.{content, plain}
use Rattle.bx_cut.specs.Words.{spelled}
use Rattle.bx_cut.proofs.Contents.{after-end, after-quote, after-run, at-quote, plain-then-quote, prepend-nil, run-plain}
use Rattle.bx_cut.proofs.string.plain_text_of.Goals as goal

pub returns-then-begins_with-clause-value : goal.returns-then-begins_with-clause-value
returns-then-begins_with-clause-value c =
    let t : List ℕ = c.in_ok-rest.rest.now in
    let run : List ℕ = c.split_at.result.0.now in
    let after : List ℕ = c.split_at.result.1.now in
    let begun = ap (option_and_then (content plain)) (sym c.in_ok-rest.ensures.value) in
    let ran = after-run t [] run after c.plain_len.result (spelled c.args.value.now) c.plain_len.ensures.value c.split_at.ensures.front c.split_at.ensures.back (begun ∙ sym (prepend-nil (content plain t))) in
    after-end run after (spelled c.args.value.now) (at-quote after (sym c.begins_with.ensures ∙ c.if-begins_with.true)) ran

pub returns-then-begins_with-clause-plain : goal.returns-then-begins_with-clause-plain
returns-then-begins_with-clause-plain c = grind (arith, common_steps, run-plain)

pub returns-in_err-rest-clause-none : goal.returns-in_err-rest-clause-none
returns-in_err-rest-clause-none c = grind (arith, common_steps, none-some, after-quote)

pub returns-else-begins_with-clause-none : goal.returns-else-begins_with-clause-none
returns-else-begins_with-clause-none c = grind (arith, common_steps, after-quote, true≢false, plain-then-quote)
