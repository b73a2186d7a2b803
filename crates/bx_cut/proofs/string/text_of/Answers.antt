use Rattle.std.proofs.Common.{option_and_then, None, ◌≡◌, ◌++◌, Some, string_bytes, sym, ap, ◌∙◌, rules}
use Rattle.std.specs.Char.{encode_utf8}
use Rattle.bx_cut.specs.Strings.{spelled}
use Rattle.bx_cut.proofs.Contents.{plain-none, after-run, after-end, after-escape, after-fault}
use Rattle.json.specs.Text.{content, plain, prepend}
use Rattle.bx_cut.proofs.{Insides.text_is, string.text_of.Goals.After-push_str}
use Rattle.bx_cut.proofs.string.text_of.Goals as goal

ran : (c : After-push_str) → spelled c.args.value.now ≡ prepend (string_bytes c.loop-text.text ++ c.split_at.result.0.now) (content plain c.split_at.result.1.now)
ran c = after-run c.loop-text.rest.now _ _ _ _ _ c.plain_len.ensures.value c.split_at.ensures.front c.split_at.ensures.back c.loop-text.invariant.1

pub next_part-requires : goal.next_part-requires
next_part-requires c = rw (c.split_at.ensures.back, c.plain_len.ensures.value) (plain-none c.loop-text.rest.now)

pub returns-in-End-clause-value : goal.returns-in-End-clause-value
returns-in-End-clause-value c = ap Some c.in_ok-push_str.ensures.bytes ∙ sym (after-end _ _ _ c.in-End.ensures (ran (goal.at.returns-in-End-clause-value c).After-push_str))

pub loop-text-preserved : goal.loop-text-preserved
loop-text-preserved c =
    let front = string_bytes c.loop-text.text ++ c.split_at.result.0.now in
    let bytes : string_bytes c.push.new.self ≡ front ++ encode_utf8 c.in-Escape.c = rw (← c.in_ok-push_str.ensures.bytes) c.in_ok-push-in-Escape.ensures.bytes in
    (search rules, rw bytes (after-escape _ _ _ _ _ c.in-Escape.ensures.0 (ran (goal.at.loop-text-preserved c).After-push_str)))

pub returns-in-Fault-clause-value : goal.returns-in-Fault-clause-value
returns-in-Fault-clause-value c = sym (after-fault _ _ _ c.in-Fault.ensures (ran (goal.at.returns-in-Fault-clause-value c).After-push_str))

pub returns-in-End-clause-reads : goal.returns-in-End-clause-reads
returns-in-End-clause-reads c d r bare = text_is c.args.value.now d r bare (Some (string_bytes c.push_str.new.self)) (returns-in-End-clause-value c)

pub returns-in-Fault-clause-reads : goal.returns-in-Fault-clause-reads
returns-in-Fault-clause-reads c d r bare = text_is c.args.value.now d r bare None (returns-in-Fault-clause-value c)

pub returns-in_default-clause-reads : goal.returns-in_default-clause-reads
returns-in_default-clause-reads c d r bare = text_is c.args.value.now d r bare None (ap (option_and_then (content plain)) c.in_default.ensures.value)
