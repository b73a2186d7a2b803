use Rattle.std.proofs.Common.{false, None, option_and_then, ◌≡◌, ◌++◌, sym, ap, ◌∙◌, rules, arith}
use Rattle.std.proofs.lemmas.{List.append_assoc, Grind.common_steps}
use Rattle.std.specs.Char.{encode_utf8}
use Rattle.bx_cut.specs.Strings.{spelled}
use Rattle.bx_cut.proofs.Contents.{not-spelled, plain-none, after-run, after-end, after-escape, after-fault, never, fault-not-spelled, end-spelled}
use Rattle.json.specs.Text.{content, plain, prepend}
use Rattle.bx_cut.proofs.{Insides.spells_reads, string.spells.Goals.After-as_bytes, string.spells.Goals.After-as_bytes-in-Escape}
use Rattle.bx_cut.proofs.string.spells.Goals as goal

ran : (c : After-as_bytes) → spelled c.args.value.now ≡ prepend (c.loop-left.invariant.1.0 ++ c.as_bytes.result.now) (content plain c.split_at.result.1.now)
ran c = after-run c.loop-left.rest.now _ _ _ _ _ c.plain_len.ensures.value (c.as_bytes.ensures.value ∙ c.split_at.ensures.front) c.split_at.ensures.back c.loop-left.invariant.1.2

wanted : (c : After-as_bytes-in-Escape) → (c.args.text.now ≡ (c.loop-left.invariant.1.0 ++ c.as_bytes.result.now) ++ c.in-Some-without.left.now) × (c.as_bytes-in-Escape.result.now ≡ encode_utf8 c.in-Escape.c)
wanted c = grind (arith, common_steps, append_assoc)

pub next_part-requires : goal.next_part-requires
next_part-requires c = rw (c.split_at.ensures.back, c.plain_len.ensures.value) (plain-none c.loop-left.rest.now)

pub returns-in_default-without-clause-value : goal.returns-in_default-without-clause-value
returns-in_default-without-clause-value c =
    let done = c.loop-left.invariant.1 in
    never (not-spelled c.args.text.now done.0 c.loop-left.wanted.now _ _ _ done.1 c.in_default-without.ensures (ran (goal.at.returns-in_default-without-clause-value c).After-as_bytes))

pub returns-in-End-clause-value : goal.returns-in-End-clause-value
returns-in-End-clause-value c =
    let done = c.loop-left.invariant.1 in
    let ended = after-end _ _ _ c.in-End.ensures (ran (goal.at.returns-in-End-clause-value c).After-as_bytes) in
    end-spelled c.args.text.now done.0 c.loop-left.wanted.now c.as_bytes.result.now c.in-Some-without.left.now _ _ done.1 c.in-Some-without.ensures ended c.is_empty.ensures

pub returns-in_default-without-2-clause-value : goal.returns-in_default-without-2-clause-value
returns-in_default-without-2-clause-value c =
    let at = goal.at.returns-in_default-without-2-clause-value c in
    let w = wanted at.After-as_bytes-in-Escape in
    let more = after-escape _ _ _ _ _ c.in-Escape.ensures.0 (ran at.After-as_bytes) in
    never (not-spelled c.args.text.now _ c.in-Some-without.left.now _ _ _ w.0 (rw w.1 at c.in_default-without-2.ensures) more)

pub loop-left-preserved : goal.loop-left-preserved
loop-left-preserved c =
    let at = goal.at.loop-left-preserved c in
    let w = wanted at.After-as_bytes-in-Escape in
    let front = c.loop-left.invariant.1.0 ++ c.as_bytes.result.now in
    let next : c.in-Some-without.left.now ≡ encode_utf8 c.in-Escape.c ++ c.in-Some-without-2.left.now = rw w.1 at c.in-Some-without-2.ensures in
    (search rules, (front ++ encode_utf8 c.in-Escape.c, w.0 ∙ ap (λ x. front ++ x) next ∙ sym (append_assoc front _ _), after-escape _ _ _ _ _ c.in-Escape.ensures.0 (ran at.After-as_bytes)))

pub returns-in-Fault-clause-value : goal.returns-in-Fault-clause-value
returns-in-Fault-clause-value c = fault-not-spelled c.args.text.now _ (after-fault _ _ _ c.in-Fault.ensures (ran (goal.at.returns-in-Fault-clause-value c).After-as_bytes))

pub returns-in_default-without-2-clause-reads : goal.returns-in_default-without-2-clause-reads
returns-in_default-without-2-clause-reads c d r bare = spells_reads c.args.value.now d r bare c.args.text.now false (returns-in_default-without-2-clause-value c)

pub returns-in_default-without-clause-reads : goal.returns-in_default-without-clause-reads
returns-in_default-without-clause-reads c d r bare = spells_reads c.args.value.now d r bare c.args.text.now false (returns-in_default-without-clause-value c)

pub returns-in-End-clause-reads : goal.returns-in-End-clause-reads
returns-in-End-clause-reads c d r bare = spells_reads c.args.value.now d r bare c.args.text.now c.is_empty.result (returns-in-End-clause-value c)

pub returns-in-Fault-clause-reads : goal.returns-in-Fault-clause-reads
returns-in-Fault-clause-reads c d r bare = spells_reads c.args.value.now d r bare c.args.text.now false (returns-in-Fault-clause-value c)

pub returns-in_default-clause-reads : goal.returns-in_default-clause-reads
returns-in_default-clause-reads c d r bare =
    let none : spelled c.args.value.now ≡ None = ap (option_and_then (content plain)) (sym c.in_default.ensures.value) in
    spells_reads c.args.value.now d r bare c.args.text.now false (fault-not-spelled c.args.text.now (spelled c.args.value.now) none)

pub returns-then-differs_at_once-clause-value : goal.returns-then-differs_at_once-clause-value
returns-then-differs_at_once-clause-value c = grind (arith, common_steps, never)

pub returns-then-differs_at_once-clause-reads : goal.returns-then-differs_at_once-clause-reads
returns-then-differs_at_once-clause-reads c d r bare = spells_reads c.args.value.now d r bare c.args.text.now false (returns-then-differs_at_once-clause-value c)
