use Rattle.std.proofs.Common.{◌≡◌, ◌+◌, ℕ, List, codes, false, ap, drop, take, get_or, refl, sym, subst, ◌∙◌}
use Rattle.std.proofs.lemmas.List.{take_more}
use Rattle.std.specs.{BTreeMap.get, Io.KnownBytes.Appends, Ordering.nat_cmp, Option.option_copied}
use Rattle.bx_replay.specs.Kept.{held_texts}
use Rattle.std.specs.Prelude.{IsSome, is_some}
use Rattle.bx_replay.proofs.{Fronts.held_front, Fronts.numbers_split, Keeping.held_printed, Keeping.held_same, Ready.kept_at}
use Rattle.bx_script.specs.Words.{line_text, written}
use Rattle.bx_script.proofs.Fronts.{fault_writes}
use Rattle.bx_replay.proofs.kept.print_held.Goals as goal

pub loop-number-preserved : goal.loop-number-preserved
loop-number-preserved g c = λ numbered kept.
    let ns = c.args.numbers.now in
    let index = c.loop-number.number-index in
    let first = written g.W.Write.contents c.args.writer.now in
    let before = written g.W.Write.contents c.loop-number.writer in
    let after = written g.W.Write.contents c.write_held.new.writer in
    subst (λ (is : List ℕ). Appends first after (held_texts numbered is)) (sym (take_more ns index 0 c.loop-number-test.true))
    (held_printed numbered (take index ns) (get_or ns index 0) c.in-Some.asked.now (get nat_cmp c.args.kept.now) first before after (sym c.in-Some.ensures.value) kept (c.loop-number.invariant numbered kept) c.in_ok-write_held.ensures.text)

pub unreachable-requires : goal.unreachable-requires
unreachable-requires g c =
    let ns = c.args.numbers.now in
    let some : IsSome (get nat_cmp c.args.kept.now (get_or ns c.loop-number.number-index 0)) = kept_at ns c.loop-number.number-index (get nat_cmp c.args.kept.now) c.loop-number-test.true c.requires.kept in
    let none : is_some (get nat_cmp c.args.kept.now (get_or ns c.loop-number.number-index 0)) ≡ false =
    ap is_some (sym c.get.ensures.value) ∙ ap (λ o. is_some (option_copied o)) c.in_default.is in
    cc

pub returns-in_err-write_held-clause-text : goal.returns-in_err-write_held-clause-text
returns-in_err-write_held-clause-text g c = λ numbered kept.
    let ns = c.args.numbers.now in
    let index = c.loop-number.number-index in
    let i = get_or ns index 0 in
    let a = c.in-Some.asked.now in
    fault_writes (written g.W.Write.contents c.args.writer.now) (written g.W.Write.contents c.write_held.new.writer) c.from_residual.result (held_texts numbered ns) (held_texts numbered ns) refl c.from_residual.ensures.0
    (held_front numbered ns (take index ns) i (drop (index + 1) ns) (written g.W.Write.contents c.args.writer.now) (written g.W.Write.contents c.loop-number.writer) (written g.W.Write.contents c.write_held.new.writer) (line_text a.line (codes "held")) (numbers_split ns index c.loop-number-test.true)
    (held_same numbered i a (λ (line : ℕ). line_text line (codes "held")) (kept i a (sym c.in-Some.ensures.value)) (λ n. refl)) (c.loop-number.invariant numbered kept) c.in_err-write_held.ensures.text)
