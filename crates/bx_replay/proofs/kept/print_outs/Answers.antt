use Rattle.std.proofs.Common.{◌≡◌, ◌+◌, ◌++◌, [], ℕ, List, drop, length, map, take, ap, sym, subst, append-nil, arith, ◌∙◌}
use Rattle.std.proofs.Math.Seq.{take-length}
use Rattle.std.specs.{BTreeMap.get, Ordering.nat_cmp}
use Rattle.bx_replay.specs.Kept.{AllKept, PrintsOuts, inputs_given}
use Rattle.bx_replay.proofs.{Keeping.outs_more, Keeping.outs_next, Keeping.outs_none, Ready.kept_less_one, Ready.next_kept, Ready.past_all, Fronts.outs_front, Fronts.outs_split}
use Rattle.bx_entry.specs.Runs as runs
use Rattle.bx_fanout.specs.Stages.{seen_out}
use Rattle.bx_fanout.specs.declared.out.Out.{Out}
use Rattle.bx_script.specs.Output.{written}
use Rattle.bx_replay.proofs.kept.print_outs.Goals as goal
use Rattle.bx_fanout.proofs.TakingIn.{on-err}

pub loop-out-init : goal.loop-out-init
loop-out-init g c = record {
  others = λ others h. h;
  prints = λ numbered kept. outs_none numbered (written g.W.Write.contents c.args.writer.now) (get nat_cmp c.args.kept.now) kept;
}

pub print_out-requires : goal.print_out-requires
print_out-requires g c =
    let os = c.args.outs.now in
    let start = subst (AllKept (get nat_cmp c.args.kept.now)) (sym (append-nil (inputs_given os))) c.requires.kept in
    record { kept = (next_kept os c.loop-out.out-index c.out-item.result [] (get nat_cmp c.loop-out.kept) c.loop-out-test.true c.out-item.is (c.loop-out.invariant.others [] start)).0 }

pub loop-out-preserved : goal.loop-out-preserved
loop-out-preserved g c =
    let os = c.args.outs.now in
    let index = c.loop-out.out-index in
    let first = written g.W.Write.contents c.args.writer.now in
    let before = written g.W.Write.contents c.loop-out.writer in
    let after = written g.W.Write.contents c.print_out.new.writer in
    record {
      others = λ others h. kept_less_one (inputs_given (drop (index + 1) os) ++ others) c.out-item.result.input (get nat_cmp c.loop-out.kept) (get nat_cmp c.print_out.new.kept) c.in_ok-print_out.ensures.others
          (next_kept os index c.out-item.result others (get nat_cmp c.loop-out.kept) c.loop-out-test.true c.out-item.is (c.loop-out.invariant.others others h)).1;
      prints = λ numbered kept.
          subst (λ (us : List runs.Out). PrintsOuts numbered us first after (get nat_cmp c.print_out.new.kept)) (sym (outs_next os index c.out-item.result c.loop-out-test.true c.out-item.is))
          (outs_more numbered (map seen_out (take index os)) _ first before after (get nat_cmp c.loop-out.kept) (get nat_cmp c.print_out.new.kept) (c.loop-out.invariant.prints numbered kept) (c.in_ok-print_out.ensures.prints numbered));
    }

pub returns-clause-others : goal.returns-clause-others
returns-clause-others g c = λ others h.
    let all : c.loop-out.out-index ≡ length c.args.outs.now = omega arith in
    subst (λ (us : List Out). AllKept (get nat_cmp c.loop-out.kept) (inputs_given us ++ others)) (past_all c.args.outs.now c.loop-out.out-index all) (c.loop-out.invariant.others others h)

pub returns-clause-prints : goal.returns-clause-prints
returns-clause-prints g c = λ numbered kept.
    let os = c.args.outs.now in
    let all : c.loop-out.out-index ≡ length os = omega arith in
    subst (λ (us : List Out). PrintsOuts numbered (map seen_out us) (written g.W.Write.contents c.args.writer.now) (written g.W.Write.contents c.loop-out.writer) (get nat_cmp c.loop-out.kept))
    (ap (λ (n : ℕ). take n os) all ∙ take-length os) (c.loop-out.invariant.prints numbered kept)

pub returns-in_err-print_out-clause-fault : goal.returns-in_err-print_out-clause-fault
returns-in_err-print_out-clause-fault g c = on-err c.from_residual.result
    (λ numbered kept.
    let os = c.args.outs.now in
    let index = c.loop-out.out-index in
    let o = c.out-item.result in
    let p = c.loop-out.invariant.prints numbered kept in
    outs_front numbered (map seen_out os) (map seen_out (take index os)) (seen_out o) (map seen_out (drop (index + 1) os)) (written g.W.Write.contents c.args.writer.now) (written g.W.Write.contents c.loop-out.writer) (written g.W.Write.contents c.print_out.new.writer)
    (outs_split os index o c.loop-out-test.true c.out-item.is) p.appends (c.in_err-print_out.ensures.fault numbered p.kept))
