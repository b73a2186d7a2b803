use Rattle.std.proofs.Common.{option_map, string_bytes, sym, ◌∙◌}
use Rattle.std.specs.{BTreeMap.get, BTreeMap.is_at, Io.KnownBytes.Appends, Ordering.nat_cmp}
use Rattle.bx_script.specs.Words.{result_text, written}
use Rattle.bx_fanout.specs.Stages.{seen_out}
use Rattle.bx_script.specs.Printing as script
use Rattle.bx_replay.proofs.{Keeping.TicksAs, Keeping.ok_of, Keeping.on_ok_each, Keeping.out_printed, Fronts.out_front}
use Rattle.bx_script.proofs.Fronts.{writes_ok}
use Rattle.bx_replay.proofs.kept.print_out.Goals as goal

pub returns-clause-prints : goal.returns-clause-prints
returns-clause-prints g c =
    let o = c.args.out.now in
    let a = c.in-Some.asked in
    let old = c.args.kept.now in
    let new = c.remove.new.self in
    on_ok_each c.write_result.result
    (λ (r : TicksAs a.tick). Appends (written g.W.Write.contents c.args.writer.now) (written g.W.Write.contents c.write_result.new.writer) (result_text (script.numbered a.line (option_map string_bytes a.callback) r.read) r.read o.result))
    (λ r. writes_ok (written g.W.Write.contents c.args.writer.now) (written g.W.Write.contents c.write_result.new.writer) c.write_result.result (result_text (script.numbered a.line (option_map string_bytes a.callback) r.read) r.read o.result)
    (c.write_result.ensures.text r.read r.ticks))
    (λ h numbered kept. out_printed numbered (seen_out o) c.in-Some.asked (get nat_cmp old) (get nat_cmp new) (is_at (nat_cmp o.input)) (written g.W.Write.contents c.args.writer.now) (written g.W.Write.contents c.write_result.new.writer)
    (sym c.remove.ensures.value ∙ c.in-Some.is) c.remove.ensures.updates.0 h kept)

pub returns-clause-others : goal.returns-clause-others
returns-clause-others g c = ok_of c.write_result.result c.remove.ensures.updates.0

pub returns-clause-fault : goal.returns-clause-fault
returns-clause-fault g c =
    let o = c.args.out.now in
    out_front (seen_out o) c.in-Some.asked (get nat_cmp c.args.kept.now) (written g.W.Write.contents c.args.writer.now) (written g.W.Write.contents c.write_result.new.writer) c.write_result.result
    (sym c.remove.ensures.value ∙ c.in-Some.is) (λ r. c.write_result.ensures.text r.read r.ticks)
