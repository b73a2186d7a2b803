use Rattle.std.proofs.Common.{◌≡◌, ℕ, List, refl, ap, sym, subst, ◌∙◌}
use Rattle.std.specs.{BTreeMap.get, Ordering.nat_cmp, Io.KnownBytes.Appends}
use Rattle.bx_replay.specs.Kept.{held_texts}
use Rattle.bx_replay.specs.Serving.{held_lines, seen_lines}
use Rattle.bx_replay.proofs.Steps.{added_served, held_served}
use Rattle.bx_script.specs.Words.{inputs_from, written}
use Rattle.bx_entry.specs.Runs.{held}
use Rattle.bx_theory.specs.Lines.{inputs_in}
use Rattle.bx_script.proofs.Fronts.{fault_writes, front_none, writes_all}
use Rattle.bx_fanout.specs.Rounds.{added_by, inputs_of, setup_in}
use Rattle.bx_replay.proofs.script.finish.Goals as goal

pub print_held-requires : goal.print_held-requires
print_held-requires g c =
    let s = c.args.server.now in
    record {
      kept = held_served (setup_in s.round).config (seen_lines s.lines) (inputs_of s.round) (added_by s.round) (get nat_cmp s.kept) s.number c.deref.result.now c.requires.serves.served
          (c.deref.ensures.value ∙ c.in_ok-numbers.ensures.settled (added_served (setup_in s.round).config (seen_lines s.lines) (inputs_of s.round) (added_by s.round) (get nat_cmp s.kept) s.number c.requires.serves.served));
    }

pub returns-in_err-numbers-clause-text : goal.returns-in_err-numbers-clause-text
returns-in_err-numbers-clause-text g c =
    let s = c.args.server.now in
    let text = held_lines (setup_in s.round).config s.lines in
    let writer = written g.W.Write.contents c.args.writer.now in
    fault_writes writer writer c.from_residual.result text text refl c.from_residual.ensures.0 (front_none writer text)

pub returns-in_err-print_held-clause-text : goal.returns-in_err-print_held-clause-text
returns-in_err-print_held-clause-text g c =
    let s = c.args.server.now in
    let d = c.requires.serves.served in
    let numbered = inputs_from 1 (seen_lines s.lines) in
    let numbers : c.deref.result.now ≡ held (setup_in s.round).config (inputs_in (seen_lines s.lines)) =
    c.deref.ensures.value ∙ c.in_ok-numbers.ensures.settled (added_served (setup_in s.round).config (seen_lines s.lines) (inputs_of s.round) (added_by s.round) (get nat_cmp s.kept) s.number d) ∙ ap (held (setup_in s.round).config) d.inputs_are in
    fault_writes (written g.W.Write.contents c.args.writer.now) (written g.W.Write.contents c.print_held.new.writer) c.from_residual-in_err-print_held.result (held_lines (setup_in s.round).config s.lines) (held_texts numbered c.deref.result.now)
    (ap (held_texts numbered) (sym numbers)) c.from_residual-in_err-print_held.ensures.0 (c.in_err-print_held.ensures.text numbered d.kept_are)

pub returns-clause-text : goal.returns-clause-text
returns-clause-text g c =
    let s = c.args.server.now in
    let d = c.requires.serves.served in
    let numbered = inputs_from 1 (seen_lines s.lines) in
    let numbers : c.deref.result.now ≡ held (setup_in s.round).config (inputs_in (seen_lines s.lines)) =
    c.deref.ensures.value ∙ c.in_ok-numbers.ensures.settled (added_served (setup_in s.round).config (seen_lines s.lines) (inputs_of s.round) (added_by s.round) (get nat_cmp s.kept) s.number d) ∙ ap (held (setup_in s.round).config) d.inputs_are in
    let first = written g.W.Write.contents c.args.writer.now in
    let before = written g.W.Write.contents c.print_held.new.writer in
    writes_all first before (written g.W.Write.contents c.flush.new.self) c.flush.result (held_lines (setup_in s.round).config s.lines)
    (subst (λ (is : List ℕ). Appends first before (held_texts numbered is)) numbers (c.in_ok-print_held.ensures.text numbered d.kept_are)) c.flush.ensures.bytes
