use Rattle.std.proofs.Common.{List, [], ◌∷◌, ◌++◌, length, refl, ap, arith, ◌∙◌}
use Rattle.bx_replay.specs.Serving.{seen_lines}
use Rattle.bx_fanout.specs.Rounds.{setup_in}
use Rattle.bx_script.specs.declared.line.Line.{Line}
use Rattle.bx_replay.proofs.Steps.{number_more, prints_more, prints_none, reads_end, reads_more, reads_none}
use Rattle.bx_replay.proofs.Fronts.{prints_all, prints_some, whole_front}
use Rattle.bx_script.specs.Words.{read_as, written, unread}
use Rattle.bx_replay.proofs.script.answer_all.Goals as goal
use Rattle.bx_fanout.proofs.TakingIn.{on-err}

pub loop-server-init : goal.loop-server-init
loop-server-init g c =
    let s = c.args.server in
    record {
      serves = c.requires.serves;
      config = refl;
      dialect = refl;
      number = omega (arith, c.requires.serves.served.number_is ∙ ap (λ (ls : List Line). length (seen_lines ls)) c.requires.none, c.args.lines.now.reads.few);
      reads = reads_none (read_as c.args.lines.now) (unread g.R.Read.remaining c.args.lines.now) s.lines c.requires.none;
      prints = prints_none (setup_in s.round).config s.lines (written g.W.Write.contents c.args.writer.now) c.requires.none;
    }

pub returns-in_default-clause-serves : goal.returns-in_default-clause-serves
returns-in_default-clause-serves g c = c.loop-server.invariant.serves

pub returns-in_default-clause-config : goal.returns-in_default-clause-config
returns-in_default-clause-config g c = c.loop-server.invariant.config

pub returns-in_default-clause-all : goal.returns-in_default-clause-all
returns-in_default-clause-all g c =
    reads_end (read_as c.args.lines.now) (read_as c.loop-server.lines) (unread g.R.Read.remaining c.args.lines.now) (unread g.R.Read.remaining c.loop-server.lines) (unread g.R.Read.remaining c.next_line.new.self) c.loop-server.server.lines c.in_ok-line.field-0 c.loop-server.invariant.dialect c.in_default.is c.loop-server.invariant.reads c.in_ok-line.ensures.next

pub returns-in_default-clause-prints : goal.returns-in_default-clause-prints
returns-in_default-clause-prints g c = c.loop-server.invariant.prints

pub answer-requires-clause-serves : goal.answer-requires-clause-serves
answer-requires-clause-serves g c κs within = c.loop-server.invariant.serves

pub answer-requires-clause-few : goal.answer-requires-clause-few
answer-requires-clause-few g c κs within = omega (arith, c.loop-server.invariant.number)

pub loop-server-preserved : goal.loop-server-preserved
loop-server-preserved g c =
    let old = c.loop-server.server in
    let new = c.in_ok-server.server in
    let e = c.in_ok-server.ensures in
    let i = c.loop-server.invariant in
    record {
      serves = e.serves;
      config = e.config ∙ i.config;
      dialect = c.in_ok-line.ensures.dialect ∙ i.dialect;
      number = omega (arith, i.number, number_more old.number new.number old.lines new.lines c.in-Some.line e.lines i.serves.served.number_is e.serves.served.number_is, c.in_ok-line.ensures.reads);
      reads = reads_more (read_as c.args.lines.now) (read_as c.loop-server.lines) (unread g.R.Read.remaining c.args.lines.now) (unread g.R.Read.remaining c.loop-server.lines) (unread g.R.Read.remaining c.next_line.new.self) old.lines new.lines c.in_ok-line.field-0 c.in-Some.line i.dialect c.in-Some.is e.lines i.reads c.in_ok-line.ensures.next;
      prints = prints_more (setup_in old.round).config (setup_in new.round).config old.lines new.lines (written g.W.Write.contents c.args.writer.now) (written g.W.Write.contents c.loop-server.writer) (written g.W.Write.contents c.answer.new.writer) e.config i.prints e.prints;
    }

pub returns-in_err-line-clause-fault : goal.returns-in_err-line-clause-fault
returns-in_err-line-clause-fault g c =
    let s = c.loop-server.server in
    let i = c.loop-server.invariant in
    let config = (setup_in s.round).config in
    let first = written g.W.Write.contents c.args.writer.now in
    let before = written g.W.Write.contents c.loop-server.writer in
    on-err c.from_residual.result
    (whole_front (read_as c.args.lines.now) (setup_in c.args.server.round).config config (unread g.R.Read.remaining c.args.lines.now) (unread g.R.Read.remaining c.loop-server.lines) s.lines first before i.config config.limits.some_batch i.reads
    (prints_all config s.lines first before i.prints))

pub returns-in_err-server-clause-fault : goal.returns-in_err-server-clause-fault
returns-in_err-server-clause-fault g c =
    let s = c.loop-server.server in
    let i = c.loop-server.invariant in
    let config = (setup_in s.round).config in
    let line = c.in-Some.line in
    let first = written g.W.Write.contents c.args.writer.now in
    let before = written g.W.Write.contents c.loop-server.writer in
    let after = written g.W.Write.contents c.answer.new.writer in
    on-err c.from_residual-in_err-server.result
    (whole_front (read_as c.args.lines.now) (setup_in c.args.server.round).config config (unread g.R.Read.remaining c.args.lines.now) (unread g.R.Read.remaining c.next_line.new.self) (s.lines ++ line ∷ []) first after i.config config.limits.some_batch
    (reads_more (read_as c.args.lines.now) (read_as c.loop-server.lines) (unread g.R.Read.remaining c.args.lines.now) (unread g.R.Read.remaining c.loop-server.lines) (unread g.R.Read.remaining c.next_line.new.self) s.lines (s.lines ++ line ∷ []) c.in_ok-line.field-0 line i.dialect c.in-Some.is refl i.reads c.in_ok-line.ensures.next)
    (prints_some config s.lines (s.lines ++ line ∷ []) first before after i.prints c.in_err-server.ensures.fault))
