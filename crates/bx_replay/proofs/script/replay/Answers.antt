use Rattle.std.proofs.Common.{◌∙◌}
use Rattle.bx_fanout.specs.Rounds.{setup_in}
use Rattle.bx_replay.proofs.{Fronts.fault_known, Fronts.none_known, Fronts.written_behind, Steps.replayed}
use Rattle.bx_script.specs.Words.{read_as, written, unread}
use Rattle.bx_replay.proofs.script.replay.Goals as goal

pub returns-in_err-own-clause-text : goal.returns-in_err-own-clause-text
returns-in_err-own-clause-text g c = none_known (read_as c.args.lines.now) c.args.config (unread g.R.Read.remaining c.args.lines.now) (written g.W.Write.contents c.args.writer.now) c.from_residual.result c.from_residual.ensures.0

pub returns-in_err-first-clause-text : goal.returns-in_err-first-clause-text
returns-in_err-first-clause-text g c =
    none_known (read_as c.args.lines.now) c.args.config (unread g.R.Read.remaining c.args.lines.now) (written g.W.Write.contents c.args.writer.now) c.from_residual-in_err-first.result c.from_residual-in_err-first.ensures.0

pub returns-in_err-server-clause-text : goal.returns-in_err-server-clause-text
returns-in_err-server-clause-text g c =
    fault_known (read_as c.args.lines.now) c.args.config (setup_in c.in_ok-first.first.round).config (unread g.R.Read.remaining c.args.lines.now) (written g.W.Write.contents c.args.writer.now) (written g.W.Write.contents c.answer_all.new.writer) c.from_residual-in_err-server.result
    c.in_ok-first.ensures.config c.from_residual-in_err-server.ensures.0 c.in_err-server.ensures.fault

pub returns-clause-text : goal.returns-clause-text
returns-clause-text g c =
    let s = c.in_ok-server.server in
    let e = c.in_ok-server.ensures in
    replayed (read_as c.args.lines.now) c.args.config (setup_in s.round).config (unread g.R.Read.remaining c.args.lines.now) s.lines (written g.W.Write.contents c.args.writer.now) (written g.W.Write.contents c.answer_all.new.writer) (written g.W.Write.contents c.finish.new.writer) c.finish.result
    (e.config ∙ c.in_ok-first.ensures.config) e.all e.prints c.finish.ensures.text

pub returns-clause-reason : goal.returns-clause-reason
returns-clause-reason g c = written_behind c.answer_all.new.lines c.finish.new.writer c.finish.result c.finish.ensures.reason
