use Rattle.std.proofs.Common.{◌≡◌, ◌+◌, ◌≤◌, ◌^◌, []}
use Rattle.bx_replay.specs.Serving.{Prints, Reads, Serves}
use Rattle.bx_fanout.specs.Rounds.{setup_in}
use Rattle.bx_script.specs.Words.{read_as, written, reads_left, unread}
use Rattle.bx_replay.proofs.script.answer_all.Given as goal

abbrev pub invariant-loop-server : goal.invariant-loop-server
invariant-loop-server g l = record {
  serves : Serves l.server;
  config : (setup_in l.server.round).config ≡ (setup_in l.initial.server.round).config;
  number : l.server.number + reads_left l.lines ≤ 2 ^ 40;
  dialect : read_as l.lines ≡ read_as l.initial.lines;
  reads : Reads (read_as l.initial.lines) (unread g.R.Read.remaining l.initial.lines) (unread g.R.Read.remaining l.lines) l.server.lines;
  prints : Prints (setup_in l.server.round).config [] l.server.lines (written g.W.Write.contents l.initial.writer) (written g.W.Write.contents l.writer);
}

abbrev pub decreases-loop-server : goal.decreases-loop-server
decreases-loop-server g l = reads_left l.lines
