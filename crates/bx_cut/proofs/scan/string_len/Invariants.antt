use Rattle.std.proofs.Common.{◌≡◌, ◌+◌, cond, drop}
use Rattle.json.specs.{Lex.in_string, Lex.in_escape, Align.span}
use Rattle.bx_cut.proofs.scan.string_len.Given as goal

abbrev pub invariant-loop-at : goal.invariant-loop-at
invariant-loop-at l = span in_string l.text ≡ l.at + span (cond l.escaped in_escape in_string) (drop l.at l.text)
