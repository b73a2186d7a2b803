use Rattle.std.proofs.Common.{◌≡◌, true, subst, ap, ◌∙◌, rules}
use Rattle.bx_script.specs.Words.{line_of, read_as, ReadsLine}
use Rattle.bx_script.proofs.Script.{is_next}
use Rattle.bx_script.proofs.lines.Lines.next_line.Goals as goal

pub returns-clause-next : goal.returns-clause-next
returns-clause-next g c =
    let found : c.in_ok-read_text.field-0 ≡ true = search rules in
    let read = subst (λ b. ReadsLine b (g.R.Read.remaining c.args.self.now.reader) (g.R.Read.remaining c.read_text.new.reader) c.read_text.new.kept.items) found c.in_ok-read_text.ensures.line in
    is_next (read_as c.args.self.now) c.in_ok-read.field-0 _ _ _ read (c.in_ok-read.ensures.meaning ∙ ap (line_of (read_as c.args.self.now)) c.as_slice.ensures.value)
