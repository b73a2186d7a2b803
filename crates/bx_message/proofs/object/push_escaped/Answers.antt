use Rattle.std.proofs.Common.{◌≡◌, ◌∙◌}
use Rattle.json.specs.Print.{quoted}
use Rattle.bx_message.proofs.ObjectLemmas.{print-string, extended}
use Rattle.bx_message.proofs.object.push_escaped.Goals as goal

pub returns : goal.returns
returns c =
    let text : c.into_inner.result.items ≡ quoted c.args.text.now =
    rw (c.into_inner.ensures.items, c.in_ok-string.ensures.room.0, c.in_ok-string.ensures.ok, c.new-writer.ensures.before, c.new-writer.ensures.tokens, c.new.ensures.items) (print-string c.args.text.now) in
    extended _ c.extend_from_slice.result (c.as_slice.ensures.value ∙ text) c.extend_from_slice.ensures.items
