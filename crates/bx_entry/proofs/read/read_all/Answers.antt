use Rattle.std.proofs.Common.{◌≡◌, ◌+◌, ◌∷◌, Err, drop, sym, ap, ◌∙◌}
use Rattle.std.proofs.lemmas.List.{drop_more}
use Rattle.bx_message.specs.declared.read.MessageError.TheVariants.{NoChannel}
use Rattle.bx_entry.specs.Requests.{Cut}
use Rattle.bx_entry.proofs.RequestLemmas.{cut_more, cut_none}
use Rattle.bx_entry.proofs.read.read_all.Goals as goal

pub returns-in-Err-clause-no_channel : goal.returns-in-Err-clause-no_channel
returns-in-Err-clause-no_channel c = λ told.
    let cs = c.args.cuts.now in
    let i = c.loop-cut.cut-index in
    let x : Cut = c.cut-item.result in
    let next = drop_more cs i x c.loop-cut-test.true ∙ ap (λ (y : Cut). y ∷ drop (i + 1) cs) (sym c.cut-item.is) in
    let is : c.in-Err.error ≡ NoChannel = cc in
    sym c.loop-cut.invariant ∙ cut_none cs i x c.loop-cut.messages.items next (c.in-Err.ensures.no_channel (ap (λ e. Err e) is))

pub loop-cut-preserved : goal.loop-cut-preserved
loop-cut-preserved c =
    let cs = c.args.cuts.now in
    let i = c.loop-cut.cut-index in
    let x : Cut = c.cut-item.result in
    let next = drop_more cs i x c.loop-cut-test.true ∙ ap (λ (y : Cut). y ∷ drop (i + 1) cs) (sym c.cut-item.is) in
    sym (cut_more cs i x c.loop-cut.messages.items c.read_cut.new.messages.items next c.in_default.ensures.added) ∙ c.loop-cut.invariant
