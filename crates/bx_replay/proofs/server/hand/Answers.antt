use Rattle.std.proofs.Common.{◌≡◌, [], ◌∷◌, ◌++◌, List, map, option_map, string_bytes, refl, sym, ap, subst, ◌∙◌}
use Rattle.std.specs.{BTreeMap.get, BTreeMap.is_at, Ordering.nat_cmp}
use Rattle.bx_replay.specs.Kept.{AllKept, PrintsOuts, inputs_given}
use Rattle.bx_replay.specs.declared.kept.PendingLine.{PendingLine}
use Rattle.bx_advice.specs.declared.config.Config.{Config}
use Rattle.bx_script.specs.Words.{Numbered, AppendsFront, numbered, written}
use Rattle.bx_entry.specs.Words.{read_input, held, outs}
use Rattle.bx_fanout.specs.Rounds.{added_by, inputs_of, setup_in}
use Rattle.bx_fanout.specs.Stages.{seen_out}
use Rattle.bx_fanout.specs.declared.out.Out.{Out}
use Rattle.bx_theory.specs.Lines.{outs_text}
use Rattle.bx_entry.specs.Runs as runs
use Rattle.std.proofs.lemmas.Result.{on_err_weaker}
use Rattle.bx_replay.proofs.{Fronts.hands_none, Keeping.at_is, Keeping.kept_last, Keeping.kept_more, Keeping.on_ok_both, Ready.kept_front, Ready.kept_given, Steps.ran}
use Rattle.bx_replay.proofs.server.hand.Goals as goal
use Rattle.bx_fanout.proofs.TakingIn.{on-err}

pub returns-in-Ok-clause-hands : goal.returns-in-Ok-clause-hands
returns-in-Ok-clause-hands g c =
    let old = c.args.round.now in
    let new = c.run.new.self in
    let one : Numbered = numbered c.args.line (option_map string_bytes c.args.callback) (read_input c.args.input) in
    let asked : PendingLine = record { line = c.args.line; callback = c.args.callback; tick = c.ticks-tick.result } in
    let before = written g.W.Write.contents c.args.writer.now in
    let after = written g.W.Write.contents c.print_outs.new.writer in
    let run = ran old (c.args.input ∷ []) c.new-outs.result.items c.run.new.outs.items new c.run.result c.in-Ok.field-0 c.in-Ok.is c.run.ensures.run in
    let given : c.deref.result.now ≡ run.more = c.deref.ensures.value ∙ run.behind ∙ ap (λ (os : List Out). os ++ run.more) c.new-outs.ensures.items in
    let read = read_input c.args.input in
    let kept = kept_given (setup_in old).config (inputs_of old) (inputs_of new) read (added_by old) (added_by new) run.more c.started_inputs.result asked (get nat_cmp c.args.kept.now) (get nat_cmp c.insert.new.self) (setup_in old).config.limits.some_batch
    c.requires.kept c.started_inputs.ensures c.in_ok-insert.ensures.updates.0 c.requires.added run.inputs_are (run.all ∙ ap (λ (config : Config). outs config (inputs_of new)) run.setup) run.added in
    on_ok_both c.print_outs.result
    (λ others h. record {
      held_are = subst (λ (config : Config). AllKept (get nat_cmp c.print_outs.new.kept) (held config (inputs_of new))) (sym run.setup)
          (others (held (setup_in old).config (inputs_of new)) (subst (λ (os : List Out). AllKept (get nat_cmp c.insert.new.self) (inputs_given os ++ held (setup_in old).config (inputs_of new))) (sym given) kept));
      more = map seen_out run.more;
      inputs = run.inputs_are;
      added = run.added;
      all = run.all;
      setup = run.setup;
      shards = run.shards;
      prints = λ ns many kept. subst (λ (os : List Out). PrintsOuts (ns ++ one ∷ []) (map seen_out os) before after (get nat_cmp c.print_outs.new.kept)) given
          (h (ns ++ one ∷ []) (kept_more ns one (get nat_cmp c.args.kept.now) (get nat_cmp c.insert.new.self) asked (is_at (nat_cmp c.started_inputs.result)) c.in_ok-insert.ensures.updates.0
          (λ i e. at_is c.started_inputs.result i e ∙ c.started_inputs.ensures ∙ sym many) (kept_last ns one asked refl refl c.ticks-tick.ensures) kept));
    })
    c.print_outs.ensures.others c.print_outs.ensures.prints

pub print_outs-requires : goal.print_outs-requires
print_outs-requires g c =
    let old = c.args.round.now in
    let new = c.run.new.self in
    let asked : PendingLine = record { line = c.args.line; callback = c.args.callback; tick = c.ticks-tick.result } in
    let run = ran old (c.args.input ∷ []) c.new-outs.result.items c.run.new.outs.items new c.run.result c.in-Ok.field-0 c.in-Ok.is c.run.ensures.run in
    let given : c.deref.result.now ≡ run.more = c.deref.ensures.value ∙ run.behind ∙ ap (λ (os : List Out). os ++ run.more) c.new-outs.ensures.items in
    let kept = kept_given (setup_in old).config (inputs_of old) (inputs_of new) (read_input c.args.input) (added_by old) (added_by new) run.more c.started_inputs.result asked (get nat_cmp c.args.kept.now) (get nat_cmp c.insert.new.self) (setup_in old).config.limits.some_batch
    c.requires.kept c.started_inputs.ensures c.in_ok-insert.ensures.updates.0 c.requires.added run.inputs_are (run.all ∙ ap (λ (config : Config). outs config (inputs_of new)) run.setup) run.added in
    record { kept = subst (λ (os : List Out). AllKept (get nat_cmp c.insert.new.self) (inputs_given os)) (sym given) (kept_front (inputs_given run.more) (held (setup_in old).config (inputs_of new)) (get nat_cmp c.insert.new.self) kept) }

pub returns-in-Ok-clause-fault : goal.returns-in-Ok-clause-fault
returns-in-Ok-clause-fault g c =
    let old = c.args.round.now in
    let new = c.run.new.self in
    let one : Numbered = numbered c.args.line (option_map string_bytes c.args.callback) (read_input c.args.input) in
    let asked : PendingLine = record { line = c.args.line; callback = c.args.callback; tick = c.ticks-tick.result } in
    let before = written g.W.Write.contents c.args.writer.now in
    let after = written g.W.Write.contents c.print_outs.new.writer in
    let run = ran old (c.args.input ∷ []) c.new-outs.result.items c.run.new.outs.items new c.run.result c.in-Ok.field-0 c.in-Ok.is c.run.ensures.run in
    let given : c.deref.result.now ≡ run.more = c.deref.ensures.value ∙ run.behind ∙ ap (λ (os : List Out). os ++ run.more) c.new-outs.ensures.items in
    on_err_weaker c.print_outs.result
    (λ h. record {
      more = map seen_out run.more;
      adds = ap (outs (setup_in old).config) (sym run.inputs_are) ∙ ap (λ (config : Config). outs config (inputs_of new)) (sym run.setup) ∙ sym run.all ∙ run.added
          ∙ ap (λ (os : List runs.Out). os ++ map seen_out run.more) c.requires.added;
      prints = λ ns many kept. subst (λ (os : List Out). AppendsFront before after (outs_text (ns ++ one ∷ []) (map seen_out os))) given
          (h (ns ++ one ∷ []) (kept_more ns one (get nat_cmp c.args.kept.now) (get nat_cmp c.insert.new.self) asked (is_at (nat_cmp c.started_inputs.result)) c.in_ok-insert.ensures.updates.0
          (λ i e. at_is c.started_inputs.result i e ∙ c.started_inputs.ensures ∙ sym many) (kept_last ns one asked refl refl c.ticks-tick.ensures) kept));
    })
    c.print_outs.ensures.fault

pub returns-clause-fault : goal.returns-clause-fault
returns-clause-fault g c =
    let old = c.args.round.now in
    hands_none old (numbered c.args.line (option_map string_bytes c.args.callback) (read_input c.args.input)) (written g.W.Write.contents c.args.writer.now) (get nat_cmp c.args.kept.now) (setup_in old).config.limits.some_batch

pub returns-in_err-insert-clause-fault : goal.returns-in_err-insert-clause-fault
returns-in_err-insert-clause-fault g c =
    let old = c.args.round.now in
    on-err c.from_residual.result
    (hands_none old (numbered c.args.line (option_map string_bytes c.args.callback) (read_input c.args.input)) (written g.W.Write.contents c.args.writer.now) (get nat_cmp c.args.kept.now) (setup_in old).config.limits.some_batch)
