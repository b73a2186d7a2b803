use Rattle.std.proofs.Common.{ℕ, ap, sym, ◌∙◌}
use Rattle.std.specs.BTreeMap.{BTreeMap}
use Rattle.bx_fanout.specs.declared.held_inputs.HeldInput.{HeldInput}
use Rattle.bx_fanout.proofs.HeldInputs.{any-waits, put-at, unchanged, waits_by}
use Rattle.bx_fanout.proofs.held_inputs.put.Goals as goal

pub returns-in-Some-clause-put : goal.returns-in-Some-clause-put
returns-in-Some-clause-put c =
    (c.get_mut.follows.holds c.put.new.self).0 ∙ put-at c.args.place c.args.answer c.args.held.now.entries _ c.put.new.self c.requires (sym c.in-Some.ensures.value) c.put.ensures.number c.put.ensures.answer

pub returns-in-Some-clause-waits : goal.returns-in-Some-clause-waits
returns-in-Some-clause-waits c = c.put.ensures.waits ∙ ap waits_by c.in-Some.ensures.value ∙ sym (any-waits c.args.place c.args.held.now.entries c.requires)

pub returns-in-None-clause-put : goal.returns-in-None-clause-put
returns-in-None-clause-put c = ap (λ (m : BTreeMap ℕ HeldInput). m.entries) c.get_mut.follows.holds-at-none ∙ sym (unchanged c.args.place c.args.answer c.args.held.now.entries (any-waits c.args.place c.args.held.now.entries c.requires ∙ ap waits_by (sym c.in-None.ensures.value)))

pub returns-in-None-clause-waits : goal.returns-in-None-clause-waits
returns-in-None-clause-waits c = sym (any-waits c.args.place c.args.held.now.entries c.requires ∙ ap waits_by (sym c.in-None.ensures.value))
