use Rattle.std.proofs.Common.{◌≡◌, ◌+◌, [], ◌∷◌, ◌++◌, ℕ, List, ap, ◌∙◌, subst, arith}
use Rattle.std.proofs.lemmas.Grind.{common_steps}
use Rattle.bx_entry.specs.Listing.{Listed, Tick}
use Rattle.bx_roster.specs.declared.edit.Edits.TheVariants.{Expire}
use Rattle.bx_registry.specs.Words.{Amendment, CanCommit, Continues, Roll, Standing, after, changed, entries_in, found, roll_between}
use Rattle.bx_registry.specs.declared.plan.Plan.{Plan}
use Rattle.bx_registry.proofs.{Longer.continues, Planning.admitted}
use Rattle.bx_registry.proofs.registry.Registry.plan_tick.Goals as goal

pub returns-clause-continues : goal.returns-clause-continues
returns-clause-continues c =
    let inside = c.self.inside in
    let roll : Roll = roll_between inside.config inside.table.members inside.clock inside.entries in
    let added : List Listed = Tick c.args.moment ∷ [] in
    let clock : ℕ = c.max-clock.result in
    let change : Amendment = record { edits = Expire clock; clock = clock; length = inside.entries + 1 } in
    let elements : c.tick.new.self ≡ added = c.tick.ensures ∙ ap (λ (l : List Listed). l ++ added) c.new-elements.ensures in
    let entered : c.push.new.self ≡ entries_in (found roll added) = grind (arith, common_steps) in
    let can : CanCommit roll inside.table.ready change = grind (arith, common_steps, admitted) in
    let made : changed roll change ≡ after roll added = grind (arith, common_steps) in
    let p : Plan = record { batch = record { first = inside.entries; entries = c.push.new.self }; slots = c.new.result; elements = c.tick.new.self; change = change } in
    subst (λ (s : Standing). Continues s p) c.self.view_is
    (continues (record { config = inside.config; shards = inside.shards; list = inside.listing; ready = inside.table.ready }) roll added p c.self.invariant.4 elements c.self.invariant.3 entered can made)
