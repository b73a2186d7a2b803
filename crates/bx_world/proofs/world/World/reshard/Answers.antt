use Rattle.std.proofs.Common.{◌≡◌, ◌≤◌, ◌<◌, ℕ, List, length, map, sym, ap, ◌∙◌, subst, arith}
use Rattle.std.specs.Arc.{arc_value}
use Rattle.bx_registry.specs.Standings.{Standing}
use Rattle.bx_reshard.specs.Redistribution.{AreAlike, AreApart, Redistributed}
use Rattle.bx_shard.specs.Seen.{state}
use Rattle.bx_shard.specs.declared.shard.Shard.{Shard}
use Rattle.bx_reshard.proofs.RedistributionLaws.{shards_are_disjoint}
use Rattle.bx_world.specs.Words.{WorldHolds, setup_of}
use Rattle.bx_entry.specs.Placings.{placed_by}
use Rattle.bx_world.proofs.Redistribution.{AreAtEnd, redistributed_at_end, same_world, states_hold}
use Rattle.bx_world.proofs.world.World.reshard.Goals as goal
use Rattle.bx_world.proofs.world.World.reshard.Goals.{In-Ok-redistribute, Start}

apart : (g : _) (c : Start g) →
    AreAlike (map (state g.P.Placing.place_of) c.args.self.shards.items) × AreApart (map (state g.P.Placing.place_of) c.args.self.shards.items)
apart g c =
    let w = c.args.self in
    let place_of = g.P.Placing.place_of in
    shards_are_disjoint (setup_of w) w.registry.list w.taken (length w.registry.list) (map (state place_of) w.shards.items)
    (states_hold place_of (setup_of w) w.registry.list w.taken w.first w.shards.items w.holds.holding c.requires.level)

pub redistribute-requires-clause-alike : goal.redistribute-requires-clause-alike
redistribute-requires-clause-alike g c = (apart g (goal.at.redistribute-requires-clause-alike g c).Start).0

pub redistribute-requires-clause-apart : goal.redistribute-requires-clause-apart
redistribute-requires-clause-apart g c = (apart g (goal.at.redistribute-requires-clause-apart g c).Start).1

redistributed : (g : _) (c : In-Ok-redistribute g) → 1 ≤ c.args.shards → c.args.shards ≤ 64 →
    AreAtEnd g.P.Placing.place_of (placed_by c.args.self.registry.config c.args.shards (g.P.Placing.place_of (arc_value c.args.placing))) c.args.self.registry.list c.args.self.taken c.args.self.first c.args.self.kept.items c.in-Ok-redistribute.row.items
redistributed g c some few =
    let w = c.args.self in
    let place_of = g.P.Placing.place_of in
    let setup = setup_of w in
    let room : 0 < w.registry.config.limits.batch = omega (arith, w.registry.config.limits.some_batch) in
    let below : (m : ℕ) → setup.placing m setup.shards < setup.shards = λ m. g.met.P.Placing.is_below (arc_value w.placing) m w.registry.shards w.holds.some_shard w.holds.shards_in_range in
    let anew : Redistributed (place_of (arc_value c.args.placing)) c.args.shards (map (state place_of) w.shards.items) (map (state place_of) c.in-Ok-redistribute.row.items) =
    subst (λ (p : g.row.P.Denot). Redistributed (place_of p) c.args.shards (map (state place_of) w.shards.items) (map (state place_of) c.in-Ok-redistribute.row.items)) c.in-Ok.ensures.cases c.in-Ok-redistribute.ensures.redistributed in
    redistributed_at_end place_of setup w.registry.list w.taken w.first w.kept.items w.shards.items c.in-Ok-redistribute.row.items c.args.shards (place_of (arc_value c.args.placing)) room below w.holds c.requires.level some few anew

pub invariant_of-result : goal.invariant_of-result
invariant_of-result g c =
    let w = c.args.self in
    let now : c.reshard.new.self ≡ record w.registry { shards = c.args.shards } = c.reshard.ensures.shards in
    let range : (1 ≤ c.args.shards) × (c.args.shards ≤ 64) = subst (λ (r : Standing). (1 ≤ r.shards) × (r.shards ≤ 64)) now c.reshard.ensures.in_range in
    record {
      holds = subst (λ (r : Standing). WorldHolds g.P.Placing.place_of (placed_by r.config r.shards (g.P.Placing.place_of (arc_value c.args.placing))) r.list w.taken w.first w.kept.items c.in-Ok-redistribute.row.items) (sym now)
          (redistributed g (goal.at.invariant_of-result g c).In-Ok-redistribute range.0 range.1).holds;
    }

pub invariant_of-world : goal.invariant_of-world
invariant_of-world g c =
    let w = c.args.self in
    record { holds = subst (λ row. WorldHolds g.P.Placing.place_of (setup_of w) w.registry.list w.taken w.first w.kept.items row.items) (sym c.in-Err-redistribute.ensures.refused) w.holds }

pub returns-in-Ok-redistribute-clause-world : goal.returns-in-Ok-redistribute-clause-world
returns-in-Ok-redistribute-clause-world g c =
    let w = c.args.self in
    let range : (1 ≤ c.args.shards) × (c.args.shards ≤ 64) = subst (λ (r : Standing). (1 ≤ r.shards) × (r.shards ≤ 64)) c.reshard.ensures.shards c.reshard.ensures.in_range in
    let d = redistributed g (goal.at.returns-in-Ok-redistribute-clause-world g c).In-Ok-redistribute range.0 range.1 in
    ap (λ (r : Standing). record { list = r.list; applied = map (λ (s : Shard g.row.P.Denot). s.place) c.in-Ok-redistribute.row.items; taken = w.taken }) c.reshard.ensures.shards
    ∙ ap (λ (ns : List ℕ). record { list = w.registry.list; applied = ns; taken = w.taken }) d.places

pub returns-in-Err-redistribute-clause-same : goal.returns-in-Err-redistribute-clause-same
returns-in-Err-redistribute-clause-same g c = same_world c.args.self c.in-Err-redistribute.row c.in-Err-redistribute.ensures.refused _
