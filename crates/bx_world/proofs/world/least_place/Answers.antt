use Rattle.std.proofs.Common.{◌≡◌, ◌<◌, ◌≤◌, Some, slice_get, length, min, refl, sym, ap, ◌∙◌, arith, ⊎_elim}
use Rattle.std.proofs.lemmas.{Bool.cases_lt, Option.slice_get_read, Option.slice_get_within}
use Rattle.bx_shard.specs.declared.shard.Shard.{Shard}
use Rattle.bx_world.proofs.Slowest.{least_of}
use Rattle.bx_world.proofs.world.least_place.Goals as goal

pub loop-shard-preserved : goal.loop-shard-preserved
loop-shard-preserved g c =
    let xs = c.args.shards.now in
    let loop = c.loop-shard in
    let i = loop.shard-index in
    let item = c.shard-item.result in
    let here : i < length xs = c.loop-shard-test.true in
    let there : slice_get xs i ≡ Some item = slice_get_read xs (length xs) i item refl here c.shard-item.is in
    let lesser : c.min-least.result ≡ min loop.least item.place = c.min-least.ensures ∙ ap (min loop.least) c.place.ensures.place in
    record {
      other = omega (arith, lesser, loop.invariant.other);
      same = λ h. least_of xs i item loop.least c.min-least.result there lesser (loop.invariant.same h);
      shards = λ k s lt e.
          ⊎_elim
          (λ (l : k < i). let b : loop.least ≤ s.place = loop.invariant.shards k s l e in omega (arith, b, lesser))
          (λ (l : i ≤ k). let same : i ≡ k = omega (arith, l, lt) in
          let both : Some item ≡ Some s = sym there ∙ ap (slice_get xs) same ∙ e in
          let is : item ≡ s = cc in
          let places : item.place ≡ s.place = ap (λ (x : Shard g.row.P.Denot). x.place) is in
          omega (arith, places, lesser))
          (cases_lt k i);
    }

pub returns-clause-shards : goal.returns-clause-shards
returns-clause-shards g c = λ k s e.
    let xs = c.args.shards.now in
    let within : k < length xs = slice_get_within xs k s e in
    let loop = c.loop-shard in
    let passed : length xs ≤ loop.shard-index = c.loop-shard-test.false in
    loop.invariant.shards k s (omega (arith, within, passed)) e
