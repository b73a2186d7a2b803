use Rattle.std.proofs.Common.{◌≡◌, ◌+◌, ◌≤◌, length}
use Rattle.std.specs.VecDeque.{deque_capacity}
use Rattle.bx_fanout.specs.CurrentInputs.{Collects, IsCollected, IsLevel, Keeps}
use Rattle.bx_world.specs.Seen.{setup_of, world_of}
use Rattle.bx_fanout.proofs.current_input.CurrentInput.collect.Given as goal

abbrev pub invariant-loop-alloc : goal.invariant-loop-alloc
invariant-loop-alloc g l = record {
  room : length l.self.answers.items + length l.self.slots.items ≤ deque_capacity l.self.answers;
  level : IsLevel (world_of l.world);
  so_far : IsCollected (setup_of l.world) (world_of l.world) l.self;
  setup : setup_of l.world ≡ setup_of l.fn.world;
  world : Keeps l.fn.self.first (world_of l.fn.world) (world_of l.world);
  collects : Collects l.fn.self l.self;
}

abbrev pub decreases-loop-alloc : goal.decreases-loop-alloc
decreases-loop-alloc g l = length l.self.slots.items
