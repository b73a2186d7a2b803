use Rattle.std.proofs.Common.{◌≡◌, true, false, option_map, sym, ap, ◌∙◌}
use Rattle.bx_history.proofs.Tests.{either}
use Rattle.bx_shard.specs.States.{takes_no_memory}
use Rattle.bx_world.proofs.world.apply_next.Goals as goal

pub returns : goal.returns
returns g c = λ list next. record {
  entry = c.in-Some.entry.now;
  next = sym next ∙ ap (option_map (λ e. e.now)) c.in-Some.is;
  takes = either (takes_no_memory c.in-Some.entry.now) (takes_no_memory c.in-Some.entry.now ≡ false) (λ h. let e : false ≡ true = c.in-Err.ensures.free h in cc) (λ h. h);
  same = c.in-Err.ensures.refused;
  sound = c.apply.ensures.sound;
}
