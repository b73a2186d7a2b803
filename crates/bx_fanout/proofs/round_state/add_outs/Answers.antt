use Rattle.std.proofs.Common.{◌≡◌, false, ◌++◌, arith, ◌∙◌, List, ap, length, map, subst, sym}
use Rattle.std.proofs.lemmas.List.{map-append}
use Rattle.bx_entry.specs.Requests.{read_input}
use Rattle.bx_fanout.specs.Stages.{IsGiving, is_collecting, own, seen_out}
use Rattle.bx_fanout.specs.declared.out.Out.{Out}
use Rattle.bx_world.specs.Seen.{setup_of, world_of}
use Rattle.bx_fanout.proofs.{TakingIn.giving-out, Finishing.behind-is, Finishing.giving-at, Finishing.staged-at}
use Rattle.bx_fanout.proofs.round_state.add_outs.Goals as goal

pub returns-clause-consistent : goal.returns-clause-consistent
returns-clause-consistent g c =
    let p = c.args.state.now in
    let w = p.world in
    let i = c.requires.consistent in
    let gives = c.give_out-given.ensures.gives in
    let held = c.give_out-given.new.held in
    let stage = c.give_out-given.new.stage in
    let inputs = map read_input p.inputs in
    let giving = giving-at (setup_of w) inputs (world_of w) p.held p.stage (map seen_out p.added) c.requires.done i.staged in
    let out = giving-out (setup_of w) inputs (world_of w) p.held held p.stage stage c.args.outs.now.items c.give_out-given.new.outs.items (map seen_out p.added) giving gives in
    let at : c.len-count.result ≡ length c.args.outs.now.items = omega (arith, c.args.outs.now.ok.0, c.len-count.ensures) in
    let more : c.append.new.self ≡ p.added ++ gives.more =
    c.append.ensures ∙ ap (λ (os : List Out). p.added ++ os) (behind-is c.args.outs.now.items gives.more c.give_out-given.new.outs.items c.deref.result.now c.len-count.result at gives.behind c.deref.ensures.value) in
    let added : map seen_out p.added ++ map seen_out gives.more ≡ map seen_out c.append.new.self = sym (map-append seen_out p.added gives.more) ∙ ap (map seen_out) (sym more) in
    record {
      counted = i.counted;
      staged = staged-at (setup_of w) inputs (world_of w) held stage (map seen_out c.append.new.self) (gives.collecting ∙ c.requires.done)
          (subst (IsGiving (setup_of w) inputs (world_of w) held (map seen_out (own stage))) added out);
      lags = λ some. let none : is_collecting stage ≡ false = gives.collecting ∙ c.requires.done in cc;
    }
