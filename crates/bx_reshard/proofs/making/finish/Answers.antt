use Rattle.std.proofs.Common.{◌≡◌, ◌≤◌, ◌+◌, ◌++◌, ℕ, suc, List, [], ◌∷◌, length, map, sym, ap, ◌∙◌, subst, arith, vec_capacity, append_assoc}
use Rattle.std.proofs.lemmas.List.{length_push, map-append}
use Rattle.std.specs.{Arc.arc_value, List.All}
use Rattle.bx_shard.specs.declared.{sessions.Sessions.Sessions, shard.Shard.Shard}
use Rattle.bx_shard.specs.Sessions.{Fits}
use Rattle.bx_reshard.specs.Making.{AreHandlesOf, AreMadeWith}
use Rattle.bx_reshard.proofs.Made.{all_but_last, last_of_all, none_made, one_more_made}
use Rattle.bx_reshard.proofs.making.finish.Goals as goal

pub loop-sessions-init : goal.loop-sessions-init
loop-sessions-init g c =
    let r = c.args.room in
    let rest : c.into_iter-sessions-iterator.result.rest.items ≡ r.heirs.shards.items = c.into_iter-sessions-iterator.ensures.into_iter_gives.0 in
    record {
      along = ap (λ (xs : List (Shard g.row.P.Denot)). map (λ s. s.sessions) xs ++ c.into_iter-sessions-iterator.result.rest.items) c.requires.empty ∙ rest;
      many = c.requires.many ∙ sym (ap (λ (xs : List Sessions). length xs) rest);
      capacity = subst (λ (n : ℕ). n + length c.into_iter-sessions-iterator.result.rest.items ≤ vec_capacity r.shards) (sym (ap (λ (xs : List (Shard g.row.P.Denot)). length xs) c.requires.empty))
          (subst (λ (xs : List Sessions). 0 + length xs ≤ vec_capacity r.shards) (sym rest) (omega (arith, c.requires.capacity)));
      fit = subst (All (Fits r.place)) (sym rest) c.requires.fit;
      same = λ placing all. all;
      made = subst (AreMadeWith r.handles.items c.args.count r.place r.is_closed_to_wakers) (sym c.requires.empty) (none_made r.handles.items c.args.count r.place r.is_closed_to_wakers);
    }

pub resume-shard-requires : goal.resume-shard-requires
resume-shard-requires g c =
    let fit : All (Fits c.args.room.place) (c.in-Some.sessions ∷ c.next.new.self.rest.items) = subst (All (Fits c.args.room.place)) c.in-Some.ensures.steps.0 c.loop-sessions.invariant.fit in
    record {
      some_shard = c.get.ensures.some;
      shards_in_range = c.get.ensures.in_range;
      fit = fit 0 c.in-Some.sessions (omega arith);
    }

pub loop-sessions-preserved : goal.loop-sessions-preserved
loop-sessions-preserved g c =
    let r = c.args.room in
    let loop = c.loop-sessions in
    let rest = c.next.new.self.rest.items in
    let step : loop.sessions-iterator.rest.items ≡ c.in-Some.sessions ∷ rest = c.in-Some.ensures.steps.0 in
    let popped : loop.handles.items ≡ c.pop.new.self.items ++ c.in-Some-pop.placing ∷ [] = c.in-Some-pop.ensures.items in
    let fit : All (Fits r.place) (c.in-Some.sessions ∷ rest) = subst (All (Fits r.place)) step loop.invariant.fit in
    let pushed = c.push_reserved.ensures.items in
    let handles : length loop.handles.items ≡ length c.pop.new.self.items + 1 = ap (λ xs. length xs) popped ∙ length_push c.pop.new.self.items c.in-Some-pop.placing in
    let left : length loop.sessions-iterator.rest.items ≡ length (c.in-Some.sessions ∷ rest) = ap (λ (xs : List Sessions). length xs) step in
    let longer : length c.push_reserved.new.self.items ≡ length loop.shards.items + 1 = ap (λ (xs : List (Shard g.row.P.Denot)). length xs) pushed ∙ length_push loop.shards.items _ in
    let place : c.len-index.result ≡ length loop.shards.items = omega (arith, c.len-index.ensures, loop.shards.ok.0) in
    record {
      along = ap (λ (xs : List (Shard g.row.P.Denot)). map (λ s. s.sessions) xs ++ rest) pushed
          ∙ ap (λ (xs : List Sessions). xs ++ rest) (map-append (λ s. s.sessions) loop.shards.items _)
          ∙ append_assoc (map (λ s. s.sessions) loop.shards.items) (c.resume-shard.result.sessions ∷ []) rest
          ∙ ap (λ (s : Sessions). map (λ s. s.sessions) loop.shards.items ++ s ∷ rest) c.resume-shard.ensures.sessions
          ∙ ap (λ (xs : List Sessions). map (λ s. s.sessions) loop.shards.items ++ xs) (sym step)
          ∙ loop.invariant.along;
      many = omega (arith, handles, left, loop.invariant.many);
      capacity = omega (arith, longer, left, loop.invariant.capacity, c.push_reserved.ensures.capacity);
      fit = λ i d l. fit (suc i) d (omega (arith, l));
      same = λ placing all. all_but_last (λ h. arc_value h ≡ placing) c.pop.new.self.items c.in-Some-pop.placing (subst (AreHandlesOf placing) popped (loop.invariant.same placing all));
      made = subst (AreMadeWith r.handles.items c.args.count r.place r.is_closed_to_wakers) (sym pushed)
          (one_more_made r.handles.items c.args.count r.place r.is_closed_to_wakers loop.shards.items _ loop.invariant.made
          (λ placing all. record {
            placing_is = ap (λ h. arc_value h) c.resume-shard.ensures.placing
                ∙ last_of_all (λ h. arc_value h ≡ placing) c.pop.new.self.items c.in-Some-pop.placing (subst (AreHandlesOf placing) popped (loop.invariant.same placing all));
            index_is = c.resume-shard.ensures.index.0 ∙ place;
            shards_is = c.resume-shard.ensures.index.1 ∙ c.get.ensures.same;
            place_is = c.resume-shard.ensures.place.0;
            shut_is = c.resume-shard.ensures.place.1;
          }));
    }
