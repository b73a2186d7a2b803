use Rattle.std.proofs.Common.{rules, ◌≡◌, ◌++◌, ◌∷◌, [], ◌∙◌, ℕ, IfSome, List, Some, true, ap, get_or, subst, sym}
use Rattle.std.proofs.lemmas.{List.map-append, List.take_more, List.Elements.All-push, List.Elements.All-weaker}
use Rattle.std.specs.List.{All}
use Rattle.bx_entry.specs.Keeping.{Kept}
use Rattle.bx_message.specs.declared.event.Event.{Event}
use Rattle.bx_session.specs.Views.{wants_two}
use Rattle.bx_shard.specs.declared.publish.Parcel.{Parcel}
use Rattle.bx_shard.specs.Publishing.{IsPacked, numbers_of}
use Rattle.bx_shard.proofs.Handing.{packed-by}
use Rattle.bx_shard.proofs.sessions.Sessions.pack.Goals as goal

pub loop-number-preserved : goal.loop-number-preserved
loop-number-preserved c =
    let inv = c.loop-number.invariant in
    let old = c.loop-number.self in
    let new = c.reserve.new.self in
    let parcels = c.loop-number.parcels.items in
    let ns = c.args.numbers.now in
    let i = c.loop-number.number-index in
    let e = c.args.event.now in
    let m : ℕ = get_or ns i 0 in
    let further = c.in_ok-further.further in
    let same : c.in_ok-event.event ≡ e = search rules in
    let x : Parcel = record { number = m; event = c.in_ok-event.event; further = further } in
    let items : c.push.new.self.items ≡ parcels ++ x ∷ [] = search rules in
    let stays : (y : Parcel) → IsPacked old y → IsPacked new y = λ y p. record {
      room = c.reserve.ensures.kept y.number p.room;
      further = subst (λ o. IfSome o (λ (k : Kept). wants_two k ≡ true → y.further ≡ Some y.event)) (sym (c.reserve.ensures.sessions y.number)) p.further;
    } in
    let packed : IsPacked new x =
    subst (λ (v : Event). IsPacked new (record { number = m; event = v; further = further })) (sym same)
    (packed-by old new m e further c.reserve.ensures.sessions c.in_ok-further.ensures.room c.in_ok-further.ensures.further) in
    record {
      sessions = λ n. c.reserve.ensures.sessions n ∙ inv.sessions n;
      numbers =
          ap (λ (xs : List Parcel). numbers_of xs) items ∙ map-append (λ (y : Parcel). y.number) parcels (x ∷ [])
          ∙ ap (λ (ks : List ℕ). ks ++ m ∷ []) inv.numbers ∙ sym (take_more ns i 0 c.loop-number-test.true);
      event = subst (All (λ (y : Parcel). y.event ≡ e)) (sym items) (All-push (λ (y : Parcel). y.event ≡ e) parcels x inv.event same);
      packed = subst (All (IsPacked new)) (sym items) (All-push (IsPacked new) parcels x (All-weaker (IsPacked old) (IsPacked new) stays parcels inv.packed) packed);
      others = search rules;
    }
