-- Proves that an input can be completed without the shards.
use Rattle.std.proofs.Common.{◌≡◌, ℕ, ◌+◌, ◌<◌, true, false, List, [], ◌∷◌, ◌++◌, length, map, refl, sym, ap, subst, ◌∙◌, arith, Some, None, add-one}
use Rattle.bx_entry.specs.Words.{ReadInput, read_input}
use Rattle.bx_entry.specs.Runs as runs
use Rattle.bx_entry.specs.declared.{Placing.Ghosts, entry.Slot.Slot}
use Rattle.bx_entry.specs.declared.entry.Slot.TheVariants.{Ready}
use Rattle.bx_message.specs.declared.reply.Answer.{Answer}
use Rattle.bx_shard.specs.Words.{Setup, given_of}
use Rattle.bx_world.specs.Words.{EachSlot, setup_of, world_of, WorldState}
use Rattle.bx_fanout.specs.Words.{Row, IsConsistent, IsCollecting, IsTakenIn, IsGiving, is_collecting, seen_out}
use Rattle.bx_fanout.specs.CurrentInputs.{AreAnswers, Collects, IsCollected, NextBy, NextReady, NoneTakenFrom, next_place, out_of}
use Rattle.bx_fanout.specs.declared.stage.Stage.TheVariants.{Collecting, Complete}
use Rattle.bx_fanout.specs.declared.{current_input.CurrentInput.CurrentInput, round_state.RoundState.RoundState}
use Rattle.bx_fanout.proofs.{Collecting.collected-more, TakingIn.collected-intake, TakingIn.fresh-behind, Finishing.intake-at, Stages.giving-whole}

next-at-once : (setup : Setup) (w : WorldState) (place : ℕ) (before after : List Slot) (a : Answer) → EachSlot setup w.list place before → NoneTakenFrom place w.taken → NextReady before after (Some a) → NextBy setup w place before after w (Some a)
next-at-once setup w place before after a each fresh next =
    let slots : EachSlot setup w.list place (Ready a.reply ∷ after) = subst (EachSlot setup w.list place) next.0 each in
    let bare : record { events = []; reply = a.reply } ≡ a = ap (λ es. record a { events = es }) (sym next.1) in (
      ap (λ o. elim o [ None ↦ None | Some p ↦ Some (given_of p) ]) slots.0 ∙ ap (λ (b : Answer). Some b) bare,
      slots.1,
      ap (λ (ss : List Slot). length ss) next.0 ∙ sym (add-one (length after)),
      (λ p le. fresh p (omega arith)),
      record { list = refl; applied = refl; earlier = λ p less. refl },
    )

pub collected-ready : (setup : Setup) (w : WorldState) (n m : CurrentInput) (a : Answer) → IsCollected setup w n → NextReady n.slots.items m.slots.items (Some a) → m.first ≡ n.first → m.answers.items ≡ n.answers.items ++ a ∷ [] → IsCollected setup w m
collected-ready setup w n m a so_far next first answers =
    collected-more setup w w n m a so_far (next-at-once setup w (next_place n) n.slots.items m.slots.items a so_far.slots so_far.fresh next) first answers

pub intake-ready : (setup : Setup) (inputs : List ReadInput) (w : WorldState) (rows : List Row) (n m : CurrentInput) (added : List runs.Out) → 0 < setup.config.limits.batch → IsTakenIn setup inputs w rows n added →
    (IsCollected setup w n → IsCollected setup w m) → Collects n m → IsTakenIn setup inputs w rows m added
intake-ready setup inputs w rows n m added batch d so_far collects =
    collected-intake setup setup inputs w w rows n m added batch refl d (so_far d.collecting.collected) (record { list = refl; applied = refl; earlier = λ p less. refl }) collects

-- An input with more room for answers.
pub intake-room : (setup : Setup) (inputs : List ReadInput) (w : WorldState) (rows : List Row) (n m : CurrentInput) (added : List runs.Out) → 0 < setup.config.limits.batch → m ≡ record n { answers = m.answers } → m.answers.items ≡ n.answers.items →
    IsTakenIn setup inputs w rows n added → IsTakenIn setup inputs w rows m added
intake-room setup inputs w rows n m added batch is same d =
    let so_far = d.collecting.collected in
    let r : CurrentInput = record n { answers = m.answers } in
    subst (λ (x : CurrentInput). IsTakenIn setup inputs w rows x added) (sym is) (intake-ready setup inputs w rows n r added batch d
    (λ _. record {
      answers = subst (AreAnswers setup.config w.list n.first) (sym same) so_far.answers;
      slots = subst (λ (os : List Answer). EachSlot setup w.list (n.first + length os) n.slots.items) (sym same) so_far.slots;
      fresh = subst (λ (os : List Answer). NoneTakenFrom (n.first + length os) w.taken) (sym same) so_far.fresh;
    })
    (record { number = refl; first = refl; refusal = refl; items = refl; many = ap (λ (os : List Answer). length os + length n.slots.items) same }))

giving-alone : (setup : Setup) (inputs : List ReadInput) (input : ReadInput) (w : WorldState) (rows : List Row) (n : CurrentInput) (added : List runs.Out) → 0 < setup.config.limits.batch → rows ≡ [] → IsCollecting setup inputs input w rows n added →
    n.slots.items ≡ [] → IsGiving setup (inputs ++ input ∷ []) w rows (seen_out (out_of n) ∷ []) added
giving-alone setup inputs input w [] n added batch bare c none =
    giving-whole setup inputs input w w [] [] n added batch c none (record { list = refl; applied = refl; rows = refl; untaken = tt; fresh = fresh-behind setup inputs input w [] n added c })
giving-alone setup inputs input w (row ∷ rows) n added batch bare c none = cc

pub giving-at-once : (setup : Setup) (inputs : List ReadInput) (w : WorldState) (rows : List Row) (n : CurrentInput) (added : List runs.Out) → 0 < setup.config.limits.batch → rows ≡ [] → IsTakenIn setup inputs w rows n added →
    n.slots.items ≡ [] → IsGiving setup inputs w rows (seen_out (out_of n) ∷ []) added
giving-at-once setup inputs w rows n added batch bare d none =
    subst (λ (is : List ReadInput). IsGiving setup is w rows (seen_out (out_of n) ∷ []) added) (sym d.are) (giving-alone setup d.earlier d.last w rows n added batch bare d.collecting none)

module _ {P : Type 0} {g : Ghosts P} where
  pub consistent-ready : (p : RoundState P g) (n m : CurrentInput) → p.stage ≡ Collecting n → ((setup : Setup) (w : WorldState) → IsCollected setup w n → IsCollected setup w m) → Collects n m → IsConsistent p → IsConsistent (record p { stage = Collecting m })
  consistent-ready p n m is so_far collects i =
      let inputs : List ReadInput = map read_input p.inputs in
      let intake : IsTakenIn (setup_of p.world) inputs (world_of p.world) p.held n (map seen_out p.added) = intake-at (setup_of p.world) inputs (world_of p.world) p.held p.stage n (map seen_out p.added) is i.staged in
      record {
        counted = i.counted;
        staged = intake-ready (setup_of p.world) inputs (world_of p.world) p.held n m (map seen_out p.added) p.world.registry.config.limits.some_batch intake (so_far (setup_of p.world) (world_of p.world)) collects;
        lags = λ some. i.lags (ap is_collecting is);
      }

  pub consistent-whole : (p : RoundState P g) (n m : CurrentInput) → p.stage ≡ Collecting n → p.held ≡ [] → ((setup : Setup) (w : WorldState) → IsCollected setup w n → IsCollected setup w m) → Collects n m →
      m.slots.items ≡ [] → IsConsistent p → IsConsistent (record p { stage = Complete m })
  consistent-whole p n m is bare so_far collects none i =
      let more = consistent-ready p n m is so_far collects i in
      record {
        counted = i.counted;
        staged = giving-at-once (setup_of p.world) (map read_input p.inputs) (world_of p.world) p.held m (map seen_out p.added) p.world.registry.config.limits.some_batch bare more.staged none;
        lags = λ some. let no : false ≡ true = some in cc;
      }
