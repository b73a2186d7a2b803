-- Proves which inputs are held.
use Rattle.std.proofs.Common.{◌≡◌, ℕ, ◌<◌, Bool, true, false, not, List, [], ◌∷◌, ◌++◌, map, filter, refl, sym, ap, ◌∙◌, cond, append-nil, inl, inr}
use Rattle.std.specs.Prelude.{◌⊎◌}
use Rattle.std.proofs.lemmas.List.{append_cancel_left, map-append}
use Rattle.bx_advice.specs.declared.config.Config.{Config}
use Rattle.bx_entry.specs.Words.{ReadInput, Registry, held, outs}
use Rattle.bx_entry.specs.Runs as runs
use Rattle.bx_entry.specs.Placings.{Setup}
use Rattle.bx_world.specs.Worlds.{WorldState}
use Rattle.bx_fanout.specs.Words.{Row, numbers, waits, AreHeldBefore, IsCollecting, IsGiving, IsStaged, bare, is_collecting, own, seen_out}
use Rattle.bx_theory.specs.Opens.{Numbered, is_whole, newest, open_after, registry_after, waiting_at}
use Rattle.bx_theory.specs.Opens as opens
use Rattle.bx_fanout.specs.declared.{stage.Stage.Stage, current_input.CurrentInput.CurrentInput}
use Rattle.bx_fanout.specs.declared.stage.Stage.TheVariants.{Collecting}
use Rattle.bx_fanout.proofs.Finishing.{giving-at, intake-at}
use Rattle.bx_theory.proofs.Opens.{incomplete_inputs_are_reported_held, input_stays_incomplete_until_completed, input_appends_outs_it_completes}

-- ---- Lists

none-behind : {T : Type 0} (xs ys : List T) → xs ≡ xs ++ ys → ys ≡ []
none-behind xs ys e = append_cancel_left xs ys [] (sym e ∙ sym (append-nil xs))

none-mapped : {S T : Type 0} (f : S → T) (xs : List S) → map f xs ≡ [] → xs ≡ []
none-mapped f [] e = refl
none-mapped f (x ∷ xs) e = let no : f x ∷ map f xs ≡ [] = e in cc

others-by : {T : Type 0} (p q : T → Bool) (x : T) (xs : List T) → (filter p xs ≡ [] → filter q xs ≡ xs) → (b : Bool) → p x ≡ b → q x ≡ not b → cond b (x ∷ filter p xs) (filter p xs) ≡ [] → cond (q x) (x ∷ filter q xs) (filter q xs) ≡ x ∷ xs
others-by p q x xs ih true here other none = let no : x ∷ filter p xs ≡ [] = none in cc
others-by {T} p q x xs ih false here other none = ap (λ (b : Bool). cond b (x ∷ filter q xs) (filter q xs)) other ∙ ap (λ (ys : List T). x ∷ ys) (ih none)

others-all : {T : Type 0} (p q : T → Bool) → ((x : T) → q x ≡ not (p x)) → (xs : List T) → filter p xs ≡ [] → filter q xs ≡ xs
others-all p q other [] none = refl
others-all p q other (x ∷ xs) none = others-by p q x xs (others-all p q other xs) (p x) refl (other x) none

-- ---- Held connects

numbers-bare : (os : List Numbered) → numbers (map bare os) ≡ map (λ (o : Numbered). o.number) os
numbers-bare [] = refl
numbers-bare (o ∷ os) = ap (λ (ns : List ℕ). o.number ∷ ns) (numbers-bare os)

waits-bare : (os : List Numbered) → filter waits (map bare os) ≡ map bare os
waits-bare [] = refl
waits-bare (o ∷ os) = ap (λ (rows : List Row). bare o ∷ rows) (waits-bare os)

-- ---- All answers are collected

held-giving : (setup : Setup) (inputs : List ReadInput) (w : WorldState) (rows : List Row) (left : List runs.Out) (added : List runs.Out) → 0 < setup.config.limits.batch →
    IsGiving setup inputs w rows left added → numbers (filter waits rows) ≡ held setup.config inputs
held-giving setup inputs w rows left added batch g =
    ap numbers g.rest ∙ numbers-bare (open_after setup.config inputs) ∙ sym (incomplete_inputs_are_reported_held setup.config inputs batch)

-- ---- Answers are being collected

waiting-collecting : (setup : Setup) (inputs : List ReadInput) (input : ReadInput) (w : WorldState) (rows : List Row) (n : CurrentInput) (added : List runs.Out) →
    IsCollecting setup inputs input w rows n added → numbers (filter waits rows) ≡ map (λ (o : Numbered). o.number) (open_after setup.config inputs)
waiting-collecting setup inputs input w rows n added c =
    let opens : List Numbered = open_after setup.config inputs in
    ap (λ (rs : List Row). numbers (filter waits rs)) c.held ∙ ap numbers (waits-bare opens) ∙ numbers-bare opens

held-collecting : (setup : Setup) (inputs : List ReadInput) (input : ReadInput) (w : WorldState) (rows : List Row) (n : CurrentInput) (added : List runs.Out) → 0 < setup.config.limits.batch →
    IsCollecting setup inputs input w rows n added → added ≡ outs setup.config (inputs ++ input ∷ []) → numbers (filter waits rows) ++ n.number ∷ [] ≡ held setup.config (inputs ++ input ∷ [])
held-collecting setup inputs input w rows n added batch c all =
    let config : Config = setup.config in
    let r : Registry = registry_after config (inputs ++ input ∷ []) in
    let waiting : List Numbered = waiting_at config inputs input in
    let whole : List Numbered = filter (is_whole config r) waiting in
    let more : List runs.Out = map (opens.out_of config r) whole in
    let none : more ≡ [] = none-behind (outs config inputs) more (sym c.outs_before ∙ all ∙ input_appends_outs_it_completes config inputs input batch) in
    let same : filter (λ (o : Numbered). not (is_whole config r o)) waiting ≡ waiting =
    others-all (is_whole config r) (λ (o : Numbered). not (is_whole config r o)) (λ (o : Numbered). refl) waiting (none-mapped (opens.out_of config r) whole none) in
    let number : Numbered → ℕ = λ (o : Numbered). o.number in
    ap (λ (ns : List ℕ). ns ++ n.number ∷ []) (waiting-collecting setup inputs input w rows n added c)
    ∙ ap (λ (k : ℕ). map number (open_after config inputs) ++ k ∷ []) c.number
    ∙ sym (map-append number (open_after config inputs) (newest inputs input ∷ []))
    ∙ ap (map number) (sym (input_stays_incomplete_until_completed config inputs input batch ∙ same))
    ∙ sym (incomplete_inputs_are_reported_held config (inputs ++ input ∷ []) batch)

-- ---- A round

none-by : {L : Type 0} (b : Bool) → L → (b ≡ true → ¬ L) → b ≡ false
none-by true level lags = absurd (lags refl level)
none-by false level lags = refl

pub none-collecting : {L : Type 0} (stage : Stage) → L ⊎ (is_collecting stage ≡ false) → (is_collecting stage ≡ true → ¬ L) → is_collecting stage ≡ false
none-collecting stage (inl level) lags = none-by (is_collecting stage) level lags
none-collecting stage (inr none) lags = none

pub held-none : (setup : Setup) (inputs : List ReadInput) (w : WorldState) (rows : List Row) (stage : Stage) (added : List runs.Out) → 0 < setup.config.limits.batch → is_collecting stage ≡ false →
    IsStaged setup inputs w rows stage added → numbers (filter waits rows) ≡ held setup.config inputs
held-none setup inputs w rows stage added batch none i = held-giving setup inputs w rows (map seen_out (own stage)) added batch (giving-at setup inputs w rows stage added none i)

pub held-before : (setup : Setup) (inputs : List ReadInput) (w : WorldState) (rows : List Row) (stage : Stage) (n : CurrentInput) (added : List runs.Out) → 0 < setup.config.limits.batch → stage ≡ Collecting n →
    IsStaged setup inputs w rows stage added → AreHeldBefore setup.config inputs (numbers (filter waits rows) ++ n.number ∷ [])
held-before setup inputs w rows stage n added batch is i =
    let d = intake-at setup inputs w rows stage n added is i in
    record {
      earlier = d.earlier;
      last = d.last;
      are = d.are;
      numbers_are =
          ap (λ (ns : List ℕ). ns ++ n.number ∷ []) (waiting-collecting setup d.earlier d.last w rows n added d.collecting ∙ sym (incomplete_inputs_are_reported_held setup.config d.earlier batch))
          ∙ ap (λ (k : ℕ). held setup.config d.earlier ++ k ∷ []) d.collecting.number;
    }

pub held-some : (setup : Setup) (inputs : List ReadInput) (w : WorldState) (rows : List Row) (stage : Stage) (n : CurrentInput) (added : List runs.Out) → 0 < setup.config.limits.batch → stage ≡ Collecting n →
    IsStaged setup inputs w rows stage added → added ≡ outs setup.config inputs → numbers (filter waits rows) ++ n.number ∷ [] ≡ held setup.config inputs
held-some setup inputs w rows stage n added batch is i all =
    let d = intake-at setup inputs w rows stage n added is i in
    held-collecting setup d.earlier d.last w rows n added batch d.collecting (all ∙ ap (outs setup.config) d.are)
    ∙ ap (held setup.config) (sym d.are)
