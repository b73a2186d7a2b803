-- Proves that the answers taken are the definitions', if every shard has applied the list.
use Rattle.std.proofs.Common.{◌≡◌, ◌≢◌, ℕ, ◌+◌, ◌<◌, ◌≤◌, Bool, true, false, List, [], ◌∷◌, ◌++◌, length, refl, sym, ap, subst, ◌∙◌, arith, Option, Some, None, option_map, slice_get, slice_index, add-one, get_or, drop, ltb, add-zero, add_assoc, ne_eqb}
use Rattle.std.specs.Prelude.{◌||◌, ◌==◌}
use Rattle.std.proofs.Math.Bool.{or-false}
use Rattle.std.proofs.lemmas.{List.Folds.list_any-append, Option.slice_get-get_or, List.length_push}
use Rattle.bx_entry.specs.Words.{PlacedAnswer, answer, Listed}
use Rattle.bx_entry.specs.declared.entry.{Slot.Slot, Ticket.Ticket}
use Rattle.bx_entry.specs.declared.entry.Slot.TheVariants as slots
use Rattle.bx_message.specs.declared.reply.Answer.{Answer}
use Rattle.bx_shard.specs.Words.{Setup, is_taken, given_of}
use Rattle.bx_world.specs.Words.{EachSlot, IsTicket, IsOutput, WorldState, after}
use Rattle.bx_world.specs.declared.step.Step.TheVariants.{Take}
use Rattle.bx_world.specs.declared.step.StepOut.TheVariants.{Taken}
use Rattle.bx_world.proofs.{Files.answers_can_be_taken, Takes.taken_answers_match_one_thread}
use Rattle.bx_advice.specs.declared.config.Config.{Config}
use Rattle.bx_fanout.specs.CurrentInputs.{AreAnswers, IsCollected, IsLevel, Keeps, Next, NextBy, NoneTakenFrom, given_at, next_place}
use Rattle.bx_fanout.specs.declared.current_input.CurrentInput.{CurrentInput}
use Rattle.bx_theory.proofs.Below.{answer_below}

abbrev pub AllPlaced : Setup → WorldState → Type 0
AllPlaced setup w = (session : ℕ) → setup.placing session setup.shards < length w.applied

taken-of : (a b : Option Answer) → Taken a ≡ Taken b → a ≡ b
taken-of a b e = cc

pub take-is-answer : (setup : Setup) (w : WorldState) (t : Ticket) (b : Answer) → 0 < setup.config.limits.batch → IsOutput setup w (Take t) (Taken (Some b)) → given_at setup.config w.list t.place ≡ Some b
take-is-answer setup w t b batch output = (taken_answers_match_one_thread setup w (Take t ∷ []) (Taken (Some b) ∷ []) (after w (Take t) (Taken (Some b))) batch (output, refl)).0

gives-by : (setup : Setup) (w : WorldState) (t : Ticket) (o : Option Answer) → 0 < setup.config.limits.batch → AllPlaced setup w → IsTicket setup w.list t.place t → IsLevel w → is_taken w.taken t.place ≡ false →
    IsOutput setup w (Take t) (Taken o) → (p : Option PlacedAnswer) → answer setup.config w.list t.place ≡ p → o ≡ option_map given_of p
gives-by setup w t None batch placed ticket level fresh output None e = refl
gives-by setup w t (Some b) batch placed ticket level fresh output None e =
    let given : given_at setup.config w.list t.place ≡ Some b = take-is-answer setup w t b batch output in
    sym given ∙ ap (λ (q : Option PlacedAnswer). option_map given_of q) e
gives-by setup w t o batch placed ticket level fresh output (Some a) e =
    let inside : t.shard < length w.applied = subst (λ (n : ℕ). n < length w.applied) (sym ticket.shard) (placed ticket.session) in
    let reached : length w.list ≤ slice_index w.applied t.shard = level t.shard (slice_index w.applied t.shard) (slice_get-get_or w.applied t.shard 0 inside) in
    let early : a.place < length w.list = answer_below setup.config w.list t.place a batch e in
    taken-of o (Some (given_of a)) (answers_can_be_taken setup w t ticket.session a (Taken o) batch ticket.waits ticket.shard inside e (omega arith) fresh output)

pub take-gives : (setup : Setup) (w : WorldState) (t : Ticket) (place : ℕ) (o : Option Answer) → 0 < setup.config.limits.batch → AllPlaced setup w → IsTicket setup w.list place t → IsLevel w → is_taken w.taken place ≡ false →
    IsOutput setup w (Take t) (Taken o) → o ≡ given_at setup.config w.list place
take-gives setup w t place o batch placed ticket level fresh output =
    let P : ℕ → Type 0 = λ p. IsTicket setup w.list p t → is_taken w.taken p ≡ false → o ≡ given_at setup.config w.list p in
    subst P ticket.place (λ ticket' fresh'. gives-by setup w t o batch placed ticket' level fresh' output (answer setup.config w.list t.place) refl) ticket fresh

-- ---- One more answer taken

pub taken-more : (taken : List ℕ) (place p : ℕ) → place ≢ p → is_taken (taken ++ place ∷ []) p ≡ is_taken taken p
taken-more taken place p other = list_any-append (λ (t : ℕ). t == p) taken (place ∷ []) ∙ ap (λ (b : Bool). is_taken taken p || (b || false)) (ne_eqb place p other) ∙ or-false (is_taken taken p)

-- ---- The next slot is a ticket

pub front-of : (items : List Slot) (slot d : Slot) → true ≡ ltb 0 (length items) → d ≡ get_or items 0 d → d ≡ slot → items ≡ slot ∷ drop 1 items
front-of [] slot d some first is = let no : true ≡ false = some in cc
front-of (x ∷ items) slot d some first is = ap (λ (y : Slot). y ∷ items) (sym first ∙ is)

length-one : (slot : Slot) (rest : List Slot) → length (slot ∷ rest) ≡ length rest + 1
length-one slot rest = sym (add-one (length rest))

pub next-missing : (setup : Setup) (old new : WorldState) (t : Ticket) (rest before : List Slot) → 0 < setup.config.limits.batch → AllPlaced setup old → before ≡ slots.Waiting t ∷ rest →
    IsOutput setup old (Take t) (Taken None) → new ≡ old → Next setup old before before new None
next-missing setup old new t rest before batch placed is output same place level each fresh some =
    let ticket : EachSlot setup old.list place (slots.Waiting t ∷ rest) = subst (EachSlot setup old.list place) is each in
    (sym (take-gives setup old t place None batch placed ticket.0 level (fresh place (omega arith)) output), refl, same)

pub next-taken : (setup : Setup) (old new : WorldState) (t : Ticket) (a : Answer) (rest before left : List Slot) → 0 < setup.config.limits.batch → AllPlaced setup old → before ≡ slots.Waiting t ∷ rest → left ≡ rest →
    IsOutput setup old (Take t) (Taken (Some a)) → new ≡ after old (Take t) (Taken (Some a)) → Next setup old before left new (Some a)
next-taken setup old new t a rest before left batch placed is same output step place level each fresh some =
    let ticket : EachSlot setup old.list place (slots.Waiting t ∷ rest) = subst (EachSlot setup old.list place) is each in
    let taken : new.taken ≡ old.taken ++ place ∷ [] = ap (λ (w : WorldState). w.taken) step ∙ ap (λ (n : ℕ). old.taken ++ n ∷ []) ticket.0.place in (
      sym (take-gives setup old t place (Some a) batch placed ticket.0 level (fresh place (omega arith)) output),
      subst (EachSlot setup old.list (place + 1)) (sym same) ticket.1,
      ap (λ (ss : List Slot). length ss) is ∙ length-one (slots.Waiting t) rest ∙ ap (λ (ss : List Slot). length ss + 1) (sym same),
      (λ p le. let other : place ≢ p = omega arith in ap (λ (ns : List ℕ). is_taken ns p) taken ∙ taken-more old.taken place p other ∙ fresh p (omega arith)),
      record {
        list = ap (λ (w : WorldState). w.list) step;
        applied = ap (λ (w : WorldState). w.applied) step;
        earlier = λ p less. let other : place ≢ p = omega arith in ap (λ (ns : List ℕ). is_taken ns p) taken ∙ taken-more old.taken place p other;
      },
    )

-- ---- One more answer collected

length-one-more : (a : Answer) (answers : List Answer) → length (a ∷ answers) ≡ 1 + length answers
length-one-more a answers = omega (arith, add-one (length answers))

answers-more : (config : Config) (list : List Listed) (place : ℕ) (answers : List Answer) (a : Answer) → AreAnswers config list place answers → given_at config list (place + length answers) ≡ Some a →
    AreAnswers config list place (answers ++ a ∷ [])
answers-more config list place [] a are e = (ap (given_at config list) (sym (add-zero place)) ∙ e, tt)
answers-more config list place (b ∷ answers) a are e =
    let at : place + length (b ∷ answers) ≡ place + 1 + length answers = ap (λ (n : ℕ). place + n) (length-one-more b answers) ∙ sym (add_assoc place 1 (length answers)) in
    (are.0, answers-more config list (place + 1) answers a are.1 (ap (given_at config list) (sym at) ∙ e))

pub level-kept : (old new : WorldState) → new.list ≡ old.list → new.applied ≡ old.applied → IsLevel old → IsLevel new
level-kept old new list applied level k n found =
    let le : length old.list ≤ n = level k n (ap (λ (ns : List ℕ). slice_get ns k) (sym applied) ∙ found) in
    let same : length new.list ≡ length old.list = ap (λ (ls : List Listed). length ls) list in
    omega arith

pub level-next : (setup : Setup) (old new : WorldState) (place : ℕ) (before after : List Slot) (a : Answer) → NextBy setup old place before after new (Some a) → IsLevel old → IsLevel new
level-next setup old new place before after a next level = level-kept old new next.4.list next.4.applied level

pub collected-more : (setup : Setup) (old new : WorldState) (n m : CurrentInput) (a : Answer) → IsCollected setup old n → NextBy setup old (next_place n) n.slots.items m.slots.items new (Some a) →
    m.first ≡ n.first → m.answers.items ≡ n.answers.items ++ a ∷ [] → IsCollected setup new m
collected-more setup old new n m a so_far next first answers =
    let len : length m.answers.items ≡ length n.answers.items + 1 = ap (λ (items : List Answer). length items) answers ∙ length_push n.answers.items a in
    let place : next_place m ≡ next_place n + 1 = omega arith in
    record {
      answers =
          let more : AreAnswers setup.config old.list n.first (n.answers.items ++ a ∷ []) = answers-more setup.config old.list n.first n.answers.items a so_far.answers next.0 in
          let listed : AreAnswers setup.config new.list n.first (n.answers.items ++ a ∷ []) = subst (λ (ls : List Listed). AreAnswers setup.config ls n.first (n.answers.items ++ a ∷ [])) (sym next.4.list) more in
          let firsts : AreAnswers setup.config new.list m.first (n.answers.items ++ a ∷ []) = subst (λ (p : ℕ). AreAnswers setup.config new.list p (n.answers.items ++ a ∷ [])) (sym first) listed in
          subst (AreAnswers setup.config new.list m.first) (sym answers) firsts;
      slots =
          let listed : EachSlot setup new.list (next_place n + 1) m.slots.items = subst (λ (ls : List Listed). EachSlot setup ls (next_place n + 1) m.slots.items) (sym next.4.list) next.1 in
          subst (λ (p : ℕ). EachSlot setup new.list p m.slots.items) (sym place) listed;
      fresh = subst (λ (p : ℕ). NoneTakenFrom p new.taken) (sym place) next.3;
    }

pub keeps-more : (first place : ℕ) (start old new : WorldState) → first ≤ place → Keeps first start old → Keeps place old new → Keeps first start new
keeps-more first place start old new le a b = record {
  list = b.list ∙ a.list;
  applied = b.applied ∙ a.applied;
  earlier = λ p less. b.earlier p (omega arith) ∙ a.earlier p less;
}
