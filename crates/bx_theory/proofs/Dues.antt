-- The clock and the due moments of the registry, over the whole list.
use Rattle.std.proofs.Common.{◌≡◌, ℕ, ◌+◌, ◌<◌, max, Bool, true, false, cond, Option, Some, None, List, [], ◌∷◌, ◌++◌, length, map, filter, find, fold, ◌==◌, refl, sym, ap, ◌∙◌, subst, arith, eq-eqb, ne_eqb, map-id}
use Rattle.std.proofs.lemmas.{Bool.cond_both, Bool.cond-true, Bool.cond-false, Grind.common_steps, List.Elements.filter-append, List.Sums.fold-append}
use Rattle.std.proofs.lemmas.List.{length-map, length_push, map-append}
use Rattle.std.specs.List.{AllByRecursion}
use Rattle.bx_advice.specs.declared.config.Config.{Config}
use Rattle.bx_message.specs.declared.{message.Message.Message, message.TextMember.TextMember, message_kind.MessageKind.MessageKind, message.TextMember.TheVariants.Text}
use Rattle.bx_entry.specs.Words.{Listed, Post, Posted, due_of, extended, found_at, hold_of, newcomer, opened, Registry, Registered, Judged, Verdict, judge, left_by, is_overdue, named_by, refused, registry, sender_of, served, sessionless, state_of, overdue_closed, tick_verdict}
use Rattle.bx_message.specs.MessageKinds.{message_kind_of}
use Rattle.bx_entry.specs.Listing as messages
use Rattle.bx_theory.proofs.Verdicts.{each_judge, each_registry, judge_is, next_noted}
use Rattle.bx_theory.specs.Readings.{is_from, given_moments, EachSession, DueReading, moment_of, ClockReading}

-- ---- The clock

clock_run : (config : Config) (r : Registry) (xs : List Listed) → (fold (judge config) r xs).clock ≡ fold max r.clock (map moment_of xs)
clock_run config r [] = refl
clock_run config r (x ∷ xs) = clock_run config (judge config r x) xs ∙ ap (λ (t : Registry). fold max t.clock (map moment_of xs)) (judge_is config r x)

pub clock_is_greatest_moment : ClockReading
clock_is_greatest_moment config list = clock_run config _ list

-- ---- Sessions

abbrev pub NumberedFrom : ℕ → List Registered → Type 0
NumberedFrom n [] = Unit {0}
NumberedFrom n (r ∷ rs) = (r.number ≡ n) × NumberedFrom (n + 1) rs

pub each_session_map : (P Q : Registered → Type 0) (rs : List Registered) → ((r : Registered) → P r → Q r) → EachSession P rs → EachSession Q rs
each_session_map P Q [] h d = tt
each_session_map P Q (r ∷ rs) h d = (h r d.0, each_session_map P Q rs h d.1)

pub each_session_all : (P : Registered → Type 0) (rs : List Registered) → ((r : Registered) → P r) → EachSession P rs
each_session_all P [] h = tt
each_session_all P (r ∷ rs) h = (h r, each_session_all P rs h)

pub each_session_both : (P Q R : Registered → Type 0) (rs : List Registered) → ((r : Registered) → P r → Q r → R r) → EachSession P rs → EachSession Q rs → EachSession R rs
each_session_both P Q R [] h d e = tt
each_session_both P Q R (r ∷ rs) h d e = (h r d.0 e.0, each_session_both P Q R rs h d.1 e.1)

pub each_session_push : (P : Registered → Type 0) (rs : List Registered) (r : Registered) → EachSession P rs → P r → EachSession P (rs ++ r ∷ [])
each_session_push P [] r d h = (h, tt)
each_session_push P (q ∷ rs) r d h = (d.0, each_session_push P rs r d.1 h)

pub each_session_through : (P Q : Registered → Type 0) (f : Registered → Registered) (rs : List Registered) → ((r : Registered) → P r → Q (f r)) → EachSession P rs → EachSession Q (map f rs)
each_session_through P Q f [] h d = tt
each_session_through P Q f (r ∷ rs) h d = (h r d.0, each_session_through P Q f rs h d.1)

numbered_through : (f : Registered → Registered) (n : ℕ) (rs : List Registered) → ((r : Registered) → (f r).number ≡ r.number) → NumberedFrom n rs → NumberedFrom n (map f rs)
numbered_through f n [] h d = tt
numbered_through f n (r ∷ rs) h d = (h r ∙ d.0, numbered_through f (n + 1) rs h d.1)

numbered_push : (n : ℕ) (rs : List Registered) (r : Registered) → r.number ≡ n + length rs → NumberedFrom n rs → NumberedFrom n (rs ++ r ∷ [])
numbered_push n [] r h d = (omega (arith, h), tt)
numbered_push n (q ∷ rs) r h d = (d.0, numbered_push (n + 1) rs r (omega (arith, h)) d.1)

pub numbered_below : (n : ℕ) (rs : List Registered) → NumberedFrom n rs → EachSession (λ r. r.number < n + length rs) rs
numbered_below n [] d = tt
numbered_below n (r ∷ rs) d = (omega (arith, d.0), each_session_map (λ q. q.number < n + 1 + length rs) (λ q. q.number < n + length (r ∷ rs)) rs (λ q h. omega (arith, h)) (numbered_below (n + 1) rs d.1))

find_session : (P : Registered → Type 0) (test : Registered → Bool) (rs : List Registered) (r : Registered) → find test rs ≡ Some r → EachSession P rs → P r
find_session P test [] r e d = cc
find_session P test (q ∷ rs) r e d =
    let Q : Bool → Type 0 = λ b. test q ≡ b → P r in
    let at_true : Q true = λ h. let same : Some q ≡ Some r = sym (cond-true (test q) (Some q) (find test rs) h) ∙ e in let one : q ≡ r = cc in subst P one d.0 in
    let at_false : Q false = λ h. find_session P test rs r (sym (cond-false (test q) (Some q) (find test rs) h) ∙ e) d.1 in
    (elim (test q) as Q [ true ↦ at_true | false ↦ at_false ]) refl

sender_session : (P : Registered → Type 0) (rs : List Registered) (m : TextMember) (r : Registered) → sender_of rs m ≡ Some r → EachSession P rs → P r
sender_session P rs (Text client) r e d = find_session P _ rs r e d
sender_session P rs _ r e d = cc

pub named_session : (P : Registered → Type 0) (rs : List Registered) (c : MessageKind) (m : Message) (r : Registered) → named_by rs c m ≡ Some r → EachSession P rs → P r
named_session P rs MessageKind.Handshake m r e d = cc
named_session P rs MessageKind.UnknownMeta m r e d = cc
named_session P rs _ m r e d = sender_session P rs m.client r e d

-- ---- What an element changes in the sessions

pub record Same (s t : Registered) : Type 0 where
  pub number : t.number ≡ s.number
  pub ack : t.ack ≡ s.ack

pub record Mapped (change : Registered → Registered) (rs ts : List Registered) : Type 0 where
  pub same : (s : Registered) → Same s (change s)
  pub is : ts ≡ map change rs

pub unchanged : (rs : List Registered) → Mapped (λ s. s) rs rs
unchanged rs = record { same = λ s. record { number = refl; ack = refl }; is = sym (map-id rs) }

abbrev pub shut : (Registered → Bool) → Registered → Registered
shut test s = let t : Registered = record s { live = false } in cond (test s) t s

shut_same : (test : Registered → Bool) (s : Registered) → Same s (shut test s)
shut_same test s = record { number = grind (arith, common_steps); ack = grind (arith, common_steps) }

shut_due : (test : Registered → Bool) (s : Registered) → (shut test s).due ≡ s.due
shut_due test s = grind (arith, common_steps)

pub overdue_closed_sessions : (now : ℕ) (rs : List Registered) → Mapped (shut (is_overdue now)) rs (overdue_closed now rs)
overdue_closed_sessions now rs = record { same = shut_same (is_overdue now); is = refl }

abbrev pub moved : ℕ → ℕ → Registered → Registered
moved number due s = let t : Registered = record s { due = max s.due due } in cond (s.number == number) t s

abbrev pub left : MessageKind → ℕ → Registered → Registered
left MessageKind.Disconnect number s = shut (λ q. q.number == number) s
left _ number s = s

left_map : (c : MessageKind) (number : ℕ) (rs : List Registered) → left_by c number rs ≡ map (left c number) rs
left_map MessageKind.Disconnect number rs = refl
left_map _ number rs = sym (map-id rs)

pub left_each : (P : Registered → Type 0) (c : MessageKind) (number : ℕ) (rs : List Registered) → ((s : Registered) → P s → P (record s { live = false })) → EachSession P rs → EachSession P (left_by c number rs)
left_each P MessageKind.Disconnect number rs h d = each_session_through P P (shut (λ s. s.number == number)) rs (λ s p. let t : Registered = record s { live = false } in cond_both (s.number == number) t s P (λ e. h s p) (λ e. p)) d
left_each P _ number rs h d = d

left_same : (c : MessageKind) (number : ℕ) (s t : Registered) → Same s t → Same s (left c number t)
left_same c number s t h = record { number = grind (arith, common_steps); ack = grind (arith, common_steps) }

left_due : (c : MessageKind) (number : ℕ) (s : Registered) → (left c number s).due ≡ s.due
left_due c number s = grind (arith, common_steps)

pub moved_same : (number due : ℕ) (s : Registered) → Same s (moved number due s)
moved_same number due s = record { number = grind (arith, common_steps); ack = grind (arith, common_steps) }

map_twice : (f g : Registered → Registered) (rs : List Registered) → map g (map f rs) ≡ map (λ s. g (f s)) rs
map_twice f g [] = refl
map_twice f g (r ∷ rs) = ap (λ (qs : List Registered). g (f r) ∷ qs) (map_twice f g rs)

pub served_sessions : (c : MessageKind) (number due : ℕ) (rs : List Registered) → Mapped (λ s. left c number (moved number due s)) rs (left_by c number (extended number due rs))
served_sessions c number due rs = record {
  same = λ s. left_same c number s (moved number due s) (moved_same number due s);
  is = left_map c number (extended number due rs) ∙ map_twice (moved number due) (left c number) rs;
}

pub numbered : (config : Config) (list : List Listed) → NumberedFrom 1 (registry config list).sessions
numbered config list =
    each_registry config (λ r. NumberedFrom 1 r.sessions) tt
    (λ ys x d. each_judge config (registry config ys) (λ r. NumberedFrom 1 r.sessions) (record {
      refuses = λ p sender error. d;
      opens = λ p. numbered_push 1 (registry config ys).sessions _ (omega arith) d;
      none = λ p. d;
      serves = λ p s e. through _ _ _ (served_sessions _ s.number _ (registry config ys).sessions) d;
      ticks = λ moment. through _ _ _ (overdue_closed_sessions _ (registry config ys).sessions) d;
    }) x) list
  where
    through : (change : Registered → Registered) (rs ts : List Registered) → Mapped change rs ts → NumberedFrom 1 rs → NumberedFrom 1 ts
    through change rs ts m d = subst (NumberedFrom 1) (sym m.is) (numbered_through change 1 rs (λ s. (m.same s).number) d)

-- ---- The due moments that messages set

abbrev greatest : Config → ℕ → List Judged → ℕ
greatest config number js = fold max 0 (given_moments config number js)

greatest_push : (config : Config) (number : ℕ) (js : List Judged) (j : Judged) → greatest config number (js ++ j ∷ []) ≡ cond (is_from number j.sender) (max (greatest config number js) (due_of config j.entry.moment j.hold)) (greatest config number js)
greatest_push config number js j =
    let test : Judged → Bool = λ k. is_from number k.sender in
    let gave : Judged → ℕ = λ k. due_of config k.entry.moment k.hold in
    ap (λ (ks : List Judged). fold max 0 (map gave ks)) (filter-append test js (j ∷ [])) ∙ ap (fold max 0) (map-append gave (filter test js) (filter test (j ∷ []))) ∙ fold-append max 0 (given_moments config number js) (map gave (filter test (j ∷ [])))
    ∙ (elim (is_from number j.sender) as (λ b. fold max (greatest config number js) (map gave (cond b (j ∷ []) [])) ≡ cond b (max (greatest config number js) (gave j)) (greatest config number js)) [ true ↦ refl | false ↦ refl ])

-- ---- The invariant

abbrev SenderBelow : ℕ → Option ℕ → Type 0
SenderBelow n None = Unit {0}
SenderBelow n (Some m) = m < n

abbrev pub EachJudged : (Judged → Type 0) → List Judged → Type 0
EachJudged P js = AllByRecursion P js

pub each_judged_push : (P : Judged → Type 0) (js : List Judged) (j : Judged) → EachJudged P js → P j → EachJudged P (js ++ j ∷ [])
each_judged_push P [] j d h = (h, tt)
each_judged_push P (i ∷ js) j d h = (d.0, each_judged_push P js j d.1 h)

pub each_judged_map : (P Q : Judged → Type 0) (js : List Judged) → ((j : Judged) → P j → Q j) → EachJudged P js → EachJudged Q js
each_judged_map P Q [] h d = tt
each_judged_map P Q (j ∷ js) h d = (h j d.0, each_judged_map P Q js h d.1)

sender_later : (n : ℕ) (o : Option ℕ) → SenderBelow n o → SenderBelow (n + 1) o
sender_later n None h = tt
sender_later n (Some m) h = let l : m < n = h in omega arith

not_from : (n : ℕ) (o : Option ℕ) → SenderBelow n o → is_from n o ≡ false
not_from n None h = refl
not_from n (Some m) h = let l : m < n = h in ne_eqb n m (λ e. omega arith)

nothing_given : (config : Config) (n : ℕ) (js : List Judged) → EachJudged (λ j. SenderBelow n j.sender) js → greatest config n js ≡ 0
nothing_given config n js d = ap (fold max 0) (none js d)
  where
    none : (is : List Judged) → EachJudged (λ j. SenderBelow n j.sender) is → given_moments config n is ≡ []
    none [] e = refl
    none (j ∷ is) e = ap (map (λ (k : Judged). due_of config k.entry.moment k.hold)) (cond-false (is_from n j.sender) (j ∷ filter (λ (k : Judged). is_from n k.sender) is) (filter (λ (k : Judged). is_from n k.sender) is) (not_from n j.sender e.0)) ∙ none is e.1

record Due (config : Config) (r : Registry) : Type 0 where
  senders : EachJudged (λ j. SenderBelow (length r.sessions + 1) j.sender) r.judged
  due : EachSession (λ s. s.due ≡ greatest config s.number r.judged) r.sessions

due_next : (config : Config) (r : Registry) (x : Listed) (v : Verdict) (change : Registered → Registered) → Mapped change r.sessions v.state.sessions → SenderBelow (length r.sessions + 1) v.sender →
    ((s : Registered) → (change s).due ≡ cond (is_from s.number v.sender) (max s.due (due_of config (max r.clock (moment_of x)) v.hold)) s.due) → Due config r → Due config (next_noted r x v)
due_next config r x v change m below moves d =
    let j : Judged = found_at (length r.judged) (max r.clock (moment_of x)) v in
    let gave : ℕ = due_of config (max r.clock (moment_of x)) v.hold in
    let many : length v.state.sessions ≡ length r.sessions = ap length m.is ∙ length-map r.sessions change in
    record {
      senders = subst (λ (n : ℕ). EachJudged (λ i. SenderBelow (n + 1) i.sender) (r.judged ++ j ∷ [])) (sym many) (each_judged_push (λ i. SenderBelow (length r.sessions + 1) i.sender) r.judged j d.senders below);
      due = subst (EachSession (λ s. s.due ≡ greatest config s.number (r.judged ++ j ∷ []))) (sym m.is)
          (each_session_through (λ s. s.due ≡ greatest config s.number r.judged) (λ s. s.due ≡ greatest config s.number (r.judged ++ j ∷ [])) change r.sessions
          (λ s h. moves s ∙ ap (λ (n : ℕ). cond (is_from s.number v.sender) (max n gave) n) h ∙ sym (greatest_push config s.number r.judged j) ∙ ap (λ (n : ℕ). greatest config n (r.judged ++ j ∷ [])) (sym (m.same s).number)) d.due);
    }

due_opened : (config : Config) (r : Registry) (p : Posted) → NumberedFrom 1 r.sessions → Due config r → Due config (next_noted r (Post p) (opened config (state_of r) (max r.clock p.moment) p (length r.sessions + 1)))
due_opened config r p numbers d =
    let moment : ℕ = max r.clock p.moment in
    let t : Registry = next_noted r (Post p) (opened config (state_of r) moment p (length r.sessions + 1)) in
    let new : Registered = newcomer config moment p (length r.sessions + 1) in
    let old : (s : Registered) → s.number < 1 + length r.sessions → s.due ≡ greatest config s.number r.judged → s.due ≡ greatest config s.number t.judged =
    λ s l h. h ∙ sym (greatest_push config s.number r.judged _ ∙ cond-false (s.number == length r.sessions + 1) (max (greatest config s.number r.judged) (due_of config moment 0)) (greatest config s.number r.judged) (ne_eqb s.number (length r.sessions + 1) (λ e. omega arith))) in
    let fresh : due_of config moment 0 ≡ greatest config (length r.sessions + 1) t.judged =
    let none : greatest config (length r.sessions + 1) r.judged ≡ 0 = nothing_given config (length r.sessions + 1) r.judged d.senders in
    let more : max (greatest config (length r.sessions + 1) r.judged) (due_of config moment 0) ≡ due_of config moment 0 = omega (arith, none) in
    sym (greatest_push config (length r.sessions + 1) r.judged _ ∙ cond-true (length r.sessions + 1 == length r.sessions + 1) (max (greatest config (length r.sessions + 1) r.judged) (due_of config moment 0)) (greatest config (length r.sessions + 1) r.judged) (eq-eqb (length r.sessions + 1) (length r.sessions + 1) refl) ∙ more) in
    record {
      senders = subst (λ (n : ℕ). EachJudged (λ i. SenderBelow (n + 1) i.sender) t.judged) (sym (length_push r.sessions new))
          (each_judged_push (λ i. SenderBelow (length r.sessions + 1 + 1) i.sender) r.judged _ (each_judged_map (λ i. SenderBelow (length r.sessions + 1) i.sender) (λ i. SenderBelow (length r.sessions + 1 + 1) i.sender) r.judged (λ i h. sender_later (length r.sessions + 1) i.sender h) d.senders)
          (let l : length r.sessions + 1 < length r.sessions + 1 + 1 = omega arith in l));
      due = each_session_push (λ s. s.due ≡ greatest config s.number t.judged) r.sessions new
          (each_session_both (λ s. s.number < 1 + length r.sessions) (λ s. s.due ≡ greatest config s.number r.judged) (λ s. s.due ≡ greatest config s.number t.judged) r.sessions old (numbered_below 1 r.sessions numbers) d.due)
          fresh;
    }

moved_due : (number due : ℕ) (s : Registered) → (moved number due s).due ≡ cond (s.number == number) (max s.due due) s.due
moved_due number due s = grind (arith, common_steps)

pub due_is_greatest_set_by_messages : DueReading
due_is_greatest_set_by_messages config list =
    (each_registry config (Due config) (record { senders = tt; due = tt }) (λ ys x d.
    let r : Registry = registry config ys in
    each_judge config r (Due config) (record {
      refuses = λ p sender error. due_next config r (Post p) (refused config (state_of r) p error sender) _ (unchanged r.sessions) tt (λ s. refl) d;
      opens = λ p. due_opened config r p (numbered config ys) d;
      none = λ p. due_next config r (Post p) (sessionless config (state_of r) p (message_kind_of p.message.channel)) _ (unchanged r.sessions) tt (λ s. refl) d;
      serves = λ p s e.
          let c : MessageKind = message_kind_of p.message.channel in
          let due : ℕ = due_of config (max r.clock p.moment) (hold_of config p) in
          due_next config r (Post p) (served config (state_of r) (max r.clock p.moment) p c s (hold_of config p)) _ (served_sessions c s.number due r.sessions) (let l = named_session (λ q. q.number < 1 + length r.sessions) r.sessions c p.message s e (numbered_below 1 r.sessions (numbered config ys)) in let k : s.number < length r.sessions + 1 = omega arith in k)
          (λ q. left_due c s.number (moved s.number due q) ∙ moved_due s.number due q) d;
      ticks = λ moment. due_next config r (messages.Tick moment) (tick_verdict (state_of r) (max r.clock moment)) _ (overdue_closed_sessions (max r.clock moment) r.sessions) tt (shut_due (is_overdue (max r.clock moment))) d;
    }) x) list).due
