-- Proves that the output before a fault is a prefix of the whole output.
use Rattle.std.proofs.Common.{◌≡◌, ℕ, suc, ◌+◌, ◌<◌, Option, Some, None, List, [], ◌∷◌, ◌++◌, length, map, take, drop, drop-cons, take-append-drop, get_or, slice_get, Result, Ok, Err, refl, sym, ap, ◌∙◌, subst, append-nil, append_assoc, arith}
use Rattle.std.proofs.lemmas.{Grind.flat_map-append, List.map-append}
use Rattle.std.specs.Prelude.{IfErr, IfSome, IsErr, OnErr, option_map, string_bytes}
use Rattle.std.proofs.Common.{Global, String}
use Rattle.std.specs.Io.KnownBytes.{Appends}
use Rattle.bx_script.specs.Words.{Dialect, IsWriteFault, Line, Bad, Rejected, Accepted, Resharded, Numbered, inputs_from, held_text, lines_in, nonce_at, out_by, replay_text, result_text, AppendsFront, Writes, numbered, with_nonces}
use Rattle.bx_script.specs.declared.{error.ScriptFault.ScriptFault, lines.Lines.Lines, output.Output.Output}
use Rattle.bx_script.specs.declared.error.ScriptFault.TheVariants.{Memory, Read, Write}
use Rattle.bx_replay.specs.Faults.{IsReplayFault}
use Rattle.bx_replay.specs.Kept.{AreKept, IsKept, held_texts}
use Rattle.bx_replay.specs.Serving.{Served, HandsFront, Prints, PrintsFront, Reads, read_lines, seen_after, seen_lines}
use Rattle.bx_replay.specs.declared.kept.PendingLine.{PendingLine}
use Rattle.bx_replay.proofs.{Keeping.TicksAs, Keeping.out_same, Steps.many_of, Steps.read_after, Steps.seen_more, Steps.texts_handed}
use Rattle.bx_advice.specs.declared.config.Config.{Config}
use Rattle.bx_entry.specs.Words.{ReadInput, read_input, Out, held, outs, whole_at, wholes}
use Rattle.bx_entry.specs.declared.{Placing.Ghosts, input.Input.Input}
use Rattle.bx_fanout.specs.Rounds.{added_by, inputs_of, setup_in}
use Rattle.bx_fanout.specs.Stages.{seen_out}
use Rattle.bx_fanout.specs.declared.out.Out as fanout
use Rattle.bx_fanout.specs.declared.round.Round.{Round}
use Rattle.bx_theory.specs.Lines.{AddsOuts, inputs_in, line_prints, outs_text, printed_so_far}
use Rattle.bx_theory.proofs.{Lines.next_line_appends_its_output, Lines.outs_last, Nonces.nonces_on}
use Rattle.bx_script.specs.declared.line.Line as script
use Rattle.bx_script.proofs.Fronts.{fault_writes, front_first, front_none, front_second}

-- ---- Outs

pub outs_split : (os : List fanout.Out) (i : ℕ) (o : fanout.Out) → i < length os → o ≡ get_or os i o → map seen_out os ≡ map seen_out (take i os) ++ seen_out o ∷ map seen_out (drop (i + 1) os)
outs_split os i o h e =
    let next : drop i os ≡ o ∷ drop (i + 1) os = drop-cons os i o h ∙ ap (λ (u : fanout.Out). u ∷ drop (suc i) os) (sym e) ∙ ap (λ (n : ℕ). o ∷ drop n os) (let l : suc i ≡ i + 1 = omega arith in l) in
    ap (map seen_out) (sym (take-append-drop i os) ∙ ap (λ (us : List fanout.Out). take i os ++ us) next) ∙ map-append seen_out (take i os) (o ∷ drop (i + 1) os)

pub numbers_split : (ns : List ℕ) (i : ℕ) → i < length ns → ns ≡ take i ns ++ get_or ns i 0 ∷ drop (i + 1) ns
numbers_split ns i h =
    sym (take-append-drop i ns) ∙ ap (λ (us : List ℕ). take i ns ++ us) (drop-cons ns i 0 h ∙ ap (λ (n : ℕ). get_or ns i 0 ∷ drop n ns) (let l : suc i ≡ i + 1 = omega arith in l))

pub out_front : {A E : Type 0} (o : Out) (a : PendingLine) (old : ℕ → Option PendingLine) (before after : Option (List ℕ)) (r : Result A E) → old o.input ≡ Some a →
    ((read : TicksAs a.tick) → Writes before after r (result_text (numbered a.line (option_map string_bytes a.callback) read.read) read.read o.result)) →
    OnErr r ((ns : List Numbered) → AreKept ns old → AppendsFront before after (outs_text ns (o ∷ [])))
out_front o a old before after (Ok x) found w = tt
out_front o a old before after (Err e) found w =
    λ ns kept.
    let k : IsKept ns o.input a = kept o.input a found in
    subst (AppendsFront before after) (out_same ns o a k) (w (record { read = k.one.input; ticks = sym k.tick }))

pub outs_front : (ns : List Numbered) (all os : List Out) (o : Out) (us : List Out) (a b c : Option (List ℕ)) → all ≡ os ++ o ∷ us → Appends a b (outs_text ns os) → AppendsFront b c (outs_text ns (o ∷ [])) →
    AppendsFront a c (outs_text ns all)
outs_front ns all os o us a b c e h f =
    let F : Out → List ℕ = λ (o : Out). out_by o (slice_get ns o.input) in
    let parts : outs_text ns all ≡ outs_text ns os ++ (outs_text ns (o ∷ []) ++ outs_text ns us) =
    ap (outs_text ns) e ∙ flat_map-append F os (o ∷ us) ∙ ap (λ (t : List ℕ). outs_text ns os ++ t) (flat_map-append F (o ∷ []) us) in
    subst (AppendsFront a c) (sym parts) (front_second a b c (outs_text ns os) (outs_text ns (o ∷ []) ++ outs_text ns us) h (front_first b c (outs_text ns (o ∷ [])) (outs_text ns us) f))

pub held_front : (ns : List Numbered) (all is : List ℕ) (i : ℕ) (js : List ℕ) (a b c : Option (List ℕ)) (text : List ℕ) → all ≡ is ++ i ∷ js → text ≡ held_text (slice_get ns i) → Appends a b (held_texts ns is) → AppendsFront b c text →
    AppendsFront a c (held_texts ns all)
held_front ns all is i js a b c text e same h f =
    let F : ℕ → List ℕ = λ (index : ℕ). held_text (slice_get ns index) in
    let parts : held_texts ns all ≡ held_texts ns is ++ (held_text (slice_get ns i) ++ held_texts ns js) = ap (held_texts ns) e ∙ flat_map-append F is (i ∷ js) in
    subst (AppendsFront a c) (sym parts) (front_second a b c (held_texts ns is) (held_text (slice_get ns i) ++ held_texts ns js) h (front_first b c (held_text (slice_get ns i)) (held_texts ns js) (subst (AppendsFront b c) same f)))

-- ---- One more line

pub front_line : (config : Config) (ls : List script.Line) (l k : script.Line) (more : List Out) (text : List ℕ) (before after : Option (List ℕ)) → 0 < config.limits.batch → l ≡ k → AddsOuts config (inputs_in (seen_lines ls)) (seen_after ls k) more →
    text ≡ line_prints (length (seen_lines ls) + 1) (inputs_from 1 (seen_lines ls ++ seen_after ls k ∷ [])) (seen_after ls k) more → AppendsFront before after text → PrintsFront config ls (ls ++ l ∷ []) before after
front_line config ls l k more text before after room is adds e front = record {
  text = text;
  front = front;
  is = ap (λ (x : script.Line). printed_so_far config (seen_lines (ls ++ x ∷ []))) is
      ∙ ap (printed_so_far config) (seen_more ls k) ∙ next_line_appends_its_output config (seen_lines ls) (seen_after ls k) more room adds ∙ ap (λ (t : List ℕ). printed_so_far config (seen_lines ls) ++ t) (sym e);
}

module _ {P : Type 0} {g : Ghosts P} where
  pub hands_none : (old : Round P g) (one : Numbered) (before : Option (List ℕ)) (kept : ℕ → Option PendingLine) → 0 < (setup_in old).config.limits.batch → HandsFront old one before before kept
  hands_none old one before kept room = record {
    more = whole_at (length (inputs_of old)) (wholes (setup_in old).config (inputs_of old ++ one.input ∷ []));
    adds = outs_last (setup_in old).config (inputs_of old) one.input room;
    prints = λ ns many kept. front_none before (outs_text (ns ++ one ∷ []) (whole_at (length (inputs_of old)) (wholes (setup_in old).config (inputs_of old ++ one.input ∷ []))));
  }

  pub front_as : (old : Round P g) (number : ℕ) (name : Option (List ℕ)) (given read : ReadInput) (before after : Option (List ℕ)) (kept : ℕ → Option PendingLine) → given ≡ read →
      HandsFront old (numbered number name given) before after kept → HandsFront old (numbered number name read) before after kept
  front_as old number name given read before after kept e h = subst (λ (x : ReadInput). HandsFront old (numbered number name x) before after kept) e h

  pub handed_front : (old : Round P g) (ls : List script.Line) (l : script.Line) (callback : Option (String Global)) (input : Input) (before after : Option (List ℕ)) (kept : ℕ → Option PendingLine) (number : ℕ) → 0 < (setup_in old).config.limits.batch →
      Served (setup_in old).config (seen_lines ls) (inputs_of old) (added_by old) kept number →
      HandsFront old (numbered (number + 1) (option_map string_bytes callback) (read_after ls input)) before after kept → l ≡ script.Line.Accepted callback input →
      PrintsFront (setup_in old).config ls (ls ++ l ∷ []) before after
  handed_front old ls l callback input before after kept number room d h is =
      let config : Config = (setup_in old).config in
      let name : Option (List ℕ) = option_map string_bytes callback in
      let read : ReadInput = read_after ls input in
      front_line config ls l (script.Line.Accepted callback input) h.more (outs_text (inputs_from 1 (seen_lines ls) ++ numbered (number + 1) name read ∷ []) h.more) before after room is
      (subst (λ (is : List ReadInput). outs config (is ++ read ∷ []) ≡ outs config is ++ h.more) d.inputs_are h.adds)
      (texts_handed config (seen_lines ls) name read (inputs_of old) (added_by old) h.more kept number d)
      (h.prints (inputs_from 1 (seen_lines ls)) (many_of config (seen_lines ls) (inputs_of old) (added_by old) kept number d) d.kept_are)

-- ---- All lines

record Adds (config : Config) (ls : List Line) (l : Line) : Type 0 where
  more : List Out
  adds : AddsOuts config (inputs_in ls) l more

adds_some : (config : Config) (ls : List Line) (l : Line) → 0 < config.limits.batch → Adds config ls l
adds_some config ls (Accepted callback input) room = record {
  more = whole_at (length (inputs_in ls)) (wholes config (inputs_in ls ++ input ∷ []));
  adds = outs_last config (inputs_in ls) input room;
}
adds_some config ls _ room = record { more = []; adds = tt }

record GoesOn (config : Config) (ls more : List Line) : Type 0 where
  text : List ℕ
  is : printed_so_far config (ls ++ more) ≡ printed_so_far config ls ++ text

goes_on : (config : Config) (ls more : List Line) → 0 < config.limits.batch → GoesOn config ls more
goes_on config ls [] room = record { text = []; is = ap (printed_so_far config) (append-nil ls) ∙ sym (append-nil (printed_so_far config ls)) }
goes_on config ls (l ∷ more) room =
    let a : Adds config ls l = adds_some config ls l room in
    let rest : GoesOn config (ls ++ l ∷ []) more = goes_on config (ls ++ l ∷ []) more room in
    let one : List ℕ = line_prints (length ls + 1) (inputs_from 1 (ls ++ l ∷ [])) l a.more in
    record {
      text = one ++ rest.text;
      is = ap (printed_so_far config) (sym (append_assoc ls (l ∷ []) more)) ∙ rest.is
          ∙ ap (λ (t : List ℕ). t ++ rest.text) (next_line_appends_its_output config ls l a.more room a.adds)
          ∙ append_assoc (printed_so_far config ls) one rest.text;
    }

whole_known : (d : Dialect) (config : Config) (xs ys : List ℕ) (ms : List script.Line) (a c : Option (List ℕ)) → 0 < config.limits.batch → Reads d (Some xs) (Some ys) ms → PrintsFront config [] ms a c → AppendsFront a c (replay_text d config xs)
whole_known d config xs ys ms a c room r p =
    let all : List Line = with_nonces 0 (lines_in d xs) in
    let others : List Line = with_nonces (nonce_at (read_lines ms)) (lines_in d ys) in
    let whole : all ≡ seen_lines ms ++ others = ap (with_nonces 0) r ∙ nonces_on 0 (read_lines ms) (lines_in d ys) in
    let on : GoesOn config (seen_lines ms) others = goes_on config (seen_lines ms) others room in
    let ends : List ℕ = held_texts (inputs_from 1 all) (held config (inputs_in all)) in
    let parts : replay_text d config xs ≡ p.text ++ (on.text ++ ends) =
    ap (λ (t : List ℕ). t ++ ends) (ap (printed_so_far config) whole ∙ on.is ∙ ap (λ (t : List ℕ). t ++ on.text) p.is) ∙ append_assoc p.text on.text ends in
    subst (AppendsFront a c) (sym parts) (front_first a c p.text (on.text ++ ends) p.front)

pub whole_front : (d : Dialect) (config other : Config) (bytes rest : Option (List ℕ)) (ms : List script.Line) (a c : Option (List ℕ)) → other ≡ config → 0 < other.limits.batch → Reads d bytes rest ms → PrintsFront other [] ms a c →
    IfSome bytes (λ bs. AppendsFront a c (replay_text d config bs))
whole_front d config other None rest ms a c e room r p = tt
whole_front d config other (Some xs) None ms a c e room r p = absurd r
whole_front d config other (Some xs) (Some ys) ms a c e room r p = subst (λ (config : Config). AppendsFront a c (replay_text d config xs)) e (whole_known d other xs ys ms a c room r p)

pub prints_all : (config : Config) (ls : List script.Line) (a b : Option (List ℕ)) → Prints config [] ls a b → PrintsFront config [] ls a b
prints_all config ls a b p = record { text = p.text; front = record { written = p.text; unwritten = []; whole = sym (append-nil p.text); appends = p.appends }; is = p.is }

pub prints_some : (config : Config) (ls ms : List script.Line) (a b c : Option (List ℕ)) → Prints config [] ls a b → PrintsFront config ls ms b c → PrintsFront config [] ms a c
prints_some config ls ms a b c p q = record {
  text = p.text ++ q.text;
  front = front_second a b c p.text q.text p.appends q.front;
  is = q.is ∙ ap (λ (t : List ℕ). t ++ q.text) p.is;
}

-- ---- Results

pub none_known : {A E : Type 0} (d : Dialect) (config : Config) (bytes a : Option (List ℕ)) (r : Result A E) → IsErr r → IfSome bytes (λ bs. Writes a a r (replay_text d config bs))
none_known d config None a r e = tt
none_known d config (Some bs) a r e = fault_writes a a r (replay_text d config bs) (replay_text d config bs) refl e (front_none a (replay_text d config bs))

pub fault_known : {A E : Type 0} (d : Dialect) (config other : Config) (bytes a b : Option (List ℕ)) (r : Result A E) → other ≡ config → IsErr r → IfSome bytes (λ bs. AppendsFront a b (replay_text d other bs)) →
    IfSome bytes (λ bs. Writes a b r (replay_text d config bs))
fault_known d config other None a b r same e f = tt
fault_known d config other (Some bs) a b r same e f = fault_writes a b r (replay_text d config bs) (replay_text d other bs) (ap (λ (c : Config). replay_text d c bs) (sym same)) e f

pub written_behind : {T R W : Type 0} (lines : Lines R) (output : Output W) (r : Result T ScriptFault) → IfErr r (IsWriteFault output) → IfErr r (IsReplayFault lines output)
written_behind lines output (Ok x) why = tt
written_behind lines output (Err Memory) why = tt
written_behind lines output (Err Read) why = absurd why
written_behind lines output (Err Write) why = why
