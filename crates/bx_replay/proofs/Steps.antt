-- Proves what a replay's server prints and keeps after one more line.
use Rattle.std.proofs.Common.{◌≡◌, ℕ, ◌+◌, ◌<◌, ◌≤◌, Option, Some, None, List, [], ◌∷◌, ◌++◌, length, map, Result, Ok, Err, refl, sym, ap, ◌∙◌, subst, arith, append-nil, append_assoc, length-append}
use Rattle.std.proofs.lemmas.List.{map-append, length-map}
use Rattle.std.specs.Prelude.{IfSome, option_map, string_bytes}
use Rattle.std.specs.Io.KnownBytes.{Appends}
use Rattle.std.proofs.Common.{Global, String}
use Rattle.bx_replay.specs.Kept.{AllKept, AreKept, Keeps}
use Rattle.bx_replay.specs.Serving.{Served, Hands, IsAll, Prints, Reads, held_lines, read_lines, seen_after, seen_lines}
use Rattle.bx_replay.specs.declared.kept.PendingLine.{PendingLine}
use Rattle.bx_replay.proofs.{Keeping.appends_more, Keeping.appends_none, Ready.none_last}
use Rattle.bx_advice.specs.declared.config.Config.{Config}
use Rattle.bx_entry.specs.Words.{ReadInput, read_input, Out, held, outs}
use Rattle.bx_script.specs.Words.{Dialect, Line, Bad, Rejected, Accepted, Resharded, Announced, Noted, Numbered, inputs_from, line_of, lines_in, printed, replay_text, IsNext, NextLine, meaning_of, Writes, nonce_at, numbered, rest_of, with_nonce, with_nonces}
use Rattle.bx_entry.specs.declared.{Placing.Ghosts, input.Input.Input}
use Rattle.bx_fanout.specs.Rounds.{IsRun, added_by, inputs_of, setup_in}
use Rattle.bx_fanout.specs.Stages.{seen_out}
use Rattle.bx_fanout.specs.declared.out.Out as fanout
use Rattle.bx_fanout.specs.declared.{out.RoundFault.RoundFault, round.Round.Round}
use Rattle.bx_theory.specs.Lines.{AddsOuts, inputs_in, line_prints, outs_text, printed_so_far}
use Rattle.bx_theory.proofs.{Lines.next_line_appends_its_input, Lines.next_line_appends_its_output, Nonces.line_gets_nonce_announced_before}
use Rattle.bx_script.proofs.Fronts.{writes_second}
use Rattle.bx_script.specs.declared.line.Line as script

-- ---- Lines that are not inputs

inputs_on : (ls : List Line) (l : Line) (ones : List Numbered) → inputs_from (length ls + 1) (l ∷ []) ≡ ones → inputs_in (ls ++ l ∷ []) ≡ inputs_in ls ++ map (λ (n : Numbered). n.input) ones
inputs_on ls l ones e =
    ap (map (λ (n : Numbered). n.input)) (next_line_appends_its_input ls l ∙ ap (λ (ns : List Numbered). inputs_from 1 ls ++ ns) e)
    ∙ map-append (λ (n : Numbered). n.input) (inputs_from 1 ls) ones

pub served_bare : (config : Config) (ls : List Line) (l : Line) (inputs : List ReadInput) (added : List Out) (kept : ℕ → Option PendingLine) (number : ℕ) → inputs_from (length ls + 1) (l ∷ []) ≡ [] →
    Served config ls inputs added kept number → Served config (ls ++ l ∷ []) inputs added kept (number + 1)
served_bare config ls l inputs added kept number e d =
    let same : inputs_in ls ≡ inputs_in (ls ++ l ∷ []) = sym (inputs_on ls l [] e ∙ append-nil (inputs_in ls)) in
    record {
      inputs_are = d.inputs_are ∙ same;
      added_are = d.added_are ∙ ap (outs config) same;
      all_are = subst (λ (is : List ReadInput). AllKept kept (held config is)) same d.all_are;
      kept_are = subst (λ (ns : List Numbered). AreKept ns kept) (sym (next_line_appends_its_input ls l ∙ ap (λ (ns : List Numbered). inputs_from 1 ls ++ ns) e ∙ append-nil (inputs_from 1 ls))) d.kept_are;
      number_is = omega (arith, d.number_is, length-append ls (l ∷ []));
    }

read_more : (ls : List script.Line) (l : script.Line) → read_lines (ls ++ l ∷ []) ≡ read_lines ls ++ meaning_of l ∷ []
read_more ls l = map-append meaning_of ls (l ∷ [])

pub seen_more : (ls : List script.Line) (l : script.Line) → seen_lines (ls ++ l ∷ []) ≡ seen_lines ls ++ seen_after ls l ∷ []
seen_more ls l = ap (with_nonces 0) (read_more ls l) ∙ line_gets_nonce_announced_before (read_lines ls) (meaning_of l)

pub served_seen : (config : Config) (ls : List script.Line) (l : script.Line) (inputs : List ReadInput) (added : List Out) (kept : ℕ → Option PendingLine) (number : ℕ) →
    Served config (seen_lines ls ++ seen_after ls l ∷ []) inputs added kept number → Served config (seen_lines (ls ++ l ∷ [])) inputs added kept number
served_seen config ls l inputs added kept number d = subst (λ (us : List Line). Served config us inputs added kept number) (sym (seen_more ls l)) d

pub prints_line : (config : Config) (ls : List script.Line) (l : script.Line) (more : List Out) (text : List ℕ) (before after : Option (List ℕ)) → 0 < config.limits.batch → AddsOuts config (inputs_in (seen_lines ls)) (seen_after ls l) more →
    text ≡ line_prints (length (seen_lines ls) + 1) (inputs_from 1 (seen_lines ls ++ seen_after ls l ∷ [])) (seen_after ls l) more → Appends before after text → Prints config ls (ls ++ l ∷ []) before after
prints_line config ls l more text before after room adds e appends = record {
  text = text;
  appends = appends;
  is = ap (printed_so_far config) (seen_more ls l) ∙ next_line_appends_its_output config (seen_lines ls) (seen_after ls l) more room adds ∙ ap (λ (t : List ℕ). printed_so_far config (seen_lines ls) ++ t) (sym e);
}

-- ---- Inputs

pub served_handed : (config : Config) (ls : List Line) (callback : Option (List ℕ)) (input : ReadInput) (inputs now : List ReadInput) (added then : List Out) (kept keeps : ℕ → Option PendingLine) (number : ℕ) →
    Served config ls inputs added kept number → now ≡ inputs ++ input ∷ [] → then ≡ outs config now → AreKept (inputs_from 1 ls ++ record { line = number + 1; callback = callback; input = input } ∷ []) keeps → AllKept keeps (held config now) →
    Served config (ls ++ Accepted callback input ∷ []) now then keeps (number + 1)
served_handed config ls callback input inputs now added then kept keeps number d are all keep each =
    let one : Numbered = record { line = length ls + 1; callback = callback; input = input } in
    let same : now ≡ inputs_in (ls ++ Accepted callback input ∷ []) = are ∙ ap (λ (is : List ReadInput). is ++ input ∷ []) d.inputs_are ∙ sym (inputs_on ls (Accepted callback input) (one ∷ []) refl) in
    record {
      inputs_are = same;
      added_are = all ∙ ap (outs config) same;
      all_are = subst (λ (is : List ReadInput). AllKept keeps (held config is)) same each;
      kept_are = subst (λ (ns : List Numbered). AreKept ns keeps)
          (ap (λ (n : ℕ). inputs_from 1 ls ++ record { line = n + 1; callback = callback; input = input } ∷ []) d.number_is ∙ sym (next_line_appends_its_input ls (Accepted callback input))) keep;
      number_is = omega (arith, d.number_is, length-append ls (Accepted callback input ∷ []));
    }

pub adds_handed : (config : Config) (ls : List Line) (input : ReadInput) (inputs now : List ReadInput) (added then more : List Out) (kept : ℕ → Option PendingLine) (number : ℕ) →
    Served config ls inputs added kept number → now ≡ inputs ++ input ∷ [] → then ≡ outs config now → then ≡ added ++ more → outs config (inputs_in ls ++ input ∷ []) ≡ outs config (inputs_in ls) ++ more
adds_handed config ls input inputs now added then more kept number d are all adds =
    ap (λ (is : List ReadInput). outs config (is ++ input ∷ [])) (sym d.inputs_are)
    ∙ ap (outs config) (sym are) ∙ sym all ∙ adds ∙ ap (λ (os : List Out). os ++ more) d.added_are

pub texts_handed : (config : Config) (ls : List Line) (callback : Option (List ℕ)) (input : ReadInput) (inputs : List ReadInput) (added more : List Out) (kept : ℕ → Option PendingLine) (number : ℕ) → Served config ls inputs added kept number →
    outs_text (inputs_from 1 ls ++ record { line = number + 1; callback = callback; input = input } ∷ []) more ≡ outs_text (inputs_from 1 (ls ++ Accepted callback input ∷ [])) more
texts_handed config ls callback input inputs added more kept number d =
    ap (λ (ns : List Numbered). outs_text ns more)
    (ap (λ (n : ℕ). inputs_from 1 ls ++ record { line = n + 1; callback = callback; input = input } ∷ []) d.number_is ∙ sym (next_line_appends_its_input ls (Accepted callback input)))

few_from : (number : ℕ) (ls : List Line) → length (inputs_from number ls) ≤ length ls
few_from number [] = omega arith
few_from number (Bad ∷ ls) = omega (arith, few_from (number + 1) ls)
few_from number (Rejected status ∷ ls) = omega (arith, few_from (number + 1) ls)
few_from number (Accepted callback input ∷ ls) = omega (arith, few_from (number + 1) ls)
few_from number (Resharded shards ∷ ls) = omega (arith, few_from (number + 1) ls)
few_from number (Announced nonce ∷ ls) = omega (arith, few_from (number + 1) ls)
few_from number (Noted ∷ ls) = omega (arith, few_from (number + 1) ls)

pub many_of : (config : Config) (ls : List Line) (inputs : List ReadInput) (added : List Out) (kept : ℕ → Option PendingLine) (number : ℕ) → Served config ls inputs added kept number → length (inputs_from 1 ls) ≡ length inputs
many_of config ls inputs added kept number d = sym (ap length d.inputs_are ∙ length-map (inputs_from 1 ls) (λ (n : Numbered). n.input))

pub few_served : (config : Config) (ls : List Line) (inputs : List ReadInput) (added : List Out) (kept : ℕ → Option PendingLine) (number : ℕ) → Served config ls inputs added kept number → length inputs ≤ number
few_served config ls inputs added kept number d = omega (arith, few_from 1 ls, many_of config ls inputs added kept number d, d.number_is)

-- ---- One line of a server

pub served_line : (config : Config) (ls ms : List script.Line) (l k : script.Line) (inputs : List ReadInput) (added : List Out) (kept : ℕ → Option PendingLine) (number : ℕ) →
    ms ≡ ls ++ l ∷ [] → l ≡ k → ((n : ℕ) → inputs_from n (seen_after ls k ∷ []) ≡ []) → Served config (seen_lines ls) inputs added kept number → Served config (seen_lines ms) inputs added kept (number + 1)
served_line config ls ms l k inputs added kept number e is none d =
    let same : ms ≡ ls ++ k ∷ [] = e ∙ ap (λ (x : script.Line). ls ++ x ∷ []) is in
    subst (λ (us : List script.Line). Served config (seen_lines us) inputs added kept (number + 1)) (sym same)
    (served_seen config ls k inputs added kept (number + 1) (served_bare config (seen_lines ls) (seen_after ls k) inputs added kept number (none (length (seen_lines ls) + 1)) d))

pub prints_bare : (config : Config) (ls ms : List script.Line) (l k : script.Line) (more : List Out) (text : List ℕ) (before after : Option (List ℕ)) → 0 < config.limits.batch → ms ≡ ls ++ l ∷ [] → l ≡ k →
    AddsOuts config (inputs_in (seen_lines ls)) (seen_after ls k) more → text ≡ line_prints (length (seen_lines ls) + 1) (inputs_from 1 (seen_lines ls ++ seen_after ls k ∷ [])) (seen_after ls k) more → Appends before after text → Prints config ls ms before after
prints_bare config ls ms l k more text before after room e is adds t appends =
    let same : ms ≡ ls ++ k ∷ [] = e ∙ ap (λ (x : script.Line). ls ++ x ∷ []) is in
    subst (λ (us : List script.Line). Prints config ls us before after) (sym same) (prints_line config ls k more text before after room adds t appends)

pub served_same : (config other : Config) (ls : List Line) (inputs those : List ReadInput) (added these : List Out) (kept : ℕ → Option PendingLine) (number : ℕ) → other ≡ config → those ≡ inputs → these ≡ added →
    Served config ls inputs added kept number → Served other ls those these kept number
served_same config other ls inputs those added these kept number e f h d = record {
  inputs_are = f ∙ d.inputs_are;
  added_are = h ∙ d.added_are ∙ ap (λ (c : Config). outs c (inputs_in ls)) (sym e);
  kept_are = d.kept_are;
  all_are = subst (λ (c : Config). AllKept kept (held c (inputs_in ls))) (sym e) d.all_are;
  number_is = d.number_is;
}

abbrev pub read_after : List script.Line → Input → ReadInput
read_after ls input = with_nonce (nonce_at (read_lines ls)) (read_input input)

module _ {P : Type 0} {g : Ghosts P} where
  pub record Ran (old : Round P g) (inputs : List Input) (before after : List fanout.Out) (new : Round P g) : Type 0 where
    pub more : List fanout.Out
    pub behind : after ≡ before ++ more
    pub added : added_by new ≡ added_by old ++ map seen_out more
    pub setup : (setup_in new).config ≡ (setup_in old).config
    pub shards : (setup_in new).shards ≡ (setup_in old).shards
    pub inputs_are : inputs_of new ≡ inputs_of old ++ map read_input inputs
    pub all : added_by new ≡ outs (setup_in new).config (inputs_of new)

  pub ran : (old : Round P g) (inputs : List Input) (before after : List fanout.Out) (new : Round P g) (r : Result (Unit {0}) RoundFault) (u : Unit {0}) → r ≡ Ok u → IsRun old inputs before after new r → Ran old inputs before after new
  ran old inputs before after new (Ok tt) u e run = record {
    more = run.0.more;
    behind = run.0.behind;
    added = run.0.added;
    setup = ap (λ s. s.config) run.0.setup;
    shards = ap (λ s. s.shards) run.0.setup;
    inputs_are = run.1;
    all = run.2;
  }
  ran old inputs before after new (Err fault) u e run = cc

  pub hands_as : (old new : Round P g) (number : ℕ) (name : Option (List ℕ)) (given read : ReadInput) (before after : Option (List ℕ)) (kept keeps : ℕ → Option PendingLine) → given ≡ read →
      Hands old (numbered number name given) new before after kept keeps → Hands old (numbered number name read) new before after kept keeps
  hands_as old new number name given read before after kept keeps e h = subst (λ (x : ReadInput). Hands old (numbered number name x) new before after kept keeps) e h

  pub handed_served : (old new : Round P g) (ls ms : List script.Line) (l : script.Line) (callback : Option (String Global)) (input : Input) (before after : Option (List ℕ)) (kept keeps : ℕ → Option PendingLine) (number : ℕ) →
      Served (setup_in old).config (seen_lines ls) (inputs_of old) (added_by old) kept number →
      Hands old (numbered (number + 1) (option_map string_bytes callback) (read_after ls input)) new before after kept keeps → ms ≡ ls ++ l ∷ [] → l ≡ script.Line.Accepted callback input →
      Served (setup_in new).config (seen_lines ms) (inputs_of new) (added_by new) keeps (number + 1)
  handed_served old new ls ms l callback input before after kept keeps number d h e is =
      let config : Config = (setup_in new).config in
      let k : script.Line = script.Line.Accepted callback input in
      let same : ms ≡ ls ++ k ∷ [] = e ∙ ap (λ (x : script.Line). ls ++ x ∷ []) is in
      let was : Served config (seen_lines ls) (inputs_of old) (added_by old) kept number = served_same (setup_in old).config config (seen_lines ls) (inputs_of old) (inputs_of old) (added_by old) (added_by old) kept number h.setup refl refl d in
      subst (λ (us : List script.Line). Served config (seen_lines us) (inputs_of new) (added_by new) keeps (number + 1)) (sym same)
      (served_seen config ls k (inputs_of new) (added_by new) keeps (number + 1)
      (served_handed config (seen_lines ls) (option_map string_bytes callback) (read_after ls input) (inputs_of old) (inputs_of new) (added_by old) (added_by new) kept keeps number was h.inputs h.all
      (h.prints (inputs_from 1 (seen_lines ls)) (many_of config (seen_lines ls) (inputs_of old) (added_by old) kept number was) d.kept_are).kept h.held_are))

  pub handed_prints : (old new : Round P g) (ls ms : List script.Line) (l : script.Line) (callback : Option (String Global)) (input : Input) (before after : Option (List ℕ)) (kept keeps : ℕ → Option PendingLine) (number : ℕ) → 0 < (setup_in new).config.limits.batch →
      Served (setup_in old).config (seen_lines ls) (inputs_of old) (added_by old) kept number →
      Hands old (numbered (number + 1) (option_map string_bytes callback) (read_after ls input)) new before after kept keeps → ms ≡ ls ++ l ∷ [] → l ≡ script.Line.Accepted callback input →
      Prints (setup_in new).config ls ms before after
  handed_prints old new ls ms l callback input before after kept keeps number room d h e is =
      let config : Config = (setup_in new).config in
      let name : Option (List ℕ) = option_map string_bytes callback in
      let read : ReadInput = read_after ls input in
      let was : Served config (seen_lines ls) (inputs_of old) (added_by old) kept number = served_same (setup_in old).config config (seen_lines ls) (inputs_of old) (inputs_of old) (added_by old) (added_by old) kept number h.setup refl refl d in
      prints_bare config ls ms l (script.Line.Accepted callback input) h.more (outs_text (inputs_from 1 (seen_lines ls) ++ numbered (number + 1) name read ∷ []) h.more) before after room e is
      (adds_handed config (seen_lines ls) read (inputs_of old) (inputs_of new) (added_by old) (added_by new) h.more kept number was h.inputs h.all h.added)
      (texts_handed config (seen_lines ls) name read (inputs_of old) (added_by old) h.more kept number was)
      (h.prints (inputs_from 1 (seen_lines ls)) (many_of config (seen_lines ls) (inputs_of old) (added_by old) kept number was) d.kept_are).appends

-- ---- All lines

pub prints_none : (config : Config) (ls : List script.Line) (a : Option (List ℕ)) → ls ≡ [] → Prints config [] ls a a
prints_none config ls a e = record { text = []; appends = appends_none a; is = ap (λ (us : List script.Line). printed_so_far config (seen_lines us)) e ∙ sym (append-nil (printed_so_far config [])) }

pub prints_more : (config other : Config) (ls ms : List script.Line) (a b c : Option (List ℕ)) → other ≡ config → Prints config [] ls a b → Prints other ls ms b c → Prints other [] ms a c
prints_more config other ls ms a b c e p q = record {
  text = p.text ++ q.text;
  appends = appends_more a b c p.text q.text p.appends q.appends;
  is = q.is
      ∙ ap (λ (t : List ℕ). t ++ q.text) (ap (λ (c : Config). printed_so_far c (seen_lines ls)) e ∙ p.is ∙ ap (λ (c : Config). printed_so_far c [] ++ p.text) (sym e))
      ∙ append_assoc (printed_so_far other []) p.text q.text;
}

pub reads_none : (d : Dialect) (a : Option (List ℕ)) (ls : List script.Line) → ls ≡ [] → Reads d a a ls
reads_none d None ls e = tt
reads_none d (Some xs) ls e = ap (λ (us : List script.Line). read_lines us ++ lines_in d xs) (sym e)

reads_line : (d : Dialect) (xs ys zs : List ℕ) (ls ms : List script.Line) (line : script.Line) → ms ≡ ls ++ line ∷ [] → lines_in d xs ≡ read_lines ls ++ lines_in d ys → NextLine d line ys (Some zs) →
    lines_in d xs ≡ read_lines ms ++ lines_in d zs
reads_line d xs ys zs ls ms line e r n =
    let left : zs ≡ rest_of ys = let some : Some zs ≡ Some (rest_of ys) = n.left in cc in
    let others : List Line = lines_in d (rest_of ys) in
    r
    ∙ ap (λ (us : List (List ℕ)). read_lines ls ++ map (line_of d) us) n.lines
    ∙ ap (λ (k : Line). read_lines ls ++ k ∷ others) (sym n.meaning)
    ∙ sym (append_assoc (read_lines ls) (meaning_of line ∷ []) others)
    ∙ ap (λ (us : List Line). us ++ others) (sym (ap read_lines e ∙ read_more ls line))
    ∙ ap (λ (bs : List ℕ). read_lines ms ++ lines_in d bs) (sym left)

reads_by : (d : Dialect) (xs ys : List ℕ) (c : Option (List ℕ)) (ls ms : List script.Line) (line : script.Line) → ms ≡ ls ++ line ∷ [] → Reads d (Some xs) (Some ys) ls → NextLine d line ys c →
    Reads d (Some xs) c ms
reads_by d xs ys None ls ms line e r n = let some : None ≡ Some (rest_of ys) = n.left in cc
reads_by d xs ys (Some zs) ls ms line e r n = reads_line d xs ys zs ls ms line e r n

pub reads_more : (d now : Dialect) (a b c : Option (List ℕ)) (ls ms : List script.Line) (next : Option script.Line) (line : script.Line) → now ≡ d → next ≡ Some line → ms ≡ ls ++ line ∷ [] →
    Reads d a b ls → IfSome b (λ bytes. IsNext now next bytes c) → Reads d a c ms
reads_more d now None b c ls ms next line same is e r n = tt
reads_more d now (Some xs) None c ls ms next line same is e r n = absurd r
reads_more d now (Some xs) (Some ys) c ls ms next line same is e r n =
    reads_by d xs ys c ls ms line e r (subst (λ (o : Option script.Line). IsNext d o ys c) is (subst (λ now. IsNext now next ys c) same n))

reads_last : (d : Dialect) (xs ys : List ℕ) (c : Option (List ℕ)) (ls : List script.Line) → Reads d (Some xs) (Some ys) ls → IsNext d None ys c → IsAll d (Some xs) ls
reads_last d xs ys c ls r n = sym (r ∙ ap (λ (bs : List ℕ). read_lines ls ++ lines_in d bs) n.0 ∙ append-nil (read_lines ls))

pub reads_end : (d now : Dialect) (a b c : Option (List ℕ)) (ls : List script.Line) (next : Option script.Line) → now ≡ d → next ≡ None → Reads d a b ls → IfSome b (λ bytes. IsNext now next bytes c) →
    IsAll d a ls
reads_end d now None b c ls next same is r n = tt
reads_end d now (Some xs) None c ls next same is r n = absurd r
reads_end d now (Some xs) (Some ys) c ls next same is r n =
    reads_last d xs ys c ls r (subst (λ (o : Option script.Line). IsNext d o ys c) is (subst (λ now. IsNext now next ys c) same n))

pub number_more : (n m : ℕ) (ls ms : List script.Line) (l : script.Line) → ms ≡ ls ++ l ∷ [] → n ≡ length (seen_lines ls) → m ≡ length (seen_lines ms) → m ≡ n + 1
number_more n m ls ms l e f h = omega (arith, f, h, ap (λ (us : List script.Line). length (seen_lines us)) e, ap length (seen_more ls l), length-append (seen_lines ls) (seen_after ls l ∷ []))

printed_all : {A E : Type 0} (d : Dialect) (config : Config) (bytes : List ℕ) (ls : List script.Line) (a b w : Option (List ℕ)) (r : Result A E) → read_lines ls ≡ lines_in d bytes → Prints config [] ls a b →
    Writes b w r (held_lines config ls) → Writes a w r (replay_text d config bytes)
printed_all d config bytes ls a b w r e p h =
    let text : p.text ≡ printed_so_far config (seen_lines ls) = sym p.is in
    subst (Writes a w r)
    (ap (λ (t : List ℕ). t ++ held_lines config ls) text ∙ ap (λ (us : List Line). printed config (inputs_from 1 (with_nonces 0 us)) (with_nonces 0 us)) e)
    (writes_second a b w r p.text (held_lines config ls) p.appends h)

pub replayed : {A E : Type 0} (d : Dialect) (config other : Config) (bytes : Option (List ℕ)) (ls : List script.Line) (a b w : Option (List ℕ)) (r : Result A E) → other ≡ config → IsAll d bytes ls → Prints other [] ls a b → Writes b w r (held_lines other ls) →
    IfSome bytes (λ bs. Writes a w r (replay_text d config bs))
replayed d config other None ls a b w r e all p h = tt
replayed d config other (Some bs) ls a b w r e all p h = subst (λ (c : Config). Writes a w r (replay_text d c bs)) e (printed_all d other bs ls a b w r all p h)

-- ---- What a server keeps

pub keeps_served : (config : Config) (ls : List Line) (inputs : List ReadInput) (added : List Out) (kept : ℕ → Option PendingLine) (number : ℕ) → Served config ls inputs added kept number → Keeps kept (held config inputs) (length inputs)
keeps_served config ls inputs added kept number d = record {
  all = subst (λ (is : List ReadInput). AllKept kept (held config is)) (sym d.inputs_are) d.all_are;
  none = ap kept (sym (many_of config ls inputs added kept number d)) ∙ none_last (kept (length (inputs_from 1 ls))) (inputs_from 1 ls) kept refl d.kept_are;
}

pub added_served : (config : Config) (ls : List Line) (inputs : List ReadInput) (added : List Out) (kept : ℕ → Option PendingLine) (number : ℕ) → Served config ls inputs added kept number → added ≡ outs config inputs
added_served config ls inputs added kept number d = d.added_are ∙ ap (outs config) (sym d.inputs_are)

pub held_served : (config : Config) (ls : List Line) (inputs : List ReadInput) (added : List Out) (kept : ℕ → Option PendingLine) (number : ℕ) (is : List ℕ) → Served config ls inputs added kept number → is ≡ held config inputs → AllKept kept is
held_served config ls inputs added kept number is d e = subst (AllKept kept) (sym (e ∙ ap (held config) d.inputs_are)) d.all_are
