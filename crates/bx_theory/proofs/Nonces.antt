-- The nonces of the requests in a script.
use Rattle.std.proofs.Common.{◌≡◌, ℕ, Bool, true, false, cond, List, [], ◌∷◌, ◌++◌, map, drop, fold, Option, Some, None, Result, Ok, Err, refl, ap, ◌∙◌}
use Rattle.std.specs.{List.list_all, List.before_first, List.after_first}
use Rattle.std.proofs.lemmas.Bool.{and_parts}
use Rattle.bx_message.specs.declared.message.Message.{Message}
use Rattle.bx_message.specs.Fields.{number_of}
use Rattle.bx_entry.specs.declared.input.Refusal.{Refusal}
use Rattle.bx_entry.specs.Inputs.{Request, Unread, Tick}
use Rattle.bx_entry.specs.Words.{read_by, request_messages}
use Rattle.bx_script.specs.Replay.{Dialect, Line, Bad, Recorded, Rejected, Accepted, Resharded, Announced, Noted, Script, Taken, Refused, Documents, announces, body_taken, command, form_taken, handed_by, is_space, line_by, line_of, line_with, nonce_after, nonce_of, noted_by, query_taken, recorded_command, resharded_by, reshards, timed_line, with_nonce, with_nonces}
use Rattle.bx_theory.specs.Lines.{NoncesGoOn, NoncesStay, ScriptsSayNone, says_no_nonce}

-- ---- One line, and the lines after it

pub nonces_on : (nonce : ℕ) (ls ms : List Line) → with_nonces nonce (ls ++ ms) ≡ with_nonces nonce ls ++ with_nonces (fold nonce_after nonce ls) ms
nonces_on nonce [] ms = refl
nonces_on nonce (l ∷ ls) ms = ap (λ (us : List Line). line_with nonce l ∷ us) (nonces_on (nonce_after nonce l) ls ms)

pub line_gets_nonce_announced_before : NoncesGoOn
line_gets_nonce_announced_before ls l = nonces_on 0 ls (l ∷ [])

-- ---- Lines as they are read

HasNone : Line → Type 0
HasNone l = line_with 0 l ≡ l

none_read : (moment : ℕ) (r : Result (List Message) Refusal) → with_nonce 0 (read_by moment 0 r) ≡ read_by moment 0 r
none_read moment (Ok messages) = refl
none_read moment (Err fault) = refl

none_handed : (moment : ℕ) (t : Taken) → HasNone (handed_by moment t)
unfolding HasNone
none_handed moment (Refused status) = refl
none_handed moment (Documents callback documents) = ap (Accepted callback) (none_read moment (request_messages documents))

none_by : (b : Bool) (l k : Line) → HasNone l → HasNone k → HasNone (cond b l k)
none_by true l k h i = h
none_by false l k h i = i

none_resharded : (o : Option ℕ) → HasNone (reshards o)
unfolding HasNone
none_resharded None = refl
none_resharded (Some shards) = none_by _ (Resharded shards) Bad refl refl

none_announced : (o : Option ℕ) → HasNone (announces o)
unfolding HasNone
none_announced None = refl
none_announced (Some nonce) = refl

none_bad : HasNone Bad
unfolding HasNone
none_bad = refl

none_tick : (moment : ℕ) → HasNone (Accepted None (Tick moment))
unfolding HasNone
none_tick moment = refl

none_shards : (digits : List ℕ) → HasNone (resharded_by digits)
none_shards digits = none_by _ Bad (reshards (number_of digits)) none_bad (none_resharded (number_of digits))

none_recorded : (d : Dialect) (moment : ℕ) (rest : List ℕ) → HasNone (recorded_command d moment rest)
none_recorded Script moment rest = none_bad
none_recorded Recorded moment rest =
    none_by _ _ _ (none_handed moment (form_taken (drop 2 rest))) (none_by _ _ _ (none_announced (nonce_of (drop 2 rest))) none_bad)

none_command : (d : Dialect) (moment : ℕ) (rest : List ℕ) → HasNone (command d moment rest)
none_command d moment rest =
    let behind : List ℕ = drop 2 rest in
    none_by _ _ _ (none_tick moment)
    (none_by _ _ _ (none_handed moment (body_taken behind))
    (none_by _ _ _ (none_handed moment (query_taken behind))
    (none_by _ _ _ (none_shards behind) (none_recorded d moment rest))))

none_timed : (d : Dialect) (o : Option ℕ) (rest : List ℕ) → HasNone (line_by d o rest)
none_timed d None rest = none_bad
none_timed d (Some moment) rest = none_command d moment rest

none_note : HasNone Noted
unfolding HasNone
none_note = refl

none_noted : (note : List ℕ) → HasNone (noted_by note)
none_noted note = none_by _ Bad _ none_bad (none_by _ Noted Bad none_note none_bad)

none_line : (d : Dialect) (text : List ℕ) → HasNone (line_of d text)
none_line Script text = none_timed Script (number_of (before_first is_space text)) (after_first is_space text)
none_line Recorded text =
    none_by _ _ _ (none_noted (drop 2 text)) (none_timed Recorded (number_of (before_first is_space text)) (after_first is_space text))

stays : (l : Line) → says_no_nonce l ≡ true → nonce_after 0 l ≡ 0
stays Bad h = refl
stays (Rejected status) h = refl
stays (Accepted callback (Request moment nonce messages)) h = refl
stays (Accepted callback (Unread fault)) h = refl
stays (Accepted callback (Tick moment)) h = refl
stays (Resharded shards) h = refl
stays (Announced nonce) h = cc
stays Noted h = refl

pub nonces_unchanged_unless_announced : NoncesStay
unfolding HasNone
nonces_unchanged_unless_announced d [] h = refl
nonces_unchanged_unless_announced d (text ∷ texts) h =
    let line : Line = line_of d text in
    let parts = and_parts (says_no_nonce line) (list_all says_no_nonce (map (line_of d) texts)) h in
    ap (λ (l : Line). l ∷ with_nonces (nonce_after 0 line) (map (line_of d) texts)) (none_line d text)
    ∙ ap (λ (n : ℕ). line ∷ with_nonces n (map (line_of d) texts)) (stays line parts.0)
    ∙ ap (λ (us : List Line). line ∷ us) (nonces_unchanged_unless_announced d texts parts.1)

-- ---- Scripts

SaysNone : Line → Type 0
SaysNone l = says_no_nonce l ≡ true

says_by : (b : Bool) (l k : Line) → SaysNone l → SaysNone k → SaysNone (cond b l k)
says_by true l k h i = h
says_by false l k h i = i

says_bad : SaysNone Bad
unfolding SaysNone
says_bad = refl

says_tick : (moment : ℕ) → SaysNone (Accepted None (Tick moment))
unfolding SaysNone
says_tick moment = refl

says_handed : (moment : ℕ) (t : Taken) → SaysNone (handed_by moment t)
unfolding SaysNone
says_handed moment (Refused status) = refl
says_handed moment (Documents callback documents) = refl

says_resharded : (o : Option ℕ) → SaysNone (reshards o)
unfolding SaysNone
says_resharded None = refl
says_resharded (Some shards) = says_by _ (Resharded shards) Bad refl refl

says_shards : (digits : List ℕ) → SaysNone (resharded_by digits)
says_shards digits = says_by _ Bad (reshards (number_of digits)) says_bad (says_resharded (number_of digits))

says_command : (moment : ℕ) (rest : List ℕ) → SaysNone (command Script moment rest)
says_command moment rest =
    let behind : List ℕ = drop 2 rest in
    says_by _ _ _ (says_tick moment)
    (says_by _ _ _ (says_handed moment (body_taken behind))
    (says_by _ _ _ (says_handed moment (query_taken behind))
    (says_by _ _ _ (says_shards behind) says_bad)))

says_timed : (o : Option ℕ) (rest : List ℕ) → SaysNone (line_by Script o rest)
says_timed None rest = says_bad
says_timed (Some moment) rest = says_command moment rest

pub scripts_say_none : ScriptsSayNone
unfolding SaysNone
scripts_say_none text = says_timed (number_of (before_first is_space text)) (after_first is_space text)
