-- Proves that the line of a configuration is written one word at a time, and is read back.
use Rattle.std.proofs.Common.{◌≡◌, ℕ, ◌+◌, ◌^◌, ◌<◌, ◌≤◌, ◌&&◌, ◌||◌, Bool, true, false, eqb, leb, ltb, cond, List, [], ◌∷◌, ◌++◌, length, take, drop, map, codes, decimal, Option, Some, None, refl, sym, ap, ◌∙◌, arith, append_assoc, length-append, get_or, subst, lit≤, eq-eqb, eqb-true, le-leb, leb-true, leb-false, lt-ltb, ltb-true}
use Rattle.std.specs.{Prelude.option_and_then, Str.bytes_eq}
use Rattle.std.specs.List.{join_with_byte, list_all, list_any, slice_split, starts_with, AllByRecursion}
use Rattle.std.proofs.Math.Bridge.{le_prop}
use Rattle.std.proofs.lemmas.List.{map-append, take_all, take_more}
use Rattle.std.proofs.lemmas.Bool.{cond_both, or_parts, false≢true}
use Rattle.bx_advice.specs.declared.{config.Config.Config, limit.Limit.Limit, limit.Limits.Limits, options.Options.Options, limit.Limit.TheVariants.Bytes, limit.TheConstants.Limit.ALL}
use Rattle.bx_advice.specs.Configs.{new_config, with_maximum, with_options}
use Rattle.bx_advice.specs.Limits.{accepts, greatest, limit_name, limit_of, standard, standard_limits, with_limit}
use Rattle.bx_advice.specs.Options.{options_in}
use Rattle.bx_advice.proofs.Configs.{new_some}
use Rattle.bx_message.specs.Fields.{number_of}
use Rattle.bx_message.specs.Numbers.{count_in, limit_in, time_in}
use Rattle.bx_script.specs.Words.{first_of, is_space, rest_of}
use Rattle.bx_script.proofs.Cuts.{Lacks, after_it, before_it, split_all, split_behind}
use Rattle.bx_record.specs.Configs.{after_front, config_in, config_text, config_words, first_words, limit_setting, limit_word, limits_in, options_word, setting, value_in}
use Rattle.bx_record.specs.Laws.{CanSay, ConfigsReadBack}
use Rattle.bx_record.proofs.Digits.{lacks-append, moment_lacks, moment_reads}
use Rattle.bx_record.proofs.Forms.{joined-push}

-- ---- Writing

-- The text is these words, separated by spaces.
pub record IsLine (words : List (List ℕ)) (text : List ℕ) : Type 0 where
  pub some : 0 < length words
  pub same : text ≡ join_with_byte 32 words

pub first_word : {word text : List ℕ} → text ≡ word → IsLine (word ∷ []) text
first_word e = record { some = omega arith; same = e }

pub next_word : {words : List (List ℕ)} {before text : List ℕ} (word : List ℕ) → IsLine words before → text ≡ before ++ 32 ∷ word → IsLine (words ++ word ∷ []) text
next_word {words} {before} {text} word line e = record {
  some = omega (arith, length-append words (word ∷ []));
  same = e ∙ ap (λ t. t ++ 32 ∷ word) line.same ∙ sym (joined-push 32 words word line.some);
}

-- The words up to one of the limits, and the word of that limit.
pub limit_added : (c : Config) (i : ℕ) {before text : List ℕ} → i < length ALL → IsLine (first_words c ++ map (limit_setting c.limits) (take i ALL)) before
    → text ≡ before ++ 32 ∷ limit_setting c.limits (get_or ALL i Bytes) → IsLine (first_words c ++ map (limit_setting c.limits) (take (i + 1) ALL)) text
limit_added c i {before} {text} inside line e =
    let words : map (limit_setting c.limits) (take (i + 1) ALL) ≡ map (limit_setting c.limits) (take i ALL) ++ limit_setting c.limits (get_or ALL i Bytes) ∷ [] =
    ap (map (limit_setting c.limits)) (take_more ALL i Bytes inside) ∙ map-append (limit_setting c.limits) (take i ALL) (get_or ALL i Bytes ∷ []) in
    let all = ap (λ ws. first_words c ++ ws) words ∙ sym (append_assoc (first_words c) (map (limit_setting c.limits) (take i ALL)) (limit_setting c.limits (get_or ALL i Bytes) ∷ [])) in
    subst (λ ws. IsLine ws text) (sym all) (next_word (limit_setting c.limits (get_or ALL i Bytes)) line e)

pub limits_added : (c : Config) (i : ℕ) {text : List ℕ} → length ALL ≤ i → IsLine (first_words c ++ map (limit_setting c.limits) (take i ALL)) text → text ++ 10 ∷ [] ≡ config_text c
limits_added c i {text} all line = ap (λ t. t ++ 10 ∷ []) (line.same ∙ ap (λ ls. join_with_byte 32 (first_words c ++ map (limit_setting c.limits) ls)) (take_all i ALL all))

-- ---- Splitting the line

split_joined : (word : List ℕ) (words : List (List ℕ)) → AllByRecursion (Lacks 32) (word ∷ words) → slice_split is_space (join_with_byte 32 (word ∷ words)) ≡ word ∷ words
split_joined word [] h = split_all 32 word h.0
split_joined word (next ∷ words) h = split_behind 32 word (join_with_byte 32 (next ∷ words)) h.0 ∙ ap (λ ws. word ∷ ws) (split_joined next words h.1)

joined_lacks : (word : List ℕ) (words : List (List ℕ)) → AllByRecursion (Lacks 10) (word ∷ words) → Lacks 10 (join_with_byte 32 (word ∷ words))
joined_lacks word [] h = h.0
joined_lacks word (next ∷ words) h = lacks-append 10 word (32 ∷ join_with_byte 32 (next ∷ words)) h.0 (refl, joined_lacks next words h.1)

all_lack : (c : ℕ) (text : List ℕ) → list_any (λ x. eqb x c) text ≡ false → Lacks c text
all_lack c [] h = tt
all_lack c (x ∷ xs) h = let parts = or_parts (eqb x c) (list_any (λ x. eqb x c) xs) h in (parts.0, all_lack c xs parts.1)

texts_lack : (c : ℕ) (texts : List (List ℕ)) → list_any (list_any (λ x. eqb x c)) texts ≡ false → AllByRecursion (Lacks c) texts
texts_lack c [] h = tt
texts_lack c (text ∷ texts) h = let parts = or_parts (list_any (λ x. eqb x c) text) (list_any (list_any (λ x. eqb x c)) texts) h in (all_lack c text parts.0, texts_lack c texts parts.1)

setting_lacks : (c : ℕ) (name value : List ℕ) → Lacks c name → Lacks c (codes "=") → Lacks c value → Lacks c (setting name value)
setting_lacks c name value h e k = lacks-append c name (61 ∷ value) h (e.0, k)

-- The limits have a greatest value below 2^64 and a default of at least 1.
abbrev is_plain : Limit → Bool
is_plain limit = ltb (greatest limit) (2 ^ 64) && leb 1 (standard limit)

plain_parts : (a b : Bool) → a && b ≡ true → (a ≡ true) × (b ≡ true)
plain_parts true b h = (refl, h)
plain_parts false b h = absurd (false≢true h)

word_lacks : (c n : ℕ) (limit : Limit) → c < 48 → Lacks c (codes "-") → is_plain limit ≡ true → Lacks c (limit_word limit n)
word_lacks c n limit low dash plain =
    cond_both (leb n (greatest limit)) (decimal n) (codes "-") (Lacks c) (λ within. moment_lacks c n low (omega (arith, leb-true n (greatest limit) within, ltb-true (greatest limit) (2 ^ 64) (plain_parts _ _ plain).0))) (λ _. dash)

limits_lack : (c : ℕ) (limits : Limits) (list : List Limit) → c < 48 → Lacks c (codes "=") → Lacks c (codes "-") → AllByRecursion (Lacks c) (map limit_name list) → list_all is_plain list ≡ true
    → AllByRecursion (Lacks c) (map (limit_setting limits) list)
limits_lack c limits [] low equals dash names plain = tt
limits_lack c limits (limit ∷ list) low equals dash names plain =
    let parts = plain_parts (is_plain limit) (list_all is_plain list) plain in
    (setting_lacks c (limit_name limit) _ names.0 equals (word_lacks c (limit_of limit limits) limit low dash parts.0), limits_lack c limits list low equals dash names.1 parts.1)

-- The fixed texts of a line.
abbrev fixed : List (List ℕ)
fixed = codes "=" ∷ codes "-" ∷ codes "r" ∷ codes "a" ∷ codes "ra" ∷ codes "shards" ∷ codes "timeout" ∷ codes "interval" ∷ codes "max_interval" ∷ codes "options" ∷ map limit_name ALL

options_lack : (c : ℕ) → AllByRecursion (Lacks c) fixed → (ride anonymous : Bool) → Lacks c (options_word ride anonymous)
options_lack c h false false = h.1.0
options_lack c h true false = h.1.1.0
options_lack c h false true = h.1.1.1.0
options_lack c h true true = h.1.1.1.1.0

shards_fit : (config : Config) → config.shards < 2 ^ 64
shards_fit config = let big : 65 ≤ 2 ^ 64 = lit≤ tt in omega (arith, config.shards_in_range)

time_fits : (n : ℕ) → n < 2 ^ 32 → n < 2 ^ 64
time_fits n small = let room : 2 ^ 32 ≤ 2 ^ 64 = lit≤ tt in omega (arith, small)

words_lack : (c : ℕ) (config : Config) → c < 48 → AllByRecursion (Lacks c) fixed → CanSay config → AllByRecursion (Lacks c) (config_words config)
words_lack c config low h can =
    let number = λ (name : List ℕ) (n : ℕ) (lacks : Lacks c name) (small : n < 2 ^ 64). setting_lacks c name (decimal n) lacks h.0 (moment_lacks c n low small) in (
      number (codes "shards") config.shards h.1.1.1.1.1.0 (shards_fit config),
      (
        number (codes "timeout") config.timeout h.1.1.1.1.1.1.0 (time_fits config.timeout can.times.0),
        (
          number (codes "interval") config.interval h.1.1.1.1.1.1.1.0 (time_fits config.interval can.times.1),
          (
            number (codes "max_interval") config.max_interval h.1.1.1.1.1.1.1.1.0 (time_fits config.max_interval can.times.2),
            (
              setting_lacks c (codes "options") _ h.1.1.1.1.1.1.1.1.1.0 h.0 (options_lack c h config.ride config.anonymous),
              limits_lack c config.limits ALL low h.0 h.1.0 h.1.1.1.1.1.1.1.1.1.1 refl,
            ),
          ),
        ),
      ),
    )

-- ---- Reading one word

front_is : (front rest : List ℕ) → starts_with eqb (front ++ rest) front ≡ true
front_is [] rest = refl
front_is (x ∷ front) rest = rw (eq-eqb x x refl) (front_is front rest)

front_dropped : (front rest : List ℕ) → drop (length front) (front ++ rest) ≡ rest
front_dropped [] rest = refl
front_dropped (x ∷ front) rest = front_dropped front rest

front_read : (front rest : List ℕ) → after_front front (front ++ rest) ≡ Some rest
front_read front rest = ap (λ b. cond b (Some (drop (length front) (front ++ rest))) None) (front_is front rest) ∙ ap Some (front_dropped front rest)

value_read : (name value : List ℕ) → value_in name (setting name value) ≡ Some value
value_read name value = ap (λ o. option_and_then (after_front (codes "=")) o) (front_read name (61 ∷ value)) ∙ front_read (codes "=") value

read_by : {A : Type 0} (name value : List ℕ) (read : List ℕ → Option A) (result : A) → read value ≡ Some result → option_and_then read (value_in name (setting name value)) ≡ Some result
read_by name value read result e = ap (λ o. option_and_then read o) (value_read name value) ∙ e

timed : (n : ℕ) → n < 2 ^ 32 → time_in (decimal n) ≡ Some n
timed n small = ap (λ (o : Option ℕ). option_and_then (λ k. cond (ltb k (2 ^ 32)) (Some k) None) o) (moment_reads n (time_fits n small)) ∙ rw (lt-ltb n (2 ^ 32) small) refl

options_read : (ride anonymous : Bool) → options_in (options_word ride anonymous) ≡ Some (record { ride = ride; anonymous = anonymous })
options_read false false = refl
options_read true false = refl
options_read false true = refl
options_read true true = refl

-- ---- Reading the limits

no_dash : (ds : List ℕ) → Lacks 45 ds → bytes_eq ds (codes "-") ≡ false
no_dash [] h = refl
no_dash (x ∷ xs) h = ap (λ b. b && bytes_eq xs []) h.0

counted : (most n : ℕ) → 1 ≤ n → n ≤ most → n < 2 ^ 64 → count_in most (decimal n) ≡ Some n
counted most n some few small =
    ap (λ (o : Option ℕ). option_and_then (λ k. cond (leb 1 k && leb k most) (Some k) None) o) (moment_reads n small) ∙ rw (le-leb 1 n some, le-leb n most few) refl

and_false : (b : Bool) → b && false ≡ false
and_false true = refl
and_false false = refl

-- A value that is not the greatest has digits.
some_of : (limit : Limit) (n : ℕ) → accepts limit n ≡ true → leb 1 (standard limit) ≡ true → 1 ≤ n
some_of limit n e standard_some = by (leb 1 n) refl e
  where
    by : (b : Bool) → leb 1 n ≡ b → (b && leb n (greatest limit)) || eqb n (standard limit) ≡ true → 1 ≤ n
    by true is _ = leb-true 1 n is
    by false _ same = rw (eqb-true n (standard limit) same) (leb-true 1 (standard limit) standard_some)

within_read : (limit : Limit) (n : ℕ) → n ≤ greatest limit → n < 2 ^ 64 → 1 ≤ n → limit_in limit (decimal n) ≡ Some n
within_read limit n within small some =
    ap (λ b. cond (ltb (greatest limit) (standard limit) && b) (Some (standard limit)) (count_in (greatest limit) (decimal n))) (no_dash (decimal n) (moment_lacks 45 n (omega arith) small))
    ∙ ap (λ b. cond b (Some (standard limit)) (count_in (greatest limit) (decimal n))) (and_false (ltb (greatest limit) (standard limit)))
    ∙ counted (greatest limit) n some within small

beyond_read : (limit : Limit) (n : ℕ) → greatest limit < n → n ≡ standard limit → limit_in limit (codes "-") ≡ Some n
beyond_read limit n beyond same =
    ap (λ b. cond (b && true) (Some (standard limit)) (count_in (greatest limit) (codes "-"))) (lt-ltb (greatest limit) (standard limit) (omega (arith, beyond, same))) ∙ ap Some (sym same)

beyond_is : (limit : Limit) (n : ℕ) → leb n (greatest limit) ≡ false → accepts limit n ≡ true → n ≡ standard limit
beyond_is limit n beyond e =
    let none : leb 1 n && leb n (greatest limit) ≡ false = ap (λ b. leb 1 n && b) beyond ∙ and_false (leb 1 n) in
    eqb-true n (standard limit) (sym (ap (λ b. b || eqb n (standard limit)) none) ∙ e)

limit_read : (limit : Limit) (n : ℕ) → is_plain limit ≡ true → accepts limit n ≡ true → limit_in limit (limit_word limit n) ≡ Some n
limit_read limit n plain e =
    let parts = plain_parts (ltb (greatest limit) (2 ^ 64)) (leb 1 (standard limit)) plain in
    cond_both (leb n (greatest limit)) (decimal n) (codes "-") (λ word. limit_in limit word ≡ Some n)
    (λ within. let most = leb-true n (greatest limit) within in within_read limit n most (omega (arith, most, ltb-true (greatest limit) (2 ^ 64) parts.0)) (some_of limit n e parts.1))
    (λ beyond. beyond_read limit n (leb-false n (greatest limit) beyond) (beyond_is limit n beyond e))

-- The configuration with the limits `limits`.
abbrev set_all : List Limit → Limits → Config → Config
set_all [] limits c = c
set_all (limit ∷ list) limits c = set_all list limits (record c { limits = with_limit limit (limit_of limit limits) c.limits })

limits_read : (list : List Limit) (limits : Limits) (c : Config) → list_all is_plain list ≡ true → AllByRecursion (λ limit. accepts limit (limit_of limit limits) ≡ true) list
    → limits_in list (map (limit_setting limits) list) c ≡ Some (set_all list limits c)
limits_read [] limits c plain h = refl
limits_read (limit ∷ list) limits c plain h =
    let parts = plain_parts (is_plain limit) (list_all is_plain list) plain in
    let n = limit_of limit limits in
    let words = map (limit_setting limits) list in
    ap (λ (o : Option (List ℕ)). option_and_then (λ value. option_and_then (λ m. option_and_then (limits_in list words) (with_maximum limit m c)) (limit_in limit value)) o) (value_read (limit_name limit) (limit_word limit n))
    ∙ ap (λ (o : Option ℕ). option_and_then (λ m. option_and_then (limits_in list words) (with_maximum limit m c)) o) (limit_read limit n parts.0 h.0)
    ∙ ap (λ b. option_and_then (limits_in list words) (cond b (Some (record c { limits = with_limit limit n c.limits })) None)) h.0
    ∙ limits_read list limits (record c { limits = with_limit limit n c.limits }) parts.1 h.1

-- ---- Reading the line

abbrev taken_by : Option ℕ → Option ℕ → Option ℕ → Option ℕ → Option Options → Option Config
taken_by shards timeout interval max_interval options =
    option_and_then (λ s. option_and_then (λ t. option_and_then (λ i. option_and_then (λ m. option_and_then (λ (o : Options).
    option_and_then (λ c. Some (with_options o c)) (new_config s t i m)) options) max_interval) interval) timeout) shards

same_limits : (l : Limits) (batch texts : ℕ) (some : 1 ≤ batch) → batch ≡ l.batch → texts ≡ l.texts → record l { batch = batch; texts = texts; some_batch = some } ≡ l
same_limits l batch texts some e f =
    let same : (least : 1 ≤ l.batch) → record l { texts = texts; some_batch = least } ≡ l = λ least k. record l { texts = f k; some_batch = le_prop least l.some_batch k } in
    subst (λ (n : ℕ). (least : 1 ≤ n) → record l { batch = n; texts = texts; some_batch = least } ≡ l) (sym e) same some

taken : (c : Config) → CanSay c → config_in (config_words c) ≡ Some c
taken c can =
    let words = map (limit_setting c.limits) ALL in
    let shards = read_by (codes "shards") (decimal c.shards) number_of c.shards (moment_reads c.shards (shards_fit c)) in
    let timeout = read_by (codes "timeout") (decimal c.timeout) time_in c.timeout (timed c.timeout can.times.0) in
    let interval = read_by (codes "interval") (decimal c.interval) time_in c.interval (timed c.interval can.times.1) in
    let max_interval = read_by (codes "max_interval") (decimal c.max_interval) time_in c.max_interval (timed c.max_interval can.times.2) in
    let options = read_by (codes "options") (options_word c.ride c.anonymous) options_in (record { ride = c.ride; anonymous = c.anonymous }) (options_read c.ride c.anonymous) in
    let made = new_some c.shards c.shards c.timeout c.interval c.max_interval standard_limits.some_batch c.some_shard c.shards_in_range refl in
    let start : Config = record c { limits = standard_limits } in
    let first : config_in (config_words c) ≡ option_and_then (limits_in ALL words) (taken_by (Some c.shards) (Some c.timeout) (Some c.interval) (Some c.max_interval) (Some (record { ride = c.ride; anonymous = c.anonymous }))) =
    λ k. option_and_then (limits_in ALL words) (taken_by (shards k) (timeout k) (interval k) (max_interval k) (options k)) in
    first
    ∙ ap (λ (o : Option Config). option_and_then (limits_in ALL words) (option_and_then (λ d. Some (with_options (record { ride = c.ride; anonymous = c.anonymous }) d)) o)) (sym made)
    ∙ limits_read ALL c.limits start refl can.limits
    ∙ ap (λ l. Some (record c { limits = l })) (same_limits c.limits standard_limits.batch standard_limits.texts standard_limits.some_batch (sym can.batch) (sym can.texts))

pub configs : ConfigsReadBack
configs config rest can =
    let line : List ℕ = join_with_byte 32 (config_words config) in
    let word : List ℕ = setting (codes "shards") (decimal config.shards) in
    let others : List (List ℕ) = drop 1 (config_words config) in
    let lacks : Lacks 10 line = joined_lacks word others (words_lack 10 config (omega arith) (texts_lack 10 fixed refl) can) in
    let whole : config_text config ++ rest ≡ line ++ 10 ∷ rest = append_assoc line (10 ∷ []) rest in
    let words : slice_split is_space (first_of (config_text config ++ rest)) ≡ config_words config =
    ap (λ text. slice_split is_space (first_of text)) whole ∙ ap (slice_split is_space) (before_it 10 line rest lacks) ∙ split_joined word others (words_lack 32 config (omega arith) (texts_lack 32 fixed refl) can) in
    record { config = ap config_in words ∙ taken config can; left = ap rest_of whole ∙ after_it 10 line rest lacks }

-- ---- Too few words

pub few : (words : List (List ℕ)) → length words < 5 → None ≡ config_in words
few [] short = refl
few (a ∷ []) short = refl
few (a ∷ b ∷ []) short = refl
few (a ∷ b ∷ c ∷ []) short = refl
few (a ∷ b ∷ c ∷ d ∷ []) short = refl
few (a ∷ b ∷ c ∷ d ∷ e ∷ words) short = absurd (omega arith)
