-- The texts of replies, events and responses read back.
use Rattle.std.proofs.Common.{◌≡◌, ℕ, suc, ◌^◌, ◌<◌, ◌≤◌, true, false, List, [], ◌∷◌, ◌++◌, map, codes, decimal, Option, Some, None, option_map, IfSome, refl, subst, arith}
use Rattle.std.proofs.lemmas.List.{append_assoc}
use Rattle.json.specs.Json as json
use Rattle.json.specs.{Lex.lex, Lex.punctuate, Word.word, Print.quoted}
use Rattle.serde_json.specs.Data.{Data, boolean, string, array, object, no_items, item}
use Rattle.bx_advice.specs.Errors.{error_text}
use Rattle.bx_advice.specs.declared.{advice.Advice.Advice, advice.Outcome.Outcome, advice.Outcome.TheVariants.Failed}
use Rattle.bx_message.specs.declared.{message_kind.MessageKind.MessageKind, reply.AckReply.AckReply}
use Rattle.bx_message.specs.declared.reply.AckReply.TheVariants.{NoAck, AckTrue, AckNumber}
use Rattle.bx_message.specs.Texts.{member, raw_member, text_member, number_member, reconnect_text, advice_members, advice_member, ack_member, error_member, success_text, types_member, version_member, reply_members, event_members, item_text}
use Rattle.bx_message.specs.Texts.{array as array_text}
use Rattle.bx_laws.specs.ReadBack.{ReadsAs, Row, members_in, count, advice_rows, ext_data, error_data, succeeds, for_handshake, connection_types, AdviceFits, AckFits, reply_rows, event_rows, RepliesReadBack, EventsReadBack, BodiesReadBack}
use Rattle.bx_laws.proofs.Written.{Value, deeper, read_value, value_read, text_value, count_value, Written, written_more, written_one, object_value, object_is, array_value}

record Rows (levels : ℕ) (ms : List (List ℕ)) (rows : List Row) : Type 0 where
  are : Written levels ms rows

abbrev OneRow : ℕ → List (List ℕ) → List ℕ → Option Data → Type 0
OneRow levels ms name d = Rows levels ms ((name, d) ∷ [])

more : {levels : ℕ} {row : Row} {rows : List Row} {a b : List (List ℕ)} → Rows levels a (row ∷ []) → Rows levels b rows → Rows levels (a ++ b) (row ∷ rows)
more {levels} {row} {rows} {a} {b} h w = record { are = written_more levels row rows a b h.are w.are }

one : (levels : ℕ) (name text : List ℕ) (d : Data) → Value levels text d → OneRow levels (member name text ∷ []) name (Some d)
one levels name text d x = record { are = written_one levels name text d x }

true_value : Value 0 (codes "true") (boolean true)
unfolding lex punctuate word json.value
true_value = read_value 0 (codes "true") (boolean true) refl

false_value : Value 0 (codes "false") (boolean false)
unfolding lex punctuate word json.value
false_value = read_value 0 (codes "false") (boolean false) refl

raw_row : (levels : ℕ) (name : List ℕ) (o : Option (List ℕ)) (d : Option Data) → ReadsAs levels o d → OneRow levels (raw_member name o) name d
raw_row levels name None None h = record { are = refl }
raw_row levels name None (Some d) h = absurd h
raw_row levels name (Some text) None h = absurd h
raw_row levels name (Some text) (Some d) h = one levels name text d (read_value levels text d h)

text_row : (levels : ℕ) (name : List ℕ) (o : Option (List ℕ)) → OneRow levels (text_member name o) name (option_map string o)
text_row levels name None = record { are = refl }
text_row levels name (Some text) = one levels name (quoted text) (string text) (deeper 0 levels (omega arith) (text_value text))

number_row : (levels : ℕ) (name : List ℕ) (o : Option ℕ) → IfSome o (λ n. n < 2 ^ 64) → OneRow levels (number_member name o) name (option_map count o)
number_row levels name None h = record { are = refl }
number_row levels name (Some n) h = one levels name (decimal n) (count n) (deeper 0 levels (omega arith) (count_value n h))

advice_written : (a : Advice) → AdviceFits a → Written 0 (advice_members a) (advice_rows a)
advice_written a h =
    (decimal a.interval, _, refl, count_value a.interval h.0, (quoted (reconnect_text a.reconnect), _, refl, text_value (reconnect_text a.reconnect), (number_row 0 (codes "timeout") a.timeout h.1).are))

advice_row : (levels : ℕ) → 1 ≤ levels → (o : Option Advice) → IfSome o AdviceFits → OneRow levels (advice_member o) (codes "advice") (option_map (λ a. object (members_in (advice_rows a))) o)
advice_row levels h None f = record { are = refl }
advice_row levels h (Some a) f = one levels (codes "advice") _ _ (deeper 1 levels h (object_value 0 (advice_members a) (advice_rows a) (advice_written a f) (refl, (refl, (refl, tt)))))

ext_row : (levels : ℕ) → 1 ≤ levels → (a : AckReply) → AckFits a → OneRow levels (ack_member a) (codes "ext") (ext_data a)
ext_row levels h NoAck f = record { are = refl }
ext_row levels h AckTrue f = one levels (codes "ext") _ _ (deeper 1 levels h (object_value 0 (member (codes "ack") (codes "true") ∷ []) ((codes "ack", Some (boolean true)) ∷ []) (written_one 0 (codes "ack") (codes "true") (boolean true) true_value) (refl, tt)))
ext_row levels h (AckNumber n) f = one levels (codes "ext") _ _ (deeper 1 levels h (object_value 0 (member (codes "ack") (decimal n) ∷ []) ((codes "ack", Some (count n)) ∷ []) (written_one 0 (codes "ack") (decimal n) (count n) (count_value n f)) (refl, tt)))

error_row : (levels : ℕ) (outcome : Outcome) → OneRow levels (error_member outcome) (codes "error") (error_data outcome)
error_row levels (Failed error) = text_row levels (codes "error") (Some (error_text error))
error_row levels _ = record { are = refl }

success_value : (outcome : Outcome) → Value 0 (success_text outcome) (boolean (succeeds outcome))
success_value (Failed error) = false_value
success_value _ = true_value

success_row : (levels : ℕ) (outcome : Outcome) → OneRow levels (raw_member (codes "successful") (Some (success_text outcome))) (codes "successful") (Some (boolean (succeeds outcome)))
success_row levels outcome = one levels (codes "successful") (success_text outcome) (boolean (succeeds outcome)) (deeper 0 levels (omega arith) (success_value outcome))

types_value : Value 1 (array_text (quoted (codes "long-polling") ∷ quoted (codes "callback-polling") ∷ [])) connection_types
types_value =
    array_value 0 (quoted (codes "long-polling") ∷ quoted (codes "callback-polling") ∷ []) (item (string (codes "long-polling")) (item (string (codes "callback-polling")) no_items))
    (value_read 0 _ _ (text_value (codes "long-polling")), (value_read 0 _ _ (text_value (codes "callback-polling")), tt))

types_row : (levels : ℕ) → 1 ≤ levels → (message_kind : MessageKind) → OneRow levels (types_member message_kind) (codes "supportedConnectionTypes") (for_handshake message_kind connection_types)
types_row levels h MessageKind.Handshake = one levels (codes "supportedConnectionTypes") _ connection_types (deeper 1 levels h types_value)
types_row levels h _ = record { are = refl }

version_row : (levels : ℕ) (message_kind : MessageKind) → OneRow levels (version_member message_kind) (codes "version") (for_handshake message_kind (string (codes "1.0")))
version_row levels MessageKind.Handshake = text_row levels (codes "version") (Some (codes "1.0"))
version_row levels _ = record { are = refl }

-- ---- The laws

nested : (a b c d e f g h i : List (List ℕ)) → a ++ (b ++ (c ++ (d ++ (e ++ (f ++ (g ++ (h ++ i))))))) ≡ a ++ b ++ c ++ d ++ e ++ f ++ g ++ h ++ i
nested a b c d e f g h i = simp append_assoc

pub replies : RepliesReadBack
replies levels r id subscription h p =
    let all =
    more (advice_row levels h r.advice p.advice_fits)
    (more (text_row levels (codes "channel") (Some r.channel))
    (more (text_row levels (codes "clientId") r.client)
    (more (error_row levels r.outcome)
    (more (ext_row levels h r.ack p.ack_fits)
    (more (raw_row levels (codes "id") r.id id p.id_reads)
    (more (raw_row levels (codes "subscription") r.subscription subscription p.subscription_reads)
    (more (success_row levels r.outcome)
    (more (types_row levels h r.message_kind) (version_row levels r.message_kind))))))))) in
    let members =
    nested (advice_member r.advice) (text_member (codes "channel") (Some r.channel)) (text_member (codes "clientId") r.client) (error_member r.outcome) (ack_member r.ack) (raw_member (codes "id") r.id)
    (raw_member (codes "subscription") r.subscription) (raw_member (codes "successful") (Some (success_text r.outcome))) (types_member r.message_kind ++ version_member r.message_kind) in
    object_is levels (reply_members r) (reply_rows r id subscription) (subst (λ ms. Written levels ms (reply_rows r id subscription)) members all.are) (refl, (refl, (refl, (refl, (refl, (refl, (refl, (refl, (refl, (refl, tt))))))))))

pub events : EventsReadBack
events levels e payload id h i =
    let all = more (text_row levels (codes "channel") (Some e.channel)) (more (raw_row levels (codes "data") (Some e.payload) (Some payload) h) (raw_row levels (codes "id") e.id id i)) in
    object_is levels (event_members e) (event_rows e payload id) all.are (refl, (refl, (refl, tt)))

pub bodies : BodiesReadBack
bodies levels items ds h = value_read (suc levels) _ (array ds) (array_value levels (map item_text items) ds h)
