-- Content types, and the parameters of forms and queries as `form_urlencoded` defines them.
use Rattle.std.specs.Prelude.{ℕ, ◌-◌, ◌==◌, ◌||◌, ◌&&◌, Bool, false, List, map, filter, fold, take, drop, length, nat_lt, nat_le, codes, Option, Some, None, unwrap_or}
use Rattle.std.specs.List.{before_first, list_any, list_all, prefix_len, suffix_len}
use Rattle.std.specs.{Char.is_ascii_alphanumeric, Char.is_ascii_whitespace, Char.to_ascii_lowercase, Str.bytes_eq, Str.Lossy.utf8_lossy}
use Rattle.form_urlencoded.specs.Form.{decode, raw_pairs}

-- ---- Which bodies are forms

-- Whether a byte is a semicolon, which ends a media type before its parameters.
abbrev pub is_semicolon : ℕ → Bool
is_semicolon byte = byte == 59

-- A text without leading whitespace.
abbrev pub behind_blanks : List ℕ → List ℕ
behind_blanks text = drop (prefix_len is_ascii_whitespace text) text

-- A text without trailing whitespace.
abbrev pub before_blanks : List ℕ → List ℕ
before_blanks text = take (length text - suffix_len is_ascii_whitespace text) text

-- The media type in a content type. It is the text before the first semicolon, without surrounding
-- whitespace.
abbrev pub media_type_of : List ℕ → List ℕ
media_type_of content_type = before_blanks (behind_blanks (before_first is_semicolon content_type))

-- Whether the media type in a content type, if any, is `name`, ignoring ASCII case.
abbrev pub has_media_type : List ℕ → Option (List ℕ) → Bool
has_media_type name None = false
has_media_type name (Some content_type) = bytes_eq (map to_ascii_lowercase (media_type_of content_type)) (map to_ascii_lowercase name)

-- Whether a body with this content type is a form. Without a content type it is not.
abbrev pub is_form : Option (List ℕ) → Bool
is_form content_type = has_media_type (codes "application/x-www-form-urlencoded") content_type

-- ---- Parameters

-- The decoded text of a name or a value. Bytes that are not UTF-8 become U+FFFD.
abbrev pub text_of : List ℕ → List ℕ
text_of encoded = utf8_lossy (decode encoded)

-- A name and a value, still encoded.
abbrev pub Pair : Type 0
Pair = List ℕ × List ℕ

-- Whether the decoded name of a pair is `name`.
abbrev pub is_named : List ℕ → Pair → Bool
is_named name pair = bytes_eq (text_of pair.0) name

-- The decoded values of the `pairs` with name `name`, in order.
abbrev pub values_among : List ℕ → List Pair → List (List ℕ)
values_among name pairs = map (λ (pair : Pair). text_of pair.1) (filter (is_named name) pairs)

-- The decoded values of the parameters `name` of a form or a query, in order.
abbrev pub values_of : List ℕ → List ℕ → List (List ℕ)
values_of name form = values_among name (raw_pairs form)

-- The last of `values`, or `earlier` if there are none.
abbrev pub latest : Option (List ℕ) → List (List ℕ) → Option (List ℕ)
latest earlier values = fold (λ _ value. Some value) earlier values

-- The last of `values`, if any.
abbrev pub last_of : List (List ℕ) → Option (List ℕ)
last_of values = latest None values

-- ---- Names of callbacks

-- Whether a callback's name may have this byte: an ASCII letter or digit, or one of `_ $ . - [ ]`.
abbrev pub is_callback_byte : ℕ → Bool
is_callback_byte byte = is_ascii_alphanumeric byte || list_any (λ other. other == byte) (codes "_$.-[]")

-- Whether a callback's name is valid. It must have 1 to 256 bytes, and each must be an ASCII letter
-- or digit, or one of `_ $ . - [ ]`.
abbrev pub is_callback : List ℕ → Bool
is_callback name = nat_lt 0 (length name) && nat_le (length name) 256 && list_all is_callback_byte name

-- The callback's name in a query: the last value of `jsonp`, or `jsonpcallback` if there is none.
abbrev pub callback_of : List ℕ → List ℕ
callback_of query = unwrap_or (last_of (values_of (codes "jsonp") query)) (codes "jsonpcallback")
