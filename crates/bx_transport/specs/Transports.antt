-- How the body of a POST and the query of a GET are read.
use Rattle.std.specs.Prelude.{ℕ, List, [], ◌∷◌, length, nat_lt, codes, if◌then◌else◌, Option, Result, Ok, Err}
use Rattle.bx_advice.specs.declared.limit.TheConstants.{BODY_LIMIT}
use Rattle.bx_transport.specs.declared.error.TransportError.{TransportError}
use Rattle.bx_transport.specs.declared.error.TransportError.TheVariants.{TooLarge, BadName, NoMessage}
use Rattle.bx_transport.specs.Forms.{is_form, values_of, callback_of, is_callback}

-- The documents, or the error `NoMessage` if there are none.
abbrev pub some_documents : List (List ℕ) → Result (List (List ℕ)) TransportError
some_documents [] = Err NoMessage
some_documents (d ∷ ds) = Ok (d ∷ ds)

-- The documents of a form or a query: its parameters `message`. `NoMessage` if there are none.
abbrev pub documents_of : List ℕ → Result (List (List ℕ)) TransportError
documents_of form = some_documents (values_of (codes "message") form)

-- The documents of a body, or its error. A body must not be too large. The documents of a form are
-- its parameters `message`; it must have one. Any other body is one document.
abbrev pub post_taken : Option (List ℕ) → List ℕ → Result (List (List ℕ)) TransportError
post_taken content_type body =
    if nat_lt BODY_LIMIT (length body) then Err TooLarge
    else (if is_form content_type then documents_of body else Ok (body ∷ []))

-- The callback's `name` with the documents of a query, or the query's error.
abbrev pub with_callback : List ℕ → Result (List (List ℕ)) TransportError → Result (List ℕ × List (List ℕ)) TransportError
with_callback name (Ok documents) = Ok (name, documents)
with_callback name (Err error) = Err error

-- The callback's name and the documents of a query, or the first error. A query must not be too
-- large, its callback's name must be valid, and it must have a document.
abbrev pub get_taken : List ℕ → Result (List ℕ × List (List ℕ)) TransportError
get_taken query =
    if nat_lt BODY_LIMIT (length query) then Err TooLarge
    else (if is_callback (callback_of query) then with_callback (callback_of query) (documents_of query) else Err BadName)
