-- What responses contain.
use Rattle.std.specs.Prelude.{◌≡◌, ◌⊎◌, ℕ, Bool, true, false, if◌then◌else◌, List, [], Option, Some, None, codes}
use Rattle.http.specs.Response.{head_of, body_of}
use Rattle.http.specs.declared.response.Response.{Response}
use Rattle.http_header.specs.FieldValue.{FieldValue, plain_value}
use Rattle.http_header.specs.HeaderMap.{Entries, insert}
use Rattle.bx_pieces.specs.Tails.{answer_text}
use Rattle.bx_pieces.specs.declared.pieces.Pieces.{Pieces}
use Rattle.bx_message.specs.declared.reply.Item.{Item}
use Rattle.bx_service.specs.Errors.{error_reason, error_status}
use Rattle.bx_service.specs.declared.error.RequestError.{RequestError}
use Rattle.bx_service.specs.declared.error.RequestError.TheVariants.{NotFound, MethodNotAllowed, TransferCoding, MediaType, Unreadable}
use Rattle.bx_transport.specs.declared.error.TransportError.TheVariants.{TooLarge}
use Rattle.bx_message.specs.Statuses.{code_of}

-- Whether the error may be found before the request's whole body is read.
abbrev pub leaves_body : RequestError → Bool
leaves_body NotFound = true
leaves_body MethodNotAllowed = true
leaves_body TransferCoding = true
leaves_body MediaType = true
leaves_body (Unreadable TooLarge) = true
leaves_body error = false

-- The allowed methods, for 405.
abbrev pub allowed_methods : RequestError → Entries FieldValue
allowed_methods MethodNotAllowed = insert [] (codes "allow") (plain_value (codes "GET, POST"))
allowed_methods error = []

-- The fields that a response without a body needs: for 405 the allowed methods, and `close` if the
-- request's body may not have been read.
abbrev pub needed_fields : RequestError → Entries FieldValue
needed_fields error =
    if leaves_body error then insert (allowed_methods error) (codes "connection") (plain_value (codes "close")) else allowed_methods error

-- The fields of a response without a body: those that it needs, and the reason in words.
abbrev pub refusal_fields : RequestError → Entries FieldValue
refusal_fields error = insert (needed_fields error) (codes "bayeux-error") (plain_value (error_reason error))

-- `response` has the status and the fields of `error`, and no body. If memory runs out for the
-- reason, it has only the fields that it needs.
pub record IsRefusal (error : RequestError) (response : Response (Pieces (List ℕ))) : Type 0 where
  pub number : (head_of response).status ≡ code_of (error_status error)
  pub fields : ((head_of response).headers ≡ refusal_fields error) ⊎ ((head_of response).headers ≡ needed_fields error)
  pub empty : body_of response ≡ []

-- The content type of a response with items: JavaScript with a callback, otherwise JSON.
abbrev pub kind_of : Option (List ℕ) → List ℕ
kind_of None = codes "application/json;charset=UTF-8"
kind_of (Some callback) = codes "application/javascript;charset=UTF-8"

-- `response` has status 200, and its body is the text of `items`: JSON, or a call of `callback`.
pub record IsAnswer (callback : Option (List ℕ)) (items : List Item) (response : Response (Pieces (List ℕ))) : Type 0 where
  pub number : (head_of response).status ≡ 200
  pub fields : (head_of response).headers ≡ insert [] (codes "content-type") (plain_value (kind_of callback))
  pub whole : body_of response ≡ answer_text callback items
