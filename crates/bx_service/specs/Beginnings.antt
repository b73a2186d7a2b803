-- The first state of a request's exchange, which the request's head and the size limit determine.
use Rattle.std.specs.Prelude.{◌≡◌, ℕ, nat_lt, Bool, true, false, List, [], codes, length, Option, option_map, option_and_then, unwrap_or}
use Rattle.std.specs.Option.{option_map_or}
use Rattle.http.specs.declared.request.Parts.{Parts}
use Rattle.http_header.specs.FieldValue.{FieldValue}
use Rattle.http_header.specs.HeaderMap.{Entries, get}
use Rattle.http_uri.specs.Uri.{uri_path, uri_query}
use Rattle.http_uri.specs.declared.uri.Uri.{Uri}
use Rattle.bx_service.specs.declared.{exchange.State.State, route.Route.Route, route.Transports.Transports}
use Rattle.bx_service.specs.declared.exchange.State.TheVariants.{Collecting, Asked, Held, Declined, Refused, Done}
use Rattle.bx_service.specs.declared.route.Route.TheVariants as routes
use Rattle.bx_message.specs.Fields.{number_of}
use Rattle.bx_service.specs.declared.error.RequestError.TheVariants.{Unreadable}
use Rattle.bx_transport.specs.declared.error.TransportError.TheVariants.{TooLarge}
use Rattle.bx_service.specs.Statuses.{route_of}

-- The text of the field `content-length`, if any.
abbrev pub length_of : Entries FieldValue → Option (List ℕ)
length_of fields = option_map (λ (value : FieldValue). value.bytes) (get fields (codes "content-length"))

-- Whether there is a `text` that is a number above `limit`. A number has only digits and is at most
-- 2^64 - 1.
abbrev pub says_more : ℕ → Option (List ℕ) → Bool
says_more limit text = option_map_or (nat_lt limit) (option_and_then number_of text) false

-- The query of `uri`, or the empty text if there is none.
abbrev pub query_of : Uri → List ℕ
query_of uri = unwrap_or (uri_query uri) []

module _ {I B W : Type 0} where
  -- `state` is that of a POST: it stores `content_type` and collects `body`, up to `limit` bytes.
  -- No bytes are collected yet.
  abbrev pub IsCollecting : ℕ → Option FieldValue → B → State I B W → Type 0
  IsCollecting limit content_type body (Collecting value collect) =
      (value ≡ content_type) × (collect.body ≡ body) × (collect.limit ≡ limit) × (collect.bytes.items ≡ [])
  IsCollecting limit content_type body (Asked uri) = ⊥
  IsCollecting limit content_type body (Held callback items) = ⊥
  IsCollecting limit content_type body (Declined fault witness) = ⊥
  IsCollecting limit content_type body (Refused error) = ⊥
  IsCollecting limit content_type body (Done kept) = ⊥

  -- If the flag is `true`, `state` rejects the request as too large. If not, `state` is one of
  -- `states`.
  abbrev pub OrTooLarge : Bool → (State I B W → Type 0) → State I B W → Type 0
  OrTooLarge true states state = state ≡ Refused (Unreadable TooLarge)
  OrTooLarge false states state = states state

  -- A GET of `uri` begins in `state`: `Asked`, or rejected as too large if its query has more than
  -- `limit` bytes.
  abbrev pub IsAsking : ℕ → Uri → State I B W → Type 0
  IsAsking limit uri state = OrTooLarge (nat_lt limit (length (query_of uri))) (λ asked. asked ≡ Asked uri) state

  -- A POST with `fields` and `body` begins in `state`: it collects `body` and stores its content
  -- type. If its `content-length` is above `limit`, it is rejected as too large.
  abbrev pub IsPosted : ℕ → Entries FieldValue → B → State I B W → Type 0
  IsPosted limit fields body state =
      OrTooLarge (says_more limit (length_of fields)) (IsCollecting limit (get fields (codes "content-type")) body) state

  -- A request with this route begins in `state`: as a POST, as a GET, or rejected. A
  -- GET is also rejected if its query exceeds `limit` bytes, and a POST if its `content-length`
  -- does.
  abbrev pub BeginsAs : Route → ℕ → Parts → B → State I B W → Type 0
  BeginsAs routes.Post limit head body state = IsPosted limit head.headers body state
  BeginsAs routes.Get limit head body state = IsAsking limit head.uri state
  BeginsAs (routes.Refused error) limit head body state = state ≡ Refused error

  -- A new request with `head` and `body` begins in `state`. Its method, path and fields, and the
  -- accepted transports, determine its route.
  abbrev pub Begins : ℕ → Transports → Parts → B → State I B W → Type 0
  Begins limit transports head body state = BeginsAs (route_of transports head.method (uri_path head.uri) head.headers) limit head body state
