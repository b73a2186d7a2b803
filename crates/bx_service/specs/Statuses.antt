-- How requests are routed.
use Rattle.std.specs.Prelude.{ℕ, List, [], ◌∷◌, Bool, true, false, ◌||◌, nat_eq, codes, if◌then◌else◌, option_map}
use Rattle.std.specs.{List.starts_with, Str.bytes_eq, Str.str_eq_ignore_ascii_case}
use Rattle.http_header.specs.FieldValue.{FieldValue}
use Rattle.http_header.specs.HeaderMap.{Entries, get, get_all}
use Rattle.bx_service.specs.declared.error.RequestError.TheVariants.{NotFound, MethodNotAllowed, TransferCoding, CallbackPolling, MediaType}
use Rattle.bx_service.specs.declared.route.Transports.{Transports}
use Rattle.bx_service.specs.declared.route.Transports.TheVariants.{All, JsonPosts}
use Rattle.bx_transport.specs.Forms.{has_media_type}
use Rattle.bx_service.specs.declared.route.Route.{Route}
use Rattle.bx_service.specs.declared.route.Route.TheVariants as routes

-- Whether a path is served: `/cometd` or a path below it.
abbrev pub is_served : List ℕ → Bool
is_served path = bytes_eq path (codes "/cometd") || starts_with nat_eq path (codes "/cometd/")

-- Whether the values of `transfer-encoding` are plain: none, or only `chunked`, in any letter case.
abbrev pub are_plain : List FieldValue → Bool
are_plain [] = true
are_plain (value ∷ []) = str_eq_ignore_ascii_case value.bytes (codes "chunked")
are_plain (value ∷ other ∷ values) = false

-- `route`, or a rejection if `fields` have a `transfer-encoding` other than one `chunked`.
abbrev pub unless_coded : Entries FieldValue → Route → Route
unless_coded fields route = if are_plain (get_all fields (codes "transfer-encoding")) then route else routes.Refused TransferCoding

-- Whether the field `content-type` has the media type `application/json`.
abbrev pub is_json : Entries FieldValue → Bool
is_json fields = has_media_type (codes "application/json") (option_map (λ (value : FieldValue). value.bytes) (get fields (codes "content-type")))

-- The route of a POST with `fields` at a path that is served.
abbrev pub post_route : Transports → Entries FieldValue → Route
post_route All fields = routes.Post
post_route JsonPosts fields = if is_json fields then routes.Post else routes.Refused MediaType

-- The route of a GET at a path that is served.
abbrev pub get_route : Transports → Route
get_route All = routes.Get
get_route JsonPosts = routes.Refused CallbackPolling

-- The route of a request with `method`, `path` and `fields`.
abbrev pub route_of : Transports → List ℕ → List ℕ → Entries FieldValue → Route
route_of transports method path fields =
    if is_served path then (if bytes_eq method (codes "POST") then unless_coded fields (post_route transports fields)
    else (if bytes_eq method (codes "GET") then unless_coded fields (get_route transports) else routes.Refused MethodNotAllowed))
    else routes.Refused NotFound
