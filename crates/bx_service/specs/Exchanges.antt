-- The responses that an exchange may give, by its state.
use Rattle.std.specs.Prelude.{◌≡◌, ◌⊎◌, ℕ, List, Option, Some, None, option_map, string_bytes, Vec, Result, Ok, Err, IfOk, MatchOption}
use Rattle.std.specs.Arc.{arc_value}
use Rattle.std.specs.Global.{Global}
use Rattle.futures.specs.Runs.{Runs}
use Rattle.http.specs.declared.response.Response.{Response}
use Rattle.http_body.specs.declared.frame.Frame.{Frame}
use Rattle.bx_pieces.specs.declared.pieces.Pieces.{Pieces}
use Rattle.http_header.specs.FieldValue.{FieldValue}
use Rattle.bx_service.specs.Beginnings.{query_of}
use Rattle.bx_service.specs.Bodies.{Gives}
use Rattle.bx_service.specs.declared.collect.CollectError.{CollectError}
use Rattle.bx_transport.specs.Transports.{post_taken, get_taken}
use Rattle.bx_transport.specs.declared.error.TransportError.{TransportError}
use Rattle.bx_hub.specs.declared.fault.PostFault.{PostFault}
use Rattle.bx_service.specs.declared.{backend.Answered.Answered, backend.Unanswered.Unanswered, exchange.Exchange.Exchange, exchange.State.State, service.ServiceFault.ServiceFault}
use Rattle.bx_service.specs.declared.backend.Unanswered.TheVariants as unanswered
use Rattle.bx_service.specs.declared.exchange.State.TheVariants.{Collecting, Asked, Held, Declined, Refused, Done}
use Rattle.bx_service.specs.Responses.{IsAnswer, IsRefusal}
use Rattle.bx_service.specs.Errors.{of_collect}
use Rattle.bx_service.specs.declared.error.RequestError.TheVariants.{NotAdmitted, Unreadable}
use Rattle.bx_service.specs.declared.error.RequestError.TheVariants as errors
use Rattle.bx_transport.specs.declared.error.TransportError.TheVariants.{Memory}

-- The type of a response as it is sent, with a body in pieces.
abbrev pub Sent : Type 0
Sent = Response (Pieces (List ℕ))

-- The output of the future of a response's items: the items with their witness, or an error.
abbrev pub Gathered : Type 0 → Type 0
Gathered W = Result (Answered W) (Unanswered W)

module _ {W : Type 0} where
  -- `sent` is the response for an output, and the witness of the output is `kept`: 200 with its
  -- items, or `Unanswered`. Or it is `Memory`, if memory runs out.
  abbrev pub ForItems : Option (List ℕ) → Gathered W → Option W → Sent → Type 0
  ForItems callback (Ok a) kept sent = ((kept ≡ Some a.witness) × IsAnswer callback a.items.items sent) ⊎ IsRefusal errors.Memory sent
  ForItems callback (Err (unanswered.Unavailable witness)) kept sent = (kept ≡ Some witness) × IsRefusal errors.Unanswered sent
  ForItems callback (Err unanswered.Memory) kept sent = IsRefusal errors.Memory sent

  -- `sent` has the fault of a request that was not admitted, and the witness of that is `kept`.
  abbrev pub ForDeclined : PostFault → Option W → Option W → Sent → Type 0
  ForDeclined fault witness kept sent = (kept ≡ witness) × IsRefusal (NotAdmitted fault) sent

-- What an exchange keeps in its state once it has given a response.
abbrev pub kept_in : {I B W : Type 0} → State I B W → Option W
kept_in (Collecting kind body) = None
kept_in (Asked uri) = None
kept_in (Held callback items) = None
kept_in (Declined fault witness) = None
kept_in (Refused error) = None
kept_in (Done kept) = kept

module _ {I W : Type 0} (gives : I → Gathered W → Type 0) where
  -- `sent` is the response for some output that the future `items` may have.
  abbrev pub ForFuture : Option (List ℕ) → I → Option W → Sent → Type 0
  ForFuture callback items kept sent = (gathered : Gathered W) × (gives items gathered × ForItems callback gathered kept sent)

module _ {W : Type 0} (answers : List (List ℕ) → Gathered W → Type 0) (rejects : List (List ℕ) → PostFault → Option W → Type 0) where
  -- `sent` has status 200 and the text of items. Their witness, which is `kept`, shows that they
  -- answer `documents`.
  pub record IsAnswered (callback : Option (List ℕ)) (documents : List (List ℕ)) (kept : Option W) (sent : Sent) : Type 0 where
    pub given : Answered W
    pub is_kept : kept ≡ Some given.witness
    pub shown : answers documents (Ok given)
    pub text : IsAnswer callback given.items.items sent

  -- `sent` is `Unanswered`. `witness`, which is `kept`, shows that the backend gives no answer to
  -- `documents`.
  pub record IsUnanswered (documents : List (List ℕ)) (kept : Option W) (sent : Sent) : Type 0 where
    pub witness : W
    pub is_kept : kept ≡ Some witness
    pub shown : answers documents (Err (unanswered.Unavailable witness))
    pub text : IsRefusal errors.Unanswered sent

  -- `sent` has `fault`, and what is `kept` shows that the backend rejected `documents` for it.
  pub record IsDeclined (documents : List (List ℕ)) (kept : Option W) (sent : Sent) : Type 0 where
    pub fault : PostFault
    pub shown : rejects documents fault kept
    pub text : IsRefusal (NotAdmitted fault) sent

  -- `sent` is the response to a request with these JSON documents: an answer, none, or a rejection,
  -- as `kept` shows. Or memory ran out.
  abbrev pub ForDocuments : Option (List ℕ) → List (List ℕ) → Option W → Sent → Type 0
  ForDocuments callback documents kept sent =
      IsAnswered callback documents kept sent ⊎ IsUnanswered documents kept sent
      ⊎ IsDeclined documents kept sent ⊎ IsRefusal errors.Memory sent

  -- `sent` is the response to a POST after its body was read: for the JSON documents in it, or with
  -- the error.
  abbrev pub ForBody : Result (List (List ℕ)) TransportError → Option W → Sent → Type 0
  ForBody (Ok documents) kept sent = ForDocuments None documents kept sent
  ForBody (Err error) kept sent = IsRefusal (Unreadable error) sent

  -- `sent` is the response to a GET after its query was read. It is for the callback and JSON
  -- documents of the query, or has the error.
  abbrev pub ForQuery : Result (List ℕ × List (List ℕ)) TransportError → Option W → Sent → Type 0
  ForQuery (Ok taken) kept sent = ForDocuments (Some taken.0) taken.1 kept sent
  ForQuery (Err error) kept sent = IsRefusal (Unreadable error) sent

  -- `sent` is the response to a POST after collecting its body: for the body, read by its content
  -- type `kind`, or with `Memory` if memory runs out for its documents. If the body was not
  -- collected, the response has that error.
  abbrev pub ForCollected : Option (List ℕ) → Result (Vec ℕ Global) CollectError → Option W → Sent → Type 0
  ForCollected kind (Ok all) kept sent = ForBody (post_taken kind all.items) kept sent ⊎ IsRefusal (Unreadable Memory) sent
  ForCollected kind (Err fault) kept sent = IsRefusal (of_collect fault) sent

  -- `sent` is the response to a GET with `query`, or has `Memory` if memory runs out for its
  -- documents.
  abbrev pub ForAsked : List ℕ → Option W → Sent → Type 0
  ForAsked query kept sent = ForQuery (get_taken query) kept sent ⊎ IsRefusal (Unreadable Memory) sent

  module _ {I B D E : Type 0} (gives : I → Gathered W → Type 0) (unread : D → List ℕ) (yields : B → Runs (Result (Frame D) E)) where
    -- `sent` may be the response to a request in this state, if the exchange then keeps `kept`.
    -- While its body is being collected, it is the response for some result that collecting may
    -- return.
    abbrev pub MayAnswer : State I B W → Option W → Sent → Type 0
    MayAnswer (Collecting kind body) kept sent =
        (collected : Result (Vec ℕ Global) CollectError) × (Gives unread (yields body.body) body.limit body.bytes.items collected
        × ForCollected (option_map (λ (value : FieldValue). value.bytes) kind) collected kept sent)
    MayAnswer (Asked uri) kept sent = ForAsked (query_of uri) kept sent
    MayAnswer (Held callback items) kept sent = ForFuture gives (option_map string_bytes callback) items kept sent
    MayAnswer (Declined fault witness) kept sent = ForDeclined fault witness kept sent
    MayAnswer (Refused error) kept sent = IsRefusal error sent
    MayAnswer (Done given) kept sent = ⊥

module _ {S I W B D E O : Type 0} (answers : S → List (List ℕ) → Gathered W → Type 0) (rejects : S → List (List ℕ) → PostFault → Option W → Type 0)
    (gives : I → Gathered W → Type 0) (unread : D → List ℕ) (yields : B → Runs (Result (Frame D) E)) where
  -- `sent` may be the response of the exchange, if it then keeps `kept`. Without a backend, the
  -- exchange gives no response.
  abbrev pub AnswersBy : Exchange S I B W O → Option W → Sent → Type 0
  AnswersBy exchange kept sent =
      MatchOption exchange.backend ⊥ (λ backend. MayAnswer (answers (arc_value backend)) (rejects (arc_value backend)) gives unread yields exchange.state kept sent)

  -- `given` may be the output of the exchange: an error, or a response that it may give with some
  -- witness.
  abbrev pub GivesBy : Exchange S I B W O → Result Sent ServiceFault → Type 0
  GivesBy exchange given = IfOk given (λ sent. MatchOption exchange.backend ⊥
      (λ backend. (kept : Option W) × MayAnswer (answers (arc_value backend)) (rejects (arc_value backend)) gives unread yields exchange.state kept sent))

  -- Each response that `new` may give, `old` may give too, with the same witness.
  abbrev pub AnswersNoMore : Exchange S I B W O → Exchange S I B W O → Type 0
  AnswersNoMore old new = (kept : Option W) (sent : Sent) → AnswersBy new kept sent → AnswersBy old kept sent

  -- Each output that `new` may have, `old` may have too.
  abbrev pub GivesNoMore : Exchange S I B W O → Exchange S I B W O → Type 0
  GivesNoMore old new = (given : Result Sent ServiceFault) → GivesBy new given → GivesBy old given
