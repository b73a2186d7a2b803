-- What follows from the result of a poll.
use Rattle.std.proofs.Common.{IfOk, MatchOption, Option, Some, None, Result, Ok, Err, ℕ, List, inl, inr}
use Rattle.futures.specs.Poll.{IfReady}
use Rattle.futures.specs.declared.task.Poll.{Poll}
use Rattle.futures.specs.declared.task.Poll.TheVariants.{Ready, Pending}
use Rattle.bx_hub.specs.declared.fault.PostFault.{PostFault}
use Rattle.bx_service.specs.Exchanges.{ForDocuments, ForFuture, ForItems, Gathered, Sent}
use Rattle.bx_service.specs.declared.backend.Unanswered.TheVariants.{Unavailable, Memory}

-- If a successful result has a property, it also has each property that follows from that one.
pub given_so : {A F : Type 0} (P Q : A → Type 0) (given : Result A F) → IfOk given P → ((x : A) → P x → Q x) → IfOk given Q
given_so P Q (Ok x) holds follows = follows x holds
given_so P Q (Err fault) holds follows = tt

-- If a property holds with what is kept, it holds with something that is kept.
pub some_kept : {A F S W : Type 0} (polled : Poll (Result A F)) (backend : Option S) (P : S → W → A → Type 0) (kept : W)
    → IfReady polled (λ given. IfOk given (λ sent. MatchOption backend ⊥ (λ b. P b kept sent)))
    → IfReady polled (λ given. IfOk given (λ sent. MatchOption backend ⊥ (λ b. (some : W) × P b some sent)))
some_kept (Ready (Ok sent)) (Some b) P kept holds = (kept, holds)
some_kept (Ready (Ok sent)) None P kept holds = holds
some_kept (Ready (Err fault)) backend P kept holds = tt
some_kept Pending backend P kept holds = tt

module _ {W : Type 0} (answers : List (List ℕ) → Gathered W → Type 0) (rejects : List (List ℕ) → PostFault → Option W → Type 0)
    (callback : Option (List ℕ)) (documents : List (List ℕ)) (kept : Option W) (sent : Sent) where
  for_output : (output : Gathered W) → answers documents output → ForItems callback output kept sent → ForDocuments answers rejects callback documents kept sent
  for_output (Ok given) shown (inl holds) = inl (record { given = given; is_kept = holds.0; shown = shown; text = holds.1 })
  for_output (Ok given) shown (inr memory) = inr (inr (inr memory))
  for_output (Err (Unavailable witness)) shown holds = inr (inl (record { witness = witness; is_kept = holds.0; shown = shown; text = holds.1 }))
  for_output (Err Memory) shown memory = inr (inr (inr memory))

  -- The response for an output of the items' future is one for the documents, if each output of
  -- the future answers them.
  pub for_future : {I : Type 0} (gives : I → Gathered W → Type 0) (items : I) → ((output : Gathered W) → gives items output → answers documents output)
      → ForFuture gives callback items kept sent → ForDocuments answers rejects callback documents kept sent
  for_future gives items shown holds = for_output holds.0 (shown holds.0 holds.1.0) holds.1.1
