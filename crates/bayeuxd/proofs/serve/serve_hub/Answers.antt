use denote.Exit.{no}
use denote.Param.{param}
use denote.Param.Send.{IsSend, arg_send, param_send, sendable}
use denote.RattleType.{RattleType}
use Rattle.std.proofs.Crossing.{crosses}
use Rattle.bx_window.specs.declared.law.LogId as LogId
use Rattle.bx_window.proofs.front.Front.TheSendSync.{the_send}
use Rattle.bx_window.specs.contracts.front.Front
use Rattle.bx_entry.specs.contracts.placing.ByRemainder
use Rattle.bx_hub.specs.contracts.OpenGate
use Rattle.bx_hub.specs.contracts.kind.Kind
use Rattle.bx_hub.specs.contracts.parsed_request.rejection.Rejection
use Rattle.bx_hub.specs.contracts.shard_state.evidence.AddedWakers
use Rattle.bx_hub.specs.contracts.shard_state.evidence.ShardAdvance
use Rattle.bx_hub.specs.contracts.shard_state.taken.TakenEvidence
use Rattle.bx_service.specs.contracts.witness.HubWitness
use Rattle.bx_service.specs.contracts.witness.Lack
use Rattle.bx_service.specs.contracts.witness.Stamp
use Rattle.bayeuxd.proofs.serve.serve_hub.Goals as goal

-- The evidence of a hub may cross threads.
witness_send : (K : RattleType) (g : LogId.Ghosts K.Denot) → IsSend K → IsSend (HubWitness.the_row K g)
witness_send K g kind =
    let front : IsSend (Front.the_row K g) = the_send K g in
    let stamp : IsSend Stamp.the_row = search (crosses, sendable) depth 60 fits 20000 in
    let lack : IsSend (Lack.the_row K) = search (crosses, sendable) depth 60 fits 20000 in
    let taken : IsSend TakenEvidence.the_row = search (crosses, sendable) depth 60 fits 20000 in
    let woken : IsSend AddedWakers.the_row = search (crosses, sendable) depth 60 fits 20000 in
    let advance : IsSend (ShardAdvance.the_row K g) = search (crosses, sendable) depth 60 fits 20000 in
    let rejection : IsSend (Rejection.the_row K g) = search (crosses, sendable) depth 60 fits 20000 in
    search (crosses, sendable) depth 60 fits 1000000

pub serve_endpoints-requires-send-S-Witness : goal.serve_endpoints-requires-send-S-Witness
serve_endpoints-requires-send-S-Witness g c κs within =
    let kind : IsSend (Kind.the_row (param 0 g.row.L) ByRemainder.the_row OpenGate.the_row) = search (crosses, sendable) depth 60 fits 20000 in
    param_send _ _ (arg_send _ no _ (witness_send _ _ kind))
