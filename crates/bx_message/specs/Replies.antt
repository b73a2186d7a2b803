-- What a reply repeats from its message, and what it reports to the client.
use Rattle.std.specs.Prelude.{ℕ, List, codes, Option, Some, None}
use Rattle.bx_advice.specs.declared.{config.Config.Config, advice.Outcome.Outcome}
use Rattle.bx_advice.specs.Advice.{advice_of}
use Rattle.bx_message.specs.declared.{message.Message.Message, message_kind.MessageKind.MessageKind, reply.AckReply.AckReply, reply.Reply.Reply}
use Rattle.bx_message.specs.declared.message_kind.MessageKind.TheVariants.{Connect, Subscribe, Unsubscribe, Publish, UnknownMeta}

-- The client id in a reply. Replies to publishes and unknown meta channels have none.
abbrev pub client_for : MessageKind → Option (List ℕ) → Option (List ℕ)
client_for Publish client = None
client_for UnknownMeta client = None
client_for _ client = client

-- The `subscription` in a reply. Only replies to subscriptions and unsubscriptions have it, even if
-- the message is rejected.
abbrev pub subscription_for : MessageKind → Option (List ℕ) → Option (List ℕ)
subscription_for Subscribe subscription = subscription
subscription_for Unsubscribe subscription = subscription
subscription_for _ subscription = None

-- The reply to message `m` with `outcome` and `ack`, unless `m` is an accepted connect. `client`:
-- the client id of the message's session, if any.
abbrev pub reply_to : Config → MessageKind → Message → Option (List ℕ) → Outcome → AckReply → Reply
reply_to config message_kind m client outcome ack = record {
  message_kind = message_kind;
  channel = m.channel;
  client = client_for message_kind client;
  id = m.id;
  subscription = subscription_for message_kind m.subscription;
  outcome = outcome;
  advice = advice_of config outcome;
  ack = ack;
}

-- The reply to an accepted connect, whether it was held or not.
abbrev pub connect_reply : Config → List ℕ → Option (List ℕ) → Outcome → AckReply → Reply
connect_reply config client id outcome ack = record {
  message_kind = Connect;
  channel = codes "/meta/connect";
  client = Some client;
  id = id;
  subscription = None;
  outcome = outcome;
  advice = advice_of config outcome;
  ack = ack;
}
