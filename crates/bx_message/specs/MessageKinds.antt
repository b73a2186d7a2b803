-- The kinds of messages, by their channels.
use Rattle.std.specs.Prelude.{Bool, List, ℕ, codes, if◌then◌else◌}
use Rattle.std.specs.Str.{bytes_eq}
use Rattle.bx_names.specs.Kinds.{is_meta}
use Rattle.bx_message.specs.declared.{message.Message.Message, message_kind.MessageKind.MessageKind}
use Rattle.bx_message.specs.declared.message_kind.MessageKind.TheVariants.{Handshake, Connect, Subscribe, Unsubscribe, Disconnect, Publish, UnknownMeta}

-- The kind of a message to a channel.
abbrev pub message_kind_of : List ℕ → MessageKind
message_kind_of channel =
    if bytes_eq channel (codes "/meta/handshake") then Handshake
    else (if bytes_eq channel (codes "/meta/connect") then Connect
    else (if bytes_eq channel (codes "/meta/subscribe") then Subscribe
    else (if bytes_eq channel (codes "/meta/unsubscribe") then Unsubscribe
    else (if bytes_eq channel (codes "/meta/disconnect") then Disconnect
    else (if is_meta channel then UnknownMeta else Publish)))))

-- Whether a message is a handshake: its channel is `/meta/handshake`.
abbrev pub is_handshake : Message → Bool
is_handshake m = bytes_eq m.channel (codes "/meta/handshake")

-- Whether a message is a connect: its channel is `/meta/connect`.
abbrev pub is_connect : Message → Bool
is_connect m = bytes_eq m.channel (codes "/meta/connect")
