-- The advice for each outcome of a message.
use Rattle.std.specs.Prelude.{Option, Some, None, option_map}
use Rattle.bx_advice.specs.declared.{error.Error.Error, config.Config.Config, advice.Advice.Advice, advice.Reconnect.Reconnect, advice.Outcome.Outcome}
use Rattle.bx_advice.specs.declared.error.Error.TheVariants.{UnsupportedVersion, NoSupportedConnectionType, TooManySessions, NoClientId, UnknownClient, QueueOverflow}
use Rattle.bx_advice.specs.declared.advice.Reconnect.TheVariants.{Retry, Handshake, Never}
use Rattle.bx_advice.specs.declared.advice.Outcome.TheVariants.{Opened, Connected, Disconnected, Done, Failed}

-- Advice to connect again, with the interval and the timeout of the configuration.
abbrev pub retry : Config → Advice
retry c = record { interval = c.interval; reconnect = Retry; timeout = Some c.timeout }

-- Advice to do `reconnect`, which is not to connect again. It has the configured interval and no
-- timeout.
abbrev pub instead : Config → Reconnect → Advice
instead c reconnect = record { interval = c.interval; reconnect = reconnect; timeout = None }

-- What a client should do after an error, if anything. It should not reconnect if the server does
-- not support its version or connection types. It should handshake again if its client id is
-- missing or unknown, if its session overflowed, or if there were too many sessions. There is no
-- advice for other errors. Policy of this server.
abbrev pub reconnect_of : Error → Option Reconnect
reconnect_of UnsupportedVersion = Some Never
reconnect_of NoSupportedConnectionType = Some Never
reconnect_of TooManySessions = Some Handshake
reconnect_of NoClientId = Some Handshake
reconnect_of UnknownClient = Some Handshake
reconnect_of QueueOverflow = Some Handshake
reconnect_of _ = None

-- The advice for an outcome, if any. After a handshake or a connect that succeeded, it is to
-- connect again. For a held connect that a disconnect ended, it is `Never`. After an error, it is
-- what `reconnect_of` gives, if anything. Other outcomes have none.
abbrev pub advice_of : Config → Outcome → Option Advice
advice_of c Opened = Some (retry c)
advice_of c Connected = Some (retry c)
advice_of c Disconnected = Some (instead c Never)
advice_of c Done = None
advice_of c (Failed error) = option_map (instead c) (reconnect_of error)
