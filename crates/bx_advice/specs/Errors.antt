-- The texts of the errors in replies.
use Rattle.std.specs.Prelude.{ℕ, List, codes}
use Rattle.bx_advice.specs.declared.error.Error.{Error}
use Rattle.bx_advice.specs.declared.error.Error.TheVariants.{UnknownMetaChannel, SecondHandshake, UnsupportedVersion, NoSupportedConnectionType, TooManySessions, NoClientId, UnknownClient, UnknownConnectionType, InvalidChannel, InvalidPattern, TooManyPatterns, SubscriptionDenied, MissingSubscription, MissingData, SupersededConnect, QueueOverflow}

-- The text of an error in a reply: a code of three digits, two colons and a message.
abbrev pub error_text : Error → List ℕ
error_text UnknownMetaChannel = codes "404::Unknown meta channel"
error_text SecondHandshake = codes "400::Second handshake"
error_text UnsupportedVersion = codes "400::Unsupported version"
error_text NoSupportedConnectionType = codes "400::No supported connection type"
error_text TooManySessions = codes "503::Too many sessions"
error_text NoClientId = codes "401::No client id"
error_text UnknownClient = codes "402::Unknown client"
error_text UnknownConnectionType = codes "400::Unknown connection type"
error_text InvalidChannel = codes "400::Invalid channel"
error_text InvalidPattern = codes "400::Invalid pattern"
error_text TooManyPatterns = codes "400::Too many patterns"
error_text SubscriptionDenied = codes "403::Subscription denied"
error_text MissingSubscription = codes "400::Missing subscription"
error_text MissingData = codes "400::Missing data"
error_text SupersededConnect = codes "408::Superseded connect"
error_text QueueOverflow = codes "413::Queue overflow"
