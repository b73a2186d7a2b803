-- The kinds of channels, by the beginning of their names.
use Rattle.std.specs.Prelude.{ℕ, ◌&&◌, not, Bool, List, nat_eq, codes, if◌then◌else◌}
use Rattle.std.specs.List.{starts_with}
use Rattle.bx_names.specs.declared.kind.ChannelKind.{ChannelKind}
use Rattle.bx_names.specs.declared.kind.ChannelKind.TheVariants.{Meta, Service, Broadcast}

-- Whether a text begins with `/meta/`.
abbrev pub is_meta : List ℕ → Bool
is_meta text = starts_with nat_eq text (codes "/meta/")

-- Whether a text begins with `/service/`.
abbrev pub is_service : List ℕ → Bool
is_service text = starts_with nat_eq text (codes "/service/")

-- The kind of a channel, by the beginning of its name. `/meta` and `/service` themselves are
-- broadcast channels.
abbrev pub kind_of : List ℕ → ChannelKind
kind_of text = if is_meta text then Meta else (if is_service text then Service else Broadcast)

-- Whether a text begins with neither `/meta/` nor `/service/`.
abbrev pub is_broadcast : List ℕ → Bool
is_broadcast text = not (is_meta text) && not (is_service text)
