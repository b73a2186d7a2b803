-- The data of pieces, joined in order.
use Rattle.std.proofs.Common.{[], ◌∷◌, ◌++◌, sym, ap, ◌∙◌}
use Rattle.http_body.specs.Frame.{bytes_in, joined_data}
use Rattle.bx_pieces.specs.Laws.{PiecesJoin}

pub pieces_join : PiecesJoin
pieces_join text [] given = sym given
pieces_join text (frame ∷ frames) (piece, (left, (it, (some, is, same, cut, given)))) =
    ap (λ f. bytes_in f.kind ++ joined_data frames) is ∙ ap (λ t. t ++ joined_data frames) same ∙ ap (λ t. piece ++ t) (pieces_join left frames given) ∙ sym cut
