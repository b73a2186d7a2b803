-- The definitions of this crate, for files that import several.
pub use Rattle.bx_cut.specs.{Bodies.texts_of, Faults.all_objects, Faults.value_fault, Strings.spelled, Views.member_view}
pub use Rattle.bx_cut.specs.Cut.{IsRest, Member, begins_with, closes, first_and_more, is_word_byte, listed, opens, outside, past_blank, past_byte, then_more}
unfoldable pub use Rattle.bx_cut.specs.Cut.{after_first, nest_len, separated, split_member, split_value, value_len}
unfoldable pub use Rattle.bx_cut.specs.Faults.{fault}
pub use Rattle.bx_cut.specs.Laws.{AreElementsOf, AreObjectsOf, ArePiecesOf, AreTextsOf, BeginsBare, EndsBare, GoesOnIn, IsBare, IsBlank, IsObjectOf, IsShut, LieIn, StandsIn}
pub use Rattle.bx_cut.specs.Pieces.{Object, closed, elements, elements_inside, is_name, last_member, later_or, member_text, members, members_inside, only, pieces, pieces_of}
unfoldable pub use Rattle.bx_cut.specs.Pieces.{split_object}
