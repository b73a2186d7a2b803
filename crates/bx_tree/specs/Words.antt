-- The definitions of this crate, for files that import several.
pub use Rattle.bx_tree.specs.Lists.{IsIndexAt, IsIndexOf, KeepsOthers, has_number, lists_of, stands_at, stands_for}
pub use Rattle.bx_tree.specs.{Once.AreOnce, Patterns.patterns_of, Walks.is_end, Walks.is_met, Whole.AreWhole}
