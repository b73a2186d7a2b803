-- The definitions of this crate, for files that import several.
pub use Rattle.bx_names.specs.Equality.{same_glob-decides, same_segments-decides, same_tail-decides}
pub use Rattle.bx_names.specs.Faults.{first_case, has_bad_byte, has_star, is_bad_byte, is_star, name_fault, path_fault, pattern_fault, read_by, read_name, read_pattern}
pub use Rattle.bx_names.specs.Globs.{Glob, any_matches, ending_in, glob_of, glob_text, last_segment, matches, matches_by, same_glob, same_segments, same_tail, tail_of}
pub use Rattle.bx_names.specs.InForce.{in_force, with_pattern, without_pattern}
pub use Rattle.bx_names.specs.Kinds.{is_broadcast, is_meta, is_service}
pub use Rattle.bx_names.specs.Segments.{is_absolute, is_empty, is_path, is_slash, parts, path_of, segments}
