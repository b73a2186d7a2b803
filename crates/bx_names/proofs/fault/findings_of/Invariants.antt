use Rattle.std.proofs.Common.{◌≡◌, ◌||◌, false, take, drop}
use Rattle.std.specs.List.{list_any, count_by}
use Rattle.bx_names.specs.Words.{is_slash, is_bad_byte}
use Rattle.bx_names.proofs.WalkLemmas.{has_gap}
use Rattle.bx_names.proofs.fault.findings_of.Given as goal

abbrev pub invariant-loop-byte : goal.invariant-loop-byte
invariant-loop-byte l = record {
  counted : l.segments ≡ count_by is_slash (take l.byte-index l.byte-items);
  bad : l.has_bad_byte ≡ list_any is_bad_byte (take l.byte-index l.byte-items);
  gap : (l.has_empty_segment || has_gap l.after_slash (drop l.byte-index l.byte-items)) ≡ has_gap false l.byte-items;
}
