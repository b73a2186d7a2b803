use Rattle.std.proofs.Common.{◌≡◌, ◌++◌, map, option_map, codes, string_bytes}
use Rattle.form_urlencoded.specs.Parse.{raw_pairs_left}
use Rattle.bx_transport.specs.Forms.{last_of, latest, values_among, values_of}
use Rattle.bx_transport.proofs.form.read_parameters.Given as goal

abbrev pub invariant-loop-name : goal.invariant-loop-name
invariant-loop-name l =
    (map string_bytes l.parameters.documents.items ++ values_among (codes "message") (raw_pairs_left l.name-iterator) ≡ values_of (codes "message") l.form)
    × (latest (option_map string_bytes l.parameters.callback) (values_among (codes "jsonp") (raw_pairs_left l.name-iterator)) ≡ last_of (values_of (codes "jsonp") l.form))
