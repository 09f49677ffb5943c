use Rattle.do_document.proofs.document.unknown_key.Given as goal
use Rattle.std.proofs.Common.{◌≡◌, map, not, string_bytes}
use Rattle.std.specs.{List.{find, list_any}, Str.bytes_eq}
use Rattle.toml.specs.View.{table_view}
use Rattle.do_document.specs.Document.{keys}

abbrev pub invariant-loop-key : goal.invariant-loop-key
invariant-loop-key l =
    find (λ key. not (list_any (bytes_eq key) (map (λ k. k.now) l.known)))
    (map string_bytes l.key-iterator)
    ≡ find (λ key. not (list_any (bytes_eq key) (map (λ k. k.now) l.known)))
    (keys (table_view l.table))
