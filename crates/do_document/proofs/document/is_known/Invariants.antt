use Rattle.do_document.proofs.document.is_known.Given as goal
use Rattle.std.{proofs.Common.{◌≡◌, drop, map}, specs.{List.list_any, Str.bytes_eq}}

abbrev pub invariant-loop-word : goal.invariant-loop-word
invariant-loop-word l =
    list_any (bytes_eq l.key) (map (λ k. k.now) l.known)
    ≡ list_any (bytes_eq l.key) (map (λ k. k.now) (drop l.word-index l.known))
