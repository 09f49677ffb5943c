use Rattle.do_sig.proofs.types.spelling.+print.Given as goal
use Rattle.std.{proofs.Common.{◌≡◌, ◌++◌, take, map}, specs.List.flat_map}
use Rattle.do_sig.specs.Types.{type_spelling}

abbrev pub invariant-push_members-loop-member : goal.invariant-push_members-loop-member
invariant-push_members-loop-member l =
    l.out ≡ l.fn.out ++ flat_map (λ m. m) (map type_spelling (take l.member-index l.member-items))
