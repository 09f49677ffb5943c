use Rattle.do_frames.proofs.payload.selector.+later_of.Goals as goal
use Rattle.std.proofs.Common.{◌≡◌, ℕ, ◌-◌, List, Ok, take, sym, subst, arith, rules}
use Rattle.do_frames.specs.Selectors.{colons_after, later_at}
use Rattle.do_frames.proofs.selectors.SelectorSteps.{later_ok}

pub returns-in-Ok-clause-gives : goal.returns-in-Ok-clause-gives
returns-in-Ok-clause-gives t c =
    let left = c.args.left in
    let after = c.in-Some.after.now in
    let rest = c.in-Ok.rest.now in
    let some = c.if-left-eq0.false in
    let read : later_at (left - 1) (colons_after c.args.colons c.in-Some.byte) after
    ≡ Ok (take (left - 1) after, rest) =
    subst (λ (n : ℕ). later_at (left - 1) n after ≡ Ok (take (left - 1) after, rest))
    c.with_byte.ensures.value c.in-Ok.ensures.gives in
    subst (λ (w : List ℕ). later_at left c.args.colons w ≡ Ok (take left w, rest))
    (sym c.in-Some.ensures)
    (later_ok c.args.colons c.in-Some.byte after left rest (omega arith) (search rules)
    read)
