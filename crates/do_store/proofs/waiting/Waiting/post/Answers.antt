use Rattle.do_store.proofs.waiting.Waiting.post.Goals as goal
use Rattle.std.proofs.Common.{◌≡◌, [], ◌∷◌, ◌++◌, arith, get_or, length, ap, ◌∙◌}
use Rattle.std.proofs.lemmas.{List.length-set, Option.slice_get-get_or}

pub invariant_of-self : goal.invariant_of-self
invariant_of-self c =
    let one : length c.self.inside.cells.queues ≡ 1 = c.self.invariant in
    let some = slice_get-get_or c.self.inside.cells.queues 0 [] (omega (arith, one)) in
    ap length (c.post.ensures.queues (get_or c.self.inside.cells.queues 0 []) some)
    ∙ length-set c.self.inside.cells.queues 0
    (get_or c.self.inside.cells.queues 0 [] ++ c.args.serial ∷ []) ∙ one
