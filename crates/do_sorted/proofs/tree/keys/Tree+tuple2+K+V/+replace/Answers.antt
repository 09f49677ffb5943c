use Rattle.do_sorted.proofs.tree.keys.Tree+tuple2+K+V.+replace.Goals as goal
use Rattle.std.proofs.Common.{rules, arith, ◌∷◌, ◌++◌, length, T, IsSome, Some, sym, ap, ◌∙◌, subst}
use Rattle.std.specs.FinMap.{find, put, is_sorted}
use Rattle.do_sorted.specs.Tree.{items_of, IsCounted}
use Rattle.do_sorted.proofs.{Sides.sides_shorter, RowOrGap.length-put_there}
use Rattle.do_sorted.proofs.SidesSorted.{sorted_before, sorted_behind, find_before, find_between}
use Rattle.do_sorted.proofs.SidesSorted.{find_behind, put_before, put_between, put_behind}

-- a key below that of a node is there before the node
pub replace-requires : goal.replace-requires
replace-requires g t c κs within =
    let whole = sym c.self.view_is ∙ ap items_of c.in-Fork.is in
    let sorted = subst (λ es. T (is_sorted g.K.Ord.cmp es)) whole c.requires.sorted in
    let there = subst (λ es. IsSome (find g.K.Ord.cmp c.args.key.now es)) whole c.requires.there in
    let before = find_before g.met.K.Ord.total _ _ _ _ sorted (sym c.in-Less.ensures) in
    let shorter = sides_shorter c.in-Fork.before.value (c.in-Fork.stored, c.in-Fork.old)
    c.in-Fork.behind.value in
    let rises = subst (λ es. T (is_sorted g.K.Ord.cmp es)) (sym c.deref_mut.ensures.value)
    (sorted_before g.K.Ord.cmp _ _ _ sorted) in
    let found = subst (λ es. IsSome (find g.K.Ord.cmp c.args.key.now es))
    (sym c.deref_mut.ensures.value) (subst IsSome before there) in
    (search rules, (search rules, (search rules, (rises, found))))

-- a key above that of a node is there behind the node
pub replace-requires-in-Greater : goal.replace-requires-in-Greater
replace-requires-in-Greater g t c κs within =
    let whole = sym c.self.view_is ∙ ap items_of c.in-Fork.is in
    let sorted = subst (λ es. T (is_sorted g.K.Ord.cmp es)) whole c.requires.sorted in
    let there = subst (λ es. IsSome (find g.K.Ord.cmp c.args.key.now es)) whole c.requires.there in
    let behind = find_behind g.met.K.Ord.total _ _ _ _ sorted (sym c.in-Greater.ensures) in
    let shorter = sides_shorter c.in-Fork.before.value (c.in-Fork.stored, c.in-Fork.old)
    c.in-Fork.behind.value in
    let rises = subst (λ es. T (is_sorted g.K.Ord.cmp es))
    (sym c.deref_mut-in-Greater.ensures.value) (sorted_behind g.K.Ord.cmp _ _ _ sorted) in
    let found = subst (λ es. IsSome (find g.K.Ord.cmp c.args.key.now es))
    (sym c.deref_mut-in-Greater.ensures.value) (subst IsSome behind there) in
    (search rules, (search rules, (search rules, (rises, found))))

-- another value before a node leaves as many rows there
pub invariant_of-self : goal.invariant_of-self
invariant_of-self g t c =
    let whole = sym c.self.view_is ∙ ap items_of c.in-Fork.is in
    let sorted = subst (λ es. T (is_sorted g.K.Ord.cmp es)) whole c.requires.sorted in
    let there = subst (λ es. IsSome (find g.K.Ord.cmp c.args.key.now es)) whole c.requires.there in
    let before = find_before g.met.K.Ord.total _ _ _ _ sorted (sym c.in-Less.ensures) in
    let counted = subst IsCounted c.in-Fork.is c.self.invariant in
    let same = ap length
    (c.replace.ensures.after
    ∙ ap (put g.K.Ord.cmp c.args.key.now c.args.value) c.deref_mut.ensures.value)
    ∙ length-put_there g.met.K.Ord.total c.args.key.now c.args.value c.in-Fork.before.value
    (sorted_before g.K.Ord.cmp _ _ _ sorted) (subst IsSome before there) in
    omega (arith, counted, same)

-- a key below that of a node had the value that it had before the node
pub returns-in-Less-clause-before : goal.returns-in-Less-clause-before
returns-in-Less-clause-before g t c =
    let whole = sym c.self.view_is ∙ ap items_of c.in-Fork.is in
    let sorted = subst (λ es. T (is_sorted g.K.Ord.cmp es)) whole c.requires.sorted in
    ap (find g.K.Ord.cmp c.args.key.now) whole
    ∙ find_before g.met.K.Ord.total _ _ _ _ sorted (sym c.in-Less.ensures)
    ∙ ap (find g.K.Ord.cmp c.args.key.now) (sym c.deref_mut.ensures.value)
    ∙ c.replace.ensures.before

-- a value put before a node is put there in all rows
pub returns-in-Less-clause-after : goal.returns-in-Less-clause-after
returns-in-Less-clause-after g t c =
    let whole = sym c.self.view_is ∙ ap items_of c.in-Fork.is in
    let rest = (c.in-Fork.stored, c.in-Fork.old) ∷ c.in-Fork.behind.value in
    ap (λ es. es ++ rest)
    (c.replace.ensures.after
    ∙ ap (put g.K.Ord.cmp c.args.key.now c.args.value) c.deref_mut.ensures.value)
    ∙ sym (ap (put g.K.Ord.cmp c.args.key.now c.args.value) whole
    ∙ put_before g.K.Ord.cmp c.args.key.now c.args.value c.in-Fork.before.value
    (c.in-Fork.stored, c.in-Fork.old) c.in-Fork.behind.value (sym c.in-Less.ensures))

-- another value behind a node leaves as many rows there
pub invariant_of-self-in-Greater : goal.invariant_of-self-in-Greater
invariant_of-self-in-Greater g t c =
    let whole = sym c.self.view_is ∙ ap items_of c.in-Fork.is in
    let sorted = subst (λ es. T (is_sorted g.K.Ord.cmp es)) whole c.requires.sorted in
    let there = subst (λ es. IsSome (find g.K.Ord.cmp c.args.key.now es)) whole c.requires.there in
    let behind = find_behind g.met.K.Ord.total _ _ _ _ sorted (sym c.in-Greater.ensures) in
    let counted = subst IsCounted c.in-Fork.is c.self.invariant in
    let same = ap length
    (c.replace-in-Greater.ensures.after
    ∙ ap (put g.K.Ord.cmp c.args.key.now c.args.value) c.deref_mut-in-Greater.ensures.value)
    ∙ length-put_there g.met.K.Ord.total c.args.key.now c.args.value c.in-Fork.behind.value
    (sorted_behind g.K.Ord.cmp _ _ _ sorted) (subst IsSome behind there) in
    omega (arith, counted, same)

-- a key above that of a node had the value that it had behind the node
pub returns-in-Greater-clause-before : goal.returns-in-Greater-clause-before
returns-in-Greater-clause-before g t c =
    let whole = sym c.self.view_is ∙ ap items_of c.in-Fork.is in
    let sorted = subst (λ es. T (is_sorted g.K.Ord.cmp es)) whole c.requires.sorted in
    ap (find g.K.Ord.cmp c.args.key.now) whole
    ∙ find_behind g.met.K.Ord.total _ _ _ _ sorted (sym c.in-Greater.ensures)
    ∙ ap (find g.K.Ord.cmp c.args.key.now) (sym c.deref_mut-in-Greater.ensures.value)
    ∙ c.replace-in-Greater.ensures.before

-- a value put behind a node is put there in all rows
pub returns-in-Greater-clause-after : goal.returns-in-Greater-clause-after
returns-in-Greater-clause-after g t c =
    let whole = sym c.self.view_is ∙ ap items_of c.in-Fork.is in
    let sorted = subst (λ es. T (is_sorted g.K.Ord.cmp es)) whole c.requires.sorted in
    ap (λ es. c.in-Fork.before.value ++ (c.in-Fork.stored, c.in-Fork.old) ∷ es)
    (c.replace-in-Greater.ensures.after
    ∙ ap (put g.K.Ord.cmp c.args.key.now c.args.value) c.deref_mut-in-Greater.ensures.value)
    ∙ sym (ap (put g.K.Ord.cmp c.args.key.now c.args.value) whole
    ∙ put_behind g.met.K.Ord.total c.args.key.now c.args.value c.in-Fork.before.value
    (c.in-Fork.stored, c.in-Fork.old) c.in-Fork.behind.value sorted (sym c.in-Greater.ensures))

-- the key of a node had the node's value
pub returns-clause-before : goal.returns-clause-before
returns-clause-before g t c =
    let whole = sym c.self.view_is ∙ ap items_of c.in-Fork.is in
    let sorted = subst (λ es. T (is_sorted g.K.Ord.cmp es)) whole c.requires.sorted in
    ap (find g.K.Ord.cmp c.args.key.now) whole
    ∙ find_between g.met.K.Ord.total _ _ _ _ sorted (sym c.in-Equal.ensures)
    ∙ ap (λ v. Some v) (sym c.replace-2.ensures.value)

-- a value put at a node's key is put into the node's row
pub returns-clause-after : goal.returns-clause-after
returns-clause-after g t c =
    let whole = sym c.self.view_is ∙ ap items_of c.in-Fork.is in
    let sorted = subst (λ es. T (is_sorted g.K.Ord.cmp es)) whole c.requires.sorted in
    ap (λ v. c.in-Fork.before.value ++ (c.in-Fork.stored, v) ∷ c.in-Fork.behind.value)
    c.replace-2.ensures.after
    ∙ sym (ap (put g.K.Ord.cmp c.args.key.now c.args.value) whole
    ∙ put_between g.met.K.Ord.total c.args.key.now c.args.value c.in-Fork.before.value
    (c.in-Fork.stored, c.in-Fork.old) c.in-Fork.behind.value sorted (sym c.in-Equal.ensures))
