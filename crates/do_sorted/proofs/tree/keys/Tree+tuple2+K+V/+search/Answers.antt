use Rattle.do_sorted.proofs.tree.keys.Tree+tuple2+K+V.+search.Goals as goal
use Rattle.std.proofs.Common.{rules, arith, suc, ◌+◌, ◌-◌, ◌∷◌, length, T, IfOk, IfErr, sym, ap}
use Rattle.std.{proofs.Common.{◌∙◌, subst}, specs.{Ordering.is_lt, FinMap.is_sorted}}
use Rattle.do_sorted.specs.{Places.{IsRowOf, IsGapFor}, Tree.{items_of, IsCounted}}
use Rattle.do_sorted.proofs.{Sides.sides_shorter, RowOrGap.{row_within, gap_within}}
use Rattle.do_sorted.proofs.SidesSorted.{sorted_before, sorted_behind, found_before, absent_before}
use Rattle.do_sorted.proofs.SidesSorted.{rows_below, row_past, gap_past}

-- the keys before that of a node rise, and there are fewer of them
pub search-requires : goal.search-requires
search-requires g t c κs within =
    let whole = sym c.self.view_is ∙ ap items_of c.in-Fork.is in
    let sorted = sorted_before g.K.Ord.cmp _ _ _
    (subst (λ es. T (is_sorted g.K.Ord.cmp es)) whole c.requires) in
    let shorter = sides_shorter c.in-Fork.before.value c.in-Fork.row c.in-Fork.behind.value in
    let here = subst (λ es. T (is_sorted g.K.Ord.cmp es)) (sym c.deref-in-Less.ensures) sorted in
    (search rules, (search rules, (search rules, here)))

-- the keys behind that of a node rise, and there are fewer of them
pub search-requires-in-Greater : goal.search-requires-in-Greater
search-requires-in-Greater g t c κs within =
    let whole = sym c.self.view_is ∙ ap items_of c.in-Fork.is in
    let sorted = sorted_behind g.K.Ord.cmp _ _ _
    (subst (λ es. T (is_sorted g.K.Ord.cmp es)) whole c.requires) in
    let shorter = sides_shorter c.in-Fork.before.value c.in-Fork.row c.in-Fork.behind.value in
    let here = subst (λ es. T (is_sorted g.K.Ord.cmp es)) (sym c.deref-in-Greater.ensures) sorted in
    (search rules, (search rules, (search rules, here)))

-- a place behind a node is below the number of all rows
pub overflow_add-result : goal.overflow_add-result
overflow_add-result g t c =
    let within = row_within g.met.K.Ord.total _ _ _ c.in-Ok.ensures.found in
    search rules

-- a gap behind a node is at most the number of all rows
pub overflow_add-result-in-Err : goal.overflow_add-result-in-Err
overflow_add-result-in-Err g t c =
    let within = gap_within g.met.K.Ord.total _ _ _ c.in-Err.ensures.absent in
    search rules

-- a key found before a node is found there in all rows
pub returns-in-Less-clause-found : goal.returns-in-Less-clause-found
returns-in-Less-clause-found g t c =
    let whole = sym c.self.view_is ∙ ap items_of c.in-Fork.is in
    subst (λ es. IfOk c.search.result (IsRowOf g.K.Ord.cmp c.args.key.now es)) (sym whole)
    (found_before g.K.Ord.cmp c.args.key.now c.in-Fork.before.value c.in-Fork.row
    c.in-Fork.behind.value c.search.result
    (subst (λ es. IfOk c.search.result (IsRowOf g.K.Ord.cmp c.args.key.now es))
    c.deref-in-Less.ensures c.search.ensures.found))

-- the gap for a key before a node is its gap in all rows
pub returns-in-Less-clause-absent : goal.returns-in-Less-clause-absent
returns-in-Less-clause-absent g t c =
    let whole = sym c.self.view_is ∙ ap items_of c.in-Fork.is in
    subst (λ es. IfErr c.search.result (IsGapFor g.K.Ord.cmp c.args.key.now es)) (sym whole)
    (absent_before g.K.Ord.cmp c.args.key.now c.in-Fork.before.value c.in-Fork.row
    c.in-Fork.behind.value c.search.result (sym c.in-Less.ensures)
    (subst (λ es. IfErr c.search.result (IsGapFor g.K.Ord.cmp c.args.key.now es))
    c.deref-in-Less.ensures c.search.ensures.absent))

-- the key of a node stands behind those before it
pub returns-in-Equal-clause-found : goal.returns-in-Equal-clause-found
returns-in-Equal-clause-found g t c =
    let whole = sym c.self.view_is ∙ ap items_of c.in-Fork.is in
    let sorted = subst (λ es. T (is_sorted g.K.Ord.cmp es)) whole c.requires in
    let counted = subst IsCounted c.in-Fork.is c.self.invariant in
    let behind = ap length c.deref.ensures in
    let i = c.in-Fork.len - c.len.result - 1 in
    subst (λ es. IsRowOf g.K.Ord.cmp c.args.key.now es i) (sym whole)
    (row_past g.K.Ord.cmp _ _ (c.in-Fork.row ∷ c.in-Fork.behind.value) i 0
    (rows_below g.met.K.Ord.total _ _ _ _ sorted (ap is_lt (sym c.in-Equal.ensures)))
    (sym c.in-Equal.ensures) (omega (arith, counted, behind, c.len.ensures)))

-- a key found behind a node is found so far on in all rows
pub returns-in-Ok-clause-found : goal.returns-in-Ok-clause-found
returns-in-Ok-clause-found g t c =
    let whole = sym c.self.view_is ∙ ap items_of c.in-Fork.is in
    let sorted = subst (λ es. T (is_sorted g.K.Ord.cmp es)) whole c.requires in
    let counted = subst IsCounted c.in-Fork.is c.self.invariant in
    let behind = ap length c.deref.ensures in
    let i = c.in-Fork.len - c.len.result + c.in-Ok.at in
    let found = subst (λ es. IsRowOf g.K.Ord.cmp c.args.key.now es c.in-Ok.at)
    c.deref-in-Greater.ensures c.in-Ok.ensures.found in
    subst (λ es. IsRowOf g.K.Ord.cmp c.args.key.now es i) (sym whole)
    (row_past g.K.Ord.cmp _ _ (c.in-Fork.row ∷ c.in-Fork.behind.value) i (suc c.in-Ok.at)
    (rows_below g.met.K.Ord.total _ _ _ _ sorted (ap is_lt (sym c.in-Greater.ensures)))
    (sym c.in-Greater.ensures, found) (omega (arith, counted, behind, c.len.ensures)))

-- the gap for a key behind a node is its gap so far on in all rows
pub returns-in-Err-clause-absent : goal.returns-in-Err-clause-absent
returns-in-Err-clause-absent g t c =
    let whole = sym c.self.view_is ∙ ap items_of c.in-Fork.is in
    let sorted = subst (λ es. T (is_sorted g.K.Ord.cmp es)) whole c.requires in
    let counted = subst IsCounted c.in-Fork.is c.self.invariant in
    let behind = ap length c.deref.ensures in
    let i = c.in-Fork.len - c.len.result + c.in-Err.at in
    let absent = subst (λ es. IsGapFor g.K.Ord.cmp c.args.key.now es c.in-Err.at)
    c.deref-in-Greater.ensures c.in-Err.ensures.absent in
    subst (λ es. IsGapFor g.K.Ord.cmp c.args.key.now es i) (sym whole)
    (gap_past g.K.Ord.cmp _ _ (c.in-Fork.row ∷ c.in-Fork.behind.value) i (suc c.in-Err.at)
    (rows_below g.met.K.Ord.total _ _ _ _ sorted (ap is_lt (sym c.in-Greater.ensures)))
    (sym c.in-Greater.ensures, absent) (omega (arith, counted, behind, c.len.ensures)))
