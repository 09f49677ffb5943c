use Rattle.do_sorted.proofs.tree.keys.Tree+tuple2+K+V.+find.Goals as goal
use Rattle.std.{proofs.Common.{rules, T, sym, ap, ◌∙◌, subst}, specs.FinMap.{find, is_sorted}}
use Rattle.do_sorted.{specs.Tree.items_of, proofs.{Sides.sides_shorter, SidesSorted.sorted_before}}
use Rattle.do_sorted.proofs.SidesSorted.{sorted_behind, find_before, find_between, find_behind}

-- the keys before that of a node rise, and there are fewer of them
pub find-requires : goal.find-requires
find-requires g t c κs within =
    let whole = sym c.self.view_is ∙ ap items_of c.in-Fork.is in
    let sorted = sorted_before g.K.Ord.cmp _ _ _
    (subst (λ es. T (is_sorted g.K.Ord.cmp es)) whole c.requires) in
    let shorter = sides_shorter c.in-Fork.before.value c.in-Fork.row c.in-Fork.behind.value in
    let here = subst (λ es. T (is_sorted g.K.Ord.cmp es)) (sym c.deref.ensures) sorted in
    (search rules, (search rules, (search rules, here)))

-- the keys behind that of a node rise, and there are fewer of them
pub find-requires-in-Greater : goal.find-requires-in-Greater
find-requires-in-Greater g t c κs within =
    let whole = sym c.self.view_is ∙ ap items_of c.in-Fork.is in
    let sorted = sorted_behind g.K.Ord.cmp _ _ _
    (subst (λ es. T (is_sorted g.K.Ord.cmp es)) whole c.requires) in
    let shorter = sides_shorter c.in-Fork.before.value c.in-Fork.row c.in-Fork.behind.value in
    let here = subst (λ es. T (is_sorted g.K.Ord.cmp es)) (sym c.deref-in-Greater.ensures) sorted in
    (search rules, (search rules, (search rules, here)))

-- a key below that of a node has the value that it has before the node
pub returns-in-Less : goal.returns-in-Less
returns-in-Less g t c =
    let whole = sym c.self.view_is ∙ ap items_of c.in-Fork.is in
    c.find.ensures ∙ ap (find g.K.Ord.cmp c.args.key.now) c.deref.ensures
    ∙ sym (ap (find g.K.Ord.cmp c.args.key.now) whole
    ∙ find_before g.met.K.Ord.total _ _ _ _
    (subst (λ es. T (is_sorted g.K.Ord.cmp es)) whole c.requires) (sym c.in-Less.ensures))

-- the key of a node has the node's value
pub returns-in-Equal : goal.returns-in-Equal
returns-in-Equal g t c =
    let whole = sym c.self.view_is ∙ ap items_of c.in-Fork.is in
    sym (ap (find g.K.Ord.cmp c.args.key.now) whole
    ∙ find_between g.met.K.Ord.total _ _ _ _
    (subst (λ es. T (is_sorted g.K.Ord.cmp es)) whole c.requires) (sym c.in-Equal.ensures))

-- a key above that of a node has the value that it has behind the node
pub returns-in-Greater : goal.returns-in-Greater
returns-in-Greater g t c =
    let whole = sym c.self.view_is ∙ ap items_of c.in-Fork.is in
    c.find-in-Greater.ensures ∙ ap (find g.K.Ord.cmp c.args.key.now) c.deref-in-Greater.ensures
    ∙ sym (ap (find g.K.Ord.cmp c.args.key.now) whole
    ∙ find_behind g.met.K.Ord.total _ _ _ _
    (subst (λ es. T (is_sorted g.K.Ord.cmp es)) whole c.requires) (sym c.in-Greater.ensures))
