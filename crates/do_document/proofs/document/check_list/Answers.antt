use Rattle.do_document.proofs.document.check_list.Goals as goal
use Rattle.std.proofs.Common.{◌≡◌, ◌<◌, ◌≤◌, ◌∙◌, Some, None, arith, ap, length, get_or, false, map}
use Rattle.std.proofs.lemmas.{Grind.common_steps, List.length-map, Result.err_from_is_err_and}
use Rattle.toml.specs.{Data.get_member, View.{table_view, view}}
use Rattle.do_document.specs.{Checks.{first_among, is_of_kind, member_fault}, Document.members_at}
use Rattle.do_document.{specs.Paths.path, proofs.{Finding.turn_end, InOrder.told}}
use Rattle.do_document.proofs.ListSteps.{list_absent, list_members, list_wrong, member_wrong}
use Rattle.do_document.proofs.ListSteps.{members_absent, members_there}

pub returns-in_default : goal.returns-in_default
returns-in_default c =
    let none : get_member c.args.key.now (table_view c.args.table.now) ≡ None =
    grind (arith, common_steps, c.value_at.ensures, c.in_default.ensures) in
    let empty = members_absent c.args.key.now (table_view c.args.table.now) none in
    let few : length (members_at c.args.key.now (table_view c.args.table.now)) ≤ c.args.most =
    rw (← empty) (omega arith) in
    (list_absent _ _ _ _ _ _ none, few)

pub returns-in_err-list : goal.returns-in_err-list
returns-in_err-list c =
    let there : get_member c.args.key.now (table_view c.args.table.now)
    ≡ Some (view c.in-Some.value.now) =
    grind (arith, common_steps, c.value_at.ensures, c.in-Some.ensures) in
    let p = err_from_is_err_and c.from_residual.result c.from_residual.ensures.1 in
    rw (p.1, p.2) (list_wrong _ _ _ _ _ _ (view c.in-Some.value.now) c.in_err-list.field-0.0
    there c.in_err-list.ensures)

pub returns-then-not-is_of : goal.returns-then-not-is_of
returns-then-not-is_of c =
    let there : get_member c.args.key.now (table_view c.args.table.now)
    ≡ Some (view c.in-Some.value.now) =
    grind (arith, common_steps, c.value_at.ensures, c.in-Some.ensures) in
    let within : c.loop-k.k < length c.in_ok-list.list.now = grind (arith, common_steps) in
    let is_there : c.index-list-k.result
    ≡ get_or c.in_ok-list.list.now c.loop-k.k c.index-list-k.result = grind (arith, common_steps) in
    let other : is_of_kind c.args.kind (view c.index-list-k.result) ≡ false =
    grind (arith, common_steps, c.if-not-is_of.true, c.is_of.ensures) in
    let bad =
    member_wrong (path c.args.place c.args.key.now) c.args.kind c.in_ok-list.list.now c.loop-k.k
    c.index-list-k.result
    (first_among (member_fault (path c.args.place c.args.key.now) c.args.kind)
    (map view c.in_ok-list.list.now)) within is_there c.loop-k.invariant other in
    let same =
    list_members c.args.place c.args.key.now c.args.least c.args.most c.args.kind
    (table_view c.args.table.now) (view c.in-Some.value.now) c.in_ok-list.list.now there
    c.in_ok-list.ensures.1.0 c.in_ok-list.ensures.0 in
    told _ _ _ (same ∙ bad) c.wrong_member.ensures

pub returns : goal.returns
returns c =
    let there : get_member c.args.key.now (table_view c.args.table.now)
    ≡ Some (view c.in-Some.value.now) =
    grind (arith, common_steps, c.value_at.ensures, c.in-Some.ensures) in
    let past : length c.in_ok-list.list.now ≤ c.loop-k.k = grind (arith, common_steps) in
    let none =
    turn_end (member_fault (path c.args.place c.args.key.now) c.args.kind) view
    c.in_ok-list.list.now c.loop-k.k
    (first_among (member_fault (path c.args.place c.args.key.now) c.args.kind)
    (map view c.in_ok-list.list.now)) past c.loop-k.invariant in
    let same =
    list_members c.args.place c.args.key.now c.args.least c.args.most c.args.kind
    (table_view c.args.table.now) (view c.in-Some.value.now) c.in_ok-list.list.now there
    c.in_ok-list.ensures.1.0 c.in_ok-list.ensures.0 in
    let listed =
    members_there c.args.key.now (table_view c.args.table.now) (view c.in-Some.value.now)
    c.in_ok-list.list.now there c.in_ok-list.ensures.1.0 in
    let count : length (map view c.in_ok-list.list.now)
    ≡ length (members_at c.args.key.now (table_view c.args.table.now)) = ap length listed in
    let few : length (members_at c.args.key.now (table_view c.args.table.now)) ≤ c.args.most =
    omega (arith, count, length-map c.in_ok-list.list.now view, c.in_ok-list.ensures.1.1) in
    (same ∙ none, few)
