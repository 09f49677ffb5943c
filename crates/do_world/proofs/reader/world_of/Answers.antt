use Rattle.do_world.proofs.reader.world_of.Goals as goal
use Rattle.std.proofs.{Common.{map, ap, ◌∙◌}, lemmas.Result.err_from_is_err_and}
use Rattle.toml.specs.View.{table_view}
use Rattle.do_world.proofs.PartsInOrder.{fault_codes, fault_seats, world_found}

pub returns-in_err-codes : goal.returns-in_err-codes
returns-in_err-codes c =
    let p = err_from_is_err_and c.from_residual-in_err-codes.result
    c.from_residual-in_err-codes.ensures.1 in
    let listed = ap (map (λ t. table_view t.now)) c.as_slice-listed.ensures.value
    ∙ c.in_ok-classes.ensures in
    rw (p.1, p.2) (fault_codes (table_view c.args.document.now)
    (map (λ t. table_view t.now) c.as_slice-listed.result.now) c.in_ok-made.made.table listed
    c.in_ok-check_top.ensures.0 c.in_ok-made.ensures.0 c.in_ok-made.ensures.1.0.0
    c.in_err-codes.field-0.0 c.in_err-codes.ensures)

pub returns-in_err-nodes : goal.returns-in_err-nodes
returns-in_err-nodes c =
    let p = err_from_is_err_and c.from_residual-in_err-nodes.result
    c.from_residual-in_err-nodes.ensures.1 in
    let listed = ap (map (λ t. table_view t.now)) c.as_slice-listed.ensures.value
    ∙ c.in_ok-classes.ensures in
    let seated = ap (map (λ t. table_view t.now)) c.as_slice.ensures.value
    ∙ c.in_ok-seats.ensures in
    rw (p.1, p.2) (fault_seats (table_view c.args.document.now)
    (map (λ t. table_view t.now) c.as_slice-listed.result.now) c.in_ok-made.made.table listed
    c.in_ok-check_top.ensures.0 c.in_ok-made.ensures.0 c.in_ok-made.ensures.1.0.0
    (map (λ t. table_view t.now) c.as_slice.result.now) seated c.in_ok-codes.ensures.0
    c.in_err-nodes.field-0.0 c.in_err-nodes.ensures)

pub returns : goal.returns
returns c =
    let listed = ap (map (λ t. table_view t.now)) c.as_slice-listed.ensures.value
    ∙ c.in_ok-classes.ensures in
    let seated = ap (map (λ t. table_view t.now)) c.as_slice.ensures.value
    ∙ c.in_ok-seats.ensures in
    let made = c.in_ok-made.ensures.1 in
    world_found (table_view c.args.document.now)
    (map (λ t. table_view t.now) c.as_slice-listed.result.now)
    (map (λ t. table_view t.now) c.as_slice.result.now) c.in_ok-made.made.table
    c.in_ok-made.made.kinds c.in_ok-made.made.rules c.in_ok-codes.codes c.new-program.result
    c.in_ok-nodes.nodes listed seated c.in_ok-check_top.ensures.0 c.in_ok-check_top.ensures.1
    c.in_ok-made.ensures.0
    (record {
      table_said = made.0.0;
      kinds_said = made.0.1;
      rules_said = made.0.2;
      typed = made.3;
      kinded = made.4;
      denials = c.rules_are_ranged.ensures;
    }) c.in_ok-codes.ensures c.in_ok-nodes.ensures c.new-program.ensures
    c.codes_are_ranged.ensures
