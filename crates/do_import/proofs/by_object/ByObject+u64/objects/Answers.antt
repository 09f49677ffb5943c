use Rattle.std.specs.FinMap as map
use Rattle.do_import.proofs.by_object.ByObject+u64.objects.Goals as goal
use Rattle.std.proofs.Common.{arith, ◌++◌, ◌∷◌, [], sym, ap, ◌∙◌, map as each}
use Rattle.std.{specs.Option.option_copied, proofs.lemmas.List.take_all}
use Rattle.do_import.{specs.ByObject.object_of, proofs.NextRow.{read_row, no_row}}

-- there is a row at each place
pub unreachable-requires : goal.unreachable-requires
unreachable-requires c =
    let ended = no_row (map.entries c.args.self.now.rows) c.loop-at.at
    (sym c.row.ensures ∙ ap option_copied c.in_default.is) in
    absurd (omega (arith, ended, c.loop-at-test.true, c.len-at-end.ensures))

-- the object of one more row
pub loop-at-preserved : goal.loop-at-preserved
loop-at-preserved c =
    let row = c.in-Some.row.now in
    c.in_ok-push.ensures.ok
    ∙ ap (λ l. l ++ object_of row.0 ∷ []) c.loop-at.invariant
    ∙ sym (read_row object_of (λ e. e.0) (map.entries c.args.self.now.rows) c.loop-at.at row
    (sym c.row.ensures ∙ ap option_copied c.in-Some.is))

-- the objects of all rows
pub returns : goal.returns
returns c =
    c.loop-at.invariant
    ∙ ap (λ es. each object_of (each (λ e. e.0) es))
    (take_all c.loop-at.at (map.entries c.args.self.now.rows)
    (omega (arith, c.loop-at-test.false, c.len-at-end.ensures)))
