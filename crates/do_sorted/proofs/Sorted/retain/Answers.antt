use Rattle.do_sorted.proofs.Sorted.retain.Goals as goal
use Rattle.std.proofs.Common.{arith, sym, ap, ◌∙◌, length, refl, subst}
use denote.Param.Always.{mut_next}
use Rattle.std.specs.{Option.option_copied, Fn.CalledAt}
use Rattle.std.proofs.lemmas.{Option.{slice_get_within, slice_get_past}, List.Edits.length-remove}
use Rattle.do_sorted.proofs.Retained.{Retaining, passes, fails, ends}

-- a row that passes the test stays, and is passed over
pub loop-at-preserved-then-keep : goal.loop-at-preserved-then-keep
loop-at-preserved-then-keep g c =
    let so = c.loop-at.invariant in
    let at = sym c.row.ensures.value ∙ ap option_copied c.in-Some.is in
    let within = slice_get_within c.loop-at.self.rows c.loop-at.at _ at in (
      λ h. mut_next g.F.FnMut _ _ _ _ _ c.keep.ensures refl (so.0 h),
      passes (CalledAt g.F.FnMut) c.args.keep c.args.self.now.rows c.loop-at.keep c.keep.new.self
          c.loop-at.self.rows c.loop-at.at c.in-Some.row.now so.1 at
          (record { shown = c.in-Some.row; shows = refl; called = c.if-keep.ensures }),
      so.2,
      omega (arith, within),
      so.4,
    )

-- a row that fails the test is taken out, and the next one stands in its place
pub loop-at-preserved : goal.loop-at-preserved
loop-at-preserved g c =
    let so = c.loop-at.invariant in
    let at = sym c.row.ensures.value ∙ ap option_copied c.in-Some.is in
    let within = slice_get_within c.loop-at.self.rows c.loop-at.at _ at in
    let short = length-remove c.loop-at.self.rows c.loop-at.at within in
    let left = ap length c.remove_at.ensures.rest in
    let spare = c.remove_at.ensures.spare in
    let same = so.2 in
    let more = so.4 in (
      λ h. mut_next g.F.FnMut _ _ _ _ _ c.keep.ensures refl (so.0 h),
      subst
          (λ es. Retaining (CalledAt g.F.FnMut) c.args.keep c.args.self.now.rows c.keep.new.self es
          c.loop-at.at) (sym c.remove_at.ensures.rest)
          (fails (CalledAt g.F.FnMut) c.args.keep c.args.self.now.rows c.loop-at.keep
          c.keep.new.self c.loop-at.self.rows c.loop-at.at c.in-Some.row.now so.1 at
          (record { shown = c.in-Some.row; shows = refl; called = c.if-keep.ensures })),
      omega (arith, short, left, spare, same),
      omega (arith, short, left, within),
      omega (arith, spare, more),
    )

-- past the last row each was tested
pub returns-clause-filtered : goal.returns-clause-filtered
returns-clause-filtered g c =
    ends (CalledAt g.F.FnMut) c.args.keep c.args.self.now.rows c.loop-at.keep c.loop-at.self.rows
    c.loop-at.at c.loop-at.invariant.1
    (slice_get_past c.loop-at.self.rows c.loop-at.at
    (omega (arith, c.loop-at-test.false, c.len.ensures)))
