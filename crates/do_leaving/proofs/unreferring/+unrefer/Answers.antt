use Rattle.do_leaving.proofs.unreferring.+unrefer.Goals as goal
use Rattle.std.proofs.Common.{◌≡◌, ℕ, ◌+◌, ◌<◌, ◌++◌, List as Listed, length, get_or, drop, sym, ap}
use Rattle.std.proofs.{Common.{◌∙◌, arith}, lemmas.List.at_drop_more}
use Rattle.do_base.specs.{declared.values.value.Value.Value, values.Values.objects_of}
use Rattle.do_machine.specs.held.Refers.{objects_in}
use Rattle.do_import.specs.Imported.{Imported, all_off}
use Rattle.do_leaving.specs.Sweeping.{foreign, unused}
use Rattle.do_leaving.proofs.{SlotNames.objects-List, UsesOff.{off_rest, unused_more}}

-- a list names what its values name
pub unrefer_value-returns-in-List-clause-same : goal.unrefer_value-returns-in-List-clause-same
unrefer_value-returns-in-List-clause-same t c =
    c.unrefer_values.ensures.same
    ∙ ap (λ os. unused c.args.imports.now (foreign c.args.port os)
    c.unrefer_values.new.imports.spare)
    (sym (ap objects_of c.in-List.is ∙ objects-List c.in-List.values))

-- the objects of the values still to come are those of the first and of the others
split : (vs : Listed Value) (i : ℕ) (v : Value) → i < length vs → v ≡ get_or vs i v
    → objects_in (drop i vs) ≡ objects_of v ++ objects_in (drop (i + 1) vs)
split vs i v within is =
    at_drop_more objects_in vs i v within
    ∙ ap (λ w. objects_of w ++ objects_in (drop (i + 1) vs)) (sym is)

-- the objects of one more value were taken off
pub unrefer_values-loop-value-preserved : goal.unrefer_values-loop-value-preserved
unrefer_values-loop-value-preserved t c =
    let items = c.as_slice-value-items.result.now in
    let at = c.loop-value.value-index in
    let uses = c.loop-value.imports.uses in
    let v = c.value-item.result in
    let so = c.loop-value.invariant in
    let off = ap (λ (i : Imported). i.uses) c.unrefer_value.ensures.same in
    record {
      taken = off_rest c.args.port uses c.unrefer_value.new.imports.uses
          (all_off c.args.imports.now.uses (foreign c.args.port (objects_in items)))
          (objects_in (drop at items)) (objects_of v) (objects_in (drop (at + 1) items))
          (split items at v c.loop-value-test.true c.value-item.is) off so.taken;
      same = unused_more c.args.imports.now c.loop-value.imports c.unrefer_value.new.imports
          (foreign c.args.port (objects_of v)) so.same c.unrefer_value.ensures.same;
      spare = omega (arith, so.spare, c.unrefer_value.ensures.spare);
    }
