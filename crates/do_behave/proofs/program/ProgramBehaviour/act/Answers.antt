use Rattle.do_behave.proofs.program.ProgramBehaviour.act.Goals as goal
use Rattle.std.proofs.Common.{◌≡◌, ℕ, zero, suc, ◌<◌, List, [], ◌∷◌, Some, length, arith, sym, ◌∙◌}
use Rattle.std.specs.Prelude.{slice_get}
use Rattle.do_behave.specs.laws.CodeSuits.{ready-parts, within-weaker}

-- where an item is found, the list does not end before
found_below : {A : Type 0} (xs : List A) (k : ℕ) (x : A) → slice_get xs k ≡ Some x → k < length xs
found_below [] k x found = cc
found_below (y ∷ ys) zero x found = omega arith
found_below (y ∷ ys) (suc k) x found =
    let rest : k < length ys = found_below ys k x found in omega (arith, rest)

pub perform-requires : goal.perform-requires
perform-requires c =
    let inv = c.args.inv.now in
    let slots = c.args.slots.now in
    let code = c.in-Some.code.now in
    let i = c.in-Some-get.instruction.now in
    let parts =
    ready-parts c.args.table.now inv slots code
    (sym c.is_ready.ensures.ready ∙ c.if-not-is_ready.false) in
    let get = c.in-Some-get.ensures in
    let below : inv.pc < length code.instructions =
    found_below code.instructions inv.pc i (sym get.value) in
    record {
      within =
          within-weaker code.slots code.classes (length code.instructions) (length slots) 256 4096
          parts.1 (omega (arith, parts.2, c.is_ready.ensures.few)) get.short i get.within;
      room = omega (arith, below, get.short);
    }
