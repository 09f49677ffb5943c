use Rattle.do_leaving.proofs.laws.occurrences_are_uses.Goals as goal
use Rattle.std.proofs.Common.{◌++◌, map, arith}
use Rattle.do_machine.specs.held.Refers.{heap_objects, stack_objects}
use Rattle.do_leaving.specs.Counted.{objects_besides, times}
use Rattle.do_leaving.proofs.SlotNames.{times-append, times_has}

-- who counts each occurrence counts those in slots, and besides those elsewhere
pub returns : goal.returns
returns c n uses o is =
    let heap = heap_objects n.heap in
    let stack = stack_objects n.stack in
    let lent = map (λ l. l.object) n.lent in
    let asked = map (λ w. w.object) n.asked in
    record {
      besides = times o (objects_besides n);
      counted = omega (
        arith,
        is,
        times-append o (heap ++ stack ++ lent) asked,
        times-append o (heap ++ stack) lent,
        times-append o heap stack,
        times-append o (stack ++ lent) asked,
        times-append o stack lent,
      );
      referred = times_has o (objects_besides n);
    }
