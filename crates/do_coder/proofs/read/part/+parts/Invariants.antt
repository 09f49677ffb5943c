use Rattle.do_coder.proofs.read.part.+parts.Given as goal
use Rattle.std.proofs.Common.{◌≡◌, ◌+◌, ◌*◌, ◌-◌}
use Rattle.do_grammar.{specs.Reader.times, proofs.loops.TimesLoop.with_front}
use Rattle.do_coder.specs.Parts.{part_at}

abbrev pub decreases-part_of : goal.decreases-part_of
decreases-part_of l = 3 * l.depth

abbrev pub decreases-list_of : goal.decreases-list_of
decreases-list_of l = 3 * l.depth + 2

abbrev pub decreases-parts_of : goal.decreases-parts_of
decreases-parts_of l = 3 * l.depth + 1

abbrev pub invariant-parts_of-loop : goal.invariant-parts_of-loop
invariant-parts_of-loop l =
    with_front l.parts (times (part_at l.copies l.names l.depth) (l.count - l.counter) l.rest)
    ≡ times (part_at l.copies l.names l.depth) l.count l.bytes
