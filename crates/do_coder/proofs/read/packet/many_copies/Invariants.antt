use Rattle.do_coder.proofs.read.packet.many_copies.Given as goal
use Rattle.std.proofs.Common.{◌≡◌, ◌-◌}
use Rattle.do_grammar.{specs.Reader.times, proofs.loops.TimesLoop.with_front}
use Rattle.do_coder.specs.Packets.{slot_counts, copy_at}

abbrev pub invariant-loop : goal.invariant-loop
invariant-loop l =
    with_front l.copies
    (times (copy_at (slot_counts l.table) l.count l.names) (l.count - l.counter) l.rest)
    ≡ times (copy_at (slot_counts l.table) l.count l.names) l.count l.bytes
