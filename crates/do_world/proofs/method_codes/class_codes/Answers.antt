use Rattle.do_world.proofs.method_codes.class_codes.Goals as goal
use Rattle.std.proofs.Common.{length}
use Rattle.toml.specs.View.{table_view}
use Rattle.do_behave.specs.Programs.{Suits}
use Rattle.do_world.proofs.CodeLoops.{codes_read}

pub returns : goal.returns
returns c =
    codes_read c.args.k c.args.slots.now c.args.classes.now (table_view c.args.table.now) _
    (Suits (length c.args.slots.now) (length c.args.classes.now)) c.codes_of_methods.result
    c.in_ok-tables.ensures (rw c.as_slice.ensures.value at c.codes_of_methods.ensures)
