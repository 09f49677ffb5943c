-- All of a text is a front of it.
use Rattle.std.proofs.Common.{◌≡◌, ℕ, List, Option, length, arith, ap, sym, ◌∙◌}
use Rattle.do_base.specs.outside.Bytes.{with_more, HasWritten}
use Rattle.do_base.specs.declared.outside.shelf.NamedFile.{NamedFile}
use Rattle.do_cli.specs.declared.command.Command.{Command}
use Rattle.do_node.specs.Call.{WritesAll, WritesSome}
use Rattle.std.proofs.Math.Seq.{take-length}

-- what was written whole was written as far as its end
pub front_written : (old new : Option (List ℕ)) (text : List ℕ) → new ≡ with_more old text
    → HasWritten old new text
front_written old new text is =
    (length text, omega arith, is ∙ ap (with_more old) (sym (take-length text)))

-- so it is of what a command writes
pub all_is_some : (told : Option (List NamedFile)) (command : Command) (old new : Option (List ℕ))
    → WritesAll told command old new → WritesSome told command old new
all_is_some told command old new w = record {
  text = w.text;
  writes = w.writes;
  written = front_written old new w.text w.written;
}
