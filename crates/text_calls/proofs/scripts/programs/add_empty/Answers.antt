use Rattle.text_calls.proofs.scripts.programs.add_empty.Goals as goal
use Rattle.do_class.proofs.Methods.{AreMethods-none}

-- a class without methods may be added
pub add_class-requires-clause-methods : goal.add_class-requires-clause-methods
add_class-requires-clause-methods c = rw c.new-2.ensures AreMethods-none
