use Rattle.do_names.proofs.names.Names.unregister.Goals as goal
use Rattle.std.proofs.Common.{subst, sym, IsTrue}
use Rattle.do_table.specs.laws.TableLaws.{table_removed}
use Rattle.do_names.specs.Core.{are_names, is_entry}

pub invariant_of-self : goal.invariant_of-self
invariant_of-self c =
    subst (λ es. IsTrue (are_names es)) (sym c.remove.ensures.left)
    (table_removed 512 is_entry c.self.inside.ports c.args.name.now c.self.invariant)
