use Rattle.do_services.proofs.services.Services.remove.Goals as goal
use Rattle.std.proofs.Common.{subst, sym, IsTrue}
use Rattle.do_table.specs.laws.TableLaws.{table_removed}
use Rattle.do_services.specs.Core.{are_services, is_entry}

pub invariant_of-self : goal.invariant_of-self
invariant_of-self c =
    subst (λ es. IsTrue (are_services es)) (sym c.remove.ensures.left)
    (table_removed 256 is_entry c.self.inside.services c.args.item.now c.self.invariant)
