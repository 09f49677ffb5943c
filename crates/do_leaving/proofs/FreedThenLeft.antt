-- First what is freed, then what is left.
use Rattle.std.proofs.Common.{ℕ, Bool, List as Listed, [], sym, ◌∙◌, append-nil}
use Rattle.do_base.specs.names.Names.{ObjectName}
use Rattle.do_machine.specs.{declared.node.Node.Node, held.{Kept.kept, Leaving.{freeing, leaving}}}
use Rattle.do_export.specs.Counts.{IsPositive}
use Rattle.do_import.specs.Imported.{Imported}
use Rattle.do_leaving.specs.{Leavers.AllLeave, Left.IsEffect}
use Rattle.do_store.specs.Names.{Objects}
use Rattle.do_leaving.proofs.LeaversAreDropped.{drops}

-- what frees and then leaves does what the machine does after a step
pub leaves : (entry : ℕ → ℕ → Bool) (n : Node) (store : Objects) (middle new : Imported)
    (freed : Listed ℕ) (gone : Listed (ObjectName × ℕ))
    → IsEffect entry n (freeing (kept entry n) n) store middle freed []
    → AllLeave middle new [] gone → IsPositive middle.uses
    → IsEffect entry n (leaving entry n) store new freed gone
leaves entry n store middle new freed gone first all positive =
    let m = (freeing (kept entry n) n).node in
    let second = drops entry m store middle new gone first.counted all positive in
    record {
      counted = second.counted;
      shown = first.shown ∙ sym (append-nil (freeing (kept entry n) n).shown);
      sent = second.sent;
    }
