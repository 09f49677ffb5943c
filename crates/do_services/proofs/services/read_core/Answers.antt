use Rattle.do_services.proofs.services.read_core.Goals as goal
use Rattle.std.proofs.{Common.{sym, ◌∙◌}, lemmas.Result.IfOk-weaker}
use Rattle.do_native_acts.specs.Rows.{rows_in}
use Rattle.do_services.specs.{Core.service_in, laws.SlotsExact.rows_good}
use Rattle.do_services.proofs.CoreRead.{core_read}

-- services that are read and tested in turn are those that can be a core's
pub returns : goal.returns
returns c =
    let slot = c.args.slot.now in
    IfOk-weaker c.read_limited.result _ _ (λ table same.
    same ∙ sym (core_read (rows_in service_in slot) (rows_good slot))) c.read_limited.ensures
