use Rattle.do_sched.proofs.upgrading.upgrade.Goals as goal
use Rattle.do_sched.proofs.Upgraded.{fault_not_accepted, upgrade_refused, upgrades}
use Rattle.do_sched.proofs.Upgraded.{fault_not_upgraded}

pub returns-in-Err-clause-accepts : goal.returns-in-Err-clause-accepts
returns-in-Err-clause-accepts c =
    fault_not_accepted c.args.bytes.now c.in-Err.fault c.in-Err.ensures

pub returns-in-Err-clause-refuses : goal.returns-in-Err-clause-refuses
returns-in-Err-clause-refuses c =
    upgrade_refused c.args.bytes.now c.in-Err.fault c.in-Err.ensures

pub returns-in_ok-text-in-Ok-clause-exact : goal.returns-in_ok-text-in-Ok-clause-exact
returns-in_ok-text-in-Ok-clause-exact c =
    upgrades c.args.bytes.now c.in_ok-text-in-Ok.text c.in-Ok._lines c.in-Ok.ensures
    c.in_ok-text-in-Ok.ensures

pub returns-in_ok-text-in-Ok-clause-refuses : goal.returns-in_ok-text-in-Ok-clause-refuses
returns-in_ok-text-in-Ok-clause-refuses c =
    fault_not_upgraded c.args.bytes.now c.in_ok-text-in-Ok.text c.in-Ok._lines c.in-Ok.ensures
