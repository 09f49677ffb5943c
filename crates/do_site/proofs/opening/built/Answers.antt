use Rattle.do_site.proofs.opening.built.Goals as goal
use Rattle.std.proofs.Common.{◌≡◌, ◌∙◌, ap, false, subst, sym}
use Rattle.do_machine.specs.{State.is_open, World.opening_node}
use Rattle.do_network.specs.Own.{Own}
use Rattle.do_streams.specs.Streamed.{Streamed}
use Rattle.do_effects.specs.Tidy.{IsTidy}
use Rattle.do_site.proofs.OpenedSites.{opened_apart, opened_tidy}

pub returns-clause-kept : goal.returns-clause-kept
returns-clause-kept c =
    let table = c.args.table.now in
    let ports = c.args.ports.now in
    let seat = c.args.seat in
    let own = c.in-Ok-opening_own.ensures in
    record {
      tidy = subst IsTidy (sym own) (opened_tidy (opening_node table ports seat));
      apart = subst (λ (p : Own). is_open p.node p.node.port ≡ false) (sym own)
          (opened_apart table ports seat);
      classes = ap (λ (s : Streamed). s.classes) c.in-Ok.ensures
          ∙ c.count.ensures.value;
    }
