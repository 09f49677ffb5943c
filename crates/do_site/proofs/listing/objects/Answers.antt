use Rattle.do_site.proofs.listing.objects.Goals as goal
use Rattle.std.{proofs.Common.{◌≡◌, ◌∙◌, ap, map}, specs.{Prelude.{Err, IfOk, Ok}, List.filter_map}}
use Rattle.do_machine.specs.check.Snapshot.{object_line}
use Rattle.do_site.{specs.Listed.line_at, proofs.ListedSites.objects_listed}

pub returns : goal.returns
returns c =
    let n = c.args.part.now.own.node in
    let all = ap (filter_map (line_at n)) c.requires
    ∙ objects_listed n c.serials_are_apart.ensures in
    elim c.lines_at.result as
    (λ r. IfOk r (λ lines. lines ≡ filter_map (line_at n) c.args.stored.now)
    → IfOk r (λ lines. lines ≡ map (object_line n) n.heap)) [
      | Ok lines ↦ λ e. e ∙ all
      | Err x ↦ λ e. tt
    ] c.lines_at.ensures
