use Rattle.do_site.proofs.listing.entries.Goals as goal
use Rattle.std.{proofs.Common.{◌≡◌, ◌∙◌}, specs.{Prelude.{Err, IfOk, Ok}, List.flat_map}}
use Rattle.do_network.specs.Snapshot.{entries_counted}
use Rattle.do_site.{specs.Listed.entries_among, proofs.ListedSites.all_listed}

pub returns : goal.returns
returns c =
    let own = c.args.part.now.own in
    let all = all_listed own c.args.stored.now c.requires own.node.open_to in
    elim c.entries_among.result as (λ r.
    IfOk r (λ entries. entries ≡ flat_map (λ peer. entries_among own peer c.args.stored.now)
    own.node.open_to)
    → IfOk r (λ entries. entries ≡ flat_map (entries_counted own) own.node.open_to)) [
      | Ok entries ↦ λ e. e ∙ all
      | Err x ↦ λ e. tt
    ] c.entries_among.ensures
