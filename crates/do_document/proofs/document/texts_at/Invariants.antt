use Rattle.do_document.proofs.document.texts_at.Given as goal
use Rattle.std.{proofs.Common.{◌≡◌, map, take}, specs.List.filter_map}
use Rattle.toml.specs.{Data.as_str, View.view}

abbrev pub invariant-loop-member : goal.invariant-loop-member
invariant-loop-member l =
    map (λ t. t.now) l.texts.items
    ≡ filter_map as_str (map view (take l.member-index l.members))
