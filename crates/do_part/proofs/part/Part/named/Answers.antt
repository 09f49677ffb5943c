use Rattle.std.specs.FinMap as map
use Rattle.do_part.proofs.part.Part.named.Goals as goal
use Rattle.std.proofs.Common.{◌≡◌, ◌∙◌, ap, map as each}
use Rattle.do_packet.specs.Met.{has_object}
use Rattle.do_import.specs.ByObject.{object_of}
use Rattle.do_part.proofs.Leaves.{if_ok, named_has}

-- what the exports count is what contracts see
pub returns : goal.returns
returns c = rw (← c.self.view_is) (if_ok c.named.result
    (λ oids. oids ≡ each object_of (map.keys c.self.inside.holders.imports.named)) _
    (λ oids is o. ap (λ l. has_object l o) is
    ∙ named_has c.self.inside.holders.imports c.counts_are_tied.ensures.tied o) c.named.ensures)
