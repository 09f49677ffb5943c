-- An effect leaves and sends only what a message can carry, since each of its moves does.
use Rattle.std.proofs.Common.{List}
use Rattle.do_machine.specs.declared.state.Effect.{Effect}
use Rattle.do_facts.specs.{Net.Note, nodes.{Atoms.Atom, Judged.Judge, Moves.Wrote}}
use Rattle.do_facts.proofs.nodes.{Kept.{AllNotes, by_walk}, Walks.DoesTo}
use Rattle.do_limits.specs.SendableStates.{NodeIsSendable, ItemIsSendable}
use Rattle.do_facts.proofs.nodes.Parcels.{parcels_go}
use Rattle.do_limits.proofs.{Effects.EffectIsSendable, moves.{Atoms.Comes, Kept.{Goes, each}}}
use Rattle.do_limits.proofs.moves.Packets.{JudgeIsSendable}

-- an effect of a node that has such values, where it takes such
pub does_sendable : (j : Judge) → JudgeIsSendable j → {taken : List (Note Atom)}
    {written : List Wrote} (e : Effect) → DoesTo j j.first taken written e →
    AllNotes (Comes j.table j.first.port) taken → EffectIsSendable j.table j.first.port e
does_sendable j ok e d come =
    let table = j.table in
    let port = j.first.port in
    let done = by_walk j (NodeIsSendable table port) (Comes table port) (Goes j ok)
    (record { each = λ n v h m t. each j ok n h v m t }) d.walk ok.context.node come in
    record { node = done.0; sent = parcels_go (ItemIsSendable table port) e.sent done.1 }
