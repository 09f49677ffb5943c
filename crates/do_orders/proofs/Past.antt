-- A sound move leaves the entries of the objects of other nodes as they were.
use Rattle.std.{proofs.Common.{◌≡◌, ◌==◌, ℕ, true, false, ◌∙◌}, specs.Prelude.None}
use Rattle.do_base.specs.names.Names.{ObjectName}
use Rattle.do_machine.specs.{Entry.has_entry, State.{is_open, queue}, declared.node.Node.Node}
use Rattle.do_machine.specs.declared.state.State.{State}
use Rattle.do_facts.proofs.machine.{follows.States.changed, passing.Linked.commit_leaves}
use Rattle.do_facts.proofs.machine.passing.Passes.{Passes}
use Rattle.do_machine.proofs.Bools.{fails}
use Rattle.do_orders.specs.Moves.{Move, Source, Stands, done, effected, taken_off, Source.First}
use Rattle.do_orders.proofs.EntriesBehind.{entries_of_effect, entries_of_take}
use Rattle.do_orders.proofs.SoundMoves.{IsOver, IsSound, StandsIn, came, node_off, queue_off}

module _ (k : Move) (n : Node) (sound : IsSound k n) (S : State) (at : StandsIn k n S)
    (o : ObjectName) (apart : (o.node == k.port) ≡ false) where
  -- the entries once the effect is committed, by what is taken off
  entries_by : (a : Source) → Stands k.port a S → IsOver n a →
      Passes k.port o n (came k.port o a) k.effect → (peer : ℕ) →
      has_entry (effected (record k { source = a }) S) peer o ≡ has_entry S peer o
  entries_by (First from item) there over passes =
      entries_of_take o k.port apart k.effect S n at.here (at.linked o.node) from item there.0
      there.1 over passes
  entries_by _ there over passes =
      entries_of_effect o k.port apart k.effect S n at.here (at.linked o.node) passes

  -- an end that was closed stays so
  still_closed : (peer : ℕ) → is_open n peer ≡ false → is_open k.effect.node peer ≡ false
  still_closed peer closed =
      fails (is_open k.effect.node peer) (λ h. no (sound.grows.ends peer h) closed)
    where
      no : is_open n peer ≡ true → is_open n peer ≡ false → ⊥
      no a b = cc

  -- the end towards the home is closed where there is no queue, also behind the effect
  linked_then : queue (effected k S) k.port o.node ≡ None →
      is_open k.effect.node o.node ≡ false
  linked_then q =
      let T = taken_off k.port k.source S in
      still_closed o.node (at.linked o.node (queue_off k.port k.source S at.there k.port o.node
      (commit_leaves k.port k.effect T k.port o.node q)))

  -- the entries after the whole move
  pub entries_past : (peer : ℕ) → has_entry (done k S) peer o ≡ has_entry S peer o
  entries_past peer =
      let T = taken_off k.port k.source S in
      entries_of_effect o k.port apart k.leaves (effected k S) k.effect.node
      (changed k.port k.effect n T.stations (node_off k.port k.source S k.port ∙ at.here))
      linked_then (sound.leaves o) peer
      ∙ entries_by k.source at.there sound.over (sound.passes o) peer
