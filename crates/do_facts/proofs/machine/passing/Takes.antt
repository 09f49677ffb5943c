-- What a node takes it holds, or gives back.
use Rattle.do_machine.specs.declared.item.Item.TheVariants as items
use Rattle.std.proofs.Common.{◌≡◌, ◌==◌, ◌&&◌, ◌||◌, ℕ, Bool, true, false, refl, arith}
use Rattle.do_base.specs.names.Names.{ObjectName}
use Rattle.do_packet.specs.Met.{has_object}
use Rattle.do_machine.specs.{declared.{item.Item.Item, node.Node.Node}, Context.Context}
use Rattle.do_machine.specs.{Entry.is_holder, Items.exported, State.is_open, take.Take.arrival}
use Rattle.do_machine.{specs.take.Take.{holding, take_effect}, proofs.Having.has_joined_all}
use Rattle.do_facts.proofs.machine.follows.Follows.{exported_at, open_at}
use Rattle.do_facts.proofs.machine.passing.{Closes.passes_closing, Passes.{Passes, passes_quiet}}
use Rattle.do_facts.proofs.machine.passing.Quiet.{arrival_quiet}

-- the object came with the item, from its home
abbrev pub comes : ℕ → ObjectName → ℕ → Item → Bool
comes port o from item = (from == o.node) && has_object (exported from port item) o

module _ (port : ℕ) (o : ObjectName) (from : ℕ) (n : Node) (ends : is_open n from ≡ true) where
  -- the node holds what it held, and what came
  holds_what_comes : (item : Item) → is_holder o (holding (exported from n.port item) n)
      ≡ (is_holder o n || comes port o from item)
  holds_what_comes item =
      let all = has_joined_all n.held (exported from n.port item) o in
      let own = exported_at from n.port port o item in
      grind (arith, all, own, open_at n from o.node ends)

  -- what the item comes to, once its exports are held
  passes_arrival : (c : Context) (item : Item) (m : Node) → is_open m from ≡ true →
      Passes port o m false (arrival c from item m)
  passes_arrival c (items.End serials) m h = passes_closing port o from m h
  passes_arrival c item m h =
      passes_quiet port o m (arrival c from item m) (arrival_quiet c from item m refl)

-- a take
pub passes_take : (port : ℕ) (o : ObjectName) (from : ℕ) (c : Context) (item : Item) →
    is_open c.node from ≡ true →
    Passes port o c.node (comes port o from item) (take_effect c from item)
passes_take port o from c item ends =
    let n = c.node in
    let m = holding (exported from n.port item) n in
    let p = (passes_arrival port o from n ends c item m ends).same in
    record { same = grind (arith, p, holds_what_comes port o from n ends item) }
