-- When a plan is one that a node can carry out, and what it then takes of room.
use Rattle.std.specs.Prelude.{Bool, List, false, length, true, ℕ, ◌+◌, ◌≡◌, ◌≤◌, ◌^◌}
use Rattle.do_packet.specs.declared.receipt.Made.{Made}
use Rattle.do_class.specs.declared.packet.Name.{Name, TheVariants.Lent}
use Rattle.do_behave.specs.declared.invocation.Invocation.{Invocation}
use Rattle.do_machine.specs.declared.{item.Item.Item, node.Node.Node}
use Rattle.do_machine.specs.{Context.{Context, RunContext}, State.is_open, run.Fresh.with_objects}
use Rattle.do_part.specs.{Filled.made_values, Names.{AreStored, sizes_of, values_of}}
use Rattle.do_rules.specs.declared.{run.delivery.Delivery.Delivery, take.ruling.Ruling.Ruling}
use Rattle.do_effects.specs.Plans.{CanDeliver, CanDo, delivery_needs, delivery_values, plan_needs}
use Rattle.do_effects.specs.{Plans.plan_values, Room.Needs as Wants, Sends.CanNameAll}
use Rattle.do_effects.specs.Taking.{CanFollow, ruling_copies, ruling_values, ruling_needs}
use Rattle.do_effects.specs.{Taking.taking_needs, declared.plan.Plan.Plan}
use Rattle.do_site.specs.{Stored.AreThere, declared.needs.Needs.Needs}

-- it is the turn of an invocation, by what its node is judged by
pub record IsTurnOf (r : RunContext) (c : Context) (top : Invocation) : Type 0 where
  pub context : r.context ≡ c
  pub acts : r.top ≡ top

-- as much room is told as is taken, or more
pub record IsEnough (wants : Wants) (needs : Needs) : Type 0 where
  pub objects : wants.objects ≤ needs.objects
  pub invocations : wants.invocations ≤ needs.invocations
  pub names : wants.names ≤ needs.names
  pub entries : wants.entries ≤ needs.entries
  pub waiting : wants.waiting ≤ needs.waiting

-- names can be sent to a peer, so many
pub record CanSendNames (n : Node) (peer : ℕ) (names : List Name) (count : ℕ)
    : Type 0 where
  pub open_end : is_open n peer ≡ true
  pub sent : CanNameAll n.heap n.port n.next_token names
  pub tokens : n.next_token + length names ≤ 2 ^ 62
  pub counted : count ≡ length names

-- a node can carry out a plan, which takes no more than this
pub record Allows (n : Node) (plan : Plan) (needs : Needs) : Type 0 where
  pub values : AreStored n (values_of (plan_values plan))
  pub can : CanDo n plan
  pub enough : IsEnough (plan_needs plan) needs

-- a node can deliver an answer, which takes no more than this
pub record AllowsDelivery (n : Node) (d : Delivery) (needs : Needs) : Type 0 where
  pub values : AreStored n (values_of (delivery_values d))
  pub can : CanDeliver n d
  pub enough : IsEnough (delivery_needs d) needs

-- A message with so many names and these copies can be received, whose own objects are there, and
-- so many names that the node comes to keep besides; it takes so much.
pub record AllowsMessage (n : Node) (many : ℕ) (copies : List Made) (kept : ℕ) (needs : Needs)
    : Type 0 where
  pub there : AreThere n (length copies) (values_of (made_values copies))
  pub objects : needs.objects ≡ length copies
  pub invocations : needs.invocations ≡ 1
  pub names : needs.names ≡ many + sizes_of (made_values copies) + kept
  pub entries : needs.entries ≡ many
  pub waiting : needs.waiting ≡ many + 1

-- a node can do what the ruling on an item with so many names says, but for the line that shows it,
-- which takes no more than this
pub record AllowsItem (n : Node) (from : ℕ) (item : Item) (many : ℕ) (r : Ruling) (needs : Needs)
    : Type 0 where
  pub copies : AreThere n (length (ruling_copies r)) (values_of (made_values (ruling_copies r)))
  pub kept : AreThere n (length (ruling_copies r)) (values_of (ruling_values r))
  pub can : CanFollow n from item r
  pub enough : IsEnough (ruling_needs n many r) needs

-- a name lends nothing
abbrev pub is_no_lend : Name → Bool
is_no_lend (Lent o class token) = false
is_no_lend name = true

-- a node can do what the ruling on an item says, which takes no more than this
pub record AllowsRuling (n : Node) (from : ℕ) (item : Item) (r : Ruling) (needs : Needs)
    : Type 0 where
  pub copies : AreStored (with_objects (ruling_copies r) n)
      (values_of (made_values (ruling_copies r)))
  pub values : AreStored (with_objects (ruling_copies r) n) (values_of (ruling_values r))
  pub can : CanFollow n from item r
  pub enough : IsEnough (taking_needs n item r) needs
