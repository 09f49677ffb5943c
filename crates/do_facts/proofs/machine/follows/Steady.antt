-- What the rules of a step keep of a node, walked once: its numbers are no lower, no end opens, and
-- unless it parts from a peer it holds the same over the same ends and gives nothing back.
use Rattle.do_machine.specs.declared.item.Item.TheVariants as items
use Rattle.std.proofs.Common.{◌≡◌, ◌≤◌, ℕ, Bool, true, false, List, [], refl, arith}
use Rattle.std.specs.Prelude.{Option, None}
use Rattle.do_packet.specs.declared.receipt.Made.{Made}
use Rattle.do_behave.specs.declared.invocation.{Answer.Answer, Waited.Waited}
use Rattle.do_machine.specs.declared.{item.Item.Item, node.{Lend.Lend, Node.Node, Wanted.Wanted}}
use Rattle.do_machine.specs.{declared.state.Effect.Effect, Effect.each, lend.Asking.settling}
use Rattle.do_machine.specs.{lend.{Asking.without_wanted, Lending.lending}, run.Changes.uses_number}
use Rattle.do_machine.specs.{run.Fresh.with_objects, take.Awaiting.{AnsweredCall, answering}}
use Rattle.do_facts.{specs.laws.Follows.{Grows, Follows}, proofs.machine.follows.Follows.grow_after}
use Rattle.do_facts.proofs.walk.{Done.{Done, DoneIf, each_done}, SmallEffects.{Small, by_settling}}

-- an item that may release objects
abbrev pub is_release : Item → Bool
is_release (items.Left serial) = true
is_release (items.End serials) = true
is_release _ = false

-- an item that closes an end
abbrev pub is_end : Item → Bool
is_end (items.End serials) = true
is_end _ = false

-- A node to which another came: it grew; but by a time-out no call became late; and unless it
-- parted from a peer, it holds the same over the same ends
pub record Steady (timed parts : Bool) (n m : Node) : Type 0 where
  pub grows : Grows n m
  pub late : timed ≡ false → n.late ≡ [] → m.late ≡ []
  pub held : parts ≡ false → m.held ≡ n.held
  pub ends : parts ≡ false → m.open_to ≡ n.open_to

-- what is sent, unless a node parts, releases nothing
abbrev pub NoRelease : Bool → ℕ → Item → Type 0
NoRelease parts to item = parts ≡ false → is_release item ≡ false

-- so is an effect of a node
abbrev pub IsSteady : Bool → Bool → Node → Effect → Type 0
IsSteady timed parts n e = Done (Steady timed parts n) (NoRelease parts) e

-- so is an effect, where there is one
abbrev pub IsSteadyIf : Bool → Bool → Node → Option Effect → Type 0
IsSteadyIf timed parts n e = DoneIf (Steady timed parts n) (NoRelease parts) e

-- a node without what these facts do not speak of
abbrev pub facts : Node → Node
facts n = record n { heap = []; root = None; stack = []; lent = []; asked = [] }

module _ (timed parts : Bool) where
  -- a node with numbers that are no lower, which holds the same over the same ends
  pub rises : (n m : Node) → m.port ≡ n.port → m.held ≡ n.held → m.open_to ≡ n.open_to →
      (timed ≡ false → n.late ≡ [] → m.late ≡ []) → n.next_serial ≤ m.next_serial →
      n.next_call ≤ m.next_call → n.next_token ≤ m.next_token → Steady timed parts n m
  rises n m port held ends late serial call token = grind arith

  -- a node that parted from a peer
  pub parts_so : (n m : Node) → parts ≡ true → Follows n m → Steady timed parts n m
  parts_so n m is f = grind arith

  -- a node of which nothing of it changed
  pub steady : (n m : Node) → facts m ≡ facts n → Steady timed parts n m
  steady n m e = grind (arith, e)

  module _ (first : Node) where
    -- what came of the first node
    abbrev Now : Node → Type 0
    Now n = Steady timed parts first n

    -- one change after another
    pub then_so : (n m : Node) → Now n → Steady timed parts n m → Now m
    then_so n m a b = grind (arith, grow_after first n m)

    -- nothing of it changes
    pub still : (n m : Node) → facts m ≡ facts n → Now n → Now m
    still n m e h = then_so n m h (steady n m e)

    -- serials are used up by new objects
    pub makes : (new : List Made) (n : Node) → Now n → Now (with_objects new n)
    makes new n h = then_so n (with_objects new n) h (grind arith)

    -- tokens, by lends
    pub lends : (new : List Lend) (n : Node) → Now n → Now (lending new n)
    lends new n h = then_so n (lending new n) h (grind arith)

    -- a number of a call
    pub calls : (n : Node) → Now n → Now (uses_number n)
    calls n h = then_so n (uses_number n) h (grind arith)

    -- an answer is taken
    pub answers : (k : AnsweredCall) (answer : Waited → Answer) (n : Node) → Now n →
        Now (answering k answer n).node
    answers k answer n h = then_so n (answering k answer n).node h (grind arith)

    -- asks and settled lends
    pub small : Small Now (NoRelease parts)
    small = record {
      over = λ w n. still n (without_wanted w n) refl;
      settles = λ w n o h p. refl;
    }

-- lends that are over
pub by_settlings : (ws : List Wanted) (n : Node) → IsSteady false false n (each settling ws n)
by_settlings ws n =
    each_done settling (by_settling (small false false n)) ws n (steady false false n n refl)
