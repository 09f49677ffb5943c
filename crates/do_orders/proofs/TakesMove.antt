-- A take is a move, and so is an end without notice, which is a loss and the take behind it.
use Rattle.do_base.specs.declared.events.event.Event.TheVariants as events
use Rattle.do_machine.specs.declared.item.Item.TheVariants as items
use Rattle.std.proofs.Common.{◌≡◌, ◌&&◌, ℕ, Bool, true, false, cond, not, List, [], ◌∷◌, refl, ap}
use Rattle.std.proofs.Common.{◌∙◌, arith}
use Rattle.std.specs.Prelude.{None, Option, Some, length, nat_lt, option_map, unwrap_or}
use Rattle.std.{specs.List.insert, proofs.lemmas.Bool.Decides.nat_tests}
use Rattle.do_class.specs.Class.{Class}
use Rattle.do_machine.specs.{Commit.{moved, showed, skipped}, Context.context}
use Rattle.do_machine.specs.{State.{change, is_open, node, queue, with_queue}, Step.step}
use Rattle.do_machine.specs.{check.Blocks.followed, declared.{item.Item.Item, node.Node.Node}}
use Rattle.do_machine.specs.{declared.state.{State.State, Stepped.Stepped}, run.Run.Acting}
use Rattle.do_machine.specs.take.Take.{can_serve, can_take, take_effect}
use Rattle.do_facts.proofs.machine.{follows.States.requeued, passing.Lookups.that_changed}
use Rattle.do_agreement.proofs.takes.MachineTakes.{machine_by, machine_from, take_moves}
use Rattle.do_orders.proofs.PutBack.{put_back}

-- a node's end is open, where the node can take
pub open_of : (a b : Bool) → (a && b) ≡ true → a ≡ true
open_of true b h = refl
open_of false b h = absurd (cc)

-- no list is shorter than nothing
none_shorter : (w : List Item) → nat_lt (length w) 0 ≡ false
none_shorter w = grind (arith, nat_tests)

module _ (table : List Class) (S : State) (port from : ℕ) where
  -- what an enabled take has before it
  pub record Taking : Type 0 where
    pub doer : Node
    pub item : Item
    pub rest : List Item
    pub here : node S port ≡ Some doer
    pub able : can_take from doer ≡ true
    pub waits : queue S from port ≡ Some (item ∷ rest)

  -- an enabled take has it
  pub take_there : (act : Acting) →
      (step table act S (events.Take port from)).outcome.enabled ≡ true → Taking
  take_there act on = at_node (node S port) refl on
    where
      -- what there is is enabled
      is_on : Option Stepped → Bool
      is_on found = (unwrap_or found (skipped S)).outcome.enabled

      at_queue : (n : Node) → node S port ≡ Some n → can_take from n ≡ true →
          (found : Option (List Item)) → queue S from port ≡ found →
          is_on (machine_from table S port from n found) ≡ true → Taking
      at_queue n here able None waits on = absurd (cc)
      at_queue n here able (Some []) waits on = absurd (cc)
      at_queue n here able (Some (x ∷ rest)) waits on =
          record { doer = n; item = x; rest = rest; here = here; able = able; waits = waits }

      at_test : (n : Node) → node S port ≡ Some n → (b : Bool) → can_take from n ≡ b →
          is_on (cond (not b) None (machine_from table S port from n (queue S from port))) ≡ true →
          Taking
      at_test n here true able on = at_queue n here able (queue S from port) refl on
      at_test n here false able on = absurd (cc)

      at_node : (found : Option Node) → node S port ≡ found →
          is_on (machine_by table S port from found) ≡ true → Taking
      at_node None here on = absurd (cc)
      at_node (Some n) here on = at_test n here (can_take from n) refl on

module _ (table : List Class) (act : Acting) (S : State) (port peer : ℕ) (n : Node)
    (w : List Item) (here : node S port ≡ Some n) (waits : queue S peer port ≡ Some w) where
  -- the queue with an end before all items
  abbrev broken : List Item
  broken = insert w 0 (items.End [])

  -- the state with the end
  abbrev with_end : State
  with_end = change peer (with_queue port broken) S

  -- a loss in a queue
  abbrev losing : Option (List Item) → Option State
  losing found = elim found [
    | None ↦ None
    | Some xs ↦ cond (nat_lt (length xs) 0) None
        (Some (change peer (with_queue port (insert xs 0 (items.End []))) S))
  ]

  -- a loss on the way to a node
  abbrev losing_to : Option Node → Option State
  losing_to found = elim found [
    | None ↦ None
    | Some m ↦ cond (not (is_open m peer)) None (losing (queue S peer port))
  ]

  -- a loss behind nothing puts the end before all items
  loss_is : is_open n peer ≡ true →
      step table act S (events.Lose peer port 0) ≡ showed [] with_end
  loss_is ends =
      ap (λ found. unwrap_or (option_map (showed []) (losing_to found)) (skipped S)) here
      ∙ ap (λ b. unwrap_or (option_map (showed [])
      (cond (not b) None (losing (queue S peer port)))) (skipped S)) ends
      ∙ ap (λ found. unwrap_or (option_map (showed []) (losing found)) (skipped S)) waits
      ∙ ap (λ b. unwrap_or (option_map (showed [])
      (cond b None (Some with_end))) (skipped S)) (none_shorter w)

  -- the loss and the take of the end are the move by what an end comes to that names nothing
  pub ending_moves : can_take peer n ≡ true →
      followed (step table act S (events.Lose peer port 0))
      (step table act (step table act S (events.Lose peer port 0)).state (events.Take port peer))
      ≡ moved port S (take_effect (context table S n) peer (items.End []))
  ending_moves able =
      ap (λ (s : Stepped). followed s (step table act s.state (events.Take port peer)))
      (loss_is (open_of (is_open n peer) (can_serve n.stack) able))
      ∙ ap (followed (showed [] with_end))
      (take_moves table with_end port peer act n (items.End []) w
      (requeued peer port port broken S.stations ∙ here) able
      (that_changed peer port broken w S.stations waits))
      ∙ ap (λ T. moved port T (take_effect (context table T n) peer (items.End [])))
      (put_back peer port broken w S waits)
