-- A schedule in which nothing is closed and nothing lost leaves all ends open.
use Rattle.std.proofs.Common.{◌≡◌, ◌==◌, ℕ, Bool, true, false, cond, List, [], ◌∷◌, refl, sym, ap}
use Rattle.std.{proofs.Common.{map, arith}, specs.Prelude.{Option, Some, option_map, unwrap_or}}
use Rattle.std.{specs.List.{AllByRecursion, find, list_any}, proofs.lemmas.Bool.Decides.nat_tests}
use Rattle.do_base.specs.declared.events.event.Event.{Event}
use Rattle.do_class.specs.Class.{Class}
use Rattle.do_machine.specs.declared.{item.Item.Item, node.Node.Node, state.Seat.Seat}
use Rattle.do_machine.specs.{declared.state.Stepped.Stepped, Commit.skipped, State.{is_open, queue}}
use Rattle.do_machine.specs.{Step.step, World.{by_port, opening, opening_station, others}}
use Rattle.do_machine.specs.{check.Blocks.{followed, steps}, run.Run.Acting}
use Rattle.do_facts.proofs.machine.follows.Steady.{is_end}
use Rattle.do_facts.specs.{Reached.reached, View.{View, wire_seen}}
use Rattle.do_facts.proofs.{OpeningAsNet.{opened, opening_wires}, links.ListsChanged.open_less}
use Rattle.do_quiet.specs.Quiet.{AllEndsOpen, IsNoBreak}
use Rattle.do_quiet.proofs.{CalmMoves.Undisturbed, CalmSteps.step_undisturbed}

module _ (table : List Class) (seats : List Seat) where
  -- the ports of the nodes, in their order
  abbrev all : List ℕ
  all = map (λ s. s.node) (by_port seats)

  -- a port of a station that opens is among those of the seats
  port_among : (port : ℕ) (n : Node) (some : List Seat) →
      option_map (λ s. s.node)
      (find (λ s. port == s.port) (map (opening_station table all) some)) ≡ Some n →
      list_any (λ p. p == port) (map (λ s. s.node) some) ≡ true
  port_among port n [] h = absurd (cc)
  port_among port n (s ∷ some) h = go (port == s.node) refl (port_among port n some) h
    where
      go : (b : Bool) → (port == s.node) ≡ b →
          (option_map (λ x. x.node)
          (find (λ x. port == x.port) (map (opening_station table all) some)) ≡ Some n →
          list_any (λ p. p == port) (map (λ x. x.node) some) ≡ true) →
          option_map (λ x. x.node) (cond b (Some (opening_station table all s))
          (find (λ x. port == x.port) (map (opening_station table all) some))) ≡ Some n →
          list_any (λ p. p == port) (map (λ x. x.node) (s ∷ some)) ≡ true
      go true e k h = grind (arith, nat_tests, e)
      go false e k h = let rest = k h in grind (arith, nat_tests, rest)

  -- another port of these is among the others
  among_others : (port peer : ℕ) (ps : List ℕ) → list_any (λ p. p == peer) ps ≡ true →
      (peer == port) ≡ false → list_any (λ p. p == peer) (others ps port) ≡ true
  among_others port peer ps h d = grind (arith, nat_tests, h, d, open_less peer port ps)

  -- items as they are
  abbrev as_items : View (Unit {0}) Item
  as_items = record { part = λ n. tt; absent = tt; atoms = λ x. x ∷ [] }

  -- where there are no items there is no end
  none_of_none : (found : Option (List Item)) (items : List Item) →
      wire_seen as_items found ≡ [] → found ≡ Some items → list_any is_end items ≡ false
  none_of_none (Some []) items h q = ap (λ x. list_any is_end (unwrap_or x items)) (sym q)
  none_of_none _ items h q = absurd (cc)

  -- a machine opens so
  opening_undisturbed : Undisturbed (opening table seats)
  opening_undisturbed = record {
    reach = record {
      reach = λ port peer n m h k d.
          opened table all
          (λ p x. (peer : ℕ) → list_any (λ q. q == peer) all ≡ true → (peer == p) ≡ false →
          is_open x peer ≡ true)
          (λ s b among apart. among_others s.node b all among apart) (by_port seats) port n h
          peer (port_among peer m (by_port seats) k) d;
    };
    none = λ from to items h.
        none_of_none (queue (opening table seats) from to) items
        (opening_wires table seats as_items from to) h;
  }

  -- events, one after another
  after_events : (act : Acting) (events : List Event) (s : Stepped) →
      AllByRecursion IsNoBreak events → Undisturbed s.state →
      Undisturbed (steps table act events s).state
  after_events act [] s h u = u
  after_events act (e ∷ es) s h u =
      after_events act es (followed s (step table act s.state e)) h.1
      (step_undisturbed s.state u table act e h.0)

  -- schedules without a close and a loss
  pub stay_open : (act : Acting) (events : List Event) → AllByRecursion IsNoBreak events →
      AllEndsOpen (reached table act seats events)
  stay_open act events h =
      (after_events act events (skipped (opening table seats)) h opening_undisturbed).reach
