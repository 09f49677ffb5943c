-- What is written of a network, but for what was sent, is what is written of the machine.
use Rattle.do_sched.specs.declared.line.Line.TheVariants as lines
use Rattle.std.proofs.Common.{◌≡◌, ◌==◌, ◌||◌, ℕ, List, [], ◌∷◌, ◌++◌, map, Some, refl, ap, sym}
use Rattle.std.{proofs.Common.{subst, arith}, specs.List.IsDistinct}
use Rattle.std.proofs.lemmas.{Bool.Decides.Decides-eqb, List.Kept.AllPairs-from_increasing}
use Rattle.std.proofs.lemmas.Map.Made.{IsDistinct-from_AllPairs}
use Rattle.do_base.specs.declared.events.event.Event.{Event}
use Rattle.do_class.specs.{Class.Class, Table.IsTable}
use Rattle.do_lines.specs.Transcript.{transcript}
use Rattle.do_machine.specs.declared.state.{Seat.Seat, State.State, Stepped.Stepped}
use Rattle.do_machine.specs.{Commit.skipped, State.ports, Step.step, World.{IsWorld, opening}}
use Rattle.do_machine.specs.{check.Blocks.{blocks, events_of, listed_at, steps}, run.Run.Acting}
use Rattle.do_facts.proofs.machine.Ports.{opening_rises, step_ports}
use Rattle.do_sched.specs.declared.line.Line.{Line}
use Rattle.do_network.specs.{Net.{Net, net_opening}, Spelled.SendsSpelled}
use Rattle.do_network.specs.Step.{NetStepped, net_skipped, net_step}
use Rattle.do_network.specs.Wired.{WiredBlock, net_blocks, net_listed_at, net_steps, wired}
use Rattle.do_agreement.specs.{Along.{EventsSendSpelled, LinesSendSpelled}, HasWires.HasWires}
use Rattle.do_agreement.proofs.agreement.GoesOn.{Goes, goes_on, opening_goes}
use Rattle.do_agreement.proofs.agreement.SnapshotsAgree.{snapshots_same}
use Rattle.do_agreement.proofs.texts.WiresPutIn.{wires_put_in}

module _ (table : List Class) (t : IsTable table) (act : Acting) where
  -- a network goes on with a state, whose nodes have ports of their own
  record Apart (N : Net) (S : State) : Type 0 where
    goes : Goes table N S
    distinct : IsDistinct (λ (p q : ℕ). p == q) (ports S)

  -- an event comes to the same
  one : (N : Net) (S : State) → Apart N S → (event : Event) →
      SendsSpelled table act N event →
      ((net_step table act N event).outcome ≡ (step table act S event).outcome)
      × Apart (net_step table act N event).net (step table act S event).state
  one N S g event spelled =
      let s = goes_on table t act N S g.goes event spelled in (
        s.0,
        record {
          goes = s.1;
          distinct = subst (IsDistinct (λ (p q : ℕ). p == q))
              (sym (step_ports table act S event)) g.distinct;
        },
      )

  -- and so do events one after another
  all : (events : List Event) (a : NetStepped) (b : Stepped) → a.outcome ≡ b.outcome →
      Apart a.net b.state → EventsSendSpelled table act a.net events →
      ((net_steps table act events a).outcome ≡ (steps table act events b).outcome)
      × Apart (net_steps table act events a).net (steps table act events b).state
  all [] a b same g spelled = (same, g)
  all (event ∷ events) a b same g spelled =
      let s = one a.net b.state g event spelled.0 in
      all events _ _
      (λ j. record {
        enabled = (same j).enabled || (s.0 j).enabled;
        shown = (same j).shown ++ (s.0 j).shown;
      }) s.1 spelled.1

  -- what a line lists is the same
  listed_alike : (N : Net) (S : State) → Apart N S → (line : Line) →
      net_listed_at N line ≡ listed_at S line
  listed_alike N S g lines.Check =
      ap (λ x. Some x) (snapshots_same table N S g.goes.agrees g.distinct)
  listed_alike N S g _ = refl

  -- lines come to the same blocks, but for what was sent
  same_blocks : (ls : List Line) (N : Net) (S : State) → Apart N S →
      LinesSendSpelled table act N ls →
      map (λ (b : WiredBlock). b.block) (net_blocks table act N ls) ≡ blocks table act S ls
  same_blocks [] N S g spelled = refl
  same_blocks (line ∷ ls) N S g spelled =
      let s = all (events_of line) (net_skipped N) (skipped S) refl g spelled.0 in
      let rest = same_blocks ls _ _ s.1 spelled.1 in
      let listed = listed_alike _ _ s.1 line in
      λ j. record { line = line; outcome = s.0 j; listed = listed j } ∷ rest j

  -- from the opening, where each node has a port of its own
  pub blocks_agree : (seats : List Seat) →
      IsDistinct (λ (p q : ℕ). p == q) (ports (opening table seats)) → (ls : List Line) →
      LinesSendSpelled table act (net_opening table seats) ls →
      map (λ (b : WiredBlock). b.block) (net_blocks table act (net_opening table seats) ls)
      ≡ blocks table act (opening table seats) ls
  blocks_agree seats distinct ls spelled =
      same_blocks ls (net_opening table seats) (opening table seats)
      (record { goes = opening_goes table seats; distinct = distinct }) spelled

-- the nodes of a world open at ports of their own
ports_differ : (table : List Class) (seats : List Seat) → IsWorld table seats →
    IsDistinct (λ (p q : ℕ). p == q) (ports (opening table seats))
ports_differ table seats world =
    let rise = opening_rises table seats world in
    let below = AllPairs-from_increasing (ports (opening table seats)) rise in
    IsDistinct-from_AllPairs Decides-eqb (ports (opening table seats))
    (λ i j d le within same. let less = below i j d le within in omega (arith, less, same))

-- a world's blocks are the machine's, but for what was sent
pub world_blocks : (table : List Class) (seats : List Seat) → IsWorld table seats →
    (act : Acting) (ls : List Line) →
    LinesSendSpelled table act (net_opening table seats) ls →
    map (λ (b : WiredBlock). b.block) (net_blocks table act (net_opening table seats) ls)
    ≡ blocks table act (opening table seats) ls
world_blocks table seats world act ls spelled =
    blocks_agree table world.classes act seats (ports_differ table seats world) ls spelled

-- and so they are from a network on that opens so
pub opened_blocks : (table : List Class) (act : Acting) (seats : List Seat) →
    IsWorld table seats → (N : Net) → N ≡ net_opening table seats → (ls : List Line) →
    LinesSendSpelled table act N ls →
    map (λ (b : WiredBlock). b.block) (net_blocks table act N ls)
    ≡ blocks table act (opening table seats) ls
opened_blocks table act seats world N opens ls =
    subst (λ M. LinesSendSpelled table act M ls →
    map (λ (b : WiredBlock). b.block) (net_blocks table act M ls)
    ≡ blocks table act (opening table seats) ls) (sym opens)
    (world_blocks table seats world act ls)

-- and its text is the machine's, with what was sent put in
pub world_text : (table : List Class) (seats : List Seat) → IsWorld table seats →
    (act : Acting) (ls : List Line) →
    LinesSendSpelled table act (net_opening table seats) ls →
    HasWires (transcript table (blocks table act (opening table seats) ls))
    (wired table (net_blocks table act (net_opening table seats) ls))
world_text table seats world act ls spelled =
    let bs = net_blocks table act (net_opening table seats) ls in
    subst (λ cs. HasWires (transcript table cs) (wired table bs))
    (world_blocks table seats world act ls spelled) (wires_put_in table bs)
