-- What each input of a node shows may stand in a record.
use Rattle.do_machine.specs.declared.item.Item.TheVariants as items
use Rattle.do_network.specs.declared.input.Input.TheVariants as inputs
use Rattle.do_sched.specs.declared.line.Line.TheVariants as lines
use Rattle.std.proofs.Common.{Err, List, Ok, [], ap, arith, not, refl, subst, sym, true, ℕ, ◌*◌}
use Rattle.std.proofs.Common.{◌+◌, ◌∷◌, ◌≡◌}
use Rattle.std.specs.{List.AllByRecursion, Prelude.{All, None, Option, Result, Some, ◌<◌, ◌≤◌}}
use Rattle.do_base.specs.{declared.values.value.Value.Value, values.Values.objects_of}
use Rattle.do_grammar.specs.Grammar.{IsBytes}
use Rattle.do_class.specs.{Class.Class, Table.IsTable}
use Rattle.do_sched.specs.{Good.{IsPort, IsStart}, declared.version.Version.TheVariants.Second}
use Rattle.do_record.specs.GoodShown.{IsShown}
use Rattle.do_coder.specs.Packets.{surroundings}
use Rattle.do_frames.specs.{Frames.IsFrame, declared.frame.{Frame.Frame, RawFrame.RawFrame}}
use Rattle.do_machine.specs.{Context.Context, Start.start_effect, State.is_open}
use Rattle.do_machine.specs.{World.{HasSignatures, IsSeat}, declared.item.Item.Item}
use Rattle.do_machine.specs.declared.{node.Node.Node, state.{Effect.Effect, Seat.Seat}}
use Rattle.do_machine.specs.{ends.{Closing.closing, TimeOut.time_out}, run.Run.{Acting, run_effect}}
use Rattle.do_machine.specs.take.Take.{can_serve, can_take, take_effect}
use Rattle.do_facts.proofs.{Chains.first_of, EachOfLists.each_weaker, walk.Possible.IfAny}
use Rattle.do_network.specs.{Counting.got, Faults.peer_fault, Frames.{item_of, read_frame}}
use Rattle.do_network.specs.{Links.{Part, having_read, names_read}, Net.opening_part}
use Rattle.do_network.specs.Own.{Own, site_context}
use Rattle.do_network.specs.Site.{moves, refuses, released_by, site_step, takes, takes_frame}
use Rattle.do_network.specs.declared.fault.PeerFault.{PeerFault, TheVariants.BadFrame}
use Rattle.do_network.specs.declared.input.{Done.TheVariants.{Closed, Moved}, Input.Input}
use Rattle.do_limits.proofs.{Selectors.has_methods, Signatures.HasMethods}
use Rattle.do_limits.proofs.values.Starting.{lines_start}
use Rattle.do_limits.specs.{SendableActs.KeepsSendable, SendableStates.NodeIsSendable}
use Rattle.do_bounds.{specs.Bounds.{makers, may_make, MayCome as Comes}, proofs.Frames.read_is}
use Rattle.do_bounds.proofs.{Inputs.{part_opens, step_comes}, Links.names_stand, Sites.PartIsWithin}
use Rattle.do_bounds.proofs.{Sites.by_both, Taken.{brings, home, released_node, take_comes}}
use Rattle.do_at_hand.{proofs.{Plain.lines_plain, Shown.{Names, blank}}, specs.AtHand.ShowsNames}
use Rattle.do_showable.proofs.Frames.{ItemPasses, frame_passes, took_stands}
use Rattle.do_showable.proofs.{Naming.{is_nameable, raised_stands}, Nodes.{IsNamed, opens}}
use Rattle.do_showable.proofs.{Runs.{Stands, run_stands}, Starts.{start_named, time_out_named}}
use Rattle.do_showable.proofs.Showing.{Shows, end_shows, start_shows, take_shows, time_out_shows}
use Rattle.do_showable.proofs.{Sites.{Came, moved, moved_if, tested}, Takes.closing_named}
use Rattle.do_showable.{proofs.Takes.take_named, specs.Shows.{AllMayStand, MayCome}}

module _ (table : List Class) (act : Acting) (p : Part) (h : IsNamed p.own.node) where
  -- the node
  abbrev n : Node
  n = p.own.node

  -- what it is judged by
  abbrev c : Context
  c = site_context table p.own

  -- an effect, where there is one, whose names and lines a record may have
  stands : (found : Option Effect) → IfAny (λ e. IsNamed e.node) found →
      IfAny (Shows IsShown raised_stands) found → IfAny Stands found
  stands =
      by_both (λ e. IsNamed e.node) (Shows IsShown raised_stands) Stands
      (λ e named shows. record { named = named; shows = shows })

  -- a run
  run_comes : KeepsSendable table act → ShowsNames table act → NodeIsSendable table n.port n →
      n.next_serial + 4096 ≤ 9223372036854775808 → Came (site_step table act p inputs.Run)
  run_comes keeps names sends room =
      moved_if p h (run_effect act c) (run_stands act c keeps names sends h room)

  -- a start
  start_comes : (selector : List ℕ) (values : List Value) →
      IsStart Second n.port selector values →
      Came (site_step table act p (inputs.Start selector values))
  start_comes selector values is =
      let found = start_effect table selector values n in
      let plain = (lines_plain (lines.Start n.port selector values ∷ []) (is, tt)).0 in
      moved_if p h found
      (stands found
      (start_named table selector values n (each_weaker (λ v. objects_of v ≡ []) (Names is_nameable)
      (λ v none. blank is_nameable v none) values plain) h)
      (start_shows IsShown raised_stands table selector values n))

  -- a time-out
  time_out_comes : Came (site_step table act p inputs.Timeout)
  time_out_comes =
      moved_if p h (time_out n)
      (stands (time_out n) (time_out_named n h) (time_out_shows IsShown raised_stands n))

  -- a close
  close_comes : (peer : ℕ) → Came (site_step table act p (inputs.Close peer))
  close_comes peer =
      tested p h (not (is_open n peer)) (moves p (closing peer n))
      (λ ends. moved p Moved p.own (closing peer n) (record {
        named = closing_named peer n h;
        shows = end_shows IsShown raised_stands peer n;
      }))

  -- a connection that ended
  end_comes : (peer : ℕ) → Came (site_step table act p (inputs.Ended peer))
  end_comes peer =
      let item = items.End [] in
      tested p h (not (can_take peer n)) (moves p (take_effect c peer item))
      (λ can. moved p Moved p.own (take_effect c peer item) (record {
        named = closing_named peer n h;
        shows = take_shows IsShown raised_stands c peer item tt;
      }))

-- ---- frames

module _ (table : List Class) (few : HasMethods table) (p : Part) (at : IsPort p.own.node.port)
    (within : PartIsWithin table p.own.node.port p) (h : IsNamed p.own.node) (from : ℕ)
    (at_from : IsPort from) (room : p.own.node.next_serial + 4096 ≤ 9223372036854775808) where
  -- the port
  abbrev to : ℕ
  to = p.own.node.port

  -- a frame that the peer may not send closes the end
  refuses_comes : (q : Part) → q.own ≡ p.own → (fault : PeerFault) →
      Came (refuses q from fault)
  refuses_comes q same fault =
      let named = subst (λ (x : Own). IsNamed x.node) (sym same) h in
      moved q (Closed from fault) q.own (closing from q.own.node) (record {
        named = closing_named from q.own.node named;
        shows = end_shows IsShown raised_stands from q.own.node;
      })

  module _ (ends : is_open p.own.node from ≡ true) (f : Frame)
      (is : IsFrame (surroundings table from to) f) where
    -- the node once names were given back
    abbrev q : Own
    q = released_by from f p.own

    -- the item
    abbrev item : Item
    item = item_of f

    -- what it is judged by
    abbrev context : Context
    context = site_context table q

    -- the node's names are as they were
    kept : IsNamed q.node
    kept = subst IsNamed (sym (released_node from f p.own)) h

    -- a record may have those of the item
    passes : ItemPasses from q.node.port item
    passes =
        subst (λ x. ItemPasses from x item) (sym (home table few p at within from ends f is))
        (frame_passes table from to at_from h.home f is)

    -- a take
    takes_item : Stands (take_effect context from item)
    takes_item =
        let same : q.node.next_serial ≡ p.own.node.next_serial =
        ap (λ (m : Node). m.next_serial) (released_node from f p.own) in
        let rises = (take_comes table few p at within from ends f is).1.serial in
        let item_comes = brings table few p at within from ends f is in
        record {
          named = take_named context from kept (omega (arith, room, same)) item passes
              (omega (arith, room, rises, same));
          shows = take_shows IsShown raised_stands context from item
              (took_stands table from q.node.port at_from kept.home item item_comes passes);
        }

    -- the site that takes it
    frame_comes : (fault : Option PeerFault) →
        Came (takes_frame table (having_read from f p) from f fault)
    frame_comes None =
        moved (having_read from f p) Moved (got from item q) (take_effect context from item)
        takes_item
    frame_comes (Some fault) = refuses_comes (having_read from f p) refl fault

  -- what was read, or a fault
  read_comes : IsTable table → is_open p.own.node from ≡ true → (raw : RawFrame) →
      IsBytes raw.payload → (read : Result Frame ℕ) →
      read_frame table from to (names_read p from) raw ≡ read → Came (takes table p from read)
  read_comes t ends raw small (Err place) e = refuses_comes p refl (BadFrame place)
  read_comes t ends raw small (Ok f) e =
      let recent = names_stand table p.links from within.links in
      let is = read_is table t from to (names_read p from) recent.0 recent.1 raw f small e in
      frame_comes ends f is (peer_fault p.own from f)

  -- a frame
  taken_comes : IsTable table → (act : Acting) (raw : RawFrame) → IsBytes raw.payload →
      Came (site_step table act p (inputs.Frame from raw))
  taken_comes t act raw small =
      let read = read_frame table from to (names_read p from) raw in
      tested p h (not (can_take from p.own.node)) (takes table p from read)
      (λ can. read_comes t (first_of (is_open p.own.node from) (can_serve p.own.node.stack) can) raw
      small read refl)

-- ---- any input

-- an input that may come gives and brings what is within the limits
comes : (port : ℕ) (i : Input) → MayCome port i → Comes i
comes port inputs.Run may = tt
comes port (inputs.Start selector values) may =
    (lines_start (lines.Start port selector values ∷ []) (may, tt)).0
comes port (inputs.Frame from raw) may = may
comes port (inputs.Close peer) may = tt
comes port (inputs.Ended peer) may = tt
comes port inputs.Timeout may = tt

module _ (table : List Class) (t : IsTable table) (few : HasMethods table) (act : Acting)
    (keeps : KeepsSendable table act) (names : ShowsNames table act) (port : ℕ)
    (at : IsPort port) where
  -- what each input shows
  input_comes : (i : Input) → MayCome port i → (p : Part) → p.own.node.port ≡ port →
      PartIsWithin table p.own.node.port p → IsNamed p.own.node →
      p.own.node.next_serial + 4096 * may_make i ≤ 9223372036854775808 →
      Came (site_step table act p i)
  input_comes inputs.Run may p home within h room =
      run_comes table act p h keeps names within.own.values (omega (arith, room))
  input_comes (inputs.Start selector values) may p home within h room =
      start_comes table act p h selector values
      (subst (λ x. IsStart Second x selector values) (sym home) may)
  input_comes (inputs.Frame from raw) may p home within h room =
      taken_comes table few p (subst IsPort (sym home) at) within h from may.0
      (omega (arith, room)) t act raw may.1
  input_comes (inputs.Close peer) may p home within h room = close_comes table act p h peer
  input_comes (inputs.Ended peer) may p home within h room = end_comes table act p h peer
  input_comes inputs.Timeout may p home within h room = time_out_comes table act p h

  -- what inputs show, one after another
  all_stand : (inputs : List Input) → AllByRecursion (MayCome port) inputs → (p : Part) →
      PartIsWithin table port p → IsNamed p.own.node →
      p.own.node.next_serial + 4096 * makers inputs ≤ 9223372036854775808 →
      AllMayStand table act p inputs
  all_stand [] may p within h room = tt
  all_stand (i ∷ is) may p within h room =
      let home = within.own.values.numbers.0 in
      let it = input_comes i may.0 p home (subst (λ x. PartIsWithin table x p) (sym home) within) h
      (omega (arith, room)) in
      let next = step_comes table t few act keeps port at i (comes port i may.0) p within in (
        it.shows,
        all_stand is may.1 (site_step table act p i).part next.part it.named
            (omega (arith, room, next.rises.serial)),
      )

-- what the inputs of a node show, from its opening on
pub lines_stand : (table : List Class) (act : Acting) (ports : List ℕ) (seat : Seat)
    (inputs : List Input) → IsTable table → All HasSignatures table → IsSeat table seat →
    KeepsSendable table act → ShowsNames table act → AllByRecursion (MayCome seat.node) inputs →
    makers inputs < 70368744177664 →
    AllMayStand table act (opening_part table ports seat) inputs
lines_stand table act ports seat inputs classes signed is keeps names come few =
    all_stand table classes (has_methods table classes signed) act keeps names seat.node is.port
    inputs come (opening_part table ports seat) (part_opens table ports seat is)
    (opens table ports seat is.port) (omega (arith, few))
