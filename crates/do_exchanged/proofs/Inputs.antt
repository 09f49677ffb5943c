-- An input of a site is done by the events that its record stands for.
use Rattle.do_base.specs.declared.events.event.Event.TheVariants as events
use Rattle.do_network.specs.declared.input.Done.TheVariants as done
use Rattle.do_network.specs.declared.input.Input.TheVariants as inputs
use Rattle.do_record.specs.declared.parts.RecordLine.TheVariants as records
use Rattle.std.proofs.Common.{◌≡◌, ◌==◌, ◌<◌, ◌≤◌, ◌+◌, ◌++◌, ℕ, Bool, true, false, cond, List, []}
use Rattle.std.proofs.Common.{◌∷◌, length, refl, sym, ap, ◌∙◌, append_assoc, arith}
use Rattle.std.specs.Prelude.{None, Option, Some, option_and_then, option_map, slice_get, unwrap_or}
use Rattle.std.proofs.lemmas.{Bool.eqb-true, List.length-append}
use Rattle.do_base.specs.declared.{events.event.Event.Event, values.value.Value.Value}
use Rattle.do_class.specs.Class.{Class}
use Rattle.do_facts.{proofs.EachOfLists.each_joined, specs.Reached.reached}
use Rattle.do_frames.specs.declared.frame.RawFrame.{RawFrame}
use Rattle.do_limits.specs.SendableActs.{AllStartSendable, KeepsSendable, StartsSendable}
use Rattle.do_machine.specs.{Lists.some_passes, State.{is_open, node}, Step.step, World.IsWorld}
use Rattle.do_machine.specs.declared.state.{Seat.Seat, State.State, Stepped.Stepped}
use Rattle.do_machine.specs.{run.Run.Acting, take.Take.can_take}
use Rattle.do_trace.specs.declared.outcome.Outcome.{Outcome}
use Rattle.do_network.specs.{declared.input.Input.Input, Links.Part, Net.{Carried, Channel, Lost}}
use Rattle.do_network.specs.Net.{Net, Place, Whole, change_place, channel_to, part_at, place_at}
use Rattle.do_network.specs.{Net.with_channel, Site.{Handled, enabled_input, passed}}
use Rattle.do_network.specs.Step.{NetStepped, advanced, net_moved, net_skipped, net_step, with_loss}
use Rattle.do_network.proofs.FramesRead.{fits_taken}
use Rattle.do_agreement.proofs.agreement.{AgreesFits.fits_so, GoesOn.Goes}
use Rattle.do_agreement.proofs.places.KeyedLists.{changed_twice, found_changed}
use mathlib.Core.Path.{fun_ext}
use Rattle.do_agreement.proofs.places.PlacesChanged.{place_elsewhere, place_here, place_twice}
use Rattle.do_record.specs.declared.parts.RecordLine.{RecordLine}
use Rattle.do_weave.specs.{Inputs.{ending, tried, tried_step}, Rules.Rules}
use Rattle.do_within.specs.Received.{net_reached}
use Rattle.do_recorded.specs.Inputs.{line_by}
use Rattle.do_exchanged.specs.Exchange.{frame_from}
use Rattle.do_exchanged.proofs.Drawn.{Drawn, drawn_end, drawn_frame, drawn_none, ended_channel}
use Rattle.do_exchanged.proofs.Walk.{goes_at, most_events, net_then, same_outcome, state_then}
use Rattle.do_exchanged.proofs.Events.{moved_done, guarded, open_towards, place_of, hands_so}
use Rattle.do_exchanged.proofs.Events.{takes_so, loses_so}

module _ (table : List Class) (act : Acting) (seats : List Seat) (world : IsWorld table seats)
    (acts : KeepsSendable table act) where
  -- what the machine goes by
  abbrev pub rules : Rules
  rules = record { table = table; act = act }

  -- the network to which events lead
  abbrev pub net : List Event → Net
  net events = net_reached table act seats events

  -- the state to which they lead
  abbrev pub state : List Event → State
  state events = reached table act seats events

  -- An input of a port came to this by events behind some: in the network, behind what it took of
  -- a channel, and in the machine, as the line that a record has for it
  pub record Did (before : List Event) (port : ℕ) (i : Input) (h : Handled) : Type 0 where
    pub more : List Event
    pub few : length more ≤ 2
    pub starts : AllStartSendable more
    pub taken : Net
    pub drawn : Drawn (net before) taken port i h.done
    pub is_net : net (before ++ more) ≡ (net_moved port taken h).net
    pub line : RecordLine
    pub is_line : line_by i h.done ≡ Some line
    pub stepped : Stepped
    pub was : tried rules (state before) port line ≡ Some stepped
    pub is_state : state (before ++ more) ≡ stepped.state
    pub shows : stepped.outcome.shown ≡ h.shown

  module _ (before : List Event) (starts : AllStartSendable before)
      (few : length before + 2 < most_events) (port : ℕ) (pl : Place)
      (there : place_at (net before) port ≡ Some pl) where
    -- the network and the machine agree
    abbrev goes : Goes table (net before) (state before)
    goes = goes_at table act seats world acts before starts (omega (arith, few))

    -- one event more is one of few
    one_more : (e : Event) → length (before ++ e ∷ []) < most_events
    one_more e = let k = length-append before (e ∷ []) in omega (arith, few, k)

    -- an enabled event is tried
    tried_so : (e : Event) → (step table act (state before) e).outcome.enabled ≡ true →
        tried_step rules (state before) e ≡ Some (step table act (state before) e)
    tried_so e on = ap (λ b. cond b (Some (step table act (state before) e)) None) on

    -- an input that takes nothing of a channel
    by_act : (e : Event) (i : Input) (h : Handled) (line : RecordLine) → StartsSendable e →
        net_step table act (net before) e ≡ net_moved port (net before) h →
        ((x : ℕ) → frame_from x i h.done ≡ []) → line_by i h.done ≡ Some line →
        tried rules (state before) port line ≡ tried_step rules (state before) e →
        Did before port i h
    by_act e i h line start does none is_line try =
        let same = same_outcome table act seats world acts before e
        (each_joined StartsSendable before (e ∷ []) starts (start, tt)) (one_more e) in
        let shown = sym same ∙ ap (λ (s : NetStepped). s.outcome) does in
        record {
          more = e ∷ [];
          few = omega arith;
          starts = (start, tt);
          taken = net before;
          drawn = drawn_none (net before) port i h.done none;
          is_net = net_then table act seats world acts before e
              ∙ ap (λ (s : NetStepped). s.net) does;
          line = line;
          is_line = is_line;
          stepped = step table act (state before) e;
          was = try ∙ tried_so e (ap (λ (o : Outcome). o.enabled) shown);
          is_state = state_then table act seats world acts before e;
          shows = ap (λ (o : Outcome). o.shown) shown;
        }

    -- what nothing that was skipped took
    no_frame : (i : Input) (h : Handled) → h.done ≡ done.Moved →
        ((x : ℕ) → frame_from x i done.Moved ≡ []) → (x : ℕ) → frame_from x i h.done ≡ []
    no_frame i h is none x = ap (frame_from x i) is ∙ none x

    -- an act
    pub run_did : (h : Handled) → enabled_input table act pl.part inputs.Run ≡ Some h →
        Did before port inputs.Run h
    run_did h does =
        let is = moved_done pl.part _ h does in
        by_act (events.Run port) inputs.Run h records.Run tt
        (ap (λ o. unwrap_or o (net_skipped (net before)))
        (hands_so table act (net before) port inputs.Run pl h there does))
        (no_frame inputs.Run h is (λ x. refl)) (ap (line_by inputs.Run) is) refl

    -- a start
    pub start_did : (selector : List ℕ) (values : List Value) (h : Handled) →
        StartsSendable (events.Start port selector values) →
        enabled_input table act pl.part (inputs.Start selector values) ≡ Some h →
        Did before port (inputs.Start selector values) h
    start_did selector values h start does =
        let i = inputs.Start selector values in
        let is = moved_done pl.part _ h does in
        by_act (events.Start port selector values) i h (records.Start selector values) start
        (ap (λ o. unwrap_or o (net_skipped (net before)))
        (hands_so table act (net before) port i pl h there does))
        (no_frame i h is (λ x. refl)) (ap (line_by i) is) refl

    -- a close
    pub close_did : (peer : ℕ) (h : Handled) →
        enabled_input table act pl.part (inputs.Close peer) ≡ Some h →
        Did before port (inputs.Close peer) h
    close_did peer h does =
        let i = inputs.Close peer in
        let is : h.done ≡ done.Moved =
        ap (λ (g : Handled). g.done) (sym (guarded (is_open pl.part.own.node peer) _ h does).1) in
        by_act (events.Close port peer) i h (records.Close peer) tt
        (ap (λ o. unwrap_or o (net_skipped (net before)))
        (hands_so table act (net before) port i pl h there does))
        (no_frame i h is (λ x. refl)) (ap (line_by i) is) refl

    module _ (from : ℕ) (can : can_take from pl.part.own.node ≡ true) where
      -- the end is open
      reaches : is_open pl.part.own.node from ≡ true
      reaches = open_towards from pl.part.own.node can

      -- the site is there
      site_there : part_at (net before) port ≡ Some pl.part
      site_there = ap (option_map (λ (x : Place). x.part)) there

      -- and so is the peer's
      pub sender : (x : Place) × (place_at (net before) from ≡ Some x)
      sender =
          place_of (net before) from
          (goes.agrees.tallies.counts.peers port from pl.part site_there reaches)

      -- the two are apart
      pub apart : (from == port) ≡ false
      apart = go (from == port) refl
        where
          go : (b : Bool) → (from == port) ≡ b → b ≡ false
          go false e = refl
          go true e =
              absurd (both (ap (is_open pl.part.own.node) (sym (eqb-true from port e)) ∙ reaches)
              (goes.agrees.tallies.counts.owns port pl.part site_there).apart)
            where
              both : {b : Bool} → b ≡ true → b ≡ false → ⊥
              both h k = cc

      module _ (c : Channel) (stands : channel_to port sender.0 ≡ Some c) where
        -- a frame that stands first in the channel
        pub frame_did : (f : RawFrame) (rest : List Carried) → c.waiting ≡ Whole f ∷ rest →
            (h : Handled) → enabled_input table act pl.part (inputs.Frame from f) ≡ Some h →
            Did before port (inputs.Frame from f) h
        frame_did f rest waits h does =
            let i = inputs.Frame from f in
            let e = events.Take port from in
            let M = change_place from (with_channel port (advanced (Whole f))) (net before) in
            let is : h.done ≡ done.Moved =
            sym (ap (λ (o : Option Handled). (unwrap_or o (passed pl.part)).done) does)
            ∙ fits_taken table world.classes act (net before) (state before)
            (fits_so table (net before) (state before) goes.agrees goes.links goes.calls) port from
            pl.part site_there can c
            (ap (option_and_then (channel_to port)) sender.1 ∙ stands) f rest waits in
            let drawn = drawn_frame (net before) port from apart sender.0 sender.1 c stands f rest
            waits h.done
            (λ x. ap (frame_from x i) is) in
            let does_net = takes_so table act (net before) port from pl sender.0 c (Whole f) h there
            can sender.1 stands (ap (λ w. slice_get w 0) waits) (drawn.own ∙ there) does in
            let same = same_outcome table act seats world acts before e
            (each_joined StartsSendable before (e ∷ []) starts (tt, tt)) (one_more e) in
            let shown = sym same ∙ ap (λ (s : NetStepped). s.outcome) does_net in
            record {
              more = e ∷ [];
              few = omega arith;
              starts = (tt, tt);
              taken = M;
              drawn = drawn;
              is_net = net_then table act seats world acts before e
                  ∙ ap (λ (s : NetStepped). s.net) does_net;
              line = records.Take from;
              is_line = ap (line_by i) is;
              stepped = step table act (state before) e;
              was = tried_so e (ap (λ (o : Outcome). o.enabled) shown);
              is_state = state_then table act seats world acts before e;
              shows = ap (λ (o : Outcome). o.shown) shown;
            }

        -- the loss of what the peer sent
        abbrev lose : Event
        lose = events.Lose from port 0

        -- the take of the end behind it
        abbrev take : Event
        take = events.Take port from

        -- the network after the loss
        abbrev L : Net
        L = change_place from (with_channel port (with_loss 0)) (net before)

        -- it is that of the events
        lost_net : net (before ++ lose ∷ []) ≡ L
        lost_net =
            net_then table act seats world acts before lose
            ∙ ap (λ (s : NetStepped). s.net)
            (loses_so table act (net before) port from pl sender.0 c there reaches sender.1 stands)

        -- its state
        lost_state : state (before ++ lose ∷ []) ≡ (step table act (state before) lose).state
        lost_state = state_then table act seats world acts before lose

        -- the node is the machine's
        node_there : node (state before) port ≡ Some pl.part.own.node
        node_there =
            sym (goes.agrees.tallies.shows.nodes port)
            ∙ ap (option_map (λ (r : Part). r.own.node)) site_there

        -- both events
        abbrev both_events : List Event
        both_events = lose ∷ take ∷ []

        -- one behind the other
        one_by_one : (before ++ lose ∷ []) ++ take ∷ [] ≡ before ++ both_events
        one_by_one = append_assoc before (lose ∷ []) (take ∷ [])

        -- the network with the loss taken
        abbrev K : Net
        K = change_place from (with_channel port ended_channel) (net before)

        -- it is the other in two changes
        K_is : change_place from (with_channel port (advanced Lost)) L ≡ K
        K_is =
            place_twice from (with_channel port (with_loss 0)) (with_channel port (advanced Lost))
            (λ y. refl) (net before)
            ∙ ap (λ f. change_place from f (net before)) (fun_ext (λ y. twice y))
          where
            twice : (y : Place) →
                with_channel port (advanced Lost) (with_channel port (with_loss 0) y)
                ≡ with_channel port ended_channel y
            twice y = ap (λ cs. record y { channels = cs })
                (changed_twice (λ c. c.to) (with_loss 0) (λ c. refl) (advanced Lost) port
                y.channels)

        -- an end without notice
        pub end_did : (h : Handled) →
            enabled_input table act pl.part (inputs.Ended from) ≡ Some h →
            Did before port (inputs.Ended from) h
        end_did h does =
            let i = inputs.Ended from in
            let is : h.done ≡ done.Moved =
            ap (λ (g : Handled). g.done)
            (sym (guarded (can_take from pl.part.own.node) _ h does).1) in
            let drawn = drawn_end (net before) port from apart sender.0 sender.1 h.done in
            let own : place_at L port ≡ Some pl =
            place_elsewhere from (with_channel port (with_loss 0)) (λ y. refl) (net before) port
            apart ∙ there in
            let behind : place_at L from ≡ Some (with_channel port (with_loss 0) sender.0) =
            place_here from (with_channel port (with_loss 0)) (λ y. refl) (net before) sender.0
            sender.1 in
            let lost_there : channel_to port (with_channel port (with_loss 0) sender.0)
            ≡ Some (with_loss 0 c) =
            found_changed (λ c. c.to) (with_loss 0) (λ c. refl) port sender.0.channels
            ∙ ap (option_map (with_loss 0)) stands in
            let now : List Event = before ++ lose ∷ [] in
            let starts_now : AllStartSendable now =
            each_joined StartsSendable before (lose ∷ []) starts (tt, tt) in
            let does_net : net_step table act (net now) take
            ≡ net_moved port K h =
            ap (λ N. net_step table act N take) lost_net
            ∙ takes_so table act L port from pl (with_channel port (with_loss 0) sender.0)
            (with_loss 0 c) Lost h own can behind lost_there refl
            (ap (λ N. place_at N port) K_is ∙ drawn.own ∙ there) does
            ∙ ap (λ N. net_moved port N h) K_is in
            let lost_shows = sym (same_outcome table act seats world acts before lose starts_now
            (one_more lose))
            ∙ ap (λ (s : NetStepped). s.outcome)
            (loses_so table act (net before) port from pl sender.0 c there reaches sender.1
            stands) in
            let same = same_outcome table act seats world acts now take
            (each_joined StartsSendable now (take ∷ []) starts_now (tt, tt))
            (let k = length-append before (lose ∷ []) in
            let l = length-append now (take ∷ []) in omega (arith, few, k, l)) in
            let shown = sym same ∙ ap (λ (s : NetStepped). s.outcome) does_net in
            record {
              more = both_events;
              few = omega arith;
              starts = (tt, (tt, tt));
              taken = K;
              drawn = drawn;
              is_net = ap net (sym one_by_one) ∙ net_then table act seats world acts now take
                  ∙ ap (λ (s : NetStepped). s.net) does_net;
              line = records.Ended from;
              is_line = ap (line_by i) is;
              stepped = ending rules (state before) port from;
              was = ap (λ b. cond b (Some (ending rules (state before) port from)) None)
                  (ap (some_passes (can_take from)) node_there ∙ can);
              is_state = ap state (sym one_by_one)
                  ∙ state_then table act seats world acts now take
                  ∙ ap (λ S. (step table act S take).state) lost_state;
              shows = ap (λ (o : Outcome). o.shown ++ (step table act
                  (step table act (state before) lose).state take).outcome.shown) lost_shows
                  ∙ ap (λ S. (step table act S take).outcome.shown) (sym lost_state)
                  ∙ ap (λ (o : Outcome). o.shown) shown;
            }
