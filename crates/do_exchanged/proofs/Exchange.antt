-- Nodes that exchange their bytes do what the one machine does.
use Rattle.do_network.specs.declared.input.Input.TheVariants as inputs
use Rattle.do_sched.specs.declared.line.Line.TheVariants as lines
use Rattle.do_serve.specs.Rules as rules_of
use Rattle.std.proofs.Common.{◌≡◌, ◌==◌, ◌<◌, ◌+◌, ◌*◌, ◌++◌, ℕ, zero, suc, Bool, true, false, cond}
use Rattle.std.proofs.Common.{List, [], ◌∷◌, length, map, refl, sym, ap, ◌∙◌, subst, inl, inr}
use Rattle.std.{proofs.Common.arith, specs.Prelude.{None, Option, Some, not, slice_get, slice_set}}
use Rattle.std.{specs.List.AllByRecursion, proofs.lemmas.List.length-append}
use Rattle.do_base.specs.declared.events.event.Event.{Event}
use Rattle.do_class.specs.Class.{Class}
use Rattle.do_facts.proofs.EachOfLists.{each_joined}
use Rattle.do_frames.specs.{Pieces.stream_of, declared.frame.RawFrame.RawFrame}
use Rattle.do_limits.proofs.values.Starting.{lines_start}
use Rattle.do_limits.specs.SendableActs.{AllStartSendable, KeepsSendable, StartsSendable}
use Rattle.do_machine.specs.{World.{IsWorld, opening}, declared.state.Seat.Seat, run.Run.Acting}
use Rattle.do_machine.specs.take.Take.{can_take}
use Rattle.do_net.specs.Seen.{Seen, at_rest}
use Rattle.do_network.{proofs.EnabledIsDone.enabled_done, specs.declared.input.Done.Done}
use Rattle.do_network.specs.declared.input.{Done.TheVariants.{Closed, Moved, Skipped}, Input.Input}
use Rattle.do_network.specs.{laws.Sites.IsDone, Net.place_at, Site.{Handled, enabled_input}}
use Rattle.do_agreement.proofs.places.Numbers.{same_number}
use Rattle.do_record.specs.declared.parts.Record.{Record}
use Rattle.do_serve.specs.Hosting.{site_rules}
use Rattle.do_weave.specs.{Orders.{CanBeDone, HasOrder}, Threads.threads_of}
use Rattle.do_weave.proofs.Left.{order_of_all}
use Rattle.do_recorded.specs.Inputs.{IsServed, blocks_of, line_by, with_block}
use Rattle.do_exchanged.specs.Exchange.{Doing, HasExchange, TakesGiven, frame_from, having_done}
use Rattle.do_exchanged.specs.Runs.{Exchanged, Ran, beginning, inputs_in, record_of_run}
use Rattle.do_exchanged.proofs.{Flows.{Flows, whole}, Inputs.{Did, close_did, end_did, frame_did}}
use Rattle.do_exchanged.proofs.Inputs.{net, rules, run_did, sender, apart, start_did, state}
use Rattle.do_exchanged.proofs.Known.{Known, Stands, after_input, comes_to, done_is, known_still}
use Rattle.do_exchanged.proofs.Known.{known_then, looked, skipped_is, with_after}
use Rattle.do_exchanged.proofs.Opening.{from_map, nodes, opening_known, opening_left, records}
use Rattle.do_exchanged.proofs.{Spellings.next_taken, Threads.{Left, Thread, all_ended, left_still}}
use Rattle.do_exchanged.proofs.Threads.{left_then, then_threads, turn, turn_agrees, turn_is}
use Rattle.do_exchanged.proofs.Walk.{most_events}

-- what holds of all elements holds of each
each_at : {X : Type 0} (P : X → Type 0) (xs : List X) → AllByRecursion P xs → (k : ℕ) (x : X) →
    slice_get xs k ≡ Some x → P x
each_at P [] all k x e = absurd (cc)
each_at P (y ∷ ys) all zero x e = subst P (cc) all.0
each_at P (y ∷ ys) all (suc k) x e = each_at P ys all.1 k x e

-- a frame that was taken is the one that its input took
taken_one : (from : ℕ) (f : RawFrame) (d : Done) → IsDone d →
    frame_from from (inputs.Frame from f) d ≡ f ∷ []
taken_one from f Moved h = ap (λ b. cond b (f ∷ []) []) (same_number from)
taken_one from f (Closed peer fault) h = ap (λ b. cond b (f ∷ []) []) (same_number from)
taken_one from f Skipped h = absurd h

-- a test that must fail to go on passes
must_pass : (test : Bool) (g h : Handled) → cond (not test) None (Some g) ≡ Some h → test ≡ true
must_pass true g h e = refl
must_pass false g h e = absurd (cc)

module _ (table : List Class) (act : Acting) (seats : List Seat) (world : IsWorld table seats)
    (acts : KeepsSendable table act) where
  -- what is served may be done
  abbrev AllServed : List (Doing Seen) → Type 0
  AllServed nodes = (k : ℕ) (d : Doing Seen) → slice_get nodes k ≡ Some d →
      AllByRecursion (IsServed d.port) d.after

  module _ (before : List Event) (starts : AllStartSendable before)
      (few : length before + 2 < most_events) (nodes : List (Doing Seen))
      (known : Known table act (net table act seats world acts before) nodes) (place : ℕ)
      (d : Doing Seen) (at : slice_get nodes place ≡ Some d) (i : Input) (rest : List Input)
      (served : IsServed d.port i)
      (takes : AllByRecursion (TakesGiven (having_done site_rules d i rest)) nodes) where
    -- its site
    abbrev s : Stands table act (net table act seats world acts before) d
    s = known.stands place d at

    -- the channel from a peer of which it may take
    from_peer : (from : ℕ) (can : can_take from s.place.part.own.node ≡ true) →
        (k : ℕ) × (g : Doing Seen) × (slice_get nodes k ≡ Some g) × (g.port ≡ from)
        × Flows d.port (d.taken g.port)
        (sender table act seats world acts before starts few d.port s.place s.there from
        can).0.part.links
        (sender table act seats world acts before starts few d.port s.place s.there from
        can).0.channels g.sent
    from_peer from can =
        let x = sender table act seats world acts before starts few d.port s.place s.there from can
        in
        let r = known.each from x.0 x.1 in (
          r.0,
          r.1,
          r.2,
          r.3,
          known.flows place r.0 d r.1 at r.2
              (ap (λ n. n == d.port) r.3
              ∙ apart table act seats world acts before starts few d.port s.place s.there from can)
              x.0 (ap (place_at (net table act seats world acts before)) r.3 ∙ x.1),
        )

    -- a frame of a peer
    by_frame : (from : ℕ) (f : RawFrame) → i ≡ inputs.Frame from f → (h : Handled) →
        enabled_input table act s.place.part (inputs.Frame from f) ≡ Some h →
        Did table act seats world acts before d.port (inputs.Frame from f) h
    by_frame from f is h does =
        let can = must_pass (can_take from s.place.part.own.node) _ h does in
        let r = from_peer from can in
        let g = r.1 in
        let w = r.4 in
        let mine = each_at (TakesGiven (having_done site_rules d i rest)) nodes takes r.0 g r.2 in
        let m = comes_to table act (net table act seats world acts before) d s i rest (Some h)
        (ap (enabled_input table act s.place.part) is ∙ does) in
        let one : frame_from g.port i (site_rules.step d.part i).done ≡ f ∷ [] =
        ap (λ (q : rules_of.Moved Seen). frame_from g.port i q.done) m
        ∙ ap (λ x. frame_from g.port x h.done) is
        ∙ ap (λ p. frame_from p (inputs.Frame from f) h.done) r.3
        ∙ taken_one from f h.done
        (enabled_done table act s.place.part (inputs.Frame from f) h does) in
        let first = next_taken (d.taken g.port) f w.left mine.later
        (ap (λ fs. stream_of (d.taken g.port ++ fs) mine.later) (sym one) ∙ mine.given ∙ w.bytes) in
        frame_did table act seats world acts before starts few d.port s.place s.there from can
        w.between w.stands f (whole first.0) (w.waiting ∙ ap whole first.1) h does

    -- an end that came without notice
    by_end : (from : ℕ) (h : Handled) →
        enabled_input table act s.place.part (inputs.Ended from) ≡ Some h →
        Did table act seats world acts before d.port (inputs.Ended from) h
    by_end from h does =
        let can = must_pass (can_take from s.place.part.own.node) _ h does in
        let w = (from_peer from can).4 in
        end_did table act seats world acts before starts few d.port s.place s.there from can
        w.between w.stands h does

    -- any input
    input_did : (x : Input) → i ≡ x → (h : Handled) →
        enabled_input table act s.place.part x ≡ Some h →
        Did table act seats world acts before d.port x h
    input_did inputs.Run is h does =
        run_did table act seats world acts before starts few d.port s.place s.there h does
    input_did (inputs.Start selector values) is h does =
        start_did table act seats world acts before starts few d.port s.place s.there selector
        values h
        (lines_start (lines.Start d.port selector values ∷ [])
        (subst (IsServed d.port) is served, tt)).0 does
    input_did (inputs.Frame from f) is h does = by_frame from f is h does
    input_did (inputs.Close peer) is h does =
        close_did table act seats world acts before starts few d.port s.place s.there peer h does
    input_did (inputs.Ended from) is h does = by_end from h does
    input_did inputs.Timeout is h does = absurd (subst (IsServed d.port) is served)

    -- the blocks of the node, where its input is done
    blocks_next : (h : Handled) → enabled_input table act s.place.part i ≡ Some h →
        (line : ℕ) → blocks_of site_rules d.port line d.part (i ∷ rest)
        ≡ with_block d.port line (line_by i h.done) h.shown (λ next.
        blocks_of site_rules d.port next (at_rest table act h.part) rest)
    blocks_next h does line =
        ap (λ (m : rules_of.Moved Seen). with_block d.port line (line_by i m.done) m.shown (λ next.
        blocks_of site_rules d.port next m.part rest))
        (comes_to table act (net table act seats world acts before) d s i rest (Some h) does)

    -- and where it is skipped
    blocks_skipped : enabled_input table act s.place.part i ≡ None →
        (line : ℕ) → blocks_of site_rules d.port line d.part (i ∷ rest)
        ≡ blocks_of site_rules d.port line d.part rest
    blocks_skipped does line =
        ap (λ (m : rules_of.Moved Seen). with_block d.port line (line_by i m.done) m.shown (λ next.
        blocks_of site_rules d.port next m.part rest))
        (comes_to table act (net table act seats world acts before) d s i rest None does)
        ∙ ap (λ p. blocks_of site_rules d.port line p rest) (sym s.is)

  module _ (records : List Record) where
    -- what nodes do in so many turns, the machine does in some order of the blocks that are left
    abbrev Orders : ℕ → Type 0
    Orders turns = (before : List Event) → AllStartSendable before →
        length before + 2 * turns < most_events → (nodes : List (Doing Seen))
        (threads : List Thread) →
        Known table act (net table act seats world acts before) nodes →
        Left records threads nodes → AllServed nodes → HasExchange site_rules turns nodes →
        (n : ℕ) × HasOrder n (rules table act seats world acts)
        (state table act seats world acts before) records threads

    -- one turn more
    one_turn : (turns : ℕ) → Orders turns → (before : List Event) → AllStartSendable before →
        length before + 2 * suc turns < most_events → (nodes : List (Doing Seen))
        (threads : List Thread)
        (known : Known table act (net table act seats world acts before) nodes) →
        Left records threads nodes → AllServed nodes → (place : ℕ) (d : Doing Seen) (i : Input)
        (rest : List Input) → slice_get nodes place ≡ Some d → d.after ≡ i ∷ rest →
        AllByRecursion (TakesGiven (having_done site_rules d i rest)) nodes →
        HasExchange site_rules turns (slice_set nodes place (having_done site_rules d i rest)) →
        (n : ℕ) × HasOrder n (rules table act seats world acts)
        (state table act seats world acts before) records threads
    one_turn turns orders before starts few nodes threads known left served place d i rest at after
        takes more = go (enabled_input table act s.place.part i) refl
      where
        -- its site
        s : Stands table act (net table act seats world acts before) d
        s = known.stands place d at

        -- there is room for two events
        room : length before + 2 < most_events
        room = omega (arith, few)

        -- what it is to do is served
        mine : AllByRecursion (IsServed d.port) (i ∷ rest)
        mine = subst (AllByRecursion (IsServed d.port)) after (served place d at)

        -- so is what is left
        served_then : (e : Doing Seen) → e.port ≡ d.port → e.after ≡ rest →
            AllServed (slice_set nodes place e)
        served_then e port_is after_is k x found = elim (looked nodes place k e x d at found) [
          | inl same ↦
              subst (λ (y : Doing Seen). AllByRecursion (IsServed y.port) y.after) (sym same.1)
              (subst (λ n. AllByRecursion (IsServed n) e.after) (sym port_is)
              (subst (AllByRecursion (IsServed d.port)) (sym after_is) mine.1))
          | inr other ↦ served k x other.1
        ]

        -- an input that is skipped
        skips : enabled_input table act s.place.part i ≡ None →
            (n : ℕ) × HasOrder n (rules table act seats world acts)
            (state table act seats world acts before) records threads
        skips does =
            orders before starts (omega (arith, few)) (slice_set nodes place (with_after table act d rest))
            threads
            (known_still table act (net table act seats world acts before) nodes known place d at
            rest)
            (left_still records threads nodes left place d (with_after table act d rest) at refl
            (λ line. ap (λ is. blocks_of site_rules d.port line d.part is) after
            ∙ blocks_skipped before starts room nodes known place d at i rest mine.0 takes does
            line))
            (served_then (with_after table act d rest) refl refl)
            (subst (λ e. HasExchange site_rules turns (slice_set nodes place e))
            (skipped_is table act (net table act seats world acts before) d s i rest does) more)

        -- an input that is done
        does_it : (h : Handled) → enabled_input table act s.place.part i ≡ Some h →
            (n : ℕ) × HasOrder n (rules table act seats world acts)
            (state table act seats world acts before) records threads
        does_it h does =
            let did = input_did before starts room nodes known place d at i rest mine.0 takes i
            refl h does in
            let e = after_input table act d i rest h in
            let R = rules table act seats world acts in
            let S = state table act seats world acts before in
            let next : (line : ℕ) → _ = λ line.
            ap (λ is. blocks_of site_rules d.port line d.part is) after
            ∙ blocks_next before starts room nodes known place d at i rest mine.0 takes h does line
            ∙ ap (λ l. with_block d.port line l h.shown (λ next.
            blocks_of site_rules d.port next (at_rest table act h.part) rest)) did.is_line in
            let n = left.nodes_left place d at in
            let ts = then_threads records R S threads nodes left place d e at refl did.line h.shown
            next did.stepped did.was did.shows in
            let long = length-append before did.more in
            let short = did.few in
            let later = orders (before ++ did.more)
            (each_joined StartsSendable before did.more starts did.starts)
            (omega (arith, few, long, short)) (slice_set nodes place e) ts
            (subst (λ M. Known table act M (slice_set nodes place e)) (sym did.is_net)
            (known_then table act (net table act seats world acts before) nodes known place d at rest
            i h does did.taken did.drawn))
            (left_then records R S threads nodes left place d e at refl did.line h.shown next
            did.stepped did.was did.shows)
            (served_then e refl refl)
            (subst (λ x. HasExchange site_rules turns (slice_set nodes place x))
            (done_is table act (net table act seats world acts before) d s i rest h does) more) in (
              suc later.0,
              (
                n.place,
                record { port = d.port; index = place; at = n.at },
                turn records R S threads nodes left place d e at refl did.line h.shown next
                    did.stepped did.was did.shows,
                n.there,
                turn_is records R S threads nodes left place d e at refl did.line h.shown next
                    did.stepped did.was did.shows,
                turn_agrees records R S threads nodes left place d e at refl did.line h.shown next
                    did.stepped did.was did.shows,
                subst (λ T. HasOrder later.0 R T records ts) did.is_state later.1,
              ),
            )

        go : (found : Option Handled) → enabled_input table act s.place.part i ≡ found →
            (n : ℕ) × HasOrder n (rules table act seats world acts)
            (state table act seats world acts before) records threads
        go None does = skips does
        go (Some h) does = does_it h does

    -- all turns
    pub order_of : (turns : ℕ) → Orders turns
    order_of zero before starts few nodes threads known left served over = (
      0,
      all_ended records threads nodes left
          (λ k d found. each_at (λ (x : Doing Seen). x.after ≡ []) nodes over k d found),
    )
    order_of (suc turns) before starts few nodes threads known left served x =
        one_turn turns (order_of turns) before starts few nodes threads known left served x.0 x.1
        x.2 x.3 x.4 x.5 x.6 x.7

  -- what the nodes of a world recorded that exchanged their bytes can be done
  pub exchanged_done : (runs : List Ran) → Exchanged table act seats runs →
      CanBeDone (record { table = table; act = act }) (opening table seats)
      (map (record_of_run table act seats) runs)
  exchanged_done runs x =
      let R = rules table act seats world acts in
      let S = opening table seats in
      let rs = records table act seats world runs x.each in
      let few = x.few in
      let r = order_of rs (inputs_in table act seats runs) [] tt (omega (arith, few))
      (nodes table act seats world runs x.each) (threads_of rs)
      (opening_known table act seats world runs x.each)
      (opening_left table act seats world runs x.each) all_served x.exchange in
      subst (λ n. HasOrder n R S rs (threads_of rs)) (order_of_all rs R r.0 S r.1) r.1
    where
      all_served : AllServed (nodes table act seats world runs x.each)
      all_served k d found =
          let r = from_map (beginning table act seats) runs k d found in
          subst (λ (y : Doing Seen). AllByRecursion (IsServed y.port) y.after) r.2
          (each_at (λ (q : Ran). AllByRecursion (IsServed q.seat.node) q.inputs) runs x.served k r.0
          r.1)
