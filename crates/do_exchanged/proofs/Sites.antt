-- What an input makes of a site: it reads at most one frame, and sends frames over its links.
use Rattle.do_network.specs.declared.input.Input.TheVariants as inputs
use Rattle.std.proofs.Common.{◌≡◌, ◌==◌, ◌++◌, ℕ, Bool, true, false, List, [], map, fold, refl, sym}
use Rattle.std.{proofs.Common.{ap, ◌∙◌, subst, Result, Ok, Err}, specs.Prelude.{None, Option, Some}}
use Rattle.std.{specs.Prelude.{if◌then◌else◌, not, option_map}, proofs.lemmas.Bool.eqb-true}
use Rattle.do_class.specs.Class.{Class}
use Rattle.do_frames.specs.{Frames.after_frame, declared.frame.{Frame.Frame, RawFrame.RawFrame}}
use Rattle.do_machine.specs.{declared.state.Effect.Effect, Start.start_effect, State.is_open}
use Rattle.do_machine.specs.{declared.item.Item.TheVariants.End, ends.Closing.closing}
use Rattle.do_machine.specs.{ends.TimeOut.time_out, run.Run.{Acting, run_effect}}
use Rattle.do_machine.specs.take.Take.{can_take, take_effect}
use Rattle.do_network.specs.{Faults.peer_fault, Frames.read_frame, Own.site_context}
use Rattle.do_network.specs.declared.{fault.PeerFault.PeerFault, input.Input.Input}
use Rattle.do_network.specs.Links.{Link, Part, change_link, having_read, link_to, names_read}
use Rattle.do_network.specs.{Net.Channel, Site.{Handled, Move, enabled_input, frame_move, handled}}
use Rattle.do_network.specs.{Site.{moves, site_move, takes, takes_frame}, Step.with_sending}
use Rattle.do_agreement.proofs.places.KeyedLists.{found_changed, found_elsewhere}
use Rattle.do_agreement.proofs.places.PlacesChanged.{some_is}
use Rattle.do_serve.specs.{Hosting.outgoing, Rules.Outgoing}
use Rattle.do_exchanged.proofs.Flows.{Flows, sent_flows}

-- a link is still there, and its stream has begun where it had, once another or it was read
read_same : (from : ℕ) (g : Link → Link) → ((l : Link) → (g l).peer ≡ l.peer) →
    ((l : Link) → (g l).greeted ≡ l.greeted) → (links : List Link) (to : ℕ) (w : Link) →
    link_to links to ≡ Some w →
    (v : Link) × (link_to (change_link from g links) to ≡ Some v) × (v.greeted ≡ w.greeted)
read_same from g keeps same links to w found = go (from == to) refl
  where
    go : (b : Bool) → (from == to) ≡ b →
        (v : Link) × (link_to (change_link from g links) to ≡ Some v) × (v.greeted ≡ w.greeted)
    go true e = (
      g w,
      subst (λ z. link_to (change_link z g links) to ≡ Some (g w)) (sym (eqb-true from to e))
          (found_changed (λ l. l.peer) g keeps to links ∙ ap (option_map g) found),
      same w,
    )
    go false e = (w, found_elsewhere (λ l. l.peer) g keeps from to e links ∙ found, refl)

-- A site sends frames, over the links of one that has read at most a frame more
pub record Sends (p : Part) (h : Handled) : Type 0 where
  pub reader : Part
  pub same : (to : ℕ) (w : Link) → link_to p.links to ≡ Some w →
      (v : Link) × (link_to reader.links to ≡ Some v) × (v.greeted ≡ w.greeted)
  pub move : Move
  pub is : h ≡ handled reader h.done move

module _ (p : Part) where
  -- by an effect
  moved_sends : (found : Option Effect) (h : Handled) → option_map (moves p) found ≡ Some h →
      Sends p h
  moved_sends None h e = absurd (cc)
  moved_sends (Some effect) h e =
      subst (Sends p) (some_is (moves p effect) h e) (record {
        reader = p;
        same = λ to w found. (w, found, refl);
        move = site_move p.own effect;
        is = refl;
      })

  -- unless a test passes
  guarded_sends : (test : Bool) (g h : Handled) → Sends p g →
      (if test then None else Some g) ≡ Some h → Sends p h
  guarded_sends true g h s e = absurd (cc)
  guarded_sends false g h s e = subst (Sends p) (some_is g h e) s

  module _ (table : List Class) (from : ℕ) where
    -- a frame that was read
    frame_sends : (f : Frame) (q : Part) → ((to : ℕ) (w : Link) → link_to p.links to ≡ Some w →
        (v : Link) × (link_to q.links to ≡ Some v) × (v.greeted ≡ w.greeted)) →
        (fault : Option PeerFault) → Sends p (takes_frame table q from f fault)
    frame_sends f q same None =
        record { reader = q; same = same; move = frame_move table from f q.own; is = refl }
    frame_sends f q same (Some fault) = record {
      reader = q;
      same = same;
      move = site_move q.own (closing from q.own.node);
      is = refl;
    }

    -- a frame as it comes
    takes_sends : (read : Result Frame ℕ) → Sends p (takes table p from read)
    takes_sends (Ok f) =
        frame_sends f (having_read from f p)
        (read_same from (λ l. record l { read = after_frame l.read f }) (λ l. refl) (λ l. refl)
        p.links) (peer_fault p.own from f)
    takes_sends (Err place) = record {
      reader = p;
      same = λ to w found. (w, found, refl);
      move = site_move p.own (closing from p.own.node);
      is = refl;
    }

  -- by an effect, unless a test passes
  tested_sends : (test : Bool) (effect : Effect) (h : Handled) →
      (if test then None else Some (moves p effect)) ≡ Some h → Sends p h
  tested_sends test effect h e =
      guarded_sends test (moves p effect) h (record {
        reader = p;
        same = λ to w found. (w, found, refl);
        move = site_move p.own effect;
        is = refl;
      }) e

  -- any input
  pub input_sends : (table : List Class) (act : Acting) (i : Input) (h : Handled) →
      enabled_input table act p i ≡ Some h → Sends p h
  input_sends table act inputs.Run h e =
      moved_sends (run_effect act (site_context table p.own)) h e
  input_sends table act (inputs.Start selector values) h e =
      moved_sends (start_effect table selector values p.own.node) h e
  input_sends table act (inputs.Frame from f) h e =
      let read = read_frame table from p.own.node.port (names_read p from) f in
      guarded_sends (not (can_take from p.own.node)) (takes table p from read) h
      (takes_sends table from read) e
  input_sends table act (inputs.Close peer) h e =
      tested_sends (not (is_open p.own.node peer)) (closing peer p.own.node) h e
  input_sends table act (inputs.Ended peer) h e =
      tested_sends (not (can_take peer p.own.node))
      (take_effect (site_context table p.own) peer (End [])) h e
  input_sends table act inputs.Timeout h e = moved_sends (time_out p.own.node) h e

  -- what it sends flows behind what it sent before
  pub input_flows : (h : Handled) → Sends p h → (to : ℕ) (taken : List RawFrame)
      (cs : List Channel) (sent : List Outgoing) → Flows to taken p.links cs sent →
      Flows to taken h.part.links (fold with_sending cs h.sent) (sent ++ map outgoing h.sent)
  input_flows h s to taken cs sent f =
      let v = s.same to f.writer f.writes in
      subst (λ (g : Handled). Flows to taken g.part.links (fold with_sending cs g.sent)
      (sent ++ map outgoing g.sent)) (sym s.is)
      (sent_flows to taken s.reader.links s.move.posted cs sent (record {
        writer = v.0;
        writes = v.1;
        between = f.between;
        stands = f.stands;
        left = f.left;
        waiting = f.waiting;
        begun = v.2 ∙ f.begun;
        bytes = f.bytes;
      }))
