-- A frame leaves a site within the limits, whatever its bytes are.
use Rattle.do_frames.specs.declared.frame.Frame.TheVariants as frames
use Rattle.do_network.specs.declared.input.Input.TheVariants as inputs
use Rattle.std.proofs.Common.{Err, List, Ok, ap, arith, not, refl, subst, sym, true, ℕ, ◌∙◌, ◌≡◌}
use Rattle.std.specs.Prelude.{None, Option, Result, Some}
use Rattle.do_grammar.specs.Grammar.{IsBytes}
use Rattle.do_class.specs.{Class.Class, Table.IsTable}
use Rattle.do_sched.specs.Good.{IsPort}
use Rattle.do_coder.specs.Packets.{surroundings}
use Rattle.do_frames.specs.{Frames.IsFrame, declared.frame.{Frame.Frame, RawFrame.RawFrame}}
use Rattle.do_machine.specs.{Context.Context, State.is_open, declared.node.Node.Node}
use Rattle.do_machine.specs.{declared.item.Item.Item, ends.Closing.closing, run.Run.Acting}
use Rattle.do_machine.specs.take.Take.{can_serve, can_take, take_effect}
use Rattle.do_facts.proofs.Chains.{first_of}
use Rattle.do_network.specs.{Counting.{got, item_classes}, Faults.peer_fault}
use Rattle.do_network.specs.{Frames.{item_of, read_frame}, Links.{Part, having_read, names_read}}
use Rattle.do_network.specs.Own.{Own, site_context}
use Rattle.do_network.specs.Site.{refuses, released_by, site_step, takes, takes_frame}
use Rattle.do_network.specs.declared.fault.PeerFault.{PeerFault, TheVariants.BadFrame}
use Rattle.do_network.specs.declared.input.Done.TheVariants.{Closed, Moved}
use Rattle.do_limits.specs.SendableStates.{ItemIsReadable, NodeIsSendable}
use Rattle.do_limits.proofs.{Signatures.HasMethods, moves.Inputs.{IsCarried, take_carried}}
use Rattle.do_limits.proofs.Effects.{EffectIsSendable}
use Rattle.do_bounds.{proofs.Acts.{closing_rises, closing_within}, specs.Bounds.IsWithin}
use Rattle.do_bounds.proofs.{Classes.{ClassesStand, item_tells, more_kept}, Rises.{RisesBy, by_one}}
use Rattle.do_bounds.proofs.{Frames.{frame_read, read_is}, Links.{LinksStand, links_read}}
use Rattle.do_bounds.proofs.{Links.names_stand, Sites.{Came, PartIsWithin, judges, moved, tested}}

-- the node is the same once a frame gave names back
pub released_node : (from : ℕ) (f : Frame) (p : Own) → (released_by from f p).node ≡ p.node
released_node from (frames.Release serial amount) p = refl
released_node from _ p = refl

-- and so are the classes that it keeps
released_classes : (from : ℕ) (f : Frame) (p : Own) → (released_by from f p).classes ≡ p.classes
released_classes from (frames.Release serial amount) p = refl
released_classes from _ p = refl

module _ (table : List Class) (few : HasMethods table) (p : Part) (at : IsPort p.own.node.port)
    (h : PartIsWithin table p.own.node.port p) (from : ℕ) where
  -- the port
  abbrev to : ℕ
  to = p.own.node.port

  -- a frame that the peer may not send closes the end
  refuses_comes : (q : Part) → q.own ≡ p.own → LinksStand table q.links → (fault : PeerFault) →
      Came table to p.own.node 1 (refuses q from fault)
  refuses_comes q same links fault =
      let own = subst (IsWithin table to) (sym same) h.own in
      let n = q.own.node in
      let e = closing from n in
      let up = subst (λ (x : Own). RisesBy 0 x.node e.node) same (closing_rises from n) in
      moved table to p.own.node 1 q (Closed from fault) q.own e links
      own.classes (
        closing_within table to from n own.values,
        record {
          call = omega (arith, up.call);
          serial = omega (arith, up.serial);
          token = omega (arith, up.token);
        },
      )

  module _ (ends : is_open p.own.node from ≡ true) (f : Frame)
      (is : IsFrame (surroundings table from to) f) where
    -- the node once names were given back
    abbrev q : Own
    q = released_by from f p.own

    -- it is as it was
    kept : IsWithin table to q
    kept = record {
      values = subst (NodeIsSendable table to) (sym (released_node from f p.own)) h.own.values;
      classes = subst (ClassesStand table) (sym (released_classes from f p.own)) h.own.classes;
    }

    -- its port
    pub home : q.node.port ≡ to
    home = ap (λ (m : Node). m.port) (released_node from f p.own)

    -- the item
    abbrev item : Item
    item = item_of f

    -- what it is judged by
    abbrev context : Context
    context = site_context table q

    -- a frame can bring the item
    pub brings : ItemIsReadable table from q.node.port item
    brings =
        subst (λ x. ItemIsReadable table from x item) (sym home) (frame_read table from to f is)

    -- what a take leaves and sends can be carried
    pub take_comes : IsCarried context (take_effect context from item)
    take_comes =
        let still : is_open q.node from ≡ true =
        ap (λ (m : Node). is_open m from) (released_node from f p.own) ∙ ends in
        take_carried context few (judges table to at q kept) from item still brings

    -- the site that takes it
    frame_comes : IsPort from → LinksStand table (having_read from f p).links →
        (fault : Option PeerFault) →
        Came table to p.own.node 1 (takes_frame table (having_read from f p) from f fault)
    frame_comes at_from links None =
        let e = take_effect context from item in
        moved table to p.own.node 1 (having_read from f p) Moved (got from item q) e
        links
        (more_kept table (item_classes from item) q.classes
        (item_tells table from q.node.port at_from item brings) kept.classes) (
          subst (λ x. EffectIsSendable table x e) home take_comes.0,
          subst (λ m. RisesBy 1 m e.node) (released_node from f p.own)
              (by_one q.node e.node take_comes.1),
        )
    frame_comes at_from links (Some fault) = refuses_comes (having_read from f p) refl links fault

  -- what was read, or a fault
  read_comes : IsTable table → IsPort from → is_open p.own.node from ≡ true → (raw : RawFrame) →
      IsBytes raw.payload → (read : Result Frame ℕ) →
      read_frame table from to (names_read p from) raw ≡ read →
      Came table to p.own.node 1 (takes table p from read)
  read_comes t at_from ends raw small (Err place) e =
      refuses_comes p refl h.links (BadFrame place)
  read_comes t at_from ends raw small (Ok f) e =
      let recent = names_stand table p.links from h.links in
      let is = read_is table t from to (names_read p from) recent.0 recent.1 raw f small e in
      frame_comes ends f is at_from (links_read table t from to f is p.links h.links)
      (peer_fault p.own from f)

  -- a frame
  pub taken_comes : IsTable table → (act : Acting) → IsPort from → (raw : RawFrame) →
      IsBytes raw.payload →
      Came table to p.own.node 1 (site_step table act p (inputs.Frame from raw))
  taken_comes t act at_from raw small =
      let n = p.own.node in
      let read = read_frame table from to (names_read p from) raw in
      tested table to 1 p h (not (can_take from n)) (takes table p from read)
      (λ can. read_comes t at_from (first_of (is_open n from) (can_serve n.stack) can) raw small
      read refl)
