-- Where the end towards a peer closes, nothing else changes but what is freed and left.
use Rattle.std.specs.FinMap as map_of
use Rattle.do_machine.specs.declared.item.Item.TheVariants as items
use Rattle.do_network.specs.declared.input.Done.TheVariants as dones
use Rattle.do_network.specs.declared.input.Input.TheVariants as inputs
use Rattle.std.proofs.Common.{◌≡◌, ◌==◌, ◌&&◌, ◌||◌, ◌⊎◌, ℕ, Bool, true, false, cond, List, [], ◌∷◌}
use Rattle.std.proofs.Common.{Option, None, Some, Result, Ok, Err, refl, subst, sym, ap, ◌∙◌, arith}
use Rattle.std.proofs.{Common.{fold, inl, inr}, lemmas.Bool.Decides.nat_tests}
use Rattle.std.specs.{Prelude.{filter, map, not, unwrap_or}, List.AllByRecursion}
use Rattle.std.{specs.FinMap.get-retain_keys, proofs.lemmas.Map.Views.any-filter_same}
use Rattle.do_base.specs.names.Names.{ObjectName}
use Rattle.do_class.specs.Class.{Class}
use Rattle.do_export.{specs.Counts.{Counts, entry_cmp}, proofs.Order.entry_same}
use Rattle.do_frames.specs.{declared.frame.{Frame.Frame, RawFrame.RawFrame}, Frames.raw}
use Rattle.do_import.specs.ByObject.{object_of}
use Rattle.do_machine.specs.{Effect.{each, only, queueing}, Lists.IsIn}
use Rattle.do_machine.specs.{State.{has_asked, holds, is_known, is_open}, declared.node.Node.Node}
use Rattle.do_machine.specs.declared.{node.{Stored.Stored, Wanted.Wanted}, state.Effect.Effect}
use Rattle.do_machine.specs.{declared.state.Parcel.Parcel, ends.Closing.{asked_of, closing, parted}}
use Rattle.do_machine.specs.held.{Kept.kept, Leaving.{freeing, left, leaving}, Refers.node_objects}
use Rattle.do_machine.specs.{lend.Asking.settling, run.Run.Acting, take.Take.can_take}
use Rattle.do_machine.{specs.take.Take.take_effect, proofs.{Having.same_is, Keeping.are_kept}}
use Rattle.do_packet.specs.Met.{has_object, same_object}
use Rattle.do_network.specs.{declared.fault.PeerFault.PeerFault, Counting.counted}
use Rattle.do_network.specs.{Faults.peer_fault, Frames.{Posted, all_posted, posted, read_frame}}
use Rattle.do_network.specs.Links.{Link, Outbox, Part, Sending, all_sent, having_read, link_to}
use Rattle.do_network.specs.Links.{Piece, names_read, sending, sendings, Piece.{Framed, Greeting}}
use Rattle.do_network.specs.Own.{Own, is_counted, site_context}
use Rattle.do_network.specs.Site.{Handled, passed, site_move, site_step, takes, takes_frame}
use Rattle.do_peers.{specs.Peers.{ClosedAlone, IsNotice}, proofs.Keeping.all_behind}

-- ---- the node

-- what is told of lends that are over leaves the node as it is
settled_node : (w : Wanted) (n : Node) → (settling w n).node ≡ n
settled_node w n = go (not (is_open n w.token.lender))
  where
    go : (shut : Bool) →
        (cond shut (only n) (queueing w.token.lender (items.Settled w.token.number) n)).node ≡ n
    go true = refl
    go false = refl

-- and so does what is told of each
all_settled_node : (ws : List Wanted) (n : Node) → (each settling ws n).node ≡ n
all_settled_node [] n = refl
all_settled_node (w ∷ ws) n =
    all_settled_node ws (settling w n).node ∙ settled_node w n

-- the node whose end closes is without what it had with the peer
closed_node : (peer : ℕ) (n : Node) → (closing peer n).node ≡ parted peer n
closed_node peer n = all_settled_node (asked_of peer n) (parted peer n)

-- an object is among those that pass a test if it is among all and passes
has_filtered : (test : ObjectName → Bool) (os : List ObjectName) (o : ObjectName) →
    has_object (filter test os) o ≡ (test o && has_object os o)
has_filtered test os o = any-filter_same (same_object o) test (test o)
    (λ k same. ap test (sym (same_is o k same))) os

-- the second of two tests that pass passes
second : (a b : Bool) → (a && b) ≡ true → b ≡ true
second true b passes = passes
second false b passes = absurd (cc (passes))

-- one of two tests passes where the second does
or_second : (a b : Bool) → b ≡ true → (a || b) ≡ true
or_second true b passes = refl
or_second false b passes = passes

-- and it is so where the first passes as another did
either_stays : (a b c : Bool) → (a ≡ true → b ≡ true) → (a || c) ≡ true → (b || c) ≡ true
either_stays true b c leads any = ap (λ x. x || c) (leads refl)
either_stays false b c leads any = or_second b c any

-- what a map by objects has is kept at an object that passes
kept_key : {V : Type 0} (test : ObjectName → Bool) (m : map_of.FinMap entry_cmp V)
    (o : ObjectName) → test o ≡ true →
    map_of.get (map_of.retain_keys m (λ k. test (object_of k))) (o.node, o.serial)
    ≡ map_of.get m (o.node, o.serial)
kept_key test m o passes =
    get-retain_keys m (λ k. test (object_of k)) (o.node, o.serial)
    (λ k tied. ap (λ (e : ℕ × ℕ). test (object_of e))
    (sym (entry_same (o.node, o.serial) k tied)))
    ∙ ap (λ b. cond b (map_of.get m (o.node, o.serial)) None) passes

-- ---- what is sent

-- a frame that tells of a lend that is over, or of an object that is left
abbrev IsNoticeFrame : Frame → Type 0
IsNoticeFrame f = (spelled : RawFrame) → IsNotice (Framed f spelled)

-- what is posted goes to the peer, or is such a frame
abbrev IsApart : ℕ → Posted → Type 0
IsApart peer x = ((x.to == peer) ≡ true) ⊎ IsNoticeFrame x.frame

-- so is what is sent
abbrev IsSentApart : ℕ → Sending → Type 0
IsSentApart peer x = ((x.to == peer) ≡ true) ⊎ IsNotice x.piece

module _ (peer : ℕ) where
  -- what is sent for what is posted
  sendings_apart : (x : Posted) → IsApart peer x → (l : Option Link) →
      AllByRecursion (IsSentApart peer) (sendings x l)
  sendings_apart x apart None = tt
  sendings_apart x apart (Some l) = go l.greeted
    where
      by : IsApart peer x → IsSentApart peer
          (record { to = x.to; piece = Framed x.frame (raw l.sent x.frame) })
      by (inl mine) = inl mine
      by (inr notice) = inr (notice (raw l.sent x.frame))

      go : (greeted : Bool) → AllByRecursion (IsSentApart peer)
          (map (λ (piece : Piece). record { to = x.to; piece = piece })
          (cond greeted (Framed x.frame (raw l.sent x.frame) ∷ [])
          (Greeting ∷ Framed x.frame (raw l.sent x.frame) ∷ [])))
      go true = (by apart, tt)
      go false = (inr tt, (by apart, tt))

  -- and for all of it
  sent_apart : (xs : List Posted) → AllByRecursion (IsApart peer) xs → (o : Outbox) →
      AllByRecursion (IsSentApart peer) o.sent →
      AllByRecursion (IsSentApart peer) (fold sending o xs).sent
  sent_apart [] apart o before = before
  sent_apart (x ∷ xs) apart o before = sent_apart xs apart.1 (sending o x)
      (all_behind (IsSentApart peer) o.sent (sendings x (link_to o.links x.to)) before
      (sendings_apart x apart.0 (link_to o.links x.to)))

  -- items that go to the peer, or tell of lends that are over or of objects that are left
  abbrev Tells : Parcel → Type 0
  Tells x = (received : Counts) → IsApart peer (posted received x)

  -- as frames
  tells_posted : (received : Counts) (xs : List Parcel) → AllByRecursion Tells xs →
      AllByRecursion (IsApart peer) (all_posted received xs)
  tells_posted received [] all = tt
  tells_posted received (x ∷ xs) all = (all.0 received, tells_posted received xs all.1)

  -- a lend that is over is told
  tells_settled : (w : Wanted) (n : Node) → AllByRecursion Tells (settling w n).sent
  tells_settled w n = go (not (is_open n w.token.lender))
    where
      go : (shut : Bool) → AllByRecursion Tells
          (cond shut (only n) (queueing w.token.lender (items.Settled w.token.number) n)).sent
      go true = tt
      go false = ((λ received. inr (λ spelled. tt)), tt)

  -- so is each
  tells_all_settled : (ws : List Wanted) (n : Node) →
      AllByRecursion Tells (each settling ws n).sent
  tells_all_settled [] n = tt
  tells_all_settled (w ∷ ws) n = all_behind Tells (settling w n).sent
      (each settling ws (settling w n).node).sent (tells_settled w n)
      (tells_all_settled ws (settling w n).node)

  -- a port is itself
  itself : (peer == peer) ≡ true
  itself = grind (arith, nat_tests)

  -- what is told where an end closes
  tells_closed : (n : Node) → AllByRecursion Tells (closing peer n).sent
  tells_closed n =
      ((λ received. inl itself), tells_all_settled (asked_of peer n) (parted peer n))

  -- what is told of objects that are left
  tells_left : (os : List ObjectName) → AllByRecursion Tells (map left os)
  tells_left [] = tt
  tells_left (o ∷ os) = ((λ received. inr (λ spelled. tt)), tells_left os)

  -- ---- the move

  -- a move by which the end towards the peer closes
  alone : (p : Own) (e : Effect) (links : List Link) → e.node ≡ parted peer p.node →
      AllByRecursion Tells e.sent →
      ClosedAlone peer p (site_move p e).own (all_sent links (site_move p e).posted).sent
  alone p e links node tells = record {
    node = ap {A = Node} (λ n. record n { heap = d.node.heap; held = d.node.held }) node;
    heap = record { stand = λ x is. subst (λ (n : Node). IsIn n.heap x) node (there x is) };
    held = λ o. held_is o
        ∙ ap (λ (n : Node). has_object (node_objects freed) o && holds n o) node
        ∙ ap (λ b. has_object (node_objects freed) o && b)
        (has_filtered (λ (x : ObjectName). not (x.node == peer)) p.node.held o);
    received = λ o still.
        ap (λ c. unwrap_or c 0) (kept_key (holds d.node) r.received o still
        ∙ kept_key (holds e.node) p.received o (was_held o still));
    classes = λ o still.
        kept_key (is_known d.node) r.classes o still
        ∙ kept_key (is_known e.node) p.classes o (was_known o still);
    sent = sent_apart (site_move p e).posted
        (all_behind (IsApart peer) (all_posted p.received e.sent) (all_posted r.received d.sent)
        (tells_posted p.received e.sent tells)
        (tells_posted r.received d.sent
        (tells_left (filter (λ o. not (has_object (node_objects freed) o)) freed.held))))
        (record { links = links; sent = [] }) tt;
  }
    where
      r : Own
      r = counted p e

      d : Effect
      d = leaving (is_counted r) e.node

      freed : Node
      freed = (freeing (kept (is_counted r) e.node) e.node).node

      there : (x : Stored) → IsIn d.node.heap x → IsIn e.node.heap x
      there = (are_kept (is_counted r) e.node).part.stand

      held_is : (o : ObjectName) →
          holds d.node o ≡ (has_object (node_objects freed) o && holds e.node o)
      held_is o = has_filtered (has_object (node_objects freed)) e.node.held o

      was_held : (o : ObjectName) → holds d.node o ≡ true → holds e.node o ≡ true
      was_held o still = second (has_object (node_objects freed) o) (holds e.node o)
          (sym (held_is o) ∙ still)

      was_known : (o : ObjectName) → is_known d.node o ≡ true → is_known e.node o ≡ true
      was_known o still = either_stays (holds d.node o) (holds e.node o) (has_asked e.node o)
          (was_held o) still

  -- ---- the inputs

  -- the end closes, whatever the links are
  closed_alone : (p : Own) (links : List Link) → ClosedAlone peer p
      (site_move p (closing peer p.node)).own
      (all_sent links (site_move p (closing peer p.node)).posted).sent
  closed_alone p links =
      alone p (closing peer p.node) links (closed_node peer p.node) (tells_closed p.node)

  -- what an input came to is so
  abbrev IsAlone : Own → Handled → Type 0
  IsAlone p h = ClosedAlone peer p h.part.own h.sent

  -- the end closes where the connection ended
  pub ended_alone : (table : List Class) (act : Acting) (p : Part) →
      can_take peer p.own.node ≡ true →
      IsAlone p.own (site_step table act p (inputs.Ended peer))
  ended_alone table act p can = rw can (alone p.own
      (take_effect (site_context table p.own) peer (items.End [])) p.links
      (closed_node peer p.own.node) (tells_closed p.own.node))

  -- and where it is closed
  pub close_alone : (table : List Class) (act : Acting) (p : Part) →
      is_open p.own.node peer ≡ true →
      IsAlone p.own (site_step table act p (inputs.Close peer))
  close_alone table act p there = rw there (closed_alone p.own p.links)

  -- and where a frame was refused
  pub refused_alone : (table : List Class) (act : Acting) (p : Part) (f : RawFrame)
      (fault : PeerFault) →
      (site_step table act p (inputs.Frame peer f)).done ≡ dones.Closed peer fault →
      IsAlone p.own (site_step table act p (inputs.Frame peer f))
  refused_alone table act p f fault = go (can_take peer p.own.node)
      (read_frame table peer p.own.node.port (names_read p peer) f)
    where
      judged : (g : Frame) (found : Option PeerFault) →
          (takes_frame table (having_read peer g p) peer g found).done
          ≡ dones.Closed peer fault →
          IsAlone p.own (takes_frame table (having_read peer g p) peer g found)
      judged g None is = absurd (cc (is))
      judged g (Some why) is = closed_alone p.own (having_read peer g p).links

      go : (can : Bool) (read : Result Frame ℕ) →
          (unwrap_or (cond (not can) None (Some (takes table p peer read))) (passed p)).done
          ≡ dones.Closed peer fault →
          IsAlone p.own
          (unwrap_or (cond (not can) None (Some (takes table p peer read))) (passed p))
      go true (Err place) is = closed_alone p.own p.links
      go true (Ok g) is = judged g (peer_fault p.own peer g) is
      go false read is = absurd (cc (is))
