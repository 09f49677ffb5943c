-- What a caller sees of a site that took a frame of a peer.
use Rattle.do_frames.specs.declared.frame.Frame.TheVariants as frames
use Rattle.do_network.specs.declared.input.Done.TheVariants as dones
use Rattle.std.proofs.Common.{◌≡◌, ℕ, ◌≤◌, Bool, true, false, cond, List, Option, None, Some}
use Rattle.std.{proofs.Common.{Result, Ok, Err, refl, sym, subst}, specs.Prelude.{nat_lt, not}}
use Rattle.std.proofs.lemmas.Bool.{ltb-false}
use Rattle.do_class.specs.Class.{Class}
use Rattle.do_frames.specs.declared.frame.{Frame.Frame, RawFrame.RawFrame}
use Rattle.do_machine.specs.{ends.Closing.closing, run.Run.Acting, take.Take.can_take}
use Rattle.do_network.specs.{Faults.release_fault, Frames.{item_of, read_frame}}
use Rattle.do_network.specs.{Links.{change_link, having_read, names_read}, Own.Own}
use Rattle.do_network.specs.Site.{Handled, frame_input, frame_move, site_move, takes, takes_frame}
use Rattle.do_network.specs.declared.fault.PeerFault.{PeerFault, TheVariants.BadFrame}
use Rattle.do_network.specs.declared.{fault.PeerFault.TheVariants.OverRelease, input.Done.Done}
use Rattle.do_effects.specs.{Doing.doing, declared.changing.Core.Core}
use Rattle.do_site.{proofs.StepsSeen.{linked_seen, move_seen, passed_seen}, specs.Steps.Handles}
use Rattle.do_site.specs.Steps.{IsSame, Makes, item_move, link_read, part_of, seen_of, with_reading}

-- what a frame that was read comes to at a site, by why the peer may not send it
abbrev frame_taken : List Class → Core → ℕ → Frame → Option PeerFault → Handled
frame_taken table a from f fault = takes_frame table (having_read from f (part_of a)) from f fault

module _ (table : List Class) (act : Acting) (a b : Core) (from : ℕ) where
  -- a site did its part of an input, and told what that came to
  abbrev Came : Done → Option Handled → Type 0
  Came done h = Handles {E = Unit {0}} (seen_of table act a) (seen_of table act b) (Ok done) h

  -- the end towards a peer was closed that may not send a frame
  pub refused_came : (f : Frame) (fault : PeerFault) (why : Option PeerFault) → why ≡ Some fault →
      Makes (with_reading from f (doing a)) b
      (site_move a.part.own (closing from a.part.own.node)) →
      Came (dones.Closed from fault) (Some (frame_taken table a from f why))
  refused_came f fault why is made =
      subst (λ w. Came (dones.Closed from fault) (Some (frame_taken table a from f w))) (sym is) (
        refl,
        linked_seen table act a b (change_link from (link_read f) a.streams.links)
            (dones.Closed from fault) (site_move a.part.own (closing from a.part.own.node)) made,
      )

  -- a frame that the peer may send was taken
  pub taken_came : (f : Frame) (why : Option PeerFault) → why ≡ None →
      Makes (with_reading from f (doing a)) b (frame_move table from f a.part.own) →
      Came dones.Moved (Some (frame_taken table a from f why))
  taken_came f why is made =
      subst (λ w. Came dones.Moved (Some (frame_taken table a from f w))) (sym is) (
        refl,
        linked_seen table act a b (change_link from (link_read f) a.streams.links) dones.Moved
            (frame_move table from f a.part.own) made,
      )

  -- what a frame comes to is what the input does, where the site can take it
  pub read_came : (E : Type 0) (raw : RawFrame) (result : Result Done E) (read : Result Frame ℕ) →
      can_take from a.part.own.node ≡ true →
      read_frame table from a.part.own.node.port (names_read (part_of a) from) raw ≡ read →
      Handles (seen_of table act a) (seen_of table act b) result
      (Some (takes table (part_of a) from read)) →
      Handles (seen_of table act a) (seen_of table act b) result
      (frame_input table (part_of a) from raw)
  read_came E raw result read can is came =
      subst (λ c. Handles (seen_of table act a) (seen_of table act b) result
      (cond (not c) None (Some (takes table (part_of a) from
      (read_frame table from a.part.own.node.port (names_read (part_of a) from) raw))))) (sym can)
      (subst (λ r. Handles (seen_of table act a) (seen_of table act b) result
      (Some (takes table (part_of a) from r))) (sym is) came)

  -- the end towards a peer was closed whose frame spells none
  pub bad_came : (place : ℕ) →
      Makes (doing a) b (site_move a.part.own (closing from a.part.own.node)) →
      Came (dones.Closed from (BadFrame place)) (Some (takes table (part_of a) from (Err place)))
  bad_came place made = (
    refl,
    move_seen table act a b (dones.Closed from (BadFrame place))
        (site_move a.part.own (closing from a.part.own.node)) made,
  )

  -- an input that a site cannot take is passed
  pub skipped_came : (raw : RawFrame) → can_take from a.part.own.node ≡ false → IsSame a b →
      Came dones.Skipped (frame_input table (part_of a) from raw)
  skipped_came raw can same =
      subst (λ c. Came dones.Skipped (cond (not c) None (Some (takes table (part_of a) from
      (read_frame table from a.part.own.node.port (names_read (part_of a) from) raw))))) (sym can)
      (refl, passed_seen table act a b same)

-- a peer that may give names back was sent as many
pub none_over : (had asked : ℕ) → release_fault had asked ≡ None → asked ≤ had
none_over had asked = go (nat_lt had asked) refl
  where
    go : (b : Bool) → nat_lt had asked ≡ b →
        cond b (Some (OverRelease (record { had = had; asked = asked }))) None ≡ None →
        asked ≤ had
    go true e h = cc
    go false e h = ltb-false had asked e

-- a frame that gives nothing back does what its item does
pub item_moves : (table : List Class) (from : ℕ) (f : Frame) (p : Own) →
    ((serial amount : ℕ) → f ≡ frames.Release serial amount → ⊥) →
    item_move table from (item_of f) p ≡ frame_move table from f p
item_moves table from (frames.Call number serial selector packet) p not = refl
item_moves table from (frames.Oneway serial selector packet) p not = refl
item_moves table from (frames.Reply number packet) p not = refl
item_moves table from (frames.Raised number e) p not = refl
item_moves table from (frames.RootAsk number) p not = refl
item_moves table from (frames.RootAnswer number packet) p not = refl
item_moves table from (frames.Retain serial token) p not = refl
item_moves table from (frames.Granted serial token) p not = refl
item_moves table from (frames.Gone serial token) p not = refl
item_moves table from (frames.Release serial amount) p not = absurd (not serial amount refl)
item_moves table from (frames.Settle number) p not = refl
item_moves table from frames.Shutdown p not = refl
