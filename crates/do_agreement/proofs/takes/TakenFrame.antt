-- What stands first on the way to a node that can take it, and what its site does with it.
use Rattle.do_agreement.proofs.takes.Taking as takes
use Rattle.std.proofs.Common.{◌≡◌, ℕ, Bool, true, false, List, [], ◌∷◌, refl, sym, ap, ◌∙◌, cond}
use Rattle.std.proofs.Common.{subst}
use Rattle.std.specs.{Prelude.{Ok, Some, option_map, unwrap_or}, List.AllByRecursion}
use Rattle.do_class.specs.Class.{Class}
use Rattle.do_machine.specs.{declared.state.State.State, run.Run.Acting}
use Rattle.do_machine.specs.declared.item.Item.TheVariants.{End}
use Rattle.do_coder.specs.{declared.recent.pair.Pair.Pair, Packets.surroundings}
use Rattle.do_frames.specs.Frames.{IsFrame, after_frame, raw}
use Rattle.do_network.specs.{Frames.read_frame, Links.{Link, Part, names_read}}
use Rattle.do_network.specs.{Net.{Carried, Lost, Net, Whole}, Site.enabled_input, Step.input_of}
use Rattle.do_network.{specs.fits.Notes.{Note, carried, note_frame}, proofs.FramesRead.read_back}
use Rattle.do_agreement.specs.{Agrees.Agrees, NetInHand.carried_as, CountsFit.ChannelCarries}
use Rattle.do_agreement.proofs.takes.TakesAlike.{frame_done, hand_done, mark_done}
use Rattle.do_agreement.proofs.takes.{Taking.{Taking, port_is}, TakeEvents.faultless}

module _ {table : List Class} {act : Acting} {N : Net} {S : State} {agrees : Agrees table N S}
    {port from : ℕ} {x : Note} {xs : List Note}
    (taking : Taking table act N S agrees port from x xs) where
  -- the site
  abbrev p : Part
  p = taking.pl.part

  -- the channel
  abbrev here_way :
      ChannelCarries table N from port taking.pf.part p (agrees.tallies.under_way from port)
  here_way = takes.way taking

  -- the names by which the item is spelled
  abbrev front : List Pair
  front = takes.names taking

  -- the item stands first in the channel
  pub stands_first : (rest : List Carried)
      × (here_way.between.waiting ≡ carried_as front x ∷ rest)
  stands_first = go x.lost (here_way.carries.waiting ∙ ap (carried front) taking.first)
    where
      go : (b : Bool) → here_way.between.waiting
          ≡ cond b (Lost ∷ carried front xs)
          (Whole (raw front (note_frame x)) ∷ carried (after_frame front (note_frame x)) xs) →
          (rest : List Carried)
          × (here_way.between.waiting ≡ cond b Lost (Whole (raw front (note_frame x))) ∷ rest)
      go true e = (carried front xs, e)
      go false e = (carried (after_frame front (note_frame x)) xs, e)

  -- the frame is read
  reads : read_frame table from p.own.node.port (names_read p from)
      (raw front (note_frame x)) ≡ Ok (note_frame x)
  reads =
      ap (λ k. read_frame table from k (names_read p from) (raw front (note_frame x)))
      (port_is taking)
      ∙ ap (λ k. read_frame table from port k (raw front (note_frame x)))
      (ap (λ o. unwrap_or (option_map (λ (l : Link). l.read) o) []) here_way.reads
      ∙ sym (here_way.carries.tables.read refl))
      ∙ read_back table taking.is_table from port front here_way.carries.tables.recent
      here_way.carries.tables.known (note_frame x)
      (subst (AllByRecursion (λ y. IsFrame (surroundings table from port) (note_frame y)))
      taking.first
      here_way.carries.spelled).0

  -- what the input does
  pub input_done : enabled_input table act p (input_of from (carried_as front x))
      ≡ Some (hand_done table act p from taking.can x)
  input_done = go x.lost refl
    where
      go : (b : Bool) → x.lost ≡ b →
          enabled_input table act p (input_of from (carried_as front x))
          ≡ Some (hand_done table act p from taking.can x)
      go true e =
          mark_done table act p from taking.can front x e
          ((subst (AllByRecursion (λ y. y.lost ≡ true → y.item ≡ End [])) taking.first
          here_way.marks.lost).0 e)
      go false e =
          frame_done table act p from taking.can taking.is_table front x e reads
          (faultless taking)
