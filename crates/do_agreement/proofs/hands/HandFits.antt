-- The counts of a network fit while one of its sites has an item in hand.
use Rattle.do_agreement.proofs.hands.HandSites as sites
use Rattle.std.{proofs.Common.{map, ◌≡◌, ℕ, true, List, sym, ap, ◌∙◌}, specs.Prelude.is_some}
use Rattle.do_class.specs.Class.{Class}
use Rattle.do_machine.specs.{World.others, State.is_open}
use Rattle.do_network.specs.{Links.{Link, Part}, Net.{Net, Place, net_ports, part_at}}
use Rattle.do_network.specs.fits.Notes.{Note}
use Rattle.do_agreement.specs.CountsFit.{CountsFit, HoldsReceived}
use Rattle.do_agreement.specs.NetInHand.{closes_for, part_in_hand, with_part}
use Rattle.do_agreement.proofs.{places.PlacesChanged.ports_same, sites.HeldKept.holds_in_hand}
use Rattle.do_agreement.proofs.hands.HandChannels.{channels_in_hand}
use Rattle.do_agreement.proofs.hands.HandCounts.{counted_in_hand, silent_in_hand}
use Rattle.do_agreement.proofs.hands.HandSites.{Hand, at_port, by_hand, keeps_less, keeps_part}
use Rattle.do_agreement.proofs.hands.{HandSites.sites_there, LinksRead.read_peers}

module _ {table : List Class} {port from : ℕ} {N : Net} {under_way : ℕ → ℕ → List Note} {x : Note}
    {xs : List Note} (hand : Hand table port from N under_way x xs) where
  -- the site that takes
  abbrev p : Part
  p = sites.p hand

  -- the network without the item
  abbrev K : Net
  K = sites.K hand

  -- the network with the item in hand
  abbrev H : Net
  H = sites.H hand

  -- the change of the sender's place
  abbrev less : Place → Place
  less = sites.less hand

  -- what is under way
  abbrev now : ℕ → ℕ → List Note
  now = sites.now hand

  -- the counts fit with the item in hand
  pub hand_fits : CountsFit table H now (closes_for port from x)
  hand_fits = record {
    owns = by_hand hand (λ a z. HoldsReceived a z.own)
        (holds_in_hand port from x p.own (hand.fit.owns port p (at_port hand)) hand.here)
        (λ a z third k. hand.fit.owns a z k);
    counted = counted_in_hand hand;
    silent = silent_in_hand hand;
    channels = channels_in_hand hand;
    links =
        let same = ports_same port (with_part (part_in_hand from x p)) (keeps_part hand) K
        ∙ ports_same from less (keeps_less hand) N in
        by_hand hand (λ b z. map (λ (l : Link). l.peer) z.links ≡ others (net_ports H) b)
        (read_peers from x p.links ∙ hand.fit.links port p (at_port hand)
        ∙ ap (λ ps. others ps port) (sym same))
        (λ b z third k. hand.fit.links b z k ∙ ap (λ ps. others ps b) (sym same));
    peers = λ a peer y h.
        by_hand hand (λ b z. is_open z.own.node peer ≡ true → is_some (part_at H peer) ≡ true)
        (λ o. sites_there hand peer (hand.fit.peers port peer p (at_port hand) o))
        (λ b z third l o. sites_there hand peer (hand.fit.peers b peer z l o)) a y h;
  }
