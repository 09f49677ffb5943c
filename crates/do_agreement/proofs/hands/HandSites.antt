-- The sites of a network while one of them has an item in hand.
use Rattle.do_machine.specs.World.{others}
use Rattle.std.proofs.Common.{◌≡◌, ◌==◌, ◌&&◌, ℕ, Bool, true, false, cond, List, ◌∷◌, refl, sym, ap}
use Rattle.std.{proofs.Common.{◌∙◌, subst}, specs.Prelude.{Some, is_some, option_map}}
use Rattle.std.proofs.lemmas.Bool.{eqb-true}
use Rattle.do_class.specs.{Class.Class, Table.IsTable}
use Rattle.do_coder.specs.declared.recent.pair.Pair.{Pair}
use Rattle.do_machine.specs.State.{is_open}
use Rattle.do_network.specs.{Links.Part, Net.{Net, Place, part_at, place_at, with_channel}}
use Rattle.do_network.specs.{Step.advanced, fits.Notes.Note}
use Rattle.do_agreement.specs.CountsFit.{ChannelCarries, CountsFit, none_closes}
use Rattle.do_agreement.specs.NetInHand.{carried_as, net_in_hand, net_without, part_in_hand}
use Rattle.do_agreement.specs.NetInHand.{with_part, without_first}
use Rattle.do_agreement.proofs.counts.MovesAccount.{apart}
use Rattle.do_agreement.proofs.places.PlacesChanged.{by_part, part_elsewhere, part_here, part_there}
use Rattle.do_agreement.proofs.places.PlacesChanged.{place_elsewhere}
use Rattle.do_agreement.proofs.places.Numbers.{flipped, same_number}

-- the oldest item on its way to a site that can take it, in a network whose counts fit: what is
-- behind it, and the places of the site and of the sender
pub record Hand (table : List Class) (port from : ℕ) (N : Net) (under_way : ℕ → ℕ → List Note)
    (x : Note) (xs : List Note) : Type 0 where
  pub is_table : IsTable table
  pub fit : CountsFit table N under_way none_closes
  pub pl : Place
  pub pf : Place
  pub there : place_at N port ≡ Some pl
  pub sender : place_at N from ≡ Some pf
  pub here : is_open pl.part.own.node from ≡ true
  pub first : under_way from port ≡ x ∷ xs

module _ {table : List Class} {port from : ℕ} {N : Net} {under_way : ℕ → ℕ → List Note} {x : Note}
    {xs : List Note} (hand : Hand table port from N under_way x xs) where
  -- the site that takes
  abbrev pub p : Part
  p = hand.pl.part

  -- the site whose item it takes
  abbrev pub q : Part
  q = hand.pf.part

  -- the first is there
  pub at_port : part_at N port ≡ Some p
  at_port = ap (option_map (λ y. y.part)) hand.there

  -- and the second
  pub at_from : part_at N from ≡ Some q
  at_from = ap (option_map (λ y. y.part)) hand.sender

  -- the two are apart
  pub other : (from == port) ≡ false
  other = go (from == port) refl
    where
      go : (b : Bool) → (from == port) ≡ b → b ≡ false
      go false e = refl
      go true e =
          absurd (apart (ap (λ n. is_open p.own.node n) (sym (eqb-true from port e)) ∙ hand.here)
          (hand.fit.owns port p at_port).apart)

  -- the channel from the second to the first
  abbrev pub way : ChannelCarries table N from port q p (under_way from port)
  way = hand.fit.channels from port q p at_from at_port other

  -- the names by which the item is spelled
  abbrev pub front : List Pair
  front = way.carries.tables.front

  -- the network without the item
  abbrev pub K : Net
  K = net_without port from (carried_as front x) N

  -- the network with the item in hand
  abbrev pub H : Net
  H = net_in_hand port from front x p N

  -- the change of the sender's place
  abbrev pub less : Place → Place
  less = with_channel port (advanced (carried_as front x))

  -- a place keeps its port
  pub keeps_less : (y : Place) → (less y).port ≡ y.port
  keeps_less y = refl

  -- so it does with another site
  pub keeps_part : (y : Place) → (with_part (part_in_hand from x p) y).port ≡ y.port
  keeps_part y = refl

  -- what is under way
  abbrev pub now : ℕ → ℕ → List Note
  now = without_first port from xs under_way

  -- the rest is under way
  pub now_rest : now from port ≡ xs
  now_rest =
      ap (λ b. cond (b && (port == port)) xs (under_way from port)) (same_number from)
      ∙ ap (λ b. cond b xs (under_way from port)) (same_number port)

  -- what another sent is as it was
  pub now_from : (a m : ℕ) → (from == a) ≡ false → now a m ≡ under_way a m
  now_from a m e =
      ap (λ b. cond (b && (m == port)) xs (under_way a m)) (flipped from a e)

  -- and what is on its way to another
  pub now_to : (a m : ℕ) → (port == m) ≡ false → now a m ≡ under_way a m
  now_to a m e = go (a == from)
    where
      go : (c : Bool) → cond (c && (m == port)) xs (under_way a m) ≡ under_way a m
      go true = ap (λ b. cond b xs (under_way a m)) (flipped port m e)
      go false = refl

  -- ---- sites

  -- the place of the first, without the item
  pub there_still : place_at K port ≡ Some hand.pl
  there_still = place_elsewhere from less keeps_less N port other ∙ hand.there

  -- no site changes where the item leaves the channel
  pub parts_still : (a : ℕ) → part_at K a ≡ part_at N a
  parts_still a = go (from == a) refl
    where
      go : (b : Bool) → (from == a) ≡ b → part_at K a ≡ part_at N a
      go true e =
          subst (λ c. part_at K c ≡ part_at N c) (eqb-true from a e)
          (part_here from less keeps_less N hand.pf hand.sender ∙ sym at_from)
      go false e = part_elsewhere from less keeps_less N a e

  -- what holds of the first with the item in hand, and of all others, holds of all
  pub by_hand : (P : ℕ → Part → Type 0) → P port (part_in_hand from x p) →
      ((a : ℕ) (z : Part) → (port == a) ≡ false → part_at N a ≡ Some z → P a z) →
      (a : ℕ) (z : Part) → part_at H a ≡ Some z → P a z
  by_hand P first_holds others =
      by_part port (with_part (part_in_hand from x p)) keeps_part K hand.pl there_still P
      first_holds
      (λ a z e k. others a z e (sym (parts_still a) ∙ k))

  -- the same sites are there
  pub sites_there : (a : ℕ) → is_some (part_at N a) ≡ true → is_some (part_at H a) ≡ true
  sites_there a h =
      part_there port (with_part (part_in_hand from x p)) keeps_part K hand.pl there_still a
      (ap is_some (parts_still a) ∙ h)
