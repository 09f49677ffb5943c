-- The tables of names that a site read lately stay such, whatever is read and sent.
use Rattle.std.proofs.Common.{List, [], arith, fold, length, map, refl, true, ℕ, ◌==◌, ◌∷◌, ◌≡◌}
use Rattle.std.specs.{List.AllByRecursion, Prelude.{None, Option, Some, option_map, unwrap_or}}
use Rattle.do_class.specs.{Class.Class, Table.IsTable}
use Rattle.do_coder.specs.{Packets.surroundings, Recent.{IsKnown, IsRecent}}
use Rattle.do_frames.proofs.payloads.WholePayload.{frame_known}
use Rattle.do_frames.specs.{Frames.{IsFrame, after_frame}, declared.frame.Frame.Frame}
use Rattle.do_facts.proofs.EachOfLists.{each_changed, found_is}
use Rattle.do_network.specs.{Frames.Posted, Links.{Link, Outbox, change_link, link_to, sending}}
use Rattle.do_network.specs.Net.{opening_link}
use Rattle.do_agreement.proofs.channels.FirstTaken.{frame_recent}

module _ (table : List Class) where
  -- the names that were read of a link
  abbrev LinkStands : Link → Type 0
  LinkStands l = IsRecent l.read × AllByRecursion (IsKnown (length table)) l.read

  -- so it is with each link
  abbrev pub LinksStand : List Link → Type 0
  LinksStand links = AllByRecursion LinkStands links

  -- no name was read at first
  none_read : IsRecent [] × AllByRecursion (IsKnown (length table)) []
  none_read = (record { few = omega arith; differ = tt }, tt)

  -- links as they open
  pub links_open : (ports : List ℕ) → LinksStand (map opening_link ports)
  links_open [] = tt
  links_open (p ∷ ports) = (none_read, links_open ports)

  -- the names that were read from a peer
  pub names_stand : (links : List Link) (peer : ℕ) → LinksStand links →
      IsRecent (unwrap_or (option_map (λ l. l.read) (link_to links peer)) [])
      × AllByRecursion (IsKnown (length table))
      (unwrap_or (option_map (λ l. l.read) (link_to links peer)) [])
  names_stand links peer h = go (link_to links peer) refl
    where
      go : (found : Option Link) → link_to links peer ≡ found →
          IsRecent (unwrap_or (option_map (λ l. l.read) found) [])
          × AllByRecursion (IsKnown (length table))
          (unwrap_or (option_map (λ l. l.read) found) [])
      go None e = none_read
      go (Some l) e = found_is LinkStands (λ l. peer == l.peer) links l h e

  -- links over which frames were sent
  pub links_sent : (xs : List Posted) (o : Outbox) → LinksStand o.links →
      LinksStand (fold sending o xs).links
  links_sent [] o h = h
  links_sent (x ∷ xs) o h =
      links_sent xs (sending o x)
      (each_changed LinkStands (λ l. x.to == l.peer)
      (λ l. record l { sent = after_frame l.sent x.frame; greeted = true }) (λ l k. k) o.links h)

  -- links once a frame was read
  pub links_read : (t : IsTable table) (from to : ℕ) (f : Frame) →
      IsFrame (surroundings table from to) f → (links : List Link) → LinksStand links →
      LinksStand (change_link from (λ l. record l { read = after_frame l.read f }) links)
  links_read t from to f is links h =
      each_changed LinkStands (λ l. from == l.peer)
      (λ l. record l { read = after_frame l.read f })
      (λ l k. (
        frame_recent table from to l.read k.0 k.1 f is,
        frame_known table t from to l.read k.0 k.1 f is,
      )) links h
