-- Frames that wait, each to a peer with an end.
use Rattle.std.proofs.Common.{◌≡◌, ◌==◌, ◌<◌, ◌++◌, ℕ, List, [], ◌∷◌, Bool, false, true, Option}
use Rattle.std.proofs.Common.{Some, None, ap, arith, length, map, refl, subst, sym, ◌∙◌}
use Rattle.std.specs.{Prelude.{MatchOption, is_some, slice_get, slice_set}, List.list_any}
use Rattle.std.{specs.List.position, proofs.lemmas.{List.{append-nil, length-map}, Simd.map-map}}
use Rattle.do_network.specs.Frames.{Posted}
use Rattle.do_frames.specs.Kinds.{numbers_alone}
use Rattle.do_network.specs.{Links.{Link, Outbox, link_to, sending, sendings}, Net.opening_link}
use Rattle.do_ported.proofs.FirstOfPorts.{none_of_port, place_is_among, place_of_port, ports_stay}
use Rattle.do_ported.proofs.FirstOfPorts.{some_of_port}
use Rattle.do_streams.specs.declared.{end.{End.End, Outgoing.Outgoing}, spelled.Spelled.Spelled}
use Rattle.do_streams.specs.{Ordered.{AllPlaced, ArePorts}, Plain.names_objects, Streamed.link_of}
use Rattle.do_streams.specs.Streamed.{outbox, outbox_of, posted_of, spelled_first, streamed_of}
use Rattle.do_streams.{specs.Waits.Waits, proofs.FirstChanged.change_none}
use Rattle.do_streams.proofs.FramesInOrder.{frame_first, greeting_first, sent_over}
use Rattle.do_streams.proofs.LinksRead.{peers_of}

-- ---- the oldest frame

-- where none is the oldest none waits
pub none_oldest : (frames : List Outgoing) → None ≡ slice_get frames 0 → frames ≡ []
none_oldest [] none = refl
none_oldest (x ∷ xs) none = absurd (cc)

-- a port that is one of some has a place among them
place_of : (ports : List ℕ) (peer : ℕ) → list_any (λ p. p == peer) ports ≡ true →
    position (λ p. peer == p) ports ≡ None → ⊥
place_of ports peer there none =
    let is = place_is_among peer ports in
    let no = ap is_some none in cc

-- so the oldest frame goes to a port
pub front_place : (ports : List ℕ) (frames : List Outgoing) (x : Outgoing) (place : Option ℕ) →
    slice_get frames 0 ≡ Some x → AllPlaced ports frames →
    place ≡ position (λ p. x.to == p) ports →
    MatchOption place (frames ≡ []) (λ at. (y : Outgoing) × (slice_get frames 0 ≡ Some y)
    × (position (λ p. y.to == p) ports ≡ Some at))
front_place ports [] x place there placed is = absurd (cc)
front_place ports (y ∷ ys) x (Some at) there placed is = (x, there, sym is)
front_place ports (y ∷ ys) x None there placed is =
    let same : y ≡ x = cc in
    absurd (place_of ports x.to
    (subst (λ (z : Outgoing). list_any (λ p. p == z.to) ports ≡ true) same placed.0) (sym is))

-- ports are those of the ends of an opening
pub opened_ports : (ends : List End) (peers : List ℕ) →
    map link_of ends ≡ map opening_link peers → ArePorts peers ends
opened_ports [] [] e = refl
opened_ports [] (p ∷ peers) e = absurd (cc)
opened_ports (d ∷ ends) [] e = absurd (cc)
opened_ports (d ∷ ends) (p ∷ peers) e =
    let first : link_of d ≡ opening_link p = cc in
    let behind : map link_of ends ≡ map opening_link peers = cc in
    λ j. sym (ap (λ (l : Link). l.peer) first) j ∷ opened_ports ends peers behind j

-- frames of kinds that hold numbers alone name no objects
pub alone_names_none : (kind : ℕ) → numbers_alone kind ≡ true → names_objects kind ≡ false
alone_names_none kind alone = grind (arith, alone)

-- ---- ends and their ports

module _ (ports : List ℕ) (ends : List End) (are : ArePorts ports ends) where
  -- there is an end for each port
  pub as_many : (at : ℕ) → at < length ports → at < length ends
  as_many at within =
      let size : length ports ≡ length ends
      = ap (λ xs. length xs) are ∙ length-map ends (λ e. e.peer) in
      omega (arith, size, within)

  -- an end stands where its port does
  pub end_at : (peer : ℕ) →
      position (λ (e : End). peer == e.peer) ends ≡ position (λ p. peer == p) ports
  end_at peer =
      sym (place_of_port (λ (e : End). e.peer) peer ends)
      ∙ ap (position (λ p. peer == p)) (sym are)

  -- ports are those of the ends where one changes but for its peer
  pub ports_of_set : (at : ℕ) (e f : End) → slice_get ends at ≡ Some e → f.peer ≡ e.peer →
      ArePorts ports (slice_set ends at f)
  ports_of_set at e f there same =
      are ∙ sym (ports_stay (λ (d : End). d.peer) ends at e f there same)

  -- and those of the links behind what is sent
  ports_of_links : (frames : List Outgoing) →
      map (λ (l : Link). l.peer) (outbox_of ends frames).links ≡ ports
  ports_of_links frames = peers_of ends (map posted_of frames) ∙ sym are

  -- ---- what is sent

  -- a frame to a peer with which there is no link sends nothing
  unsent : (o : Outbox) (x : Posted) → link_to o.links x.to ≡ None → o ≡ sending o x
  unsent o x none = λ j. record {
    links = sym (change_none (λ (l : Link). x.to == l.peer) (sent_over x.frame) o.links none) j;
    sent = (sym (append-nil o.sent)
        ∙ ap (λ (found : Option Link). o.sent ++ sendings x found) (sym none)) j;
  }

  -- so what is sent is as before where it is not put behind the others
  pub sent_nowhere : (spelled : Option Spelled) (waits : Waits) (classes : ℕ) (x : Posted) →
      list_any (λ p. p == x.to) ports ≡ false →
      let o = outbox (streamed_of ends spelled waits classes) in o ≡ sending o x
  sent_nowhere spelled waits classes x none =
      unsent (outbox (streamed_of ends spelled waits classes)) x
      (none_of_port (λ (l : Link). l.peer) x.to (outbox_of ends waits.frames).links
      (ap (list_any (λ p. p == x.to)) (ports_of_links waits.frames) ∙ none))

  -- of a frame that waits something is sent
  something : (x : Outgoing) (xs : List Outgoing) → AllPlaced ports (x ∷ xs) →
      (outbox_of ends (x ∷ xs)).sent ≡ [] → ⊥
  something x xs placed none = go found.0.greeted refl
    where
      -- its link
      found : (l : Link) × (link_to (map link_of ends) x.to ≡ Some l)
      found = some_of_port (λ (l : Link). l.peer) x.to (map link_of ends)
          (ap (list_any (λ p. p == x.to))
          (map-map (λ (l : Link). l.peer) link_of ends ∙ sym are) ∙ placed.0)

      -- whether the stream over it has begun or not
      go : (b : Bool) → found.0.greeted ≡ b → ⊥
      go true begun =
          let first = ap (λ (o : Outbox). o.sent)
          (frame_first (map link_of ends) (posted_of x) (map posted_of xs) found.0 found.1 begun) in
          let some = sym first ∙ none in cc
      go false new =
          let first = ap (λ (o : Outbox). o.sent)
          (greeting_first (map link_of ends) (posted_of x) (map posted_of xs)
          found.0 found.1 new) in
          let some = sym first ∙ none in cc

  -- so where nothing is sent no frame waits
  pub none_waits : (spelled : Option Spelled) (frames : List Outgoing) → AllPlaced ports frames →
      spelled_first spelled ++ (outbox_of ends frames).sent ≡ [] →
      (spelled ≡ None) × (frames ≡ [])
  none_waits (Some s) frames placed none = absurd (cc)
  none_waits None [] placed none = (refl, refl)
  none_waits None (x ∷ xs) placed none = absurd (something x xs placed none)
