-- What a site read from its peers stays when it sends.
use Rattle.std.proofs.Common.{map, ◌≡◌, ◌==◌, ℕ, Bool, true, false, List, [], ◌∷◌, fold, refl, ap}
use Rattle.std.{proofs.Common.◌∙◌, specs.Prelude.{Some, find, option_map}}
use Rattle.std.proofs.lemmas.Bool.{eqb-true}
use Rattle.do_coder.specs.declared.recent.pair.Pair.{Pair}
use Rattle.do_network.specs.{Frames.Posted, Links.{Link, Outbox, change_link, link_to, sending}}
use Rattle.do_agreement.proofs.places.KeyedLists.{same_keys, found_changed, found_elsewhere}
use Rattle.do_agreement.proofs.channels.SendsCarried.{sent_over}

-- the link to a peer, with what was read from it
pub record ReadFrom (links : List Link) (peer : ℕ) (names : List Pair) : Type 0 where
  pub link : Link
  pub found : link_to links peer ≡ Some link
  pub reads : link.read ≡ names

module _ (peer : ℕ) (names : List Pair) where
  -- a frame is sent
  pub sent_once : (links : List Link) → ReadFrom links peer names → (x : Posted) (b : Bool) →
      (x.to == peer) ≡ b → ReadFrom (change_link x.to (sent_over x.frame) links) peer names
  sent_once links r x true e = record {
    link = sent_over x.frame r.link;
    found =
        ap (λ k. find (λ (l : Link). peer == l.peer)
        (change_link k (sent_over x.frame) links)) (eqb-true x.to peer e)
        ∙ found_changed (λ l. l.peer) (sent_over x.frame) (λ l. refl) peer links
        ∙ ap (option_map (sent_over x.frame)) r.found;
    reads = r.reads;
  }
  sent_once links r x false e = record {
    link = r.link;
    found = found_elsewhere (λ l. l.peer) (sent_over x.frame) (λ l. refl) x.to peer e links
        ∙ r.found;
    reads = r.reads;
  }

  -- frames are sent
  pub reader_stays : (xs : List Posted) (o : Outbox) → ReadFrom o.links peer names →
      ReadFrom (fold sending o xs).links peer names
  reader_stays [] o r = r
  reader_stays (x ∷ xs) o r =
      reader_stays xs (sending o x) (sent_once o.links r x (x.to == peer) refl)

-- the peers to which a site has links stay when it sends
pub peers_stay : (xs : List Posted) (o : Outbox) →
    map (λ (l : Link). l.peer) (fold sending o xs).links ≡ map (λ (l : Link). l.peer) o.links
peers_stay [] o = refl
peers_stay (x ∷ xs) o =
    peers_stay xs (sending o x)
    ∙ same_keys (λ l. l.peer) (sent_over x.frame) (λ l. refl) x.to o.links
