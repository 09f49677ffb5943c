-- Links whose names that were read lately change, beside what is sent over them.
use Rattle.std.proofs.Common.{◌≡◌, ℕ, List, [], ◌∷◌, ◌++◌, Option, Some, None, refl, ap, sym, ◌∙◌}
use Rattle.std.proofs.Common.{map, subst, ◌==◌}
use Rattle.std.specs.Prelude.{fold, find, option_map, slice_get, slice_set, unwrap_or, suc, zero}
use Rattle.std.{specs.List.{AllByRecursion, position}, proofs.lemmas.Simd.map-map}
use Rattle.do_coder.specs.declared.recent.pair.Pair.{Pair}
use Rattle.do_frames.specs.{declared.frame.Frame.Frame, Frames.after_frame}
use Rattle.do_network.specs.Frames.{Posted}
use Rattle.do_network.specs.Links.{Link, Outbox, all_sent, change_link, link_to, sending, sendings}
use Rattle.do_machine.proofs.FirstPlace.{found_map, found_none, none_map}
use Rattle.do_streams.specs.Reading.{names_of, AllKnown, AreKnown}
use Rattle.do_streams.proofs.FirstChanged.{change_found, change_none, change_same, change_swaps}
use Rattle.do_streams.proofs.FirstChanged.{found_past, mapped_past}
use Rattle.do_network.specs.Net.{opening_link}
use Rattle.do_streams.specs.{declared.end.End.End, Streamed.link_of}
use Rattle.do_streams.proofs.FramesInOrder.{sent_over}

-- the link with the names changed that were read lately
abbrev pub reads : (List Pair → List Pair) → Link → Link
reads change l = record l { read = change l.read }

module _ (from : ℕ) (change : List Pair → List Pair) where
  -- links that read by other names, with what was sent
  abbrev reading : Outbox → Outbox
  reading o = record { links = change_link from (reads change) o.links; sent = o.sent }

  -- one frame is sent alike
  one_past : (o : Outbox) (x : Posted) → sending (reading o) x ≡ reading (sending o x)
  one_past o x = λ j. record {
    links = change_swaps (λ (l : Link). x.to == l.peer) (λ (l : Link). from == l.peer)
        (sent_over x.frame) (reads change) (λ l. refl) (λ l. refl) (λ l. refl) o.links j;
    sent = o.sent ++ found_past (λ (l : Link). x.to == l.peer) (λ (l : Link). from == l.peer)
        (reads change) (λ l. refl) (sendings x) (λ l. refl) o.links j;
  }

  -- and so all frames
  pub all_past : (o : Outbox) (xs : List Posted) →
      fold sending (reading o) xs ≡ reading (fold sending o xs)
  all_past o [] = refl
  all_past o (x ∷ xs) =
      ap (λ (q : Outbox). fold sending q xs) (one_past o x) ∙ all_past (sending o x) xs

-- ends that read by other names, behind what waits
pub kept_outbox : (ends later : List End) (from : ℕ) (names : List Pair) (xs : List Posted) →
    map link_of later ≡ change_link from (reads (λ old. names)) (map link_of ends) →
    let was = all_sent (map link_of ends) xs in
    all_sent (map link_of later) xs
    ≡ record { links = change_link from (reads (λ old. names)) was.links; sent = was.sent }
kept_outbox ends later from names xs e =
    ap (λ (ls : List Link). all_sent ls xs) e
    ∙ all_past from (λ old. names) (record { links = map link_of ends; sent = [] }) xs

-- what is sent leaves the names that were read lately
pub names_stay : (from : ℕ) (o : Outbox) (xs : List Posted) →
    names_of (fold sending o xs).links from ≡ names_of o.links from
names_stay from o [] = refl
names_stay from o (x ∷ xs) =
    names_stay from (sending o x) xs
    ∙ found_past (λ (l : Link). from == l.peer) (λ (l : Link). x.to == l.peer)
    (sent_over x.frame) (λ l. refl)
    (λ (found : Option Link). unwrap_or (option_map (λ l. l.read) found) []) (λ l. refl) o.links

-- and the peers
pub peers_stay : (o : Outbox) (xs : List Posted) →
    map (λ (l : Link). l.peer) (fold sending o xs).links ≡ map (λ (l : Link). l.peer) o.links
peers_stay o [] = refl
peers_stay o (x ∷ xs) =
    peers_stay (sending o x) xs
    ∙ mapped_past (λ (l : Link). x.to == l.peer) (sent_over x.frame) (λ (l : Link). l.peer)
    (λ l. refl) o.links

module _ (links : List Link) (from : ℕ) (frame : Frame) where
  -- the link once the frame was read
  abbrev read_over : Link → Link
  read_over l = record l { read = after_frame l.read frame }

  -- the names after a frame are those of the link that read it
  pub keeps_names : (names : List Pair) → names ≡ after_frame (names_of links from) frame →
      change_link from (reads (λ old. names)) links ≡ change_link from read_over links
  keeps_names names is = go (link_to links from) refl
    where
      -- with a link to the peer or without
      go : (o : Option Link) → link_to links from ≡ o →
          change_link from (reads (λ old. names)) links ≡ change_link from read_over links
      go None e =
          change_none (λ (l : Link). from == l.peer) (reads (λ old. names)) links e
          ∙ sym (change_none (λ (l : Link). from == l.peer) read_over links e)
      go (Some l) e =
          change_found (λ (k : Link). from == k.peer) (reads (λ old. names)) read_over links l e
          (ap (λ (ns : List Pair). record l { read = ns })
          (is ∙ ap (λ (found : Option Link). after_frame
          (unwrap_or (option_map (λ k. k.read) found) []) frame) e))

  -- a frame that leaves the names leaves the links
  pub keeps_none : names_of links from ≡ after_frame (names_of links from) frame →
      links ≡ change_link from read_over links
  keeps_none is = go (link_to links from) refl
    where
      -- with a link to the peer or without
      go : (o : Option Link) → link_to links from ≡ o → links ≡ change_link from read_over links
      go None e = sym (change_none (λ (l : Link). from == l.peer) read_over links e)
      go (Some l) e =
          let names : l.read ≡ after_frame l.read frame =
          sym (ap (λ (found : Option Link). unwrap_or (option_map (λ k. k.read) found) []) e)
          ∙ is
          ∙ ap (λ (found : Option Link). after_frame
          (unwrap_or (option_map (λ k. k.read) found) []) frame) e in
          sym (change_same (λ (k : Link). from == k.peer) links)
          ∙ change_found (λ (k : Link). from == k.peer) (λ k. k) read_over links l e
          (ap (λ (ns : List Pair). record l { read = ns }) names)

module _ {X : Type 0} (P : X → Type 0) where
  -- what all are is what stands at a place
  pub all_at : (xs : List X) (i : ℕ) (x : X) → AllByRecursion P xs → slice_get xs i ≡ Some x → P x
  all_at [] i x all e = absurd (cc)
  all_at (y ∷ ys) zero x all e = let same : y ≡ x = cc in subst P same all.0
  all_at (y ∷ ys) (suc i) x all e = all_at ys i x all.1 e

  -- and they stay so where one is put that is so
  pub all_set : (xs : List X) (i : ℕ) (x : X) → AllByRecursion P xs → P x →
      AllByRecursion P (slice_set xs i x)
  all_set [] i x all p = tt
  all_set (y ∷ ys) zero x all p = (p, all.1)
  all_set (y ∷ ys) (suc i) x all p = (all.0, all_set ys i x all.1 p)

-- so behind others that are so
pub all_behind : {X : Type 0} (P : X → Type 0) (xs : List X) (x : X) → AllByRecursion P xs → P x →
    AllByRecursion P (xs ++ x ∷ [])
all_behind P [] x all p = (p, tt)
all_behind P (y ∷ ys) x all p = (all.0, all_behind P ys x all.1 p)

-- the names of an end are those of its link
pub names_found : (ends : List End) (from : ℕ) (e : End) →
    find (λ (d : End). from == d.peer) ends ≡ Some e →
    e.read ≡ names_of (map link_of ends) from
names_found ends from e is =
    ap (λ (found : Option Link). unwrap_or (option_map (λ l. l.read) found) [])
    (sym (found_map (λ (d : End). from == d.peer) link_of (λ l. from == l.peer) (λ d. refl) ends
    e is))

-- where there is no end there are no names
pub names_none : (ends : List End) (from : ℕ) → find (λ (d : End). from == d.peer) ends ≡ None →
    [] ≡ names_of (map link_of ends) from
names_none ends from is =
    ap (λ (found : Option Link). unwrap_or (option_map (λ l. l.read) found) [])
    (sym (none_map (λ (d : End). from == d.peer) link_of (λ l. from == l.peer) (λ d. refl) ends
    is))

-- and none of its links changes
pub unlinked : (ends : List End) (from : ℕ) (change : List Pair → List Pair) →
    position (λ (d : End). from == d.peer) ends ≡ None →
    map link_of ends ≡ change_link from (reads change) (map link_of ends)
unlinked ends from change is =
    sym (change_none (λ (l : Link). from == l.peer) (reads change) (map link_of ends)
    (none_map (λ (d : End). from == d.peer) link_of (λ l. from == l.peer) (λ d. refl) ends
    (found_none (λ (d : End). from == d.peer) ends is)))

-- the ends of an opening have no names yet
pub none_read : (classes : ℕ) (ends : List End) (peers : List ℕ) →
    map link_of ends ≡ map opening_link peers → AllKnown classes ends
none_read classes [] peers e = tt
none_read classes (d ∷ ends) [] e = absurd (cc)
none_read classes (d ∷ ends) (p ∷ peers) e =
    let first : link_of d ≡ opening_link p = cc in
    let behind : map link_of ends ≡ map opening_link peers = cc in (
      subst (AreKnown classes) (sym (ap (λ (l : Link). l.read) first)) tt,
      none_read classes ends peers behind,
    )

-- the peers of links that were sent over are those of the ends
pub peers_of : (ends : List End) (xs : List Posted) →
    map (λ (l : Link). l.peer) (all_sent (map link_of ends) xs).links
    ≡ map (λ (e : End). e.peer) ends
peers_of ends xs =
    peers_stay (record { links = map link_of ends; sent = [] }) xs
    ∙ map-map (λ (l : Link). l.peer) link_of ends
