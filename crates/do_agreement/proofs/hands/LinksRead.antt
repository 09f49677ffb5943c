-- The links of a site once it read an item.
use Rattle.do_machine.specs.declared.item.Item.TheVariants as items
use Rattle.std.proofs.Common.{map, ◌≡◌, ◌==◌, ℕ, Bool, true, false, cond, List, refl, sym, ap, ◌∙◌}
use Rattle.std.{specs.Prelude.{Some, find, option_map}, proofs.lemmas.Bool.eqb-true}
use Rattle.do_frames.specs.Frames.{after_frame}
use Rattle.do_machine.specs.declared.item.Item.{Item}
use Rattle.do_network.specs.Links.{Link, change_link, link_to}
use Rattle.do_network.specs.fits.Notes.{Note, note_frame, tells_of}
use Rattle.do_agreement.specs.NetInHand.{ends, link_read, links_read}
use Rattle.do_agreement.proofs.places.KeyedLists.{same_keys, found_changed, found_elsewhere}

-- an item that is no end tells of no object
pub tells_nothing : (x : Note) → ends x.item ≡ false → (s : ℕ) → tells_of s x ≡ 0
tells_nothing x h s = go x.item h
  where
    go : (item : Item) → ends item ≡ false →
        tells_of s (record { item = item; amount = x.amount; lost = x.lost }) ≡ 0
    go (items.End serials) e = absurd (cc)
    go _ e = refl

-- ---- links once something was read

-- a link once something was read over it, and one over which nothing was
abbrev pub read_if : Bool → Note → Link → Link
read_if b x l = cond b (link_read x l) l

-- the link to a peer once something was read
pub found_read : (from : ℕ) (x : Note) (links : List Link) (m : ℕ) (l : Link) →
    link_to links m ≡ Some l → link_to (links_read from x links) m ≡ Some (read_if (from == m) x l)
found_read from x links m l found = go x.lost refl (from == m) refl
  where
    over : Link → Link
    over k = record k { read = after_frame k.read (note_frame x) }

    marked : (b : Bool) (k : Link) → x.lost ≡ true → cond b (cond x.lost k (over k)) k ≡ k
    marked true k e = ap (λ c. cond c k (over k)) e
    marked false k e = refl

    go : (c : Bool) → x.lost ≡ c → (b : Bool) → (from == m) ≡ b →
        link_to (cond c links (change_link from (link_read x) links)) m
        ≡ Some (cond b (cond x.lost l (over l)) l)
    go true e b h = found ∙ ap (λ k. Some k) (sym (marked b l e))
    go false e true h =
        let is : from ≡ m = eqb-true from m h in
        ap (λ k. find (λ (y : Link). m == y.peer) (change_link k (link_read x) links)) is
        ∙ found_changed (λ y. y.peer) (link_read x) (keeps x.lost) m links
        ∙ ap (option_map (link_read x)) found
      where
        keeps : (c : Bool) (y : Link) → (cond c y (over y)).peer ≡ y.peer
        keeps true y = refl
        keeps false y = refl
    go false e false h =
        found_elsewhere (λ y. y.peer) (link_read x) (keeps x.lost) from m h links ∙ found
      where
        keeps : (c : Bool) (y : Link) → (cond c y (over y)).peer ≡ y.peer
        keeps true y = refl
        keeps false y = refl

-- the peers to which a site has links stay when it reads
pub read_peers : (from : ℕ) (x : Note) (links : List Link) →
    map (λ (l : Link). l.peer) (links_read from x links) ≡ map (λ (l : Link). l.peer) links
read_peers from x links = go x.lost
  where
    keeps : (b : Bool) (l : Link) →
        (cond b l (record l { read = after_frame l.read (note_frame x) })).peer ≡ l.peer
    keeps true l = refl
    keeps false l = refl

    go : (c : Bool) → map (λ (l : Link). l.peer)
        (cond c links (change_link from (link_read x) links)) ≡ map (λ (l : Link). l.peer) links
    go true = refl
    go false = same_keys (λ l. l.peer) (link_read x) (keeps x.lost) from links

-- a link over which something was read has sent what it had
pub read_keeps : (b : Bool) (x : Note) (l : Link) →
    ((read_if b x l).sent ≡ l.sent) × ((read_if b x l).greeted ≡ l.greeted)
read_keeps false x l = (refl, refl)
read_keeps true x l = go x.lost
  where
    over : Link
    over = record l { read = after_frame l.read (note_frame x) }

    go : (c : Bool) → ((cond c l over).sent ≡ l.sent) × ((cond c l over).greeted ≡ l.greeted)
    go true = (refl, refl)
    go false = (refl, refl)
