-- A loss keeps a network in agreement with the state.
use Rattle.std.proofs.Common.{◌≡◌, ◌==◌, ◌&&◌, ℕ, zero, suc, Bool, true, false, cond, List, [], ◌∷◌}
use Rattle.std.proofs.Common.{map, length, refl, sym, ap, ◌∙◌, subst, arith}
use Rattle.std.specs.Prelude.{Some, if◌then◌else◌, is_some, option_and_then, option_map}
use Rattle.std.{specs.List.{AllByRecursion, insert}, proofs.lemmas.Bool.eqb-true}
use Rattle.do_class.specs.Class.{Class}
use Rattle.do_machine.specs.{World.others, declared.item.Item.TheVariants.End}
use Rattle.do_coder.specs.{declared.recent.pair.Pair.Pair, Packets.surroundings}
use Rattle.do_frames.specs.Frames.{IsFrame, after_frame, raw}
use Rattle.do_network.specs.{Links.Part, Net.{Carried, Lost, Net, Place, Whole, change_place}}
use Rattle.do_network.specs.{Net.{channel, channel_to, part_at, place_at, with_channel}, Own.Own}
use Rattle.do_network.specs.{Step.with_loss, fits.Counted.Counted}
use Rattle.do_network.specs.fits.Notes.{Note, carried, exports_of, names_behind, note_frame}
use Rattle.do_network.specs.fits.Notes.{returns_of, tells_of, total}
use Rattle.do_agreement.specs.CountsFit.{ChannelCarries, CountsFit, none_closes}
use Rattle.do_agreement.proofs.places.KeyedLists.{found_changed, found_elsewhere}
use Rattle.do_agreement.proofs.places.PlacesChanged.{channel_elsewhere, channel_here}
use Rattle.do_agreement.proofs.places.PlacesChanged.{part_elsewhere, part_here, ports_same}
use Rattle.do_agreement.proofs.{places.Numbers.flipped, channels.ChannelsStay.carries_still}

-- the mark of a loss, under way
abbrev pub mark : Note
mark = record { item = End []; amount = 0; lost = true }

-- what is under way with the mark of a loss behind so many
abbrev pub marked : ℕ → List Note → List Note
marked after xs = insert xs after mark

-- a mark counts for nothing
marked_total : (f : Note → ℕ) → f mark ≡ 0 → (after : ℕ) (xs : List Note) →
    total f (marked after xs) ≡ total f xs
marked_total f none zero [] = omega (arith, none)
marked_total f none zero (x ∷ xs) = omega (arith, none)
marked_total f none (suc k) [] = omega (arith, none)
marked_total f none (suc k) (x ∷ xs) = omega (arith, marked_total f none k xs)

-- the names behind what is under way are the same with a mark
marked_names : (front : List Pair) (after : ℕ) (xs : List Note) →
    names_behind front (marked after xs) ≡ names_behind front xs
marked_names front zero [] = refl
marked_names front zero (x ∷ xs) = refl
marked_names front (suc k) [] = refl
marked_names front (suc k) (x ∷ xs) =
    marked_names (cond x.lost front (after_frame front (note_frame x))) k xs

-- what is under way with a mark, as it stands in a channel
marked_carried : (front : List Pair) (after : ℕ) (xs : List Note) →
    carried front (marked after xs) ≡ insert (carried front xs) after Lost
marked_carried front zero [] = refl
marked_carried front zero (x ∷ xs) = refl
marked_carried front (suc k) [] = refl
marked_carried front (suc k) (x ∷ xs) =
    go x.lost (marked_carried front k xs)
    (marked_carried (after_frame front (note_frame x)) k xs)
  where
    f : List Carried → List Carried
    f ys = insert ys (suc k) Lost

    go : (b : Bool) →
        carried front (marked k xs) ≡ insert (carried front xs) k Lost →
        carried (after_frame front (note_frame x)) (marked k xs)
        ≡ insert (carried (after_frame front (note_frame x)) xs) k Lost →
        cond b (Lost ∷ carried front (marked k xs))
        (Whole (raw front (note_frame x))
        ∷ carried (after_frame front (note_frame x)) (marked k xs))
        ≡ insert (cond b (Lost ∷ carried front xs)
        (Whole (raw front (note_frame x)) ∷ carried (after_frame front (note_frame x)) xs))
        (suc k) Lost
    go true a c = ap (λ ys. Lost ∷ ys) a
    go false a c = ap (λ ys. Whole (raw front (note_frame x)) ∷ ys) c

-- what holds of all holds of all with a mark
marked_all : (P : Note → Type 0) → P mark → (after : ℕ) (xs : List Note) → AllByRecursion P xs →
    AllByRecursion P (marked after xs)
marked_all P is zero [] all = (is, tt)
marked_all P is zero (x ∷ xs) all = (is, all)
marked_all P is (suc k) [] all = (is, tt)
marked_all P is (suc k) (x ∷ xs) all = (all.0, marked_all P is k xs all.1)

-- the items of what is under way with a mark
pub marked_items : (after : ℕ) (xs : List Note) →
    map (λ (x : Note). x.item) (marked after xs)
    ≡ insert (map (λ (x : Note). x.item) xs) after (End [])
marked_items zero [] = refl
marked_items zero (x ∷ xs) = refl
marked_items (suc k) [] = refl
marked_items (suc k) (x ∷ xs) = ap (λ ys. x.item ∷ ys) (marked_items k xs)

-- a channel has as many as are under way
pub carried_length : (front : List Pair) (xs : List Note) →
    length (carried front xs) ≡ length xs
carried_length front [] = refl
carried_length front (x ∷ xs) =
    go x.lost (carried_length front xs) (carried_length (after_frame front (note_frame x)) xs)
  where
    go : (b : Bool) → length (carried front xs) ≡ length xs →
        length (carried (after_frame front (note_frame x)) xs) ≡ length xs →
        length (cond b (Lost ∷ carried front xs)
        (Whole (raw front (note_frame x)) ∷ carried (after_frame front (note_frame x)) xs))
        ≡ suc (length xs)
    go true a c = ap suc a
    go false a c = ap suc c

-- the counts of two nodes, where as much is under way
record Alike (a m : ℕ) (xs ys : List Note) : Type 0 where
  exports : (s : ℕ) → total (exports_of a m s) xs ≡ total (exports_of a m s) ys
  returns : (s : ℕ) → total (returns_of s) xs ≡ total (returns_of s) ys
  tells : (s : ℕ) → total (tells_of s) xs ≡ total (tells_of s) ys

-- what is under way is as much as itself
alike_same : (a m : ℕ) (xs ys : List Note) → xs ≡ ys → Alike a m xs ys
alike_same a m xs ys e = record {
  exports = λ s. ap (total (exports_of a m s)) e;
  returns = λ s. ap (total (returns_of s)) e;
  tells = λ s. ap (total (tells_of s)) e;
}

-- and as much as with a mark
alike_marked : (a m after : ℕ) (xs : List Note) → Alike a m (marked after xs) xs
alike_marked a m after xs = record {
  exports = λ s. marked_total (exports_of a m s) refl after xs;
  returns = λ s. marked_total (returns_of s) refl after xs;
  tells = λ s. marked_total (tells_of s) refl after xs;
}

-- so counts stay right
counted_alike : (p q : Own) (there back new old : List Note) →
    Alike p.node.port q.node.port new there → Alike q.node.port p.node.port old back →
    Counted p q there back → Counted p q new old
counted_alike p q there back new old a b fit = record {
  agree = λ o k s. omega (arith, fit.agree o k s, a.exports s, b.returns s);
  ended = λ o k s.
      let before = fit.ended o k s in
      record {
        untold = λ t.
            omega (arith, before.untold (omega (arith, t, b.tells s)), a.exports s, b.returns s);
        told = λ t.
            omega (arith, before.told (omega (arith, t, b.tells s)), a.exports s, b.returns s);
      };
  closed = fit.closed;
  silent = λ o s. omega (arith, fit.silent o s, a.tells s);
}

-- what is under way with a mark from one node to another
abbrev pub with_mark : ℕ → ℕ → ℕ → (ℕ → ℕ → List Note) → ℕ → ℕ → List Note
with_mark from to after under_way a m =
    if (a == from) && (m == to) then marked after (under_way a m) else under_way a m

module _ (table : List Class) (from to after : ℕ) (N : Net) (under_way : ℕ → ℕ → List Note)
    (fit : CountsFit table N under_way none_closes) (pf : Place)
    (sender : place_at N from ≡ Some pf) where
  -- the change of the sender's place
  abbrev more : Place → Place
  more = with_channel to (with_loss after)

  -- a place keeps its port
  pub keeps : (y : Place) → (more y).port ≡ y.port
  keeps y = refl

  -- the network after the loss
  abbrev L : Net
  L = change_place from more N

  -- what is under way then
  abbrev now : ℕ → ℕ → List Note
  now = with_mark from to after under_way

  -- no site changes
  pub same_parts : (a : ℕ) → part_at L a ≡ part_at N a
  same_parts a = go (from == a) refl
    where
      go : (b : Bool) → (from == a) ≡ b → part_at L a ≡ part_at N a
      go true e =
          subst (λ c. part_at L c ≡ part_at N c) (eqb-true from a e)
          (part_here from more keeps N pf sender
          ∙ sym (ap (option_map (λ (y : Place). y.part)) sender))
      go false e = part_elsewhere from more keeps N a e

  -- as much is under way
  alike : (a m : ℕ) (x y : ℕ) → Alike x y (now a m) (under_way a m)
  alike a m x y = go ((a == from) && (m == to))
    where
      go : (b : Bool) →
          Alike x y (cond b (marked after (under_way a m)) (under_way a m)) (under_way a m)
      go true = alike_marked x y after (under_way a m)
      go false = alike_same x y (under_way a m) (under_way a m) refl

  -- a channel
  channel_now : (a m : ℕ) (p q : Part) → ChannelCarries table N a m p q (under_way a m) →
      (b c : Bool) → (a == from) ≡ b → (m == to) ≡ c →
      ChannelCarries table L a m p q (cond (b && c) (marked after (under_way a m)) (under_way a m))
  channel_now a m p q old true true e k =
      let is_from : a ≡ from = eqb-true a from e in
      let is_to : m ≡ to = eqb-true m to k in
      let c = old.carries in
      record {
        between = with_loss after old.between;
        stands =
            ap (λ z. channel L z m) is_from ∙ ap (channel L from) is_to
            ∙ channel_here from more keeps N pf sender to
            ∙ found_changed (λ d. d.to) (with_loss after) (λ d. refl) to pf.channels
            ∙ ap (option_map (with_loss after))
            (sym (ap (option_and_then (channel_to to)) sender)
            ∙ sym (ap (λ z. channel N z m) is_from ∙ ap (channel N from) is_to) ∙ old.stands);
        writer = old.writer;
        writes = old.writes;
        reader = old.reader;
        reads = old.reads;
        carries = record {
          tables = record {
            front = c.tables.front;
            read = c.tables.read;
            behind = marked_names c.tables.front after (under_way a m) ∙ c.tables.behind;
            recent = c.tables.recent;
            known = c.tables.known;
          };
          waiting = ap (λ w. insert w after Lost) c.waiting
              ∙ sym (marked_carried c.tables.front after (under_way a m));
          greeting = c.greeting;
          spelled = marked_all (λ x. IsFrame (surroundings table a m) (note_frame x)) tt after
              (under_way a m) c.spelled;
        };
        marks = record {
          lost = marked_all (λ x. x.lost ≡ true → x.item ≡ End []) (λ h. refl) after (under_way a m)
              old.marks.lost;
          unbegun = λ h.
              let was = old.marks.unbegun h in
              (was.0, marked_all (λ x. x.lost ≡ true) refl after (under_way a m) was.1);
        };
      }
  channel_now a m p q old true false e k =
      let is_from : a ≡ from = eqb-true a from e in
      carries_still old
      (ap (λ z. channel L z m) is_from
      ∙ channel_here from more keeps N pf sender m
      ∙ found_elsewhere (λ d. d.to) (with_loss after) (λ d. refl) to m (flipped m to k) pf.channels
      ∙ sym (ap (option_and_then (channel_to m)) sender)
      ∙ sym (ap (λ z. channel N z m) is_from) ∙ old.stands)
  channel_now a m p q old false c e k =
      carries_still old
      (channel_elsewhere from more keeps N a m (flipped a from e) ∙ old.stands)

  -- the counts fit after the loss
  pub loss_fits : CountsFit table L now none_closes
  loss_fits = record {
    owns = λ a p h. fit.owns a p (sym (same_parts a) ∙ h);
    counted = λ a m p q h k ne none.
        counted_alike p.own q.own (under_way a m) (under_way m a) (now a m) (now m a)
        (alike a m p.own.node.port q.own.node.port) (alike m a q.own.node.port p.own.node.port)
        (fit.counted a m p q (sym (same_parts a) ∙ h) (sym (same_parts m) ∙ k) ne refl);
    silent = λ a m p h o s.
        (alike a m 0 0).tells s ∙ fit.silent a m p (sym (same_parts a) ∙ h) o s;
    channels = λ a m p q h k ne.
        channel_now a m p q
        (fit.channels a m p q (sym (same_parts a) ∙ h) (sym (same_parts m) ∙ k) ne)
        (a == from) (m == to) refl refl;
    links = λ a p h.
        fit.links a p (sym (same_parts a) ∙ h)
        ∙ ap (λ ps. others ps a) (sym (ports_same from more keeps N));
    peers = λ a peer p h o.
        ap is_some (same_parts peer) ∙ fit.peers a peer p (sym (same_parts a) ∙ h) o;
  }
