-- Of what is in use at a peer a node frees nothing, whatever moves.
use Rattle.do_facts.specs.links.Links as Atoms
use Rattle.std.proofs.Common.{◌≡◌, ◌==◌, ◌++◌, ◌+◌, ◌<◌, ◌&&◌, ℕ, Bool, true, false, List, [], ◌∷◌}
use Rattle.std.{proofs.Common.arith, specs.{Prelude.if◌then◌else◌, List.list_any}}
use Rattle.std.proofs.lemmas.Bool.Decides.{nat_tests}
use Rattle.do_packet.specs.Met.{has_object}
use Rattle.do_machine.specs.{declared.node.Stored.Stored, Objects.object_at}
use Rattle.do_facts.specs.Net.{Net, StandFirst, net_after, total}
use Rattle.do_facts.specs.Moves.{Happening, Happens, Keeps, Lost, Moved, net_then, with_wire}
use Rattle.do_facts.specs.links.{Facts.{LinksHold, open_in}, Links.{Atom, End, Granted, Left}}
use Rattle.do_facts.specs.links.{Links.{Links, Mine}, Moves.{Asks, AsksOnce, Closes, Ends, Frees}}
use Rattle.do_facts.specs.links.Moves.{GivesUp, Grants, Hears, Holds, Leaves, Misses, Move, Names}
use Rattle.do_facts.specs.links.Moves.{Receives, Refuses, Returns, Settles, Stores, Strikes}
use Rattle.do_facts.specs.links.Moves.{is_there, may, moved, note, opens, posts, stores, takes}
use Rattle.do_facts.proofs.{FirstOnWire.first_of, Notes.total-append, links.Acts.{IsAct, act_rules}}
use Rattle.do_facts.proofs.links.{LinksKept.links_keep, ListsChanged.open_less, PlainMoves.other}
use Rattle.do_facts.proofs.links.HeldChanged.{held_apart, held_less, held_more, serials_held}

ruleset steps = (nat_tests, total-append)

-- 1 for an atom that exports the sender's object of a serial
abbrev pub export_of : ℕ → Atom → ℕ
export_of s (Mine t) = if s == t then 1 else 0
export_of s (Granted t k) = if s == t then 1 else 0
export_of s _ = 0

-- 1 for an atom that releases the receiver's object of a serial
abbrev pub release_of : ℕ → Atom → ℕ
release_of s (Left t) = if s == t then 1 else 0
release_of s (End names) = if list_any (λ t. s == t) names then 1 else 0
release_of s _ = 0

-- a node holds a home's object over an open end
abbrev pub holds_in : Net Links Atom → ℕ → ℕ → ℕ → Bool
holds_in net a m s = opens (net.part m) a && has_object (net.part m).held (object_at a s)

-- how often an object of a node is in use at a peer, on its way there or on its way back
abbrev pub in_use : Net Links Atom → ℕ → ℕ → ℕ → ℕ
in_use net a m s =
    (if holds_in net a m s then 1 else 0)
    + total (export_of s) (net.wire a m) + total (release_of s) (net.wire m a)

-- an object of a node that is in use at a peer, over an open end, is stored
pub record IsEntered (net : Net Links Atom) (a m s : ℕ) : Type 0 where
  pub stored : open_in net a m ≡ true → 0 < in_use net a m s → stores (net.part a) s ≡ true

-- so is each
abbrev pub EachEntered : Net Links Atom → Type 0
EachEntered net = (a m s : ℕ) → IsEntered net a m s

-- ---- moves

module _ (net : Net Links Atom) (x : ℕ) (hold : LinksHold net) (each : EachEntered net) where
  -- the part of the node
  abbrev p : Links
  p = net.part x

  -- the net once the node moved
  abbrev Now : Move → Type 0
  Now v = EachEntered (net_after x (moved p v) (takes v) (posts p v) net)

  -- what is taken stands first
  there : (from : ℕ) → opens p from ≡ true → (y : Atom) → StandFirst x (note from y) net →
      (rest : List Atom) × (net.wire from x ≡ y ∷ rest)
  there from o y first = first_of net x from y (other net x hold from o) first

  -- any move that frees nothing
  pub moves : (v : Move) → may p v → IsAct v → StandFirst x (takes v) net → Now v
  moves (Names to t) m is first a b s =
      grind (arith, steps, (each a b s).stored, m.1)
  moves (Closes peer) m is first a b s =
      let held = held_apart a s peer p.held in
      let ends = open_less b peer p.open_to in
      let theirs = open_less a peer p.open_to in
      let told = serials_held a s p.held in
      grind (arith, steps, (each a b s).stored, held, ends, theirs, told, m)
  moves (Leaves o) m is first a b s =
      let held = held_less a s o p.held in
      grind (arith, steps, (each a b s).stored, held, m.0, m.1)
  moves (Holds from t) m is first a b s =
      let e = there from m (Mine t) first in
      let held = held_more a s (object_at from t) p.held in
      grind (arith, steps, (each a b s).stored, held, e.1, m)
  moves (Grants from t k) m is first a b s =
      let e = there from m.0 (Atoms.Ask t k) first in
      grind (arith, steps, (each a b s).stored, e.1, m.1, m.0)
  moves (Receives from t k true) m is first a b s =
      let e = there from m.0 (Granted t k) first in
      let held = held_more a s (object_at from t) p.held in
      grind (arith, steps, (each a b s).stored, held, e.1, m.0)
  moves (Receives from t k false) m is first a b s =
      let e = there from m.0 (Granted t k) first in
      let held = held_more a s (object_at from t) p.held in
      grind (arith, steps, (each a b s).stored, held, e.1, m.0)
  moves (Ends from names) m is first a b s =
      let e = there from m (End names) first in
      let held = held_apart a s from p.held in
      let mine = open_less b from p.open_to in
      let theirs = open_less a from p.open_to in
      let told = serials_held a s p.held in
      grind (arith, steps, (each a b s).stored, held, mine, theirs, told, e.1)
  moves (Stores heap serial) m is first a b s =
      grind (arith, steps, (each a b s).stored, m.kept s)
  moves (Strikes heap) m is first a b s = absurd is
  moves (Misses from t k true) m is first a b s =
      let e = there from m.0 (Atoms.Gone t k) first in
      grind (arith, steps, (each a b s).stored, e.1)
  moves (Misses from t k false) m is first a b s =
      let e = there from m.0 (Atoms.Gone t k) first in
      grind (arith, steps, (each a b s).stored, e.1)
  moves (Refuses from t k) m is first a b s =
      let e = there from m.0 (Atoms.Ask t k) first in
      grind (arith, steps, (each a b s).stored, e.1)
  moves (Asks from z t) m is first a b s =
      let e = there from m.0 (Atoms.Lent z t) first in
      grind (arith, steps, (each a b s).stored, e.1)
  moves (AsksOnce from z t) m is first a b s =
      let e = there from m.0 (Atoms.Lent z t) first in
      grind (arith, steps, (each a b s).stored, e.1)
  moves (Returns from z t) m is first a b s =
      let e = there from m.0 (Atoms.Lent z t) first in
      grind (arith, steps, (each a b s).stored, e.1)
  moves (Settles from t) m is first a b s =
      let e = there from m (Atoms.Settled t) first in
      grind (arith, steps, (each a b s).stored, e.1)
  moves (Frees from t) m is first a b s =
      let e = there from m (Left t) first in
      grind (arith, steps, (each a b s).stored, e.1)
  moves (Hears from t) m is first a b s =
      let e = there from m (Atoms.Yours t) first in
      grind (arith, steps, (each a b s).stored, e.1)
  moves (GivesUp w true) m is first a b s =
      grind (arith, steps, (each a b s).stored)
  moves v m is first a b s = grind (arith, steps, (each a b s).stored)

  -- objects are freed, of which none is in use at a peer
  pub strikes : (heap : List Stored) → ((b s : ℕ) → opens p b ≡ true → 0 < in_use net x b s →
      stores p s ≡ true → is_there heap s ≡ true) →
      EachEntered (net_after x (record p { heap = heap }) [] [] net)
  strikes heap kept a b s =
      grind (arith, steps, (each a b s).stored, kept b s)

-- links are kept, and what is in use is stored
pub record EntriesHold (net : Net Links Atom) : Type 0 where
  pub hold : LinksHold net
  pub entered : EachEntered net

-- a loss is no export and no release
lost_entered : (net : Net Links Atom) (from to : ℕ) (first rest : List Atom) →
    net.wire from to ≡ first ++ rest → EachEntered net →
    EachEntered (record net { wire = with_wire from to (first ++ (End [] ∷ rest)) net.wire })
lost_entered net from to first rest e each a b s =
    grind (arith, steps, (each a b s).stored, e)

-- whatever happens while nothing is freed
pub entries_keep : Keeps act_rules EntriesHold
entries_keep = record { by = by_happening }
  where
    by_happening : (net : Net Links Atom) (h : Happening Atom Move) → EntriesHold net →
        Happens act_rules net h → EntriesHold (net_then act_rules net h)
    by_happening net (Moved port v) all m = record {
      hold = links_keep.by net (Moved port v) all.hold (m.0.0, m.1);
      entered = moves net port all.hold all.entered v m.0.0 m.0.1 m.1;
    }
    by_happening net (Lost from to first rest) all m = record {
      hold = links_keep.by net (Lost from to first rest) all.hold m;
      entered = lost_entered net from to first rest m.0 all.entered;
    }
