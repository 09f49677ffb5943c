-- While no end closes, no ask is refused, whatever moves.
use Rattle.do_facts.specs.links.Links as Atoms
use Rattle.std.proofs.Common.{◌≡◌, ◌==◌, ◌++◌, ℕ, Bool, true, false, cond, drop, length, refl, ap}
use Rattle.std.proofs.{Common.{◌∙◌, arith}, lemmas.Bool.{eqb-true, Decides.nat_tests}}
use Rattle.do_base.specs.names.Names.{TokenName}
use Rattle.do_facts.specs.Net.{Net, StandFirst, atoms_of, net_after, total}
use Rattle.do_facts.specs.links.{Facts.{asked_in, open_in}, Links.{Atom, Links}}
use Rattle.do_facts.specs.links.Moves.{Asks, Closes, Ends, GivesUp, Grants, Leaves, Lends, Mentions}
use Rattle.do_facts.specs.links.Moves.{Misses, Move, Names, Receives, Refuses, Returns, Strikes}
use Rattle.do_facts.specs.links.Moves.{may, moved, note, opens, posts, stores, takes}
use Rattle.do_facts.proofs.{FirstOnWire.first_of, Notes.total-append, links.Acts.IsAct}
use Rattle.do_facts.proofs.links.{Bridge.link_bridge, LinksStay.weightless, ListsChanged.open_less}
use Rattle.do_facts.proofs.links.{NoEndTold.total_dropped, PlainMoves.other}
use Rattle.do_quiet.proofs.Backing.{AllReach, NoGone, StandsBacked, asked_stored, gone_of}
use Rattle.do_quiet.proofs.{Backing.passes_asked, CalmLinks.IsCalm}

-- a calm move refuses no ask
posts_none : (p : Links) (v : Move) → IsCalm v → (z : ℕ) →
    total gone_of (atoms_of z (posts p v)) ≡ 0
posts_none p (Names to s) c z = weightless gone_of to z (Atoms.Mine s) refl
posts_none p (Mentions to s) c z = weightless gone_of to z (Atoms.Yours s) refl
posts_none p (Lends to o) c z = weightless gone_of to z (Atoms.Lent o p.token) refl
posts_none p (Leaves o) c z = weightless gone_of o.node z (Atoms.Left o.serial) refl
posts_none p (Closes peer) c z = absurd c
posts_none p (GivesUp w told) c z = absurd c
posts_none p (Asks from o t) c z =
    weightless gone_of o.node z (Atoms.Ask o.serial (record { lender = from; number = t })) refl
posts_none p (Returns from o t) c z = weightless gone_of from z (Atoms.Settled t) refl
posts_none p (Grants from s k) c z = weightless gone_of from z (Atoms.Granted s k) refl
posts_none p (Refuses from s k) c z = absurd c
posts_none p (Receives from s k true) c z =
    weightless gone_of k.lender z (Atoms.Settled k.number) refl
posts_none p (Misses from s k told) c z = absurd c
posts_none p (Ends from names) c z = absurd c
posts_none p (Strikes heap) c z = absurd c
posts_none p _ c z = refl

module _ (ends : ℕ → ℕ → Bool) (net : Net Links Atom) (x : ℕ) (f : StandsBacked ends net) where
  -- the part of the node
  abbrev p : Links
  p = net.part x

  -- the net once the node moved
  abbrev pub after : Move → Net Links Atom
  after v = net_after x (moved p v) (takes v) (posts p v) net

  -- no end opens: one that is open was so
  pub was_open : (v : Move) → may p v → (a b : ℕ) → open_in (after v) a b ≡ true →
      open_in net a b ≡ true
  was_open v m a b o = go (a == x) refl o
    where
      no : opens (moved p v) b ≡ true → opens (moved p v) b ≡ false → ⊥
      no y z = cc

      part : (c : Bool) → opens p b ≡ c → opens (moved p v) b ≡ true → opens p b ≡ true
      part true e k = e
      part false e k = absurd (no k (link_bridge.closed p v b m e).0)

      go : (c : Bool) → (a == x) ≡ c → opens (cond c (moved p v) (net.part a)) b ≡ true →
          opens (net.part a) b ≡ true
      go true e k = ap (λ y. opens (net.part y) b) (eqb-true a x e) ∙ part (opens p b) refl k
      go false e k = k

  module _ (reach : AllReach ends net) where
    -- an object that is asked for over an open end is asked for by the peer
    no_refusal : (from s : ℕ) (k : TokenName) → opens p from ≡ true → stores p s ≡ false →
        StandFirst x (note from (Atoms.Ask s k)) net → ⊥
    no_refusal from s k o none first =
        let apart = other net x f.entries.hold from o in
        let e = first_of net x from (Atoms.Ask s k) apart first in
        let back = (reach x from ((f.within x).reached from o)).1 in
        let asked : asked_in net from x s k.lender k.number ≡ true =
        grind (
          arith,
          nat_tests,
          (f.entries.hold.asks from x s k.lender k.number).once apart back,
          e.1,
        ) in
        no (asked_stored ends net f reach from x s k.lender k.number asked)
      where
        no : stores p s ≡ true → ⊥
        no y = cc

    -- a move after which all ends are open is calm
    pub calm : (v : Move) → may p v → IsAct v → StandFirst x (takes v) net →
        AllReach ends (after v) → IsCalm v
    calm (Closes peer) m is first then =
        let still = (then x peer ((f.within x).reached peer m)).0 in
        absurd (grind (arith, nat_tests, still, open_less peer peer p.open_to))
    calm (GivesUp w told) m is first then =
        let home = passes_asked (λ v. ends x v.object.node ≡ true) w p.asked (f.within x).homes m.1
        in
        absurd (no w.object.node (reach x w.object.node home).0 m.0)
      where
        no : (b : ℕ) → opens p b ≡ true → opens p b ≡ false → ⊥
        no b y z = cc
    calm (Refuses from s k) m is first then = no_refusal from s k m.0 m.1 first
    calm (Misses from s k told) m is first then =
        let e = first_of net x from (Atoms.Gone s k) (other net x f.entries.hold from m.0) first in
        absurd (grind (arith, nat_tests, e.1, (f.backed reach).0 from x))
    calm (Ends from names) m is first then =
        let still = (then x from ((f.within x).reached from m)).0 in
        absurd (grind (arith, nat_tests, still, open_less from from p.open_to))
    calm (Strikes heap) m is first then = absurd is
    calm _ m is first then = tt

    -- no ask was refused
    pub none_after : (v : Move) → IsCalm v → NoGone (after v)
    none_after v c a b = go (a == x) (b == x)
      where
        go : (d e : Bool) → total gone_of (cond d (net.wire a b ++ atoms_of b (posts p v))
            (cond e (drop (length (atoms_of a (takes v))) (net.wire a b)) (net.wire a b))) ≡ 0
        go true e =
            omega (
              arith,
              total-append gone_of (net.wire a b) (atoms_of b (posts p v)),
              (f.backed reach).0 a b,
              posts_none p v c b,
            )
        go false true =
            omega (
              arith,
              total_dropped gone_of (length (atoms_of a (takes v))) (net.wire a b),
              (f.backed reach).0 a b,
            )
        go false false = (f.backed reach).0 a b
