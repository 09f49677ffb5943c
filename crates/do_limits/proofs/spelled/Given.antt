-- Numbers that nodes give: those that are kept and those on their way were given.
use Rattle.std.proofs.Common.{◌≡◌, ◌≢◌, ◌==◌, ◌<◌, ◌≤◌, ℕ, Bool, true, false, cond, List, [], ◌∷◌}
use Rattle.std.{proofs.Common.{arith, refl, subst}, specs.List.AllByRecursion}
use Rattle.std.proofs.lemmas.Bool.{eqb-true, Decides.nat_tests}
use Rattle.do_facts.specs.Moves.{Happening, Happens, Keeps, Lost, Moved, Rules, net_then}
use Rattle.do_facts.specs.Net.{Net, Note, StandFirst, net_after}
use Rattle.do_facts.proofs.{FirstOnWire.first_of, EachOfLists.each_weaker}
use Rattle.do_limits.proofs.spelled.Wires.{OfNotes, OnWires, lost_kept, wires_kept}

-- By a rule that takes the next number of a part, by what a part keeps and by what an atom tells of
-- numbers of nodes
module _ {P A V : Type 0} (rules : Rules P A V) (next : P → ℕ)
    (kept : (ℕ → ℕ → Type 0) → P → Type 0) (told : (ℕ → ℕ → Type 0) → ℕ → ℕ → A → Type 0) where
  -- a node gave this number
  abbrev pub IsGiven : Net P A → ℕ → ℕ → Type 0
  IsGiven net n k = (1 ≤ k) × (k < next (net.part n))

  -- A node with an open end gives numbers from 1 on, and each that is kept or on its way was given
  pub record AllGiven (net : Net P A) : Type 0 where
    pub first : (n peer : ℕ) → rules.opens (net.part n) peer ≡ true → 1 ≤ next (net.part n)
    pub parts : (n : ℕ) → kept (IsGiven net) (net.part n)
    pub wires : OnWires (told (IsGiven net)) net.wire

  -- what a node takes tells of such numbers
  abbrev pub Taken : (ℕ → ℕ → Type 0) → ℕ → List (Note A) → Type 0
  Taken G a notes = AllByRecursion (λ (k : Note A). told G k.peer a k.atom) notes

  -- Moves that give numbers one after another, and tell those alone that were given
  pub record GiveNumbers : Type 1 where
    pub grows : (p : P) (v : V) → next p ≤ next (rules.after p v)
    pub opens : (p : P) (v : V) (peer : ℕ) → rules.opens (rules.after p v) peer ≡ true →
        rules.opens p peer ≡ true
    pub kept_still : (G H : ℕ → ℕ → Type 0) → ((n k : ℕ) → G n k → H n k) → (p : P) →
        kept G p → kept H p
    pub told_still : (G H : ℕ → ℕ → Type 0) → ((n k : ℕ) → G n k → H n k) → (x y : ℕ) (at : A) →
        told G x y at → told H x y at
    pub keeps : (G : ℕ → ℕ → Type 0) (a : ℕ) (p : P) (v : V) → rules.may p v → kept G p →
        Taken G a (rules.takes v) → kept G (rules.after p v)
    pub posts : (G : ℕ → ℕ → Type 0) (a : ℕ) (p : P) (v : V) → rules.may p v → kept G p →
        Taken G a (rules.takes v) →
        ((peer : ℕ) → rules.opens p peer ≡ true → next p < next (rules.after p v) →
        G a (next p)) → OfNotes (told G) a (rules.posts p v)
    pub loss : (G : ℕ → ℕ → Type 0) (x y : ℕ) → AllByRecursion (told G x y) rules.loss

  -- an atom that a node takes
  pub one_taken : (net : Net P A) (a from : ℕ) (x : A) → AllGiven net → from ≢ a →
      StandFirst a (record { peer = from; atom = x } ∷ []) net →
      Taken (IsGiven net) a (record { peer = from; atom = x } ∷ [])
  one_taken net a from x all apart first =
      let e = first_of net a from x apart first in
      ((subst (AllByRecursion (told (IsGiven net) from a)) e.1 (all.wires from a)).0, tt)

  module _ (give : GiveNumbers) (net : Net P A) (a : ℕ) (all : AllGiven net) (v : V)
      (m : rules.may (net.part a) v) (taken : Taken (IsGiven net) a (rules.takes v)) where
    -- the part of the node
    abbrev p : P
    p = net.part a

    -- the net once the node moved
    abbrev after : Net P A
    after = net_after a (rules.after p v) (rules.takes v) (rules.posts p v) net

    -- what was given, before and then
    abbrev G : ℕ → ℕ → Type 0
    G = IsGiven net

    abbrev H : ℕ → ℕ → Type 0
    H = IsGiven after

    -- what was given is given still
    still : (n k : ℕ) → G n k → H n k
    still n k h = (h.0, go (n == a) refl)
      where
        go : (b : Bool) → (n == a) ≡ b → k < next (cond b (rules.after p v) (net.part n))
        go true e =
            omega (
              arith,
              give.grows p v,
              subst (λ x. k < next (net.part x)) (eqb-true n a e) h.1,
            )
        go false e = h.1

    -- the number that is given now
    new_given : (peer : ℕ) → rules.opens p peer ≡ true → next p < next (rules.after p v) →
        H a (next p)
    new_given peer o lt = (all.first a peer o, go (a == a) (itself a))
      where
        itself : (n : ℕ) → (n == n) ≡ true
        itself n = grind (arith, nat_tests)

        go : (b : Bool) → b ≡ true → next p < next (cond b (rules.after p v) (net.part a))
        go true e = lt
        go false e = absurd (cc (e))

    -- what the node takes tells of what is given then
    taken_still : Taken H a (rules.takes v)
    taken_still =
        each_weaker (λ (k : Note A). told G k.peer a k.atom)
        (λ (k : Note A). told H k.peer a k.atom)
        (λ k. give.told_still G H still k.peer a k.atom) (rules.takes v) taken

    -- a node with an open end
    first_then : (n peer : ℕ) → rules.opens (after.part n) peer ≡ true → 1 ≤ next (after.part n)
    first_then n peer = go (n == a)
      where
        go : (b : Bool) → rules.opens (cond b (rules.after p v) (net.part n)) peer ≡ true →
            1 ≤ next (cond b (rules.after p v) (net.part n))
        go true o = omega (arith, give.grows p v, all.first a peer (give.opens p v peer o))
        go false o = all.first n peer o

    -- what a part keeps
    kept_then : (n : ℕ) → kept H (after.part n)
    kept_then n = go (n == a)
      where
        go : (b : Bool) → kept H (cond b (rules.after p v) (net.part n))
        go true =
            give.keeps H a p v m (give.kept_still G H still p (all.parts a)) taken_still
        go false = give.kept_still G H still (net.part n) (all.parts n)

    -- all of it
    pub given_moved : AllGiven after
    given_moved = record {
      first = first_then;
      parts = kept_then;
      wires = wires_kept (told H) a (rules.takes v) (rules.posts p v) net.wire
          (λ x y.
          each_weaker (told G x y) (told H x y) (give.told_still G H still x y) (net.wire x y)
          (all.wires x y))
          (give.posts H a p v m (give.kept_still G H still p (all.parts a)) taken_still
          new_given);
    }

  -- it is kept whatever happens, beside what lets a node take only what a wire has
  pub given_keeps : GiveNumbers → (Hold : Net P A → Type 0) → Keeps rules Hold →
      ((net : Net P A) (a : ℕ) (v : V) → Hold net → AllGiven net → rules.may (net.part a) v →
      StandFirst a (rules.takes v) net → Taken (IsGiven net) a (rules.takes v)) →
      Keeps rules (λ net. Hold net × AllGiven net)
  given_keeps give Hold keeps takes = record { by = by_happening }
    where
      by_happening : (net : Net P A) (h : Happening A V) → Hold net × AllGiven net →
          Happens rules net h → Hold (net_then rules net h) × AllGiven (net_then rules net h)
      by_happening net (Moved port v) all m = (
        keeps.by net (Moved port v) all.0 m,
        given_moved give net port all.1 v m.0 (takes net port v all.0 all.1 m.0 m.1),
      )
      by_happening net (Lost from to first rest) all m = (
        keeps.by net (Lost from to first rest) all.0 m,
        record {
          first = all.1.first;
          parts = all.1.parts;
          wires = lost_kept (told (IsGiven net)) from to first rules.loss rest net.wire m.0
              (give.loss (IsGiven net) from to) all.1.wires;
        },
      )
