-- While no end closes, what is lent or asked for stays backed, whatever moves.
use Rattle.do_facts.specs.links.Links as Atoms
use Rattle.std.proofs.Common.{◌≡◌, ◌==◌, ◌⊎◌, ◌&&◌, ◌||◌, ℕ, Bool, true, false, cond, inl, inr}
use Rattle.std.{proofs.Common.{refl, sym, ap, ◌∙◌, subst, arith}, specs.List.list_any}
use Rattle.std.proofs.lemmas.Bool.{eqb-true, Decides.nat_tests}
use Rattle.do_base.specs.names.Names.{ObjectName}
use Rattle.do_packet.specs.Met.{has_object, same_object}
use Rattle.do_machine.{specs.{Objects.object_at, lend.Asking.wanted}, proofs.Bools.or_right}
use Rattle.do_facts.specs.{Net.{Net, StandFirst}, links.{Facts.asked_in, Links.{Atom, Links}}}
use Rattle.do_facts.specs.links.Moves.{Asks, Lends, Move, has_wanted, is_in_use, may, may_name}
use Rattle.do_facts.specs.links.Moves.{moved, note, opens, takes}
use Rattle.do_facts.proofs.{FirstOnWire.first_of, Nets.part_here, links.Acts.IsAct}
use Rattle.do_facts.proofs.links.{ListsChanged.asked_more, PlainMoves.other, SameIsEqual.object_is}
use Rattle.do_quiet.proofs.Backing.{AllReach, Backed, Borrows, EachBacked, Holds as Held, NoGone}
use Rattle.do_quiet.proofs.Backing.{StandsBacked, asked_lent, backed_kept, held_in, out_used}
use Rattle.do_quiet.proofs.{Backing.used_in, CalmLinks.{Begins, IsCalm, part_asked, part_held}}
use Rattle.do_quiet.proofs.{CalmLinks.part_used, NoneRefused.{after, calm, none_after, was_open}}

module _ (ends : ℕ → ℕ → Bool) (net : Net Links Atom) (x : ℕ) (f : StandsBacked ends net) where
  -- the part of the node
  abbrev p : Links
  p = net.part x

  -- the net once the node moved
  abbrev then : Move → Net Links Atom
  then v = after ends net x f v

  module _ (reach : AllReach ends net) where
    -- what was backed is so still
    still : (v : Move) → may p v → IsCalm v → (n h s : ℕ) → used_in net n h s ≡ true →
        Backed (then v) h s n
    still v m c n h s u =
        backed_kept net (then v) h s holds asks
        (λ y l t e. asked_lent ends net f reach y h s l t e) n u ((f.backed reach).1 n h s u)
      where
        holds : (y : ℕ) → used_in net y h s ≡ true → held_in net y h s ≡ true →
            held_in (then v) y h s ≡ true
        holds y u e = go (y == x) refl
          where
            go : (b : Bool) → (y == x) ≡ b →
                has_object (cond b (moved p v) (net.part y)).held (object_at h s) ≡ true
            go true q =
                let same = sym (eqb-true y x q) in
                part_held p h s v m c (ap (λ z. used_in net z h s) same ∙ u)
                (ap (λ z. held_in net z h s) same ∙ e)
            go false q = e

        asks : (y l t : ℕ) → asked_in net y h s l t ≡ true →
            (held_in (then v) y h s ≡ true) ⊎ (asked_in (then v) y h s l t ≡ true)
        asks y l t e = go (y == x) refl
          where
            go : (b : Bool) → (y == x) ≡ b →
                (has_object (cond b (moved p v) (net.part y)).held (object_at h s) ≡ true)
                ⊎ (has_wanted (cond b (moved p v) (net.part y)) (wanted (object_at h s) l t) ≡ true)
            go true q =
                part_asked p h s l t v c
                (ap (λ z. asked_in net z h s l t) (sym (eqb-true y x q)) ∙ e)
            go false q = inr e

    -- an object that is lent now is held by the lender, or asked for
    lent_now : (to : ℕ) (z : ObjectName) (h s : ℕ) → may p (Lends to z) →
        same_object (object_at h s) z ≡ true → Backed (then (Lends to z)) h s x
    lent_now to z h s m q =
        go (has_object p.held (object_at h s)) refl
        (ap (λ o. may_name p o) (object_is (object_at h s) z q) ∙ m.1)
      where
        first : (b c : Bool) → (b && c) ≡ true → b ≡ true
        first true c e = refl
        first false c e = absurd (cc)

        go : (b : Bool) → has_object p.held (object_at h s) ≡ b →
            ((b || list_any (λ w. same_object (object_at h s) w.object) p.asked) && opens p h)
            ≡ true → Backed (then (Lends to z)) h s x
        go true e k =
            Held (ap (λ r. has_object r.held (object_at h s))
            (part_here x net.part (moved p (Lends to z))) ∙ e)
        go false e k =
            still (Lends to z) m tt x h s
            (or_right (list_any (λ l. same_object (object_at h s) l.object) p.lent)
            (list_any (λ w. same_object (object_at h s) w.object) p.asked)
            (first (list_any (λ w. same_object (object_at h s) w.object) p.asked) (opens p h) k))

    -- an object that is asked for now was lent by one that has it in use
    asked_now : (from : ℕ) (z : ObjectName) (t h s : ℕ) → may p (Asks from z t) →
        StandFirst x (note from (Atoms.Lent z t)) net → same_object (object_at h s) z ≡ true →
        Backed (then (Asks from z t)) h s x
    asked_now from z t h s m first q =
        let hold = f.entries.hold in
        let e = first_of net x from (Atoms.Lent z t) (other net x hold from m.0) first in
        let back = (reach x from ((f.within x).reached from m.0)).1 in
        let used = out_used net hold from x h s t back (grind (arith, nat_tests, e.1, q)) in
        Borrows from t
        (ap (λ r. has_wanted r (wanted (object_at h s) from t))
        (part_here x net.part (moved p (Asks from z t)))
        ∙ grind (arith, nat_tests, asked_more h s from t (wanted z from t) p.asked, q))
        (still (Asks from z t) m tt from h s used)

    -- what begins to be in use is backed
    begun : (v : Move) → may p v → StandFirst x (takes v) net → (h s : ℕ) →
        Begins v (object_at h s) → Backed (then v) h s x
    begun (Lends to z) m first h s b = lent_now to z h s m b
    begun (Asks from z t) m first h s b = asked_now from z t h s m first b
    begun _ m first h s b = absurd b

    -- all that is in use is backed
    each_after : (v : Move) → may p v → IsCalm v → StandFirst x (takes v) net →
        EachBacked (then v)
    each_after v m c first n h s u = go (n == x) refl u
      where
        here : n ≡ x → (is_in_use p (object_at h s) ≡ true) ⊎ Begins v (object_at h s) →
            Backed (then v) h s n
        here same (inl w) = still v m c n h s (ap (λ z. used_in net z h s) same ∙ w)
        here same (inr b) = subst (Backed (then v) h s) (sym same) (begun v m first h s b)

        go : (b : Bool) → (n == x) ≡ b →
            is_in_use (cond b (moved p v) (net.part n)) (object_at h s) ≡ true →
            Backed (then v) h s n
        go true q k = here (eqb-true n x q) (part_used p h s v c k)
        go false q k = still v m c n h s k

  -- as long as all ends are open, no ask was refused, and all that is in use is backed
  pub backed_moved : (v : Move) → may p v → IsAct v → StandFirst x (takes v) net →
      AllReach ends (then v) → NoGone (then v) × EachBacked (then v)
  backed_moved v m is first open_all =
      let reach : AllReach ends net =
      λ a b e. (
        was_open ends net x f v m a b (open_all a b e).0,
        was_open ends net x f v m b a (open_all a b e).1,
      ) in
      let c = calm ends net x f reach v m is first open_all in
      (none_after ends net x f reach v c, each_after reach v m c first)
