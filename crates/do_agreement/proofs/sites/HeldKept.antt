-- A node holds what it received, with an item in hand and after an effect.
use Rattle.std.proofs.Common.{◌≡◌, ◌==◌, ◌+◌, ◌&&◌, ◌||◌, ℕ, Bool, true, false, cond, List, [], ◌∷◌}
use Rattle.std.proofs.Common.{filter, fold, refl, sym, ap, ◌∙◌, subst, arith, inl, inr}
use Rattle.std.{specs.Prelude.{if◌then◌else◌, nat_lt}, proofs.lemmas.Bool.Decides.nat_tests}
use Rattle.do_base.specs.names.Names.{ObjectName}
use Rattle.do_packet.specs.Met.{has_object, same_object}
use Rattle.do_export.{specs.Counts.{Counts, count_of}, proofs.Counting.count-raised}
use Rattle.do_import.specs.ByObject.{added, object_of}
use Rattle.do_machine.specs.{declared.{node.Node.Node, state.Effect.Effect}, Items.exported}
use Rattle.do_machine.specs.{Lists.IsIn, Objects.joined, State.{holds, is_open}}
use Rattle.do_facts.specs.laws.Follows.{HoldsOpen}
use Rattle.do_network.specs.{Counting.counted, Frames.{frame_of, item_of}, Own.Own}
use Rattle.do_network.specs.{Site.released_by, fits.Notes.Note}
use Rattle.do_facts.proofs.{OnceInLists.filter_agrees, links.HeldChanged.held_more as object_more}
use Rattle.do_facts.proofs.links.{HeldChanged.is_at, SameIsEqual.{object_is, object_itself}}
use Rattle.do_agreement.specs.{CountsFit.HoldsReceived, InHand.in_hand, IsEffectOf.Thins}
use Rattle.do_agreement.proofs.hands.InHandCounts.{AreOf, exports_alike, exports_are, gives_back}
use Rattle.do_agreement.proofs.counts.ReturnsSent.{held_count}
use Rattle.do_agreement.proofs.sites.HeldLists.{held_less, held_list, held_more}

-- ---- an item in hand

-- objects are held just where they are counted as received
record AreReceived (r : Counts) (hs : List ObjectName) : Type 0 where
  held : held_list r ≡ hs
  received : (o : ObjectName) → nat_lt 0 (count_of r o.node o.serial) ≡ has_object hs o

-- one more is counted
one_more : (k : ℕ) (a b c : Bool) → nat_lt 0 k ≡ c →
    nat_lt 0 (k + cond (a && b) 1 0) ≡ cond a (cond b true c) c
one_more k a b c e = grind (arith, nat_tests, e)

-- two tests of numbers, the other way
turned : (o : ObjectName) (x y : ℕ) (c : Bool) →
    cond (o.node == x) (cond (o.serial == y) true c) c ≡ (if is_at o x y then true else c)
turned o x y c = grind (arith, nat_tests)

-- so it is with one more
received_more : (r : Counts) (hs : List ObjectName) → AreReceived r hs → (o : ObjectName) →
    AreReceived (added r o) (joined hs o)
received_more r hs are o = record {
  held = held_more r o (count_of r o.node o.serial + 1) ∙ ap (λ os. joined os o) are.held;
  received = λ x.
      ap (nat_lt 0) (count-raised r o.node o.serial x.node x.serial)
      ∙ one_more (count_of r x.node x.serial) (o.node == x.node) (o.serial == x.serial)
      (has_object hs x) (are.received x)
      ∙ turned o x.node x.serial (has_object hs x)
      ∙ sym (object_more x.node x.serial o hs);
}

-- and with many
received_all : (os : List ObjectName) (r : Counts) (hs : List ObjectName) → AreReceived r hs →
    AreReceived (fold added r os) (fold joined hs os)
received_all [] r hs are = are
received_all (o ∷ os) r hs are =
    received_all os (added r o) (joined hs o) (received_more r hs are o)

-- what is held once objects of a node are held is one of these, or was held
held_once : (from : ℕ) (os : List ObjectName) → AreOf from os → (hs : List ObjectName)
    (open_to : ℕ → Bool) → open_to from ≡ true →
    ((o : ObjectName) → has_object hs o ≡ true → open_to o.node ≡ true) →
    (o : ObjectName) → has_object (fold joined hs os) o ≡ true → open_to o.node ≡ true
held_once from [] are hs open_to here before = before
held_once from (x ∷ xs) are hs open_to here before =
    held_once from xs are.1 (joined hs x) open_to here (λ o h. one o h)
  where
    one : (o : ObjectName) → has_object (joined hs x) o ≡ true → open_to o.node ≡ true
    one o h = go (is_at x o.node o.serial) refl (sym (object_more o.node o.serial x hs) ∙ h)
      where
        of_node : is_at x o.node o.serial ≡ true → o.node ≡ x.node
        of_node e = grind (arith, nat_tests, e)

        go : (b : Bool) → is_at x o.node o.serial ≡ b →
            (if b then true else has_object hs o) ≡ true → open_to o.node ≡ true
        go true e k = ap open_to (of_node e ∙ are.0) ∙ here
        go false e k = before o k

module _ (port from : ℕ) (x : Note) (p : Own) (fit : HoldsReceived port p)
    (here : is_open p.node from ≡ true) where
  -- what the item exports
  abbrev new : List ObjectName
  new = exported from p.node.port (item_of (frame_of x.amount x.item))

  -- it is of its sender
  new_of : AreOf from new
  new_of =
      subst (AreOf from) (sym (exports_alike from p.node.port x.amount x.item))
      (exports_are from p.node.port x.item)

  -- what is received with the item in hand
  received_is : (in_hand from x p).received ≡ fold added p.received new
  received_is =
      let back = gives_back from p x.amount x.item in
      let q = released_by from (frame_of x.amount x.item) p in
      ap (λ (n : Node). fold added q.received
      (exported from n.port (item_of (frame_of x.amount x.item)))) back.same
      ∙ ap (λ r. fold added r new) back.received

  -- the node holds what it received
  pub holds_in_hand : HoldsReceived port (in_hand from x p)
  holds_in_hand =
      let all = received_all new p.received p.node.held
      (record { held = fit.held; received = fit.received }) in
      record {
        port_is = fit.port_is;
        apart = fit.apart;
        reached = record {
          reached = held_once from new new_of p.node.held (λ n. is_open p.node n) here
              fit.reached.reached;
        };
        held = ap held_list received_is ∙ all.held;
        received = λ o.
            ap (λ r. nat_lt 0 (count_of r o.node o.serial)) received_is ∙ all.received o;
      }

-- ---- an effect

module _ (test : ObjectName → Bool) where
  -- an object is among those that pass where it is held and passes
  has_passing : (os : List ObjectName) (o : ObjectName) →
      has_object (filter test os) o ≡ (has_object os o && test o)
  has_passing [] o = refl
  has_passing (x ∷ xs) o = go (test x) refl (same_object o x) refl (has_passing xs o)
    where
      go : (b : Bool) → test x ≡ b → (c : Bool) → same_object o x ≡ c →
          has_object (filter test xs) o ≡ (has_object xs o && test o) →
          has_object (cond b (x ∷ filter test xs) (filter test xs)) o
          ≡ ((c || has_object xs o) && test o)
      go true e true s k =
          ap (λ c. c || has_object (filter test xs) o) s
          ∙ sym (ap test (object_is o x s) ∙ e)
      go true e false s k = ap (λ c. c || has_object (filter test xs) o) s ∙ k
      go false e true s k = k ∙ fails (has_object xs o) (ap test (object_is o x s) ∙ e)
        where
          fails : (a : Bool) → test o ≡ false → (a && test o) ≡ test o
          fails true h = refl
          fails false h = sym h
      go false e false s k = k

  -- what is in a list is found there
  found_in : (os : List ObjectName) (o : ObjectName) → IsIn os o → has_object os o ≡ true
  found_in [] o i = absurd i
  found_in (x ∷ xs) o (inl e) =
      ap (λ z. same_object o z || has_object xs o) e
      ∙ ap (λ b. b || has_object xs o) (object_itself o)
  found_in (x ∷ xs) o (inr i) = go (same_object o x) (found_in xs o i)
    where
      go : (b : Bool) → has_object xs o ≡ true → (b || has_object xs o) ≡ true
      go true h = refl
      go false h = h

  -- those that are among those that pass are those that pass
  passing_twice : (os : List ObjectName) →
      filter (has_object (filter test os)) os ≡ filter test os
  passing_twice os =
      filter_agrees (has_object (filter test os)) test os
      (λ o i. has_passing os o ∙ ap (λ b. b && test o) (found_in os o i))

-- a count above 0 of what is held
kept_count : (c : ℕ) (b : Bool) → (b ≡ true → nat_lt 0 c ≡ true) → nat_lt 0 (cond b c 0) ≡ b
kept_count c true h = h refl
kept_count c false h = refl

module _ (port : ℕ) (p : Own) (fit : HoldsReceived port p) (e : Effect)
    (same : e.node.port ≡ p.node.port)
    (ends : (peer : ℕ) → is_open e.node peer ≡ true → is_open p.node peer ≡ true)
    (opened : HoldsOpen e.node) (thins : Thins p.node e) where
  -- what is held after the effect was held before
  held_before : (o : ObjectName) → holds e.node o ≡ true → holds p.node o ≡ true
  held_before o h =
      first (holds p.node o) (thins.test o)
      (sym (ap (λ os. has_object os o) thins.held ∙ has_passing thins.test p.node.held o) ∙ h)
    where
      first : (a b : Bool) → (a && b) ≡ true → a ≡ true
      first true b k = refl
      first false b k = absurd (cc)

  -- the node holds what it received
  pub holds_after : HoldsReceived port (counted p e)
  holds_after = record {
    port_is = same ∙ fit.port_is;
    apart = closed (is_open e.node port) refl;
    reached = opened;
    held =
        held_less p.received (λ k. holds e.node (object_of k)) (holds e.node) (λ k. refl)
        ∙ ap (filter (holds e.node)) fit.held
        ∙ ap (λ os. filter (has_object os) p.node.held) thins.held
        ∙ passing_twice thins.test p.node.held
        ∙ sym thins.held;
    received = λ o.
        ap (nat_lt 0) (held_count e.node p.received o.node o.serial)
        ∙ kept_count (count_of p.received o.node o.serial) (holds e.node o)
        (λ h. fit.received o ∙ held_before o h);
  }
    where
      closed : (b : Bool) → is_open e.node port ≡ b → is_open e.node port ≡ false
      closed false h = h
      closed true h = absurd (no (ends port h) fit.apart)
        where
          no : is_open p.node port ≡ true → is_open p.node port ≡ false → ⊥
          no a b = cc
