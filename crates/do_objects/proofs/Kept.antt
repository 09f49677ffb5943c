-- What the effects of a node keep: what it stores, and that it is whole.
use Rattle.std.proofs.Common.{◌≡◌, ◌<◌, ◌≤◌, ◌+◌, ◌==◌, ◌++◌, ℕ, Bool, List, [], length, sym, arith}
use Rattle.std.proofs.Common.{ap, refl, subst, ◌∙◌, ◌∷◌}
use Rattle.std.{specs.Prelude.{None, Option, Some, slice_set}, proofs.lemmas.List.Folds.find-append}
use Rattle.do_base.specs.declared.values.value.Value.{Value}
use Rattle.do_behave.specs.{InPlace.written, declared.act.Write.Write}
use Rattle.do_behave.specs.declared.invocation.Invocation.{Invocation}
use Rattle.do_class.specs.declared.ids.ClassId.{ClassId}
use Rattle.do_packet.specs.declared.receipt.Made.{Made}
use Rattle.do_machine.specs.{declared.node.{Node.Node, Stored.Stored}, State.stored}
use Rattle.do_machine.specs.{held.Leaving.leaving, run.{Changes.with_writes, Fresh.with_serials}}
use Rattle.do_objects.proofs.{Finding.{AreFewer, fewer_left, not_new}, Known.Known}
use Rattle.do_objects.proofs.Whole.{AreOwn, IsMade, IsWhole, Stock, still_own, stock}

-- nothing is written
abbrev pub none : ℕ → List Write
none k = []

-- What was stored is there after an effect, with these writes, and what was not stored is not there
-- but under a new serial
pub record Stays (writes : ℕ → List Write) (n m : Stock) : Type 0 where
  pub kept : (k : ℕ) (x : Stored) → stored k n.heap ≡ Some x →
      stored k m.heap ≡ Some (with_writes (writes k) x)
  pub gone : (k : ℕ) → (n.next_serial ≤ k → m.next_serial ≤ k) → stored k n.heap ≡ None →
      stored k m.heap ≡ None
  pub next : n.next_serial ≤ m.next_serial

-- so it is after an effect of a node, which is whole if it was
pub record Keeps (W : Known) (writes : ℕ → List Write) (n m : Stock) : Type 0 where
  pub heap : Stays writes n m
  pub whole : IsWhole W n → IsWhole W m

-- what is kept with some writes is kept with equal ones
pub same_writes : {W : Known} (n m : Stock) (writes others : ℕ → List Write) →
    ((k : ℕ) → others k ≡ writes k) → Keeps W writes n m → Keeps W others n m
same_writes {W} n m writes others e h =
    subst (λ ws. Keeps W ws n m) (sym (λ i k. e k i)) h

-- what was made is of its class still
pub still_made : {writes : ℕ → List Write} (n m : Stock) → Stays writes n m → (serial : ℕ)
    (class : ClassId) → IsMade n serial class → IsMade m serial class
still_made {writes} n m h serial class made =
    (omega (arith, made.0, h.next), λ x found. by x found (stored serial n.heap) refl)
  where
    by : (x : Stored) → stored serial m.heap ≡ Some x → (was : Option Stored) →
        stored serial n.heap ≡ was → x.class ≡ class
    by x found None e = cc (found, h.gone serial (λ le. omega (arith, made.0)) e)
    by x found (Some y) e = grind (arith, found, h.kept serial y e, made.1 y e)

-- a node is whole after an effect whose invocations have their own methods
pub keeps_by : (W : Known) {writes : ℕ → List Write} (n m : Stock) → Stays writes n m →
    (IsWhole W n → AreOwn W n m.stack) → Keeps W writes n m
keeps_by W n m h own = record {
  heap = h;
  whole = λ s. record {
    given = λ k new. h.gone k (λ _. new) (s.given k (omega (arith, new, h.next)));
    invocations = still_own W n m (still_made n m h) m.stack (own s);
  };
}

-- a node that does nothing
pub idle : {W : Known} (n : Stock) → Keeps W none n n
idle n = record {
  heap = record { kept = λ k x was. was; gone = λ k old was. was; next = omega arith };
  whole = λ s. s;
}

-- other invocations, which have their own methods, of a node that kept what a first one stored
pub restacks : {W : Known} {writes : ℕ → List Write} (first n : Stock) (stack : List Invocation) →
    Keeps W writes first n → (IsWhole W first → IsWhole W n → AreOwn W n stack) →
    Keeps W writes first (record n { stack = stack })
restacks first n stack h own = record {
  heap = record { kept = h.heap.kept; gone = h.heap.gone; next = h.heap.next };
  whole = λ s. record { given = (h.whole s).given; invocations = own s (h.whole s) };
}

-- writes, and then more, to slots
written_twice : (slots : List Value) (ws more : List Write) →
    written slots (ws ++ more) ≡ written (written slots ws) more
written_twice slots [] more = refl
written_twice slots (w ∷ ws) more = written_twice (slice_set slots w.slot w.value) ws more

-- one effect after another
pub then_keeps : {W : Known} (writes more : ℕ → List Write) (n m l : Stock) → Keeps W writes n m →
    Keeps W more m l → Keeps W (λ k. writes k ++ more k) n l
then_keeps writes more n m l a b = record {
  heap = record {
    kept = λ k x was.
        b.heap.kept k (with_writes (writes k) x) (a.heap.kept k x was)
        ∙ ap (λ xs. Some (record x { slots = xs }))
        (sym (written_twice x.slots (writes k) (more k)));
    gone = λ k new was.
        b.heap.gone k (λ le. new (omega (arith, le, a.heap.next)))
        (a.heap.gone k (λ le. omega (arith, new le, b.heap.next)) was);
    next = omega (arith, a.heap.next, b.heap.next);
  };
  whole = λ s. b.whole (a.whole s);
}

-- new objects
pub makes : {W : Known} (n : Stock) (new : List Made) →
    Keeps W none n (record n {
      heap = n.heap ++ with_serials n.next_serial new;
      next_serial = n.next_serial + length new;
    })
makes {W} n new =
    let both = λ (k : ℕ).
    find-append (λ (x : Stored). x.serial == k) n.heap (with_serials n.next_serial new) in
    keeps_by W n _ (record {
      kept = λ k x was. grind (arith, both k, was);
      gone = λ k old was. grind (arith, both k, was, not_new k n.next_serial new old);
      next = omega arith;
    }) (λ s. s.invocations)

-- A node after a step: what it stores was there, with these writes, or has a new serial, and it is
-- whole if it was
pub record Became (W : Known) (writes : ℕ → List Write) (n m : Node) : Type 0 where
  pub kept : (k : ℕ) (x y : Stored) → stored k n.heap ≡ Some x → stored k m.heap ≡ Some y →
      y ≡ with_writes (writes k) x
  pub gone : (k : ℕ) → k < n.next_serial → stored k n.heap ≡ None → stored k m.heap ≡ None
  pub next : n.next_serial ≤ m.next_serial
  pub whole : IsWhole W (stock n) → IsWhole W (stock m)

-- a node that does nothing
pub stayed : {W : Known} (n : Node) (writes : ℕ → List Write) → ((k : ℕ) → writes k ≡ []) →
    Became W writes n n
stayed n writes quiet = record {
  kept = λ k x y was now. grind (arith, was, now, quiet k);
  gone = λ k old h. h;
  next = omega arith;
  whole = λ s. s;
}

-- an effect, and then the node leaves what nothing holds
pub became : {W : Known} (writes : ℕ → List Write) (entry : ℕ → ℕ → Bool) (n m : Node) →
    Keeps W writes (stock n) (stock m) → Became W writes n (leaving entry m).node
became {W} writes entry n m h = record {
  kept = λ k x y was now. grind (arith, fewer k, h.heap.kept k x was, now);
  gone = λ k old was. none_more k (h.heap.gone k (λ le. absurd (omega (arith, le, old))) was);
  next = h.heap.next;
  whole = λ s. record {
    given = λ k new. none_more k ((h.whole s).given k new);
    invocations =
        still_own W (stock m) (stock (leaving entry m).node)
        (λ k class made. (made.0, λ x found. made.1 x (grind (arith, fewer k, found))))
        m.stack (h.whole s).invocations;
  };
}
  where
    fewer : AreFewer (leaving entry m).node.heap m.heap
    fewer = fewer_left (length m.heap) entry m m.heap

    none_more : (k : ℕ) → stored k m.heap ≡ None → stored k (leaving entry m).node.heap ≡ None
    none_more k was = grind (arith, fewer k, was)
