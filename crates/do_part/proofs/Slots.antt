-- The balance after a slot was written.
use Rattle.std.proofs.Common.{◌≡◌, ℕ, ◌+◌, ◌<◌, ◌≤◌, zero, suc, Bool, true, false, cond, eqb, List}
use Rattle.std.proofs.Common.{[], ◌∷◌, Some, None, Option, IsSome, map, refl, sym, ap, ◌∙◌, arith}
use Rattle.std.proofs.Common.{subst, inl, inr, length}
use Rattle.std.specs.Prelude.{◌==◌, option_map, slice_get, slice_set}
use Rattle.std.proofs.lemmas.{Bool.cases_eq, Option.get_or_from_slice_get, List.Sums.sum_by-cons}
use Rattle.do_base.specs.{names.Names.ObjectName, declared.values.value.Value.Value}
use Rattle.do_behave.specs.declared.act.Write.{Write}
use Rattle.do_export.specs.Counts.{count_of, IsPositive}
use Rattle.do_import.specs.Imported.{Imported}
use Rattle.do_machine.specs.{Lists.change_first, Objects.object_at, State.stored}
use Rattle.do_machine.specs.{declared.node.Stored.Stored, run.Changes.with_writes}
use Rattle.do_store.specs.Listing.{Rising}
use Rattle.do_store.specs.Names.{Stored as Kept, find_stored, named_in, replaced, Objects}
use Rattle.do_part.specs.{Holding.{plain, Came}, Names.{value_of, values_of, heap_of}}
use Rattle.do_part.specs.{Sound.IsBalanced, declared.holders.Holders.Holders}
use Rattle.do_part.proofs.{Balanced.{found_of, some_of, named-plain}, Exchanging.put-moves}
use Rattle.do_part.proofs.Stored.{stored-plain}
use Rattle.do_part.proofs.Replaced.{find-become, become, replaced-change, rising-replaced}

-- what slots name once an object was changed
pub heap-changed : (heap : List Stored) (n : ℕ) (g : Stored → Stored) (x : Stored) (o : ObjectName)
    → stored n heap ≡ Some x
    → heap_of (change_first (λ y. y.serial == n) g heap) o + values_of x.slots o
    ≡ heap_of heap o + values_of (g x).slots o
heap-changed [] n g x o is = absurd (cc)
heap-changed (y ∷ ys) n g x o is =
    go (eqb y.serial n) is (heap-changed ys n g x o)
  where
    -- by whether it is the first
    go : (b : Bool) → cond b (Some y) (stored n ys) ≡ Some x
        → (stored n ys ≡ Some x → heap_of (change_first (λ z. z.serial == n) g ys) o
        + values_of x.slots o ≡ heap_of ys o + values_of (g x).slots o)
        → heap_of (cond b (g y ∷ ys) (y ∷ change_first (λ z. z.serial == n) g ys)) o
        + values_of x.slots o ≡ heap_of (y ∷ ys) o + values_of (g x).slots o
    go true found later =
        let a = sum_by-cons (λ (z : Stored). values_of z.slots o) (g y) ys in
        let b = sum_by-cons (λ (z : Stored). values_of z.slots o) y ys in
        let c = ap (λ (z : Stored). values_of z.slots o) (one y x found) in
        let d = ap (λ (z : Stored). values_of (g z).slots o) (one y x found) in
        omega arith
      where
        -- what stands in an option is one thing
        one : (p q : Stored) → Some p ≡ Some q → p ≡ q
        one p q e = cc
    go false found later =
        let a = sum_by-cons (λ (z : Stored). values_of z.slots o) y
        (change_first (λ z. z.serial == n) g ys) in
        let b = sum_by-cons (λ (z : Stored). values_of z.slots o) y ys in
        let c = later found in
        omega arith

-- an object with a slot written
abbrev pub slot_written : ℕ → Value → Kept → Kept
slot_written at v o = record o { slots = slice_set o.slots at v }

-- one write
abbrev pub one_write : ℕ → Value → List Write
one_write at v = record { slot = at; value = v } ∷ []

-- a slot of a stored object is written, and nothing else has changed
pub record Wrote (a b : Holders) (n at : ℕ) (v old : Value) : Type 0 where
  pub object : Kept
  pub there : find_stored a.store.objects n ≡ Some object
  pub was : slice_get object.slots at ≡ Some old
  pub objects : b.store.objects ≡ replaced n (λ o. slot_written at v o ∷ []) a.store.objects
  pub home : b.store.node ≡ a.store.node
  pub next : b.store.next ≡ a.store.next
  pub node : b.node ≡ a.node
  pub imports : b.imports ≡ a.imports

module _ (a b : Holders) (n at : ℕ) (v old : Value) (w : Wrote a b n at v old) (f : ℕ → ℕ)
    (u : ObjectName → ℕ) (s : IsBalanced a f u) where
  -- the heap is that of the node with the slot written
  pub heap-wrote : map plain b.store.objects
      ≡ change_first (λ x. x.serial == n) (with_writes (one_write at v)) (map plain a.store.objects)
  heap-wrote = ap (map plain) w.objects
      ∙ replaced-change n (slot_written at v) (λ o. refl) (with_writes (one_write at v))
      (λ o. refl) 0 a.store.next a.store.objects s.rising

  -- the slots name the value, and no longer the old one
  pub names-wrote : (o : ObjectName)
      → heap_of (map plain b.store.objects) o + value_of old o
      ≡ heap_of (map plain a.store.objects) o + value_of v o
  names-wrote o =
      let x = heap-changed (map plain a.store.objects) n (with_writes (one_write at v))
      (plain w.object) o
      (stored-plain a.store.objects n ∙ ap (option_map plain) w.there) in
      let y = put-moves w.object.slots at v o in
      let z = ap (λ p. value_of p o) (get_or_from_slice_get w.object.slots at old v w.was) in
      let h = ap (λ l. heap_of l o) heap-wrote in
      omega arith

  -- an object is found as what became of it
  found : (k : ℕ) → find_stored b.store.objects k
      ≡ option_map (become n (slot_written at v) (λ o. refl)) (find_stored a.store.objects k)
  found k = ap (λ l. find_stored l k) w.objects
      ∙ find-become n (slot_written at v) (λ o. refl) a.store.objects k

  -- what was stored is stored
  still-there : (k : ℕ) → IsSome (find_stored a.store.objects k)
      → IsSome (find_stored b.store.objects k)
  still-there k some =
      let x = found_of (find_stored a.store.objects k) some in
      some_of _ _ (found k ∙ ap (option_map (become n (slot_written at v) (λ o. refl))) x.is)

  -- it has the holders that it had
  keeps-held : (o : Kept) → (become n (slot_written at v) (λ o. refl) o).held ≡ o.held
  keeps-held o = go (eqb o.serial n)
    where
      go : (b : Bool) → (cond b (slot_written at v o) o).held ≡ o.held
      go true = refl
      go false = refl

  -- the balance stays, if the value names stored objects
  pub balanced-wrote :
      ((k : ℕ) → 0 < value_of v (object_at a.node k) → IsSome (find_stored a.store.objects k))
      → IsBalanced b f u
  balanced-wrote known = record {
    home = w.home ∙ s.home ∙ sym w.node;
    lender = ap (λ (i : Imported). i.own) w.imports ∙ s.lender ∙ sym w.node;
    held = λ k o is. by_option k o is (find_stored a.store.objects k) refl;
    there = λ k above. still-there k (s.there k above);
    closed = λ k above. still-there k (elim (cases_eq (value_of v (object_at a.node k)) 0) [
      | inl none ↦ s.closed k
          (let x = names-wrote (object_at a.node k) in
          let y = named-plain a.node k a.store.objects in
          let z = named-plain a.node k b.store.objects in
          let h = ap (λ p. named_in p k b.store.objects) w.node in
          omega arith)
      | inr some ↦ known k (omega arith)
    ]);
    rising = subst (λ l. Rising (λ (o : Kept). o.serial) 0 l b.store.next) (sym w.objects)
        (subst (λ m. Rising (λ (o : Kept). o.serial) 0
        (replaced n (λ o. slot_written at v o ∷ []) a.store.objects) m) (sym w.next)
        (rising-replaced n (slot_written at v) (λ o. refl) 0 a.store.next a.store.objects
        s.rising));
    used = λ o away. ap (λ (i : Imported). count_of i.uses o.node o.serial) w.imports
        ∙ s.used o (λ e. away (e ∙ sym w.node));
    positive = subst (λ (i : Imported). IsPositive i.uses) (sym w.imports) s.positive;
  }
    where
      -- what stands in an option is one thing
      one : (p q : Kept) → Some p ≡ Some q → p ≡ q
      one p q e = cc

      -- by whether it was stored
      by_option : (k : ℕ) (o : Kept) → find_stored b.store.objects k ≡ Some o
          → (g : Option Kept) → find_stored a.store.objects k ≡ g → o.held ≡ f k
      by_option k o is None none =
          let e = found k
          ∙ ap (option_map (become n (slot_written at v) (λ o. refl))) none in
          let c : None ≡ Some o = sym e ∙ is in
          absurd (cc)
      by_option k o is (Some x) some =
          let e = found k
          ∙ ap (option_map (become n (slot_written at v) (λ o. refl))) some in
          let same = one o (become n (slot_written at v) (λ o. refl) x) (sym is ∙ e) in
          ap (λ (y : Kept). y.held) same ∙ keeps-held x ∙ s.held k x some

-- a list with nothing set past its end
set_past : {X : Type 0} (xs : List X) (at : ℕ) (v : X) → length xs ≤ at → slice_set xs at v ≡ xs
set_past [] at v past = refl
set_past (x ∷ xs) zero v past = absurd (omega (arith, past))
set_past (x ∷ xs) (suc at) v past = ap (λ l. x ∷ l) (set_past xs at v (omega (arith, past)))

-- where there is no such slot, nothing is written
pub no_slot : (xs : List Kept) (n at : ℕ) (v : Value)
    → ((o : Kept) → find_stored xs n ≡ Some o → length o.slots ≤ at)
    → change_first (λ x. x.serial == n) (with_writes (one_write at v)) (map plain xs) ≡ map plain xs
no_slot [] n at v past = refl
no_slot (x ∷ xs) n at v past = go (eqb x.serial n) refl past (no_slot xs n at v)
  where
    -- by whether it is the first
    go : (b : Bool) → eqb x.serial n ≡ b
        → ((o : Kept) → cond b (Some x) (find_stored xs n) ≡ Some o → length o.slots ≤ at)
        → (((o : Kept) → find_stored xs n ≡ Some o → length o.slots ≤ at)
        → change_first (λ y. y.serial == n) (with_writes (one_write at v)) (map plain xs)
        ≡ map plain xs)
        → cond b (with_writes (one_write at v) (plain x) ∷ map plain xs)
        (plain x ∷ change_first (λ y. y.serial == n) (with_writes (one_write at v)) (map plain xs))
        ≡ map plain (x ∷ xs)
    go true e here later =
        ap (λ l. record { serial = x.serial; class = x.class; slots = l } ∷ map plain xs)
        (set_past x.slots at v (here x refl))
    go false e here later = ap (λ l. plain x ∷ l) (later here)

-- the slot of an object that was there before names came was written
pub wrote_of : (a b : Holders) (d : ObjectName → ℕ) (n at : ℕ) (v old : Value) (store : Objects)
    → (o : Kept) × (find_stored a.store.objects n ≡ Some o) × (at < length o.slots)
    → Came a b d
    → ((o : Kept) → find_stored b.store.objects n ≡ Some o → slice_get o.slots at ≡ Some old)
    → store.objects ≡ replaced n (λ o. slot_written at v o ∷ []) b.store.objects
    → store.node ≡ b.store.node → store.next ≡ b.store.next
    → Wrote b (record b { store = store }) n at v old
wrote_of a b d n at v old store there came before objects home next =
    let found = came.own n there.0 there.1 in
    record {
      object = record there.0 { held = there.0.held + d (object_at a.node n) };
      there = found;
      was = before (record there.0 { held = there.0.held + d (object_at a.node n) }) found;
      objects = objects;
      home = home;
      next = next;
      node = refl;
      imports = refl;
    }
