-- Objects that were made blank and then filled are as if they had been made at once.
use Rattle.std.proofs.Common.{◌≡◌, ℕ, ◌+◌, ◌≤◌, zero, suc, Bool, true, false, cond, eqb}
use Rattle.std.proofs.Common.{List as Listed, [], ◌∷◌, ◌++◌, Some, None, IsSome, map, refl, sym, ap}
use Rattle.std.proofs.Common.{◌∙◌, arith, rules, length, replicate, eq-eqb, ne_eqb}
use Rattle.std.{proofs.lemmas.List.append_assoc, specs.Prelude.{slice_set, ◌==◌}}
use Rattle.do_base.specs.{names.Names.ObjectName, declared.values.value.Value.{Value, the_lemmas}}
use Rattle.do_base.specs.declared.values.value.Value.TheVariants.{Nil}
use Rattle.do_behave.specs.InPlace.{written}
use Rattle.do_machine.specs.{Lists.change_first, State.stored, declared.node.Node.Node}
use Rattle.do_machine.specs.{declared.node.Stored.Stored, run.Changes.{with_slots, with_writes}}
use Rattle.do_machine.specs.run.Fresh.{with_objects, with_serials}
use Rattle.do_network.specs.Own.{Own}
use Rattle.do_packet.specs.declared.receipt.Made.{Made}
use Rattle.do_part.specs.Filled.{blank_of, filled, made_values, writes_from}
use Rattle.do_part.specs.Names.{values_of, size_of, sizes_of}
use Rattle.do_part.proofs.{Exchanging.of-append, Sequences.{size-append, size-cons}}

-- values behind the first are written as if it were not there
written-behind : (x : Value) (xs vs : Listed Value) (at : ℕ)
    → written (x ∷ xs) (writes_from (suc at) vs) ≡ (x ∷ written xs (writes_from at vs))
written-behind x xs [] at = refl
written-behind x xs (v ∷ vs) at = written-behind x (slice_set xs at v) vs (suc at)

-- nils are written over
written-over : (vs : Listed Value)
    → written (replicate (length vs) Nil) (writes_from 0 vs) ≡ vs
written-over [] = refl
written-over (v ∷ vs) = written-behind v (replicate (length vs) Nil) vs 0
    ∙ ap (λ l. v ∷ l) (written-over vs)

-- what is not stored in front is changed behind
change-behind : (n : ℕ) (g : Stored → Stored) (xs ys : Listed Stored) → stored n xs ≡ None
    → change_first (λ x. x.serial == n) g (xs ++ ys)
    ≡ xs ++ change_first (λ x. x.serial == n) g ys
change-behind n g [] ys none = refl
change-behind n g (x ∷ xs) ys none = go (eqb x.serial n) none (change-behind n g xs ys)
  where
    go : (b : Bool) → cond b (Some x) (stored n xs) ≡ None
        → (stored n xs ≡ None → change_first (λ y. y.serial == n) g (xs ++ ys)
        ≡ xs ++ change_first (λ y. y.serial == n) g ys)
        → cond b (g x ∷ (xs ++ ys)) (x ∷ change_first (λ y. y.serial == n) g (xs ++ ys))
        ≡ (x ∷ (xs ++ change_first (λ y. y.serial == n) g ys))
    go true is later = absurd (cc)
    go false is later = ap (λ l. x ∷ l) (later is)

-- an object as it is stored
abbrev as_stored : ℕ → Made → Stored
as_stored serial m = record { serial = serial; class = m.class; slots = m.slots }

-- the first of new objects is filled
fill-first : (n : ℕ) (m : Made) (xs ys : Listed Stored) → stored n xs ≡ None
    → change_first (λ x. x.serial == n) (with_writes (writes_from 0 m.slots))
    (xs ++ as_stored n (blank_of m) ∷ ys) ≡ xs ++ as_stored n m ∷ ys
fill-first n m xs ys none =
    change-behind n (with_writes (writes_from 0 m.slots)) xs (as_stored n (blank_of m) ∷ ys) none
    ∙ ap (λ l. xs ++ l) (here (eqb n n) (eq-eqb n n refl))
  where
    -- it is the one of its serial
    here : (b : Bool) → b ≡ true
        → cond b (with_writes (writes_from 0 m.slots) (as_stored n (blank_of m)) ∷ ys)
        (as_stored n (blank_of m)
        ∷ change_first (λ x. x.serial == n) (with_writes (writes_from 0 m.slots)) ys)
        ≡ (as_stored n m ∷ ys)
    here true is = ap (λ l. record { serial = n; class = m.class; slots = l } ∷ ys)
        (written-over m.slots)
    here false is = absurd (cc)

-- no serial from the next one on is stored
abbrev pub IsFree : ℕ → Listed Stored → Type 0
IsFree next heap = (k : ℕ) → next ≤ k → stored k heap ≡ None

-- so it is with the next object
free-more : (next : ℕ) (heap : Listed Stored) (m : Made) → IsFree next heap
    → IsFree (next + 1) (heap ++ as_stored next m ∷ [])
free-more next heap m free k above = go heap (free k (omega (arith, above)))
  where
    go : (xs : Listed Stored) → stored k xs ≡ None
        → stored k (xs ++ as_stored next m ∷ []) ≡ None
    go [] none = ap (λ b. cond b (Some (as_stored next m)) None)
        (ne_eqb next k (λ e. absurd (omega (arith, e, above))))
    go (x ∷ xs) none = by (eqb x.serial k) none (go xs)
      where
        by : (b : Bool) → cond b (Some x) (stored k xs) ≡ None
            → (stored k xs ≡ None → stored k (xs ++ as_stored next m ∷ []) ≡ None)
            → cond b (Some x) (stored k (xs ++ as_stored next m ∷ [])) ≡ None
        by true is later = absurd (cc)
        by false is later = later is

-- without objects nothing changes
pub objects-none : (n : Node) → with_objects [] n ≡ n
objects-none n = λ j. record n { heap = none n.heap j; next_serial = zero_more j }
  where
    none : (xs : Listed Stored) → xs ++ [] ≡ xs
    none [] = refl
    none (x ∷ xs) = ap (λ l. x ∷ l) (none xs)

    zero_more : n.next_serial + 0 ≡ n.next_serial
    zero_more = omega arith

-- so what a node has of its own is as it was
pub own-none : (own : Own) (copies : Listed Made) → copies ≡ []
    → own ≡ record own { node = with_objects copies own.node }
own-none own copies none =
    sym (ap (λ l. record own { node = with_objects l own.node }) none
    ∙ ap (λ n. record own { node = n }) (objects-none own.node))

pub ruleset none_steps = (own-none)

-- the first object and then the others
pub objects-more : (m : Made) (ms : Listed Made) (n : Node)
    → with_objects ms (with_objects (m ∷ []) n) ≡ with_objects (m ∷ ms) n
objects-more m ms n = λ j. record n { heap = heap j; next_serial = next j }
  where
    next : (n.next_serial + 1) + length ms ≡ n.next_serial + length (m ∷ ms)
    next = omega arith

    one : n.next_serial + 1 ≡ suc n.next_serial
    one = omega arith

    heap : (n.heap ++ as_stored n.next_serial m ∷ []) ++ with_serials (n.next_serial + 1) ms
        ≡ n.heap ++ with_serials n.next_serial (m ∷ ms)
    heap = append_assoc n.heap (as_stored n.next_serial m ∷ [])
        (with_serials (n.next_serial + 1) ms)
        ∙ ap (λ s. n.heap ++ as_stored n.next_serial m ∷ with_serials s ms) one

-- blank objects that are filled are as if they had been made so
pub filled-objects : (ms : Listed Made) (n : Node) → IsFree n.next_serial n.heap
    → filled n.next_serial ms (with_objects (map blank_of ms) n) ≡ with_objects ms n
filled-objects [] n free = refl
filled-objects (m ∷ ms) n free =
    ap (filled (suc n.next_serial) ms) first
    ∙ ap (λ s. filled s ms (with_objects (map blank_of ms) (with_objects (m ∷ []) n))) one
    ∙ filled-objects ms (with_objects (m ∷ []) n) (free-more n.next_serial n.heap m free)
    ∙ objects-more m ms n
  where
    one : suc n.next_serial ≡ n.next_serial + 1
    one = omega arith

    -- the first is filled
    first : with_slots n.next_serial (writes_from 0 m.slots)
        (with_objects (blank_of m ∷ map blank_of ms) n)
        ≡ with_objects (map blank_of ms) (with_objects (m ∷ []) n)
    first = (λ j. record n {
      heap = fill-first n.next_serial m n.heap (with_serials (suc n.next_serial) (map blank_of ms))
          (free n.next_serial (omega arith)) j;
      next_serial = n.next_serial + length (blank_of m ∷ map blank_of ms);
    }) ∙ sym (objects-more m (map blank_of ms) n)

-- what is stored once objects are made is stored once they are made blank
pub blank-stored : (k : ℕ) (ms : Listed Made) (n : Node)
    → IsSome (stored k (with_objects ms n).heap)
    → IsSome (stored k (with_objects (map blank_of ms) n).heap)
blank-stored k ms n some = in_front n.heap some
  where
    -- among the new ones
    new : (serial : ℕ) (rest : Listed Made) → IsSome (stored k (with_serials serial rest))
        → IsSome (stored k (with_serials serial (map blank_of rest)))
    new serial [] there = there
    new serial (r ∷ rest) there = go (eqb serial k) there (new (suc serial) rest)
      where
        go : (b : Bool)
            → IsSome (cond b (Some (as_stored serial r))
            (stored k (with_serials (suc serial) rest)))
            → (IsSome (stored k (with_serials (suc serial) rest))
            → IsSome (stored k (with_serials (suc serial) (map blank_of rest))))
            → IsSome (cond b (Some (as_stored serial (blank_of r)))
            (stored k (with_serials (suc serial) (map blank_of rest))))
        go true is later = refl
        go false is later = later is

    -- or among those that there were
    in_front : (xs : Listed Stored) → IsSome (stored k (xs ++ with_serials n.next_serial ms))
        → IsSome (stored k (xs ++ with_serials n.next_serial (map blank_of ms)))
    in_front [] there = new n.next_serial ms there
    in_front (x ∷ xs) there = go (eqb x.serial k) there (in_front xs)
      where
        go : (b : Bool)
            → IsSome (cond b (Some x) (stored k (xs ++ with_serials n.next_serial ms)))
            → (IsSome (stored k (xs ++ with_serials n.next_serial ms))
            → IsSome (stored k (xs ++ with_serials n.next_serial (map blank_of ms))))
            → IsSome (cond b (Some x)
            (stored k (xs ++ with_serials n.next_serial (map blank_of ms))))
        go true is later = refl
        go false is later = later is

-- the names in the slots of an object and of those behind it
pub made-cons : (m : Made) (ms : Listed Made)
    → sizes_of (made_values (m ∷ ms)) ≡ sizes_of m.slots + sizes_of (made_values ms)
made-cons m ms = size-append m.slots (made_values ms)

-- what the slots of an object and of those behind it name
pub made-of-cons : (m : Made) (ms : Listed Made) (o : ObjectName)
    → values_of (made_values (m ∷ ms)) o ≡ values_of m.slots o + values_of (made_values ms) o
made-of-cons m ms o = of-append m.slots (made_values ms) o

-- blank objects name nothing
pub blank-size : (ms : Listed Made) → sizes_of (made_values (map blank_of ms)) ≡ 0
blank-size [] = refl
blank-size (m ∷ ms) =
    let a = made-cons (blank_of m) (map blank_of ms) in
    let b = blank-size ms in
    let c = nil-size (length m.slots) in
    omega (arith, a, b, c)
  where
    -- nil names nothing
    nil-size : (k : ℕ) → sizes_of (replicate k Nil) ≡ 0
    nil-size zero = refl
    nil-size (suc k) =
        let a = size-cons Nil (replicate k Nil) in
        let e : size_of Nil ≡ 0 = search (rules, the_lemmas) in
        let b = nil-size k in
        omega (arith, a, e, b)
