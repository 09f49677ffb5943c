-- To what a part refers, by what it counts.
use Rattle.std.specs.FinMap as map
use Rattle.std.proofs.Common.{◌≡◌, ◌↔◌, ℕ, ◌+◌, ◌<◌, ◌++◌, ◌==◌, ◌&&◌, ◌||◌, Bool, true, false}
use Rattle.std.proofs.Common.{cond, List as Listed, [], ◌∷◌, count_by, map as each, refl, sym, ap}
use Rattle.std.{proofs.Common.{◌∙◌, arith}, specs.{Prelude.nat_lt, List.list_any}}
use Rattle.std.proofs.lemmas.{Bool.Decides.nat_tests, List.Sums.sum_by-cons}
use Rattle.do_base.specs.names.Names.{ObjectName}
use Rattle.do_behave.specs.declared.invocation.Invocation.{Invocation}
use Rattle.do_export.specs.Counts.{IsPositive, count_of}
use Rattle.do_import.specs.{Imported.{IsTied, LendMap, lends_of}, Asked.{AskMap, asks_of}}
use Rattle.do_import.proofs.RowCounts.{in_front}
use Rattle.do_leaving.specs.Counted.{Counted, IsUsed, times}
use Rattle.do_leaving.proofs.{SlotNames.{times-append, values_times}, StoreLookups.in_find}
use Rattle.do_machine.specs.{Objects.object_at, State.is_open, declared.node.{Lend.Lend, Node.Node}}
use Rattle.do_machine.specs.declared.node.{Stored.Stored, Wanted.Wanted}
use Rattle.do_machine.specs.held.Kept.{is_held_up, is_root}
use Rattle.do_machine.specs.held.Refers.{heap_objects, invocation_objects, node_objects, objects_in}
use Rattle.do_machine.specs.{held.Refers.{stack_objects, state_values}, lend.Asking.wanted_lt}
use Rattle.do_network.specs.Own.{is_counted}
use Rattle.do_packet.specs.Met.{same_object}
use Rattle.do_stack.specs.Uses.{invocation_values}
use Rattle.do_part.specs.{Names.{heap_of, stack_of, values_of}, Seen.{ask_of, lend_lt, lend_of}}
use Rattle.do_part.specs.{Seen.own_of, Sound.{IsSound, entries, holders, uses}}
use Rattle.do_part.specs.declared.part.Part.TheInside.{Inside}
use Rattle.do_export.proofs.Counting.{at}
use Rattle.do_part.proofs.{Naming.of-Obj, Sequences.of-invocation}
use Rattle.do_part.proofs.{HeldRows.{any_counted, has-count, held_has}, InsertedCounts.count-all}
use Rattle.do_part.proofs.LinkRows.{asked_list, lent_list}

-- ---- names in invocations and slots

-- an invocation names an object as often as that is among its objects
invocation-times : (o : ObjectName) (i : Invocation)
    → values_of (invocation_values i) o ≡ times o (invocation_objects i)
invocation-times o i =
    let a = of-invocation i o in
    let b = of-Obj i.object o in
    let c = turned i.object o in
    let d = values_times o.node o.serial i.locals in
    let e = values_times o.node o.serial (state_values i.state) in
    let f = in_front (same_object o) i.object
    (objects_in i.locals ++ objects_in (state_values i.state)) in
    let g = times-append o (objects_in i.locals) (objects_in (state_values i.state)) in
    omega (arith, a, b, c, d, e, f, g)
  where
    turned : (x o : ObjectName) → at x.node x.serial o.node o.serial
        ≡ cond (same_object o x) 1 0
    turned x o = grind (arith, nat_tests)

-- so do all invocations
stack-times : (o : ObjectName) (stack : Listed Invocation)
    → stack_of stack o ≡ times o (stack_objects stack)
stack-times o [] = refl
stack-times o (i ∷ below) =
    let a = sum_by-cons (λ (j : Invocation). values_of (invocation_values j) o) i below in
    let b = times-append o (invocation_objects i) (stack_objects below) in
    let c = invocation-times o i in
    let d = stack-times o below in
    omega (arith, a, b, c, d)

-- and the slots of all objects
heap-times : (o : ObjectName) (heap : Listed Stored)
    → heap_of heap o ≡ times o (heap_objects heap)
heap-times o [] = refl
heap-times o (x ∷ heap) =
    let a = sum_by-cons (λ (y : Stored). values_of y.slots o) x heap in
    let b = times-append o (objects_in x.slots) (heap_objects heap) in
    let c = values_times o.node o.serial x.slots in
    let d = heap-times o heap in
    omega (arith, a, b, c, d)

-- ---- lends and asks

-- as many pass of what is mapped
count-map : {X Y : Type 0} (f : X → Y) (p : Y → Bool) (xs : Listed X)
    → count_by p (each f xs) ≡ count_by (λ x. p (f x)) xs
count-map f p [] = refl
count-map f p (x ∷ xs) =
    let a = in_front p (f x) (each f xs) in
    let b = in_front (λ y. p (f y)) x xs in
    let c = count-map f p xs in
    omega (arith, a, b, c)

-- lends are of an object as often as it is among theirs
pub lent-times : (o : ObjectName) (lends : LendMap)
    → times o (each (λ l. l.object) (lent_list lends)) ≡ lends_of lends (o.node, o.serial)
lent-times o lends =
    count-map (λ (l : Lend). l.object) (same_object o) (lent_list lends)
    ∙ count-all lend_lt (λ l. same_object o l.object) (each lend_of (map.entries lends))
    ∙ count-map lend_of (λ l. same_object o l.object) (map.entries lends)
    ∙ sym (count-map (λ e. e.1) (same_object o) (map.entries lends))

-- and so are asks
pub asked-times : (o : ObjectName) (asks : AskMap)
    → times o (each (λ w. w.object) (asked_list asks)) ≡ asks_of asks (o.node, o.serial)
asked-times o asks =
    count-map (λ (w : Wanted). w.object) (same_object o) (asked_list asks)
    ∙ count-all wanted_lt (λ w. same_object o w.object) (each ask_of (map.entries asks))
    ∙ count-map ask_of (λ w. same_object o w.object) (map.entries asks)
    ∙ sym (count-map (λ e. e.0) (λ k. (o.node == k.0.0) && (o.serial == k.1.1))
    (map.entries asks))

-- ---- the whole

module _ (i : Inside) (s : IsSound i) (tied : IsTied i.holders.imports)
    (positive : IsPositive i.exports.counts) where
  -- the node that the part has
  abbrev n : Node
  n = (own_of i).node

  -- a part names an object as often as its node refers to it
  pub uses-times : (o : ObjectName) → uses i o ≡ times o (node_objects n)
  uses-times o =
      let heap = heap_objects n.heap in
      let stack = stack_objects n.stack in
      let lent = each (λ (l : Lend). l.object) n.lent in
      let asked = each (λ (w : Wanted). w.object) n.asked in
      let a = stack-times o n.stack in
      let b = heap-times o n.heap in
      let c = lent-times o i.holders.imports.lends in
      let d = asked-times o i.holders.imports.asks in
      let e = tied.names.counted (o.node, o.serial) in
      let f = times-append o (heap ++ stack ++ lent) asked in
      let g = times-append o (heap ++ stack) lent in
      let h = times-append o heap stack in
      omega (arith, a, b, c, d, e, f, g, h)

  -- who has an entry is counted as such
  entry-is : (serial peer : ℕ) → map.contains_key i.exports.counts (peer, serial)
      ≡ is_counted (own_of i) peer serial
  entry-is serial peer = go (map.contains_key i.exports.counts (peer, serial)) refl
      (has-count i.exports.counts positive (peer, serial))
    where
      and-false : (a : Bool) → false ≡ (a && false)
      and-false true = refl
      and-false false = refl

      go : (b : Bool) → map.contains_key i.exports.counts (peer, serial) ≡ b
          → map.contains_key i.exports.counts (peer, serial)
          ≡ nat_lt 0 (count_of i.exports.counts peer serial)
          → map.contains_key i.exports.counts (peer, serial) ≡ is_counted (own_of i) peer serial
      go true e above = e ∙ sym (λ j. s.links.ends (peer, serial) e j && (sym above ∙ e) j)
      go false e above = e ∙ and-false (is_open n peer)
          ∙ ap (λ b. is_open n peer && b) (sym e ∙ above)

  -- an own object has holders just where it is held up
  held_up : (serial : ℕ) → nat_lt 0 (holders (own_of i) serial)
      ≡ is_held_up (is_counted (own_of i)) n serial
  held_up serial =
      sum (cond (is_root n serial) 1 0) (stack_of n.stack (object_at n.port serial))
      (entries (own_of i) serial)
      ∙ (λ j. one (is_root n serial) j || (ap (nat_lt 0) (stack-times (object_at n.port serial)
      n.stack) ∙ any_counted (same_object (object_at n.port serial)) (stack_objects n.stack)) j
      || (any_counted (λ peer. map.contains_key i.exports.counts (peer, serial)) n.open_to
      ∙ λ k. list_any (λ peer. entry-is serial peer k) n.open_to) j)
    where
      sum : (a b c : ℕ) → nat_lt 0 (a + b + c) ≡ (nat_lt 0 a || nat_lt 0 b || nat_lt 0 c)
      sum a b c = grind (arith, nat_tests)

      one : (b : Bool) → nat_lt 0 (cond b 1 0) ≡ b
      one true = refl
      one false = refl

  -- the store and the imports count what the node says
  pub counted : ((o : ObjectName) → count_of i.holders.imports.uses o.node o.serial
      ≡ times o (node_objects n) → IsUsed n i.holders.imports.uses o)
      → Counted (is_counted (own_of i)) n i.holders.store i.holders.imports
  counted used = record {
    port = s.balanced.home;
    heap = refl;
    holders = λ o a.
        let found = in_find 0 i.holders.store.next i.holders.store.objects o s.balanced.rising a in
        above o.held (is_held_up (is_counted (own_of i)) n o.serial)
        (ap (nat_lt 0) (s.balanced.held o.serial o found) ∙ held_up o.serial);
    held = refl;
    abroad = λ o h. s.links.held (o.node, o.serial)
        (sym (held_has i.holders.imports.received (o.node, o.serial)) ∙ h);
    uses = λ o away. used o (s.balanced.used o away ∙ uses-times o);
  }
    where
      above : (k : ℕ) (b : Bool) → nat_lt 0 k ≡ b → (0 < k) ↔ (b ≡ true)
      above k b e = (λ h. sym e ∙ is k h, λ h. of k (e ∙ h))
        where
          is : (k : ℕ) → 0 < k → nat_lt 0 k ≡ true
          is k h = grind (arith, nat_tests)

          of : (k : ℕ) → nat_lt 0 k ≡ true → 0 < k
          of k h = grind (arith, nat_tests)
