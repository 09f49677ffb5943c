-- An object is used above 0 times exactly where it is named.
use Rattle.std.proofs.Common.{◌≡◌, ℕ, ◌+◌, ◌<◌, Bool, true, false, cond, List as Listed, [], ◌∷◌}
use Rattle.std.proofs.Common.{◌++◌, ◌↔◌, refl, ap, ◌∙◌, arith, rules, map, sum_by}
use Rattle.std.specs.{Prelude.◌||◌, List.list_any}
use Rattle.std.proofs.lemmas.List.{Sums.sum_by-cons, Folds.list_any-append, Concat.flat_map-append}
use Rattle.do_base.specs.{names.Names.ObjectName, values.Values.objects_of}
use Rattle.do_base.specs.declared.values.value.Value.{Value, the_lemmas, TheVariants.Obj}
use Rattle.do_behave.specs.declared.invocation.Invocation.{Invocation}
use Rattle.do_machine.specs.{declared.node.{Node.Node, Stored.Stored}, State.own}
use Rattle.do_machine.specs.held.{Kept.{is_root, is_held_up}, Refers.{objects_in, state_values}}
use Rattle.do_machine.specs.held.Refers.{invocation_objects, stack_objects, heap_objects}
use Rattle.do_packet.specs.Met.{has_object, same_object}
use Rattle.do_stack.specs.Uses.{names, uses, invocation_values, stack_uses, CountsReferences}
use Rattle.do_stack.specs.Uses.{heap_uses, times, CountsNode, holders, CountsHolders}

-- a count is above 0 exactly where a test passes
abbrev Counts : ℕ → Bool → Type 0
Counts n b = (0 < n) ↔ (b ≡ true)

-- one where a test passes
one : (b : Bool) → Counts (cond b 1 0) b
one true = (λ h. refl, λ h. omega arith)
one false = (λ h. absurd (omega (arith, h)), λ h. absurd (cc))

-- a sum is above 0 exactly where either is
both : (m n : ℕ) (x y : Bool) → Counts m x → Counts n y → Counts (m + n) (x || y)
both m n true y first second = (λ h. refl, λ h. let above = first.1 refl in omega arith)
both m n false y first second = (
  λ h. second.0 (none m h (λ above. absurd (clash (first.0 above)))),
  λ h. let above = second.1 h in omega arith,
)
  where
    -- false is not true
    clash : false ≡ true → ⊥
    clash e = cc

    -- where the first is 0, the second is above 0
    none : (k : ℕ) → 0 < k + n → (0 < k → ⊥) → 0 < n
    none k h empty = omega (arith, h, empty)

-- values are used where one of them names the object
values_count : (o : ObjectName) (vs : Listed Value)
    → Counts (uses o vs) (has_object (objects_in vs) o)
values_count o [] = (λ h. absurd (omega (arith, h)), λ h. absurd (cc))
values_count o (v ∷ vs) =
    let n = sum_by-cons (λ w. cond (names o w) 1 0) v vs in
    let b = list_any-append (same_object o) (objects_of v) (objects_in vs) in
    rw (n, b) (both _ _ _ _ (one (names o v)) (values_count o vs))

-- the values of an invocation name what it names
values_name : (o : ObjectName) (i : Invocation)
    → has_object (objects_in (invocation_values i)) o ≡ has_object (invocation_objects i) o
values_name o i = ap (λ os. has_object os o) (ap (λ os. os ++ objects_in rest) own ∙ split)
  where
    -- the values but for its object
    rest : Listed Value
    rest = i.locals ++ state_values i.state

    -- its object names itself
    own : objects_of (Obj i.object) ≡ i.object ∷ []
    own = search (rules, the_lemmas)

    -- the values name what its locals and its state name
    split : (i.object ∷ objects_in rest) ≡ invocation_objects i
    split = ap (λ os. i.object ∷ os) (flat_map-append objects_of i.locals (state_values i.state))

-- invocations are counted where one of them names the object
pub counts_references : CountsReferences
counts_references [] o = (λ h. absurd (omega (arith, h)), λ h. absurd (cc))
counts_references (i ∷ below) o =
    let n = sum_by-cons (λ j. uses o (invocation_values j)) i below in
    let b = list_any-append (same_object o) (invocation_objects i) (stack_objects below) in
    rw (n, b) (both (uses o (invocation_values i)) (stack_uses o below)
    (has_object (invocation_objects i) o) (has_object (stack_objects below) o)
    (rw (← values_name o i) (values_count o (invocation_values i)))
    (counts_references below o))

-- slots are counted where one of them names the object
heap_count : (o : ObjectName) (heap : Listed Stored)
    → Counts (heap_uses o heap) (has_object (heap_objects heap) o)
heap_count o [] = (λ h. absurd (omega (arith, h)), λ h. absurd (cc))
heap_count o (x ∷ heap) =
    let n = sum_by-cons (λ y. uses o y.slots) x heap in
    let b = list_any-append (same_object o) (objects_in x.slots) (heap_objects heap) in
    rw (n, b) (both (uses o x.slots) (heap_uses o heap) (has_object (objects_in x.slots) o)
    (has_object (heap_objects heap) o) (values_count o x.slots) (heap_count o heap))

-- what passes a test is counted where something does
tests_count : {X : Type 0} (test : X → Bool) (xs : Listed X)
    → Counts (sum_by (λ x. cond (test x) 1 0) xs) (list_any test xs)
tests_count test [] = (λ h. absurd (omega (arith, h)), λ h. absurd (cc))
tests_count test (x ∷ xs) =
    let n = sum_by-cons (λ y. cond (test y) 1 0) x xs in
    rw n (both (cond (test x) 1 0) (sum_by (λ y. cond (test y) 1 0) xs) (test x)
    (list_any test xs) (one (test x)) (tests_count test xs))

-- objects in a row are counted where one of them is the object
objects_count : (o : ObjectName) (os : Listed ObjectName) → Counts (times o os) (has_object os o)
objects_count o os = tests_count (same_object o) os

-- a node's slots, invocations, lends and asks are counted where it refers to the object
pub counts_node : CountsNode
counts_node n o =
    let lent = map (λ l. l.object) n.lent in
    let asked = map (λ w. w.object) n.asked in
    let held = heap_objects n.heap ++ stack_objects n.stack in
    let first = list_any-append (same_object o) (heap_objects n.heap) (stack_objects n.stack) in
    let second = list_any-append (same_object o) held lent in
    let third = list_any-append (same_object o) (held ++ lent) asked in
    rw (third, second, first) (both _ _ _ _
    (both _ _ _ _ (both _ _ _ _ (heap_count o n.heap) (counts_references n.stack o))
    (objects_count o lent)) (objects_count o asked))

-- the root, the invocations and the entries are counted where the object is held up
holders_count : (entry : ℕ → ℕ → Bool) (n : Node) (serial : ℕ)
    → Counts (holders entry n serial) (is_held_up entry n serial)
holders_count entry n serial =
    both _ _ _ _
    (both _ _ _ _ (one (is_root n serial)) (counts_references n.stack (own n serial)))
    (tests_count (λ peer. entry peer serial) n.open_to)

-- an own object is counted where it stays
pub counts_holders : CountsHolders
counts_holders entry n heap x =
    both _ _ _ _ (holders_count entry n x.serial) (heap_count (own n x.serial) heap)
