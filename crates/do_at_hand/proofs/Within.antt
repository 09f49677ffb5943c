-- Nodes whose slots and invocations name only objects that pass a test, and nodes that name only
-- what is at hand.
use Rattle.std.proofs.Common.{◌≡◌, ◌==◌, ◌+◌, ◌<◌, ◌++◌, ℕ, zero, suc, Bool, true, false, cond}
use Rattle.std.proofs.Common.{List, [], ◌∷◌, length, map, refl, ap, subst, ◌∙◌, arith}
use Rattle.std.specs.{Prelude.{None, Option, Some, is_some, replicate, ◌-◌}, List.AllByRecursion}
use Rattle.std.proofs.lemmas.Bool.Decides.{nat_tests}
use Rattle.do_base.specs.{names.Names.ObjectName, declared.values.value.Value.Value}
use Rattle.do_base.specs.declared.values.value.Value.TheVariants.{Nil}
use Rattle.do_class.specs.{Class.Class, Table.slots_of, declared.ids.ClassId.ClassId}
use Rattle.do_class.specs.declared.ids.{MethodId.MethodId, Slot.Slot}
use Rattle.do_packet.specs.{declared.receipt.Made.Made, Met.has_object}
use Rattle.do_behave.specs.declared.invocation.{Invocation.Invocation, Reason.Reason}
use Rattle.do_machine.specs.{declared.node.{Node.Node, Stored.Stored}, Objects.object_at}
use Rattle.do_machine.specs.State.{is_known, is_own, own, stored}
use Rattle.do_machine.specs.held.Refers.{heap_objects, invocation_objects, objects_in}
use Rattle.do_machine.specs.held.Refers.{stack_objects, state_values}
use Rattle.do_machine.specs.run.Fresh.{blank, fresh, with_objects, with_serials}
use Rattle.do_facts.proofs.EachOfLists.{each_former, each_joined, each_latter, each_replicated}
use Rattle.do_facts.proofs.EachOfLists.{each_weaker}
use Rattle.do_at_hand.{specs.AtHand.{in_use, is_at_hand}, proofs.Shown.{AllName, AllPass, Names}}
use Rattle.do_at_hand.proofs.Shown.{Passes, flat, from_among, nil, of_among, unflat, weaker}

module _ (H : ObjectName → Bool) where
  -- an invocation, its locals and its answer name only such objects
  pub record InvocationWithin (i : Invocation) : Type 0 where
    pub object : H i.object ≡ true
    pub locals : AllName H i.locals
    pub answer : AllName H (state_values i.state)

  -- a root is such an object
  abbrev pub RootWithin : ℕ → Option ℕ → Type 0
  RootWithin port None = Unit {0}
  RootWithin port (Some s) = H (object_at port s) ≡ true

  -- so are the objects that slots and invocations name, and the root
  pub record NodeWithin (n : Node) : Type 0 where
    pub heap : AllByRecursion (λ x. AllName H x.slots) n.heap
    pub stack : AllByRecursion InvocationWithin n.stack
    pub root : RootWithin n.port n.root

  -- what the slots of a heap name
  flat_heap : (xs : List Stored) → AllByRecursion (λ x. AllName H x.slots) xs →
      AllPass H (heap_objects xs)
  flat_heap [] h = tt
  flat_heap (x ∷ xs) h =
      each_joined (Passes H) (objects_in x.slots) (heap_objects xs) (flat H x.slots h.0)
      (flat_heap xs h.1)

  -- and back
  pub unflat_heap : (xs : List Stored) → AllPass H (heap_objects xs) →
      AllByRecursion (λ x. AllName H x.slots) xs
  unflat_heap [] h = tt
  unflat_heap (x ∷ xs) h = (
    unflat H x.slots (each_former (Passes H) (objects_in x.slots) (heap_objects xs) h),
    unflat_heap xs (each_latter (Passes H) (objects_in x.slots) (heap_objects xs) h),
  )

  -- what invocations name
  flat_stack : (is : List Invocation) → AllByRecursion InvocationWithin is →
      AllPass H (stack_objects is)
  flat_stack [] h = tt
  flat_stack (i ∷ is) h =
      each_joined (Passes H) (invocation_objects i) (stack_objects is) (
        h.0.object,
        each_joined (Passes H) (objects_in i.locals) (objects_in (state_values i.state))
            (flat H i.locals h.0.locals) (flat H (state_values i.state) h.0.answer),
      )
      (flat_stack is h.1)

  -- and back
  pub unflat_stack : (is : List Invocation) → AllPass H (stack_objects is) →
      AllByRecursion InvocationWithin is
  unflat_stack [] h = tt
  unflat_stack (i ∷ is) h =
      let here = each_former (Passes H) (invocation_objects i) (stack_objects is) h in
      let locals = objects_in i.locals in
      let answer = objects_in (state_values i.state) in (
        record {
          object = here.0;
          locals = unflat H i.locals (each_former (Passes H) locals answer here.1);
          answer = unflat H (state_values i.state) (each_latter (Passes H) locals answer here.1);
        },
        unflat_stack is (each_latter (Passes H) (invocation_objects i) (stack_objects is) h),
      )

  -- each object that is named so passes
  pub passes_of : (n : Node) → NodeWithin n → (o : ObjectName) →
      has_object (in_use n) o ≡ true → H o ≡ true
  passes_of n h =
      of_among H (in_use n)
      (each_joined (Passes H) (heap_objects n.heap) (stack_objects n.stack)
      (flat_heap n.heap h.heap) (flat_stack n.stack h.stack))

  -- and back
  pub of_passes : (n : Node) → RootWithin n.port n.root →
      ((o : ObjectName) → has_object (in_use n) o ≡ true → H o ≡ true) → NodeWithin n
  of_passes n root h =
      let all = from_among H (in_use n) h in
      record {
        heap = unflat_heap n.heap
            (each_former (Passes H) (heap_objects n.heap) (stack_objects n.stack) all);
        stack = unflat_stack n.stack
            (each_latter (Passes H) (heap_objects n.heap) (stack_objects n.stack) all);
        root = root;
      }

  -- an invocation as it begins
  pub begins : (o : ObjectName) (method : MethodId) (reason : Reason) (values : List Value) →
      H o ≡ true → AllName H values → InvocationWithin (fresh o method reason values)
  begins o method reason values own h = record {
    object = own;
    locals = each_joined (Names H) values (replicate (16 - length values) Nil) h
        (each_replicated (Names H) (16 - length values) Nil (nil H));
    answer = tt;
  }

  -- objects under serials
  pub numbered : (serial : ℕ) (new : List Made) → AllByRecursion (λ m. AllName H m.slots) new →
      AllByRecursion (λ x. AllName H x.slots) (with_serials serial new)
  numbered serial [] h = tt
  numbered serial (m ∷ ms) h = (h.0, numbered (suc serial) ms h.1)

  -- nil slots
  nils : (slots : List Slot) → AllName H (map (λ s. Nil) slots)
  nils [] = tt
  nils (s ∷ slots) = (nil H, nils slots)

  -- an object as it is made
  pub blank_within : (table : List Class) (class : ClassId) → AllName H (blank table class).slots
  blank_within table class = go (slots_of table class)
    where
      go : (found : Option (List Slot)) →
          AllName H (elim found [ None ↦ [] | Some slots ↦ map (λ s. Nil) slots ])
      go None = tt
      go (Some slots) = nils slots

-- what passes a test passes a weaker one
pub node_weaker : (H K : ObjectName → Bool) → ((o : ObjectName) → H o ≡ true → K o ≡ true) →
    (n : Node) → NodeWithin H n → NodeWithin K n
node_weaker H K f n h = record {
  heap = each_weaker (λ x. AllName H x.slots) (λ x. AllName K x.slots)
      (λ x. weaker H K f x.slots) n.heap h.heap;
  stack = each_weaker (InvocationWithin H) (InvocationWithin K)
      (λ i k. record {
        object = f i.object k.object;
        locals = weaker H K f i.locals k.locals;
        answer = weaker H K f (state_values i.state) k.answer;
      }) n.stack h.stack;
  root = go n.root h.root;
}
  where
    go : (r : Option ℕ) → RootWithin H n.port r → RootWithin K n.port r
    go None k = tt
    go (Some s) k = f (object_at n.port s) k

-- a node names only what is at hand
abbrev pub AtHand : Node → Type 0
AtHand n = NodeWithin (is_at_hand n) n

-- ---- what is at hand

-- an own object that is stored
pub own_hand : (n : Node) (o : ObjectName) → is_own n o ≡ true →
    is_some (stored o.serial n.heap) ≡ true → is_at_hand n o ≡ true
own_hand n o mine there =
    ap (λ b. cond b (is_some (stored o.serial n.heap)) (is_known n o)) mine ∙ there

-- a foreign object that is known
pub foreign_hand : (n : Node) (o : ObjectName) → is_own n o ≡ false → is_known n o ≡ true →
    is_at_hand n o ≡ true
foreign_hand n o other known =
    ap (λ b. cond b (is_some (stored o.serial n.heap)) (is_known n o)) other ∙ known

-- an object at a node's port is its own
pub own_is : (n : Node) (s : ℕ) → is_own n (own n s) ≡ true
own_is n s = grind (arith, nat_tests)

-- what is at hand is so at a node that stores and knows as much
pub still_at_hand : (n m : Node) → m.port ≡ n.port →
    ((k : ℕ) → is_some (stored k n.heap) ≡ true → is_some (stored k m.heap) ≡ true) →
    ((o : ObjectName) → is_own n o ≡ false → is_known n o ≡ true → is_known m o ≡ true) →
    (o : ObjectName) → is_at_hand n o ≡ true → is_at_hand m o ≡ true
still_at_hand n m port stores knows o h = go (is_own n o) refl h
  where
    same : is_own m o ≡ is_own n o
    same = ap (λ p. o.node == p) port

    go : (b : Bool) → is_own n o ≡ b →
        cond b (is_some (stored o.serial n.heap)) (is_known n o) ≡ true → is_at_hand m o ≡ true
    go true e k = own_hand m o (same ∙ e) (stores o.serial k)
    go false e k = foreign_hand m o (same ∙ e) (knows o e k)

-- an object of a list is stored in the list and more
pub stored_first : (k : ℕ) (xs ys : List Stored) → is_some (stored k xs) ≡ true →
    is_some (stored k (xs ++ ys)) ≡ true
stored_first k [] ys h = absurd (cc)
stored_first k (x ∷ xs) ys h = go (x.serial == k) (stored_first k xs ys) h
  where
    go : (b : Bool) →
        (is_some (stored k xs) ≡ true → is_some (stored k (xs ++ ys)) ≡ true) →
        is_some (cond b (Some x) (stored k xs)) ≡ true →
        is_some (cond b (Some x) (stored k (xs ++ ys))) ≡ true
    go true rest e = refl
    go false rest e = rest e

-- so is one behind it
pub stored_behind : (k : ℕ) (xs ys : List Stored) → is_some (stored k ys) ≡ true →
    is_some (stored k (xs ++ ys)) ≡ true
stored_behind k [] ys h = h
stored_behind k (x ∷ xs) ys h = go (x.serial == k) (stored_behind k xs ys h)
  where
    go : (b : Bool) → is_some (stored k (xs ++ ys)) ≡ true →
        is_some (cond b (Some x) (stored k (xs ++ ys))) ≡ true
    go true rest = refl
    go false rest = rest

-- the first new object is stored under its serial
pub stored_one : (serial : ℕ) (m : Made) (ms : List Made) →
    is_some (stored serial (with_serials serial (m ∷ ms))) ≡ true
stored_one serial m ms = grind (arith, nat_tests)

-- so is each
pub stored_new : (k serial : ℕ) (new : List Made) → k < length new →
    is_some (stored (serial + k) (with_serials serial new)) ≡ true
stored_new k serial [] h = absurd (omega (arith, h))
stored_new zero serial (m ∷ ms) h = grind (arith, nat_tests)
stored_new (suc k) serial (m ∷ ms) h =
    go (serial == serial + suc k)
    (subst (λ j. is_some (stored j (with_serials (suc serial) ms)) ≡ true) (omega arith)
    (stored_new k (suc serial) ms (omega (arith, h))))
  where
    go : (b : Bool) → is_some (stored (serial + suc k) (with_serials (suc serial) ms)) ≡ true →
        is_some (cond b (Some (record { serial = serial; class = m.class; slots = m.slots }))
        (stored (serial + suc k) (with_serials (suc serial) ms))) ≡ true
    go true rest = refl
    go false rest = rest

-- what is at hand is so with new objects
pub more_at_hand : (n : Node) (new : List Made) (o : ObjectName) → is_at_hand n o ≡ true →
    is_at_hand (with_objects new n) o ≡ true
more_at_hand n new =
    still_at_hand n (with_objects new n) refl
    (λ k. stored_first k n.heap (with_serials n.next_serial new)) (λ o e k. k)
