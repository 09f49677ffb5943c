-- Nodes of which so much is known: what they store was given, and their invocations are their own.
use Rattle.std.proofs.Common.{arith, ◌≡◌, ◌<◌, ◌≤◌, ℕ, List, [], ◌∷◌, length, ap}
use Rattle.std.specs.{Prelude.{None, Some, option_map}, List.AllByRecursion}
use Rattle.do_base.specs.declared.values.value.Value.{Value}
use Rattle.do_class.specs.{Class.Class, declared.ids.ClassId.ClassId}
use Rattle.do_behave.specs.declared.invocation.{Invocation.Invocation, Reason.Reason}
use Rattle.do_machine.specs.{declared.node.{Node.Node, Stored.Stored}, Context.{Found, method_for}}
use Rattle.do_machine.specs.{Context.own_class, State.{own, stored}, run.Fresh.fresh}
use Rattle.do_facts.proofs.EachOfLists.{each_weaker}
use Rattle.do_facts.proofs.methods.MethodsFound.{method_found, signature_found}
use Rattle.do_objects.specs.OwnClass.{HaveOwnMethods, IsSound, StoresGiven, WasMadeOf}
use Rattle.do_objects.proofs.{Finding.{absent, there}, Known.{AreKnown, HoldsBegun, Known}}

-- what a node stores, the next serial that it gives, and its invocations
pub record Stock : Type 0 where
  pub heap : List Stored
  pub next_serial : ℕ
  pub stack : List Invocation

-- those of a node
abbrev pub stock : Node → Stock
stock n = record { heap = n.heap; next_serial = n.next_serial; stack = n.stack }

-- an object of this serial was made, and it is of this class as long as it is stored
abbrev pub IsMade : Stock → ℕ → ClassId → Type 0
IsMade n serial class =
    (serial < n.next_serial) × ((x : Stored) → stored serial n.heap ≡ Some x → x.class ≡ class)

-- an invocation of an object that was made, of the class of its method, of which so much is known
abbrev pub IsOwn : Known → Stock → Invocation → Type 0
IsOwn W n i = IsMade n i.object.serial i.method.class × W i.method (length i.locals)

-- each of these invocations is so
abbrev pub AreOwn : Known → Stock → List Invocation → Type 0
AreOwn W n is = AllByRecursion (IsOwn W n) is

-- no serial is stored that was not given, and the invocations are so
pub record IsWhole (W : Known) (n : Stock) : Type 0 where
  pub given : (serial : ℕ) → n.next_serial ≤ serial → stored serial n.heap ≡ None
  pub invocations : AreOwn W n n.stack

-- invocations stay so where what was made is made of the same class
pub still_own : (W : Known) (n m : Stock) →
    ((serial : ℕ) (class : ClassId) → IsMade n serial class → IsMade m serial class) →
    (is : List Invocation) → AreOwn W n is → AreOwn W m is
still_own W n m still is own =
    each_weaker (IsOwn W n) (IsOwn W m)
    (λ i was. (still i.object.serial i.method.class was.0, was.1)) is own

-- an object that is stored under a serial that was given was made, and is of its class
pub stored_made : (n : Node) (serial : ℕ) (class : ClassId) → StoresGiven n →
    own_class n serial ≡ Some class → WasMadeOf n serial class
stored_made n serial class given h =
    let classes = option_map (λ (x : Stored). x.class) in
    let old : n.next_serial ≤ serial → ⊥ =
    λ le. absent class (own_class n serial) h (ap classes (given serial le)) in
    (grind (arith, old), λ x found. there (own_class n serial) x.class class (ap classes found) h)

-- an invocation of the method that is found for a stored object is own
pub begun_own : (W : Known) (table : List Class) → HoldsBegun W table → (n : Node) (serial : ℕ)
    (selector : List ℕ) (m : Found) (reason : Reason) (values : List Value) → StoresGiven n →
    method_for table (own_class n serial) selector ≡ Some m →
    length values ≤ length m.signature.args →
    IsOwn W (stock n) (fresh (own n serial) m.id reason values)
begun_own W table begin n serial selector m reason values given found few =
    let class = own_class n serial in (
      stored_made n serial m.id.class given (method_found table class selector m found).0,
      begin m values (signature_found table class selector m found) few,
    )

-- a sound node is whole, where so much is known of its invocations
pub whole_of : (W : Known) (n : Node) → AreKnown W n.stack → IsSound n → IsWhole W (stock n)
whole_of W n known s = record { given = s.given; invocations = both n.stack known s.invocations }
  where
    both : (is : List Invocation) → AreKnown W is → HaveOwnMethods n is → AreOwn W (stock n) is
    both [] known own = tt
    both (i ∷ is) known own = ((own.0, known.0), both is known.1 own.1)

-- a whole node is sound
pub sound_of : (W : Known) (n : Node) → IsWhole W (stock n) → IsSound n
sound_of W n w = record {
  given = w.given;
  invocations =
      each_weaker (IsOwn W (stock n)) (λ i. WasMadeOf n i.object.serial i.method.class)
      (λ i own. own.0) n.stack w.invocations;
}

-- and so much is known of its invocations
pub known_of : (W : Known) (n : Node) → IsWhole W (stock n) → AreKnown W n.stack
known_of W n w =
    each_weaker (IsOwn W (stock n)) (λ i. W i.method (length i.locals)) (λ i own. own.1)
    n.stack w.invocations

-- nothing more is known
abbrev pub Nothing : Known
Nothing method count = Unit {0}
