-- A machine can open with the counter world, and its program is made for its classes.
use Rattle.std.proofs.Common.{◌≡◌, ℕ, List, [], ◌∷◌, refl, arith}
use Rattle.std.specs.{Prelude.{Some, codes}, List.{AllByRecursion, IsDistinct}}
use Rattle.std.proofs.lemmas.List.Elements.{All-from_recursion, All-nil}
use Rattle.do_behave.specs.Programs.{Suits}
use Rattle.do_carried.specs.Ranged.{CodesAreRanged}
use Rattle.do_class.specs.{Class.{Class, IsClass}, Table.IsTable}
use Rattle.do_check.specs.{Rules.{AreRules, IsRule}, declared.rules.Rule.Rule}
use Rattle.do_class_kinds.specs.{Kinds.AreKindsOf, Methods.AreTyped, declared.kind.Kind.Kind}
use Rattle.do_document.specs.Sound.{HasTypes}
use Rattle.do_grammar.specs.Names.{is_selector}
use Rattle.do_machine.specs.{World.{IsSeat, IsWorld}, declared.state.Seat.Seat}
use Rattle.do_script.specs.Listing.{IsLocal, IsMessage, IsWithin, Listing}
use Rattle.do_sig.specs.{Bare.simple_encoding, MethodTypes.IsMethodType}
use Rattle.do_sig.specs.declared.value_type.Scalar.TheVariants.{LongLong}
use Rattle.do_sig.proofs.SignaturePrinted.{simple_limited}
use Rattle.do_world.specs.Counter.{add_code, counter_classes, counter_codes, counter_kinds}
use Rattle.do_world.specs.Counter.{counter_nodes, counter_rules, counter_world, go_code}
use Rattle.do_world.specs.{Counter.number_to_number, Sound.IsSound}
use Rattle.do_world.proofs.CounterClasses.{add_selects, go_selects, one_method}

-- ---- the classes

-- a number may be taken and given
number_typed : IsMethodType number_to_number
number_typed =
    let numbers = simple_encoding LongLong ∷ [] in
    simple_limited (Some LongLong) (simple_encoding LongLong) (LongLong ∷ []) numbers (omega arith)
    refl refl

-- each class is within the limits
within_limits : AllByRecursion IsClass counter_classes
within_limits = (
  record { slots = omega arith; methods = one_method (codes "add:") _ refl add_selects refl },
  (record { slots = omega arith; methods = one_method (codes "go:") _ refl go_selects refl }, tt),
)

-- the classes are a table
are_table : IsTable counter_classes
unfolding IsDistinct
are_table = record {
  few = omega arith;
  names = ((refl, tt), (tt, tt));
  classes = All-from_recursion IsClass counter_classes within_limits;
}

-- one method that takes a number and gives a number keeps to what signatures keep to
one_typed : (selector : List ℕ)
    → AreTyped (record { selector = selector; signature = number_to_number } ∷ [])
one_typed selector =
    All-from_recursion (λ m. IsMethodType m.signature)
    (record { selector = selector; signature = number_to_number } ∷ []) (number_typed, tt)

-- and so do the methods of each class
typed : AllByRecursion HasTypes counter_classes
typed = (one_typed (codes "add:"), (one_typed (codes "go:"), tt))

-- ---- the nodes

-- a machine can open with the world
opens : IsWorld counter_classes counter_nodes
unfolding IsDistinct
opens = record {
  classes = are_table;
  signatures = All-from_recursion HasTypes counter_classes typed;
  some = omega arith;
  few = omega arith;
  distinct = ((refl, tt), (tt, tt));
  seated = All-from_recursion (IsSeat counter_classes) counter_nodes (
    record { port = (omega arith, omega arith); root = omega arith },
    (record { port = (omega arith, omega arith); root = omega arith }, tt),
  );
}

-- ---- the codes

-- `add:` names only what is there
add_suits : Suits 1 2 add_code
add_suits = record {
  valid = record {
    short = omega arith;
    within = All-from_recursion (IsWithin 1 2 4) add_code.instructions (
      (omega arith, omega arith),
      (
        (omega arith, omega arith, omega arith),
        ((omega arith, omega arith), (omega arith, tt)),
      ),
    );
  };
  few_slots = omega arith;
  few_classes = omega arith;
}

-- the message of `go:` is one
sends : IsMessage (codes "add:") (0 ∷ [])
unfolding is_selector
sends = record {
  name = refl;
  count = refl;
  locals = All-from_recursion IsLocal (0 ∷ []) (omega arith, tt);
}

-- so does `go:`
go_suits : Suits 0 2 go_code
go_suits = record {
  valid = record {
    short = omega arith;
    within = All-from_recursion (IsWithin 0 2 5) go_code.instructions (
      omega arith,
      (
        (omega arith, omega arith),
        ((omega arith, omega arith, sends), (omega arith, (omega arith, tt))),
      ),
    );
  };
  few_slots = omega arith;
  few_classes = omega arith;
}

-- ---- the kinds

-- each class has a kind, and no rules
kinded : AreKindsOf counter_classes counter_kinds counter_rules
kinded = record {
  kind_each = refl;
  rules_each = refl;
  rules_good = All-from_recursion AreRules counter_rules (All-nil IsRule, (All-nil IsRule, tt));
}

-- ---- numbers and texts

-- the one number of the codes has 64 bits
codes_ranged : CodesAreRanged counter_codes
codes_ranged =
    (((tt, (tt, (tt, (tt, tt)))), tt), (((omega arith, (tt, (tt, (tt, (tt, tt))))), tt), tt))

-- the world is sound
counter_sound : IsSound counter_world
counter_sound = record {
  opens = opens;
  made = ((add_suits, tt), ((go_suits, tt), tt));
  kinds = kinded;
  codes = codes_ranged;
  denials = (tt, (tt, tt));
}

-- and so is one of the same parts
pub sound_by_parts : (table : List Class) (kinds : List Kind) (rules : List (List Rule))
    (program : List (List Listing)) (nodes : List Seat) → table ≡ counter_classes
    → kinds ≡ counter_kinds → rules ≡ counter_rules → program ≡ counter_codes
    → nodes ≡ counter_nodes
    → IsSound (record {
      table = table;
      kinds = kinds;
      rules = rules;
      program = program;
      nodes = nodes;
    })
sound_by_parts table kinds rules program nodes t k r p n = rw (t, k, r, p, n) counter_sound
