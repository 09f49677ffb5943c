-- What the counter world's classes keep to.
use Rattle.std.proofs.Common.{◌≡◌, ℕ, ◌<◌, List, [], ◌∷◌, refl, arith, subst, sym}
use Rattle.std.specs.{Prelude.{IsNone, IsSome, IsTrue, codes}, List.{All, IsDistinct}}
use Rattle.std.proofs.lemmas.List.Elements.{All-cons}
use Rattle.do_sig.specs.Calls.{arg_count}
use Rattle.do_grammar.specs.Names.{is_selector, colons}
use Rattle.do_class.specs.{Class.{AreMethods, Class}, Table.class_named}
use Rattle.do_class.specs.declared.method.Method.{Method}
use Rattle.do_world.specs.Counter.{number_to_number}

-- nothing is less than 0
less_zero : (k : ℕ) → k < 0 → ⊥
less_zero k within = omega arith

-- of an empty list everything holds
all_none : {X : Type 0} (P : X → Type 0) → All P []
all_none P = λ k d within. absurd (less_zero k within)

-- one method with a selector of its arguments keeps to what methods keep to
one_is_methods : (m : Method)
    → IsTrue (is_selector m.selector) → colons m.selector ≡ arg_count m.signature
    → AreMethods (m ∷ [])
unfolding IsDistinct
one_is_methods m selects same = record {
  few = omega arith;
  distinct = (tt, tt);
  selectors = All-cons (λ (n : Method). IsTrue (is_selector n.selector)) m [] selects (all_none _);
  colons = All-cons (λ (n : Method). colons n.selector ≡ arg_count n.signature) m [] same
      (all_none _);
}

-- and so does one that takes a number and gives a number, by a selector of one colon
pub one_method : (selector : List ℕ) (methods : List Method)
    → methods ≡ record { selector = selector; signature = number_to_number } ∷ []
    → IsTrue (is_selector selector) → colons selector ≡ 1 → AreMethods methods
one_method selector methods e selects same =
    subst AreMethods (sym e) (one_is_methods
    (record { selector = selector; signature = number_to_number }) selects same)

-- `add:` is a selector
pub add_selects : IsTrue (is_selector (codes "add:"))
unfolding is_selector
add_selects = refl

-- `go:` is a selector
pub go_selects : IsTrue (is_selector (codes "go:"))
unfolding is_selector
go_selects = refl

-- a name that no class of the table has is not taken
pub not_taken : (table : List Class) (name given : List ℕ)
    → name ≡ given → IsNone (class_named table given) → IsSome (class_named table name) → ⊥
not_taken table name given e none some =
    let taken : IsSome (class_named table given) =
    subst (λ n. IsSome (class_named table n)) e some in cc

-- the facts that the calls of this world need
pub ruleset counter_steps = (add_selects, go_selects, one_method)
