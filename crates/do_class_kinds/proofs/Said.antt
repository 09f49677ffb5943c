-- What holds of methods whose selectors and types say methods.
use Rattle.std.proofs.Common.{◌≡◌, ◌≤◌, ℕ, List, [], ◌∷◌, length, map, refl, sym, ap, arith, Option}
use Rattle.std.{proofs.Common.{Some, None, subst}, specs.Prelude.IsTrue}
use Rattle.std.specs.{List.{AllByRecursion, IsDistinct, cons_option, filter_map}, Option.option_map}
use Rattle.std.{specs.Str.bytes_eq, proofs.lemmas.List.Elements.All-from_recursion}
use Rattle.do_grammar.specs.Names.{colons, is_selector}
use Rattle.do_sig.specs.{Calls.arg_count, MethodTypes.MethodType}
use Rattle.do_class.specs.{Class.{AreMethods, selectors_of}, declared.method.Method.Method}
use Rattle.do_native_acts.specs.laws.KindLaws.{some_same}
use Rattle.do_class_kinds.specs.Methods.{method_said, signature_of}

-- a selector, and types that spell a signature with an argument for each of its colons
abbrev pub IsSaid : List ℕ × List ℕ → Type 0
IsSaid m =
    IsTrue (is_selector m.0) × (option_map arg_count (signature_of m.1) ≡ Some (colons m.0))

-- the methods that selectors and types say
abbrev pub all_said : List (List ℕ × List ℕ) → List Method
all_said ms = filter_map (λ m. method_said m.0 m.1) ms

-- what the methods are that are said: one for each selector
record AreSaid (ms : List (List ℕ × List ℕ)) (methods : List Method) : Type 0 where
  all : length methods ≡ length ms
  named : selectors_of methods ≡ map (λ m. m.0) ms
  selects : AllByRecursion (λ (m : Method). IsTrue (is_selector m.selector)) methods
  counted : AllByRecursion (λ (m : Method). colons m.selector ≡ arg_count m.signature) methods

-- one more method that is said
one_more : (m : List ℕ × List ℕ) (ms : List (List ℕ × List ℕ)) (methods : List Method)
    (s : Option MethodType) → IsTrue (is_selector m.0) → option_map arg_count s ≡ Some (colons m.0)
    → AreSaid ms methods
    → AreSaid (m ∷ ms)
    (cons_option (option_map (λ t. record { selector = m.0; signature = t }) s) methods)
one_more m ms methods None selects e are = cc
one_more m ms methods (Some s) selects e are = record {
  all = omega (arith, are.all);
  named = ap (λ texts. m.0 ∷ texts) are.named;
  selects = (selects, are.selects);
  counted = (sym (some_same e), are.counted);
}

-- what is said are methods
are_said : (ms : List (List ℕ × List ℕ)) → AllByRecursion IsSaid ms → AreSaid ms (all_said ms)
are_said [] said = record { all = refl; named = refl; selects = tt; counted = tt }
are_said (m ∷ ms) said =
    one_more m ms (all_said ms) (signature_of m.1) said.0.0 said.0.1 (are_said ms said.1)

-- none of what is said is lost
pub none_lost : (ms : List (List ℕ × List ℕ)) → AllByRecursion IsSaid ms
    → length (all_said ms) ≡ length ms
none_lost ms said = let are = are_said ms said in are.all

-- at most 64 of distinct selectors are methods of a class
pub are_methods : (ms : List (List ℕ × List ℕ)) → AllByRecursion IsSaid ms → length ms ≤ 64
    → IsDistinct bytes_eq (map (λ m. m.0) ms) → AreMethods (all_said ms)
are_methods ms said few distinct =
    let are = are_said ms said in
    record {
      few = omega (arith, are.all, few);
      distinct = subst (IsDistinct bytes_eq) (sym are.named) distinct;
      selectors = All-from_recursion (λ (m : Method). IsTrue (is_selector m.selector))
          (all_said ms) are.selects;
      colons = All-from_recursion (λ (m : Method). colons m.selector ≡ arg_count m.signature)
          (all_said ms) are.counted;
    }
