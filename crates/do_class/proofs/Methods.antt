-- How a list of methods grows.
use Rattle.std.proofs.Common.{◌≡◌, ◌<◌, ℕ, List, [], ◌∷◌, ◌++◌, length, None, sym, subst, arith}
use Rattle.std.{proofs.Common.length-append, specs.{Prelude.IsTrue, List.IsDistinct, Str.bytes_eq}}
use Rattle.std.proofs.lemmas.{Cmp.nat_list_eq_equiv, List.{map-append, Elements.All-push}}
use Rattle.std.proofs.lemmas.Map.Keys.{IsDistinct-push}
use Rattle.do_sig.specs.Calls.{arg_count}
use Rattle.do_grammar.specs.Names.{is_selector, colons}
use Rattle.do_class.specs.Class.{AreMethods, place_of, selectors_of}
use Rattle.do_class.{specs.declared.method.Method.Method, proofs.Places.list_any-none}

-- no number is below zero
none : (k : ℕ) → k < 0 → ⊥
none k within = omega arith

-- no methods are methods of a class
pub AreMethods-none : AreMethods []
unfolding IsDistinct
AreMethods-none = record {
  few = omega arith;
  distinct = tt;
  selectors = λ k d within. absurd (none k within);
  colons = λ k d within. absurd (none k within);
}

-- one more method, of a selector that is not there yet
pub AreMethods-push : (methods : List Method) (m : Method) → AreMethods methods
    → length methods < 64 → place_of m.selector (selectors_of methods) ≡ None
    → IsTrue (is_selector m.selector) → colons m.selector ≡ arg_count m.signature
    → AreMethods (methods ++ m ∷ [])
AreMethods-push methods m are room absent selects fits =
    let grown : selectors_of (methods ++ m ∷ []) ≡ selectors_of methods ++ m.selector ∷ [] =
    map-append (λ (n : Method). n.selector) methods (m ∷ []) in
    let apart =
    IsDistinct-push nat_list_eq_equiv (selectors_of methods) m.selector are.distinct
    (list_any-none (bytes_eq m.selector) (selectors_of methods) absent) in
    record {
      few = omega (arith, length-append methods (m ∷ []));
      distinct = subst (IsDistinct bytes_eq) (sym grown) apart;
      selectors =
          All-push (λ (n : Method). IsTrue (is_selector n.selector)) methods m are.selectors
          selects;
      colons =
          All-push (λ (n : Method). colons n.selector ≡ arg_count n.signature) methods m are.colons
          fits;
    }
