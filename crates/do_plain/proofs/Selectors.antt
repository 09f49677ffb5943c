-- The selector that finds a method of a table is one.
use Rattle.std.proofs.Common.{◌≡◌, ℕ, List, [], ◌∷◌, zero, suc, refl, subst}
use Rattle.std.specs.Prelude.{IsTrue, None, Option, Some, option_and_then, option_map, slice_get}
use Rattle.std.{specs.List.AllByRecursion, proofs.lemmas.List.Elements.recursion_from_All}
use Rattle.do_class.specs.{Class.{Class, IsClass}, Table.{IsTable, class_at, selector_of}}
use Rattle.do_class.specs.declared.{ids.{ClassId.ClassId, MethodId.MethodId}, method.Method.Method}
use Rattle.do_grammar.specs.Names.{is_selector}
use Rattle.do_machine.specs.Context.{Found, method_for}
use Rattle.do_facts.proofs.methods.MethodsFound.{method_found}

-- what stands at a place of a list is such a one
pub one_at : {X : Type 0} (P : X → Type 0) (xs : List X) (k : ℕ) (x : X) →
    AllByRecursion P xs → slice_get xs k ≡ Some x → P x
one_at P [] k x h e = absurd (cc (e))
one_at P (y ∷ ys) zero x h e = let same : y ≡ x = cc (e) in subst P same h.0
one_at P (y ∷ ys) (suc k) x h e = one_at P ys k x h.1 e

module _ (table : List Class) (ok : IsTable table) where
  -- the selector of a method of the table
  of_method : (id : MethodId) (selector : List ℕ) → selector_of table id ≡ Some selector →
      IsTrue (is_selector selector)
  of_method id selector e = by (class_at table id.class) refl e
    where
      in_class : (c : Class) → IsClass c → (m : Option Method) →
          slice_get c.methods id.index ≡ m → option_map (λ m. m.selector) m ≡ Some selector →
          IsTrue (is_selector selector)
      in_class c is None at q = absurd (cc (q))
      in_class c is (Some m) at q =
          let same : m.selector ≡ selector = cc (q) in
          subst (λ s. IsTrue (is_selector s)) same
          (one_at (λ (m : Method). IsTrue (is_selector m.selector)) c.methods id.index m
          (recursion_from_All (λ (m : Method). IsTrue (is_selector m.selector)) c.methods
          is.methods.selectors) at)

      by : (c : Option Class) → class_at table id.class ≡ c →
          option_map (λ m. m.selector) (option_and_then (λ c. slice_get c.methods id.index) c)
          ≡ Some selector → IsTrue (is_selector selector)
      by None at q = absurd (cc (q))
      by (Some c) at q =
          in_class c (one_at IsClass table id.class.0 c
          (recursion_from_All IsClass table ok.classes) at) (slice_get c.methods id.index) refl q

  -- what finds a method
  pub selected : (class : Option ClassId) (selector : List ℕ) (m : Found) →
      method_for table class selector ≡ Some m → IsTrue (is_selector selector)
  selected class selector m e =
      of_method m.id selector (method_found table class selector m e).1
