-- The method that is found for a selector is of the class, and has the selector.
use Rattle.std.proofs.Common.{◌≡◌, ◌∙◌, ℕ, List, [], ◌∷◌, zero, suc, get_or, refl, sym, ap, subst}
use Rattle.std.specs.Prelude.{None, Option, Some, option_and_then, option_map, slice_get}
use Rattle.std.{specs.Str.bytes_eq, proofs.lemmas.List.Quantifiers.position-Some}
use Rattle.std.proofs.lemmas.{Option.slice_get-get_or, Slice.Eq.bytes_eq-Decides}
use Rattle.do_class.specs.Class.{Class, place_of, selectors_of}
use Rattle.do_class.specs.Table.{class_at, find_method, method_id, selector_of, signature_of}
use Rattle.do_class.specs.declared.{ids.{ClassId.ClassId, MethodId.MethodId}, method.Method.Method}
use Rattle.do_sig.specs.declared.signature.Signature.{Signature}
use Rattle.do_machine.specs.Context.{Found, method_for}

-- what stands at a place of the selectors is the selector of the method there
selector_at : (ms : List Method) (k : ℕ) →
    option_map (λ m. m.selector) (slice_get ms k) ≡ slice_get (selectors_of ms) k
selector_at [] k = refl
selector_at (m ∷ ms) zero = refl
selector_at (m ∷ ms) (suc k) = selector_at ms k

-- the place of a selector has it
selector_there : (selector : List ℕ) (ms : List Method) (k : ℕ) →
    place_of selector (selectors_of ms) ≡ Some k →
    option_map (λ m. m.selector) (slice_get ms k) ≡ Some selector
selector_there selector ms k h =
    let at = position-Some (bytes_eq selector) (selectors_of ms) k [] h in
    selector_at ms k ∙ slice_get-get_or (selectors_of ms) k [] at.0
    ∙ ap (λ s. Some s)
    (sym ((bytes_eq-Decides selector (get_or (selectors_of ms) k [])).0 at.1))

module _ (table : List Class) where
  -- the method of an id, with its signature
  abbrev method_by : Option MethodId → Option Found
  method_by id =
      option_and_then
      (λ m. option_map (λ s. record { id = m; signature = s }) (signature_of table m)) id

  -- it has that id
  is_of : (id : Option MethodId) (f : Found) → method_by id ≡ Some f → id ≡ Some f.id
  is_of None f h = absurd (cc)
  is_of (Some m) f h = by (signature_of table m) h
    where
      by : (s : Option Signature) →
          option_map (λ s. record { id = m; signature = s }) s ≡ Some f → Some m ≡ Some f.id
      by None e = absurd (cc)
      by (Some s) e = ap (λ o. option_map (λ (x : Found). x.id) o) e

  -- and its signature is that of the table
  has_signature : (id : Option MethodId) (f : Found) → method_by id ≡ Some f →
      signature_of table f.id ≡ Some f.signature
  has_signature None f h = absurd (cc)
  has_signature (Some m) f h = by (signature_of table m) refl h
    where
      by : (s : Option Signature) → signature_of table m ≡ s →
          option_map (λ s. record { id = m; signature = s }) s ≡ Some f →
          signature_of table f.id ≡ Some f.signature
      by None e q = absurd (cc)
      by (Some s) e q =
          let is : record { id = m; signature = s } ≡ f = cc in
          subst (λ (x : Found). signature_of table x.id ≡ Some x.signature) is e

  module _ (c : ClassId) (selector : List ℕ) (id : MethodId) where
    -- a method at a place
    at_place : (known : Class) → class_at table c ≡ Some known → (place : Option ℕ) →
        place_of selector (selectors_of known.methods) ≡ place →
        option_map (method_id c) place ≡ Some id →
        (c ≡ id.class) × (selector_of table id ≡ Some selector)
    at_place known there None q h = absurd (cc)
    at_place known there (Some k) q h =
        let is : method_id c k ≡ id = cc in (
          ap (λ m. m.class) is,
          ap (λ m. selector_of table m) (sym is)
              ∙ ap (λ o. option_map (λ m. m.selector)
              (option_and_then (λ x. slice_get x.methods k) o)) there
              ∙ selector_there selector known.methods k q,
        )

    -- a method of a class
    in_class : (found : Option Class) → class_at table c ≡ found →
        option_and_then
        (λ x. option_map (method_id c) (place_of selector (selectors_of x.methods))) found
        ≡ Some id → (c ≡ id.class) × (selector_of table id ≡ Some selector)
    in_class None there h = absurd (cc)
    in_class (Some known) there h =
        at_place known there (place_of selector (selectors_of known.methods)) refl h

  -- the method for a selector is of the class and has the selector
  pub method_found : (class : Option ClassId) (selector : List ℕ) (f : Found) →
      method_for table class selector ≡ Some f →
      (class ≡ Some f.id.class) × (selector_of table f.id ≡ Some selector)
  method_found None selector f h = absurd (cc)
  method_found (Some c) selector f h =
      let is = is_of (find_method table c selector) f h in
      let of = in_class c selector f.id (class_at table c) refl is in
      (ap (λ x. Some x) of.0, of.1)

  -- and its signature is that of the table
  pub signature_found : (class : Option ClassId) (selector : List ℕ) (f : Found) →
      method_for table class selector ≡ Some f → signature_of table f.id ≡ Some f.signature
  signature_found class selector f h =
      has_signature (option_and_then (λ c. find_method table c selector) class) f h
