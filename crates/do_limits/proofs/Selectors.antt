-- What finds a method of a table is a selector.
use Rattle.std.proofs.Common.{◌≡◌, ℕ, Bool, true, false, cond, List, [], ◌∷◌, length, map, refl}
use Rattle.std.proofs.Common.{arith, subst, sym}
use Rattle.std.specs.Prelude.{None, Option, Some, option_and_then, option_map, suc, nat_lt, not}
use Rattle.std.specs.{Prelude.{◌+◌, ◌<◌, IsTrue}, List.{All, AllByRecursion, position_or_len}}
use Rattle.std.{proofs.lemmas.Bool.Decides.nat_tests, specs.Str.bytes_eq}
use Rattle.std.proofs.lemmas.{Slice.Eq.bytes_eq-Decides, List.Elements.recursion_from_All}
use Rattle.do_class.specs.Class.{Class, IsClass, place_of, selectors_of}
use Rattle.do_class.specs.declared.method.Method.{Method}
use Rattle.do_frames.specs.Selectors.{IsSelector}
use Rattle.do_grammar.specs.Names.{is_selector}
use Rattle.do_class.specs.Table.{IsTable, class_at, method_id, signature_of}
use Rattle.do_class.specs.declared.ids.ClassId.{ClassId}
use Rattle.do_sig.specs.declared.signature.Signature.{Signature}
use Rattle.do_machine.specs.{Context.{Found, method_for}, World.HasSignatures}
use Rattle.do_facts.proofs.methods.FewArguments.{takes_few}
use Rattle.do_limits.proofs.Signatures.{HasMethods, one_at}

-- a text that stands among selectors is one
placed : (selector : List ℕ) (methods : List Method) →
    AllByRecursion (λ (m : Method). IsTrue (is_selector m.selector)) methods →
    position_or_len (bytes_eq selector) (map (λ (m : Method). m.selector) methods)
    < length (map (λ (m : Method). m.selector) methods) → IsSelector selector
placed selector [] h lt = absurd (omega (arith, lt))
placed selector (m ∷ ms) h lt =
    go (bytes_eq selector m.selector) refl lt (λ less. placed selector ms h.1 less)
  where
    texts : List (List ℕ)
    texts = map (λ (m : Method). m.selector) ms

    at : ℕ
    at = position_or_len (bytes_eq selector) texts

    go : (b : Bool) → bytes_eq selector m.selector ≡ b →
        cond (not b) (1 + at) 0 < suc (length texts) →
        (at < length texts → IsSelector selector) → IsSelector selector
    go true q lt later =
        subst IsSelector (sym ((bytes_eq-Decides selector m.selector).0 q)) h.0
    go false q lt later = later (omega (arith, lt))

-- a text of which there is a place stands there
stands : (selector : List ℕ) (texts : List (List ℕ)) (place : ℕ) →
    place_of selector texts ≡ Some place →
    position_or_len (bytes_eq selector) texts < length texts
stands selector texts place e = go (nat_lt at (length texts)) refl e
  where
    at : ℕ
    at = position_or_len (bytes_eq selector) texts

    go : (b : Bool) → nat_lt at (length texts) ≡ b → cond b (Some at) None ≡ Some place →
        at < length texts
    go true q e = grind (arith, nat_tests, q)
    go false q e = absurd (cc (e))

-- what finds a method of a table is a selector
selected : (table : List Class) → IsTable table → (class : Option ClassId) (selector : List ℕ)
    (m : Found) → method_for table class selector ≡ Some m → IsSelector selector
selected table ok None selector m e = absurd (cc (e))
selected table ok (Some c) selector m e = by_class (class_at table c) refl e
  where
    by_place : (k : Class) → IsClass k → (found : Option ℕ) →
        place_of selector (selectors_of k.methods) ≡ found →
        option_and_then (λ id. option_map (λ (s : Signature). record { id = id; signature = s })
        (signature_of table id)) (option_map (method_id c) found) ≡ Some m → IsSelector selector
    by_place k h None q e = absurd (cc (e))
    by_place k h (Some place) q e =
        placed selector k.methods
        (recursion_from_All (λ (m : Method). IsTrue (is_selector m.selector)) k.methods
        h.methods.selectors) (stands selector (selectors_of k.methods) place q)

    by_class : (found : Option Class) → class_at table c ≡ found →
        option_and_then (λ id. option_map (λ (s : Signature). record { id = id; signature = s })
        (signature_of table id)) (option_and_then (λ k. option_map (method_id c)
        (place_of selector (selectors_of k.methods))) found) ≡ Some m → IsSelector selector
    by_class None q e = absurd (cc (e))
    by_class (Some k) q e =
        by_place k
        (one_at IsClass table c.0 k (recursion_from_All IsClass table ok.classes) q)
        (place_of selector (selectors_of k.methods)) refl e

-- the methods of a table within the limits
pub has_methods : (table : List Class) → IsTable table → All HasSignatures table →
    HasMethods table
has_methods table ok signed =
    record { few = takes_few table signed; selects = selected table ok }
