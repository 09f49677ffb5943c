-- How what is read of a list grows, member by member.
use Rattle.std.proofs.Common.{◌≡◌, ℕ, ◌+◌, ◌<◌, ◌≤◌, ◌||◌, not, Bool, true, false, List, [], ◌∷◌}
use Rattle.std.proofs.Common.{◌++◌, length, map, take, get_or, Option, Some, refl, sym, ◌∙◌, ap}
use Rattle.std.{proofs.Common.{append_assoc, subst, arith, length-append}, specs.Prelude.IsTrue}
use Rattle.std.specs.{List.{AllZip, IsDistinct, filter_map, list_any}, Option.option_to_list}
use Rattle.std.{specs.Str.bytes_eq, proofs.lemmas.{Bool.and_parts, Cmp.nat_list_eq_equiv}}
use Rattle.std.proofs.lemmas.List.{length-map, length-take-le, map-append, map_more}
use Rattle.std.proofs.lemmas.{List.Elements.{All-push, filter_map-append}, Map.Keys.IsDistinct-push}
use Rattle.do_grammar.specs.Names.{colons, is_selector}
use Rattle.do_sig.specs.Calls.{arg_count}
use Rattle.do_class.specs.{Class.{AreMethods, selectors_of}, declared.method.Method.Method}
use Rattle.do_class_kinds.proofs.Growing.{maybe_more}
use Rattle.do_document.specs.ClassFaults.{is_new_selector}

-- what is not so is false
pub not_true : (b : Bool) → not b ≡ true → b ≡ false
not_true true e = cc
not_true false e = refl

-- a test of what is made of each item
pub list_any_map : {A B : Type 0} (p : B → Bool) (f : A → B) (xs : List A)
    → list_any p (map f xs) ≡ list_any (λ x. p (f x)) xs
list_any_map p f [] = refl
list_any_map p f (x ∷ xs) = ap (λ b. p (f x) || b) (list_any_map p f xs)

-- how many items there are so far
pub so_far : {A B : Type 0} (v : A → B) (xs : List A) (k : ℕ) → k ≤ length xs
    → length (map v (take k xs)) ≡ k
so_far v xs k within = length-map (take k xs) v ∙ length-take-le k xs within

-- what an item makes joins what those before it made
pub made_more : {A B C : Type 0} (f : B → Option C) (v : A → B) (xs : List A) (k : ℕ) (d : A)
    (ys : List C) (y : C) → k < length xs → ys ≡ filter_map f (map v (take k xs))
    → f (v (get_or xs k d)) ≡ Some y
    → ys ++ y ∷ [] ≡ filter_map f (map v (take (k + 1) xs))
made_more f v xs k d ys y within made is =
    let more = map_more v xs k d within in
    let split = filter_map-append f (map v (take k xs)) (v (get_or xs k d) ∷ []) in
    rw (more, split, is, ← made)

-- what an item may make joins what those before it made, behind earlier ones
pub behind_more : {A B C : Type 0} (f : B → Option C) (v : A → B) (xs : List A) (k : ℕ) (x : A)
    (earlier old new : List C) → k < length xs → x ≡ get_or xs k x
    → old ≡ earlier ++ filter_map f (map v (take k xs)) → new ≡ old ++ option_to_list (f (v x))
    → new ≡ earlier ++ filter_map f (map v (take (k + 1) xs))
behind_more f v xs k x earlier old new within is made grown =
    let so_many = filter_map f (map v (take k xs)) in
    let more = maybe_more v xs k x x within is so_many (so_many ++ option_to_list (f (v x))) f refl
    refl in
    grown ∙ ap (λ ys. ys ++ option_to_list (f (v x))) made
    ∙ append_assoc earlier so_many (option_to_list (f (v x))) ∙ ap (λ ys. earlier ++ ys) more

-- one more pair of two lists
pub zip_push : {A B : Type 0} (R : A → B → Type 0) (xs : List A) (ys : List B) (x : A) (y : B)
    → AllZip R xs ys → R x y → AllZip R (xs ++ x ∷ []) (ys ++ y ∷ [])
zip_push R [] [] x y all r = (r, tt)
zip_push R [] (z ∷ ys) x y all r = absurd all
zip_push R (w ∷ xs) [] x y all r = absurd all
zip_push R (w ∷ xs) (z ∷ ys) x y all r = (all.0, zip_push R xs ys x y all.1 r)

-- the same of what is seen of the items so far
pub zip_more : {A B C : Type 0} (R : B → C → Type 0) (v : A → B) (xs : List A) (k : ℕ) (d : A)
    (ys : List C) (y : C) → k < length xs → AllZip R (map v (take k xs)) ys
    → R (v (get_or xs k d)) y → AllZip R (map v (take (k + 1) xs)) (ys ++ y ∷ [])
zip_more R v xs k d ys y within all r =
    subst (λ zs. AllZip R zs (ys ++ y ∷ [])) (sym (map_more v xs k d within))
    (zip_push R (map v (take k xs)) ys (v (get_or xs k d)) y all r)

-- a method of a new selector joins the methods of a class
pub methods_more : (methods : List Method) (m : Method) → AreMethods methods
    → length methods < 64 → is_new_selector methods m.selector ≡ true
    → colons m.selector ≡ arg_count m.signature → AreMethods (methods ++ m ∷ [])
methods_more methods m are room new fits =
    let parts = and_parts (is_selector m.selector)
    (not (list_any (λ (n : Method). bytes_eq m.selector n.selector) methods)) new in
    let absent : list_any (bytes_eq m.selector) (selectors_of methods) ≡ false =
    list_any_map (bytes_eq m.selector) (λ (n : Method). n.selector) methods
    ∙ not_true (list_any (λ (n : Method). bytes_eq m.selector n.selector) methods) parts.1 in
    let grown : selectors_of (methods ++ m ∷ []) ≡ selectors_of methods ++ m.selector ∷ [] =
    map-append (λ (n : Method). n.selector) methods (m ∷ []) in
    let apart =
    IsDistinct-push nat_list_eq_equiv (selectors_of methods) m.selector are.distinct absent in
    record {
      few = omega (arith, length-append methods (m ∷ []));
      distinct = subst (IsDistinct bytes_eq) (sym grown) apart;
      selectors = All-push (λ (n : Method). IsTrue (is_selector n.selector)) methods m are.selectors
          parts.0;
      colons =
          All-push (λ (n : Method). colons n.selector ≡ arg_count n.signature) methods m are.colons
          fits;
    }
