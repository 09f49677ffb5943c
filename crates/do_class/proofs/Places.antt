-- Where a text stands in a list, and the map that tells it.
use Rattle.std.proofs.Common.{◌≡◌, ℕ, ◌+◌, ◌<◌, Bool, true, false, List, [], ◌∷◌, ◌++◌, length}
use Rattle.std.proofs.Common.{Option, Some, None, cond, refl, sym, ◌∙◌, ap, subst, arith, ⊎_elim}
use Rattle.std.{proofs.Common.{suc, take, drop, get_or}, specs.List.{position, IsDistinct}}
use Rattle.std.specs.{List.{AllByRecursion, list_any}, Str.bytes_eq, BTreeMap.{BTreeMap, Updates}}
use Rattle.std.specs.{BTreeMap.get, Cmp.{IsEquivalence, Lexicographic.slice_cmp}, Ordering.nat_cmp}
use Rattle.std.proofs.lemmas.{Bool.cases_Bool, Cmp.nat_list_eq_equiv, Grind.common_steps}
use Rattle.std.proofs.lemmas.List.{Folds.position_or_len_push, Sums.prefix_len-le-length}
use Rattle.std.proofs.lemmas.{Map.Text.is_eq-slice_cmp, Slice.Eq.bytes_eq-Decides}
use Rattle.std.proofs.Math.Seq.{split_at}
use Rattle.std.proofs.lemmas.List.{take_more, map-append, length-map, length-take-le}
use Rattle.do_class.specs.{Class.{place_of, selectors_of}, declared.method.Method.Method}
use Rattle.do_class.specs.Index.{IsIndexOf}

-- an item that fails the test changes nothing
position-push_fail : {X : Type 0} (p : X → Bool) (xs : List X) (y : X) → p y ≡ false
    → position p (xs ++ y ∷ []) ≡ position p xs
position-push_fail p xs y fails =
    grind (arith, common_steps, position_or_len_push, prefix_len-le-length)

-- the first item that passes stands at the end
position-push_pass : {X : Type 0} (p : X → Bool) (xs : List X) (y : X) → p y ≡ true
    → position p xs ≡ None → position p (xs ++ y ∷ []) ≡ Some (length xs)
position-push_pass p xs y passes none =
    grind (arith, common_steps, position_or_len_push, prefix_len-le-length)

-- no item passes, and none has a place
position-none : {X : Type 0} (p : X → Bool) (xs : List X) → list_any p xs ≡ false
    → position p xs ≡ None
position-none p [] none = refl
position-none p (x ∷ xs) none =
    let rest : list_any p xs ≡ false → position p xs ≡ None = position-none p xs in
    grind (arith, common_steps, prefix_len-le-length)

-- where no item has a place, none passes
pub list_any-none : {X : Type 0} (p : X → Bool) (xs : List X) → position p xs ≡ None
    → list_any p xs ≡ false
list_any-none p [] none = refl
list_any-none p (x ∷ xs) none =
    let rest : position p xs ≡ None → list_any p xs ≡ false = list_any-none p xs in
    grind (arith, common_steps, prefix_len-le-length)

-- an item of a list that holds nothing twice is not among those before it
before-distinct : {X : Type 0} {e : X → X → Bool} → IsEquivalence e
    → (xs : List X) (y : X) (ys : List X) → IsDistinct e (xs ++ y ∷ ys) → list_any (e y) xs ≡ false
unfolding IsDistinct
before-distinct laws [] y ys distinct = refl
before-distinct {e = e} laws (x ∷ xs) y ys distinct =
    let apart : e x y ≡ false = at_end xs distinct.0 in
    let here : e y x ≡ false = laws.symm y x ∙ apart in
    let rest : list_any (e y) xs ≡ false = before-distinct laws xs y ys distinct.1 in
    grind (arith, common_steps)
  where
    at_end : (zs : List _) → AllByRecursion (λ z. e x z ≡ false) (zs ++ y ∷ ys) → e x y ≡ false
    at_end [] all = all.0
    at_end (z ∷ zs) all = at_end zs all.1

-- a text of a list that holds nothing twice has no place among those before it
pub place_of-before : (texts : List (List ℕ)) (text : List ℕ) (more : List (List ℕ))
    → IsDistinct bytes_eq (texts ++ text ∷ more) → place_of text texts ≡ None
place_of-before texts text more distinct =
    position-none (bytes_eq text) texts (before-distinct nat_list_eq_equiv texts text more distinct)

-- a new text, with its place in the map
pub IsIndexOf-push : (texts : List (List ℕ)) (text : List ℕ) (before after : BTreeMap (List ℕ) ℕ)
    (place : ℕ) → place ≡ length texts → place_of text texts ≡ None
    → Updates (slice_cmp nat_cmp) before after text (Some place) → IsIndexOf texts before
    → IsIndexOf (texts ++ text ∷ []) after
IsIndexOf-push texts text before after place is_last absent updates index = λ other.
    let old : Option ℕ = get (slice_cmp nat_cmp) before other in
    let tested = is_eq-slice_cmp text other in
    let chosen = λ (b : Bool) (e : bytes_eq text other ≡ b). updates.0 other
    ∙ ap (λ t. cond t (Some place) old) (tested ∙ e) in
    ⊎_elim
    (λ same. let last =
    position-push_pass (bytes_eq text) texts text (nat_list_eq_equiv.refl text) absent in
    chosen true same ∙ ap Some is_last ∙ sym last
    ∙ ap (λ t. place_of t (texts ++ text ∷ [])) ((bytes_eq-Decides text other).0 same))
    (λ apart. let pushed =
    position-push_fail (bytes_eq other) texts text (nat_list_eq_equiv.symm other text
    ∙ apart) in
    chosen false apart ∙ index other ∙ sym pushed)
    (cases_Bool (bytes_eq text other))

-- the index of the methods before a place, with the method there
pub IsIndexOf-next : (methods : List Method) (i : ℕ) (m : Method)
    (before after : BTreeMap (List ℕ) ℕ) → i < length methods → m ≡ get_or methods i m
    → IsDistinct bytes_eq (selectors_of methods)
    → Updates (slice_cmp nat_cmp) before after m.selector (Some i)
    → IsIndexOf (selectors_of (take i methods)) before
    → IsIndexOf (selectors_of (take (i + 1) methods)) after
IsIndexOf-next methods i m before after within is_there distinct updates index =
    let firsts : List (List ℕ) = selectors_of (take i methods) in
    let next : selectors_of (take (i + 1) methods) ≡ firsts ++ m.selector ∷ [] =
    ap selectors_of (take_more methods i m within
    ∙ ap (λ x. take i methods ++ x ∷ []) (sym is_there))
    ∙ map-append (λ (n : Method). n.selector) (take i methods) (m ∷ []) in
    let split : selectors_of methods ≡ firsts ++ m.selector ∷ selectors_of (drop (suc i) methods) =
    ap selectors_of (split_at methods i m within
    ∙ ap (λ x. take i methods ++ x ∷ drop (suc i) methods) (sym is_there))
    ∙ map-append (λ (n : Method). n.selector) (take i methods) (m ∷ drop (suc i) methods) in
    let absent =
    place_of-before firsts m.selector (selectors_of (drop (suc i) methods))
    (subst (IsDistinct bytes_eq) split distinct) in
    let is_last : i ≡ length firsts =
    sym (length-map (take i methods) (λ (n : Method). n.selector)
    ∙ length-take-le i methods (omega arith)) in
    subst (λ texts. IsIndexOf texts after) (sym next)
    (IsIndexOf-push firsts m.selector before after i is_last absent updates index)
