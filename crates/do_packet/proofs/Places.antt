-- A map that has each object at its place.
use Rattle.std.proofs.Common.{◌≡◌, ℕ, Bool, true, false, cond, List, [], ◌∷◌, ◌++◌, length, Option}
use Rattle.std.proofs.Common.{Some, None, refl, sym, ap, ◌∙◌, arith, ⊎_elim}
use Rattle.std.specs.{BTreeMap.{BTreeMap, Updates, get, is_at}, List.{list_any, position}}
use Rattle.std.{specs.List.position_or_len, proofs.lemmas.{Bool.cases_Bool, Grind.common_steps}}
use Rattle.std.proofs.lemmas.List.{Folds.position_or_len_push, Sums.prefix_len-le-length}
use Rattle.do_base.specs.names.Names.{ObjectName}
use Rattle.do_packet.specs.{Met.{met_one, place, same_object}, walk.Places.{ArePlaces, object_cmp}}
use Rattle.do_packet.proofs.{Once.same_is, Walks.same_object-refl}

-- an item that fails the test changes nothing
push_fail : (p : ObjectName → Bool) (xs : List ObjectName) (y : ObjectName) → p y ≡ false →
    position p (xs ++ y ∷ []) ≡ position p xs
push_fail p xs y fails =
    grind (arith, common_steps, position_or_len_push, prefix_len-le-length)

-- the first item that passes stands at the end
push_pass : (p : ObjectName → Bool) (xs : List ObjectName) (y : ObjectName) → p y ≡ true →
    position p xs ≡ None → position p (xs ++ y ∷ []) ≡ Some (length xs)
push_pass p xs y passes none =
    grind (arith, common_steps, position_or_len_push, prefix_len-le-length)

-- an object that the map does not have is not in the list
none_any : (p : ObjectName → Bool) (xs : List ObjectName) → position p xs ≡ None →
    list_any p xs ≡ false
none_any p [] none = refl
none_any p (x ∷ xs) none =
    let rest : position p xs ≡ None → list_any p xs ≡ false = none_any p xs in
    grind (arith, common_steps, prefix_len-le-length)

-- and its place would be the next
none_place : (p : ObjectName → Bool) (xs : List ObjectName) → position p xs ≡ None →
    position_or_len p xs ≡ length xs
none_place p xs none = grind (arith, common_steps, prefix_len-le-length)

-- an object that is not in the list has no place
any_none : (p : ObjectName → Bool) (xs : List ObjectName) → list_any p xs ≡ false →
    position p xs ≡ None
any_none p [] none = refl
any_none p (x ∷ xs) none =
    let rest : list_any p xs ≡ false → position p xs ≡ None = any_none p xs in
    grind (arith, common_steps, prefix_len-le-length)

-- an object that the map has is in the list
some_any : (p : ObjectName → Bool) (xs : List ObjectName) (k : ℕ) → position p xs ≡ Some k →
    list_any p xs ≡ true
some_any p xs k some = go (list_any p xs) refl
  where
    go : (b : Bool) → list_any p xs ≡ b → b ≡ true
    go true e = refl
    go false e = let none = any_none p xs e in absurd (cc)

-- at its place
some_place : (p : ObjectName → Bool) (xs : List ObjectName) (k : ℕ) → position p xs ≡ Some k →
    position_or_len p xs ≡ k
some_place p xs k some = grind (arith, common_steps, prefix_len-le-length)

-- names are equal in the order exactly where they are of one object
pub cmp_same : (a b : ObjectName) → is_at (object_cmp a) b ≡ same_object a b
cmp_same a b = grind (arith, common_steps)

-- where the map has an object, meeting it changes nothing
pub met_known : (os : List ObjectName) (o : ObjectName) (k : ℕ) →
    position (same_object o) os ≡ Some k → (met_one os o ≡ os) × (place os o ≡ k)
met_known os o k e = (
  ap (λ b. cond b os (os ++ o ∷ [])) (some_any (same_object o) os k e),
  some_place (same_object o) os k e,
)

-- where it has not, the object is put at the end
pub met_new : (os : List ObjectName) (o : ObjectName) → position (same_object o) os ≡ None →
    (met_one os o ≡ os ++ o ∷ []) × (place os o ≡ length os)
met_new os o e = (
  ap (λ b. cond b os (os ++ o ∷ [])) (none_any (same_object o) os e),
  none_place (same_object o) os e,
)

-- and so it is in the map
pub places_push : (os : List ObjectName) (o : ObjectName) (old new : BTreeMap ObjectName ℕ)
    (k : ℕ) → k ≡ length os → position (same_object o) os ≡ None →
    Updates object_cmp old new o (Some k) → ArePlaces os old → ArePlaces (os ++ o ∷ []) new
places_push os o old new k last absent updates places = λ q.
    let before : Option ℕ = get object_cmp old q in
    let chosen = λ (b : Bool) (e : same_object o q ≡ b).
    updates.0 q ∙ ap (λ t. cond t (Some k) before) (cmp_same o q ∙ e) in
    ⊎_elim
    (λ e.
    let here : same_object q o ≡ true = rw (same_is o q e) (same_object-refl q) in
    let none : position (same_object q) os ≡ None =
    ap (λ x. position (same_object x) os) (sym (same_is o q e)) ∙ absent in
    chosen true e ∙ ap Some last ∙ sym (push_pass (same_object q) os o here none))
    (λ e.
    let apart : same_object q o ≡ false = grind (arith, common_steps) in
    chosen false e ∙ places q ∙ sym (push_fail (same_object q) os o apart))
    (cases_Bool (same_object o q))
