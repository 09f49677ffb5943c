-- One element more whose names are among those of a list.
use Rattle.std.proofs.Common.{◌≡◌, ◌∙◌, ◌++◌, ◌||◌, ◌+◌, ◌<◌, ℕ, Bool, true, false, List, []}
use Rattle.std.{proofs.Common.{get_or, length, take, refl, sym, ap}, specs.List.flat_map}
use Rattle.std.proofs.lemmas.{Grind.flat_map-append, List.{append-nil, Folds.list_any-append}}
use Rattle.do_base.specs.names.Names.{ObjectName}
use Rattle.do_leaks.proofs.Growing.{grown}
use Rattle.do_packet.specs.Met.{has_object, same_object}

-- one of three, in whatever order they are taken
or_assoc : (a b c : Bool) → ((a || b) || c) ≡ (a || (b || c))
or_assoc true b c = refl
or_assoc false b c = refl

module _ {X : Type 0} (f : X → List ObjectName) (o : ObjectName) where
  -- an object is named by two lists where it is by one
  named_apart : (xs ys : List X) → has_object (flat_map f (xs ++ ys)) o
      ≡ (has_object (flat_map f xs) o || has_object (flat_map f ys) o)
  named_apart xs ys =
      ap (λ os. has_object os o) (flat_map-append f xs ys)
      ∙ list_any-append (same_object o) (flat_map f xs) (flat_map f ys)

  -- one more is named beside what was named before
  pub named_more : (xs : List X) (i : ℕ) (x : X) (before now after : Bool) → i < length xs →
      x ≡ get_or xs i x → now ≡ (before || has_object (flat_map f (take i xs)) o) →
      after ≡ (now || has_object (f x) o) →
      after ≡ (before || has_object (flat_map f (take (i + 1) xs)) o)
  named_more xs i x before now after within is had more =
      grown (λ ys. has_object (flat_map f ys) o) (λ a b. a || b) named_apart or_assoc xs i x
      (has_object (f x) o) within is (ap (λ os. has_object os o) (append-nil (f x))) had more

-- names in three parts, of which the first are known one by one
pub named_whole : (o : ObjectName) (none first second third sites ways told : List ObjectName) →
    none ≡ [] → has_object first o ≡ (has_object none o || has_object sites o) →
    second ≡ first ++ ways → third ≡ second ++ told →
    has_object third o ≡ has_object (sites ++ ways ++ told) o
named_whole o none first second third sites ways told empty known more last =
    let here : has_object first o ≡ has_object sites o =
    known ∙ ap (λ os. has_object os o || has_object sites o) empty in
    ap (λ os. has_object os o) (last ∙ ap (λ os. os ++ told) more)
    ∙ list_any-append (same_object o) (first ++ ways) told
    ∙ ap (λ b. b || has_object told o) (list_any-append (same_object o) first ways
    ∙ ap (λ b. b || has_object ways o) here ∙ sym (list_any-append (same_object o) sites ways))
    ∙ sym (list_any-append (same_object o) (sites ++ ways) told)
