-- Which objects are among others.
use Rattle.std.proofs.Common.{◌≡◌, ◌||◌, Bool, true, List, [], ◌∷◌, filter, fold, refl, sym, ◌∙◌}
use Rattle.std.proofs.{Common.{◌⊎◌, arith}, lemmas.List.Sorted.list_any-IsPermutation}
use Rattle.do_base.specs.names.Names.{ObjectName}
use Rattle.do_packet.specs.Met.{has_object, same_object}
use Rattle.do_machine.specs.{Lists.inserted, Objects.{joined, object_lt}}
use Rattle.do_machine.proofs.{Bools.or_cases, Inserting.inserted_moves}

-- what is among the elements that pass is among all, and passes
pub has_passing : (p : ObjectName → Bool) (os : List ObjectName) (o : ObjectName) →
    has_object (filter p os) o ≡ true → has_object os o ≡ true
has_passing p [] o h = h
has_passing p (x ∷ os) o h = grind (arith, h, has_passing p os o)

-- names of one object are equal
pub same_is : (a b : ObjectName) → same_object a b ≡ true → a ≡ b
same_is a b h = search (Rattle.std.proofs.Common.rules, h)

-- an object passes where what it is among passes
pub passes_among : (p : ObjectName → Bool) (os : List ObjectName) (o : ObjectName) →
    has_object (filter p os) o ≡ true → p o ≡ true
passes_among p [] o h = absurd (cc)
passes_among p (x ∷ os) o h = grind (arith, h, passes_among p os o, same_is o x)

-- an object is among those after one joined
has_one_joined : (os : List ObjectName) (x o : ObjectName) →
    has_object (joined os x) o ≡ (same_object o x || has_object os o)
has_one_joined os x o =
    let moves = inserted_moves object_lt x os in
    let same = list_any-IsPermutation (same_object o) (x ∷ os) (inserted object_lt x os) moves in
    grind (arith, same, same_is o x)

-- an object is among those after some joined
pub has_joined_all : (os more : List ObjectName) (o : ObjectName) →
    has_object (fold joined os more) o ≡ (has_object more o || has_object os o)
has_joined_all os [] o = refl
has_joined_all os (x ∷ more) o =
    grind (arith, has_joined_all (joined os x) more o, has_one_joined os x o)

-- and so it is one of them, or was there
pub has_all_joined : (os more : List ObjectName) (o : ObjectName) →
    has_object (fold joined os more) o ≡ true →
    (has_object more o ≡ true) ⊎ (has_object os o ≡ true)
has_all_joined os more o h =
    or_cases (has_object more o) (has_object os o) (sym (has_joined_all os more o) ∙ h)
