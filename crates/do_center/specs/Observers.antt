-- What is kept by observer.
use Rattle.std.specs.Prelude.{ℕ, suc, Bool, true, not, ◌&&◌, ◌==◌, Option, Some, None, List, []}
use Rattle.std.specs.{Prelude.{◌∷◌, if◌then◌else◌}, List.list_any, Option.option_map}
use Rattle.std.specs.Set.{remove_key}
use Rattle.do_base.specs.names.Names.{ObjectName}

-- two names of one object
abbrev pub same_object : ObjectName → ObjectName → Bool
same_object a b = (a.node == b.node) && (a.serial == b.serial)

-- the place of the first that is an observer's
abbrev pub first_of : {A : Type 0} → (A → ObjectName) → List A → ObjectName → Option ℕ
first_of observer [] o = None
first_of observer (x ∷ xs) o =
    if same_object (observer x) o then Some 0 else option_map suc (first_of observer xs o)

-- all but the first that is an observer's
abbrev pub without_first : {A : Type 0} → (A → ObjectName) → List A → ObjectName → List A
without_first observer [] o = []
without_first observer (x ∷ xs) o =
    if same_object (observer x) o then xs else x ∷ without_first observer xs o

-- the object is among these
abbrev pub has_object : List ObjectName → ObjectName → Bool
has_object os o = list_any (same_object o) os

-- these without one
abbrev pub without_object : List ObjectName → ObjectName → List ObjectName
without_object os o = remove_key (same_object o) os

-- no object is there twice
abbrev pub are_distinct : List ObjectName → Bool
are_distinct [] = true
are_distinct (o ∷ os) = not (has_object os o) && are_distinct os
