-- The lists of methods that a class may have.
use Rattle.do_document.specs.declared.lists.MethodList.TheVariants as lists
use Rattle.do_document.specs.declared.place.Place.TheVariants as at
use Rattle.std.specs.Prelude.{ℕ, List, [], ◌∷◌, codes}
use Rattle.do_document.specs.declared.{lists.MethodList.MethodList, place.Place.Place}

-- the key at which a list stands in its class
abbrev pub key_of : MethodList → List ℕ
key_of lists.Own = codes "method"
key_of lists.Allowed = codes "allow"
key_of lists.Denied = codes "deny"

-- the keys that a table of a list may have
abbrev pub keys_of : MethodList → List (List ℕ)
keys_of lists.Own = codes "code" ∷ codes "selector" ∷ codes "types" ∷ []
keys_of lists.Allowed = codes "selector" ∷ codes "types" ∷ []
keys_of lists.Denied = codes "rule" ∷ codes "selector" ∷ codes "types" ∷ []

-- the place of a table in a list of a class, by their numbers
abbrev pub place_of : MethodList → ℕ → ℕ → Place
place_of lists.Own class k = at.Method class k
place_of lists.Allowed class k = at.Allowed class k
place_of lists.Denied class k = at.Denied class k
