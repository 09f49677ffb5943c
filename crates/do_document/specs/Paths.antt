-- How a place in a document is written.
use Rattle.std.specs.Prelude.{ℕ, List, [], ◌++◌, codes, decimal}
use Rattle.do_document.specs.declared.place.Place.{Place, TheVariants.{Top, Class, Method, Node}}
use Rattle.do_document.specs.declared.place.Place.TheVariants.{Allowed, Denied}

-- a member of a list, counted from 0
unfoldable pub numbered : List ℕ → ℕ → List ℕ
numbered list k = list ++ codes "[" ++ decimal k ++ codes "]"

-- what stands in front of the keys of a member of a class's list
abbrev pub in_class : ℕ → List ℕ → ℕ → List ℕ
in_class k list j = numbered (codes "class") k ++ codes "." ++ numbered list j ++ codes "."

-- what stands in front of a table's keys
abbrev pub front : Place → List ℕ
front Top = []
front (Class k) = numbered (codes "class") k ++ codes "."
front (Method k j) = in_class k (codes "method") j
front (Allowed k j) = in_class k (codes "allow") j
front (Denied k j) = in_class k (codes "deny") j
front (Node k) = numbered (codes "node") k ++ codes "."

-- a key of the table at a place, as `class[0].method[1].types`
unfoldable pub path : Place → List ℕ → List ℕ
path place key = front place ++ key
