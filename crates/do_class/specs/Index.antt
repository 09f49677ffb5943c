-- What makes a look-up by text exact.
use Rattle.std.specs.{Prelude.{◌≡◌, ℕ, List}, BTreeMap.{BTreeMap, get}, Cmp.Lexicographic.slice_cmp}
use Rattle.std.specs.Ordering.{nat_cmp}
use Rattle.do_class.specs.Class.{Class, IsClass, place_of, selectors_of}
use Rattle.do_class.specs.Table.{IsTable, names_of}

-- the map has each text at its place, and no other text
abbrev pub IsIndexOf : List (List ℕ) → BTreeMap (List ℕ) ℕ → Type 0
IsIndexOf texts places = (text : List ℕ) → get (slice_cmp nat_cmp) places text ≡ place_of text texts

-- a class within the limits, and where its methods stand
pub record IsIndexed (c : Class) (places : BTreeMap (List ℕ) ℕ) : Type 0 where
  pub class : IsClass c
  pub index : IsIndexOf (selectors_of c.methods) places

-- a table, and where its classes stand
pub record IsIndexedTable (table : List Class) (places : BTreeMap (List ℕ) ℕ) : Type 0 where
  pub limits : IsTable table
  pub index : IsIndexOf (names_of table) places
