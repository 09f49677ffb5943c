-- What stands in a document: at the keys of a table, and in a list.
use Rattle.std.specs.{Prelude.{ℕ, List, [], ◌∷◌, Option, option_and_then}, List.filter_map}
use Rattle.std.specs.Option.{option_map_or}
use Rattle.toml.specs.Data.{Data, Items, no_items, item, Members, no_members, member, get_member}
use Rattle.toml.specs.Data.{as_array, as_str, as_table}

-- the keys of a table, which stand in it by rising bytes
abbrev pub keys : Members → List (List ℕ)
keys no_members = []
keys (member key d more) = key ∷ keys more

-- the members of a list
abbrev pub members : Items → List Data
members no_items = []
members (item d more) = d ∷ members more

-- the text at a key
unfoldable pub text_at : List ℕ → Members → Option (List ℕ)
text_at key t = option_and_then as_str (get_member key t)

-- the members of the list at a key; where no list stands there are none
unfoldable pub members_at : List ℕ → Members → List Data
members_at key t = option_map_or members (option_and_then as_array (get_member key t)) []

-- the tables among the members of the list at a key
unfoldable pub tables_at : List ℕ → Members → List Members
tables_at key t = filter_map as_table (members_at key t)

-- the texts among the members of the list at a key
unfoldable pub texts_at : List ℕ → Members → List (List ℕ)
texts_at key t = filter_map as_str (members_at key t)
