-- Lists, and what else can be counted.
use Rattle.std.specs.Prelude.{ℕ, ℤ, pos, negsuc, [], ◌∷◌, ◌++◌, Bool, ◌&&◌, nat_le, if◌then◌else◌}
use Rattle.std.specs.Prelude.{Option, Some, None, List as Listed, length, slice_get}
use Rattle.do_base.specs.values.{Kinds.{items, number}, Values.weight_of}
use Rattle.do_base.specs.declared.values.value.Value.{Value, List, out-Value, TheVariants.Num}
use Rattle.do_base.specs.declared.values.value.Value.TheOpen.{Value-F}
use Rattle.do_base.specs.declared.events.exception.Exc.TheVariants.{Range}
use Rattle.do_grammar.specs.Words.{◌>>?◌}
use Rattle.do_behave.specs.{Limits.nests_within, Steps.{local, gives}}
use Rattle.do_behave.specs.declared.{invocation.Invocation.Invocation, act.Act.Act}
use Rattle.do_behave.specs.declared.act.Act.TheVariants.{Raise}

-- a list within the limits on items, nesting and weight
abbrev pub can_be : Listed Value → Bool
can_be vs =
    nat_le (length vs) 1024 && (nests_within (List vs) 8 && nat_le (weight_of (List vs)) 2097152)

-- gives the list, or raises Range past a limit
abbrev pub gives_list : Invocation → ℕ → Listed Value → Act
gives_list inv into vs = if can_be vs then gives inv into (List vs) else Raise Range

-- appends a value to the list in a local
abbrev pub pushes : Invocation → ℕ → ℕ → Option Act
pushes inv list item =
    local inv list >>? items >>? λ vs. local inv item >>? λ v.
    Some (gives_list inv list (vs ++ v ∷ []))

-- gives a value that was found, or raises Range
abbrev pub gives_found : Invocation → ℕ → Option Value → Act
gives_found inv into None = Raise Range
gives_found inv into (Some value) = gives inv into value

-- the item at an index, from 0
abbrev pub item_at : Listed Value → ℤ → Option Value
item_at vs (pos k) = slice_get vs k
item_at vs (negsuc k) = None

-- gives the item of a list at an index
abbrev pub picks : Invocation → ℕ → ℕ → ℕ → Option Act
picks inv into list index =
    local inv list >>? items >>? λ vs. local inv index >>? number >>? λ at.
    Some (gives_found inv into (item_at vs at))

abbrev count_in : Value-F Value → Option ℕ
count_in Value-F.Nil = Some 0
count_in (Value-F.Text s) = Some (length s)
count_in (Value-F.List vs) = Some (length vs)
count_in _ = None

-- how many items or bytes a value holds
abbrev pub count : Value → Option ℕ
count v = count_in (out-Value v)

-- gives how many items or bytes a local holds
abbrev pub counts : Invocation → ℕ → ℕ → Option Act
counts inv into of = local inv of >>? count >>? λ n. Some (gives inv into (Num (pos n)))
