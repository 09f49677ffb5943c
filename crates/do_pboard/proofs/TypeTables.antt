-- Types that a pasteboard can have are a table, with data or without.
use Rattle.std.proofs.Common.{◌≡◌, ℕ, true, List, Some, None, ◌∙◌, ap}
use Rattle.std.specs.Prelude.{if◌then◌else◌}
use Rattle.do_native_acts.specs.Types.{are_types}
use Rattle.do_table.specs.Entries.{once}
use Rattle.do_pboard.specs.Core.{Content, Declared, are_declared, bare, merged}
use Rattle.do_pboard.specs.laws.{MergedExact.merged_back, SlotsExact.declared_parts}
use Rattle.do_pboard.proofs.TypesAdded.{keys_bare}

-- declared types are a table
once_declared : (ts : List Declared) → are_declared ts ≡ true → once ts ≡ Some ts
once_declared ts is = ap (λ b. if b then Some ts else None) (declared_parts ts is).2

-- so are types without data
pub once_bare : (types : List (List ℕ)) → are_types types ≡ true
    → once (bare types) ≡ Some (bare types)
once_bare types is = once_declared (bare types) (ap are_types (keys_bare types) ∙ is)

-- and types with their data
pub once_merged : (types : List (List ℕ)) (data_of : List Content) (ts : List Declared)
    → are_types types ≡ true → merged types data_of ≡ Some ts → once ts ≡ Some ts
once_merged types data_of ts is from =
    once_declared ts (ap are_types (merged_back types data_of ts from).0 ∙ is)
