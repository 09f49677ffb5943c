-- A type that takes data: which types are there, and what they have.
use Rattle.std.proofs.Common.{◌≡◌, ℕ, true, List, Option, Some, ◌∙◌, ap, is_some}
use Rattle.std.specs.{Prelude.{if◌then◌else◌, cond}, Map.keys_of, Str.bytes_eq}
use Rattle.std.proofs.lemmas.{Cmp.nat_list_eq_equiv, Map.{keys-set_value, lookup-set_value}}
use Rattle.do_table.specs.Entries.{value_of, replaced}
use Rattle.do_pboard.specs.Core.{Declared}

module _ (kind : List ℕ) (content : Option (List ℕ)) where
  -- the same types stay once one takes data
  pub keys_replaced : (ts : List Declared) → keys_of (replaced ts kind content) ≡ keys_of ts
  keys_replaced ts = keys-set_value (bytes_eq kind) ts content

  -- what any type has then
  pub value_replaced : (ts : List Declared) (other : List ℕ) → is_some (value_of ts kind) ≡ true
      → value_of (replaced ts kind content) other
      ≡ (if bytes_eq other kind then Some content else value_of ts other)
  value_replaced ts other there =
      lookup-set_value nat_list_eq_equiv (bytes_eq kind) (nat_list_eq_equiv.congr kind) other
      content ts there
      ∙ ap (λ b. cond b (Some content) (value_of ts other)) (nat_list_eq_equiv.symm kind other)
