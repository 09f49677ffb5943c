-- What holds of each entry of a table holds of what is found in it and of what is left.
use Rattle.std.proofs.Common.{ℕ, Bool, true, false, cond, List as Listed, [], ◌∷◌, map, ◌∙◌}
use Rattle.std.specs.{Prelude.Some, List.AllByRecursion, Option.IfSome, Str.bytes_eq}
use Rattle.do_base.specs.declared.values.value.Value.TheVariants.{Text}
use Rattle.do_table.specs.Entries.{removed, value_of}
use Rattle.do_kept.proofs.{Limited.{AllHaveAtoms, atoms-Text}, ReadValues.AreOfBytes}

-- the value of a name
pub value_is : {V : Type 0} (P : V → Type 0) (es : Listed (Listed ℕ × V)) (name : Listed ℕ) →
    AllByRecursion (λ (e : Listed ℕ × V). P e.1) es → IfSome (value_of es name) P
value_is {V} P [] name h = tt
value_is {V} P (e ∷ es) name h = go (bytes_eq name e.0) (value_is P es name h.1)
  where
    go : (b : Bool) → IfSome (value_of es name) P →
        IfSome (cond b (Some e.1) (value_of es name)) P
    go true k = h.0
    go false k = k

-- the entries without one
pub removed_are : {V : Type 0} (P : Listed ℕ × V → Type 0) (es : Listed (Listed ℕ × V))
    (name : Listed ℕ) → AllByRecursion P es → AllByRecursion P (removed es name)
removed_are {V} P [] name h = tt
removed_are {V} P (e ∷ es) name h = go (bytes_eq name e.0) (removed_are P es name h.1)
  where
    go : (b : Bool) → AllByRecursion P (removed es name) →
        AllByRecursion P (cond b es (e ∷ removed es name))
    go true k = h.1
    go false k = (h.0, k)

-- texts of bytes have atoms
pub texts_atoms : (ts : Listed (Listed ℕ)) → AreOfBytes ts → AllHaveAtoms (map Text ts)
texts_atoms [] h = tt
texts_atoms (t ∷ ts) h = (atoms-Text t ∙ h.0, texts_atoms ts h.1)
