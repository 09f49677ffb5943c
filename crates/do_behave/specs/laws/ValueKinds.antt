-- A value by its kind, with the answer to a question on it.
use Rattle.std.proofs.Common.{◌≡◌, ℕ, ℤ, List as Listed, Option, Some, None, subst, sym, rules}
use Rattle.do_base.specs.{values.Kinds.{items, text}, names.Names.ObjectName}
use Rattle.do_base.specs.values.Induction.{value_induction}
use Rattle.do_base.specs.declared.values.value.Value.{Value, List, the_lemmas}
use Rattle.do_base.specs.declared.values.value.Value.TheVariants.{Nil, Num, Text, Obj}

items-Nil : items Nil ≡ None
items-Nil = search (rules, the_lemmas)

items-Num : (z : ℤ) → items (Num z) ≡ None
items-Num z = search (rules, the_lemmas)

items-Text : (s : Listed ℕ) → items (Text s) ≡ None
items-Text s = search (rules, the_lemmas)

items-Obj : (o : ObjectName) → items (Obj o) ≡ None
items-Obj o = search (rules, the_lemmas)

pub items-List : (vs : Listed Value) → items (List vs) ≡ Some vs
items-List vs = search (rules, the_lemmas)

-- what holds of each list with its items, and of every value with none, holds of every value
pub by_items : (P : Option (Listed Value) → Value → Type 0) → ((v : Value) → P None v)
    → ((vs : Listed Value) → P (Some vs) (List vs)) → (v : Value) → P (items v) v
by_items P none some =
    value_induction (λ v. P (items v) v)
    (subst (λ o. P o Nil) (sym items-Nil) (none Nil))
    (λ z. subst (λ o. P o (Num z)) (sym (items-Num z)) (none (Num z)))
    (λ s. subst (λ o. P o (Text s)) (sym (items-Text s)) (none (Text s)))
    (λ o. subst (λ k. P k (Obj o)) (sym (items-Obj o)) (none (Obj o)))
    (λ vs _. subst (λ o. P o (List vs)) (sym (items-List vs)) (some vs))

text-Nil : text Nil ≡ None
text-Nil = search (rules, the_lemmas)

text-Num : (z : ℤ) → text (Num z) ≡ None
text-Num z = search (rules, the_lemmas)

text-Text : (s : Listed ℕ) → text (Text s) ≡ Some s
text-Text s = search (rules, the_lemmas)

text-Obj : (o : ObjectName) → text (Obj o) ≡ None
text-Obj o = search (rules, the_lemmas)

text-List : (vs : Listed Value) → text (List vs) ≡ None
text-List vs = search (rules, the_lemmas)

-- what holds of each text with its bytes, and of every value with none, holds of every value
pub by_text : (P : Option (Listed ℕ) → Value → Type 0) → ((v : Value) → P None v)
    → ((s : Listed ℕ) → P (Some s) (Text s)) → (v : Value) → P (text v) v
by_text P none some =
    value_induction (λ v. P (text v) v)
    (subst (λ o. P o Nil) (sym text-Nil) (none Nil))
    (λ z. subst (λ o. P o (Num z)) (sym (text-Num z)) (none (Num z)))
    (λ s. subst (λ o. P o (Text s)) (sym (text-Text s)) (some s))
    (λ o. subst (λ k. P k (Obj o)) (sym (text-Obj o)) (none (Obj o)))
    (λ vs _. subst (λ o. P o (List vs)) (sym (text-List vs)) (none (List vs)))
