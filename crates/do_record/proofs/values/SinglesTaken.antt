-- What is read as a value without a list is spelled as one.
use Rattle.std.proofs.Common.{◌≡◌, ℕ, Bool, true, false, cond, List as Listed, ◌++◌, length, drop}
use Rattle.std.proofs.Common.{Option, Some, None, refl, sym, ap, subst, ◌∙◌, rules, inl, inr}
use Rattle.std.proofs.{Common.append_assoc, Math.Seq.drop-append_seam}
use Rattle.std.specs.{Prelude.{ℤ, ◌||◌, is_some, codes, option_map}, Str.bytes_eq}
use Rattle.std.proofs.lemmas.{Bool.or_cases, Slice.Eq.bytes_eq-Decides}
use Rattle.do_base.specs.declared.values.value.Value.{Value, the_lemmas}
use Rattle.do_base.specs.declared.values.value.Value.TheVariants.{Nil, Num, Obj, Text}
use Rattle.do_base.specs.{names.Names.ObjectName, values.Texts.longest_text}
use Rattle.do_grammar.specs.{Dec.int_in, Quoted.quoted_at, Words.part}
use Rattle.do_grammar.proofs.texts.{IntExact.int_takes, QuotedExact.quoted_takes}
use Rattle.do_grammar.proofs.texts.WordExact.{part_takes}
use Rattle.do_sched.specs.{Good.{nil, number, text}, Value.{object_name, value_text}}
use Rattle.do_sched.proofs.ValuesExact.{value_text-Nil, value_text-Num, value_text-Text}
use Rattle.do_record.specs.GoodShown.{IsSingle, plain, object}
use Rattle.do_record.specs.Value.{Walked, behind_leaf, behind_quote, is_leaf, is_object, leaf_at}
use Rattle.do_record.proofs.values.ObjectsExact.{object_takes}

-- an object is spelled by its name
pub value_text-Obj : (o : ObjectName) → value_text (Obj o) ≡ object_name o
value_text-Obj o = search (rules, the_lemmas)

-- ---- what is read is spelled so

-- the value without a list that begins some bytes, and what is left
pub record TakesSingle (bytes rest : Listed ℕ) : Type 0 where
  pub value : Value
  pub spelled : bytes ≡ value_text value ++ rest
  pub good : IsSingle value

-- a word is a value
word_is : (w : Listed ℕ) → is_leaf w ≡ true → (v : Value) × (w ≡ value_text v) × IsSingle v
word_is w h = elim (or_cases (bytes_eq w (codes "nil") || is_some (int_in w)) (is_object w) h) [
  | inl first ↦ elim (or_cases (bytes_eq w (codes "nil")) (is_some (int_in w)) first) [
    | inl is_nil ↦ (
      Nil,
      (bytes_eq-Decides w (codes "nil")).0 is_nil ∙ sym value_text-Nil,
      plain (nil refl),
    )
    | inr is_number ↦ at_number (int_in w) refl is_number
  ]
  | inr named ↦
      let n = object_takes w named in (
        Obj n.named,
        n.spelled ∙ sym (value_text-Obj n.named),
        object n.named refl n.good,
      )
]
  where
    at_number : (o : Option ℤ) → int_in w ≡ o → is_some o ≡ true
        → (v : Value) × (w ≡ value_text v) × IsSingle v
    at_number None e q = absurd cc
    at_number (Some n) e q =
        let t = int_takes w n e in (
          Num n,
          t.0 ∙ sym (value_text-Num n),
          plain (number n refl t.1),
        )

-- the word that begins some bytes stands before the rest
leaf_parts : (bytes : Listed ℕ) → bytes ≡ leaf_at bytes ++ drop (length (leaf_at bytes)) bytes
leaf_parts bytes =
    let front = (part 32 bytes).0 in
    let more = (part 93 front).1 ++ (part 32 bytes).1 in
    let parts : bytes ≡ leaf_at bytes ++ more =
    part_takes 32 bytes ∙ ap (λ w. w ++ (part 32 bytes).1) (part_takes 93 front)
    ∙ append_assoc (leaf_at bytes) (part 93 front).1 (part 32 bytes).1 in
    parts ∙ ap (λ w. leaf_at bytes ++ w) (sym (drop-append_seam (leaf_at bytes) more)
    ∙ ap (drop (length (leaf_at bytes))) (sym parts))

-- a step that was taken is this one
walked_is : (s t : Walked) → ◌≡◌ {A = Option Walked} (Some s) (Some t) → s ≡ t
walked_is s t e = cc

-- what is walked as one word is a value
pub leaf_takes : (depth : ℕ) (bytes : Listed ℕ) (s : Walked) → behind_leaf depth bytes ≡ Some s
    → ((false, depth, s.2) ≡ s) × TakesSingle bytes s.2
leaf_takes depth bytes s h = go (is_leaf (leaf_at bytes)) refl h
  where
    go : (t : Bool) → is_leaf (leaf_at bytes) ≡ t
        → ◌≡◌ {A = Option Walked}
        (cond t (Some (false, depth, drop (length (leaf_at bytes)) bytes)) None) (Some s)
        → ((false, depth, s.2) ≡ s) × TakesSingle bytes s.2
    go true p q =
        let same = walked_is (false, depth, drop (length (leaf_at bytes)) bytes) s q in
        let w = word_is (leaf_at bytes) p in
        subst (λ (x : Walked). ((false, depth, x.2) ≡ x) × TakesSingle bytes x.2) same (
          refl,
          record {
            value = w.0;
            spelled = leaf_parts bytes ∙ ap (λ u. u ++ drop (length (leaf_at bytes)) bytes) w.1;
            good = w.2;
          },
        )
    go false p q = absurd cc

-- what is walked as a text in quotes is a value
pub quote_takes : (depth : ℕ) (bytes : Listed ℕ) (s : Walked)
    → behind_quote depth (option_map (λ x. x.1) (quoted_at longest_text bytes)) ≡ Some s
    → ((false, depth, s.2) ≡ s) × TakesSingle bytes s.2
quote_takes depth bytes s h = go (quoted_at longest_text bytes) refl h
  where
    go : (o : Option (Listed ℕ × Listed ℕ)) → quoted_at longest_text bytes ≡ o
        → behind_quote depth (option_map (λ x. x.1) o) ≡ Some s
        → ((false, depth, s.2) ≡ s) × TakesSingle bytes s.2
    go None p q = absurd cc
    go (Some x) p q =
        let same = walked_is (false, depth, x.1) s q in
        let t = quoted_takes longest_text bytes x.0 x.1 p in
        subst (λ (y : Walked). ((false, depth, y.2) ≡ y) × TakesSingle bytes y.2) same (
          refl,
          record {
            value = Text x.0;
            spelled = t.0 ∙ ap (λ w. w ++ x.1) (sym (value_text-Text x.0));
            good = plain (text x.0 refl t.1 t.2);
          },
        )
