-- The values of a line are read exactly.
use Rattle.std.proofs.Common.{◌≡◌, ℕ, zero, suc, Bool, true, false, cond, eqb, List as Listed, []}
use Rattle.std.proofs.Common.{◌∷◌, ◌++◌, length, Option, Some, None, refl, sym, ap, subst, ◌∙◌}
use Rattle.std.{proofs.Common.{arith, rules}, specs.Prelude.{ℤ, ◌<◌, ◌^◌, ◌==◌, not, codes}}
use Rattle.std.specs.{Int.Signed.mag, List.{flat_map, AllByRecursion}, Fmt.signed_decimal}
use Rattle.std.{specs.Str.bytes_eq, proofs.lemmas.{Bool.eqb-true, Slice.Eq.bytes_eq-Decides}}
use Rattle.do_base.specs.declared.values.value.Value.{Value, the_lemmas}
use Rattle.do_base.specs.declared.values.value.Value.TheVariants.{Nil, Num, Text}
use Rattle.do_grammar.specs.{Dec.{dec_in, int_in}, Quoted.{quoted, quoted_at}}
use Rattle.do_grammar.specs.Words.{◌>>?◌, part, EndsBefore, Without}
use Rattle.do_grammar.proofs.texts.WordBytes.{some_is, chain_some, Without-passes}
use Rattle.do_grammar.proofs.texts.WordExact.{part_takes, part_again}
use Rattle.do_grammar.proofs.texts.IntExact.{int_takes, int_again, Without-signed}
use Rattle.do_grammar.proofs.texts.QuotedExact.{quoted_takes, quoted_again}
use Rattle.do_sched.specs.{Value.value_text, Spelling.spaced_value, Good.{IsPlain, nil, number}}
use Rattle.do_sched.specs.{Good.text, Reading.{word_value, is_quote_first, plain_at, values_at}}

-- ---- how plain values are spelled

-- nil is spelled by its name
pub value_text-Nil : value_text Nil ≡ codes "nil"
value_text-Nil = search (rules, the_lemmas)

-- a number is spelled in digits
pub value_text-Num : (n : ℤ) → value_text (Num n) ≡ signed_decimal n
value_text-Num n = search (rules, the_lemmas)

-- a text is spelled in quotes
pub value_text-Text : (bytes : Listed ℕ) → value_text (Text bytes) ≡ quoted bytes
value_text-Text bytes = search (rules, the_lemmas)

-- ---- one plain value

-- what is read of a value and of what stands behind it
pub record TakesOne (limit : ℕ) (bytes : Listed ℕ) (x : Value × Listed ℕ) : Type 0 where
  pub spelled : bytes ≡ value_text x.0 ++ x.1
  pub plain : IsPlain limit x.0

-- a word that reads as a value spells it
word_takes_value : (limit : ℕ) (w : Listed ℕ) (v : Value) → word_value w ≡ Some v
    → (w ≡ value_text v) × IsPlain limit v
word_takes_value limit w v e = go (bytes_eq w (codes "nil")) refl e
  where
    go : (t : Bool) → bytes_eq w (codes "nil") ≡ t
        → cond t (Some Nil) (int_in w >>? λ n. Some (Num n)) ≡ Some v
        → (w ≡ value_text v) × IsPlain limit v
    go true h q =
        let same = some_is Nil v q in (
          (bytes_eq-Decides w (codes "nil")).0 h ∙ sym value_text-Nil ∙ ap value_text same,
          nil (sym same),
        )
    go false h q =
        let c = chain_some (int_in w) (λ n. Some (Num n)) v q in
        let i = int_takes w c.0 c.1 in
        let same = some_is (Num c.0) v c.2 in (
          i.0 ∙ sym (value_text-Num c.0) ∙ ap value_text same,
          number c.0 (sym same) i.1,
        )

-- what is read as a plain value is spelled so
pub plain_takes : (limit : ℕ) (bytes : Listed ℕ) (x : Value × Listed ℕ)
    → plain_at limit bytes ≡ Some x → TakesOne limit bytes x
plain_takes limit bytes x e = go (is_quote_first bytes) e
  where
    made : (y : Value × Listed ℕ) → ◌≡◌ {A = Option (Value × Listed ℕ)} (Some y) (Some x)
        → TakesOne limit bytes y → TakesOne limit bytes x
    made y same t = subst (TakesOne limit bytes) (some_is {A = Value × Listed ℕ} y x same) t

    in_quotes : (quoted_at limit bytes >>? λ y. Some (Text y.0, y.1)) ≡ Some x
        → TakesOne limit bytes x
    in_quotes q =
        let c = chain_some (quoted_at limit bytes) (λ y. Some (Text y.0, y.1)) x q in
        let t = quoted_takes limit bytes c.0.0 c.0.1 c.1 in
        made (Text c.0.0, c.0.1) c.2 (record {
          spelled = t.0
              ∙ ap (λ (w : Listed ℕ). w ++ c.0.1) (sym (value_text-Text c.0.0));
          plain = text c.0.0 refl t.1 t.2;
        })

    in_word : (word_value (part 32 bytes).0 >>? λ v. Some (v, (part 32 bytes).1)) ≡ Some x
        → TakesOne limit bytes x
    in_word q =
        let c = chain_some (word_value (part 32 bytes).0) (λ v. Some (v, (part 32 bytes).1)) x q in
        let t = word_takes_value limit (part 32 bytes).0 c.0 c.1 in
        made (c.0, (part 32 bytes).1) c.2 (record {
          spelled = part_takes 32 bytes ∙ ap (λ (w : Listed ℕ). w ++ (part 32 bytes).1) t.0;
          plain = t.1;
        })

    go : (t : Bool)
        → cond t (quoted_at limit bytes >>? λ y. Some (Text y.0, y.1))
        (word_value (part 32 bytes).0 >>? λ v. Some (v, (part 32 bytes).1)) ≡ Some x
        → TakesOne limit bytes x
    go true q = in_quotes q
    go false q = in_word q

-- a quote begins no number
no_number : (bytes : Listed ℕ) → int_in (34 ∷ bytes) ≡ None
unfolding int_in dec_in
no_number bytes = refl

-- nor does `nil` spell one
nil_no_number : int_in (codes "nil") ≡ None
unfolding int_in dec_in
nil_no_number = refl

-- no bytes are no number
nothing_no_number : int_in [] ≡ None
unfolding int_in
nothing_no_number = refl

-- no quote stands before a number
unquoted : (w rest : Listed ℕ) (n : ℤ) → int_in w ≡ Some n → is_quote_first (w ++ rest) ≡ false
unquoted [] rest n e = let none = nothing_no_number in absurd cc
unquoted (b ∷ w) rest n e = go (eqb b 34) refl
  where
    go : (t : Bool) → eqb b 34 ≡ t → eqb b 34 ≡ false
    go true h =
        let none = no_number w in
        let same = ap (λ (x : ℕ). int_in (x ∷ w)) (eqb-true b 34 h) in
        absurd cc
    go false h = h

-- a number is read from its spelling as a word
number_word : (n : ℤ) → mag n < 2 ^ 63 → word_value (signed_decimal n) ≡ Some (Num n)
number_word n fits = go (bytes_eq (signed_decimal n) (codes "nil")) refl
  where
    read : int_in (signed_decimal n) ≡ Some n
    read = int_again n fits

    go : (t : Bool) → bytes_eq (signed_decimal n) (codes "nil") ≡ t
        → word_value (signed_decimal n) ≡ Some (Num n)
    go true h =
        let same = ap int_in ((bytes_eq-Decides (signed_decimal n) (codes "nil")).0 h) in
        let none = nil_no_number in
        let e = read in
        absurd cc
    go false h = rw (h, read) refl

-- no space stands in `nil`
nil_word : Without 32 (codes "nil")
nil_word = Without-passes (λ b. not (b == 32)) 32 (codes "nil") refl refl

-- the value that a word is, and what stands behind it
abbrev valued : Listed ℕ × Listed ℕ → Option (Value × Listed ℕ)
valued w = word_value w.0 >>? λ v. Some (v, w.1)

-- nil is read from its spelling
plain_nil : (limit : ℕ) (rest : Listed ℕ) → EndsBefore 32 rest
    → plain_at limit (codes "nil" ++ rest) ≡ Some (Nil, rest)
plain_nil limit rest ends = ap valued (part_again 32 (codes "nil") rest nil_word ends)

-- and a plain value is read from its spelling, before a space or at the end
pub plain_again : (limit : ℕ) (v : Value) (rest : Listed ℕ) → IsPlain limit v → EndsBefore 32 rest
    → plain_at limit (value_text v ++ rest) ≡ Some (v, rest)
plain_again limit v rest (nil same) ends =
    let bytes : value_text v ≡ codes "nil" = ap value_text same ∙ value_text-Nil in
    ap (λ (w : Listed ℕ). plain_at limit (w ++ rest)) bytes ∙ plain_nil limit rest ends
    ∙ ap (λ (w : Value). Some (w, rest)) (sym same)
plain_again limit v rest (number n same fits) ends =
    let bytes : value_text v ≡ signed_decimal n = ap value_text same ∙ value_text-Num n in
    rw (
      bytes,
      unquoted (signed_decimal n) rest n (int_again n fits),
      part_again 32 (signed_decimal n) rest (Without-signed 32 n (omega arith) fits) ends,
      number_word n fits,
    ) (ap (λ (w : Value). Some (w, rest)) (sym same))
plain_again limit v rest (text bytes same within small) ends =
    let spelled : value_text v ≡ quoted bytes = ap value_text same ∙ value_text-Text bytes in
    rw (spelled, quoted_again limit bytes rest small within)
    (ap (λ (w : Value). Some (w, rest)) (sym same))

-- ---- the values of a line

-- what is read of some values
pub record Takes (limit k : ℕ) (bytes : Listed ℕ) (vs : Listed Value) : Type 0 where
  pub spelled : bytes ≡ flat_map spaced_value vs
  pub enough : length vs ≡ k
  pub plain : AllByRecursion (IsPlain limit) vs

-- a space, a value and the values behind it are one value more
values_more : (limit k b : ℕ) (bytes : Listed ℕ) (x : Value × Listed ℕ) (ws vs : Listed Value)
    → b ≡ 32 → TakesOne limit bytes x → Takes limit k x.1 ws
    → x.0 ∷ ws ≡ vs → Takes limit (suc k) (b ∷ bytes) vs
values_more limit k b bytes x ws vs space one t same =
    let enough = t.enough in
    let behind : bytes ≡ value_text x.0 ++ flat_map spaced_value ws = one.spelled
    ∙ ap (λ (w : Listed ℕ). value_text x.0 ++ w) t.spelled in
    subst (Takes limit (suc k) (b ∷ bytes)) same (record {
      spelled = ap (λ (w : ℕ). w ∷ bytes) space ∙ ap (λ (w : Listed ℕ). 32 ∷ w) behind;
      enough = omega arith;
      plain = (one.plain, t.plain);
    })

-- what is read of so many values is spelled so
pub values_takes : (limit k : ℕ) (bytes : Listed ℕ) (vs : Listed Value)
    → values_at limit k bytes ≡ Some vs → Takes limit k bytes vs
values_takes limit zero [] vs e =
    subst (Takes limit zero []) (some_is [] vs e)
    (record { spelled = refl; enough = refl; plain = tt })
values_takes limit zero (b ∷ bytes) vs e = absurd cc
values_takes limit (suc k) [] vs e = absurd cc
values_takes limit (suc k) (b ∷ bytes) vs e =
    go (eqb b 32) refl e (λ bs ws h. values_takes limit k bs ws h)
  where
    go : (t : Bool) → eqb b 32 ≡ t
        → cond t (plain_at limit bytes >>? λ x. values_at limit k x.1 >>? λ ws. Some (x.0 ∷ ws))
        None ≡ Some vs
        → ((bs : Listed ℕ) (ws : Listed Value) → values_at limit k bs ≡ Some ws
        → Takes limit k bs ws) → Takes limit (suc k) (b ∷ bytes) vs
    go true h q again =
        let c = chain_some (plain_at limit bytes) (λ x. values_at limit k x.1 >>? λ ws.
        Some (x.0 ∷ ws)) vs q in
        let d = chain_some (values_at limit k c.0.1) (λ ws. Some (c.0.0 ∷ ws)) vs c.2 in
        values_more limit k b bytes c.0 d.0 vs (eqb-true b 32 h) (plain_takes limit bytes c.0 c.1)
        (again c.0.1 d.0 d.1) (some_is (c.0.0 ∷ d.0) vs d.2)
    go false h q again = absurd cc

-- a space stands before values, if there are any
pub spaced_value_first : (vs : Listed Value) → EndsBefore 32 (flat_map spaced_value vs)
spaced_value_first [] = tt
spaced_value_first (v ∷ vs) = refl

-- so many plain values are read from their spelling
pub values_again : (limit k : ℕ) (vs : Listed Value) → AllByRecursion (IsPlain limit) vs
    → length vs ≡ k → values_at limit k (flat_map spaced_value vs) ≡ Some vs
values_again limit zero [] h e = refl
values_again limit (suc k) [] h e = absurd (omega arith)
values_again limit zero (v ∷ vs) h e = absurd (omega arith)
values_again limit (suc k) (v ∷ vs) h e =
    rw (
      plain_again limit v (flat_map spaced_value vs) h.0 (spaced_value_first vs),
      values_again limit k vs h.1 (omega arith),
    ) refl
