-- A value without a list is walked from its spelling.
use Rattle.std.proofs.Common.{◌≡◌, ℕ, true, false, List as Listed, [], ◌∷◌, ◌++◌, length, drop}
use Rattle.std.proofs.Common.{Some, refl, sym, ap, subst, ◌∙◌, inl, inr}
use Rattle.std.{proofs.Math.Seq.drop-append_seam, specs.Prelude.{◌⊎◌, codes, option_map}}
use Rattle.std.{specs.{Fmt.signed_decimal, List.list_all}, proofs.lemmas.Bool.{eq-eqb, ne_eqb}}
use Rattle.do_base.specs.{declared.values.value.Value.Value, values.Texts.longest_text}
use Rattle.do_grammar.specs.Words.{EndsBefore, Without, part}
use Rattle.do_grammar.proofs.texts.{QuotedExact.quoted_again, WordBytes.Without-passes}
use Rattle.do_grammar.proofs.texts.WordExact.{part_again}
use Rattle.do_sched.specs.{Good.{nil, number, text}, Value.{object_name, value_text}}
use Rattle.do_sched.proofs.ValuesExact.{value_text-Nil, value_text-Num, value_text-Text}
use Rattle.do_record.specs.{GoodShown.{IsSingle, plain, object}, Value.{at_value, behind_quote}}
use Rattle.do_record.{specs.Value.leaf_at, proofs.values.SinglesTaken.value_text-Obj}
use Rattle.do_record.proofs.values.SolidWords.{IsWord, nil_word, number_word, object_word, solid}

-- nothing is behind a value, or a space or a bracket that ends a list
abbrev pub EndsValue : Listed ℕ → Type 0
EndsValue [] = Unit {0}
EndsValue (b ∷ rest) = (b ≡ 32) ⊎ (b ≡ 93)

-- the part before a byte of a text that has it not, with more behind
part_front : (w rest : Listed ℕ) → Without 32 w → (part 32 (w ++ rest)).0 ≡ w ++ (part 32 rest).0
part_front [] rest h = refl
part_front (b ∷ w) rest h = rw (ne_eqb b 32 h.0) (ap (λ u. b ∷ u) (part_front w rest h.1))

-- where a value ends, its word does
ends_word : (rest : Listed ℕ) → EndsValue rest → EndsBefore 93 (part 32 rest).0
ends_word [] h = tt
ends_word (b ∷ rest) (inl h) = rw (eq-eqb b 32 h) tt
ends_word (b ∷ rest) (inr h) = subst (λ c. EndsBefore 93 (part 32 (c ∷ rest)).0) (sym h) refl

-- a word before such an end is cut off
leaf_again : (w rest : Listed ℕ) → list_all solid w ≡ true → EndsValue rest
    → leaf_at (w ++ rest) ≡ w
leaf_again w rest h ends =
    let space : Without 32 w = Without-passes solid 32 w refl h in
    let bracket : Without 93 w = Without-passes solid 93 w refl h in
    ap (λ u. (part 93 u).0) (part_front w rest space)
    ∙ ap (λ (u : Listed ℕ × Listed ℕ). u.0)
    (part_again 93 w (part 32 rest).0 bracket (ends_word rest ends))

-- a value of one word is walked
word_again : (depth : ℕ) (w rest : Listed ℕ) → IsWord w → EndsValue rest
    → at_value depth (w ++ rest) ≡ Some (false, depth, rest)
word_again depth w rest h ends =
    subst (λ u. at_value depth (u ++ rest) ≡ Some (false, depth, rest)) (sym h.parts)
    (go (Without-passes solid 34 w refl h.solid_all) (Without-passes solid 91 w refl h.solid_all))
  where
    here : leaf_at (h.first ∷ h.others ++ rest) ≡ w
    here = subst (λ u. leaf_at (u ++ rest) ≡ w) h.parts (leaf_again w rest h.solid_all ends)

    go : Without 34 w → Without 91 w
        → at_value depth (h.first ∷ h.others ++ rest) ≡ Some (false, depth, rest)
    go quote list =
        let no_quote = (subst (Without 34) h.parts quote).0 in
        let no_list = (subst (Without 91) h.parts list).0 in
        rw (
          ne_eqb h.first 34 no_quote,
          ne_eqb h.first 91 no_list,
          here,
          h.leaf,
        ) (ap (λ u. Some (false, depth, u)) (subst (λ u. drop (length w) (u ++ rest) ≡ rest) h.parts
        (drop-append_seam w rest)))

-- a value that is no list is walked
pub single_again : (depth : ℕ) (v : Value) (rest : Listed ℕ) → IsSingle v → EndsValue rest
    → at_value depth (value_text v ++ rest) ≡ Some (false, depth, rest)
single_again depth v rest (plain (nil same)) ends =
    ap (λ w. at_value depth (w ++ rest)) (ap value_text same ∙ value_text-Nil)
    ∙ word_again depth (codes "nil") rest nil_word ends
single_again depth v rest (plain (number n same fits)) ends =
    ap (λ w. at_value depth (w ++ rest)) (ap value_text same ∙ value_text-Num n)
    ∙ word_again depth (signed_decimal n) rest (number_word n fits) ends
single_again depth v rest (plain (text bytes same within small)) ends =
    ap (λ w. at_value depth (w ++ rest)) (ap value_text same ∙ value_text-Text bytes)
    ∙ ap (λ o. behind_quote depth (option_map (λ x. x.1) o))
    (quoted_again longest_text bytes rest small within)
single_again depth v rest (object o same good) ends =
    ap (λ w. at_value depth (w ++ rest)) (ap value_text same ∙ value_text-Obj o)
    ∙ word_again depth (object_name o) rest (object_word o good) ends
