-- Data that is left over when the types end, and the data of one type more.
use Rattle.std.proofs.Common.{◌≡◌, ℕ, ◌<◌, ◌≤◌, List, [], ◌∷◌, ◌++◌, None, Some, length, drop, take}
use Rattle.std.proofs.Common.{length-drop, refl, sym, ◌∙◌, ap, arith, Option, ◌+◌, add-one}
use Rattle.std.specs.Prelude.{slice_get}
use Rattle.do_table.specs.laws.TableLaws.{take_one}
use Rattle.do_pboard.specs.Core.{Content, Declared, contents, merged, with_content}

-- data with no type is left over
left_over : (ks : List (List ℕ)) (ds : List Content) → length ks ≡ 0 → 0 < length ds
    → merged ks ds ≡ None
left_over [] [] none some = absurd (above some)
  where
    above : 0 < 0 → ⊥
    above h = omega (arith, h)
left_over [] (d ∷ ds) none some = refl
left_over (k ∷ ks) ds none some = absurd (above none)
  where
    above : length (k ∷ ks) ≡ 0 → ⊥
    above h = omega (arith, h)

-- where data is left when the types end, they do not go together
pub merged_left : (ks : List (List ℕ)) (ds : List Content) (i used : ℕ) → length ks ≤ i
    → used < length ds → merged (drop i ks) (drop used ds) ≡ None
merged_left ks ds i used end more =
    left_over (drop i ks) (drop used ds) (omega (arith, length-drop i ks, end))
    (omega (arith, length-drop used ds, more))

-- the data of types with one more
contents_pushed : (ts : List Declared) (t : Declared)
    → contents (ts ++ t ∷ []) ≡ contents ts ++ with_content t.0 t.1 []
contents_pushed [] t = refl
contents_pushed (u ∷ ts) t = by u.1 (contents_pushed ts t)
  where
    by : (o : Option (List ℕ)) → contents (ts ++ t ∷ []) ≡ contents ts ++ with_content t.0 t.1 []
        → with_content u.0 o (contents (ts ++ t ∷ []))
        ≡ with_content u.0 o (contents ts) ++ with_content t.0 t.1 []
    by None rest = rest
    by (Some content) rest = ap (λ ds. (u.0, content) ∷ ds) rest

-- so the data of the types up to one more
pub contents_more : (ts : List Declared) (at : ℕ) (t : Declared) → slice_get ts at ≡ Some t
    → contents (take at ts) ++ with_content t.0 t.1 [] ≡ contents (take (at + 1) ts)
contents_more ts at t there =
    sym (contents_pushed (take at ts) t)
    ∙ sym (ap contents (ap (λ n. take n ts) (add-one at) ∙ take_one ts at t there))
