-- Words and parts are cut off a text exactly.
use Rattle.std.proofs.Common.{◌≡◌, ℕ, Bool, true, false, eqb, List, [], ◌∷◌, ◌++◌, Option, Some}
use Rattle.std.{proofs.Common.{None, refl, sym, ap, subst, ◌∙◌}, specs.Prelude.MatchOption}
use Rattle.std.{specs.{Prelude.IfSome, Borrow.Bor}, proofs.lemmas.Bool.{eqb-true, eq-eqb, ne_eqb}}
use Rattle.do_grammar.specs.Words.{word, part, text_view, Without, EndsBefore}
use Rattle.do_grammar.proofs.texts.WordBytes.{some_is, chain_some}

-- the word, the byte and what stands behind it make the text
pub word_takes : (end : ℕ) (bytes : List ℕ) (w : List ℕ × List ℕ) → word end bytes ≡ Some w
    → bytes ≡ w.0 ++ end ∷ w.1
word_takes end [] w e = absurd cc
word_takes end (b ∷ bytes) w e = go (eqb b end) refl (λ v h. word_takes end bytes v h)
  where
    made : (v : List ℕ × List ℕ) → Some v ≡ Some w → b ∷ bytes ≡ v.0 ++ end ∷ v.1
        → b ∷ bytes ≡ w.0 ++ end ∷ w.1
    made v same parts =
        subst (λ (u : List ℕ × List ℕ). b ∷ bytes ≡ u.0 ++ end ∷ u.1) (some_is v w same) parts

    go : (t : Bool) → eqb b end ≡ t
        → ((v : List ℕ × List ℕ) → word end bytes ≡ Some v → bytes ≡ v.0 ++ end ∷ v.1)
        → b ∷ bytes ≡ w.0 ++ end ∷ w.1
    go true h again = made ([], bytes) (rw h at e) (ap (λ (u : ℕ). u ∷ bytes) (eqb-true b end h))
    go false h again =
        let c = chain_some (word end bytes) (λ v. Some (b ∷ v.0, v.1)) w (rw h at e) in
        made (b ∷ c.0.0, c.0.1) c.2 (ap (λ (u : List ℕ). b ∷ u) (again c.0 c.1))

-- a text without the byte is cut off as it stands
pub word_again : (end : ℕ) (a b : List ℕ) → Without end a → word end (a ++ end ∷ b) ≡ Some (a, b)
word_again end [] b h = rw (eq-eqb end end refl) refl
word_again end (x ∷ a) b h = rw (ne_eqb x end h.0, word_again end a b h.1) refl

-- where the byte stands nowhere there is no word before it
pub word_alone : (end : ℕ) (a : List ℕ) → Without end a → word end a ≡ None
word_alone end [] h = refl
word_alone end (x ∷ a) h = rw (ne_eqb x end h.0, word_alone end a h.1) refl

-- ---- parts

-- the parts make the text
pub part_takes : (end : ℕ) (bytes : List ℕ) → bytes ≡ (part end bytes).0 ++ (part end bytes).1
part_takes end [] = refl
part_takes end (b ∷ bytes) = go (eqb b end) refl (part_takes end bytes)
  where
    go : (t : Bool) → eqb b end ≡ t → bytes ≡ (part end bytes).0 ++ (part end bytes).1
        → b ∷ bytes ≡ (part end (b ∷ bytes)).0 ++ (part end (b ∷ bytes)).1
    go true h again = rw h refl
    go false h again = rw h (ap (λ (w : List ℕ). b ∷ w) again)

-- a text without the byte is cut off as it stands
pub part_again : (end : ℕ) (a rest : List ℕ) → Without end a → EndsBefore end rest
    → part end (a ++ rest) ≡ (a, rest)
part_again end [] [] h e = refl
part_again end [] (b ∷ rest) h e = rw (eq-eqb b end e) refl
part_again end (x ∷ a) rest h e = rw (ne_eqb x end h.0, part_again end a rest h.1 e) refl

-- ---- what is known of a text that was cut says how it was cut

-- the two parts that the loop answers are those of the definition
pub word_found : (end : ℕ) (bytes : List ℕ) (found : Option (Bor (List ℕ) × Bor (List ℕ)))
    → MatchOption found (Without end bytes) (λ w. bytes ≡ w.0.now ++ end ∷ w.1.now)
    → IfSome found (λ w. Without end w.0.now) → text_view found ≡ word end bytes
word_found end bytes None h clear = sym (word_alone end bytes h)
word_found end bytes (Some w) e clear = sym (ap (word end) e ∙ word_again end w.0.now w.1.now clear)

-- so are those of the other loop
pub part_found : (end : ℕ) (bytes front rest : List ℕ) → bytes ≡ front ++ rest → Without end front
    → EndsBefore end rest → part end bytes ≡ (front, rest)
part_found end bytes front rest e clear stops = ap (part end) e
    ∙ part_again end front rest clear stops
