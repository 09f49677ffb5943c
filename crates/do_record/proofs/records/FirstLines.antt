-- A text is its first line and what is left.
use Rattle.do_grammar.specs.Lines as text
use Rattle.std.proofs.Common.{◌≡◌, ℕ, Bool, true, false, cond, eqb, List, [], ◌∷◌, ◌++◌, refl, sym}
use Rattle.std.{proofs.Common.{ap, subst, ◌∙◌, append_assoc}, specs.List.flat_map}
use Rattle.std.proofs.lemmas.Bool.{eqb-true}
use Rattle.do_grammar.specs.{Lines.{cut, in_front, line_bytes}, Words.Without}
use Rattle.do_grammar.proofs.texts.LinesExact.{cut_line, cut_whole}
use Rattle.do_sched.specs.{Schedule.whole, Spelling.fed}

-- the first line of a text, where it has its line feed, and what is left
pub record IsFirst (rest : List ℕ) (t : text.Line) (ts : List text.Line) : Type 0 where
  pub after : List ℕ
  pub parts : rest ≡ fed t.text ++ after
  pub others : cut after ≡ ts

-- a text is its first line and what is left
pub first_line_is : (rest : List ℕ) (t : text.Line) (ts : List text.Line) → cut rest ≡ t ∷ ts
    → t.fed ≡ true → IsFirst rest t ts
first_line_is [] t ts e h = absurd (cc)
first_line_is (b ∷ rest) t ts e h =
    go (eqb b 10) refl e (λ l ls p q. first_line_is rest l ls p q)
  where
    cons_is : (u : text.Line) (us : List text.Line) → u ∷ us ≡ t ∷ ts → (u ≡ t) × (us ≡ ts)
    cons_is u us q = (cc, cc)

    inside : (ls : List text.Line) → cut rest ≡ ls → in_front b ls ≡ t ∷ ts
        → ((l : text.Line) (ls : List text.Line) → cut rest ≡ l ∷ ls → l.fed ≡ true
        → IsFirst rest l ls) → IsFirst (b ∷ rest) t ts
    inside [] p q again =
        let same = cons_is (record { text = b ∷ []; fed = false }) [] q in
        let none : false ≡ true = ap (λ (l : text.Line). l.fed) same.0 ∙ h in
        absurd (cc)
    inside (l ∷ ls) p q again =
        let same = cons_is (record { text = b ∷ l.text; fed = l.fed }) ls q in
        let f = again l ls p (ap (λ (l : text.Line). l.fed) same.0 ∙ h) in
        subst (λ u. IsFirst (b ∷ rest) u ts) same.0 (record {
          after = f.after;
          parts = ap (λ w. b ∷ w) f.parts;
          others = f.others ∙ same.1;
        })

    go : (u : Bool) → eqb b 10 ≡ u
        → cond u (record { text = []; fed = true } ∷ cut rest) (in_front b (cut rest)) ≡ t ∷ ts
        → ((l : text.Line) (ls : List text.Line) → cut rest ≡ l ∷ ls → l.fed ≡ true
        → IsFirst rest l ls) → IsFirst (b ∷ rest) t ts
    go true p q again =
        let same = cons_is (record { text = []; fed = true }) (cut rest) q in
        subst (λ u. IsFirst (b ∷ rest) u ts) same.0 (record {
          after = rest;
          parts = ap (λ c. c ∷ rest) (eqb-true b 10 p);
          others = same.1;
        })
    go false p q again = inside (cut rest) refl q again

-- a text that begins with a line is cut there
pub cut_fed : (line rest : List ℕ) → Without 10 line
    → cut (fed line ++ rest) ≡ whole line ∷ cut rest
cut_fed line rest h = ap cut (append_assoc line (10 ∷ []) rest) ∙ cut_line line rest h

-- no lines are no bytes
pub cut_nothing : (rest : List ℕ) → cut rest ≡ [] → rest ≡ []
cut_nothing rest e = sym (cut_whole rest) ∙ ap (flat_map line_bytes) e
