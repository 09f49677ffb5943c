-- What the labels found so far become with one more.
use Rattle.std.proofs.Common.{◌≡◌, ℕ, ◌+◌, [], ◌∷◌, Bool, true, false, cond, List, Option, Some}
use Rattle.std.proofs.Common.{None, refl, sym, ap, ◌∙◌, arith, ◌≤◌}
use mathlib.Core.Path.{fun_ext}
use Rattle.std.{specs.{Option.option_or, Str.bytes_eq}, proofs.lemmas.Slice.Eq.bytes_eq-Decides}
use Rattle.do_script.specs.declared.labels.Label.{Label}
use Rattle.do_grammar.specs.Lines.{cut}
use Rattle.do_script.specs.Labels.{if_named, label_in, AreLabelsOf, PlacesWithin}
use Rattle.do_script.specs.{declared.labels.Labels.Labels, Operands.Scope, Assembly.scope}
use Rattle.do_script.specs.{Words.words, Program.{Statement, nothing, label, no_label, instruction}}
use Rattle.do_script.specs.Program.{statement_of, program, size, label_from}

same_bytes : (xs ys : List ℕ) → bytes_eq xs ys ≡ true → xs ≡ ys
same_bytes xs ys e = (bytes_eq-Decides xs ys).0 e

or_none : (o : Option Label) → o ≡ option_or o None
or_none None = refl
or_none (Some l) = refl

pub added : (old new : List ℕ → Option Label) (name : List ℕ) (l : Label) → old name ≡ None
    → ((q : List ℕ) → new q ≡ cond (bytes_eq name q) (Some l) (old q)) → (q : List ℕ)
    → new q ≡ option_or (old q) (if_named name l q)
added old new name l absent sets q = go (bytes_eq name q) refl
  where
    go : (t : Bool) → bytes_eq name q ≡ t → new q ≡ option_or (old q) (cond t (Some l) None)
    go true e =
        let here : old q ≡ None = ap old (sym (same_bytes name q e)) ∙ absent in
        let now : new q ≡ Some l = sets q ∙ rw e refl in
        rw here now
    go false e = sets q ∙ rw e (or_none (old q))

-- ---- line by line

pub program_cut : (bytes line rest : List ℕ) (fed : Bool)
    → cut bytes ≡ record { text = line; fed = fed } ∷ cut rest
    → program bytes ≡ statement_of (words line) ∷ program rest
unfolding program
program_cut bytes line rest fed e = rw e refl

pub program_none : (bytes : List ℕ) → cut bytes ≡ [] → program bytes ≡ []
unfolding program
program_none bytes e = rw e refl

pub size_cons : (x : Statement) (more : List Statement)
    → size (x ∷ more) ≡ size (x ∷ []) + size more
size_cons nothing more = omega arith
size_cons (label l) more = omega arith
size_cons no_label more = omega arith
size_cons (instruction w ws) more = omega arith

pub ruleset counting = (program_cut, program_none, size_cons)

-- ---- what is found of a whole text

place_within : (n p : ℕ) (xs : List Statement) (q : List ℕ) (l : Label)
    → label_from n p xs q ≡ Some l → l.place ≤ p + size xs
place_within n p [] q l e = absurd cc
place_within n p (nothing ∷ xs) q l e = let again = place_within (n + 1) p xs q l e in omega arith
place_within n p (no_label ∷ xs) q l e = let again = place_within (n + 1) p xs q l e in omega arith
place_within n p (instruction w ws ∷ xs) q l e =
    let again = place_within (n + 1) (p + 1) xs q l e in omega arith
place_within n p (label name ∷ xs) q l e =
    go (bytes_eq name q) e (λ h. place_within (n + 1) p xs q l h)
  where
    go : (t : Bool)
        → cond t (Some (record { line = n; place = p })) (label_from (n + 1) p xs q) ≡ Some l
        → (label_from (n + 1) p xs q ≡ Some l → l.place ≤ p + size xs)
        → l.place ≤ p + size (label name ∷ xs)
    go true h again =
        let here : ◌≡◌ {A = Label} (record { line = n; place = p }) l =
        cc in let at : p ≡ l.place = ap (λ (m : Label). m.place) here in omega arith
    go false h again = let behind = again h in omega arith

-- no label stands behind the last instruction
pub places_within : (xs : List Statement) (found : Labels) → AreLabelsOf xs found
    → PlacesWithin found
places_within xs found h name l e =
    let within = place_within 0 0 xs name l (sym (h.labels name) ∙ e) in
    let count = h.instructions in
    omega arith

-- operands are read by the names given and the labels of the text
pub scope_same : (slots classes : List (List ℕ)) (text : List ℕ) (found : Labels)
    → AreLabelsOf (program text) found
    → ◌≡◌ {A = Scope} (record { slots = slots; classes = classes; label = label_in found })
    (scope slots classes text)
scope_same slots classes text found h =
    ap (λ (f : List ℕ → Option Label).
    let s : Scope = record { slots = slots; classes = classes; label = f } in s)
    (fun_ext h.labels)
