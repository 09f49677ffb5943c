-- Moves of one kind as moves of another that sees less.
use Rattle.std.proofs.Common.{◌≡◌, ◌++◌, List, [], ◌∷◌, refl, sym, ap, ◌∙◌, subst, append_assoc, ℕ}
use Rattle.std.specs.List.{flat_map}
use Rattle.do_facts.{proofs.nodes.Walks.noted_behind, specs.Net.{Note, noted}}
use Rattle.do_facts.specs.Moves.{Mays, Rules, Runs, afters, all_posts, all_takes}
use Rattle.do_facts.proofs.Runs.{runs_on, stands}

module _ {A B : Type 0} (atoms : A → List B) where
  -- notes, each as the notes of what is seen of it
  abbrev pub seen : List (Note A) → List (Note B)
  seen [] = []
  seen (k ∷ ks) = noted k.peer (atoms k.atom) ++ seen ks

  -- those of notes behind others
  pub seen_behind : (xs ys : List (Note A)) → seen (xs ++ ys) ≡ seen xs ++ seen ys
  seen_behind [] ys = refl
  seen_behind (x ∷ xs) ys =
      ap (λ zs. noted x.peer (atoms x.atom) ++ zs) (seen_behind xs ys)
      ∙ sym (append_assoc (noted x.peer (atoms x.atom)) (seen xs) (seen ys))

  -- what atoms of one peer say
  pub seen_noted : (peer : ℕ) (xs : List A) → seen (noted peer xs) ≡ noted peer (flat_map atoms xs)
  seen_noted peer [] = refl
  seen_noted peer (x ∷ xs) =
      ap (λ ys. noted peer (atoms x) ++ ys) (seen_noted peer xs)
      ∙ sym (noted_behind peer (atoms x) (flat_map atoms xs))

module _ {P Q A B V W : Type 0} (rules : Rules P A V) (less : Rules Q B W) (part : P → Q)
    (atoms : A → List B) (Ok : P → Type 0)
    (each : (p : P) (v : V) → Ok p → rules.may p v → Ok (rules.after p v)
    × Runs less (part p) (seen atoms (rules.takes v)) (part (rules.after p v))
    (seen atoms (rules.posts p v))) where
  -- moves, one after another
  many_seen : (p : P) (vs : List V) → Ok p → Mays rules p vs →
      Runs less (part p) (seen atoms (all_takes rules vs)) (part (afters rules p vs))
      (seen atoms (all_posts rules p vs))
  many_seen p [] ok may = stands less (part p)
  many_seen p (v ∷ vs) ok may =
      let now = each p v ok may.0 in
      let q = rules.after p v in
      subst (λ xs. Runs less (part p) xs (part (afters rules q vs))
      (seen atoms (rules.posts p v ++ all_posts rules q vs)))
      (sym (seen_behind atoms (rules.takes v) (all_takes rules vs)))
      (subst (λ xs. Runs less (part p)
      (seen atoms (rules.takes v) ++ seen atoms (all_takes rules vs))
      (part (afters rules q vs)) xs)
      (sym (seen_behind atoms (rules.posts p v) (all_posts rules q vs)))
      (runs_on less now.1 (many_seen q vs now.0 may.1)))

  -- what they come to
  pub runs_seen : (p : P) (taken : List (Note A)) (q : P) (sent : List (Note A)) → Ok p →
      Runs rules p taken q sent → Runs less (part p) (seen atoms taken) (part q) (seen atoms sent)
  runs_seen p taken q sent ok r =
      subst (λ xs. Runs less (part p) xs (part q) (seen atoms sent)) (ap (seen atoms) r.takes)
      (subst (λ m. Runs less (part p) (seen atoms (all_takes rules r.moves)) (part m)
      (seen atoms sent)) r.reaches
      (subst (λ xs. Runs less (part p) (seen atoms (all_takes rules r.moves))
      (part (afters rules p r.moves)) xs) (ap (seen atoms) r.posts)
      (many_seen p r.moves ok r.may)))
