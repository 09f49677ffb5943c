-- The walk finds the copies that the rounds find.
use Rattle.std.proofs.Common.{◌≡◌, ℕ, ◌+◌, ◌≤◌, ◌<◌, List, [], ◌∷◌, ◌++◌, length, take, drop, refl}
use Rattle.std.proofs.Common.{sym, ap, ◌∙◌, subst, arith, ◌⊎◌, inl, inr, append-nil}
use Rattle.std.{specs.List.flat_map, proofs.lemmas.Grind.common_steps}
use Rattle.do_base.specs.names.Names.{ObjectName}
use Rattle.do_packet.specs.Copies.{Placed, contents, copied_at, copies_of, grown, most_copies}
use Rattle.do_packet.specs.{Copies.{named_at, names_with, slots_at}, Met.met, Seen.Sender}
use Rattle.do_packet.specs.walk.{Following.Reached, Walking.IsPrefix}
use Rattle.do_packet.proofs.Copying.{computed, computed_least, copies_are}
use Rattle.do_packet.proofs.Prefixes.{front_of, prefix_length, prefix_long, prefix_met}
use Rattle.do_packet.proofs.Rounds.{grown_prefix, met-contents}

module _ (s : Sender) (values : List Placed) where
  -- the objects of a message with these copies
  abbrev found : (Placed → List ObjectName) → List ObjectName → List ObjectName
  found f copies = met [] (flat_map f (contents s values copies))

  -- the values were gone through
  pub reached_start : (copies names : List ObjectName) →
      copies ≡ met [] (flat_map (copied_at s) values) →
      names ≡ met [] (flat_map (named_at s) values) → Reached s values 0 copies names
  reached_start copies names c n =
      let e : copies ≡ grown s values [] =
      c ∙ ap (λ l. met [] (flat_map (copied_at s) l)) (sym (append-nil values)) in
      record {
        within = omega arith;
        found = e;
        naming = n ∙ ap (λ l. met [] (flat_map (named_at s) l)) (sym (append-nil values));
        least = λ M h.
            let p : IsPrefix (grown s values []) M =
            subst (λ (l : List ObjectName). IsPrefix (grown s values []) l) h
            (grown_prefix s values [] M (M, refl)) in
            subst (λ (l : List ObjectName). IsPrefix l M) (sym e) p;
      }

  -- the objects of the slots of one more copy are met behind those met before
  step_of : (f : Placed → List ObjectName) (k : ℕ) (copies T : List ObjectName) (o : ObjectName) →
      take (k + 1) copies ≡ take k copies ++ o ∷ [] → T ≡ found f (take k copies) →
      met T (flat_map f (slots_at s o)) ≡ found f (take (k + 1) copies)
  step_of f k copies T o e t =
      ap (λ l. met l (flat_map f (slots_at s o))) t
      ∙ ap (λ l. met (found f (take k copies)) (flat_map f l)) (sym (append-nil (slots_at s o)))
      ∙ sym (met-contents f s values (take k copies) (o ∷ []))
      ∙ ap (found f) (sym e)

  -- one more copy was gone through
  pub reached_next : (k : ℕ) (C N C1 N1 : List ObjectName) (o : ObjectName) →
      Reached s values k C N → k < length C → take (k + 1) C ≡ take k C ++ o ∷ [] →
      C1 ≡ met C (flat_map (copied_at s) (slots_at s o)) →
      N1 ≡ met N (flat_map (named_at s) (slots_at s o)) → Reached s values (k + 1) C1 N1
  reached_next k C N C1 N1 o r h e c n =
      let p : IsPrefix C C1 =
      subst (λ (l : List ObjectName). IsPrefix C l) (sym c)
      (prefix_met C (flat_map (copied_at s) (slots_at s o))) in
      let same : take (k + 1) C1 ≡ take (k + 1) C = front_of (k + 1) C C1 p (omega arith) in
      let step = c ∙ step_of (copied_at s) k C C o e r.found in
      record {
        within = omega (arith, prefix_length C C1 p);
        found = step ∙ ap (grown s values) (sym same);
        naming =
            n ∙ step_of (named_at s) k C N o e r.naming ∙ ap (names_with s values) (sym same);
        least = λ M m.
            let f : take (k + 1) M ≡ take (k + 1) C =
            front_of (k + 1) C M (r.least M m) (omega arith) in
            let g : C1 ≡ grown s values (take (k + 1) M) = step ∙ ap (grown s values) (sym f) in
            let front : IsPrefix (take (k + 1) M) M =
            (drop (k + 1) M, grind (arith, common_steps)) in
            let w : IsPrefix (grown s values (take (k + 1) M)) (grown s values M) =
            grown_prefix s values (take (k + 1) M) M front in
            subst (λ (l : List ObjectName). IsPrefix l M) (sym g)
            (subst (λ (l : List ObjectName). IsPrefix (grown s values (take (k + 1) M)) l) m w);
      }

  -- where all copies that were met were gone through, they are what is computed
  pub reached_all : (k : ℕ) (C N : List ObjectName) → Reached s values k C N → length C ≤ k →
      length C ≤ most_copies → copies_of s values ≡ C
  reached_all k C N r h small =
      let all : take k C ≡ C = grind (arith, common_steps) in
      let closed : grown s values C ≡ C = ap (grown s values) (sym all) ∙ sym r.found in
      let p = computed_least s values C closed in
      let few : length (copies_of s values) ≤ most_copies =
      omega (arith, prefix_length (copies_of s values) C p) in
      let q = r.least (copies_of s values) (copies_are s values few).closed in
      prefix_long C (copies_of s values) q (prefix_length (copies_of s values) C p)

  -- where more than the limit were met, more are computed
  pub reached_many : (k : ℕ) (C N : List ObjectName) → Reached s values k C N →
      most_copies < length C → most_copies < length (copies_of s values)
  reached_many k C N r h = go (computed s values)
    where
      go : (grown s values (copies_of s values) ≡ copies_of s values)
          ⊎ (most_copies < length (copies_of s values)) →
          most_copies < length (copies_of s values)
      go (inl e) =
          omega (arith, prefix_length C (copies_of s values) (r.least (copies_of s values) e))
      go (inr k) = k
