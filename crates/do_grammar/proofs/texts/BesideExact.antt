-- Numbers beside some that are left out are read exactly.
use Rattle.std.proofs.Common.{◌≡◌, ℕ, ◌+◌, ◌-◌, ◌<◌, ◌≤◌, ◌^◌, true, List, refl, subst, arith, max}
use Rattle.std.proofs.lemmas.Bool.Decides.{nat_tests}
use Rattle.do_grammar.specs.{Reader.no_kind, Num.{span, size, least_of, num}}
use Rattle.do_grammar.proofs.{reads.ExactReader.Reads, texts.SizeExact.{size_le, size_sized}}
use Rattle.do_grammar.proofs.texts.DigitsExact.{Reached, Reaches, InSize, Reads-fitting_digits}
use Rattle.do_grammar.{proofs.texts.DigitsExact.Reads-sized, specs.OneSpelling.Spelled}
use Rattle.do_grammar.specs.BesideHoles.{next_beside, reaches_beside, digits_beside, sized_beside}
use Rattle.do_grammar.{specs.BesideHoles.{num_beside, IsBeside}, proofs.texts.NextBeside.next_up}
use Rattle.do_grammar.proofs.texts.NextBeside.{next_stays, next_least, stays_free, free_stays}

module _ (holes : List ℕ) where
  abbrev next : ℕ → ℕ
  next = next_beside holes

  -- where bytes go on, some number between the bounds begins with them and is not left out
  reaches_true : (low high k least : ℕ) → reaches_beside holes low high k least ≡ true
      → (next (max low least) ≤ high) × (next (max low least) < least + span k)
  reaches_true low high k least e = (grind (arith, nat_tests), grind (arith, nat_tests))

  -- and where one does, they go on
  reaches_from : (low high k least : ℕ) → next (max low least) ≤ high
      → next (max low least) < least + span k → reaches_beside holes low high k least ≡ true
  reaches_from low high k least p q = grind (arith, nat_tests)

  -- what is above both is above the greater
  max_over : (low least x : ℕ) → low ≤ x → least ≤ x → max low least ≤ x
  max_over low least x p q = omega arith

  -- a number that fits is reached
  reached : (low high k least over x : ℕ) → x ≡ least + over → over < span k
      → IsBeside holes low high x → reaches_beside holes low high k least ≡ true
  reached low high k least over x sum below fits =
      let a = fits.at_least in
      let b = fits.at_most in
      let n = next_least holes (max low least) x (max_over low least x a (omega arith))
      (free_stays holes x fits.beside) in
      reaches_from low high k least (omega arith) (omega arith)

  -- the bytes so far go on just where some number that fits begins with them
  beside_reached : (low high : ℕ)
      → Reaches (IsBeside holes low high) (reaches_beside holes low high)
  beside_reached low high = record {
    some = λ k least e.
        let t = reaches_true low high k least e in
        first k least t.0 t.1;
    each = λ k least s. reached low high k least s.over (least + s.over) refl s.below s.fits;
  }
    where
      first : (k least : ℕ) → next (max low least) ≤ high → next (max low least) < least + span k
          → Reached (IsBeside holes low high) k least
      first k least p q =
          let x : ℕ = next (max low least) in
          let up = next_up holes (max low least) in
          let whole : x ≡ least + (x - least) = omega arith in
          record {
            over = x - least;
            below = omega arith;
            fits = subst (IsBeside holes low high) whole (record {
              at_least = omega arith;
              at_most = p;
              beside = stays_free holes x (next_stays holes (max low least));
            });
          }

  -- ---- how many bytes

  -- where a length is let through, some such number has it
  sized_true : (low high n : ℕ) → sized_beside holes low high n ≡ true
      → (n ≤ 8) × (reaches_beside holes (max low (least_of n)) high n 0 ≡ true)
  sized_true low high n e = (grind (arith, nat_tests), grind (arith, nat_tests))

  -- and where one has it, it is let through
  sized_from : (low high n : ℕ) → n ≤ 8
      → reaches_beside holes (max low (least_of n)) high n 0 ≡ true
      → sized_beside holes low high n ≡ true
  sized_from low high n a b = grind (arith, nat_tests)

  -- a number that fits has a size that passes
  size_passes : (low high x : ℕ) → high < 2 ^ 64 → IsBeside holes low high x
      → sized_beside holes low high (size x) ≡ true
  size_passes low high x small fits =
      let most = fits.at_most in
      let least = fits.at_least in
      let s = size_sized x (omega arith) in
      sized_from low high (size x) (size_le x)
      (reached (max low (least_of (size x))) high (size x) 0 x x (omega arith) s.below
      (record {
        at_least = max_over low (least_of (size x)) x least s.at_least;
        at_most = most;
        beside = fits.beside;
      }))

  -- a number between two bounds that is not left out is read exactly
  pub Reads-beside : (low high : ℕ) → next_beside holes low ≤ high → high < 2 ^ 64
      → Reads (Spelled num (IsBeside holes low high)) (num_beside holes low high)
  unfolding num_beside
  Reads-beside low high some small =
      Reads-sized no_kind (IsBeside holes low high)
      (λ n. IsBeside holes (max low (least_of n)) high) parts (sized_beside holes low high)
      (λ n. digits_beside holes (max low (least_of n)) high n 0)
      (λ x f. let most = f.at_most in omega arith) (λ n e. (sized_true low high n e).0)
      (λ x f. size_passes low high x small f)
      (λ n e.
      Reads-fitting_digits no_kind (IsBeside holes (max low (least_of n)) high)
      (reaches_beside holes (max low (least_of n)) high)
      (beside_reached (max low (least_of n)) high)
      (digits_beside holes (max low (least_of n)) high) (λ least bytes. refl)
      (λ k least bytes. refl) n 0 (sized_true low high n e).1)
      (next_beside holes low) (record {
        at_least = next_up holes low;
        at_most = some;
        beside = stays_free holes (next_beside holes low) (next_stays holes low);
      })
    where
      parts : InSize (IsBeside holes low high) (λ n. IsBeside holes (max low (least_of n)) high)
      parts = record {
        fits = λ n x g.
            let a = g.at_least in
            record { at_least = omega arith; at_most = g.at_most; beside = g.beside };
        at_least = λ n x g. let a = g.at_least in omega arith;
        inside = λ n x g le.
            let a = g.at_least in
            record { at_least = omega arith; at_most = g.at_most; beside = g.beside };
      }
