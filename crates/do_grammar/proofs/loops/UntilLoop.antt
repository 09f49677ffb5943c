-- The turns of a loop that reads values up to a byte that ends them.
use Rattle.std.proofs.Common.{◌≡◌, ◌≢◌, ℕ, zero, suc, ◌<◌, List, [], ◌∷◌, ◌++◌, length, Result, Ok}
use Rattle.std.{proofs.Common.{Err, refl, sym, ap, subst, ◌∙◌, arith, inl, inr}, specs.Prelude.◌⊎◌}
use Rattle.do_grammar.specs.Reader.{Stop, short, Reader, ◌>>=◌, until_within, until}
use Rattle.do_grammar.specs.{Grammar.IsBytes, Forms.Apart}
use Rattle.do_grammar.proofs.loops.TimesLoop.{with_front, regroup}
use Rattle.std.proofs.lemmas.List.{append-nil}
use Rattle.do_grammar.proofs.reads.{ExactReader.{Reads, IsBytes-rest}, UntilSteps.cases_eq}
use Rattle.do_grammar.proofs.reads.UntilSteps.{tail_of, rest_of, step_end, step_on, shorter}

module _ {K A : Type 0} (end : ℕ) (end_small : end < 256) (G : List ℕ → A
    → Type 0) (r : Reader K A) (R : Reads G r) (apart : (text : List ℕ) (x : A) → G text x
    → Apart end text) where
  -- any bound above the length does
  until_same : (n m : ℕ) (bytes : List ℕ) → length bytes < n → length bytes < m → IsBytes bytes
      → until_within end r n bytes ≡ until_within end r m bytes
  until_same zero m bytes l l' small = absurd (omega arith)
  until_same (suc n) zero bytes l l' small = absurd (omega arith)
  until_same (suc n) (suc m) [] l l' small = refl
  until_same (suc n) (suc m) (b ∷ bytes) l l' small =
      by_case (λ bs p q s. until_same n m bs p q s) (cases_eq b end)
    where
      on : ((bs : List ℕ) → length bs < n → length bs < m → IsBytes bs
          → until_within end r n bs ≡ until_within end r m bs)
          → (read : Result (A × List ℕ) (Stop K)) → r (b ∷ bytes) ≡ read
          → (read >>= rest_of end r n) ≡ (read >>= rest_of end r m)
      on again (Ok x) h =
          let t = R.sound (b ∷ bytes) x.0 x.1 small h in
          ap (λ (w : Result (List A × List ℕ) (Stop K)). w >>= tail_of x.0)
          (again x.1 (shorter end G apart (b ∷ bytes) x.0 x.1 n l t)
          (shorter end G apart (b ∷ bytes) x.0 x.1 m l' t)
          (IsBytes-rest t.text x.1 (subst IsBytes t.parts small)))
      on again (Err s) h = refl

      by_case : ((bs : List ℕ) → length bs < n → length bs < m → IsBytes bs
          → until_within end r n bs ≡ until_within end r m bs) → (b ≡ end) ⊎ (b ≢ end)
          → until_within end r (suc n) (b ∷ bytes) ≡ until_within end r (suc m) (b ∷ bytes)
      by_case again (inl same) = step_end end r n b bytes same ∙ sym (step_end end r m b bytes same)
      by_case again (inr other) = step_on end r n b bytes other ∙ on again (r (b ∷ bytes)) refl
          ∙ sym (step_on end r m b bytes other)

  -- the end byte first: there is no value
  pub until_none : (b : ℕ) (bytes : List ℕ) → b ≡ end → until end r (b ∷ bytes) ≡ Ok ([], bytes)
  unfolding until
  until_none b bytes e = step_end end r (length (b ∷ bytes)) b bytes e

  -- a value first: the others are read behind it
  pub until_more : (b : ℕ) (bytes : List ℕ) (x : A) (rest : List ℕ) → b ≢ end → IsBytes (b ∷ bytes)
      → r (b ∷ bytes) ≡ Ok (x, rest) → until end r (b ∷ bytes) ≡ (until end r rest >>= tail_of x)
  unfolding until
  until_more b bytes x rest ne small h =
      let t = R.sound (b ∷ bytes) x rest small h in
      step_on end r (length (b ∷ bytes)) b bytes ne
      ∙ rw h (ap (λ (w : Result (List A × List ℕ) (Stop K)). w >>= tail_of x)
      (until_same (length (b ∷ bytes)) (suc (length rest)) rest
      (shorter end G apart (b ∷ bytes) x rest (length (b ∷ bytes)) (omega arith) t) (omega arith)
      (IsBytes-rest t.text rest (subst IsBytes t.parts small))))

  -- a value that cannot be read stops it
  pub until_fails : (b : ℕ) (bytes : List ℕ) (s : Stop K) → b ≢ end → r (b ∷ bytes) ≡ Err s
      → until end r (b ∷ bytes) ≡ Err s
  unfolding until
  until_fails b bytes s ne h = step_on end r (length (b ∷ bytes)) b bytes ne ∙ rw h refl

  -- what is read is shorter end G apart than what it is read from
  pub reads_less : (bytes : List ℕ) (x : A) (rest : List ℕ) → IsBytes bytes → r bytes ≡ Ok (x, rest)
      → length rest < length bytes
  reads_less bytes x rest small h =
      shorter end G apart bytes x rest (length bytes) (omega arith) (R.sound bytes x rest small h)

  -- ---- the turns of a loop that reads so, with what it read before in front

  -- no byte is left: the bytes end too early
  pub short_turn : (front : List A) (bytes : List ℕ) (total : Result (List A × List ℕ) (Stop K))
      → with_front front (until end r bytes) ≡ total → bytes ≡ [] → total ≡ Err short
  unfolding until
  short_turn front bytes total so_far e = sym so_far
      ∙ ap (λ (w : List ℕ). with_front front (until end r w)) e

  -- the end byte is reached: these were all the values
  pub end_turn : (front : List A) (bytes : List ℕ) (b : ℕ) (rest : List ℕ)
      (total : Result (List A × List ℕ) (Stop K)) → with_front front (until end r bytes) ≡ total
      → bytes ≡ b ∷ rest → b ≡ end → total ≡ Ok (front, rest)
  end_turn front bytes b rest total so_far e same =
      sym so_far ∙ ap (λ (w : List ℕ). with_front front (until end r w)) e
      ∙ ap (with_front front) (until_none b rest same)
      ∙ ap (λ (w : List A). Ok (w, rest)) (append-nil front)

  -- one more value was read
  pub value_turn : (front : List A) (bytes : List ℕ) (b : ℕ) (others : List ℕ) (x : A)
      (rest : List ℕ) (total : Result (List A × List ℕ) (Stop K))
      → with_front front (until end r bytes) ≡ total → bytes ≡ b ∷ others → b ≢ end → IsBytes bytes
      → r bytes ≡ Ok (x, rest) → with_front (front ++ x ∷ []) (until end r rest) ≡ total
  value_turn front bytes b others x rest total so_far e ne small h =
      let more =
      until_more b others x rest ne (subst IsBytes e small)
      (subst (λ (w : List ℕ). r w ≡ Ok (x, rest)) e h) in
      sym (regroup front x (until end r rest)) ∙ ap (with_front front) (sym more)
      ∙ ap (λ (w : List ℕ). with_front front (until end r w)) (sym e) ∙ so_far

  -- the next value cannot be read
  pub fault_turn : (front : List A) (bytes : List ℕ) (b : ℕ) (others : List ℕ) (s : Stop K)
      (total : Result (List A × List ℕ) (Stop K)) → with_front front (until end r bytes) ≡ total
      → bytes ≡ b ∷ others → b ≢ end → r bytes ≡ Err s → total ≡ Err s
  fault_turn front bytes b others s total so_far e ne h =
      let stop = until_fails b others s ne (subst (λ (w : List ℕ). r w ≡ Err s) e h) in
      sym so_far ∙ ap (λ (w : List ℕ). with_front front (until end r w)) e
      ∙ ap (with_front front) stop
