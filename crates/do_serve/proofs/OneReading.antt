-- Of bytes a reader tells one thing: a value that begins them, that they end too early, or the
-- first byte with which none goes on.
use Rattle.std.proofs.Common.{◌≡◌, ℕ, zero, suc, ◌+◌, ◌-◌, ◌<◌, ◌≤◌, List, [], ◌∷◌, ◌++◌, length}
use Rattle.std.proofs.Common.{take, drop, Result, Ok, Err, refl, sym, ap, subst, ◌∙◌, append_assoc}
use Rattle.std.{proofs.Common.{arith, inl, inr}, specs.Prelude.◌⊎◌, proofs.lemmas.Bool.cases_lt}
use Rattle.std.proofs.lemmas.{Grind.common_steps, List.{append-nil, length-append}}
use Rattle.do_grammar.specs.Reader.{Stop, short, bad, Reader, no_kind}
use Rattle.do_grammar.specs.Grammar.{IsBytes, IsProperFront, IsFirstBad, Takes}
use Rattle.do_grammar.proofs.faults.AnswerExact.{only, proper_front, first_bad}
use Rattle.do_grammar.proofs.reads.ExactReader.{Reads}

-- a front and what stands behind it
front_back : (n : ℕ) (xs : List ℕ) → take n xs ++ drop n xs ≡ xs
front_back n xs = grind (arith, common_steps)

-- bytes are a front of them and what stands behind it
split_at : (n : ℕ) (bytes more : List ℕ) → take n bytes ++ (drop n bytes ++ more) ≡ bytes ++ more
split_at n bytes more =
    sym (append_assoc (take n bytes) (drop n bytes) more)
    ∙ ap (λ (w : List ℕ). w ++ more) (front_back n bytes)

-- a shorter front of a front
take_take : (a b : ℕ) (bytes : List ℕ) → a ≤ b → take a (take b bytes) ≡ take a bytes
take_take a b bytes le = grind (arith, common_steps)

-- a front within the first list
take_in : (n : ℕ) (xs ys : List ℕ) → n ≤ length xs → take n (xs ++ ys) ≡ take n xs
take_in n xs ys le = grind (arith, common_steps)

-- a front past the first list
take_past : (n : ℕ) (xs ys : List ℕ) → length xs ≤ n
    → take n (xs ++ ys) ≡ xs ++ take (n - length xs) ys
take_past n [] ys le =
    let same : n - 0 ≡ n = omega arith in
    rw same refl
take_past zero (x ∷ xs) ys le = absurd (omega (arith, le))
take_past (suc n) (x ∷ xs) ys le =
    let less : suc n - length (x ∷ xs) ≡ n - length xs = omega arith in
    rw less (ap (λ (w : List ℕ). x ∷ w) (take_past n xs ys (omega (arith, le))))

-- nothing ends with more
not_nil : (xs ys : List ℕ) (y : ℕ) → xs ++ y ∷ ys ≡ [] → ⊥
not_nil xs ys y e =
    let none : length (xs ++ y ∷ ys) ≡ 0 = ap length e in
    omega (arith, none, length-append xs (y ∷ ys))

module _ {A : Type 0} (G : List ℕ → A → Type 0) where
  -- a proper front has no first bad byte
  front_or_bad : (bytes : List ℕ) (at : ℕ) → IsProperFront G bytes → IsFirstBad G bytes at → ⊥
  front_or_bad bytes at p b =
      b.dead (drop (at + 1) bytes ++ p.next ∷ p.more) p.value
      (subst (λ (w : List ℕ). G w p.value) (sym (split_at (at + 1) bytes (p.next ∷ p.more)))
      p.spelled)

  -- one bad byte is not behind another
  not_behind : (bytes : List ℕ) (a b : ℕ) → IsFirstBad G bytes a → IsFirstBad G bytes b
      → a < b → ⊥
  not_behind bytes a b p q lt =
      let f = q.before in
      let whole = split_at (a + 1) (take b bytes) (f.next ∷ f.more) in
      let front = take_take (a + 1) b bytes (omega arith) in
      p.dead (drop (a + 1) (take b bytes) ++ f.next ∷ f.more) f.value
      (subst (λ (w : List ℕ). G w f.value) (sym whole ∙ ap (λ (w : List ℕ). w
      ++ (drop (a + 1) (take b bytes) ++ f.next ∷ f.more)) front) f.spelled)

  -- there is one first bad byte
  one_bad : (bytes : List ℕ) (a b : ℕ) → IsFirstBad G bytes a → IsFirstBad G bytes b → a ≡ b
  one_bad bytes a b p q =
      let lt = not_behind bytes a b p q in
      let gt = not_behind bytes b a q p in
      omega (arith, lt, gt)

module _ {A : Type 0} (G : List ℕ → A → Type 0) (r : Reader (Unit {0}) A) (R : Reads G r) where
  -- bytes that are read are no proper front
  read_or_front : (bytes : List ℕ) (x : A) (rest : List ℕ) → Takes G bytes x rest
      → IsProperFront G bytes → ⊥
  read_or_front bytes x rest t p =
      let behind = p.next ∷ p.more in
      let e : t.text ++ (rest ++ behind) ≡ (bytes ++ behind) ++ [] =
      sym (append_assoc t.text rest behind) ∙ ap (λ (w : List ℕ). w ++ behind) (sym t.parts)
      ∙ sym (append-nil (bytes ++ behind)) in
      not_nil rest p.more p.next (only G r R t.text (bytes ++ behind) (rest ++ behind) [] x p.value
      t.spelled p.spelled e).1

  -- nor have they a first bad byte
  read_or_bad : (bytes : List ℕ) (x : A) (rest : List ℕ) (at : ℕ) → Takes G bytes x rest
      → IsFirstBad G bytes at → ⊥
  read_or_bad bytes x rest at t b = go (cases_lt at (length t.text))
    where
      go : (at < length t.text) ⊎ (length t.text ≤ at) → ⊥
      go (inr le) =
          let f = b.before in
          let behind = f.next ∷ f.more in
          let cut : take at bytes ≡ t.text ++ take (at - length t.text) rest =
          ap (take at) t.parts ∙ take_past at t.text rest le in
          let e : t.text ++ (take (at - length t.text) rest ++ behind)
          ≡ (take at bytes ++ behind) ++ [] =
          sym (append_assoc t.text (take (at - length t.text) rest) behind)
          ∙ ap (λ (w : List ℕ). w ++ behind) (sym cut)
          ∙ sym (append-nil (take at bytes ++ behind)) in
          not_nil (take (at - length t.text) rest) f.more f.next
          (only G r R t.text (take at bytes ++ behind) (take (at - length t.text) rest ++ behind) []
          x f.value t.spelled f.spelled e).1
      go (inl lt) =
          let cut : take (at + 1) bytes ≡ take (at + 1) t.text =
          ap (take (at + 1)) t.parts ∙ take_in (at + 1) t.text rest (omega (arith, lt)) in
          b.dead (drop (at + 1) t.text) x
          (subst (λ (w : List ℕ). G w x)
          (sym (ap (λ (w : List ℕ). w ++ drop (at + 1) t.text) cut ∙ front_back (at + 1) t.text))
          t.spelled)

  -- a proper front ends too early
  pub front_is_short : (bytes : List ℕ) → IsBytes bytes → IsProperFront G bytes
      → r bytes ≡ Err short
  front_is_short bytes small p = go (r bytes) refl
    where
      go : (read : Result (A × List ℕ) (Stop (Unit {0}))) → r bytes ≡ read → read ≡ Err short
      go (Ok x) e =
          absurd (read_or_front bytes x.0 x.1 (R.sound bytes x.0 x.1 small e) p)
      go (Err short) e = refl
      go (Err (bad kind left)) e =
          absurd (front_or_bad G bytes (length bytes - left) p
          (first_bad G r R bytes kind left small e))

  -- and a first bad byte is where reading stops
  pub bad_is_there : (bytes : List ℕ) (at : ℕ) → IsBytes bytes → IsFirstBad G bytes at
      → (left : ℕ) × (r bytes ≡ Err (bad no_kind left)) × (length bytes - left ≡ at)
  bad_is_there bytes at small b = go (r bytes) refl
    where
      go : (read : Result (A × List ℕ) (Stop (Unit {0}))) → r bytes ≡ read
          → (left : ℕ) × (read ≡ Err (bad no_kind left)) × (length bytes - left ≡ at)
      go (Ok x) e =
          absurd (read_or_bad bytes x.0 x.1 at (R.sound bytes x.0 x.1 small e) b)
      go (Err short) e =
          absurd (front_or_bad G bytes at (proper_front G r R bytes small e) b)
      go (Err (bad kind left)) e = (
        left,
        refl,
        one_bad G bytes (length bytes - left) at (first_bad G r R bytes kind left small e) b,
      )
