-- What the first word leaves of a line.
use Rattle.std.proofs.Common.{◌≡◌, ℕ, zero, suc, ◌+◌, ◌-◌, ◌<◌, ◌≤◌, Bool, true, false, cond, eqb}
use Rattle.std.proofs.Common.{List, [], ◌∷◌, length, drop, Option, Some, None, refl, sym, ap, subst}
use Rattle.std.{proofs.Common.{arith, length-drop, one-add}, specs.Option.option_map_or}
use Rattle.do_script.specs.{Quoted.quoted_size, Words.{gap_size, plain_size, word_size, cut_word}}
use Rattle.do_script.specs.Words.{first_word, words_within, words}

-- no space is in front
abbrev NoGap : List ℕ → Type 0
NoGap [] = Unit {0}
NoGap (b ∷ bytes) = eqb b 32 ≡ false

no_gap : (bytes : List ℕ) → NoGap (drop (gap_size bytes) bytes)
no_gap [] = tt
no_gap (b ∷ bytes) = go (eqb b 32) refl (no_gap bytes)
  where
    go : (t : Bool) → eqb b 32 ≡ t → NoGap (drop (gap_size bytes) bytes)
        → NoGap (drop (cond t (1 + gap_size bytes) 0) (b ∷ bytes))
    go true e h = rw one-add h
    go false e h = e

some_size : (b : ℕ) (bytes : List ℕ) → eqb b 32 ≡ false → 0 < word_size (b ∷ bytes)
some_size b bytes e = go (quoted_size (b ∷ bytes))
  where
    go : (n : ℕ) → 0 < n + plain_size (drop n (b ∷ bytes))
    go zero = rw e (omega arith)
    go (suc n) = omega arith

cut_shorter : (bytes : List ℕ) (x : List ℕ × List ℕ) → NoGap bytes → cut_word bytes ≡ Some x
    → length x.1 < length bytes
cut_shorter [] x h e = absurd cc
cut_shorter (b ∷ bytes) x h e =
    let rest : drop (word_size (b ∷ bytes)) (b ∷ bytes) ≡ x.1 = cc in
    let len : length (drop (word_size (b ∷ bytes)) (b ∷ bytes)) ≡ length (b ∷ bytes) - word_size
    (b ∷ bytes) = length-drop (word_size (b ∷ bytes)) (b ∷ bytes) in
    let some : 0 < word_size (b ∷ bytes) = some_size b bytes h in
    subst (λ (w : List ℕ). length w < suc (length bytes)) rest (omega arith)

pub first_shorter : (bytes : List ℕ) (x : List ℕ × List ℕ) → first_word bytes ≡ Some x
    → length x.1 < length bytes
unfolding first_word
first_shorter bytes x e =
    let cut = cut_shorter (drop (gap_size bytes) bytes) x (no_gap bytes) e in
    let len : length (drop (gap_size bytes) bytes) ≡ length bytes - gap_size bytes =
    length-drop (gap_size bytes) bytes in
    omega arith

none_in_nothing : (bytes : List ℕ) → length bytes ≤ 0 → first_word bytes ≡ None
unfolding first_word
none_in_nothing [] h = refl
none_in_nothing (b ∷ bytes) h = absurd (let z : ⊥ = omega arith in z)

nothing : (n : ℕ) (bytes : List ℕ) → length bytes ≤ 0 → words_within n bytes ≡ []
nothing zero bytes h = refl
nothing (suc n) bytes h = rw (none_in_nothing bytes h) refl

enough : (n m : ℕ) (bytes : List ℕ) → length bytes ≤ n → length bytes ≤ m
    → words_within n bytes ≡ words_within m bytes
enough zero m bytes p q = sym (nothing m bytes p)
enough (suc n) zero bytes p q = nothing (suc n) bytes q
enough (suc n) (suc m) bytes p q =
    go (λ (rest : List ℕ) (h : length rest ≤ n) (k : length rest ≤ m). enough n m rest h k)
    (first_word bytes) refl
  where
    go : ((rest : List ℕ) → length rest ≤ n → length rest ≤ m
        → words_within n rest ≡ words_within m rest)
        → (o : Option (List ℕ × List ℕ)) → first_word bytes ≡ o
        → option_map_or (λ x. x.0 ∷ words_within n x.1) o []
        ≡ option_map_or (λ x. x.0 ∷ words_within m x.1) o []
    go again None e = refl
    go again (Some x) e =
        let less =
        first_shorter bytes x e in ap (λ (ws : List (List ℕ)). x.0 ∷ ws)
        (again x.1 (omega arith) (omega arith))

-- the words of a line are its first word and the words behind it
pub words_none : (bytes : List ℕ) → first_word bytes ≡ None → words bytes ≡ []
unfolding words
words_none bytes e = go (length bytes)
  where
    go : (n : ℕ) → words_within n bytes ≡ []
    go zero = refl
    go (suc n) = rw e refl

pub words_some : (bytes : List ℕ) (x : List ℕ × List ℕ) → first_word bytes ≡ Some x
    → words bytes ≡ x.0 ∷ words x.1
unfolding words
words_some bytes x e = go (length bytes) (first_shorter bytes x e)
  where
    go : (n : ℕ) → length x.1 < n → words_within n bytes ≡ x.0 ∷ words_within (length x.1) x.1
    go zero less = absurd (let z : ⊥ = omega arith in z)
    go (suc m) less =
        rw e (ap (λ (ws : List (List ℕ)). x.0 ∷ ws)
        (enough m (length x.1) x.1 (omega arith) (omega arith)))

pub ruleset splits = (words_none, words_some, first_shorter)
