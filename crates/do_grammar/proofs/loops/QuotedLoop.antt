-- The turns of a loop over a text in quotes, for whatever it keeps of the text, and those of the
-- loop that makes it.
use Rattle.std.proofs.Common.{◌≡◌, ℕ, zero, suc, ◌+◌, ◌-◌, ◌<◌, ◌≤◌, List, [], ◌∷◌, ◌++◌, Option}
use Rattle.std.proofs.Common.{Some, None, refl, sym, ap, ◌∙◌, append_assoc, arith}
use Rattle.std.proofs.lemmas.List.{append-nil}
use Rattle.do_grammar.specs.{Words.◌>>?◌, Quoted.{piece_at, closing, closed_or, denoted}}

-- what the loop keeps of the text, seen by view, where it stands before rest
module _ {C : Type 0} (view : Option (List ℕ × List ℕ)
    → C) (limit i : ℕ) (rest : List ℕ) (total : C) (so_far : view (denoted (limit - i) rest)
    ≡ total) where
  -- one more byte was denoted
  pub goes_by : (next : Option (List ℕ × List ℕ) → C) (b : ℕ) (after : List ℕ)
      → ((o : Option (List ℕ × List ℕ)) → view (o >>? λ x. Some (b ∷ x.0, x.1)) ≡ next o)
      → i < limit → None ≡ closing rest → Some (b, after) ≡ piece_at rest
      → next (denoted (limit - (i + 1)) after) ≡ total
  goes_by next b after same lt c p =
      let k : limit - i ≡ suc (limit - (i + 1)) = omega arith in
      let one : view (denoted (limit - i) rest) ≡ next (denoted (limit - (i + 1)) after) =
      rw (k, ← c, ← p) (same (denoted (limit - (i + 1)) after)) in
      sym one ∙ so_far

  -- the quote is reached
  pub closed_by : (behind : List ℕ) → Some behind ≡ closing rest → view (Some ([], behind)) ≡ total
  closed_by behind c = sym (closed (limit - i)) ∙ so_far
    where
      closed : (n : ℕ) → view (denoted n rest) ≡ view (Some ([], behind))
      closed zero = rw (← c) refl
      closed (suc n) = rw (← c) refl

  -- the next byte denotes nothing
  pub none_by : i < limit → None ≡ closing rest → None ≡ piece_at rest → view None ≡ total
  none_by lt c p =
      let k : limit - i ≡ suc (limit - (i + 1)) = omega arith in
      let one : view (denoted (limit - i) rest) ≡ view None = rw (k, ← c, ← p) refl in
      sym one ∙ so_far

  -- so many bytes as may be denoted were
  pub limit_by : limit ≤ i → view (closed_or (closing rest) None) ≡ total
  limit_by le =
      let k : limit - i ≡ 0 = omega arith in
      let one : view (denoted (limit - i) rest) ≡ view (closed_or (closing rest) None) =
      rw k refl in
      sym one ∙ so_far

-- what was read before, and what is still read
abbrev pub with_text : List ℕ → Option (List ℕ × List ℕ) → Option (List ℕ × List ℕ)
with_text front None = None
with_text front (Some x) = Some (front ++ x.0, x.1)

abbrev paired : List ℕ → List ℕ → Option (List ℕ × List ℕ)
paired x rest = Some (x, rest)

-- a byte moves from what is still read to what was read
regroup : (front : List ℕ) (b : ℕ) (o : Option (List ℕ × List ℕ))
    → with_text front (o >>? λ x. Some (b ∷ x.0, x.1)) ≡ with_text (front ++ b ∷ []) o
regroup front b None = refl
regroup front b (Some x) = ap (λ (w : List ℕ). paired w x.1) (simp append_assoc)

-- one more byte was denoted, and stands behind those before
pub goes : (front more : List ℕ) (limit i b : ℕ) (rest after : List ℕ)
    (total : Option (List ℕ × List ℕ)) → i < limit → None ≡ closing rest
    → Some (b, after) ≡ piece_at rest → more ≡ front ++ b ∷ []
    → with_text front (denoted (limit - i) rest) ≡ total
    → with_text more (denoted (limit - (i + 1)) after) ≡ total
goes front more limit i b rest after total lt c p m so_far =
    rw m (goes_by (with_text front) limit i rest total so_far (with_text (front ++ b ∷ [])) b after
    (regroup front b) lt c p)

-- the quote is reached: this is the text
pub is_closed : (front : List ℕ) (limit i : ℕ) (rest behind : List ℕ)
    (total : Option (List ℕ × List ℕ)) → Some behind ≡ closing rest
    → with_text front (denoted (limit - i) rest) ≡ total → Some (front, behind) ≡ total
is_closed front limit i rest behind total c so_far =
    sym (ap (λ (w : List ℕ). paired w behind) (append-nil front))
    ∙ closed_by (with_text front) limit i rest total so_far behind c

-- the next byte denotes nothing: there is no text
pub no_piece : (front : List ℕ) (limit i : ℕ) (rest : List ℕ) (total : Option (List ℕ × List ℕ))
    → i < limit → None ≡ closing rest → None ≡ piece_at rest
    → with_text front (denoted (limit - i) rest) ≡ total → None ≡ total
no_piece front limit i rest total lt c p so_far =
    none_by (with_text front) limit i rest total so_far lt c p

-- more bytes are denoted than may be: there is no text
pub too_long : (front : List ℕ) (limit i : ℕ) (rest : List ℕ) (total : Option (List ℕ × List ℕ))
    → limit ≤ i → None ≡ closing rest → with_text front (denoted (limit - i) rest) ≡ total
    → None ≡ total
too_long front limit i rest total le c so_far =
    rw (← c) at (limit_by (with_text front) limit i rest total so_far le)

pub ruleset quoted_facts = (goes, is_closed, no_piece, too_long)
