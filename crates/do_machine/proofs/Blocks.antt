-- Lists in full blocks of 256, and a last block behind them.
use Rattle.std.proofs.Common.{◌≡◌, ℕ, zero, suc, ◌+◌, ◌-◌, ◌*◌, ◌/◌, ◌%◌, ◌<◌, ◌≤◌, List, [], ◌∷◌}
use Rattle.std.proofs.Common.{◌++◌, length, get_or, refl, ap, sym, ◌∙◌, arith}
use Rattle.std.specs.{Prelude.slice_get, List.{All, flat_map}}
use Rattle.std.proofs.lemmas.List.{append_assoc, flat_map_more, Elements.{All-head, All-tail}}

module _ {X : Type 0} where
  -- what stands within the first of two lists
  front : (xs ys : List X) (i : ℕ) → i < length xs → slice_get (xs ++ ys) i ≡ slice_get xs i
  front [] ys i h = absurd (omega (arith, h))
  front (x ∷ xs) ys zero h = refl
  front (x ∷ xs) ys (suc i) h = front xs ys i (omega arith)

  -- what stands within the second
  behind : (xs ys : List X) (i j : ℕ) → i ≡ length xs + j → slice_get (xs ++ ys) i ≡ slice_get ys j
  behind [] ys i j e = grind (arith, e)
  behind (x ∷ xs) ys zero j e = absurd (omega (arith, e))
  behind (x ∷ xs) ys (suc i) j e = behind xs ys i j (omega arith)

  -- the blocks as one list
  abbrev all : List (List X) → List X
  all blocks = flat_map (λ block. block) blocks

  -- each block has 256
  abbrev AreFull : List (List X) → Type 0
  AreFull = All (λ block. length block ≡ 256)

  -- what stands in a full block
  in_block : (blocks : List (List X)) (last : List X) (k r : ℕ) (d : List X) → AreFull blocks →
      k < length blocks → r < 256 →
      slice_get (all blocks ++ last) (k * 256 + r) ≡ slice_get (get_or blocks k d) r
  in_block [] last k r d full h l = absurd (omega (arith, h))
  in_block (b ∷ bs) last zero r d full h l =
      let long = All-head (λ block. length block ≡ 256) b bs full in
      grind (arith, l, long, append_assoc b (all bs) last, front b (all bs ++ last) r)
  in_block (b ∷ bs) last (suc k) r d full h l =
      let long = All-head (λ block. length block ≡ 256) b bs full in
      let rest = All-tail (λ block. length block ≡ 256) b bs full in
      ap (λ xs. slice_get xs (suc k * 256 + r)) (append_assoc b (all bs) last)
      ∙ behind b (all bs ++ last) (suc k * 256 + r) (k * 256 + r) (omega arith)
      ∙ in_block bs last k r d rest (omega arith) l

  -- what stands behind the full blocks
  in_last : (blocks : List (List X)) (last : List X) (r : ℕ) → AreFull blocks →
      slice_get (all blocks ++ last) (length blocks * 256 + r) ≡ slice_get last r
  in_last [] last r full = grind (arith)
  in_last (b ∷ bs) last r full =
      let long = All-head (λ block. length block ≡ 256) b bs full in
      let rest = All-tail (λ block. length block ≡ 256) b bs full in
      let place = suc (length bs) * 256 + r in
      ap (λ xs. slice_get xs place) (append_assoc b (all bs) last)
      ∙ behind b (all bs ++ last) place (length bs * 256 + r) (omega arith)
      ∙ in_last bs last r rest

  -- a place in a full block is found by division
  pub block_get : (blocks : List (List X)) (last : List X) (at : ℕ) (block : List X) →
      AreFull blocks → at / 256 < length blocks → block ≡ get_or blocks (at / 256) block →
      slice_get block (at % 256) ≡ slice_get (all blocks ++ last) at
  block_get blocks last at block full h is =
      let place : at ≡ at / 256 * 256 + at % 256 = omega arith in
      ap (λ b. slice_get b (at % 256)) is
      ∙ sym (ap (slice_get (all blocks ++ last)) place
      ∙ in_block blocks last (at / 256) (at % 256) block full h (omega arith))

  -- and a place behind them by subtraction
  pub last_get : (blocks : List (List X)) (last : List X) (at : ℕ) → AreFull blocks →
      length blocks ≤ at / 256 →
      slice_get last (at - length blocks * 256) ≡ slice_get (all blocks ++ last) at
  last_get blocks last at full h =
      let place : at ≡ length blocks * 256 + (at - length blocks * 256) = omega arith in
      sym (ap (slice_get (all blocks ++ last)) place
      ∙ in_last blocks last (at - length blocks * 256) full)

  -- a last block that is full becomes one of the others
  pub block_more : (blocks : List (List X)) (last : List X) (x : X) →
      all (blocks ++ last ∷ []) ++ x ∷ [] ≡ (all blocks ++ last) ++ x ∷ []
  block_more blocks last x =
      ap (λ xs. xs ++ x ∷ []) (sym (flat_map_more (λ block. block) [] blocks last))

  -- one more in the last block is one more
  pub last_more : (blocks : List (List X)) (last : List X) (x : X) →
      all blocks ++ (last ++ x ∷ []) ≡ (all blocks ++ last) ++ x ∷ []
  last_more blocks last x = sym (append_assoc (all blocks) last (x ∷ []))

pub ruleset block_steps = (block_get, last_get, block_more, last_more)
