-- The place of the byte at which a reader stopped.
use Rattle.std.proofs.Common.{◌≡◌, ℕ, suc, ◌+◌, ◌<◌, ◌≤◌, List, [], ◌∷◌, ◌++◌, length, take, sym}
use Rattle.std.{proofs.Common.{ap, ◌∙◌, append_assoc, arith}, specs.Prelude.◌-◌}
use Rattle.std.proofs.lemmas.List.{length-append, take_at}

-- the byte behind the front is the one from which on so many are left
pub record IsPlaced (bytes front : List ℕ) (byte left : ℕ) : Type 0 where
  pub inside : length bytes - left < length bytes
  pub within : left ≤ length bytes
  pub before : take (length bytes - left) bytes ≡ front
  pub through : (after : List ℕ)
      → take (length bytes - left + 1) bytes ++ after ≡ front ++ byte ∷ after

-- where so many bytes are left from a byte on, the place of it is their number less these
pub is_placed : (bytes front : List ℕ) (byte : ℕ) (rest : List ℕ) (left : ℕ)
    → bytes ≡ front ++ byte ∷ rest → left ≡ suc (length rest) → IsPlaced bytes front byte left
is_placed bytes front byte rest left parts place =
    let len : length bytes ≡ length front + suc (length rest) = ap length parts
    ∙ length-append front (byte ∷ rest) in
    let at : length bytes - left ≡ length front = omega arith in
    let one : length (front ++ byte ∷ []) ≡ length bytes - left + 1 =
    length-append front (byte ∷ []) ∙ omega arith in
    let more : take (length bytes - left + 1) bytes ≡ front ++ byte ∷ [] =
    ap (take (length bytes - left + 1)) (parts ∙ sym (append_assoc front (byte ∷ []) rest))
    ∙ take_at (front ++ byte ∷ []) rest (length bytes - left + 1) one in
    record {
      inside = omega arith;
      within = omega arith;
      before = ap (take (length bytes - left)) parts
          ∙ take_at front (byte ∷ rest) (length bytes - left) (sym at);
      through = λ after. ap (λ (w : List ℕ). w ++ after) more
          ∙ append_assoc front (byte ∷ []) after;
    }
