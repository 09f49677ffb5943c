-- What a sink holds after the next bytes.
use Rattle.std.proofs.Common.{◌≡◌, ℕ, ◌+◌, ◌-◌, length, arith, List, take, drop, Option, Some, None}
use Rattle.std.proofs.{Common.{refl, append_assoc}, Math.Seq.take-add, lemmas.Grind.common_steps}
use Rattle.do_base.specs.outside.Bytes.{with_more}

-- a slice from a place to its end
whole_rest : (xs : List ℕ) (i : ℕ) → take (length xs - i) (drop i xs) ≡ drop i xs
whole_rest xs i = grind (arith, common_steps)

-- the next bytes after the first
pub with_more-take : (written : Option (List ℕ)) (bytes : List ℕ) (i n : ℕ)
    → with_more (with_more written (take i bytes)) (take n (take (length bytes - i) (drop i bytes)))
    ≡ with_more written (take (i + n) bytes)
with_more-take None bytes i n = refl
with_more-take (Some xs) bytes i n = rw (whole_rest bytes i, take-add i n bytes, append_assoc)
