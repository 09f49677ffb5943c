-- What the next byte of a structure's name gives.
use Rattle.std.proofs.Common.{◌≡◌, ℕ, ◌<◌, true, false, List, [], ◌∷◌, ◌++◌, length, Ok, refl}
use Rattle.std.proofs.{Common.arith, lemmas.Bool.eq-eqb}
use Rattle.do_grammar.specs.Reader.{scan_to}
use Rattle.do_sig.specs.reading.Types.{name_step, goes_on_name}

-- a byte with which a name goes on is added to it
pub name_adds : (s : List ℕ) (b : ℕ) (rest : List ℕ) → goes_on_name s b ≡ true
    → scan_to name_step s (b ∷ rest) ≡ scan_to name_step (s ++ b ∷ []) rest
name_adds s b rest e = rw e refl

-- = ends a name that is not empty
pub name_ends : (s : List ℕ) (b : ℕ) (rest : List ℕ) → goes_on_name s b ≡ false → b ≡ 61
    → 0 < length s → scan_to name_step s (b ∷ rest) ≡ Ok (s, b ∷ rest)
name_ends [] b rest e p l = absurd (omega arith)
name_ends (c ∷ s) b rest e p l = let q = eq-eqb b 61 p in rw (e, q) refl

pub ruleset naming = (name_adds, name_ends)
