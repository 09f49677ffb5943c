-- The steps of reading values.
use Rattle.std.proofs.Common.{◌≡◌, ℕ, zero, suc, ◌-◌, ◌<◌, List as Listed, ◌∷◌, refl, arith}
use Rattle.std.proofs.lemmas.Bool.{lt-ltb}
use Rattle.do_class.specs.declared.packet.Part.{List}
use Rattle.do_grammar.specs.{Reader.{mapped, times}, OneSpelling.list_at}
use Rattle.do_coder.specs.Parts.{part_at}

-- a list, where one may stand
pub list_here : (copies names depth : ℕ) (rest : Listed ℕ) → 0 < depth
    → part_at copies names depth (5 ∷ rest)
    ≡ mapped (λ xs. List xs) (list_at 0 1024 (times (part_at copies names (depth - 1)))) rest
unfolding part_at
list_here copies names zero rest h = absurd (omega arith)
list_here copies names (suc depth) rest h =
    let e : suc depth - 1 ≡ depth = omega arith in
    rw (e, lt-ltb 0 (suc depth) h) refl

pub ruleset lists = (list_here)
