-- How a size or offset is passed over.
use Rattle.std.specs.Prelude.{ℕ, suc, List, [], ◌∷◌, length, Result, Ok, Err}
use Rattle.do_grammar.specs.Reader.{Stop, bad, Whole, accepted, by_step, ◌>>=◌}
use Rattle.do_sig.specs.declared.fault.Kind.{Kind}
use Rattle.do_sig.specs.Offsets.{Offset, fresh, offset_step, offset_ends}

-- what is left behind it
abbrev pub skip : Offset → List ℕ → Result (List ℕ) (Stop Kind)
skip s [] = accepted (offset_ends [] s)
skip s (b ∷ bytes) =
    by_step (offset_step s b) (λ t. skip t bytes) (Ok (b ∷ bytes))
    (λ k. Err (bad k (suc (length bytes))))

-- a reader, behind the offset that may stand before
abbrev pub after_offset : {A : Type 0} → Whole Kind A → Whole Kind A
after_offset w bytes = skip fresh bytes >>= w

-- the value, if no byte is left, and else why none may follow
abbrev pub nothing_left : {A : Type 0} → (ℕ → Kind) → A → Whole Kind A
nothing_left why x [] = Ok x
nothing_left why x (b ∷ rest) = Err (bad (why b) (suc (length rest)))
