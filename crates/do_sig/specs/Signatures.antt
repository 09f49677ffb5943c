-- Which text spells which signature.
use Rattle.std.specs.Prelude.{ℕ, zero, suc, ◌==◌, List, [], ◌∷◌, ◌++◌}
use Rattle.do_grammar.specs.Forms.{Then, Byte, Scans, Accepts}
use Rattle.do_sig.specs.declared.outermost.place.Place.TheVariants.{Returned, Argument}
use Rattle.do_sig.specs.{reading.Ending.ScansAll, Blame.why_no_more, Offsets.{fresh, offset_step}}
use Rattle.do_sig.specs.{Offsets.{offset_ends, last_step}, Encodings.IsEncodingAt}
use Rattle.do_sig.specs.{MethodTypes.{QualifiedType, MethodType}, reading.Signatures.signature_of}

-- an offset and the letter
abbrev pub IsBare : ℕ → List ℕ → ℕ → Type 0
IsBare c = Scans offset_step (λ s. Byte (λ b. b == c)) fresh

-- an offset, and at most n arguments, each with its own offset
abbrev pub IsArgs : ℕ → QualifiedType → List QualifiedType → List ℕ → MethodType → Type 0
IsArgs zero returned args =
    Accepts (last_step why_no_more) (offset_ends (signature_of returned args)) fresh
IsArgs (suc n) returned args =
    ScansAll offset_step (offset_ends (signature_of returned args))
    (λ s. Then (IsEncodingAt Argument) (λ arg. IsArgs n returned (args ++ arg ∷ []))) fresh

-- a result, @, : and up to eight arguments
abbrev pub IsSignature : List ℕ → MethodType → Type 0
IsSignature =
    Then (IsEncodingAt Returned) (λ returned. Then (IsBare 64)
    (λ receiver. Then (IsBare 58) (λ selector. IsArgs 8 returned [])))
