-- How a signature is read.
use Rattle.std.specs.Prelude.{ℕ, zero, suc, ◌==◌, List, [], ◌∷◌, ◌++◌, Ok}
use Rattle.do_grammar.specs.Reader.{Reader, Whole, byte_of, then_whole}
use Rattle.do_sig.specs.declared.fault.Kind.{Kind}
use Rattle.do_sig.specs.declared.outermost.place.Place.TheVariants.{Returned, Argument}
use Rattle.do_sig.specs.{Blame.{why_no_self, why_no_more}, MethodTypes.{QualifiedType, MethodType}}
use Rattle.do_sig.specs.reading.{Offsets.{after_offset, nothing_left}, Outermost.encoding_at}

-- the receiver's or the selector's letter, behind the offset of what stands before it
unfoldable pub bare_at : ℕ → Reader Kind ℕ
bare_at c = after_offset (byte_of (λ b. b == c) why_no_self)

-- the signature of a result and arguments
abbrev pub signature_of : QualifiedType → List QualifiedType → MethodType
signature_of returned args = record { returned = returned; args = args }

-- the value at the end, and else what follows
abbrev pub or_more : MethodType → Whole Kind MethodType → Whole Kind MethodType
or_more x w [] = Ok x
or_more x w (b ∷ rest) = w (b ∷ rest)

-- at most n arguments more, behind those that were read
unfoldable pub args_at : ℕ → QualifiedType → List QualifiedType → Whole Kind MethodType
args_at zero returned args = after_offset (nothing_left why_no_more (signature_of returned args))
args_at (suc n) returned args =
    after_offset (or_more (signature_of returned args)
    (then_whole (encoding_at Argument) (λ arg. args_at n returned (args ++ arg ∷ []))))

-- a result, a receiver, a selector and arguments
unfoldable pub signature_at : Whole Kind MethodType
signature_at =
    then_whole (encoding_at Returned)
    (λ returned. then_whole (bare_at 64)
    (λ receiver. then_whole (bare_at 58) (λ selector. args_at 8 returned [])))
