-- What a step of reading a signature gives.
use Rattle.do_sig.specs.declared.fault.Stop as code
use Rattle.std.proofs.Common.{◌≡◌, ◌≢◌, ℕ, zero, suc, ◌-◌, ◌<◌, List, [], ◌∷◌, ◌++◌, length, Ok}
use Rattle.std.proofs.Common.{Err, refl, sym, ap, ◌∙◌, arith}
use Rattle.do_grammar.specs.Reader.{Stop, short, bad}
use Rattle.do_sig.specs.declared.fault.{Kind.Kind, Stop.TheVariants.{Memory, Short, Bad}}
use Rattle.do_sig.specs.{reading.Gives.Fails, MethodTypes.QualifiedType, Offsets.fresh}
use Rattle.do_sig.specs.{reading.{Offsets.skip, Outermost.encoding_at}, Blame.why_no_more}
use Rattle.do_sig.specs.reading.Signatures.{signature_of, args_at}
use Rattle.do_sig.specs.declared.outermost.place.Place.TheVariants.{Argument}

module _ (returned : QualifiedType) (args : List QualifiedType) (bytes rest : List ℕ) where
  -- at the end of the bytes the arguments are those that were read
  pub args_end : (n : ℕ) → skip fresh bytes ≡ Ok rest → rest ≡ []
      → args_at n returned args bytes ≡ Ok (signature_of returned args)
  unfolding args_at
  args_end zero e h = rw (e, h) refl
  args_end (suc n) e h = rw (e, h) refl

  -- behind the eighth argument no byte goes on
  pub args_full : (n b : ℕ) (others : List ℕ) → n ≡ 0 → skip fresh bytes ≡ Ok rest
      → rest ≡ b ∷ others → args_at n returned args bytes ≡ Err (bad (why_no_more b) (length rest))
  unfolding args_at
  args_full n b others z e h = rw (z, e, h) refl

  -- where an argument stops, so do the arguments
  pub args_stop : (n b : ℕ) (others : List ℕ) (s : Stop Kind) → 0 < n → skip fresh bytes ≡ Ok rest
      → rest ≡ b ∷ others → encoding_at Argument rest ≡ Err s
      → args_at n returned args bytes ≡ Err s
  unfolding args_at
  args_stop zero b others s p e h f = absurd (omega arith)
  args_stop (suc n) b others s p e h f = let g : encoding_at Argument (b ∷ others) ≡ Err s =
      ap (encoding_at Argument) (sym h) ∙ f in rw (e, h, g) refl

  -- the same of what a function returned
  pub args_fail : (n b : ℕ) (others : List ℕ) (e : code.Stop) → n ≢ 0 → skip fresh bytes ≡ Ok rest
      → rest ≡ b ∷ others → Fails e (encoding_at Argument rest)
      → Fails e (args_at n returned args bytes)
  args_fail n b others Memory p e h f = tt
  args_fail n b others Short p e h f = args_stop n b others short (omega arith) e h f
  args_fail n b others (Bad kind left) p e h f =
      args_stop n b others (bad kind left) (omega arith) e h f

  -- one argument more is added to those that were read
  pub args_more : (n b : ℕ) (others : List ℕ) (arg : QualifiedType) (after : List ℕ) → 0 < n
      → skip fresh bytes ≡ Ok rest → rest ≡ b ∷ others → encoding_at Argument rest ≡ Ok (arg, after)
      → args_at n returned args bytes ≡ args_at (n - 1) returned (args ++ arg ∷ []) after
  unfolding args_at
  args_more zero b others arg after p e h f = absurd (omega arith)
  args_more (suc n) b others arg after p e h f =
      let g : encoding_at Argument (b ∷ others) ≡ Ok (arg, after) =
      ap (encoding_at Argument) (sym h) ∙ f in
      let one : suc n - 1 ≡ n = omega arith in
      rw (e, h, g, one) refl

-- where the offset stops, so do the arguments
pub args_no : (returned : QualifiedType) (args : List QualifiedType) (bytes : List ℕ) (n : ℕ)
    (s : Stop Kind) → skip fresh bytes ≡ Err s → args_at n returned args bytes ≡ Err s
unfolding args_at
args_no returned args bytes zero s e = rw e refl
args_no returned args bytes (suc n) s e = rw e refl

pub ruleset args_steps = (args_end, args_full, args_stop, args_more, args_no)
