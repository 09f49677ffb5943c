-- Signatures are read exactly.
use Rattle.std.proofs.Common.{◌≡◌, ℕ, zero, suc, ◌<◌, true, List, [], ◌∷◌, ◌++◌, length, Ok, Err}
use Rattle.std.{proofs.Common.{refl, arith}, specs.Prelude.◌==◌}
use Rattle.std.proofs.lemmas.Bool.Decides.{nat_tests}
use Rattle.do_grammar.specs.Reader.{bad, Reader, Whole, byte_of, scan, Step, goes, leaves, fails}
use Rattle.do_grammar.specs.{Reader.{by_step, then_whole, ◌>>=◌}, Grammar.Begins}
use Rattle.do_grammar.specs.Forms.{Then, Byte, Scans}
use Rattle.do_grammar.proofs.reads.{ExactReader.{Reads, Reads-as, Reads-byte}, ScanExact.Reads-scan}
use Rattle.do_grammar.proofs.reads.WholeExact.{ReadsWhole, Whole-as, Reads-then_whole}
use Rattle.do_sig.specs.declared.fault.Kind.{Kind}
use Rattle.do_sig.specs.declared.outermost.place.Place.TheVariants.{Returned, Argument}
use Rattle.do_sig.specs.{MethodTypes.{QualifiedType, MethodType}, Blame.{why_no_self, why_no_more}}
use Rattle.do_sig.specs.Offsets.{Offset, fresh, signed, digits, offset_step, offset_ends}
use Rattle.do_sig.specs.{Encodings.IsEncodingAt, Signatures.{IsBare, IsArgs, IsSignature}}
use Rattle.do_sig.specs.reading.{Ending.{scan_all, ScansAll}, Offsets.{skip, after_offset}}
use Rattle.do_sig.specs.reading.{Outermost.encoding_at, Signatures.{bare_at, signature_of, or_more}}
use Rattle.do_sig.{specs.reading.Signatures.{args_at, signature_at}, proofs.OffsetExact.Reads-last}
use Rattle.do_sig.proofs.{EncodingExact.Reads-encoding_at, ScanAllExact.Reads-scan_all}

-- ---- the receiver and the selector

module _ (c : ℕ) (small : c < 256) (after_none : offset_step fresh c ≡ leaves)
    (after_some : offset_step digits c ≡ leaves) where
  -- a number is itself
  eq_self : (c : ℕ) → (c == c) ≡ true
  eq_self c = grind (arith, nat_tests)

  -- one letter, and its reader
  abbrev Letter : List ℕ → ℕ → Type 0
  Letter = Byte (λ b. b == c)

  -- its reader
  abbrev letter_at : Reader Kind ℕ
  letter_at = byte_of (λ b. b == c) why_no_self

  -- the letter is read exactly
  Reads-letter : Reads Letter letter_at
  Reads-letter =
      Reads-byte (λ b. b == c) why_no_self
      (record { byte = c; small = small; passes = eq_self c })

  -- the letter spells itself
  spelled : Letter (c ∷ []) c
  spelled = record { alone = refl; passes = eq_self c; small = small }

  -- the letter can stand behind any offset
  live : (s : Offset) → Begins (Scans offset_step (λ s. Letter) s) []
  live fresh = record { more = c ∷ []; value = c; spelled = (small, rw after_none spelled) }
  live signed = record {
    more = 48 ∷ c ∷ [];
    value = c;
    spelled = (omega arith, (small, rw after_some spelled));
  }
  live digits = record { more = c ∷ []; value = c; spelled = (small, rw after_some spelled) }

  -- nothing is no letter
  solid : (s : Offset) (x : ℕ) → Letter [] x → ⊥
  solid s x g = let e = g.alone in absurd cc

  -- scanning the offset is passing over it, as no letter begins nothing
  scan-skip : (bytes : List ℕ) (s : Offset)
      → scan offset_step (λ s. letter_at) s bytes ≡ (skip s bytes >>= letter_at)
  scan-skip [] fresh = refl
  scan-skip [] signed = refl
  scan-skip [] digits = refl
  scan-skip (b ∷ bytes) s = on (λ t. scan-skip bytes t) (offset_step s b)
    where
      on : ((t : Offset) → scan offset_step (λ s. letter_at) t bytes ≡ (skip t bytes >>= letter_at))
          → (t : Step Offset Kind)
          → by_step t (λ t. scan offset_step (λ s. letter_at) t bytes) (letter_at (b ∷ bytes))
          (λ k. Err (bad k (suc (length bytes))))
          ≡ (by_step t (λ t. skip t bytes) (Ok (b ∷ bytes)) (λ k. Err (bad k (suc (length bytes))))
          >>= letter_at)
      on again (goes t) = again t
      on again leaves = refl
      on again (fails k) = refl

  -- an offset and a letter are read exactly
  pub Reads-bare : Reads (IsBare c) (bare_at c)
  unfolding bare_at
  Reads-bare =
      Reads-as (IsBare c) (IsBare c) (scan offset_step (λ s. letter_at) fresh)
      (after_offset letter_at) (λ text x g. g) (λ text x g. g) (λ bytes. scan-skip bytes fresh)
      (Reads-scan offset_step (λ s. Letter) (λ s. letter_at) (λ s. Unit {0}) (λ s b t good e. tt)
      (λ s good. live s) (λ s b good e. Reads-letter) solid fresh tt)

-- ---- the arguments

module _ (x : MethodType) (H : List ℕ → MethodType → Type 0) (w : Whole Kind MethodType)
    (R : ReadsWhole H w) where
  -- the offset, at whose end the value is spelled, or what is spelled behind it
  abbrev Ending : Offset → List ℕ → MethodType → Type 0
  Ending = ScansAll offset_step (offset_ends x) (λ s. H)

  -- its reader
  abbrev ending_at : Offset → Whole Kind MethodType
  ending_at = scan_all offset_step (offset_ends x) (λ s. w)

  -- reading so is passing over the offset first
  all-skip : (bytes : List ℕ) (s : Offset) → ending_at s bytes ≡ (skip s bytes >>= or_more x w)
  all-skip [] fresh = refl
  all-skip [] signed = refl
  all-skip [] digits = refl
  all-skip (b ∷ bytes) s = on (λ t. all-skip bytes t) (offset_step s b)
    where
      on : ((t : Offset) → ending_at t bytes ≡ (skip t bytes >>= or_more x w))
          → (t : Step Offset Kind)
          → by_step t (λ t. ending_at t bytes) (w (b ∷ bytes))
          (λ k. Err (bad k (suc (length bytes))))
          ≡ (by_step t (λ t. skip t bytes) (Ok (b ∷ bytes)) (λ k. Err (bad k (suc (length bytes))))
          >>= or_more x w)
      on again (goes t) = again t
      on again leaves = refl
      on again (fails k) = refl

  -- the value can be spelled to its end from each state
  ending_live : (s : Offset) → Begins (Ending s) []
  ending_live fresh = record { more = []; value = x; spelled = refl }
  ending_live signed = record { more = 48 ∷ []; value = x; spelled = (omega arith, refl) }
  ending_live digits = record { more = []; value = x; spelled = refl }

  -- the value at the end of an offset, or what stands behind it, is read exactly
  Reads-or_more : ReadsWhole (Ending fresh) (after_offset (or_more x w))
  Reads-or_more =
      Whole-as (Ending fresh) (Ending fresh) (ending_at fresh) (after_offset (or_more x w))
      (λ text y g. g) (λ text y g. g) (λ bytes. all-skip bytes fresh)
      (Reads-scan_all offset_step (offset_ends x) (λ s. H) (λ s. w) ending_live (λ s b e. R) fresh)

-- one argument, and then at most n
abbrev ArgsBehind : ℕ → QualifiedType → List QualifiedType → QualifiedType
    → List ℕ → MethodType → Type 0
ArgsBehind n returned args arg = IsArgs n returned (args ++ arg ∷ [])

-- its reader
abbrev args_behind : ℕ → QualifiedType → List QualifiedType → QualifiedType → Whole Kind MethodType
args_behind n returned args arg = args_at n returned (args ++ arg ∷ [])

-- at most n arguments are read exactly
Reads-args : (n : ℕ) (returned : QualifiedType) (args : List QualifiedType)
    → ReadsWhole (IsArgs n returned args) (args_at n returned args)
unfolding args_at
Reads-args zero returned args = Reads-last why_no_more (signature_of returned args)
Reads-args (suc n) returned args =
    Reads-or_more (signature_of returned args)
    (Then (IsEncodingAt Argument) (ArgsBehind n returned args))
    (then_whole (encoding_at Argument) (args_behind n returned args))
    (Reads-then_whole (IsEncodingAt Argument) (ArgsBehind n returned args) (encoding_at Argument)
    (args_behind n returned args) (Reads-encoding_at Argument)
    (λ arg text g. Reads-args n returned (args ++ arg ∷ [])))

-- ---- the whole

-- up to eight arguments
abbrev Arguments : QualifiedType → ℕ → List ℕ → MethodType → Type 0
Arguments returned selector = IsArgs 8 returned []

-- a selector and arguments
abbrev Selector : QualifiedType → ℕ → List ℕ → MethodType → Type 0
Selector returned receiver = Then (IsBare 58) (Arguments returned)

-- a receiver, a selector and arguments
abbrev Receiver : QualifiedType → List ℕ → MethodType → Type 0
Receiver returned = Then (IsBare 64) (Selector returned)

-- the reader of a selector and arguments
abbrev selector_at : QualifiedType → ℕ → Whole Kind MethodType
selector_at returned receiver = then_whole (bare_at 58) (λ selector. args_at 8 returned [])

-- the reader of a receiver, a selector and arguments
abbrev receiver_at : QualifiedType → Whole Kind MethodType
receiver_at returned = then_whole (bare_at 64) (selector_at returned)

-- a signature is read exactly
pub Reads-signature : ReadsWhole IsSignature signature_at
unfolding signature_at
Reads-signature =
    Reads-then_whole (IsEncodingAt Returned) Receiver (encoding_at Returned) receiver_at
    (Reads-encoding_at Returned) (λ returned text g.
    Reads-then_whole (IsBare 64) (Selector returned) (bare_at 64) (selector_at returned)
    (Reads-bare 64 (omega arith) refl refl) (λ receiver text' g'.
    Reads-then_whole (IsBare 58) (Arguments returned) (bare_at 58)
    (λ selector. args_at 8 returned []) (Reads-bare 58 (omega arith) refl refl)
    (λ selector text'' g''. Reads-args 8 returned [])))
