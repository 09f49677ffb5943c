-- What each fault says of its byte.
use Rattle.std.proofs.Common.{◌≡◌, ℕ, zero, suc, ◌-◌, ◌+◌, Bool, cond, List, [], ◌∷◌, ◌++◌, length}
use Rattle.std.proofs.Common.{Option, Some, None, Ok, Err, refl, sym, ap, subst, ◌∙◌, length-append}
use Rattle.std.{proofs.Common.arith, specs.Prelude.{◌==◌, slice_get, IfSome}}
use Rattle.do_grammar.specs.Reader.{bad, Reader, Whole, done, mapped, byte_of, scan_to, until, Step}
use Rattle.do_grammar.specs.Reader.{goes, leaves, fails, by_step, then_whole, ◌>>=◌}
use Rattle.do_grammar.specs.Grammar.{IsBytes}
use Rattle.do_sig.specs.declared.fault.Kind.{Kind, TheVariants.BadChar}
use Rattle.do_sig.specs.declared.outermost.place.Place.{Place}
use Rattle.do_sig.specs.declared.outermost.place.Place.TheVariants.{Alone, Returned, Argument}
use Rattle.do_sig.specs.declared.value_type.{Scalar.Scalar, ValueType.{ValueType, Array, Structure}}
use Rattle.do_sig.specs.declared.value_type.ValueType.TheVariants.{Simple}
use Rattle.do_sig.specs.declared.value_type.OutermostType.TheVariants.{Void, Pointer, Plain}
use Rattle.do_sig.specs.Letters.{is_digit, scalar_of}
use Rattle.do_sig.specs.Blame.{begins_type, why_no_type, why_no_self, why_no_more, IsBlamed}
use Rattle.do_sig.specs.{MethodTypes.{QualifiedType, MethodType}, Bare.bare, Marks.qualifier_step}
use Rattle.do_sig.specs.Offsets.{Offset, fresh, signed, digits, offset_step}
use Rattle.do_sig.specs.reading.{Offsets.{skip, after_offset, nothing_left}, Types.count_step}
use Rattle.do_sig.specs.reading.Types.{count_at, name_step, exactly, array_at, counted_at}
use Rattle.do_sig.specs.reading.Types.{structure_at, named_at, letter_at, body_at, type_at}
use Rattle.do_sig.specs.reading.Outermost.{begins_outermost, outermost_body_at, outermost_at}
use Rattle.do_sig.specs.reading.Outermost.{qualified_at, encoding_at, alone_at}
use Rattle.do_sig.specs.reading.Signatures.{bare_at, signature_of, or_more, args_at, signature_at}
use Rattle.do_sig.proofs.{TypeBySteps.ByStep, TypeExact.Reads-type, EncodingExact.Reads-encoding_at}
use Rattle.do_sig.{proofs.SignatureExact.Reads-bare, specs.Encodings.IsEncodingAt}
use Rattle.do_sig.{specs.Signatures.IsBare, proofs.BlameForms.{Blamed, Blames, Cuts, exact_cuts}}
use Rattle.do_sig.proofs.BlameForms.{at_first, behind_text, err_same, done_blames, mapped_blames}
use Rattle.do_sig.proofs.BlameForms.{chain_cuts, either_blames, byte_blames, byte_cuts, scan_cuts}
use Rattle.do_sig.proofs.{BlameForms.{until_blames, chained, scan_blames}, BlameSteps.type_why}
use Rattle.do_sig.proofs.BlameSteps.{self_why, more_why, count_why, name_why, mark_why, offset_why}

-- ---- types

-- one byte is about itself
exactly_blames : (c : ℕ) → Blames (exactly c)
exactly_blames c = byte_blames (λ b. b == c) (λ b. BadChar) (λ b. tt)

-- one byte leaves those behind it
exactly_cuts : (c : ℕ) → Cuts (exactly c)
exactly_cuts c = byte_cuts (λ b. b == c) (λ b. BadChar)

-- a letter is about no byte
letter_blames : (o : Option Scalar) → Blames (letter_at o)
letter_blames (Some s) = done_blames (Simple s)
letter_blames None = λ bytes k left small e. absurd cc

-- a count is about a byte in it
count_blames : Blames count_at
count_blames =
    chained (byte_of is_digit (λ b. BadChar)) (λ b. scan_to count_step (b - 48))
    (byte_cuts is_digit (λ b. BadChar)) (byte_blames is_digit (λ b. BadChar) (λ b. tt))
    (λ b. scan_blames count_step count_why (b - 48))

-- a count leaves an end of what it was given
count_cuts : Cuts count_at
count_cuts =
    chain_cuts (byte_of is_digit (λ b. BadChar)) (λ b. scan_to count_step (b - 48))
    (byte_cuts is_digit (λ b. BadChar)) (λ b. scan_cuts count_step (b - 48))

module _ (r : Reader Kind ValueType) (cut : Cuts r) (b : Blames r) where
  -- the rest of an array is about a byte in it
  array_blames : (n : ℕ) → Blames (array_at r n)
  array_blames n =
      chained r (λ t. mapped (λ b. Array n t) (exactly 93)) cut b
      (λ t. mapped_blames (λ b. Array n t) (exactly 93) (exactly_blames 93))

  -- the rest of a structure is about a byte in it
  structure_blames : (s : List ℕ) → Blames (structure_at r s)
  structure_blames s =
      chained (exactly 61) (λ b. mapped (λ ts. Structure s ts) (until 125 r)) (exactly_cuts 61)
      (exactly_blames 61)
      (λ b'. mapped_blames (λ ts. Structure s ts) (until 125 r) (until_blames 125 r cut b))

  -- what stands behind the first byte of a type is about a byte in it
  body_blames : (c : ℕ) → Blames (body_at r c)
  body_blames c =
      either_blames (c == 91) (counted_at r)
      (cond (c == 123) (named_at r) (letter_at (scalar_of c)))
      (chained count_at (array_at r) count_cuts count_blames array_blames)
      (either_blames (c == 123) (named_at r) (letter_at (scalar_of c))
      (chained (scan_to name_step []) (structure_at r) (scan_cuts name_step [])
      (scan_blames name_step name_why []) structure_blames)
      (letter_blames (scalar_of c)))

-- a type is about a byte in it
type_blames : (d : ℕ) → Blames (type_at d)
unfolding type_at
type_blames zero =
    chained (byte_of (begins_type 0) (why_no_type 0)) (λ b. letter_at (scalar_of b))
    (byte_cuts (begins_type 0) (why_no_type 0))
    (byte_blames (begins_type 0) (why_no_type 0) (type_why 0)) (λ b. letter_blames (scalar_of b))
type_blames (suc d) =
    chained (byte_of (begins_type (suc d)) (why_no_type (suc d))) (body_at (type_at d))
    (byte_cuts (begins_type (suc d)) (why_no_type (suc d)))
    (byte_blames (begins_type (suc d)) (why_no_type (suc d)) (type_why (suc d)))
    (body_blames (type_at d) (exact_cuts (ByStep d) (type_at d) (Reads-type d)) (type_blames d))

-- ---- encodings

-- so is an outermost type
outermost_blames : (place : Place) (oneway : Bool) → Blames (outermost_at place oneway)
unfolding outermost_at
outermost_blames place oneway =
    chained (byte_of (begins_outermost place oneway) (why_no_type 8)) outermost_body_at
    (byte_cuts (begins_outermost place oneway) (why_no_type 8))
    (byte_blames (begins_outermost place oneway) (why_no_type 8) (type_why 8))
    (λ b. either_blames (b == 118) (done Void)
    (cond (b == 94) (mapped Pointer (type_at 7)) (mapped Plain (body_at (type_at 7) b)))
    (done_blames Void)
    (either_blames (b == 94) (mapped Pointer (type_at 7)) (mapped Plain (body_at (type_at 7) b))
    (mapped_blames Pointer (type_at 7) (type_blames 7))
    (mapped_blames Plain (body_at (type_at 7) b)
    (body_blames (type_at 7) (exact_cuts (ByStep 7) (type_at 7) (Reads-type 7)) (type_blames 7)
    b))))

-- so is an encoding
encoding_blames : (place : Place) → Blames (encoding_at place)
unfolding encoding_at
encoding_blames place =
    chained (scan_to (qualifier_step place) bare) (qualified_at place)
    (scan_cuts (qualifier_step place) bare)
    (scan_blames (qualifier_step place) (mark_why place) bare)
    (λ q. mapped_blames (λ t. record { qualifiers = q; value_type = t })
    (outermost_at place q.oneway) (outermost_blames place q.oneway))

-- an encoding leaves an end of what it was given
encoding_cuts : (place : Place) → Cuts (encoding_at place)
encoding_cuts place =
    exact_cuts (IsEncodingAt place) (encoding_at place) (Reads-encoding_at place)

-- what stands behind an offset
after_blames : {C : Type 0} (w : Whole Kind C) → Blames w → Blames (after_offset w)
after_blames {C} w h = λ bytes k left small e. go bytes fresh k left small e
  where
    go : (bytes : List ℕ) (s : Offset) (k : Kind) (left : ℕ) → IsBytes bytes
        → (skip s bytes >>= w) ≡ Err (bad k left) → Blamed bytes k left
    go [] fresh k left small e = h [] k left small e
    go [] signed k left small e = absurd cc
    go [] digits k left small e = h [] k left small e
    go (b ∷ bytes) s k left small e =
        on (λ t d. go bytes t k left small.1 d) (offset_step s b) refl e
      where
        on : ((t : Offset) → (skip t bytes >>= w) ≡ Err (bad k left) → Blamed bytes k left)
            → (t : Step Offset Kind) → offset_step s b ≡ t
            → (by_step t (λ t. skip t bytes) (Ok (b ∷ bytes))
            (λ k. Err (bad k (suc (length bytes)))) >>= w) ≡ Err (bad k left)
            → Blamed (b ∷ bytes) k left
        on again (goes t) p d = behind_text (b ∷ []) bytes (b ∷ bytes) k left refl (again t d)
        on again leaves p d = h (b ∷ bytes) k left small d
        on again (fails j) p d = at_first b bytes j k left (offset_why s b j p) (err_same _ _ d)

-- what is left over is about its first byte
nothing_blames : {A : Type 0} (why : ℕ → Kind) → ((b : ℕ) → IsBlamed (why b) b) → (x : A)
    → Blames (nothing_left why x)
nothing_blames why h x = λ bytes k left small e. go bytes k left e
  where
    go : (bytes : List ℕ) (k : Kind) (left : ℕ) → nothing_left why x bytes ≡ Err (bad k left)
        → Blamed bytes k left
    go [] k left e = absurd cc
    go (b ∷ bytes) k left e = at_first b bytes (why b) k left (h b) (err_same _ _ e)

-- each fault of an encoding by itself is about a byte that may be blamed so
pub alone_blames : Blames alone_at
unfolding alone_at
alone_blames =
    chained (encoding_at Alone) (λ e. after_offset (nothing_left (λ b. BadChar) e))
    (encoding_cuts Alone) (encoding_blames Alone)
    (λ e. after_blames (nothing_left (λ b. BadChar) e)
    (nothing_blames (λ b. BadChar) (λ b. tt) e))

-- ---- signatures

-- the receiver and the selector are about their own byte
bare_blames : (c : ℕ) → Blames (bare_at c)
unfolding bare_at
bare_blames c =
    after_blames (byte_of (λ b. b == c) why_no_self)
    (byte_blames (λ b. b == c) why_no_self self_why)

-- the end, or what stands there, is about a byte of what stands there
or_more_blames : (x : MethodType) (w : Whole Kind MethodType) → Blames w → Blames (or_more x w)
or_more_blames x w h = λ bytes k left small e. go bytes k left small e
  where
    go : Blames (or_more x w)
    go [] k left small e = absurd cc
    go (b ∷ bytes) k left small e = h (b ∷ bytes) k left small e

-- the arguments are about a byte in them
args_blames : (n : ℕ) (returned : QualifiedType) (args : List QualifiedType)
    → Blames (args_at n returned args)
unfolding args_at
args_blames zero returned args =
    after_blames (nothing_left why_no_more (signature_of returned args))
    (nothing_blames why_no_more more_why (signature_of returned args))
args_blames (suc n) returned args =
    let next = λ (arg : QualifiedType). args_at n returned (args ++ arg ∷ []) in
    after_blames (or_more (signature_of returned args) (then_whole (encoding_at Argument) next))
    (or_more_blames (signature_of returned args) (then_whole (encoding_at Argument) next)
    (chained (encoding_at Argument) next (encoding_cuts Argument) (encoding_blames Argument)
    (λ arg. args_blames n returned (args ++ arg ∷ []))))

-- each fault of a signature is about a byte that may be blamed so
pub signature_blames : Blames signature_at
unfolding signature_at
signature_blames =
    chained (encoding_at Returned)
    (λ returned. then_whole (bare_at 64) (λ receiver. then_whole (bare_at 58)
    (λ selector. args_at 8 returned []))) (encoding_cuts Returned) (encoding_blames Returned)
    (λ returned. chained (bare_at 64)
    (λ receiver. then_whole (bare_at 58) (λ selector. args_at 8 returned []))
    (exact_cuts (IsBare 64) (bare_at 64) (Reads-bare 64 (omega arith) refl refl)) (bare_blames 64)
    (λ receiver. chained (bare_at 58) (λ selector. args_at 8 returned [])
    (exact_cuts (IsBare 58) (bare_at 58) (Reads-bare 58 (omega arith) refl refl)) (bare_blames 58)
    (λ selector. args_blames 8 returned [])))

-- ---- by the place

-- the byte behind a front stands at its length
get_behind : (front : List ℕ) (byte : ℕ) (rest : List ℕ)
    → slice_get (front ++ byte ∷ rest) (length front) ≡ Some byte
get_behind [] byte rest = refl
get_behind (b ∷ front) byte rest = get_behind front byte rest

-- the byte at the place of the fault may be blamed so
pub blamed_at : (bytes : List ℕ) (k : Kind) (left : ℕ) → Blamed bytes k left
    → IfSome (slice_get bytes (length bytes - left)) (IsBlamed k)
blamed_at bytes k left d =
    let len : length bytes ≡ length d.front + suc (length d.rest) =
    ap length d.parts ∙ length-append d.front (d.byte ∷ d.rest) in
    let at : length bytes - left ≡ length d.front = omega (arith, d.place, len) in
    let here : slice_get bytes (length bytes - left) ≡ Some d.byte =
    ap (λ (n : ℕ). slice_get bytes n) at
    ∙ ap (λ (w : List ℕ). slice_get w (length d.front)) d.parts
    ∙ get_behind d.front d.byte d.rest in
    subst (λ (o : Option ℕ). IfSome o (IsBlamed k)) (sym here) d.blamed
