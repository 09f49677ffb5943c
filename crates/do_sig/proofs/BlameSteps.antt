-- Each step that fails is about its byte.
use Rattle.std.proofs.Common.{◌≡◌, ℕ, ◌-◌, ◌+◌, ◌*◌, Bool, true, false, cond, leb, List, [], ◌∷◌}
use Rattle.std.proofs.Common.{◌++◌, Option, Some, None, refl, subst}
use Rattle.std.specs.Prelude.{◌&&◌, ◌||◌, ◌==◌}
use Rattle.do_grammar.specs.Reader.{Step, goes, leaves, fails}
use Rattle.do_sig.specs.declared.fault.Kind.{Kind, TheVariants.{Unsupported, Deep, NoSelf}}
use Rattle.do_sig.specs.declared.fault.Kind.TheVariants.{TooManyArgs, BadChar}
use Rattle.do_sig.specs.declared.{outermost.place.Place.Place, qualifiers.Qualifiers.Qualifiers}
use Rattle.do_sig.specs.{Letters.{is_digit, is_qualifier, is_unsupported}, Blame.is_bracket}
use Rattle.do_sig.specs.Blame.{begins_argument, why_no_type, why_no_self, why_no_more, IsBlamed}
use Rattle.do_sig.specs.Marks.{marked, goes_or_fails, qualifier_step}
use Rattle.do_sig.specs.Offsets.{Offset, fresh, signed, digits, offset_step}
use Rattle.do_sig.specs.reading.Types.{count_step, goes_on_name, is_some_name, name_step}
use Rattle.do_sig.proofs.TestsPass.{both_pass}

-- a type that only runtimes know is unsupported
pub unsupported_known : (b : ℕ) → is_unsupported b ≡ true → IsBlamed Unsupported b
unsupported_known b e = rw e refl

-- so is }
pub brace_known : (b : ℕ) → (b == 125) ≡ true → IsBlamed Unsupported b
brace_known b e = go (is_unsupported b)
  where
    go : (u : Bool) → (u || (b == 125 || is_digit b)) ≡ true
    go true = refl
    go false = rw e refl

-- so is a digit
pub digit_known : (b : ℕ) → is_digit b ≡ true → IsBlamed Unsupported b
digit_known b e = go (is_unsupported b) (b == 125)
  where
    go : (u v : Bool) → (u || (v || is_digit b)) ≡ true
    go true v = refl
    go false true = refl
    go false false = e

-- where a type must stand
pub type_why : (d b : ℕ) → IsBlamed (why_no_type d b) b
type_why d b = go (is_bracket b && (d == 0)) (is_unsupported b) refl refl
  where
    go : (t u : Bool) → (is_bracket b && (d == 0)) ≡ t → is_unsupported b ≡ u
        → IsBlamed (cond t Deep (cond u Unsupported BadChar)) b
    go true u p q = (both_pass (is_bracket b) (d == 0) p).0
    go false true p q = unsupported_known b q
    go false false p q = tt

-- where the receiver's or the selector's letter must stand
pub self_why : (b : ℕ) → IsBlamed (why_no_self b) b
self_why b = go (is_unsupported b) (begins_argument b) refl refl
  where
    go : (u v : Bool) → is_unsupported b ≡ u → begins_argument b ≡ v
        → IsBlamed (cond u Unsupported (cond v NoSelf BadChar)) b
    go true v p q = unsupported_known b p
    go false true p q = (q, p)
    go false false p q = tt

-- behind the eighth argument
pub more_why : (b : ℕ) → IsBlamed (why_no_more b) b
more_why b = go (begins_argument b) (is_unsupported b) refl refl
  where
    go : (v u : Bool) → begins_argument b ≡ v → is_unsupported b ≡ u
        → IsBlamed (cond v TooManyArgs (cond u Unsupported BadChar)) b
    go true u p q = p
    go false true p q = unsupported_known b q
    go false false p q = tt

-- any byte may be a bad one
pub bad_char : (b : ℕ) (k : Kind) → BadChar ≡ k → IsBlamed k b
bad_char b k e = subst (λ (i : Kind). IsBlamed i b) e tt

-- in a count
pub count_why : (n b : ℕ) (k : Kind) → count_step n b ≡ fails k → IsBlamed k b
count_why n b k e = go (is_digit b) (n == 0) (leb (n * 10 + (b - 48)) 1024) refl e
  where
    go : (t u v : Bool) → is_digit b ≡ t
        → cond {A = Step ℕ Kind} t
        (cond u (fails BadChar) (cond v (goes (n * 10 + (b - 48))) (fails Unsupported))) leaves
        ≡ fails k
        → IsBlamed k b
    go true true v p d = bad_char b k cc
    go true false true p d = absurd cc
    go true false false p d =
        let same : Unsupported ≡ k = cc in
        subst (λ (i : Kind). IsBlamed i b) same (digit_known b p)
    go false u v p d = absurd cc

-- in a name
pub name_why : (s : List ℕ) (b : ℕ) (k : Kind) → name_step s b ≡ fails k → IsBlamed k b
name_why s b k e = go (goes_on_name s b) (b == 61 && is_some_name s) (b == 125) refl e
  where
    go : (t u v : Bool) → (b == 125) ≡ v
        → cond {A = Step (List ℕ) Kind} t (goes (s ++ b ∷ []))
        (cond u leaves (cond v (fails Unsupported) (fails BadChar))) ≡ fails k
        → IsBlamed k b
    go true u v p d = absurd cc
    go false true v p d = absurd cc
    go false false true p d =
        let same : Unsupported ≡ k = cc in
        subst (λ (i : Kind). IsBlamed i b) same (brace_known b p)
    go false false false p d = bad_char b k cc

-- among qualifiers
pub mark_why : (place : Place) (q : Qualifiers) (b : ℕ) (k : Kind)
    → qualifier_step place q b ≡ fails k → IsBlamed k b
mark_why place q b k e = go (is_qualifier b) (marked place q b) e
  where
    go : (t : Bool) (o : Option Qualifiers)
        → cond {A = Step Qualifiers Kind} t (goes_or_fails o) leaves ≡ fails k → IsBlamed k b
    go true None d = bad_char b k cc
    go true (Some u) d = absurd cc
    go false o d = absurd cc

-- in an offset
pub offset_why : (s : Offset) (b : ℕ) (k : Kind) → offset_step s b ≡ fails k → IsBlamed k b
offset_why fresh b k e = go (is_digit b) (b == 43 || b == 45) e
  where
    go : (t u : Bool)
        → cond {A = Step Offset Kind} t (goes digits) (cond u (goes signed) leaves) ≡ fails k
        → IsBlamed k b
    go true u d = absurd cc
    go false true d = absurd cc
    go false false d = absurd cc
offset_why signed b k e = go (is_digit b) e
  where
    go : (t : Bool) → cond {A = Step Offset Kind} t (goes digits) (fails BadChar) ≡ fails k
        → IsBlamed k b
    go true d = absurd cc
    go false d = bad_char b k cc
offset_why digits b k e = go (is_digit b) e
  where
    go : (t : Bool) → cond {A = Step Offset Kind} t (goes digits) leaves ≡ fails k → IsBlamed k b
    go true d = absurd cc
    go false d = absurd cc
