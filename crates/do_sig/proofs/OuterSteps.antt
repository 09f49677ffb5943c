-- What the first byte of an outermost type gives.
use Rattle.std.proofs.Common.{◌≡◌, ◌≢◌, ℕ, suc, Bool, true, false, List, [], ◌∷◌, length, Ok, Err}
use Rattle.std.{proofs.Common.{refl, ◌∙◌}, specs.Prelude.{◌||◌, ◌&&◌}, proofs.lemmas.Bool.ne_eqb}
use Rattle.do_grammar.specs.Reader.{short, bad, ◌>>=◌}
use Rattle.do_sig.specs.declared.{fault.Kind.TheVariants.Unsupported, outermost.place.Place.Place}
use Rattle.do_sig.specs.declared.outermost.place.Place.TheVariants.{Alone, Returned, Argument}
use Rattle.do_sig.specs.declared.value_type.OutermostType.TheVariants.{Void, Pointer, Plain}
use Rattle.do_sig.specs.{Blame.{begins_type, why_no_type}, Places.{may_return, may_point}}
use Rattle.do_sig.specs.reading.{Types.type_at, Outermost.{begins_outermost, outermost_at}}

-- nothing is no outermost type
pub outer_end : (place : Place) (oneway : Bool) (bytes : List ℕ) → bytes ≡ []
    → outermost_at place oneway bytes ≡ Err short
unfolding outermost_at
outer_end place oneway bytes e = rw e refl

-- v stands behind V
pub oneway_void : (place : Place) (rest : List ℕ)
    → outermost_at place true (118 ∷ rest) ≡ Ok (Void, rest)
unfolding outermost_at
oneway_void place rest = refl

-- nothing else does
pub oneway_other : (place : Place) (b : ℕ) (rest : List ℕ) → b ≢ 118
    → outermost_at place true (b ∷ rest) ≡ Err (bad (why_no_type 8 b) (suc (length rest)))
unfolding outermost_at
oneway_other place b rest p = let e = ne_eqb b 118 p in rw e refl

-- v stands where a result may
pub outer_void : (place : Place) (rest : List ℕ) → may_return place ≡ true
    → outermost_at place false (118 ∷ rest) ≡ Ok (Void, rest)
unfolding outermost_at
outer_void place rest e = rw e refl

-- every place is one of three, at which the tests compute
pub no_void : (place : Place) (rest : List ℕ) → may_return place ≡ false
    → outermost_at place false (118 ∷ rest) ≡ Err (bad Unsupported (suc (length rest)))
unfolding outermost_at
no_void Alone rest e = absurd cc
no_void Returned rest e = absurd cc
no_void Argument rest e = refl

-- ^ and a type stand where an argument may
pub outer_pointer : (place : Place) (rest : List ℕ) → may_point place ≡ true
    → outermost_at place false (94 ∷ rest) ≡ (type_at 7 rest >>= λ x. Ok (Pointer x.0, x.1))
unfolding outermost_at
outer_pointer Alone rest e = refl
outer_pointer Returned rest e = absurd cc
outer_pointer Argument rest e = refl

-- ^ does not stand where a result must
pub no_pointer : (place : Place) (rest : List ℕ) → may_point place ≡ false
    → outermost_at place false (94 ∷ rest) ≡ Err (bad Unsupported (suc (length rest)))
unfolding outermost_at
no_pointer Alone rest e = absurd cc
no_pointer Returned rest e = refl
no_pointer Argument rest e = absurd cc

-- where neither v nor ^ stands, a type does
neither : (t u v : Bool) → (t || ((u && false) || (v && false))) ≡ t
neither true u v = refl
neither false true true = refl
neither false true false = refl
neither false false true = refl
neither false false false = refl

-- a type that is neither v nor a pointer
pub outer_plain : (place : Place) (b : ℕ) (rest : List ℕ) → b ≢ 118 → b ≢ 94
    → outermost_at place false (b ∷ rest) ≡ (type_at 8 (b ∷ rest) >>= λ x. Ok (Plain x.0, x.1))
unfolding outermost_at type_at
outer_plain place b rest p q = go (begins_type 8 b) refl
  where
    same : begins_outermost place false b ≡ begins_type 8 b
    same = rw (ne_eqb b 118 p, ne_eqb b 94 q)
        (neither (begins_type 8 b) (may_return place) (may_point place))

    go : (t : Bool) → begins_type 8 b ≡ t
        → outermost_at place false (b ∷ rest) ≡ (type_at 8 (b ∷ rest) >>= λ x. Ok (Plain x.0, x.1))
    go true e = let o : begins_outermost place false b ≡ true =
        same ∙ e in rw (o, e, ne_eqb b 118 p, ne_eqb b 94 q) refl
    go false e = let o : begins_outermost place false b ≡ false = same ∙ e in rw (o, e) refl

pub ruleset outer = (
  outer_end,
  oneway_void,
  oneway_other,
  outer_void,
  no_void,
  outer_pointer,
  no_pointer,
  outer_plain,
)
