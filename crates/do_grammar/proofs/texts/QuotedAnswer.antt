-- What an answer tells that is the text that stands in quotes at the front.
use Rattle.std.proofs.Common.{◌≡◌, ℕ, List, ◌++◌, Option, Some, None, Result, Ok, Err, refl, sym}
use Rattle.std.proofs.Common.{ap, subst, ◌∙◌}
use Rattle.std.specs.{Prelude.{IfSome, IfOk}, Option.option_map, Borrow.Bor}
use Rattle.do_grammar.specs.Grammar.{Takes}
use Rattle.do_grammar.specs.Quoted.{quoted, quoted_at, front_view, slice_view, Quoted}
use Rattle.do_grammar.proofs.texts.{WordBytes.some_is, QuotedExact.{quoted_takes, quoted_again}}

-- a text that is read in quotes begins the bytes
takes : (limit : ℕ) (bytes text rest : List ℕ) → quoted_at limit bytes ≡ Some (text, rest)
    → Takes (Quoted limit) bytes text rest
takes limit bytes text rest e =
    let t = quoted_takes limit bytes text rest e in
    record {
      text = quoted text;
      parts = t.0;
      spelled = record { spelled = refl; within = t.1; small = t.2 };
    }

-- and a text in quotes that begins the bytes is read
finds : (limit : ℕ) (bytes text rest : List ℕ) → Takes (Quoted limit) bytes text rest
    → quoted_at limit bytes ≡ Some (text, rest)
finds limit bytes text rest t =
    ap (quoted_at limit) (t.parts ∙ ap (λ (w : List ℕ). w ++ rest) t.spelled.spelled)
    ∙ quoted_again limit text rest t.spelled.small t.spelled.within

-- a text that is answered begins the bytes, in quotes
pub quoted_told : {E : Type 0} (limit : ℕ) (bytes : List ℕ)
    (r : Result (Option (List ℕ × Bor (List ℕ))) E)
    → IfOk r (λ text. front_view text ≡ quoted_at limit bytes)
    → IfOk r (λ text. IfSome text (λ x. Takes (Quoted limit) bytes x.0 x.1.now))
quoted_told limit bytes (Err d) e = tt
quoted_told limit bytes (Ok None) e = tt
quoted_told limit bytes (Ok (Some x)) e = takes limit bytes x.0 x.1.now (sym e)

-- and the text in quotes that begins the bytes is answered
pub quoted_found : {E : Type 0} (limit : ℕ) (bytes : List ℕ)
    (r : Result (Option (List ℕ × Bor (List ℕ))) E)
    → IfOk r (λ text. front_view text ≡ quoted_at limit bytes) → (text rest : List ℕ)
    → Takes (Quoted limit) bytes text rest → IfOk r (λ found. front_view found ≡ Some (text, rest))
quoted_found limit bytes (Err d) e text rest t = tt
quoted_found limit bytes (Ok found) e text rest t = e ∙ finds limit bytes text rest t

-- a mapped value stands for one
mapped_some : {A B : Type 0} (f : A → B) (o : Option A) (y : B) → Some y ≡ option_map f o
    → (x : A) × (o ≡ Some x) × (f x ≡ y)
mapped_some f None y e = absurd cc
mapped_some f (Some x) y e = (x, refl, some_is (f x) y (sym e))

-- bytes that are answered stand behind a text in quotes
pub skipped_told : (limit : ℕ) (bytes : List ℕ) (o : Option (Bor (List ℕ)))
    → slice_view o ≡ option_map (λ x. x.1) (quoted_at limit bytes)
    → IfSome o (λ rest. (text : List ℕ) × Takes (Quoted limit) bytes text rest.now)
skipped_told limit bytes None e = tt
skipped_told limit bytes (Some rest) e =
    let m = mapped_some (λ (x : List ℕ × List ℕ). x.1) (quoted_at limit bytes) rest.now e in (
      m.0.0,
      subst (λ (w : List ℕ). Takes (Quoted limit) bytes m.0.0 w) m.2
          (takes limit bytes m.0.0 m.0.1 m.1),
    )

-- and what stands behind the text in quotes that begins the bytes is answered
pub skipped_found : (limit : ℕ) (bytes : List ℕ) (o : Option (Bor (List ℕ)))
    → slice_view o ≡ option_map (λ x. x.1) (quoted_at limit bytes) → (text rest : List ℕ)
    → Takes (Quoted limit) bytes text rest → slice_view o ≡ Some rest
skipped_found limit bytes o e text rest t = e
    ∙ ap (option_map (λ (x : List ℕ × List ℕ). x.1)) (finds limit bytes text rest t)
