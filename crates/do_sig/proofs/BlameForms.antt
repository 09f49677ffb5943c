-- Each form of a reader is about a byte that one of its parts is about.
use Rattle.std.proofs.Common.{◌≡◌, ℕ, zero, suc, Bool, true, false, cond, List, [], ◌∷◌, ◌++◌}
use Rattle.std.proofs.Common.{length, Result, Ok, Err, refl, sym, ap, subst, ◌∙◌, append_assoc}
use Rattle.std.specs.Prelude.{◌==◌}
use Rattle.do_grammar.specs.Reader.{Stop, bad, Reader, done, and_then, mapped, byte_of, scan_to}
use Rattle.do_grammar.specs.Reader.{until, until_within, Step, goes, leaves, fails, by_step, ◌>>=◌}
use Rattle.do_grammar.{specs.Grammar.IsBytes, proofs.reads.ExactReader.{Reads, IsBytes-rest}}
use Rattle.do_grammar.proofs.reads.ChainAnswers.{Stopped, first, later, bind_err, bind_ok}
use Rattle.do_sig.specs.{declared.fault.Kind.Kind, Blame.IsBlamed}

-- the byte at which reading stopped may be blamed so
pub record Blamed (bytes : List ℕ) (k : Kind) (left : ℕ) : Type 0 where
  pub front : List ℕ
  pub byte : ℕ
  pub rest : List ℕ
  pub parts : bytes ≡ front ++ byte ∷ rest
  pub place : left ≡ suc (length rest)
  pub blamed : IsBlamed k byte

-- wherever it stops at a byte, this byte may be blamed so
abbrev pub Blames : {C : Type 0} → (List ℕ → Result C (Stop Kind)) → Type 0
Blames w = (bytes : List ℕ) (k : Kind) (left : ℕ) → IsBytes bytes → w bytes ≡ Err (bad k left)
    → Blamed bytes k left

-- what a reader leaves is the end of what it was given
abbrev pub Cuts : {A : Type 0} → Reader Kind A → Type 0
Cuts {A} r = (bytes : List ℕ) (x : A) (rest : List ℕ) → IsBytes bytes → r bytes ≡ Ok (x, rest)
    → (text : List ℕ) × (bytes ≡ text ++ rest)

-- an exact reader does
pub exact_cuts : {A : Type 0} (G : List ℕ → A → Type 0) (r : Reader Kind A) → Reads G r → Cuts r
exact_cuts G r R = λ bytes x rest small e.
    let t = R.sound bytes x rest small e in (t.text, t.parts)

-- the first byte is at fault
pub at_first : (b : ℕ) (bytes : List ℕ) (j k : Kind) (left : ℕ) → IsBlamed j b
    → ◌≡◌ {A = Stop Kind} (bad j (suc (length bytes))) (bad k left) → Blamed (b ∷ bytes) k left
at_first b bytes j k left h e =
    let kind : j ≡ k = cc in
    record {
      front = [];
      byte = b;
      rest = bytes;
      parts = refl;
      place = cc;
      blamed = subst (λ (i : Kind). IsBlamed i b) kind h;
    }

-- a byte behind these is
pub behind_text : (text rest bytes : List ℕ) (k : Kind) (left : ℕ) → bytes ≡ text ++ rest
    → Blamed rest k left → Blamed bytes k left
behind_text text rest bytes k left e d = record {
  front = text ++ d.front;
  byte = d.byte;
  rest = d.rest;
  parts =
      e ∙ ap (λ (w : List ℕ). text ++ w) d.parts ∙ sym
      (append_assoc text d.front (d.byte ∷ d.rest));
  place = d.place;
  blamed = d.blamed;
}

-- two errors that are the same
pub err_same : {A : Type 0} (s t : Stop Kind) → ◌≡◌ {A = Result A (Stop Kind)} (Err s) (Err t)
    → s ≡ t
err_same s t e = cc

-- one reader, and then what reads the rest
module _ {A C : Type 0} (r : Reader Kind A) (f : A → List ℕ → Result C (Stop Kind)) (cut : Cuts r)
    (b : Blames r) (c : (x : A) → Blames (f x)) where
  -- a chain is about a byte that its first or its second part is about
  pub chained : (bytes : List ℕ) (k : Kind) (left : ℕ) → IsBytes bytes
      → (r bytes >>= λ x. f x.0 x.1) ≡ Err (bad k left) → Blamed bytes k left
  chained bytes k left small e = go (bind_err (r bytes) (λ x. f x.0 x.1) (bad k left) e)
    where
      go : Stopped (r bytes) (λ x. f x.0 x.1) (bad k left) → Blamed bytes k left
      go (first h) = b bytes k left small h
      go (later x h h') =
          let t = cut bytes x.0 x.1 small h in
          let rest_small = IsBytes-rest t.0 x.1 (subst IsBytes t.1 small) in
          behind_text t.0 x.1 bytes k left t.1 (c x.0 x.1 k left rest_small h')

-- nothing is about no byte
pub done_blames : {A : Type 0} (x : A) → Blames {C = A × List ℕ} (done x)
done_blames x = λ bytes k left small e. absurd cc

-- a value that is made from another is about the same byte
pub mapped_blames : {A B : Type 0} (to : A → B) (r : Reader Kind A) → Blames r
    → Blames (mapped to r)
mapped_blames {A} {B} to r b = λ bytes k left small e.
    go bytes k left small (bind_err (r bytes) (λ x. Ok (to x.0, x.1)) (bad k left) e)
  where
    go : (bytes : List ℕ) (k : Kind) (left : ℕ) → IsBytes bytes
        → Stopped {B = B × List ℕ} (r bytes) (λ x. Ok (to x.0, x.1)) (bad k left)
        → Blamed bytes k left
    go bytes k left small (first h) = b bytes k left small h
    go bytes k left small (later x h h') = absurd cc

-- a chain leaves an end of what it was given
pub chain_cuts : {A B : Type 0} (r : Reader Kind A) (f : A → Reader Kind B) → Cuts r
    → ((x : A) → Cuts (f x)) → Cuts (and_then r f)
chain_cuts r f cut g = λ bytes y rest small e.
    let c = bind_ok (r bytes) (λ x. f x.0 x.1) (y, rest) e in
    let t = cut bytes c.0.0 c.0.1 small c.1 in
    let u = g c.0.0 c.0.1 y rest (IsBytes-rest t.0 c.0.1 (subst IsBytes t.1 small)) c.2 in
    (t.0 ++ u.0, t.1 ∙ ap (λ (w : List ℕ). t.0 ++ w) u.1 ∙ sym (append_assoc t.0 u.0 rest))

-- a choice is about a byte that one side is about
pub either_blames : {C : Type 0} (t : Bool) (r s : List ℕ → Result C (Stop Kind))
    → Blames r → Blames s → Blames (cond t r s)
either_blames true r s p q = p
either_blames false r s p q = q

-- a byte that does not pass is at fault
pub byte_blames : (ok : ℕ → Bool) (why : ℕ → Kind) → ((b : ℕ) → IsBlamed (why b) b)
    → Blames (byte_of ok why)
byte_blames ok why h = λ bytes k left small e. go bytes k left e
  where
    test : (t : Bool) (b : ℕ) (bytes : List ℕ) (k : Kind) (left : ℕ)
        → cond {A = Result (ℕ × List ℕ) (Stop Kind)} t (Ok (b, bytes))
        (Err (bad (why b) (suc (length bytes)))) ≡ Err (bad k left)
        → Blamed (b ∷ bytes) k left
    test true b bytes k left e = absurd cc
    test false b bytes k left e = at_first b bytes (why b) k left (h b) (err_same _ _ e)

    go : (bytes : List ℕ) (k : Kind) (left : ℕ) → byte_of ok why bytes ≡ Err (bad k left)
        → Blamed bytes k left
    go [] k left e = absurd cc
    go (b ∷ bytes) k left e = test (ok b) b bytes k left e

-- one byte leaves the bytes behind it
pub byte_cuts : (ok : ℕ → Bool) (why : ℕ → Kind) → Cuts (byte_of ok why)
byte_cuts ok why = λ bytes x rest small e. go bytes x rest e
  where
    test : (t : Bool) (b x : ℕ) (bytes rest : List ℕ)
        → cond {A = Result (ℕ × List ℕ) (Stop Kind)} t (Ok (b, bytes))
        (Err (bad (why b) (suc (length bytes)))) ≡ Ok (x, rest)
        → (text : List ℕ) × (b ∷ bytes ≡ text ++ rest)
    test true b x bytes rest e = (b ∷ [], ap (λ (w : List ℕ). b ∷ w) (same e))
      where
        same : ◌≡◌ {A = Result (ℕ × List ℕ) (Stop Kind)} (Ok (b, bytes)) (Ok (x, rest))
            → bytes ≡ rest
        same e = let p : (b, bytes) ≡ (x, rest) = cc in ap (λ (w : ℕ × List ℕ). w.1) p
    test false b x bytes rest e = absurd cc

    go : (bytes : List ℕ) (x : ℕ) (rest : List ℕ) → byte_of ok why bytes ≡ Ok (x, rest)
        → (text : List ℕ) × (bytes ≡ text ++ rest)
    go [] x rest e = absurd cc
    go (b ∷ bytes) x rest e = test (ok b) b x bytes rest e

-- bytes that lead from state to state
module _ {S : Type 0} (step : S → ℕ → Step S Kind)
    (h : (s : S) (b : ℕ) (k : Kind) → step s b ≡ fails k → IsBlamed k b) where
  -- a scan is about a byte at which a step fails
  pub scan_blames : (s : S) → Blames (scan_to step s)
  scan_blames s = λ bytes k left small e. go bytes s k left e
    where
      go : (bytes : List ℕ) (s : S) (k : Kind) (left : ℕ)
          → scan_to step s bytes ≡ Err (bad k left) → Blamed bytes k left
      go [] s k left e = absurd cc
      go (b ∷ bytes) s k left e = on (λ t d. go bytes t k left d) (step s b) refl e
        where
          on : ((t : S) → scan_to step t bytes ≡ Err (bad k left) → Blamed bytes k left)
              → (t : Step S Kind) → step s b ≡ t
              → by_step t (λ t. scan_to step t bytes) (Ok (s, b ∷ bytes))
              (λ k. Err (bad k (suc (length bytes)))) ≡ Err (bad k left)
              → Blamed (b ∷ bytes) k left
          on again (goes t) p d = behind_text (b ∷ []) bytes (b ∷ bytes) k left refl (again t d)
          on again leaves p d = absurd cc
          on again (fails j) p d = at_first b bytes j k left (h s b j p) (err_same _ _ d)

-- a scan leaves an end of what it was given
pub scan_cuts : {S : Type 0} (step : S → ℕ → Step S Kind) (s : S) → Cuts (scan_to step s)
scan_cuts {S} step s = λ bytes x rest small e. go bytes s x rest e
  where
    go : (bytes : List ℕ) (s x : S) (rest : List ℕ) → scan_to step s bytes ≡ Ok (x, rest)
        → (text : List ℕ) × (bytes ≡ text ++ rest)
    go [] s x rest e = absurd cc
    go (b ∷ bytes) s x rest e = on (λ t d. go bytes t x rest d) (step s b) e
      where
        on : ((t : S) → scan_to step t bytes ≡ Ok (x, rest)
            → (text : List ℕ) × (bytes ≡ text ++ rest))
            → (t : Step S Kind)
            → by_step t (λ t. scan_to step t bytes) (Ok (s, b ∷ bytes))
            (λ k. Err (bad k (suc (length bytes)))) ≡ Ok (x, rest)
            → (text : List ℕ) × (b ∷ bytes ≡ text ++ rest)
        on again (goes t) d =
            let c = again t d in (b ∷ c.0, ap (λ (w : List ℕ). b ∷ w) c.1)
        on again leaves d =
            let p : (s, b ∷ bytes) ≡ (x, rest) = cc in
            ([], ap (λ (w : S × List ℕ). w.1) p)
        on again (fails j) d = absurd cc

-- values up to an end byte
pub until_blames : {A : Type 0} (end : ℕ) (r : Reader Kind A) → Cuts r → Blames r
    → Blames (until end r)
unfolding until
until_blames {A} end r cut b = λ bytes k left small e. go (suc (length bytes)) bytes k left small e
  where
    inner : (n : ℕ) → Blames (until_within end r n) → (x : A) (rest : List ℕ) (k : Kind)
        (left : ℕ) → IsBytes rest
        → Stopped {B = List A × List ℕ} (until_within end r n rest)
        (λ xs. Ok (x ∷ xs.0, xs.1)) (bad k left)
        → Blamed rest k left
    inner n again x rest k left small (first h) = again rest k left small h
    inner n again x rest k left small (later xs h h') = absurd cc

    test : (n : ℕ) → Blames (until_within end r n) → (t : Bool) (c : ℕ) (bytes : List ℕ)
        (k : Kind) (left : ℕ) → IsBytes (c ∷ bytes)
        → cond {A = Result (List A × List ℕ) (Stop Kind)} t (Ok ([], bytes))
        (r (c ∷ bytes) >>= λ x. until_within end r n x.1 >>= λ xs. Ok (x.0 ∷ xs.0, xs.1))
        ≡ Err (bad k left)
        → Blamed (c ∷ bytes) k left
    test n again true c bytes k left small d = absurd cc
    test n again false c bytes k left small d =
        chained r (λ x rest. until_within end r n rest >>= λ xs. Ok (x ∷ xs.0, xs.1)) cut b
        (λ x rest k left small' e'. inner n again x rest k left small'
        (bind_err (until_within end r n rest) (λ xs. Ok (x ∷ xs.0, xs.1)) (bad k left) e'))
        (c ∷ bytes) k left small d

    go : (n : ℕ) → Blames (until_within end r n)
    go zero bytes k left small e = absurd cc
    go (suc n) [] k left small e = absurd cc
    go (suc n) (c ∷ bytes) k left small e =
        test n (λ bytes k left small e. go n bytes k left small e) (c == end) c bytes k left small e
