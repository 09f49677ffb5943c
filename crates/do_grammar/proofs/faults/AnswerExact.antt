-- What the answer of an exact reader tells of the bytes.
use Rattle.std.proofs.Common.{◌≡◌, ℕ, suc, ◌+◌, ◌<◌, ◌≤◌, List, [], ◌∷◌, ◌++◌, length, get_or, take}
use Rattle.std.{proofs.Common.{Ok, Err, sym, ap, subst, ◌∙◌, arith}, specs.Prelude.◌-◌}
use Rattle.std.proofs.lemmas.List.{append-nil, length-append, take_at}
use Rattle.do_grammar.specs.Reader.{Stop, short, bad, Reader}
use Rattle.do_grammar.specs.Grammar.{IsBytes, Begins, IsProperFront, IsFirstBad}
use Rattle.do_grammar.proofs.{faults.FaultPlace.is_placed, reads.ExactReader.{StopsAt, Reads}}
use Rattle.do_grammar.proofs.reads.{ExactReader.IsBytes-rest, ChainAnswers.{ok_value, ok_rest}}

-- ---- what an exact reader tells of all its input

-- no other value is spelled by a front of the same bytes, and no spelling begins another
pub only : {K A : Type 0} (G : List ℕ → A → Type 0) (r : Reader K A) → Reads G r
    → (a b c d : List ℕ) (x y : A) → G a x → G b y → a ++ c ≡ b ++ d → (x ≡ y) × (c ≡ d)
only G r R a b c d x y g h e =
    let same : Ok (x, c) ≡ Ok (y, d) = sym (R.reads_spelling a x c g) ∙ ap r e
    ∙ R.reads_spelling b y d h in
    (ok_value x y c d same, ok_rest x y c d same)

-- no spelling begins with the front and the byte at which the reader stopped
pub dead : {K A : Type 0} (G : List ℕ → A → Type 0) (r : Reader K A) → Reads G r
    → (bytes : List ℕ) (k : K) (left : ℕ) (s : StopsAt G r bytes k left) (more : List ℕ) (x : A)
    → G (s.front ++ s.byte ∷ more) x → ⊥
dead G r R bytes k left s more x g =
    let got = R.reads_spelling (s.front ++ s.byte ∷ more) x [] g in
    let at = s.stays more in
    let whole : r ((s.front ++ s.byte ∷ more) ++ []) ≡ r (s.front ++ s.byte ∷ more) =
    ap r (append-nil (s.front ++ s.byte ∷ more)) in
    absurd cc

-- where an exact reader wants more bytes, they are a proper front of a spelling
pub proper_front : {K A : Type 0} (G : List ℕ → A → Type 0) (r : Reader K A) → Reads G r
    → (bytes : List ℕ) → IsBytes bytes → r bytes ≡ Err short → IsProperFront G bytes
proper_front {A = A} G r R bytes small e = go (R.short_is_front bytes small e)
  where
    from : (more : List ℕ) (x : A) → G (bytes ++ more) x → IsProperFront G bytes
    from [] x g =
        let got = R.reads_spelling (bytes ++ []) x [] g in
        let same = ap r (append-nil (bytes ++ []) ∙ append-nil bytes) in
        absurd cc
    from (b ∷ more) x g = record { next = b; more = more; value = x; spelled = g }

    go : Begins G bytes → IsProperFront G bytes
    go b = from b.more b.value b.spelled

-- a reader that stopped did so behind a proper front of a spelling
front_goes_on : {K A : Type 0} (G : List ℕ → A → Type 0) (r : Reader K A) → Reads G r
    → (bytes : List ℕ) (k : K) (left : ℕ) (s : StopsAt G r bytes k left) → IsProperFront G s.front
front_goes_on {A = A} G r R bytes k left s = from s.goes_on.more s.goes_on.value s.goes_on.spelled
  where
    from : (more : List ℕ) (x : A) → G (s.front ++ more) x → IsProperFront G s.front
    from [] x g =
        let whole : G s.front x = subst (λ (w : List ℕ). G w x) (append-nil s.front) g in
        let got = R.reads_spelling s.front x (s.byte ∷ s.rest) whole in
        let stop = s.stays s.rest in
        absurd cc
    from (b ∷ more) x g = record { next = b; more = more; value = x; spelled = g }

-- where it fails, it is at the first byte with which no spelling goes on
pub first_bad : {K A : Type 0} (G : List ℕ → A → Type 0) (r : Reader K A) → Reads G r
    → (bytes : List ℕ) (k : K) (left : ℕ) → IsBytes bytes → r bytes ≡ Err (bad k left)
    → IsFirstBad G bytes (length bytes - left)
first_bad {A = A} G r R bytes k left small e =
    let s = R.bad_is_first bytes k left small e in
    let p = is_placed bytes s.front s.byte s.rest left s.parts s.place in
    record {
      inside = p.inside;
      before = subst (IsProperFront G) (sym p.before) (front_goes_on G r R bytes k left s);
      dead = λ after x g.
          dead G r R bytes k left s after x (subst (λ (w : List ℕ). G w x) (p.through after) g);
    }

-- bytes by their places
pub bytes_from_each : (bytes : List ℕ) → ((i : ℕ) → get_or bytes i 0 < 256) → IsBytes bytes
bytes_from_each [] h = tt
bytes_from_each (b ∷ bytes) h = (h 0, bytes_from_each bytes (λ i. h (suc i)))

-- ---- what a function tells that returns what reading gives

-- a fault leaves at most all the bytes
pub left_within : {K A : Type 0} (G : List ℕ → A → Type 0) (r : Reader K A) → Reads G r
    → (bytes : List ℕ) (k : K) (left : ℕ) → IsBytes bytes → r bytes ≡ Err (bad k left)
    → left ≤ length bytes
left_within G r R bytes k left small e =
    let s = R.bad_is_first bytes k left small e in
    (is_placed bytes s.front s.byte s.rest left s.parts s.place).within

-- a value that is read has its spelling in front of the rest
pub found : {K A : Type 0} (G : List ℕ → A → Type 0) (r : Reader K A) → Reads G r
    → (bytes : List ℕ) (x : A) (rest : List ℕ) → IsBytes bytes → r bytes ≡ Ok (x, rest)
    → (length rest ≤ length bytes) × G (take (length bytes - length rest) bytes) x
found {A = A} G r R bytes x rest small e =
    let t = R.sound bytes x rest small e in
    let len : length bytes ≡ length t.text + length rest = ap length t.parts
    ∙ length-append t.text rest in
    let n : length t.text ≡ length bytes - length rest = omega arith in
    let front : take (length bytes - length rest) bytes ≡ t.text =
    ap (take (length bytes - length rest)) t.parts
    ∙ take_at t.text rest (length bytes - length rest) n in
    (omega arith, subst (λ (w : List ℕ). G w x) (sym front) t.spelled)

-- and it is the value of each spelling that begins the bytes
pub found_only : {K A : Type 0} (G : List ℕ → A → Type 0) (r : Reader K A) → Reads G r
    → (bytes : List ℕ) (x : A) (rest : List ℕ) → r bytes ≡ Ok (x, rest)
    → (text after : List ℕ) (v : A) → G text v → bytes ≡ text ++ after
    → (x ≡ v) × (length bytes - length rest ≡ length text)
found_only G r R bytes x rest e text after v g parts =
    let same = sym e ∙ ap r parts ∙ R.reads_spelling text v after g in
    let value = ok_value x v rest after same in
    let back = ap length (ok_rest x v rest after same) in
    let len = ap length parts ∙ length-append text after in
    (value, omega arith)

-- no spelling begins bytes at which reading stops
pub not_stopped : {K A : Type 0} (G : List ℕ → A → Type 0) (r : Reader K A) → Reads G r
    → (bytes : List ℕ) (s : Stop K) → r bytes ≡ Err s → (text after : List ℕ) (v : A) → G text v
    → bytes ≡ text ++ after → ⊥
not_stopped G r R bytes s e text after v g parts =
    let same = ap r parts ∙ R.reads_spelling text v after g in
    absurd cc

-- what a reader leaves are bytes
pub rest_small : {K A : Type 0} (G : List ℕ → A → Type 0) (r : Reader K A) → Reads G r
    → (bytes : List ℕ) (x : A) (rest : List ℕ) → IsBytes bytes → r bytes ≡ Ok (x, rest)
    → IsBytes rest
rest_small G r R bytes x rest small e =
    let t = R.sound bytes x rest small e in
    IsBytes-rest t.text rest (subst IsBytes t.parts small)
