-- Reading values one after the other, as a loop does.
use Rattle.std.proofs.Common.{◌≡◌, ℕ, suc, ◌-◌, ◌+◌, ◌≤◌, ◌<◌, List, [], ◌∷◌, ◌++◌, Result, Ok, Err}
use Rattle.std.proofs.{Common.{refl, sym, ap, ◌∙◌, append_assoc, arith}, lemmas.List.append-nil}
use Rattle.do_grammar.specs.declared.fault.ReadFault.{ReadFault, TheVariants.{Memory, Short, Bad}}
use Rattle.do_grammar.specs.Reader.{Stop, no_kind, short, bad, Reader, ◌>>=◌, times}
use Rattle.do_grammar.specs.RestAnswers.{Fails}

-- what was read before, and what is still read
abbrev pub with_front : {K A : Type 0} → List A → Result (List A × List ℕ) (Stop K)
    → Result (List A × List ℕ) (Stop K)
with_front front read = read >>= λ x. Ok (front ++ x.0, x.1)

-- a value moves from what is still read to what was read
pub regroup : {K A : Type 0} (front : List A) (n : A) (read : Result (List A × List ℕ) (Stop K))
    → with_front front (read >>= λ x. Ok (n ∷ x.0, x.1)) ≡ with_front (front ++ n ∷ []) read
regroup {A = A} front n (Ok x) = ap (λ (ns : List A). Ok (ns, x.1)) (simp append_assoc)
regroup front n (Err f) = refl

-- one more value was read
pub value_turn : {K A : Type 0} (r : Reader K A) (front : List A) (count i : ℕ) (bytes : List ℕ)
    (n : A) (after : List ℕ) (total : Result (List A × List ℕ) (Stop K)) → i < count
    → r bytes ≡ Ok (n, after)
    → with_front front (times r (count - i) bytes) ≡ total
    → with_front (front ++ n ∷ []) (times r (count - (i + 1)) after) ≡ total
value_turn r front count i bytes n after total lt h so_far =
    let k : count - i ≡ suc (count - (i + 1)) = omega arith in
    let one : with_front front (times r (count - i) bytes)
    ≡ with_front (front ++ n ∷ []) (times r (count - (i + 1)) after) =
    rw (k, h) (regroup front n (times r (count - (i + 1)) after)) in
    sym one ∙ so_far

-- the next value cannot be read
pub fault_turn : {A : Type 0} (e : ReadFault) (r : Reader (Unit {0}) A) (front : List A)
    (count i : ℕ) (bytes : List ℕ) (total : Result (List A × List ℕ) (Stop (Unit {0}))) → i < count
    → Fails e (r bytes)
    → with_front front (times r (count - i) bytes) ≡ total → Fails e total
fault_turn Memory r front count i bytes total lt h so_far = tt
fault_turn Short r front count i bytes total lt h so_far =
    let k : count - i ≡ suc (count - (i + 1)) = omega arith in
    let one : with_front front (times r (count - i) bytes) ≡ Err short = rw (k, h) refl in
    sym so_far ∙ one
fault_turn (Bad left) r front count i bytes total lt h so_far =
    let k : count - i ≡ suc (count - (i + 1)) = omega arith in
    let one : with_front front (times r (count - i) bytes) ≡ Err (bad no_kind left) =
    rw (k, h) refl in
    sym so_far ∙ one

-- all values were read
pub last_turn : {K A : Type 0} (r : Reader K A) (front : List A) (count i : ℕ) (bytes : List ℕ)
    (total : Result (List A × List ℕ) (Stop K)) → count ≤ i
    → with_front front (times r (count - i) bytes) ≡ total → total ≡ Ok (front, bytes)
last_turn {A = A} r front count i bytes total le so_far =
    let k : count - i ≡ 0 = omega arith in
    let one : with_front front (times r (count - i) bytes) ≡ Ok (front, bytes) =
    rw k (ap (λ (ns : List A). Ok (ns, bytes)) (append-nil front)) in
    sym so_far ∙ one

-- nothing was read before
pub front_none : {K A : Type 0} (front : List A) (read : Result (List A × List ℕ) (Stop K))
    → front ≡ [] → with_front front read ≡ read
front_none {A = A} front (Ok x) e = ap (λ (w : List A). Ok (w ++ x.0, x.1)) e
front_none front (Err s) e = refl
