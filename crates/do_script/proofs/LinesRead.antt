-- What is known of a program when its lines have been read up to one.
use Rattle.std.proofs.Common.{◌≡◌, ℕ, zero, suc, ◌+◌, ◌-◌, ◌<◌, ◌≤◌, Bool, true, false, cond, eqb}
use Rattle.std.proofs.Common.{leb, [], ◌∷◌, ◌++◌, List, Option, Some, None, Result, Ok, Err, length}
use Rattle.std.proofs.Common.{take, drop, slice_get, ok_or, All, IfSome, refl, sym, ap, ◌∙◌, inl}
use Rattle.std.proofs.Common.{inr, arith, add-one, below_more, length-append, length-drop}
use Rattle.std.proofs.{Common.{append_assoc, append-nil}, lemmas.Bool.{cases_lt, leb-false}}
use Rattle.std.proofs.lemmas.{Option.slice_get_past, List.take_all}
use Rattle.do_script.specs.declared.{instruction.Instruction.Instruction, labels.Label.Label}
use Rattle.do_script.specs.declared.{form.Form.Form, fault.LineFault.{LineFault, TheVariants.Bad}}
use Rattle.do_script.specs.{declared.fault.LineFault.TheVariants.Memory, Fault.{◌>>=◌, Reads}}
use Rattle.std.specs.Option.{option_to_list}
use Rattle.do_script.specs.{InstructionNames.form_of, declared.fault.Kind.Kind}
use Rattle.do_script.specs.declared.fault.Kind.TheVariants.{Op, Local, Jump, Long}
use Rattle.do_script.specs.Operands.{Scope, instruction as instruction_of}
use Rattle.do_script.specs.Program.{Statement, nothing, label, no_label, instruction, size, made}
use Rattle.do_script.specs.Program.{defined_at, fault_in, fault_at, code_in, code_from}
use Rattle.do_script.specs.Assembly.{IsCode, IsFirstFault, IsFault, answer}

-- the member behind n others
pub at : (xs : List Statement) (n : ℕ) (x : Statement) (more : List Statement)
    → drop n xs ≡ x ∷ more → slice_get xs n ≡ Some x
at xs zero x more e = rw e refl
at [] (suc n) x more e = absurd cc
at (y ∷ xs) (suc n) x more e = at xs n x more e

size_taken : (xs : List Statement) (n : ℕ) (x : Statement) (more : List Statement)
    → drop n xs ≡ x ∷ more → size (take (suc n) xs) ≡ size (take n xs) + size (x ∷ [])
size_taken xs zero x more e = rw e (omega arith)
size_taken [] (suc n) x more e = absurd cc
size_taken (y ∷ xs) (suc n) x more e = let again = size_taken xs n x more e in omega arith

behind : (xs : List Statement) (n : ℕ) (x : Statement) (more : List Statement)
    → drop n xs ≡ x ∷ more → drop (suc n) xs ≡ more
behind xs zero x more e = rw e refl
behind [] (suc n) x more e = absurd cc
behind (y ∷ xs) (suc n) x more e = behind xs n x more e

pub inside : (xs : List Statement) (n : ℕ) (x : Statement) (more : List Statement)
    → drop n xs ≡ x ∷ more → n < length xs
inside xs zero x more e = rw e (omega arith)
inside [] (suc n) x more e = absurd cc
inside (y ∷ xs) (suc n) x more e = let again = inside xs n x more e in omega arith

pub next_size : (xs : List Statement) (n : ℕ) (x : Statement) (more : List Statement)
    → drop n xs ≡ x ∷ more → size (take (n + 1) xs) ≡ size (take n xs) + size (x ∷ [])
next_size xs n x more e = rw add-one (size_taken xs n x more e)

pub next_behind : (xs : List Statement) (n : ℕ) (x : Statement) (more : List Statement)
    → drop n xs ≡ x ∷ more → drop (n + 1) xs ≡ more
next_behind xs n x more e = rw add-one (behind xs n x more e)

pub fault_here : (s : Scope) (xs : List Statement) (n before : ℕ) (x : Statement)
    (more : List Statement) → drop n xs ≡ x ∷ more → size
    (take n xs) ≡ before → fault_at s xs n ≡ fault_in (made s n before x)
fault_here s xs n before x more e count = rw (at xs n x more e, count) refl

-- what a line makes is one instruction or none, as it has one or none, and it is within the limit
made_size : (s : Scope) (n before : ℕ) (x : Statement) (is : List Instruction)
    → made s n before x ≡ Ok is → before ≤ 4096
    → (length is ≡ size (x ∷ [])) × (before + length is ≤ 4096)
made_size s n before nothing is e short =
    let same : [] ≡ is = cc in rw (← same) (omega arith, omega arith)
made_size s n before (label name) is e short = go (s.label name) e
  where
    go : (o : Option Label) → defined_at n o ≡ Ok is
        → (length is ≡ size (label name ∷ [])) × (before + length is ≤ 4096)
    go None h = absurd cc
    go (Some l) h = on (eqb l.line n) h
      where
        on : (t : Bool) → cond t (Ok []) (Err Jump) ≡ Ok is
            → (length is ≡ size (label name ∷ [])) × (before + length is ≤ 4096)
        on true k = let same : [] ≡ is = cc in rw (← same) (omega arith, omega arith)
        on false k = absurd cc
made_size s n before no_label is e short = absurd cc
made_size s n before (instruction w ws) is e short = go (leb 4096 before) refl e
  where
    one : (m : Result Instruction Kind) → (m >>= λ i. Ok (i ∷ [])) ≡ Ok is → length is ≡ 1
    one (Ok i) h = let same : i ∷ [] ≡ is = cc in rw (← same) (omega arith)
    one (Err k) h = absurd cc

    formed : (m : Result Form Kind)
        → (m >>= λ form. instruction_of s form ws >>= λ i. Ok (i ∷ [])) ≡ Ok is → length is ≡ 1
    formed (Ok form) h = one (instruction_of s form ws) h
    formed (Err k) h = absurd cc

    go : (t : Bool) → leb 4096 before ≡ t
        → cond t (Err Long)
        (ok_or (form_of w) Op >>= λ form. instruction_of s form ws >>= λ i. Ok (i ∷ [])) ≡ Ok is
        → (length is ≡ size (instruction w ws ∷ [])) × (before + length is ≤ 4096)
    go true h k = absurd cc
    go false h k =
        let len : length is ≡ 1 = formed (ok_or (form_of w) Op) k in
        let below : before < 4096 = leb-false 4096 before h in
        (omega arith, omega arith)

-- the lines before one have been read without a fault, and gave this code
pub record Reached (s : Scope) (xs : List Statement) (n : ℕ) (rest : List Statement)
    (code : List Instruction) : Type 0 where
  pub behind : drop n xs ≡ rest
  pub place : n ≤ length xs
  pub good : (line : ℕ) → line < n → fault_at s xs line ≡ None
  pub count : size (take n xs) ≡ length code
  pub made : code_from s 0 0 xs ≡ code ++ code_from s n (length code) rest
  pub short : length code ≤ 4096

pub reached_more : (s : Scope) (xs : List Statement) (n : ℕ) (x : Statement)
    (rest more : List Statement)
    (code is : List Instruction) → Reached s xs n rest code → rest ≡ x ∷ more → made s n
    (length code) x ≡ Ok is → Reached s xs (n + 1) more (code ++ is)
reached_more s xs n x rest more code is r e ok =
    let parts : drop n xs ≡ x ∷ more = r.behind ∙ e in
    let sizes = made_size s n (length code) x is ok r.short in
    let one : length is ≡ size (x ∷ []) = sizes.0 in
    let len : length (code ++ is) ≡ length code + size (x ∷ []) = length-append code is
    ∙ ap (λ (k : ℕ). length code + k) one in
    let here : fault_at s xs n ≡ None = fault_here s xs n (length code) x more parts r.count
    ∙ ap fault_in ok in
    let last : code_from s n (length code) (x ∷ more) ≡ is ++ code_from s (n + 1)
    (length code + size (x ∷ [])) more =
    ap (λ (w : Result (List Instruction) Kind).
    code_in w ++ code_from s (n + 1) (length code + size (x ∷ [])) more) ok in
    record {
      behind = next_behind xs n x more parts;
      place = let in_it : n < length xs = inside xs n x more parts in omega arith;
      good = below_more _ _ r.good here;
      count = next_size xs n x more parts ∙ ap (λ (k : ℕ). k + size (x ∷ [])) r.count ∙ sym len;
      made = r.made ∙ ap (λ (w : List Statement). code ++ code_from s n (length code) w) e
          ∙ ap (λ (w : List Instruction). code ++ w) last
          ∙ sym (append_assoc code is (code_from s (n + 1) (length code + size (x ∷ [])) more))
          ∙ ap (λ (k : ℕ). (code ++ is) ++ code_from s (n + 1) k more) (sym len);
      short = let fits : length code + length is ≤ 4096 = sizes.1 in rw len (omega arith);
    }

-- a fault at the line that has been reached is the first
pub reached_fault : (s : Scope) (xs : List Statement) (n : ℕ) (x : Statement)
    (rest more : List Statement) (code : List Instruction)
    (fault : LineFault) → Reached s xs n rest code → rest ≡ x ∷ more → Reads option_to_list
    (Err fault) (made s n (length code) x) → IsFault s xs (answer fault n)
reached_fault s xs n x rest more code fault r e err = go fault err
  where
    same : n + 1 - 1 ≡ n
    same = omega arith

    first : (k : Kind) → made s n (length code) x ≡ Err k → IsFirstFault s xs n k
    first k h =
        record {
          here = fault_here s xs n (length code) x more (r.behind ∙ e) r.count ∙ ap fault_in h;
          before = r.good;
        }

    go : (f : LineFault) → Reads option_to_list (Err f) (made s n (length code) x)
        → IsFault s xs (answer f n)
    go (Bad Op) h = (omega arith, rw same (first Op h))
    go (Bad Local) h = (omega arith, rw same (first Local h))
    go (Bad Jump) h = (omega arith, rw same (first Jump h))
    go (Bad Long) h = (n, first Long h)
    go Memory h = tt

-- at the end the code is whole
pub reached_end : (s : Scope) (xs : List Statement) (n : ℕ) (rest : List Statement)
    (code : List Instruction) → Reached s xs n rest code → rest ≡ [] → IsCode s xs code ×
    (length code ≡ size xs)
reached_end s xs n rest code r e =
    let nothing_left : drop n xs ≡ [] = r.behind ∙ e in
    let len : length (drop n xs) ≡ length xs - n = length-drop n xs in
    let none : length (drop n xs) ≡ 0 = ap length nothing_left in
    let all : length xs ≤ n = omega arith in
    let whole : take n xs ≡ xs = take_all n xs all in
    let good : (line : ℕ) → fault_at s xs line ≡ None = λ line. elim (cases_lt line n) [
      | inl below ↦ r.good line below
      | inr above ↦ past line (omega arith)
    ] in
    let made : code_from s 0 0 xs ≡ code =
    r.made ∙ ap (λ (w : List Statement). code ++ code_from s n (length code) w) e
    ∙ append-nil code in
    (record { good = good; made = sym made }, sym r.count ∙ ap size whole)
  where
    past : (line : ℕ) → length xs ≤ line → fault_at s xs line ≡ None
    past line h = rw (slice_get_past xs line h) refl

-- what holds of an instruction holds of each of at most one
pub All-option_to_list : (P : Instruction → Type 0) (o : Option Instruction) → IfSome o P
    → All P (option_to_list o)
All-option_to_list P None h = λ k d less. absurd (let z : ⊥ = omega arith in z)
All-option_to_list P (Some i) h = λ k d less. let zero_th : k ≡ 0 = omega arith in rw zero_th h
