-- The first faulty line of a method's text, as a function of the text.
use Rattle.do_script.specs.declared.fault.AsmFault.TheVariants as asm
use Rattle.std.proofs.Common.{◌≡◌, ◌≢◌, ℕ, zero, suc, ◌+◌, ◌-◌, ◌<◌, List, length, Option, Some}
use Rattle.std.proofs.Common.{None, [], ◌∷◌, take, refl, sym, ◌∙◌, ap, arith}
use Rattle.std.specs.{Prelude.{option_and_then, slice_get}, Option.option_map}
use Rattle.do_script.specs.{Assembly.{IsCodeOf, IsFault, refusal, scope}, Listing.Listing}
use Rattle.do_script.specs.Program.{fault_at, fault_in, made, program, size}
use Rattle.do_script.specs.declared.fault.AsmFault.{AsmFault}
use Rattle.do_world.specs.{Faults.{assembly_fault, first_line}, Worlds.listing}

-- where no line has a fault, none is first
first_line_none : {K : Type 0} (tell : K → ℕ → AsmFault) (fault : ℕ → Option K)
    → ((line : ℕ) → fault line ≡ None) → (line n : ℕ) → first_line tell fault line n ≡ None
first_line_none tell fault none line zero = refl
first_line_none tell fault none line (suc n) =
    let here = none line in
    let rest = first_line_none tell fault none (line + 1) n in rw (here, rest)

-- a faulty line behind lines without a fault is the first
first_line_some : {K : Type 0} (tell : K → ℕ → AsmFault) (fault : ℕ → Option K) (ahead n from : ℕ)
    (kind : K) → ahead < n → fault (from + ahead) ≡ Some kind
    → ((k : ℕ) → k < ahead → fault (from + k) ≡ None)
    → first_line tell fault from n ≡ Some (tell kind (from + ahead))
first_line_some tell fault zero zero from kind within here before = absurd (omega arith)
first_line_some tell fault (suc ahead) zero from kind within here before = absurd (omega arith)
first_line_some tell fault zero (suc n) from kind within here before =
    let same : from + 0 ≡ from = omega arith in
    let at_from : fault from ≡ Some kind = ap fault (sym same) ∙ here in
    let line : Some (tell kind from) ≡ Some (tell kind (from + 0)) =
    ap (λ k. Some (tell kind k)) (sym same) in
    rw at_from line
first_line_some tell fault (suc ahead) (suc n) from kind within here before =
    let start : from + 0 ≡ from = omega arith in
    let none : fault from ≡ None = ap fault (sym start) ∙ before 0 (omega arith) in
    let step : from + suc ahead ≡ (from + 1) + ahead = omega arith in
    let there : fault ((from + 1) + ahead) ≡ Some kind = ap fault (sym step) ∙ here in
    let earlier : (k : ℕ) → k < ahead → fault ((from + 1) + k) ≡ None = λ k below.
    let same : (from + 1) + k ≡ from + suc k = omega arith in
    ap fault same ∙ before (suc k) (omega arith) in
    let rest = first_line_some tell fault ahead n (from + 1) kind (omega arith) there earlier in
    let line : Some (tell kind ((from + 1) + ahead)) ≡ Some (tell kind (from + suc ahead)) =
    ap (λ k. Some (tell kind k)) (sym step) in
    rw none (rest ∙ line)

-- the first faulty line, from the first line on
first_line_is : {K : Type 0} (tell : K → ℕ → AsmFault) (fault : ℕ → Option K) (n line : ℕ)
    (kind : K) → line < n → fault line ≡ Some kind
    → ((earlier : ℕ) → earlier < line → fault earlier ≡ None)
    → first_line tell fault 0 n ≡ Some (tell kind line)
first_line_is tell fault n line kind within here before =
    let start : 0 + line ≡ line = omega arith in
    let there : fault (0 + line) ≡ Some kind = ap fault start ∙ here in
    let earlier : (k : ℕ) → k < line → fault (0 + k) ≡ None = λ k below.
    let same : 0 + k ≡ k = omega arith in ap fault same ∙ before k below in
    first_line_some tell fault line n 0 kind within there earlier
    ∙ ap (λ k. Some (tell kind k)) start

-- code has no fault
pub code_has_none : (slots classes : List (List ℕ)) (text : List ℕ) (code : Listing)
    → IsCodeOf slots classes text code → assembly_fault slots classes text ≡ None
code_has_none slots classes text code is =
    first_line_none refusal (fault_at (scope slots classes text) (program text))
    is.instructions.good 0 (length (program text))

-- code is what the text says
pub code_is : (slots classes : List (List ℕ)) (text : List ℕ) (code : Listing)
    → IsCodeOf slots classes text code → code ≡ listing slots classes text
code_is slots classes text code is = λ i. record {
  instructions = is.instructions.made i;
  slots = is.slots_given i;
  classes = is.classes_given i;
}

-- a value that is made of an item of a list is made of one that is there
item_within : {A B C : Type 0} (f : A → B) (g : B → Option C) (xs : List A) (k : ℕ) (y : C)
    → option_and_then g (option_map f (slice_get xs k)) ≡ Some y → k < length xs
item_within f g [] k y e = cc
item_within f g (x ∷ xs) zero y e = omega arith
item_within f g (x ∷ xs) (suc k) y e =
    let rest = item_within f g xs k y e in omega (arith, rest)

-- a fault of the assembler is the first fault of the text
pub fault_is : (slots classes : List (List ℕ)) (text : List ℕ) (fault : AsmFault)
    → IsFault (scope slots classes text) (program text) fault → fault ≢ asm.Memory
    → assembly_fault slots classes text ≡ Some fault
fault_is slots classes text (asm.BadOp n) is other =
    let low = is.0 in
    let line : (n - 1) + 1 ≡ n = omega (arith, low) in
    first_line_is refusal (fault_at (scope slots classes text) (program text))
    (length (program text)) (n - 1) _
    (item_within (made (scope slots classes text) (n - 1) (size (take (n - 1) (program text))))
    fault_in (program text) (n - 1) _ is.1.here) is.1.here is.1.before
    ∙ ap (λ k. Some (asm.BadOp k)) line
fault_is slots classes text (asm.BadLocal n) is other =
    let low = is.0 in
    let line : (n - 1) + 1 ≡ n = omega (arith, low) in
    first_line_is refusal (fault_at (scope slots classes text) (program text))
    (length (program text)) (n - 1) _
    (item_within (made (scope slots classes text) (n - 1) (size (take (n - 1) (program text))))
    fault_in (program text) (n - 1) _ is.1.here) is.1.here is.1.before
    ∙ ap (λ k. Some (asm.BadLocal k)) line
fault_is slots classes text (asm.BadJump n) is other =
    let low = is.0 in
    let line : (n - 1) + 1 ≡ n = omega (arith, low) in
    first_line_is refusal (fault_at (scope slots classes text) (program text))
    (length (program text)) (n - 1) _
    (item_within (made (scope slots classes text) (n - 1) (size (take (n - 1) (program text))))
    fault_in (program text) (n - 1) _ is.1.here) is.1.here is.1.before
    ∙ ap (λ k. Some (asm.BadJump k)) line
fault_is slots classes text asm.TooLong is other =
    first_line_is refusal (fault_at (scope slots classes text) (program text))
    (length (program text)) is.0 _
    (item_within (made (scope slots classes text) is.0 (size (take is.0 (program text))))
    fault_in (program text) is.0 _ is.1.here) is.1.here is.1.before
fault_is slots classes text asm.Memory is other = absurd (other refl)
