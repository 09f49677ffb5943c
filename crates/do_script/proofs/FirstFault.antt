-- A text has one first fault at most, and then no code.
use Rattle.std.proofs.Common.{◌≡◌, ℕ, ◌+◌, ◌-◌, ◌<◌, ◌≤◌, List, Some, None, sym, ◌∙◌, ap, inl, inr}
use Rattle.std.{proofs.Common.{refl, arith}, specs.Prelude.{◌⊎◌, Result, Ok, Err, IfOk, IfErr}}
use Rattle.std.{specs.Prelude.IsErrAnd, proofs.lemmas.Bool.cases_lt}
use Rattle.do_script.specs.declared.fault.Kind.{Kind, TheVariants.{Op, Local, Jump, Long}}
use Rattle.do_script.specs.declared.fault.AsmFault.{AsmFault, TheVariants.{BadOp, BadLocal}}
use Rattle.do_script.specs.declared.fault.AsmFault.TheVariants.{BadJump, TooLong, Memory}
use Rattle.do_script.specs.{Operands.Scope, Program.{Statement, fault_at, program}}
use Rattle.do_script.specs.Assembly.{HasNoFault, IsCodeOf, IsFault, IsFirstFault, refusal, scope}
use Rattle.do_script.specs.Listing.{Listing}

module _ (s : Scope) (statements : List Statement) where
  -- a text without a fault has no first one
  pub none_first : (line : ℕ) (kind : Kind) → HasNoFault s statements
      → IsFirstFault s statements line kind → ⊥
  none_first line kind good first = let none : None ≡ Some kind = sym (good line)
      ∙ first.here in absurd cc

  -- a text without a fault is refused for want of memory alone
  pub accepted_fault : (e : AsmFault) → IsFault s statements e → HasNoFault s statements
      → e ≡ Memory
  accepted_fault (BadOp n) is good = absurd (none_first (n - 1) Op good is.1)
  accepted_fault (BadLocal n) is good = absurd (none_first (n - 1) Local good is.1)
  accepted_fault (BadJump n) is good = absurd (none_first (n - 1) Jump good is.1)
  accepted_fault TooLong is good = absurd (none_first is.0 Long good is.1)
  accepted_fault Memory is good = refl

  -- the earlier of two first faults is not before the other
  not_before : (a b : ℕ) (k j : Kind) → IsFirstFault s statements a k
      → IsFirstFault s statements b j → a < b → ⊥
  not_before a b k j first second below =
      let none : None ≡ Some k = sym (second.before a below) ∙ first.here in absurd cc

  neither : (a b : ℕ) → (a < b → ⊥) → (b < a → ⊥) → (a < b) ⊎ (b ≤ a) → (b < a) ⊎ (a ≤ b) → a ≡ b
  neither a b h k (inl l) o = absurd (h l)
  neither a b h k (inr ge) (inl l) = absurd (k l)
  neither a b h k (inr ge) (inr le) = omega (arith, ge, le)

  -- two first faults are at one line
  same_line : (a b : ℕ) (k j : Kind) → IsFirstFault s statements a k → IsFirstFault s statements b j
      → a ≡ b
  same_line a b k j first second =
      neither a b (not_before a b k j first second) (not_before b a j k second first) (cases_lt a b)
      (cases_lt b a)

  same_kind : (a b : ℕ) (k j : Kind) → IsFirstFault s statements a k → IsFirstFault s statements b j
      → a ≡ b → k ≡ j
  same_kind a b k j first second same =
      let found : Some k ≡ Some j = sym first.here ∙ ap (fault_at s statements) same
      ∙ second.here in cc

  -- a text with a fault is refused with it, or for want of memory
  refused_at : (a b : ℕ) (k j : Kind) (e : AsmFault) → IsFirstFault s statements a k
      → IsFirstFault s statements b j
      → e ≡ refusal k a → (e ≡ Memory) ⊎ (e ≡ refusal j b)
  refused_at a b k j e first second is =
      let line : a ≡ b = same_line a b k j first second in
      let kind : k ≡ j = same_kind a b k j first second line in
      inr (is ∙ ap (λ n. refusal k n) line ∙ ap (λ kind. refusal kind b) kind)

  pub refused_fault : (e : AsmFault) → IsFault s statements e → (line : ℕ) (kind : Kind)
      → IsFirstFault s statements line kind → (e ≡ Memory) ⊎ (e ≡ refusal kind line)
  refused_fault (BadOp n) is line kind first =
      let above : n ≡ n - 1 + 1 = omega (arith, is.0) in
      refused_at (n - 1) line Op kind (BadOp n) is.1 first (ap BadOp above)
  refused_fault (BadLocal n) is line kind first =
      let above : n ≡ n - 1 + 1 = omega (arith, is.0) in
      refused_at (n - 1) line Local kind (BadLocal n) is.1 first (ap BadLocal above)
  refused_fault (BadJump n) is line kind first =
      let above : n ≡ n - 1 + 1 = omega (arith, is.0) in
      refused_at (n - 1) line Jump kind (BadJump n) is.1 first (ap BadJump above)
  refused_fault TooLong is line kind first = refused_at is.0 line Long kind TooLong is.1 first refl
  refused_fault Memory is line kind first = inl refl

-- a text without a fault is code, or memory ran out
pub accepted_result : (s : Scope) (statements : List Statement) (r : Result Listing AsmFault)
    → IfErr r (IsFault s statements)
    → HasNoFault s statements → IfErr r (λ e. e ≡ Memory)
accepted_result s statements (Ok code) is good = tt
accepted_result s statements (Err e) is good = accepted_fault s statements e is good

-- a text with a fault is refused with its first one, or memory ran out
pub refused_result : (slots classes : List (List ℕ)) (text : List ℕ) (r : Result Listing AsmFault)
    → IfOk r (IsCodeOf slots classes text)
    → IfErr r (IsFault (scope slots classes text) (program text))
    → (line : ℕ) (kind : Kind) → IsFirstFault (scope slots classes text) (program text) line kind
    → IsErrAnd r (λ e. (e ≡ Memory) ⊎ (e ≡ refusal kind line))
refused_result slots classes text (Ok code) is unused line kind first =
    absurd
    (none_first (scope slots classes text) (program text) line kind is.instructions.good first)
refused_result slots classes text (Err e) unused is line kind first =
    refused_fault (scope slots classes text) (program text) e is line kind first
