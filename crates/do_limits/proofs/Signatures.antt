-- A method has few arguments, so an invocation has no more of them than locals.
use Rattle.std.proofs.Common.{◌≡◌, ◌≤◌, ℕ, Bool, true, false, cond, List, [], ◌∷◌, length, map}
use Rattle.std.{proofs.Common.{refl, arith, subst}, specs.Prelude.{None, Option, Some, slice_get}}
use Rattle.std.{specs.{Prelude.{suc, zero}, List.AllByRecursion}, proofs.lemmas.List.length-map}
use Rattle.do_class.specs.Class.{Class}
use Rattle.do_frames.specs.Selectors.{IsSelector}
use Rattle.do_class.specs.{Table.signature_of, declared.ids.{ClassId.ClassId, MethodId.MethodId}}
use Rattle.do_sig.specs.Calls.{is_oneway, qualifier_of, qualifiers_of}
use Rattle.do_sig.specs.declared.{qualifiers.Qualifier.Qualifier, encoding.Encoding.Encoding}
use Rattle.do_sig.specs.declared.signature.Signature.{Signature}
use Rattle.do_machine.specs.{Context.{Found, method_for}, run.{Answers.answer_marks, Send.outs_by}}

-- Each method of a table takes eight arguments at most, and what finds one is a selector
pub record HasMethods (table : List Class) : Type 0 where
  pub few : (method : MethodId) (s : Signature) → signature_of table method ≡ Some s →
      length s.args ≤ 8
  pub selects : (class : Option ClassId) (selector : List ℕ) (m : Found) →
      method_for table class selector ≡ Some m → IsSelector selector

-- the one at a place
pub one_at : {X : Type 0} (P : X → Type 0) (xs : List X) (k : ℕ) (x : X) → AllByRecursion P xs →
    slice_get xs k ≡ Some x → P x
one_at P [] k x h e = absurd (cc (e))
one_at P (y ∷ xs) zero x h e = let same : y ≡ x = cc (e) in subst P same h.0
one_at P (y ∷ xs) (suc k) x h e = one_at P xs k x h.1 e

-- a method is found of a class alone
pub found_class : (table : List Class) (class : Option ClassId) (selector : List ℕ) (m : Found) →
    method_for table class selector ≡ Some m → (c : ClassId) × (class ≡ Some c)
found_class table None selector m e = absurd (cc (e))
found_class table (Some c) selector m e = (c, refl)

-- the marks of its places are few
pub few_marks : (s : Signature) → length s.args ≤ 8 →
    length (map (λ (q : Qualifier). q.copy) (qualifiers_of s)) ≤ 9
few_marks s few =
    omega (
      arith,
      few,
      length-map (qualifiers_of s) (λ (q : Qualifier). q.copy),
      length-map s.args (qualifier_of (is_oneway s)),
    )

-- no more come out than there are arguments
outs_few : {X : Type 0} (oneway : Bool) (es : List Encoding) (xs : List X) →
    length (outs_by oneway es xs) ≤ length es
outs_few oneway [] xs = omega arith
outs_few oneway (e ∷ es) [] = omega arith
outs_few oneway (e ∷ es) (x ∷ xs) =
    go (qualifier_of oneway e).comes_out (outs_few oneway es xs)
  where
    go : (b : Bool) → length (outs_by oneway es xs) ≤ length es →
        length (cond b (x ∷ outs_by oneway es xs) (outs_by oneway es xs)) ≤ length (e ∷ es)
    go true h = omega (arith, h)
    go false h = omega (arith, h)

-- the marks of an answer are few
pub few_answer_marks : (table : List Class) → HasMethods table → (method : MethodId) →
    length (answer_marks (signature_of table method)) ≤ 9
few_answer_marks table has method = go (signature_of table method) refl
  where
    go : (found : Option Signature) → signature_of table method ≡ found →
        length (answer_marks found) ≤ 9
    go None e = omega arith
    go (Some s) e =
        omega (
          arith,
          has.few method s e,
          outs_few (is_oneway s) s.args (map (λ (q : Qualifier). q.copy) (qualifiers_of s)),
        )
