-- Exceptions are read exactly.
use Rattle.std.proofs.Common.{◌≡◌, ℕ, true, List as Listed, [], ◌++◌, Option, Some, None, refl, sym}
use Rattle.std.{proofs.Common.{ap, subst, ◌∙◌}, specs.{Prelude.codes, Str.bytes_eq}}
use Rattle.std.proofs.lemmas.{List.append-nil, Bool.and_parts}
use Rattle.do_base.specs.declared.events.exception.Exc.{Exc, TheVariants.{ConnectionDied, Deep}}
use Rattle.do_base.specs.declared.events.exception.Exc.TheVariants.{NotUnderstood, NotVended, Range}
use Rattle.do_base.specs.declared.events.exception.Exc.TheVariants.{TimedOut, TooLarge, TypeFault}
use Rattle.do_base.specs.{declared.events.exception.Exc.TheVariants.User, values.Texts.longest_text}
use Rattle.do_grammar.specs.{Quoted.{quoted, quoted_at}, Words.word}
use Rattle.do_grammar.proofs.texts.QuotedExact.{quoted_again, quoted_takes}
use Rattle.do_lines.specs.Shown.{exception_text}
use Rattle.do_record.specs.{GoodShown.IsException, Shown.{is_exception, is_plain_exception}}
use Rattle.do_record.specs.{Shown.is_user_exception, Value.{ends_text, is_quoted}}
use Rattle.do_record.proofs.lines.WordChoice.{either, first_word, same_text}

-- the exception that a text names
pub record IsExceptionText (t : Listed ℕ) : Type 0 where
  pub raised : Exc
  pub spelled : t ≡ exception_text raised
  pub good : IsException raised

-- what is read as a text in quotes is one
user_takes : (t : Listed ℕ) → is_quoted t ≡ true → IsExceptionText (codes "User " ++ t)
user_takes t h = go (quoted_at longest_text t) refl h
  where
    go : (o : Option (Listed ℕ × Listed ℕ)) → quoted_at longest_text t ≡ o → ends_text o ≡ true
        → IsExceptionText (codes "User " ++ t)
    go None p q = absurd cc
    go (Some x) p q =
        let taken = quoted_takes longest_text t x.0 x.1 p in
        record {
          raised = User x.0;
          spelled = ap (λ w. codes "User " ++ w) (taken.0
              ∙ ap (λ w. quoted x.0 ++ w) (same_text x.1 [] q) ∙ append-nil (quoted x.0));
          good = (taken.1, taken.2);
        }

-- what is read as an exception without a text is one
plain_takes : (t : Listed ℕ) → is_plain_exception t ≡ true → IsExceptionText t
plain_takes t h =
    either _ _ h (λ h. either _ _ h (λ h. either _ _ h (λ h. either _ _ h (λ h. either _ _ h (λ h.
    either _ _ h (λ h. either _ _ h
    (λ h. record { raised = TypeFault; spelled = same_text t (codes "Type") h; good = tt })
    (λ h. record { raised = Range; spelled = same_text t (codes "Range") h; good = tt }))
    (λ h. record { raised = Deep; spelled = same_text t (codes "Deep") h; good = tt }))
    (λ h. record { raised = NotUnderstood; spelled = same_text t _ h; good = tt }))
    (λ h. record { raised = ConnectionDied; spelled = same_text t _ h; good = tt }))
    (λ h. record { raised = NotVended; spelled = same_text t _ h; good = tt }))
    (λ h. record { raised = TooLarge; spelled = same_text t _ h; good = tt }))
    (λ h. record { raised = TimedOut; spelled = same_text t _ h; good = tt })

-- what is read as an exception is one
pub exception_takes : (t : Listed ℕ) → is_exception t ≡ true → IsExceptionText t
exception_takes t h = either _ _ h (plain_takes t) (λ e. go (word 32 t) refl e)
  where
    go : (o : Option (Listed ℕ × Listed ℕ)) → word 32 t ≡ o → is_user_exception o ≡ true
        → IsExceptionText t
    go None p q = absurd cc
    go (Some w) p q =
        let b = and_parts (bytes_eq w.0 (codes "User")) (is_quoted w.1) q in
        subst IsExceptionText (sym (first_word (codes "User") t w p b.0)) (user_takes w.1 b.1)

-- an exception is read
pub exception_again : (e : Exc) → IsException e → is_exception (exception_text e) ≡ true
exception_again TypeFault h = refl
exception_again Range h = refl
exception_again Deep h = refl
exception_again NotUnderstood h = refl
exception_again ConnectionDied h = refl
exception_again NotVended h = refl
exception_again TimedOut h = refl
exception_again TooLarge h = refl
exception_again (User text) h =
    let read = quoted_again longest_text text [] h.1 h.0 in
    rw (ap (quoted_at longest_text) (sym (append-nil (quoted text))) ∙ read) refl
