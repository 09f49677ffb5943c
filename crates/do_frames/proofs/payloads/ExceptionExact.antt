-- Exceptions are read exactly.
use Rattle.std.proofs.Common.{zero, suc, ◌≡◌, ℕ, ◌≤◌, Bool, true, false, List, [], ◌++◌, length}
use Rattle.std.{proofs.Common.{cond, refl, sym, ap, ◌∙◌, arith}, specs.Prelude.◌==◌}
use Rattle.do_base.specs.declared.events.exception.Exc.{Exc, TheVariants.{TypeFault, Range, Deep}}
use Rattle.do_base.specs.declared.events.exception.Exc.TheVariants.{NotUnderstood, ConnectionDied}
use Rattle.do_base.specs.declared.events.exception.Exc.TheVariants.{NotVended, TooLarge, User}
use Rattle.do_base.specs.declared.events.exception.Exc.TheVariants.{TimedOut}
use Rattle.do_grammar.specs.{Grammar.IsBytes, Num.{num, num_at, counted, counted_at, CountedText}}
use Rattle.do_grammar.specs.{OneSpelling.{Spelled, both}, Reader.{no_kind, done}}
use Rattle.do_grammar.proofs.reads.{ExactReader.{Reads, Reads-as}, OneSpellingExact.Reads-both}
use Rattle.do_grammar.proofs.reads.OneSpellingExact.{Reads-onto, Reads-nothing, Reads-number}
use Rattle.do_grammar.proofs.texts.NumExact.{Reads-counted_text}
use Rattle.do_frames.specs.Exceptions.{exc_number, exc_text, text_spelling, exc_spelling, IsExc}
use Rattle.do_frames.specs.Exceptions.{exc_of, text_at, exc_at}

-- a text behind the number of a user's exception, and none behind another
abbrev IsTextOf : ℕ → List ℕ → Type 0
IsTextOf n text = ((n == 8) ≡ false → [] ≡ text) × ((length text ≤ 1048575) × IsBytes text)

-- the text behind a number, by whether it is that of a user's exception
module _ (n : ℕ) (t : Bool) (e : (n == 8) ≡ t) where
  text_is : (text : List ℕ) → text_spelling n text ≡ cond t (counted text) []
  text_is text = ap (λ (u : Bool). cond u (counted text) []) e

  text_read : (bytes : List ℕ)
      → cond t (counted_at no_kind 1048575) (done []) bytes ≡ text_at n bytes
  text_read bytes = ap (λ (u : Bool). cond u (counted_at no_kind 1048575) (done []) bytes) (sym e)

-- the text behind a number is read exactly
Reads-text_of : (n : ℕ) (t : Bool) → (n == 8) ≡ t
    → Reads (Spelled (text_spelling n) (IsTextOf n)) (text_at n)
Reads-text_of n true e =
    Reads-as (CountedText 1048575) (Spelled (text_spelling n) (IsTextOf n))
    (counted_at no_kind 1048575) (text_at n)
    (λ text t g. record {
      bytes = g.spelled ∙ sym (text_is n true e t);
      fits = (λ no. absurd cc, (g.within, g.small));
    })
    (λ text t g. record {
      spelled = g.bytes ∙ text_is n true e t;
      within = g.fits.1.0;
      small = g.fits.1.1;
    })
    (text_read n true e) (Reads-counted_text no_kind 1048575 (omega arith))
Reads-text_of n false e =
    Reads-as (Spelled (λ text. []) (IsTextOf n)) (Spelled (text_spelling n) (IsTextOf n)) (done [])
    (text_at n)
    (λ text t g. record { bytes = g.bytes ∙ sym (text_is n false e t); fits = g.fits })
    (λ text t g. record { bytes = g.bytes ∙ text_is n false e t; fits = g.fits })
    (text_read n false e)
    (Reads-nothing (λ text. []) (IsTextOf n) [] refl (λ no. refl, (omega arith, tt))
    (λ text h. h.0 e))

-- an exception by its number and its text
abbrev IsNumbered : ℕ × List ℕ → Type 0
IsNumbered p = ((1 ≤ p.0) × (p.0 ≤ 9)) × IsTextOf p.0 p.1

-- each exception is the one of its number and its text
again : (e : Exc) → exc_of (exc_number e, exc_text e) ≡ e
again TypeFault = refl
again Range = refl
again Deep = refl
again NotUnderstood = refl
again ConnectionDied = refl
again NotVended = refl
again TooLarge = refl
again (User text) = refl
again TimedOut = refl

numbered : (e : Exc) → IsExc e → IsNumbered (exc_number e, exc_text e)
numbered TypeFault h = ((omega arith, omega arith), (λ no. refl, h))
numbered Range h = ((omega arith, omega arith), (λ no. refl, h))
numbered Deep h = ((omega arith, omega arith), (λ no. refl, h))
numbered NotUnderstood h = ((omega arith, omega arith), (λ no. refl, h))
numbered ConnectionDied h = ((omega arith, omega arith), (λ no. refl, h))
numbered NotVended h = ((omega arith, omega arith), (λ no. refl, h))
numbered TooLarge h = ((omega arith, omega arith), (λ no. refl, h))
numbered (User text) h = ((omega arith, omega arith), (λ no. absurd cc, h))
numbered TimedOut h = ((omega arith, omega arith), (λ no. refl, h))

-- a property of each number from 1 to 9
module _ (P : ℕ → Type 0) (p1 : P 1) (p2 : P 2) (p3 : P 3) (p4 : P 4) (p5 : P 5) (p6 : P 6)
    (p7 : P 7) (p8 : P 8) (p9 : P 9) where
  by_nine : (n : ℕ) → 1 ≤ n → n ≤ 9 → P n
  by_nine zero low high = absurd (omega arith)
  by_nine (suc zero) low high = p1
  by_nine (suc (suc zero)) low high = p2
  by_nine (suc (suc (suc zero))) low high = p3
  by_nine (suc (suc (suc (suc zero)))) low high = p4
  by_nine (suc (suc (suc (suc (suc zero))))) low high = p5
  by_nine (suc (suc (suc (suc (suc (suc zero)))))) low high = p6
  by_nine (suc (suc (suc (suc (suc (suc (suc zero))))))) low high = p7
  by_nine (suc (suc (suc (suc (suc (suc (suc (suc zero)))))))) low high = p8
  by_nine (suc (suc (suc (suc (suc (suc (suc (suc (suc zero))))))))) low high = p9
  by_nine (suc (suc (suc (suc (suc (suc (suc (suc (suc (suc n)))))))))) low high =
      absurd (omega arith)

-- the exception of a number and its text is spelled so
spelled : (n : ℕ) → 1 ≤ n → n ≤ 9 → (text : List ℕ) → IsTextOf n text
    → (exc_spelling (exc_of (n, text)) ≡ num n ++ text_spelling n text) × IsExc (exc_of (n, text))
spelled =
    by_nine (λ n. (text : List ℕ) → IsTextOf n text
    → (exc_spelling (exc_of (n, text)) ≡ num n ++ text_spelling n text)
    × IsExc (exc_of (n, text))) (λ text h. (refl, (omega arith, tt)))
    (λ text h. (refl, (omega arith, tt))) (λ text h. (refl, (omega arith, tt)))
    (λ text h. (refl, (omega arith, tt))) (λ text h. (refl, (omega arith, tt)))
    (λ text h. (refl, (omega arith, tt))) (λ text h. (refl, (omega arith, tt)))
    (λ text h. (refl, h.1)) (λ text h. (refl, (omega arith, tt)))

-- an exception is read exactly
pub Reads-exc : Reads (Spelled exc_spelling IsExc) exc_at
unfolding exc_at
Reads-exc =
    Reads-onto exc_of (λ p. num p.0 ++ text_spelling p.0 p.1) IsNumbered exc_spelling IsExc
    (both (num_at no_kind 1 9) text_at)
    (Reads-both num text_spelling (λ n. (1 ≤ n) × (n ≤ 9)) IsTextOf (num_at no_kind 1 9) text_at
    (Reads-number 1 9 (omega arith) (omega arith)) (λ n h. Reads-text_of n (n == 8) refl))
    (λ p h. spelled p.0 h.0.0 h.0.1 p.1 h.1)
    (λ e h. ((exc_number e, exc_text e), again e, numbered e h))
