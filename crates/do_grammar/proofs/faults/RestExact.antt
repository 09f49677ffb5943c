-- What is told by an answer that is what an exact reader gives.
use Rattle.std.{proofs.Common.{ℕ, List, Result, Ok, Err, sym, ap, ◌∙◌}, specs.Borrow.Bor}
use Rattle.do_grammar.specs.declared.fault.ReadFault.{ReadFault, TheVariants.{Memory, Short, Bad}}
use Rattle.do_grammar.specs.{Reader.{Reader, no_kind, short, bad}, Grammar.{IsBytes, Takes}}
use Rattle.do_grammar.specs.RestAnswers.{Gives, TellsRest, FindsRest}
use Rattle.do_grammar.proofs.reads.ExactReader.{Reads}
use Rattle.do_grammar.proofs.faults.AnswerExact.{proper_front, left_within, first_bad, not_stopped}
use Rattle.do_grammar.proofs.reads.ChainAnswers.{ok_value, ok_rest}

module _ {X A : Type 0} (G : List ℕ → A
    → Type 0) (r : Reader (Unit {0}) A) (R : Reads G r) (view : X → A) (bytes : List ℕ) where
  -- what an exact reader answers tells of the bytes by its grammar
  pub tells_rest : (answer : Result (X × Bor (List ℕ)) ReadFault) → IsBytes bytes
      → Gives (λ x. (view x.0, x.1.now)) answer (r bytes) → TellsRest G view bytes answer
  tells_rest (Ok x) small e = R.sound bytes (view x.0) x.1.now small e
  tells_rest (Err Memory) small e = tt
  tells_rest (Err Short) small e = proper_front G r R bytes small e
  tells_rest (Err (Bad left)) small e =
      (left_within G r R bytes no_kind left small e, first_bad G r R bytes no_kind left small e)

  -- where a spelling begins the bytes, its value and what follows are answered
  pub finds_rest : (answer : Result (X × Bor (List ℕ)) ReadFault)
      → Gives (λ x. (view x.0, x.1.now)) answer (r bytes) → (v : A) (rest : List ℕ)
      → Takes G bytes v rest → FindsRest view v rest answer
  finds_rest (Ok x) e v rest t =
      let same = sym e ∙ ap r t.parts ∙ R.reads_spelling t.text v rest t.spelled in
      (ok_value (view x.0) v x.1.now rest same, ok_rest (view x.0) v x.1.now rest same)
  finds_rest (Err Memory) e v rest t = tt
  finds_rest (Err Short) e v rest t =
      not_stopped G r R bytes short e t.text rest v t.spelled t.parts
  finds_rest (Err (Bad left)) e v rest t =
      not_stopped G r R bytes (bad no_kind left) e t.text rest v t.spelled t.parts
