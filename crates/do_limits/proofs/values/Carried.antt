-- Which values can be carried, kind by kind.
use Rattle.std.proofs.Common.{◌≡◌, ℕ, ℤ, ◌-◌, ◌^◌, ◌&&◌, Bool, true, List as Listed, length, map}
use Rattle.std.{proofs.Common.{rules, ◌∙◌}, specs.{Prelude.{nat_le, nat_lt}, List.list_all}}
use Rattle.std.proofs.lemmas.Bool.{and_from, le-leb}
use Rattle.do_base.specs.{names.Names.ObjectName, values.Texts.longest_text}
use Rattle.do_base.specs.declared.events.exception.Exc.{Exc, TheVariants.{ConnectionDied, Deep}}
use Rattle.do_base.specs.declared.events.exception.Exc.TheVariants.{NotUnderstood, NotVended, Range}
use Rattle.do_base.specs.declared.events.exception.Exc.TheVariants.{TimedOut, TooLarge, TypeFault}
use Rattle.do_base.specs.declared.events.exception.Exc.TheVariants.{User}
use Rattle.do_base.specs.declared.values.value.Value.{List, Value, the_lemmas}
use Rattle.do_base.specs.declared.values.value.Value.TheVariants.{Nil, Num, Obj, Text}
use Rattle.do_grammar.specs.Num.{zigzag}
use Rattle.do_coder.{specs.Parts.is_bytes, proofs.values.PartFacts.bytes_all}
use Rattle.do_machine.specs.run.Answers.{exc_name}
use Rattle.do_limits.specs.Sendable.{IsSendable, IsSendableExc, can_carry}

module _ (depth : ℕ) where
  -- nil can be carried
  pub carry-Nil : can_carry Nil depth ≡ true
  carry-Nil = search (rules, the_lemmas)

  -- a number can that has 64 bits
  pub carry-Num : (z : ℤ) → can_carry (Num z) depth ≡ nat_lt (zigzag z) (2 ^ 64)
  carry-Num z = search (rules, the_lemmas)

  -- a text of bytes can that is not too long
  pub carry-Text : (t : Listed ℕ) →
      can_carry (Text t) depth ≡ (nat_le (length t) longest_text && is_bytes t)
  carry-Text t = search (rules, the_lemmas)

  -- an object can
  pub carry-Obj : (o : ObjectName) → can_carry (Obj o) depth ≡ true
  carry-Obj o = search (rules, the_lemmas)

  -- a list can by its items
  pub carry-List : (vs : Listed Value) → can_carry (List vs) depth
      ≡ (nat_lt 0 depth && (nat_le (length (map can_carry vs)) 1024 && list_all
      (λ (f : ℕ → Bool). f (depth - 1)) (map can_carry vs)))
  carry-List vs = search (rules, the_lemmas)

-- the name of an exception that can be carried
pub name_sendable : (e : Exc) → IsSendableExc e → IsSendable (Text (exc_name e))
name_sendable TypeFault h = carry-Text 8 (exc_name TypeFault)
name_sendable Range h = carry-Text 8 (exc_name Range)
name_sendable Deep h = carry-Text 8 (exc_name Deep)
name_sendable NotUnderstood h = carry-Text 8 (exc_name NotUnderstood)
name_sendable ConnectionDied h = carry-Text 8 (exc_name ConnectionDied)
name_sendable NotVended h = carry-Text 8 (exc_name NotVended)
name_sendable TooLarge h = carry-Text 8 (exc_name TooLarge)
name_sendable TimedOut h = carry-Text 8 (exc_name TimedOut)
name_sendable (User text) h =
    carry-Text 8 text
    ∙ and_from (nat_le (length text) longest_text) (is_bytes text)
    (le-leb (length text) longest_text h.0) (bytes_all text h.1)
