-- A server of names names only what was shown, and answers well.
use Rattle.std.proofs.Common.{pos, Bool, List as Listed, [], ◌∷◌, Option, Some, None}
use Rattle.std.specs.Option.{IfSome, option_map}
use Rattle.do_base.specs.declared.values.value.Value.{Value, TheVariants.{Num, Text}}
use Rattle.do_class.specs.Class.{Class}
use Rattle.do_behave.specs.{Answers.{AnswersWell, NamesShown}, Numbers.truth, Ready.IsReady}
use Rattle.do_behave.specs.declared.invocation.Invocation.{Invocation}
use Rattle.do_native_acts.specs.{Places.in_two, laws.GoodActs.{IsGood, selector_good}}
use Rattle.do_native_acts.specs.laws.GoodSteps.{answers_good}
use Rattle.do_native_acts.specs.laws.NamedValues.{EachNamed, Named, list_of_parts, number_named}
use Rattle.do_native_acts.specs.laws.NamedValues.{rows_named, text_named}
use Rattle.do_table.specs.Entries.{value_of}
use Rattle.do_names.specs.{Acts.{first, names_act}, Calls.{as_number, call_in, does, port_or_none}}
use Rattle.do_names.specs.Core.{Entry, from_slots, to_slots, row, registered, unregistered}
use Rattle.do_names.specs.declared.calls.Call.{Call, TheVariants.{Register, Lookup, Unregister}}

module _ (inv : Invocation) (slots : Listed Value) where
  -- an entry names no object
  row_named : (e : Entry) → Named inv slots (row e)
  row_named e =
      list_of_parts inv slots (Text e.0 ∷ Num (pos e.1) ∷ [])
      (text_named inv slots e.0, (number_named inv slots (pos e.1), tt))

  -- nor do the slots of a core
  core_named : (es : Listed Entry) → EachNamed inv slots (to_slots es)
  core_named es = (rows_named inv slots row row_named es, tt)

  -- an answer names no object
  abbrev NamedAnswer : Listed Entry × Value → Type 0
  NamedAnswer done = Named inv slots done.1 × Unit {0}

  -- since it is a number
  numbered : (o : Option (Listed Entry × Bool)) → IfSome (option_map as_number o) NamedAnswer
  numbered None = tt
  numbered (Some done) = (number_named inv slots (truth done.1), tt)

  -- so it is of each call
  answer_named : (es : Listed Entry) (call : Call) → IfSome (does es call) NamedAnswer
  answer_named es (Register name port) = numbered (registered es name port)
  answer_named es (Lookup name) =
      (number_named inv slots (pos (port_or_none (value_of es name))), tt)
  answer_named es (Unregister name) =
      (number_named inv slots (truth (unregistered es name).1), tt)

  -- whatever the call is, it names nothing that is kept
  asked : (call : Option Call) → IfSome call (λ (c : Call). Unit {0})
  asked None = tt
  asked (Some c) = tt

-- each act of a server is good
names_good : (table : Listed Class) (inv : Invocation) (slots : Listed Value)
    → IsGood (Unit {0}) table inv slots (names_act table inv slots)
names_good table inv slots =
    selector_good (Unit {0}) table inv slots
    (λ selector. in_two inv (first selector inv slots)) (λ sixteen selector _.
    answers_good (Unit {0}) table inv slots sixteen from_slots to_slots does (call_in selector inv)
    (λ es. Unit {0}) (λ c. Unit {0}) (λ es read. tt) (asked inv slots (call_in selector inv))
    (λ es c _ _. answer_named inv slots es c) (λ es _. core_named inv slots es))

-- an act of a server names only what was shown
pub names_names_shown : (table : Listed Class) (inv : Invocation) (slots : Listed Value)
    → NamesShown inv slots (names_act table inv slots)
names_names_shown table inv slots = (names_good table inv slots).shown

-- a server answers well
pub names_answers_well : (table : Listed Class) (inv : Invocation) (slots : Listed Value)
    → IsReady table inv slots → AnswersWell table inv slots (names_act table inv slots)
names_answers_well table inv slots = (names_good table inv slots).well tt
