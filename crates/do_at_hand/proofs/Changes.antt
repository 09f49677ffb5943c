-- Invocations, slots and verdicts that name only objects that pass a test.
use Rattle.std.proofs.Common.{Bool, List, [], cond, false, map, true, ℕ, ◌∷◌, ◌≡◌}
use Rattle.std.specs.{List.AllByRecursion, Prelude.{None, Option, Some, slice_set}}
use Rattle.do_base.specs.declared.values.value.Value.{Value, TheVariants.Nil}
use Rattle.do_base.specs.names.Names.{ObjectName}
use Rattle.do_sig.specs.{Calls.{is_in, qualifier_of}, declared.encoding.Encoding.Encoding}
use Rattle.do_behave.specs.{InPlace.written, declared.{act.Write.Write, invocation.Answer.Answer}}
use Rattle.do_behave.specs.declared.invocation.Invocation.{Invocation}
use Rattle.do_machine.specs.declared.verdict.Verdict.{Verdict, TheVariants.{Asks, Begins, Fails}}
use Rattle.do_machine.specs.declared.verdict.Verdict.TheVariants.{Goes, Makes, Returns, Says, Steps}
use Rattle.do_machine.specs.declared.verdict.Verdict.TheVariants.{Tells, Uses, Vends}
use Rattle.do_machine.specs.{held.Refers.answer_values, run.Changes.{goes_on, with_outs}}
use Rattle.do_machine.specs.run.{Delivery.below_answered, Send.{input, inputs_by, outs_by}}
use Rattle.do_facts.proofs.EachOfLists.{each_set}
use Rattle.do_at_hand.proofs.{Shown.{AllName, Names, nil}, Within.{InvocationWithin, RootWithin}}

module _ (H : ObjectName → Bool) where
  -- an invocation that goes on with a value in a local
  pub went_on : (into : ℕ) (v : Value) (pc : ℕ) (i : Invocation) → Names H v →
      InvocationWithin H i → InvocationWithin H (goes_on into v pc i)
  went_on into v pc i h k = record {
    object = k.object;
    locals = each_set (Names H) i.locals into v h k.locals;
    answer = tt;
  }

  -- locals with out values
  pub outs_set : (ks : List ℕ) (vs locals : List Value) → AllName H vs → AllName H locals →
      AllName H (with_outs ks vs locals)
  outs_set [] vs locals h k = k
  outs_set (x ∷ ks) [] locals h k = k
  outs_set (x ∷ ks) (v ∷ vs) locals h k =
      outs_set ks vs (slice_set locals x v) h.1 (each_set (Names H) locals x v h.0 k)

  -- slots that were written
  pub slots_written : (slots : List Value) (ws : List Write) → AllName H slots →
      AllByRecursion (λ w. Names H w.value) ws → AllName H (written slots ws)
  slots_written slots [] h k = h
  slots_written slots (w ∷ ws) h k =
      slots_written (slice_set slots w.slot w.value) ws
      (each_set (Names H) slots w.slot w.value k.0 h) k.1

  -- invocations of which the first is answered
  pub answered_below : (a : Answer) (below : List Invocation) → AllName H (answer_values a) →
      AllByRecursion (InvocationWithin H) below →
      AllByRecursion (InvocationWithin H) (below_answered a below)
  answered_below a [] h k = tt
  answered_below a (i ∷ below) h k =
      (record { object = k.0.object; locals = k.0.locals; answer = h }, k.1)

  -- a value as it is passed
  pub input_named : (e : Encoding) (v : Value) → Names H v → Names H (input e v)
  input_named e v h = go (is_in e.value_type e.qualifiers)
    where
      go : (b : Bool) → Names H (cond b v Nil)
      go true = h
      go false = nil H

  -- values as they are passed
  pub inputs_named : (es : List Encoding) (vs : List Value) → AllName H vs →
      AllName H (inputs_by es vs)
  inputs_named [] vs h = tt
  inputs_named (e ∷ es) [] h = tt
  inputs_named (e ∷ es) (v ∷ vs) h = (input_named e v h.0, inputs_named es vs h.1)

  -- those that come out
  pub outs_named : (oneway : Bool) (es : List Encoding) (vs : List Value) → AllName H vs →
      AllName H (outs_by oneway es vs)
  outs_named oneway [] vs h = tt
  outs_named oneway (e ∷ es) [] h = tt
  outs_named oneway (e ∷ es) (v ∷ vs) h =
      go (qualifier_of oneway e).comes_out (outs_named oneway es vs h.1)
    where
      go : (b : Bool) → AllName H (outs_by oneway es vs) →
          AllName H (cond b (v ∷ outs_by oneway es vs) (outs_by oneway es vs))
      go true k = (h.0, k)
      go false k = k

  -- the values of writes
  pub written_values : (ws : List Write) → AllName H (map (λ w. w.value) ws) →
      AllByRecursion (λ w. Names H w.value) ws
  written_values [] h = tt
  written_values (w ∷ ws) h = (h.0, written_values ws h.1)

  -- what a verdict gives to invocations, slots and the root
  abbrev pub VerdictWithin : ℕ → Verdict → Type 0
  VerdictWithin port (Goes into value pc) = Names H value
  VerdictWithin port (Uses value outs) = Names H value × AllName H outs
  VerdictWithin port (Steps pc locals handler writes) =
      AllName H locals × AllByRecursion (λ w. Names H w.value) writes
  VerdictWithin port (Makes class into pc) = Unit {0}
  VerdictWithin port (Vends root pc) = RootWithin H port root
  VerdictWithin port (Says value pc) = Unit {0}
  VerdictWithin port (Asks peer request into outs pc) = Unit {0}
  VerdictWithin port (Begins o method values into outs pc) = (H o ≡ true) × AllName H values
  VerdictWithin port (Tells peer m into pc) = Unit {0}
  VerdictWithin port (Returns value outs) = Names H value × AllName H outs
  VerdictWithin port (Fails e) = Unit {0}

  -- so it is with a verdict, where there is one
  abbrev pub VerdictIfWithin : ℕ → Option Verdict → Type 0
  VerdictIfWithin port None = Unit {0}
  VerdictIfWithin port (Some v) = VerdictWithin port v
