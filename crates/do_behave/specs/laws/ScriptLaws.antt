-- The acts of scripts name only objects that were shown, and answer well where the code is made for
-- the table.
use Rattle.std.proofs.Common.{◌≡◌, ℕ, ◌≤◌, ◌++◌, List as Listed, [], length, Option, Some, None}
use Rattle.std.{proofs.Common.refl, specs.{Prelude.slice_get, List.All}}
use Rattle.std.proofs.lemmas.List.Elements.{All-nil, All-cons}
use Rattle.do_base.specs.{values.Texts.longest_text, declared.values.value.Value.Value}
use Rattle.do_base.specs.declared.values.value.Value.TheVariants.{Nil}
use Rattle.do_base.specs.declared.events.exception.Exc.TheVariants.{User, TypeFault}
use Rattle.do_class.specs.Class.{Class}
use Rattle.do_grammar.specs.Words.{◌>>?◌}
use Rattle.do_script.specs.Listing.{Listing, IsWithin}
use Rattle.do_script.specs.declared.instruction.Instruction.{Instruction, TheVariants.Text}
use Rattle.do_behave.specs.Answers.{AnswersWell, NamesShown, NamesOnly, objects_named}
use Rattle.do_behave.specs.{Answers.RaisesLimited, Limits.IsLimited, Parts.WeighsWithin}
use Rattle.do_behave.specs.{Programs.IsMadeFor, Ready.{IsHandler, IsReady}}
use Rattle.do_behave.specs.{Script.{script, runs, is_ready, does_next, code_of}, Steps.or_fault}
use Rattle.do_behave.specs.declared.{invocation.Invocation.Invocation, act.Act.Act}
use Rattle.do_behave.specs.declared.act.Act.TheVariants.{Return, Raise}
use Rattle.do_behave.specs.laws.CodeSuits.{ready-parts, code-suits, instruction-suits, All-first}
use Rattle.do_behave.specs.laws.{CodeSuits.All-second, Sound.{IsKept, IsSound, HasText, RaisesOnly}}
use Rattle.do_behave.specs.laws.{Sound.{choice, fault_sound}, ActsKeep.performs_sound}
use Rattle.do_behave.specs.laws.{LimitsKept.limits_kept, ObjectsKept.arguments_among}
use Rattle.do_behave.specs.laws.{ObjectsKept.objects_kept, WeightsKept.{weights_kept, shown_weighs}}

-- any text is a text
any_text : (i : Instruction) → HasText (λ _. Unit {0}) i
any_text (Text d s) = tt
any_text _ = tt

-- the text of an instruction that is within its code keeps the limit
text_within : (slots classes len : ℕ) (i : Instruction) → IsWithin slots classes len i
    → HasText (λ s. length s ≤ longest_text) i
text_within slots classes len (Text d s) w = w.1
text_within slots classes len _ w = tt

-- a text that is raised is limited where the act says so
limited_raise : (act : Act) → RaisesOnly (λ s. length s ≤ longest_text) act → RaisesLimited act
limited_raise (Raise (User s)) only = only
limited_raise _ only = tt

-- nil alone is returned
pub nil_sound : (table : Listed Class) (slots : Listed Value) (Q : Value → Type 0)
    (L : Listed ℕ → Type 0) (R : Type 0)
    → Q Nil → IsSound table slots Q L R (Return Nil)
nil_sound table slots Q L R nil =
    record { values = All-cons Q Nil [] nil (All-nil Q); locals = tt; range = λ _. tt; raises = tt }

module _ (table : Listed Class) (inv : Invocation) (slots : Listed Value) (Q : Value → Type 0)
    (T L : Listed ℕ → Type 0) (R : Type 0)
    (kept : IsKept inv Q T L) (all : All Q inv.locals) (of_slots : All Q slots)
    (handler : R → IsHandler inv.handler) where
  -- what is asked of an instruction of the code
  abbrev IsAllowed : Instruction → Type 0
  IsAllowed i = HasText T i × (R → IsWithin (length slots) (length table) 4096 i)

  next_sound : length inv.locals ≡ 16 → (o : Option Instruction)
      → ((i : Instruction) → o ≡ Some i → IsAllowed i)
      → IsSound table slots Q L R (or_fault (does_next inv slots o))
  next_sound sixteen None allowed = nil_sound table slots Q L R kept.nil
  next_sound sixteen (Some i) allowed =
      performs_sound table inv slots Q T L R kept all sixteen handler of_slots i (allowed i refl).0
      (allowed i refl).1

  runs_sound : (code : Listing)
      → ((i : Instruction) → slice_get code.instructions inv.pc ≡ Some i → IsAllowed i)
      → IsSound table slots Q L R (or_fault (runs table inv slots code))
  runs_sound code allowed =
      choice (λ o. IsSound table slots Q L R (or_fault o)) (is_ready table inv slots code)
      (does_next inv slots (slice_get code.instructions inv.pc)) None
      (λ ready. next_sound (ready-parts table inv slots code ready).0
      (slice_get code.instructions inv.pc) allowed)
      (fault_sound table slots Q L R TypeFault tt)

  pub code_sound : (o : Option Listing)
      → ((code : Listing) → o ≡ Some code → (i : Instruction)
      → slice_get code.instructions inv.pc ≡ Some i → IsAllowed i)
      → IsSound table slots Q L R (or_fault (o >>? runs table inv slots))
  code_sound None allowed = fault_sound table slots Q L R TypeFault tt
  code_sound (Some code) allowed = runs_sound code (allowed code refl)

-- an act that keeps whatever scripts keep, of whatever texts, names only objects that were shown
pub shown : (table : Listed Class) (inv : Invocation) (slots : Listed Value) (act : Act)
    → ((Q : Value → Type 0) (L : Listed ℕ → Type 0) → IsKept inv Q (λ _. Unit {0}) L
    → All Q inv.locals → All Q slots → IsSound table slots Q L ⊥ act)
    → NamesShown inv slots act
shown table inv slots act sound =
    let Q = NamesOnly (objects_named inv slots) in
    let named = arguments_among inv slots in
    let kept =
    sound Q (λ _. Unit {0}) (objects_kept inv slots) (All-first Q inv.locals slots named)
    (All-second Q inv.locals slots named) in
    record { locals = kept.locals; objects = kept.values }

-- an act that keeps whatever scripts keep, of texts within the limit, is a good answer
pub well : (table : Listed Class) (inv : Invocation) (slots : Listed Value) (act : Act)
    → ((Q : Value → Type 0) (L : Listed ℕ → Type 0) → IsKept inv Q (λ s. length s ≤ longest_text) L
    → All Q inv.locals → All Q slots
    → IsSound table slots Q L (Unit {0}) act)
    → AnswersWell table inv slots act
well table inv slots act sound =
    let heavy = WeighsWithin (inv.locals ++ slots) in
    let weighs = shown_weighs (inv.locals ++ slots) in
    let by_weights =
    sound heavy (λ _. Unit {0}) (weights_kept inv (inv.locals ++ slots))
    (All-first heavy inv.locals slots weighs) (All-second heavy inv.locals slots weighs) in
    record {
      range = by_weights.range tt;
      limits = λ most high all.
          let Q = IsLimited most in
          let by_limits =
          sound Q (λ s. length s ≤ longest_text) (limits_kept inv most high)
          (All-first Q inv.locals slots all) (All-second Q inv.locals slots all) in
          (by_limits.values, limited_raise act by_limits.raises);
      weights = by_weights.values;
    }

pub script_names_shown : (codes : Listed (Listed Listing)) (table : Listed Class) (inv : Invocation)
    (slots : Listed Value)
    → NamesShown inv slots (script codes table inv slots)
script_names_shown codes table inv slots =
    shown table inv slots (script codes table inv slots)
    (λ Q L kept all of_slots.
    code_sound table inv slots Q (λ _. Unit {0}) L ⊥ kept all of_slots (λ r. absurd r)
    (code_of codes inv.method)
    (λ code found i there. (any_text i, λ r. absurd r)))

pub script_answers_well : (codes : Listed (Listed Listing)) (table : Listed Class)
    (inv : Invocation) (slots : Listed Value)
    → IsMadeFor codes table → IsReady table inv slots
    → AnswersWell table inv slots (script codes table inv slots)
script_answers_well codes table inv slots made ready =
    well table inv slots (script codes table inv slots)
    (λ Q L kept all of_slots.
    code_sound table inv slots Q (λ s. length s ≤ longest_text) L (Unit {0}) kept all of_slots
    (λ _. ready.handler) (code_of codes inv.method)
    (λ code found i there.
    let suits = code-suits codes table inv.method code slots made found ready.slot_count in
    let within = (instruction-suits (length slots) (length table) code inv.pc i suits there).0 in
    (text_within (length slots) (length table) 4096 i within, λ _. within)))
