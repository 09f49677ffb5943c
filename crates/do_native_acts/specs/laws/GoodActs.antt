-- Acts of native methods that are good: they name only what was shown, and answer well.
use Rattle.std.proofs.Common.{◌≡◌, ℕ, zero, suc, ◌==◌, Bool, true, false, List as Listed, [], ◌∷◌}
use Rattle.std.proofs.Common.{length, ◌≤◌, Option, Some, None, refl, ◌∙◌, arith, IsTrue}
use Rattle.std.specs.{Prelude.{if◌then◌else◌, slice_index_or}, List.All, Option.IfSome}
use Rattle.std.proofs.lemmas.{Bool.eqb-true, List.{length-map, Elements.{All-nil, All-cons}}}
use Rattle.do_base.specs.{values.Texts.longest_text, declared.values.value.Value.Value}
use Rattle.do_base.specs.declared.events.exception.Exc.TheVariants.{Range, TypeFault}
use Rattle.do_class.specs.{Class.Class, Table.selector_of}
use Rattle.do_grammar.specs.{Names.{is_selector, colons}, Words.◌>>?◌}
use Rattle.do_script.specs.Listing.{IsLocal}
use Rattle.do_behave.specs.{Answers.{AnswersWell, NamesShown}, Ready.IsReady}
use Rattle.do_behave.specs.{Steps.{local, or_fault}, declared.invocation.Invocation.Invocation}
use Rattle.do_behave.specs.declared.act.Act.{Act, TheVariants.{Send, Return, Raise}}
use Rattle.do_behave.specs.laws.ScriptLaws.{shown, well}
use Rattle.do_behave.specs.laws.Sound.{IsKept, IsSound, fault_sound, get_kept}
use Rattle.do_native_acts.specs.Places.{by_selector, returns, aside, sends, at_place, in_two}
use Rattle.do_native_acts.specs.Steps.{fits}

-- An act that names no object which it was not shown, and answers well where the invocation is
-- ready and its behaviour is made for the table.
pub record IsGood (made : Type 0) (table : Listed Class) (inv : Invocation) (slots : Listed Value)
    (act : Act) : Type 0 where
  pub shown : NamesShown inv slots act
  pub well : made → IsReady table inv slots → AnswersWell table inv slots act

-- local 13 is a local, however often
aside_locals : (args : Listed Value) → All IsLocal (aside args)
aside_locals [] = All-nil IsLocal
aside_locals (v ∷ vs) = All-cons IsLocal 13 (aside vs) (omega arith) (aside_locals vs)

module _ (made : Type 0) (table : Listed Class) (inv : Invocation) (slots : Listed Value) where
  -- the act, or the fault of type where there is none, is good
  abbrev pub MayGood : Option Act → Type 0
  MayGood o = IsGood made table inv slots (or_fault o)

  -- what scripts keep of the values that they see, the act keeps
  abbrev pub KeepsAll : Act → Type 1
  KeepsAll act = (Q : Value → Type 0) (T L : Listed ℕ → Type 0) (R : Type 0) → (R → made)
      → IsKept inv Q T L → All Q inv.locals → All Q slots → IsSound table slots Q L R act

  -- an act that keeps all is good
  pub kept_good : (act : Act) → KeepsAll act → IsGood made table inv slots act
  kept_good act keeps = record {
    shown = shown table inv slots act (λ Q L. keeps Q (λ _. Unit {0}) L ⊥ (λ none. absurd none));
    well =
        λ is_made _. well table inv slots act
        (λ Q L. keeps Q (λ s. length s ≤ longest_text) L (Unit {0}) (λ _. is_made));
  }

  -- a fault of type is good
  pub type_good : IsGood made table inv slots (Raise TypeFault)
  type_good =
      kept_good (Raise TypeFault)
      (λ Q T L R is_made kept all of_slots. fault_sound table slots Q L R TypeFault tt)

  -- and so is a fault of range
  pub range_good : IsGood made table inv slots (Raise Range)
  range_good =
      kept_good (Raise Range)
      (λ Q T L R is_made kept all of_slots. fault_sound table slots Q L R Range tt)

  -- what is found leads to a good act
  pub then_good : {A : Type 0} (o : Option A) (f : A → Option Act)
      → ((x : A) → o ≡ Some x → MayGood (f x)) → MayGood (o >>? f)
  then_good None f each = type_good
  then_good (Some x) f each = each x refl

  -- what is done leads to a good act
  pub fits_good : {A : Type 0} (o : Option A) (f : A → Act)
      → ((x : A) → o ≡ Some x → IsGood made table inv slots (f x))
      → IsGood made table inv slots (fits o f)
  fits_good None f each = range_good
  fits_good (Some x) f each = each x refl

  -- what is done, and keeps this, leads to a good act
  pub fits_kept : {A : Type 0} (P : A → Type 0) (o : Option A) (f : A → Act) → IfSome o P
      → ((x : A) → P x → IsGood made table inv slots (f x))
      → IsGood made table inv slots (fits o f)
  fits_kept P None f kept each = range_good
  fits_kept P (Some x) f kept each = each x kept

  -- of two good acts each may be chosen
  pub choice_good : (b : Bool) (one other : Option Act) → MayGood one → MayGood other
      → MayGood (if b then one else other)
  choice_good true one other first second = first
  choice_good false one other first second = second

  -- the act of each selector is good, where there are 16 locals
  pub selector_good : (does : Listed ℕ → Option Act)
      → (length inv.locals ≡ 16 → (selector : Listed ℕ)
      → selector_of table inv.method ≡ Some selector → MayGood (does selector))
      → IsGood made table inv slots (by_selector table inv does)
  selector_good does each = by (length inv.locals == 16) refl
    where
      by : (b : Bool) → (length inv.locals == 16) ≡ b
          → MayGood ((if b then selector_of table inv.method else None) >>? does)
      by true is =
          then_good (selector_of table inv.method) does (each (eqb-true (length inv.locals) 16 is))
      by false is = type_good

  -- a value that is kept may be returned
  returned_good : (o : Option Value)
      → ((Q : Value → Type 0) → All Q inv.locals → IfSome o Q)
      → MayGood (o >>? λ v. Some (Return v))
  returned_good None kept = type_good
  returned_good (Some v) kept =
      kept_good (Return v)
      (λ Q T L R is_made k all of_slots. record {
        values = All-cons Q v [] (kept Q all) (All-nil Q);
        locals = tt;
        range = λ _. tt;
        raises = tt;
      })

  -- what a local holds may be returned
  pub local_returned_good : (k : ℕ) → MayGood (local inv k >>? λ v. Some (Return v))
  local_returned_good k = returned_good (local inv k) (λ Q all. get_kept Q inv.locals k all)

  -- so the answer may be returned
  pub returns_good : MayGood (returns inv)
  returns_good = local_returned_good 14

  -- a method of two places is good whose first act is
  pub two_good : (first : Option Act) → MayGood first → MayGood (in_two inv first)
  two_good first is =
      choice_good (inv.pc == 0) first
      (if inv.pc == 1 then returns inv else None) is
      (choice_good (inv.pc == 1) (returns inv) None returns_good type_good)

  -- each of these is good
  abbrev pub AreGood : Listed (Option Act) → Type 0
  AreGood [] = Unit {0}
  AreGood (o ∷ rest) = MayGood o × AreGood rest

  -- each place of a list that is good is good
  place_good : (places : Listed (Option Act)) (k : ℕ) → AreGood places
      → MayGood (slice_index_or places k None)
  place_good [] k all = type_good
  place_good (o ∷ rest) zero all = all.0
  place_good (o ∷ rest) (suc k) all = place_good rest k all.1

  -- a method is good whose places are
  pub places_good : (places : Listed (Option Act)) → AreGood places → MayGood (at_place inv places)
  places_good places all = place_good places inv.pc all

  -- a message to a value that is kept is good
  sent_good : (o : Option Value) (selector : Listed ℕ) (args : Listed Value) (to : ℕ)
      → IsTrue (is_selector selector) → length args ≡ colons selector
      → ((Q : Value → Type 0) → All Q inv.locals → IfSome o Q)
      → ((Q : Value → Type 0) (T L : Listed ℕ → Type 0) → IsKept inv Q T L → All Q inv.locals
      → All Q slots → All Q args)
      → MayGood (o >>? λ v. Some (Send v selector args 13 (aside args) to))
  sent_good None selector args to is count held shown_args = type_good
  sent_good (Some v) selector args to is count held shown_args =
      kept_good (Send v selector args 13 (aside args) to)
      (λ Q T L R is_made kept all of_slots. record {
        values = All-cons Q v args (held Q all) (shown_args Q T L kept all of_slots);
        locals = tt;
        range =
            λ _. (
              is,
              count,
              length-map args (λ _. 13) ∙ count,
              omega arith,
              aside_locals args,
            );
        raises = tt;
      })

  -- A send is good whose selector has a colon for each argument, and whose arguments are values
  -- that were shown or that scripts make.
  pub sends_good : (target : ℕ) (selector : Listed ℕ) (args : Listed Value) (to : ℕ)
      → IsTrue (is_selector selector) → length args ≡ colons selector
      → ((Q : Value → Type 0) (T L : Listed ℕ → Type 0) → IsKept inv Q T L → All Q inv.locals
      → All Q slots → All Q args)
      → MayGood (sends inv target selector args to)
  sends_good target selector args to is count shown_args =
      sent_good (local inv target) selector args to is count
      (λ Q all. get_kept Q inv.locals target all) shown_args
