-- A server of services names only what was shown, and answers well.
use Rattle.std.proofs.Common.{◌≡◌, ℕ, pos, Bool, true, false, List as Listed, [], ◌∷◌, length}
use Rattle.std.proofs.Common.{Option, Some, None, refl, sym, subst, arith}
use Rattle.std.specs.{Prelude.{if◌then◌else◌, codes}, List.All, Option.IfSome, Str.bytes_eq}
use Rattle.std.proofs.lemmas.List.Elements.{All-nil, All-cons, recursion_from_All}
use Rattle.do_base.specs.{values.Kinds.{is_nil, text}, declared.values.value.Value.Value}
use Rattle.do_base.specs.declared.values.value.Value.TheVariants.{Nil, Num, Text}
use Rattle.do_class.specs.Class.{Class}
use Rattle.do_grammar.specs.Names.{is_selector}
use Rattle.do_script.specs.Listing.{IsLocal}
use Rattle.do_grammar.specs.Words.{◌>>?◌}
use Rattle.do_behave.specs.{Answers.{AnswersWell, NamesShown}, Numbers.truth, Ready.IsReady}
use Rattle.do_behave.specs.{Steps.local, declared.{invocation.Invocation.Invocation, act.Act.Act}}
use Rattle.do_behave.specs.declared.{act.Act.TheVariants.{Root, Send}, change.LocalSet.LocalSet}
use Rattle.do_behave.specs.laws.Sound.{IsKept, get_kept}
use Rattle.do_native_acts.specs.{Places.at_place, Steps.{caught_to, set}}
use Rattle.do_native_acts.specs.laws.GoodActs.{IsGood, MayGood, choice_good, kept_good, places_good}
use Rattle.do_native_acts.specs.laws.GoodActs.{returns_good, selector_good, then_good}
use Rattle.do_native_acts.specs.laws.GoodSteps.{SetsNamed, answers_good, sets_good}
use Rattle.do_native_acts.specs.laws.{KindLaws.found_of, NamedValues.{Named, nil_named}}
use Rattle.do_native_acts.specs.{laws.NamedValues.{number_named, text_named}, Owners.owner_in}
use Rattle.do_table.specs.Entries.{value_of}
use Rattle.do_services.specs.Acts.{answers, asks_provider, asks_root, asks_type, has_type, keeps_on}
use Rattle.do_services.specs.Acts.{kept_service, method_act, perform_next, perform_places, performs}
use Rattle.do_services.specs.Acts.{provider_message, services_act, was_performed, was_raised}
use Rattle.do_services.specs.{Calls.{call_in, does}, Core.{from_slots, row, service_in}}
use Rattle.do_services.specs.{Core.{texts_value, to_slots}, declared.service.Service.Service}
use Rattle.do_services.specs.laws.Provider.{provider_colons, provider_selects}
use Rattle.do_services.specs.laws.SlotsExact.{service_back, service_good}
use Rattle.do_services.specs.laws.NamedServices.{NamedCall, NamedCore, NamedService, call_named}
use Rattle.do_services.specs.laws.NamedServices.{core_from, core_to, done_named, found_named}

-- the message to the pasteboard has one argument
available_selects : is_selector (codes "availableTypeFromArray:") ≡ true
unfolding is_selector
available_selects = refl

-- the items of the list that a service is
abbrev parts : Service → Listed Value
parts s =
    Text s.item ∷ Text s.message ∷ Num (pos s.port) ∷ texts_value s.send ∷ texts_value s.returned
    ∷ s.user ∷ []

-- what scripts keep of a service that a local holds they keep of the types that are sent, and of
-- the user data
service_kept : (inv : Invocation) (Q : Value → Type 0) (T L : Listed ℕ → Type 0)
    → IsKept inv Q T L → All Q inv.locals → (s : Service) → kept_service inv ≡ Some s
    → Q (texts_value s.send) × Q s.user
service_kept inv Q T L kept all s is =
    let v = found_of (local inv 3) service_in s is in
    let held : Q v.0 = subst (λ o. IfSome o Q) v.1 (get_kept Q inv.locals 3 all) in
    let each = recursion_from_All Q (parts s)
    (kept.items (parts s) (subst Q (sym (service_back v.0 s v.2)) held)) in
    (each.1.1.1.0, each.1.1.1.1.1.0)

module _ (table : Listed Class) (inv : Invocation) (slots : Listed Value)
    (sixteen : length inv.locals ≡ 16) where
  -- a good act of a server
  abbrev Good : Act → Type 0
  Good act = IsGood (Unit {0}) table inv slots act

  -- a good act, or a fault of type
  abbrev MayBeGood : Option Act → Type 0
  MayBeGood o = MayGood (Unit {0}) table inv slots o

  -- a step that keeps the handler is good
  on_good : (to : ℕ) (sets : Listed LocalSet) → SetsNamed inv slots sets
      → Good (keeps_on inv to sets)
  on_good to sets named =
      sets_good (Unit {0}) table inv slots sixteen to sets inv.handler (λ ready. ready.handler)
      named

  -- a step that ends with an error is good
  fails_good : (error : Value) → Named inv slots error
      → Good (keeps_on inv 8 (set 2 error ∷ set 14 (Num (pos 0)) ∷ []))
  fails_good error named =
      on_good 8 (set 2 error ∷ set 14 (Num (pos 0)) ∷ [])
      (named, (number_named inv slots (pos 0), tt))

  -- the step after the item was looked for is good
  next_good : (o : Option Service) → IfSome o (NamedService inv slots) → Good (perform_next inv o)
  next_good None named =
      on_good 8 (set 2 (Text (codes "unknown item")) ∷ set 3 Nil ∷ set 14 (Num (pos 0)) ∷ []) (
        text_named inv slots (codes "unknown item"),
        (nil_named inv slots, (number_named inv slots (pos 0), tt)),
      )
  next_good (Some s) named =
      sets_good (Unit {0}) table inv slots sixteen 1 (set 3 (row s) ∷ []) (caught_to 7)
      (λ ready. omega arith) (named, tt)

  -- looking for the item is good
  performs_good : MayBeGood (performs inv slots)
  performs_good =
      then_good (Unit {0}) table inv slots (from_slots slots) _ (λ es read.
      then_good (Unit {0}) table inv slots (local inv 0 >>? text) _ (λ item _.
      then_good (Unit {0}) table inv slots (local inv 1 >>? owner_in) _ (λ board _.
      next_good (value_of es item)
      (found_named inv slots es item (core_from inv slots es read)))))

  -- asking for a type is good
  asks_good : MayBeGood (asks_type inv)
  asks_good =
      then_good (Unit {0}) table inv slots (kept_service inv) _ (λ s is.
      then_good (Unit {0}) table inv slots (local inv 1) _ (λ board held.
      kept_good (Unit {0}) table inv slots
      (Send board (codes "availableTypeFromArray:") (texts_value s.send ∷ []) 4 (13 ∷ []) 2)
      (λ Q T L R is_made kept all of_slots. record {
        values =
            All-cons Q board (texts_value s.send ∷ [])
            (subst (λ o. IfSome o Q) held (get_kept Q inv.locals 1 all))
            (All-cons Q (texts_value s.send) [] ((service_kept inv Q T L kept all s is).0)
            (All-nil Q));
        locals = tt;
        range = λ _. (
          available_selects,
          refl,
          refl,
          omega arith,
          All-cons IsLocal 13 [] (omega arith) (All-nil IsLocal),
        );
        raises = tt;
      })))

  -- going on or ending without a type is good
  type_good : MayBeGood (has_type inv)
  type_good =
      then_good (Unit {0}) table inv slots (local inv 4) _ (λ kind _. by (is_nil kind))
    where
      by : (t : Bool) → Good (if t
          then keeps_on inv 8 (set 2 (Text (codes "no type")) ∷ set 14 (Num (pos 0)) ∷ [])
          else keeps_on inv 3 [])
      by true = fails_good (Text (codes "no type")) (text_named inv slots (codes "no type"))
      by false = on_good 3 [] tt

  -- asking for the root is good
  root_good : MayBeGood (asks_root inv)
  root_good =
      then_good (Unit {0}) table inv slots (kept_service inv) _ (λ s is.
      kept_good (Unit {0}) table inv slots (Root (Num (pos s.port)) 5 4)
      (λ Q T L R is_made kept all of_slots. record {
        values = All-cons Q (Num (pos s.port)) [] (kept.number (pos s.port)) (All-nil Q);
        locals = tt;
        range = λ _. omega arith;
        raises = tt;
      }))

  -- asking the provider is good
  provider_good : MayBeGood (asks_provider inv)
  provider_good =
      then_good (Unit {0}) table inv slots (kept_service inv) _ (λ s is.
      then_good (Unit {0}) table inv slots (local inv 5) _ (λ provider held.
      then_good (Unit {0}) table inv slots (local inv 1) _ (λ board there.
      let v = found_of (local inv 3) service_in s is in
      let good = service_good v.0 s v.2 in
      kept_good (Unit {0}) table inv slots
      (Send provider (provider_message s) (board ∷ s.user ∷ Nil ∷ []) 13 (13 ∷ 13 ∷ 2 ∷ []) 6)
      (λ Q T L R is_made kept all of_slots. record {
        values =
            All-cons Q provider (board ∷ s.user ∷ Nil ∷ [])
            (subst (λ o. IfSome o Q) held (get_kept Q inv.locals 5 all))
            (All-cons Q board (s.user ∷ Nil ∷ [])
            (subst (λ o. IfSome o Q) there (get_kept Q inv.locals 1 all))
            (All-cons Q s.user (Nil ∷ []) ((service_kept inv Q T L kept all s is).1)
            (All-cons Q Nil [] kept.nil (All-nil Q))));
        locals = tt;
        range = λ _. (
          provider_selects s good,
          sym (provider_colons s good),
          sym (provider_colons s good),
          omega arith,
          All-cons IsLocal 13 (13 ∷ 2 ∷ []) (omega arith)
              (All-cons IsLocal 13 (2 ∷ []) (omega arith)
              (All-cons IsLocal 2 [] (omega arith) (All-nil IsLocal))),
        );
        raises = tt;
      }))))

  -- ending once it was performed is good
  performed_good : MayBeGood (was_performed inv)
  performed_good =
      then_good (Unit {0}) table inv slots (local inv 2) _ (λ error _.
      on_good 8 (set 14 (Num (truth (is_nil error))) ∷ [])
      (number_named inv slots (truth (is_nil error)), tt))

  -- ending with what was raised is good
  raised_good : MayBeGood (was_raised inv)
  raised_good =
      then_good (Unit {0}) table inv slots (local inv 15 >>? text) _ (λ name _.
      fails_good (Text name) (text_named inv slots name))

  -- a method that only answers is good
  asked_good : (selector : Listed ℕ) → MayBeGood (answers selector inv slots)
  asked_good selector =
      answers_good (Unit {0}) table inv slots sixteen from_slots to_slots does
      (call_in selector inv) (NamedCore inv slots) (NamedCall inv slots) (core_from inv slots)
      (call_named inv slots selector) (done_named inv slots) (core_to inv slots)

  -- each method is good
  method_good : (selector : Listed ℕ) → MayBeGood (method_act selector inv slots)
  method_good selector =
      choice_good (Unit {0}) table inv slots
      (bytes_eq selector (codes "performService:pasteboard:error:"))
      (at_place inv (perform_places inv slots)) (answers selector inv slots)
      (places_good (Unit {0}) table inv slots (perform_places inv slots) (
        performs_good,
        (
          asks_good,
          (
            type_good,
            (
              root_good,
              (
                on_good 5 [] tt,
                (
                  provider_good,
                  (
                    performed_good,
                    (
                      raised_good,
                      (returns_good (Unit {0}) table inv slots, tt),
                    ),
                  ),
                ),
              ),
            ),
          ),
        ),
      ))
      (asked_good selector)

-- each act of a server is good
services_good : (table : Listed Class) (inv : Invocation) (slots : Listed Value)
    → IsGood (Unit {0}) table inv slots (services_act table inv slots)
services_good table inv slots =
    selector_good (Unit {0}) table inv slots (λ selector. method_act selector inv slots)
    (λ sixteen selector _. method_good table inv slots sixteen selector)

-- an act of a server names only what was shown
pub services_names_shown : (table : Listed Class) (inv : Invocation) (slots : Listed Value)
    → NamesShown inv slots (services_act table inv slots)
services_names_shown table inv slots = (services_good table inv slots).shown

-- a server answers well
pub services_answers_well : (table : Listed Class) (inv : Invocation) (slots : Listed Value)
    → IsReady table inv slots → AnswersWell table inv slots (services_act table inv slots)
services_answers_well table inv slots = (services_good table inv slots).well tt
