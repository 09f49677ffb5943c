-- A pasteboard names only what was shown, and answers well.
use Rattle.std.proofs.Common.{◌≡◌, ℕ, ◌<◌, pos, true, List as Listed, [], ◌∷◌, Option, Some, None}
use Rattle.std.{proofs.Common.{refl, subst, arith, length}, specs.Prelude.{◌++◌, codes, slice_get}}
use Rattle.std.specs.{Prelude.option_and_then, Option.{IfSome, IsSome}, Str.bytes_eq}
use Rattle.std.proofs.lemmas.{List.Elements.{All-nil, All-cons}, Option.slice_get_within}
use Rattle.do_base.specs.{names.Names.ObjectName, values.Kinds.{text, number, object}}
use Rattle.do_base.specs.declared.values.value.Value.{Value, TheVariants.{Nil, Text, Obj}}
use Rattle.do_class.specs.{Class.Class, Table.class_at}
use Rattle.do_grammar.specs.{Names.is_selector, Words.◌>>?◌}
use Rattle.do_behave.specs.{Answers.{AnswersWell, NamesShown}, Limits.IsLimited, Parts.WeighsWithin}
use Rattle.do_behave.specs.{Ready.IsReady, Steps.local, declared.invocation.Invocation.Invocation}
use Rattle.do_behave.specs.declared.act.Act.{Act, TheVariants.{New, Raise}}
use Rattle.do_base.specs.declared.events.exception.Exc.TheVariants.{Range}
use Rattle.do_behave.specs.{declared.change.LocalSet.LocalSet, laws.Sound.get_kept}
use Rattle.do_native_acts.specs.{Limited.is_limited, Places.{at_place, sends}}
use Rattle.do_native_acts.specs.{Steps.{caught_to, set, steps}, laws.FoundLaws.of_chosen}
use Rattle.do_native_acts.specs.laws.GoodActs.{IsGood, MayGood, choice_good, fits_good, fits_kept}
use Rattle.do_native_acts.specs.laws.GoodActs.{places_good, range_good, returns_good, selector_good}
use Rattle.do_native_acts.specs.laws.GoodActs.{sends_good, then_good}
use Rattle.do_native_acts.specs.laws.GoodSteps.{SetsNamed, answers_good, keeps_good, sets_good}
use Rattle.do_native_acts.specs.laws.NamedValues.{EachNamed, Named, NamedObject, local_object}
use Rattle.do_native_acts.specs.laws.NamedValues.{nil_named, number_named, text_named}
use Rattle.do_native_acts.specs.{Types.types_in, Owners.owner_in}
use Rattle.do_table.specs.Entries.{value_of}
use Rattle.do_pboard.specs.Acts.{answers, asks, changed_owner, data_places, declare_next}
use Rattle.do_pboard.specs.Acts.{declare_places, declares, found_now, look_next, look_sets, looks}
use Rattle.do_pboard.specs.Acts.{looks_again, makes_next, method_act, name_next, name_places}
use Rattle.do_pboard.specs.Acts.{names_keep, names_look, pasteboard_act, provide, to_tell}
use Rattle.do_pboard.specs.{Calls.{call_in, does}, Changes.{data_for, keeps}}
use Rattle.do_pboard.specs.Core.{Pasteboard, boards_slot, from_slots, to_slots}
use Rattle.do_pboard.specs.declared.board.BoardData.{BoardData, TheVariants.{Here, Ask, Absent}}
use Rattle.do_pboard.specs.declared.calls.Call.TheVariants.{Declare}
use Rattle.do_pboard.specs.laws.NamedParts.{NamedCall, NamedCore, NamedData, NamedDone, NamedKept}
use Rattle.do_pboard.specs.laws.NamedParts.{NamedOwner, board_found, call_named, core_from, core_to}
use Rattle.do_pboard.specs.laws.NamedParts.{data_named, done_named, kept_named, local_owner}
use Rattle.do_pboard.specs.laws.NamedParts.{now_named, told_named}

-- the message to a former owner has one argument
changed_selects : is_selector changed_owner ≡ true
unfolding is_selector
changed_selects = refl

-- the message to an owner has two
provide_selects : is_selector provide ≡ true
unfolding is_selector
provide_selects = refl

module _ (table : Listed Class) (inv : Invocation) (slots : Listed Value)
    (sixteen : length inv.locals ≡ 16) where
  -- a good act of a pasteboard
  abbrev Good : Act → Type 0
  Good act = IsGood (Unit {0}) table inv slots act

  -- a good act, or a fault of type
  abbrev MayBeGood : Option Act → Type 0
  MayBeGood o = MayGood (Unit {0}) table inv slots o

  -- a step that sets locals and keeps the handler is good
  on_good : (to : ℕ) (sets : Listed LocalSet) → SetsNamed inv slots sets
      → Good (steps inv to sets inv.handler [])
  on_good to sets named =
      sets_good (Unit {0}) table inv slots sixteen to sets inv.handler (λ ready. ready.handler)
      named

  -- the step after a declaration is good
  next_good : (told : Option ObjectName) (answer : Value) (new : Listed Value)
      → NamedOwner inv slots told → Named inv slots answer → EachNamed inv slots new
      → Good (declare_next inv told answer slots new)
  next_good None answer new told named all =
      keeps_good (Unit {0}) table inv slots sixteen 2 (set 2 Nil ∷ set 14 answer ∷ []) inv.handler
      new (λ ready. ready.handler) (nil_named inv slots, (named, tt)) all
  next_good (Some former) answer new told named all =
      keeps_good (Unit {0}) table inv slots sixteen 1
      (set 2 (Obj former) ∷ set 14 answer ∷ []) (caught_to 2) new (λ ready. omega arith)
      (told, (named, tt)) all

  -- a declaration is good
  declares_good : MayBeGood (declares inv slots)
  declares_good =
      then_good (Unit {0}) table inv slots (from_slots slots) _ (λ b read.
      then_good (Unit {0}) table inv slots (local inv 0 >>? types_in) _ (λ types _.
      then_good (Unit {0}) table inv slots (local inv 1 >>? owner_in) _ (λ owner given.
      let core = core_from inv slots b read in
      fits_kept (Unit {0}) table inv slots (NamedDone inv slots) (does b (Declare types owner)) _
      (done_named inv slots b (Declare types owner) core (local_owner inv slots 1 owner given))
      (λ d done. next_good (to_tell b.owner owner) d.1 (to_slots d.0)
      (told_named inv slots b.owner owner core.owner) done.0 (core_to inv slots d.0 done.1)))))

  -- telling the former owner is good
  tells_good : MayBeGood (sends inv 2 changed_owner (Obj inv.object ∷ []) 2)
  tells_good =
      sends_good (Unit {0}) table inv slots 2 changed_owner (Obj inv.object ∷ []) 2 changed_selects
      refl (λ Q T L kept all of_slots. All-cons Q (Obj inv.object) [] kept.own (All-nil Q))

  -- the step that answers what was found is good
  answered_look : (count : ℕ) (answer : Value) → Named inv slots answer
      → Good (steps inv 3 (look_sets Nil count (set 14 answer ∷ [])) inv.handler [])
  answered_look count answer named =
      on_good 3 (look_sets Nil count (set 14 answer ∷ []))
      (nil_named inv slots, (number_named inv slots (pos count), (named, tt)))

  -- the step after the first look is good
  look_good : (count : ℕ) (found : BoardData) → NamedData inv slots found
      → Good (look_next inv count found)
  look_good count (Ask owner) named =
      sets_good (Unit {0}) table inv slots sixteen 1 (look_sets (Obj owner) count []) (caught_to 2)
      (λ ready. omega arith) (named, (number_named inv slots (pos count), tt))
  look_good count (Here content) named =
      answered_look count (Text content) (text_named inv slots content)
  look_good count Absent named = answered_look count Nil (nil_named inv slots)

  -- looking is good
  looks_good : MayBeGood (looks inv slots)
  looks_good =
      then_good (Unit {0}) table inv slots (from_slots slots) _ (λ b read.
      then_good (Unit {0}) table inv slots (local inv 0 >>? text) _ (λ kind _.
      look_good b.count (data_for b kind)
      (data_named inv slots b kind (core_from inv slots b read))))

  -- asking is good
  asks_good : MayBeGood (asks inv)
  asks_good =
      then_good (Unit {0}) table inv slots (local inv 0) _ (λ kind is.
      sends_good (Unit {0}) table inv slots 1 provide (Obj inv.object ∷ kind ∷ []) 2 provide_selects
      refl (λ Q T L kept all of_slots.
      All-cons Q (Obj inv.object) (kind ∷ []) kept.own
      (All-cons Q kind [] (subst (λ o. IfSome o Q) is (get_kept Q inv.locals 0 all)) (All-nil Q))))

  -- looking again is good
  again_good : MayBeGood (looks_again inv slots)
  again_good =
      then_good (Unit {0}) table inv slots (from_slots slots) _ (λ b read.
      then_good (Unit {0}) table inv slots (local inv 0 >>? text) _ (λ kind _.
      then_good (Unit {0}) table inv slots (local inv 2 >>? number) _ (λ count _.
      on_good 3 (set 14 (found_now b kind count) ∷ []) (now_named inv slots b kind count, tt))))

  -- the step before a pasteboard is made is good
  makes_good : (b : Pasteboard) → Good (makes_next inv b)
  makes_good b =
      of_chosen Good (is_limited (boards_slot b.boards))
      (steps inv 1 (set 1 Nil ∷ []) inv.handler []) (Raise Range)
      (on_good 1 (set 1 Nil ∷ []) (nil_named inv slots, tt)) (range_good (Unit {0}) table inv slots)

  -- the step after a name was looked for is good
  name_good : (b : Pasteboard) (name : Listed ℕ) (o : Option ObjectName)
      → IfSome o (NamedObject inv slots) → Good (name_next inv b name o)
  name_good b name (Some kept) named =
      on_good 3 (set 1 (Obj kept) ∷ set 14 (Obj kept) ∷ []) (named, (named, tt))
  name_good b name None named =
      fits_good (Unit {0}) table inv slots (keeps b name inv.object) _ (λ d was. makes_good d.0)

  -- looking for a name is good
  names_good : MayBeGood (names_look inv slots)
  names_good =
      then_good (Unit {0}) table inv slots (from_slots slots) _ (λ b read.
      then_good (Unit {0}) table inv slots (local inv 0 >>? text) _ (λ name _.
      name_good b name (value_of b.boards name)
      (board_found inv slots b name (core_from inv slots b read))))

  -- the class of a method of a table is there
  class_there : (o : Option Class) (index : ℕ) → slice_get table inv.method.class.0 ≡ o
      → IsSome (option_and_then (λ (c : Class). slice_get c.methods index) o)
      → inv.method.class.0 < length table
  class_there None index is there = cc
  class_there (Some c) index is there = slice_get_within table inv.method.class.0 c is

  -- making an object of the own class is good
  new_good : Good (New inv.method.class 1 2)
  new_good = record {
    shown = record { locals = tt; objects = All-nil (Named inv slots) };
    well = λ _ ready. record {
      range = (
        class_there (class_at table inv.method.class) inv.method.index refl ready.method,
        omega arith,
      );
      limits = λ most high all. (All-nil (IsLimited most), tt);
      weights = All-nil (WeighsWithin (inv.locals ++ slots));
    };
  }

  -- keeping a pasteboard under a name is good
  keep_good : MayBeGood (names_keep inv slots)
  keep_good =
      then_good (Unit {0}) table inv slots (from_slots slots) _ (λ b read.
      then_good (Unit {0}) table inv slots (local inv 0 >>? text) _ (λ name _.
      then_good (Unit {0}) table inv slots (local inv 1 >>? object) _ (λ new given.
      fits_kept (Unit {0}) table inv slots (NamedKept inv slots) (keeps b name new) _
      (kept_named inv slots b name new (core_from inv slots b read)
      (local_object inv slots 1 new given)) (λ d done.
      keeps_good (Unit {0}) table inv slots sixteen 3 (set 14 (Obj d.1) ∷ []) inv.handler
      (to_slots d.0) (λ ready. ready.handler) (done.0, tt) (core_to inv slots d.0 done.1)))))

  -- a method that only answers is good
  asked_good : (selector : Listed ℕ) → MayBeGood (answers selector inv slots)
  asked_good selector =
      answers_good (Unit {0}) table inv slots sixteen from_slots to_slots does
      (call_in selector inv) (NamedCore inv slots) (NamedCall inv slots) (core_from inv slots)
      (call_named inv slots selector) (done_named inv slots) (core_to inv slots)

  -- each method is good
  method_good : (selector : Listed ℕ) → MayBeGood (method_act selector inv slots)
  method_good selector =
      choice_good (Unit {0}) table inv slots (bytes_eq selector (codes "declareTypes:owner:"))
      (at_place inv (declare_places inv slots)) _
      (places_good (Unit {0}) table inv slots (declare_places inv slots)
      (declares_good, (tells_good, (returns_good (Unit {0}) table inv slots, tt))))
      (choice_good (Unit {0}) table inv slots (bytes_eq selector (codes "dataForType:"))
      (at_place inv (data_places inv slots)) _
      (places_good (Unit {0}) table inv slots (data_places inv slots)
      (looks_good, (asks_good, (again_good, (returns_good (Unit {0}) table inv slots, tt)))))
      (choice_good (Unit {0}) table inv slots (bytes_eq selector (codes "pasteboardNamed:"))
      (at_place inv (name_places inv slots)) (answers selector inv slots)
      (places_good (Unit {0}) table inv slots (name_places inv slots)
      (names_good, (new_good, (keep_good, (returns_good (Unit {0}) table inv slots, tt)))))
      (asked_good selector)))

-- each act of a pasteboard is good
board_good : (table : Listed Class) (inv : Invocation) (slots : Listed Value)
    → IsGood (Unit {0}) table inv slots (pasteboard_act table inv slots)
board_good table inv slots =
    selector_good (Unit {0}) table inv slots (λ selector. method_act selector inv slots)
    (λ sixteen selector _. method_good table inv slots sixteen selector)

-- an act of a pasteboard names only what was shown
pub board_names_shown : (table : Listed Class) (inv : Invocation) (slots : Listed Value)
    → NamesShown inv slots (pasteboard_act table inv slots)
board_names_shown table inv slots = (board_good table inv slots).shown

-- a pasteboard answers well
pub board_answers_well : (table : Listed Class) (inv : Invocation) (slots : Listed Value)
    → IsReady table inv slots → AnswersWell table inv slots (pasteboard_act table inv slots)
board_answers_well table inv slots = (board_good table inv slots).well tt
