-- A notification centre names only what was shown, and answers well.
use Rattle.std.proofs.Common.{◌≡◌, ℕ, ◌+◌, ◌*◌, ◌==◌, true, List as Listed, [], ◌∷◌, Option, Some}
use Rattle.std.proofs.Common.{refl, sym, subst, arith, length}
use Rattle.std.specs.{Prelude.{◌-◌, ◌/◌, ◌%◌, slice_get, nat_le}, List.All, Option.IfSome}
use Rattle.std.proofs.lemmas.Bool.{and_parts, eqb-true}
use Rattle.std.proofs.lemmas.List.Elements.{All-nil, All-cons, All-head, All-tail}
use Rattle.do_base.specs.{values.Kinds.items, declared.values.value.Value.Value}
use Rattle.do_class.specs.Class.{Class}
use Rattle.do_grammar.specs.{Names.{is_selector, colons}, Words.◌>>?◌}
use Rattle.do_script.specs.Listing.{IsLocal}
use Rattle.do_behave.specs.{Answers.{AnswersWell, NamesShown}, Ready.IsReady, Steps.local}
use Rattle.do_behave.specs.declared.{invocation.Invocation.Invocation, act.Act.Act}
use Rattle.do_behave.specs.{declared.act.Act.TheVariants.Send, laws.Sound.{IsKept, get_kept}}
use Rattle.do_native_acts.specs.{Places.returns, Steps.steps, laws.FoundLaws.of_found}
use Rattle.do_native_acts.specs.laws.GoodActs.{IsGood, MayGood, choice_good, fits_kept, kept_good}
use Rattle.do_native_acts.specs.laws.GoodActs.{returns_good, selector_good, then_good, type_good}
use Rattle.do_native_acts.specs.laws.GoodSteps.{keeps_good, sets_good}
use Rattle.do_native_acts.specs.laws.KindLaws.{found_of, items_read, passed}
use Rattle.do_center.specs.Acts.{act_of, call_in, center_act, delivering, delivers, delivery_at}
use Rattle.do_center.specs.Acts.{few, first, found, keeps, kept, kept_in, later, method_act}
use Rattle.do_center.specs.{Acts.{method_of, of_five, readies}, Calls.does}
use Rattle.do_center.specs.{Registrations.{selector_in, takes_three}, Slots.{from_slots, to_slots}}
use Rattle.do_center.specs.{declared.methods.Method.Method, laws.CallsRead.selector_read}
use Rattle.do_center.specs.laws.NamedParts.{core_from, core_to, kept_named}
use Rattle.do_center.specs.laws.NamedCalls.{NamedCall, NamedDone, call_named, done_named}

-- local 13 is a local, three times
aside_locals : All IsLocal (13 ∷ 13 ∷ 13 ∷ [])
aside_locals =
    All-cons IsLocal 13 (13 ∷ 13 ∷ []) (omega arith)
    (All-cons IsLocal 13 (13 ∷ []) (omega arith)
    (All-cons IsLocal 13 [] (omega arith) (All-nil IsLocal)))

module _ (table : Listed Class) (inv : Invocation) (slots : Listed Value)
    (sixteen : length inv.locals ≡ 16) where
  -- a good act of a centre
  abbrev Good : Act → Type 0
  Good act = IsGood (Unit {0}) table inv slots act

  -- a good act, or a fault of type
  abbrev MayBeGood : Option Act → Type 0
  MayBeGood o = MayGood (Unit {0}) table inv slots o

  -- the first act is good
  first_good : (m : Method) → MayBeGood (first m inv slots)
  first_good m =
      then_good (Unit {0}) table inv slots (from_slots slots) _ (λ core read.
      then_good (Unit {0}) table inv slots (call_in m inv) _ (λ call asked.
      fits_kept (Unit {0}) table inv slots (NamedDone inv slots) (does core call)
      (keeps m inv slots)
      (done_named inv slots core call (core_from inv slots core read)
      (of_found (NamedCall inv slots) (call_in m inv) call asked (call_named inv slots m)))
      (λ done named. keeps_good (Unit {0}) table inv slots sixteen 1 (kept m done.1) inv.handler
      (to_slots done.0) (λ ready. ready.handler) (kept_named inv slots m done.1 named.1)
      (core_to inv slots done.0 named.0))))

  -- what five parts lead to is good where that of any five is
  five_good : (f : Value → Value → Value → Value → Value → Option Act) (parts : Listed Value)
      → ((a b c d e : Value) → parts ≡ a ∷ b ∷ c ∷ d ∷ e ∷ [] → MayBeGood (f a b c d e))
      → MayBeGood (of_five f parts)
  five_good f [] each = type_good (Unit {0}) table inv slots
  five_good f (a ∷ []) each = type_good (Unit {0}) table inv slots
  five_good f (a ∷ b ∷ []) each = type_good (Unit {0}) table inv slots
  five_good f (a ∷ b ∷ c ∷ []) each = type_good (Unit {0}) table inv slots
  five_good f (a ∷ b ∷ c ∷ d ∷ []) each = type_good (Unit {0}) table inv slots
  five_good f (a ∷ b ∷ c ∷ d ∷ e ∷ []) each = each a b c d e refl
  five_good f (a ∷ b ∷ c ∷ d ∷ e ∷ g ∷ more) each = type_good (Unit {0}) table inv slots

  -- the step before a delivery is good
  readies_good : (parts : Listed Value) → MayBeGood (readies inv parts)
  readies_good parts =
      five_good (λ a b c d e.
      Some (steps inv (inv.pc + 1) [] (Some (record { into = 15; pc = inv.pc + 2 })) [])) parts
      (λ a b c d e is.
      sets_good (Unit {0}) table inv slots sixteen (inv.pc + 1) []
      (Some (record { into = 15; pc = inv.pc + 2 })) (λ ready. omega arith) tt)

  -- values that are kept where those of the locals are
  abbrev AreShown : Listed Value → Type 1
  AreShown vs = (Q : Value → Type 0) (T L : Listed ℕ → Type 0) → IsKept inv Q T L
      → All Q inv.locals → All Q vs

  -- the items of a list that a value is are kept where the value is
  items_kept : (Q : Value → Type 0) (T L : Listed ℕ → Type 0) → IsKept inv Q T L → (v : Value)
      (vs : Listed Value) → items v ≡ Some vs → Q v → All Q vs
  items_kept Q T L is_kept v vs read q =
      is_kept.items vs (subst Q (sym (items_read v vs read)) q)

  -- what is found at a place of values that are shown is shown
  parts_shown : (ds parts : Listed Value) (k : ℕ) → AreShown ds
      → delivery_at ds k ≡ Some parts → AreShown parts
  parts_shown ds parts k all is Q T L is_kept locals =
      let d = found_of (slice_get ds k) items parts is in
      items_kept Q T L is_kept d.0 parts d.2
      (subst (λ o. IfSome o Q) d.1 (get_kept Q ds k (all Q T L is_kept locals)))

  -- what a local keeps is shown
  found_shown : (m : Method) (ds : Listed Value) → found m inv ≡ Some ds → AreShown ds
  found_shown m ds is Q T L is_kept locals =
      let all = found_of (local inv (kept_in m) >>? items) few ds is in
      let v = found_of (local inv (kept_in m)) items all.0 all.1 in
      subst (All Q) ((passed all.0 ds (λ xs. nat_le (length xs) 1024)
      (nat_le (length all.0) 1024) refl all.2).0)
      (items_kept Q T L is_kept v.0 all.0 v.2
      (subst (λ o. IfSome o Q) v.1 (get_kept Q inv.locals (kept_in m) locals)))

  -- the message of a delivery that is shown is good
  sent_good : (a b c d e : Value) (s : Listed ℕ) → AreShown (a ∷ b ∷ c ∷ d ∷ e ∷ [])
      → takes_three s ≡ true
      → Good (Send a s (c ∷ d ∷ e ∷ []) 13 (13 ∷ 13 ∷ 13 ∷ []) (inv.pc + 1))
  sent_good a b c d e s shown three =
      let tests = and_parts (is_selector s) (colons s == 3) three in
      let count = sym (eqb-true (colons s) 3 tests.1) in
      kept_good (Unit {0}) table inv slots
      (Send a s (c ∷ d ∷ e ∷ []) 13 (13 ∷ 13 ∷ 13 ∷ []) (inv.pc + 1))
      (λ Q T L R is_made is_kept locals of_slots.
      let all = shown Q T L is_kept locals in
      record {
        values =
            All-cons Q a (c ∷ d ∷ e ∷ []) (All-head Q a (b ∷ c ∷ d ∷ e ∷ []) all)
            (All-tail Q b (c ∷ d ∷ e ∷ []) (All-tail Q a (b ∷ c ∷ d ∷ e ∷ []) all));
        locals = tt;
        range = λ _. (tests.0, count, count, omega arith, aside_locals);
        raises = tt;
      })

  -- and so is that of parts that are shown
  delivers_good : (parts : Listed Value) → AreShown parts → MayBeGood (delivers inv parts)
  delivers_good parts shown =
      five_good (λ a b c d e. selector_in b >>? λ s.
      Some (Send a s (c ∷ d ∷ e ∷ []) 13 (13 ∷ 13 ∷ 13 ∷ []) (inv.pc + 1))) parts
      (λ a b c d e is. then_good (Unit {0}) table inv slots (selector_in b) _ (λ s read.
      sent_good a b c d e s (subst AreShown is shown) (selector_read b s read)))

  -- each act of deliveries that are shown is good
  delivering_good : (ds : Listed Value) (place : ℕ) → AreShown ds
      → MayBeGood (delivering inv ds place)
  delivering_good ds place shown =
      choice_good (Unit {0}) table inv slots (place == 2 * length ds) (returns inv) _
      (returns_good (Unit {0}) table inv slots)
      (then_good (Unit {0}) table inv slots (delivery_at ds (place / 2)) _ (λ parts is.
      choice_good (Unit {0}) table inv slots (place % 2 == 0) (readies inv parts)
      (delivers inv parts) (readies_good parts)
      (delivers_good parts (parts_shown ds parts (place / 2) shown is))))

  -- each act of a method is good
  act_good : (m : Method) → MayBeGood (act_of m inv slots)
  act_good m =
      choice_good (Unit {0}) table inv slots (inv.pc == 0) (first m inv slots)
      (later m inv (inv.pc - 1)) (first_good m)
      (then_good (Unit {0}) table inv slots (found m inv) _ (λ ds is.
      delivering_good ds (inv.pc - 1) (found_shown m ds is)))

-- each act of a centre is good
center_good : (table : Listed Class) (inv : Invocation) (slots : Listed Value)
    → IsGood (Unit {0}) table inv slots (center_act table inv slots)
center_good table inv slots =
    selector_good (Unit {0}) table inv slots (λ selector. method_act selector inv slots)
    (λ sixteen selector _.
    then_good (Unit {0}) table inv slots (method_of selector) _ (λ m _.
    act_good table inv slots sixteen m))

-- an act of a centre names only what was shown
pub center_names_shown : (table : Listed Class) (inv : Invocation) (slots : Listed Value)
    → NamesShown inv slots (center_act table inv slots)
center_names_shown table inv slots = (center_good table inv slots).shown

-- a centre answers well
pub center_answers_well : (table : Listed Class) (inv : Invocation) (slots : Listed Value)
    → IsReady table inv slots → AnswersWell table inv slots (center_act table inv slots)
center_answers_well table inv slots = (center_good table inv slots).well tt
