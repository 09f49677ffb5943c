-- Steps of native methods are good: their values are tested, and what is owed is the objects alone.
use Rattle.std.proofs.Common.{◌≡◌, ℕ, ◌+◌, ◌<◌, ◌≤◌, inl, Bool, true, false, ◌&&◌, List as Listed}
use Rattle.std.proofs.Common.{[], ◌∷◌, ◌++◌, length, Option, Some, map, refl, ◌∙◌, arith}
use Rattle.std.specs.{Prelude.{slice_set, nat_le, if◌then◌else◌}, List.{All, AllByRecursion}}
use Rattle.std.{specs.{List.list_all, Option.IfSome}, proofs.lemmas.Bool.{and_parts, leb-true}}
use Rattle.std.proofs.lemmas.List.{length-set, Elements.{All-nil, All-cons, All-head, All-tail}}
use Rattle.std.proofs.lemmas.List.Elements.{All-set, All-append, All-from_recursion, All-map}
use Rattle.do_base.specs.values.{Equal.value_eq, Values.weight_of}
use Rattle.do_base.specs.declared.{values.value.Value.Value, events.exception.Exc.TheVariants.Range}
use Rattle.do_class.specs.Class.{Class}
use Rattle.do_behave.specs.{Answers.{AnswersWell, NamesShown}, Changes.with_set}
use Rattle.do_behave.specs.{Limits.{IsLimited, has_small_parts, nests_within}, Parts.WeighsWithin}
use Rattle.do_behave.specs.{Ready.{IsReady, IsHandler}, declared.invocation.Handler.Handler}
use Rattle.do_behave.specs.declared.invocation.Invocation.{Invocation}
use Rattle.do_behave.specs.declared.act.{Act.TheVariants.{Step, Raise}, Write.Write}
use Rattle.do_behave.specs.{declared.change.LocalSet.LocalSet, laws.CodeSuits.All-first}
use Rattle.do_behave.specs.laws.WeightsKept.{shown_weighs}
use Rattle.do_native_acts.specs.{Limited.is_limited, Places.{does_call, in_two}, Steps.changes}
use Rattle.do_native_acts.specs.{Steps.{set, steps}, laws.{FoundLaws.of_found, GoodActs.IsGood}}
use Rattle.do_native_acts.specs.laws.GoodActs.{MayGood, fits_kept, range_good, then_good, two_good}
use Rattle.do_native_acts.specs.laws.NamedValues.{EachNamed, Named, locals_named}

-- what holds of the locals and of each new value holds of the locals once these are set
set_kept : (P : Value → Type 0) (locals : Listed Value) (sets : Listed LocalSet) → All P locals
    → All (λ s. P s.value) sets → All P (with_set locals sets)
set_kept P locals [] all new = all
set_kept P locals (s ∷ sets) all new =
    set_kept P (slice_set locals s.local s.value) sets
    (All-set P locals s.local s.value (All-head (λ (t : LocalSet). P t.value) s sets new) all)
    (All-tail (λ (t : LocalSet). P t.value) s sets new)

-- setting locals keeps how many there are
set_length : (locals : Listed Value) (sets : Listed LocalSet)
    → length (with_set locals sets) ≡ length locals
set_length locals [] = refl
set_length locals (s ∷ sets) =
    set_length (slice_set locals s.local s.value) sets ∙ length-set locals s.local s.value

-- one write more where the test fails
one_more : (R : Write → Type 0) (b : Bool) (w : Write) (ws : Listed Write) → R w → All R ws
    → All R (if b then ws else w ∷ ws)
one_more R true w ws first rest = rest
one_more R false w ws first rest = All-cons R w ws first rest

-- what holds of each new value holds of each that is written
changes_kept : (P : Value → Type 0) (at : ℕ) (old new : Listed Value) → All P new
    → All (λ (w : Write). P w.value) (changes at old new)
changes_kept P at [] new all = All-nil (λ (w : Write). P w.value)
changes_kept P at (v ∷ old) [] all = All-nil (λ (w : Write). P w.value)
changes_kept P at (v ∷ old) (w ∷ new) all =
    one_more (λ (w : Write). P w.value) (value_eq v w) (record { slot = at; value = w })
    (changes (at + 1) old new) (All-head P w new all)
    (changes_kept P (at + 1) old new (All-tail P w new all))

-- each slot that is written is there
changes_within : (at count : ℕ) (old new : Listed Value) → at + length old ≤ count
    → All (λ (w : Write). w.slot < count) (changes at old new)
changes_within at count [] new there = All-nil (λ (w : Write). w.slot < count)
changes_within at count (v ∷ old) [] there = All-nil (λ (w : Write). w.slot < count)
changes_within at count (v ∷ old) (w ∷ new) there =
    one_more (λ (w : Write). w.slot < count) (value_eq v w) (record { slot = at; value = w })
    (changes (at + 1) old new) (omega (arith, there))
    (changes_within (at + 1) count old new (omega (arith, there)))

-- a value that passes the test keeps the limits
passed_limited : (most : ℕ) → 2097152 ≤ most → (v : Value) → is_limited v ≡ true
    → IsLimited most v
passed_limited most high v is =
    let light = nat_le (weight_of v) 2097152 in
    let parts = and_parts (has_small_parts v) (nests_within v 8 && light) is in
    let others = and_parts (nests_within v 8) light parts.1 in
    record {
      parts = parts.0;
      nesting = others.0;
      weight = omega (arith, leb-true (weight_of v) 2097152 others.1, high);
    }

-- and weighs no more than one may that is made
passed_light : (shown : Listed Value) (v : Value) → is_limited v ≡ true → WeighsWithin shown v
passed_light shown v is = inl ((passed_limited 2097152 (omega arith) v is).weight)

-- what holds of values that pass the test holds of all of these, where all pass
all_passed : {A : Type 0} (value : A → Value) (P : Value → Type 0) (xs : Listed A)
    → ((v : Value) → is_limited v ≡ true → P v)
    → list_all (λ x. is_limited (value x)) xs ≡ true → All (λ x. P (value x)) xs
all_passed value P [] each all = All-nil (λ x. P (value x))
all_passed value P (x ∷ xs) each all =
    let parts =
    and_parts (is_limited (value x)) (list_all (λ y. is_limited (value y)) xs) all in
    All-cons (λ y. P (value y)) x xs (each (value x) parts.0)
    (all_passed value P xs each parts.1)

-- each value that is set may be named
abbrev pub SetsNamed : Invocation → Listed Value → Listed LocalSet → Type 0
SetsNamed inv slots sets = AllByRecursion (λ (s : LocalSet). Named inv slots s.value) sets

module _ (made : Type 0) (table : Listed Class) (inv : Invocation) (slots : Listed Value) where
  -- what holds of each value that is set
  abbrev SetAll : (Value → Type 0) → Listed LocalSet → Type 0
  SetAll P sets = All (λ (s : LocalSet). P s.value) sets

  -- what holds of each value that is written
  abbrev WrittenAll : (Value → Type 0) → Listed Write → Type 0
  WrittenAll P writes = All (λ (w : Write). P w.value) writes

  -- each slot is there
  abbrev pub AreSlots : Listed Write → Type 0
  AreSlots writes = All (λ (w : Write). w.slot < length slots) writes

  -- what holds of the locals and of each new value holds of the values of a step
  step_values : (P : Value → Type 0) (sets : Listed LocalSet) (writes : Listed Write)
      → All P inv.locals → SetAll P sets → WrittenAll P writes
      → All P (with_set inv.locals sets ++ map (λ (w : Write). w.value) writes)
  step_values P sets writes all set written =
      All-append P (with_set inv.locals sets) (map (λ (w : Write). w.value) writes)
      (set_kept P inv.locals sets all set)
      (All-map P (λ (w : Write). w.value) writes written)

  module _ (sixteen : length inv.locals ≡ 16) (to : ℕ) (sets : Listed LocalSet)
      (handler : Option Handler) (writes : Listed Write)
      (small_sets : list_all (λ (s : LocalSet). is_limited s.value) sets ≡ true)
      (small_writes : list_all (λ (w : Write). is_limited w.value) writes ≡ true) where
    -- what holds of all that was shown and of values that pass holds of the values of a step
    passed : (P : Value → Type 0) → ((v : Value) → is_limited v ≡ true → P v)
        → All P (inv.locals ++ slots)
        → All P (with_set inv.locals sets ++ map (λ (w : Write). w.value) writes)
    passed P each all =
        step_values P sets writes (All-first P inv.locals slots all)
        (all_passed (λ (s : LocalSet). s.value) P sets each small_sets)
        (all_passed (λ (w : Write). w.value) P writes each small_writes)

    -- a step whose new values may be named names only what was shown
    step_shown : SetAll (Named inv slots) sets → WrittenAll (Named inv slots) writes
        → NamesShown inv slots (Step to (with_set inv.locals sets) handler writes)
    step_shown set written = record {
      locals = set_length inv.locals sets ∙ sixteen;
      objects = step_values (Named inv slots) sets writes (locals_named inv slots) set written;
    }

    -- a step whose new values pass answers well
    step_well : IsHandler handler → AreSlots writes
        → AnswersWell table inv slots (Step to (with_set inv.locals sets) handler writes)
    step_well handled within = record {
      range = (set_length inv.locals sets ∙ sixteen, handled, within);
      limits = λ most high all. (passed (IsLimited most) (passed_limited most high) all, tt);
      weights =
          passed (WeighsWithin (inv.locals ++ slots)) (passed_light (inv.locals ++ slots))
          (shown_weighs (inv.locals ++ slots));
    }

  -- A step is good whose handler and slots are there, and whose new values name only what was
  -- shown. The limits it keeps by itself.
  pub steps_good : length inv.locals ≡ 16 → (to : ℕ) (sets : Listed LocalSet)
      (handler : Option Handler) (writes : Listed Write)
      → (IsReady table inv slots → IsHandler handler) → AreSlots writes
      → All (λ (s : LocalSet). Named inv slots s.value) sets
      → All (λ (w : Write). Named inv slots w.value) writes
      → IsGood made table inv slots (steps inv to sets handler writes)
  steps_good sixteen to sets handler writes handled within set written =
      choose (list_all (λ s. is_limited s.value) sets) (list_all (λ w. is_limited w.value) writes)
      refl refl
    where
      choose : (a b : Bool) → list_all (λ (s : LocalSet). is_limited s.value) sets ≡ a
          → list_all (λ (w : Write). is_limited w.value) writes ≡ b
          → IsGood made table inv slots
          (if a && b then Step to (with_set inv.locals sets) handler writes else Raise Range)
      choose true true small_sets small_writes = record {
        shown = step_shown sixteen to sets handler writes small_sets small_writes set written;
        well = λ _ ready. step_well sixteen to sets handler writes small_sets small_writes
            (handled ready) within;
      }
      choose true false _ _ = range_good made table inv slots
      choose false b _ _ = range_good made table inv slots

  -- the same of the slots that change
  pub stores_good : length inv.locals ≡ 16 → (to : ℕ) (sets : Listed LocalSet)
      (handler : Option Handler) (new : Listed Value)
      → (IsReady table inv slots → IsHandler handler)
      → All (λ (s : LocalSet). Named inv slots s.value) sets → All (Named inv slots) new
      → IsGood made table inv slots (steps inv to sets handler (changes 0 slots new))
  stores_good sixteen to sets handler new handled set named =
      steps_good sixteen to sets handler (changes 0 slots new) handled
      (changes_within 0 (length slots) slots new (omega arith)) set
      (changes_kept (Named inv slots) 0 slots new named)

  -- a step that sets locals alone is good
  pub sets_good : length inv.locals ≡ 16 → (to : ℕ) (sets : Listed LocalSet)
      (handler : Option Handler) → (IsReady table inv slots → IsHandler handler)
      → SetsNamed inv slots sets → IsGood made table inv slots (steps inv to sets handler [])
  sets_good sixteen to sets handler handled named =
      steps_good sixteen to sets handler [] handled
      (All-nil (λ (w : Write). w.slot < length slots))
      (All-from_recursion (λ (s : LocalSet). Named inv slots s.value) sets named)
      (All-nil (λ (w : Write). Named inv slots w.value))

  -- and so is one that keeps the slots of a core
  pub keeps_good : length inv.locals ≡ 16 → (to : ℕ) (sets : Listed LocalSet)
      (handler : Option Handler) (new : Listed Value)
      → (IsReady table inv slots → IsHandler handler) → SetsNamed inv slots sets
      → EachNamed inv slots new
      → IsGood made table inv slots (steps inv to sets handler (changes 0 slots new))
  keeps_good sixteen to sets handler new handled set named =
      stores_good sixteen to sets handler new handled
      (All-from_recursion (λ (s : LocalSet). Named inv slots s.value) sets set)
      (All-from_recursion (Named inv slots) new named)

  -- A method that only answers is good, where the core that is read, the call, what it leaves and
  -- its answer may be named, and so may the slots of such a core.
  pub answers_good : length inv.locals ≡ 16 → {Core Call : Type 0}
      (from : Listed Value → Option Core) (to : Core → Listed Value)
      (does : Core → Call → Option (Core × Value)) (call : Option Call)
      (NamedCore : Core → Type 0) (NamedCall : Call → Type 0)
      → ((core : Core) → from slots ≡ Some core → NamedCore core) → IfSome call NamedCall
      → ((core : Core) (asked : Call) → NamedCore core → NamedCall asked
      → IfSome (does core asked) (λ done. Named inv slots done.1 × NamedCore done.0))
      → ((core : Core) → NamedCore core → EachNamed inv slots (to core))
      → MayGood made table inv slots (in_two inv (does_call from to does call inv slots))
  answers_good sixteen from to does call NamedCore NamedCall read asks done shows =
      two_good made table inv slots (does_call from to does call inv slots)
      (then_good made table inv slots (from slots) _ (λ core is.
      then_good made table inv slots call _ (λ asked found.
      fits_kept made table inv slots (λ d. Named inv slots d.1 × NamedCore d.0) (does core asked) _
      (done core asked (read core is) (of_found NamedCall call asked found asks)) (λ d kept.
      keeps_good sixteen 1 (set 14 d.1 ∷ []) inv.handler (to d.0) (λ ready. ready.handler)
      (kept.0, tt) (shows d.0 kept.1)))))
