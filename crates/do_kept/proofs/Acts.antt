-- Acts of native methods whose values can be carried.
use Rattle.std.proofs.Common.{◌≡◌, ◌==◌, ◌&&◌, ◌+◌, ◌<◌, ℕ, Bool, true, false, cond, List as Listed}
use Rattle.std.{proofs.Common.{[], ◌∷◌, length, map, refl, ◌∙◌}, specs.Prelude.{None, Option, Some}}
use Rattle.std.specs.Prelude.{option_and_then, option_map, slice_get, slice_index_or, slice_set}
use Rattle.std.specs.{Prelude.{suc, zero}, List.{AllByRecursion, list_all}, Option.IfSome}
use Rattle.std.proofs.lemmas.{Bool.and_parts, List.length-set, Option.slice_get_within}
use Rattle.do_base.specs.{values.Equal.value_eq, declared.events.exception.Exc.Exc}
use Rattle.do_base.specs.declared.events.exception.Exc.TheVariants.{Range, TypeFault}
use Rattle.do_base.specs.declared.values.value.Value.{Value}
use Rattle.do_class.specs.{Class.Class, Table.selector_of, declared.ids.MethodId.MethodId}
use Rattle.do_class.specs.declared.method.Method.{Method}
use Rattle.do_grammar.specs.Words.{◌>>?◌}
use Rattle.do_behave.specs.{Changes.with_set, Steps.{local, or_fault}, declared.act.Act.Act}
use Rattle.do_behave.specs.declared.act.{Act.TheVariants.{Raise, Return, Send, Step}, Write.Write}
use Rattle.do_behave.specs.declared.{change.LocalSet.LocalSet, invocation.Handler.Handler}
use Rattle.do_behave.specs.declared.invocation.Invocation.{Invocation}
use Rattle.do_native_acts.specs.{Limited.is_limited, Places.{aside, at_place, by_selector}}
use Rattle.do_native_acts.specs.Places.{does_call, in_two, returns, selector_in, sends}
use Rattle.do_native_acts.specs.Steps.{answered, changes, fits, set, steps}
use Rattle.do_facts.proofs.EachOfLists.{each_joined, each_mapped, each_set, each_weaker}
use Rattle.do_limits.specs.Sendable.{AreSendable, IsOfTable, IsSendable, IsSendableExc}
use Rattle.do_limits.specs.SendableActs.{ActIsSendable}
use Rattle.do_limits.proofs.{runs.Verdicts.textless, scripts.Locals.value_at}
use Rattle.do_kept.proofs.Limited.{AllHaveAtoms, HasAtoms, limited_sendable}

-- a value that can be carried where it passes the test of native acts
abbrev pub IsSendableIfLimited : Value → Type 0
IsSendableIfLimited v = is_limited v ≡ true → IsSendable v

-- ---- lists of values

-- locals once others are set
set_kept : (sets : Listed LocalSet) (locals : Listed Value) → AreSendable locals →
    AllByRecursion (λ (s : LocalSet). IsSendable s.value) sets → AreSendable (with_set locals sets)
set_kept [] locals all new = all
set_kept (s ∷ sets) locals all new =
    set_kept sets (slice_set locals s.local s.value)
    (each_set IsSendable locals s.local s.value new.0 all) new.1

-- they stay as many
set_length : (sets : Listed LocalSet) (locals : Listed Value) →
    length (with_set locals sets) ≡ length locals
set_length [] locals = refl
set_length (s ∷ sets) locals =
    set_length sets (slice_set locals s.local s.value) ∙ length-set locals s.local s.value

-- those that pass the test can be carried
all_passed : {A : Type 0} (value : A → Value) (xs : Listed A) →
    AllByRecursion (λ x. IsSendableIfLimited (value x)) xs →
    list_all (λ x. is_limited (value x)) xs ≡ true → AllByRecursion (λ x. IsSendable (value x)) xs
all_passed value [] h e = tt
all_passed value (x ∷ xs) h e =
    let parts = and_parts (is_limited (value x)) _ e in
    (h.0 parts.0, all_passed value xs h.1 parts.1)

-- what holds of each new value holds of each that is written
pub changes_kept : (P : Value → Type 0) (at : ℕ) (old new : Listed Value) → AllByRecursion P new →
    AllByRecursion (λ (w : Write). P w.value) (changes at old new)
changes_kept P at [] new h = tt
changes_kept P at (v ∷ old) [] h = tt
changes_kept P at (v ∷ old) (w ∷ new) h =
    go (value_eq v w) (changes_kept P (at + 1) old new h.1)
  where
    go : (b : Bool) → AllByRecursion (λ (x : Write). P x.value) (changes (at + 1) old new) →
        AllByRecursion (λ (x : Write). P x.value) (cond b (changes (at + 1) old new)
        (record { slot = at; value = w } ∷ changes (at + 1) old new))
    go true rest = rest
    go false rest = (h.0, rest)

-- ---- classes

-- the class of a method that is there is one of the table
pub class_there : (table : Listed Class) (method : MethodId) (selector : Listed ℕ) →
    selector_of table method ≡ Some selector → IsOfTable table method.class
class_there table method selector is = by (slice_get table method.class.0) refl is
  where
    by : (o : Option Class) → slice_get table method.class.0 ≡ o →
        option_map (λ (m : Method). m.selector)
        (option_and_then (λ (c : Class). slice_get c.methods method.index) o) ≡ Some selector →
        method.class.0 < length table
    by None at e = cc
    by (Some c) at e = slice_get_within table method.class.0 c at

-- ---- acts

module _ (table : Listed Class) (inv : Invocation) (all : AreSendable inv.locals)
    (sixteen : length inv.locals ≡ 16) where
  -- an act with such values
  abbrev pub Sound : Act → Type 0
  Sound act = ActIsSendable table act

  -- an act, or the fault of type where there is none
  abbrev pub MaySound : Option Act → Type 0
  MaySound o = Sound (or_fault o)

  -- a fault
  pub fault : (e : Exc) → IsSendableExc e → Sound (Raise e)
  fault e h = (tt, (tt, (tt, h)))

  -- a fault of type
  pub type_fault : MaySound None
  type_fault = fault TypeFault (textless TypeFault refl)

  -- a fault of range
  pub range_fault : Sound (Raise Range)
  range_fault = fault Range (textless Range refl)

  -- what is found leads to such an act
  pub then_sound : {A : Type 0} (P : A → Type 0) (o : Option A) (f : A → Option Act) →
      IfSome o P → ((x : A) → P x → MaySound (f x)) → MaySound (o >>? f)
  then_sound P None f q each = type_fault
  then_sound P (Some x) f q each = each x q

  -- and so does whatever is found
  pub whatever_sound : {A : Type 0} (o : Option A) (f : A → Option Act) →
      ((x : A) → MaySound (f x)) → MaySound (o >>? f)
  whatever_sound None f each = type_fault
  whatever_sound (Some x) f each = each x

  -- of two acts one
  pub one_sound : (b : Bool) (x y : Option Act) → MaySound x → MaySound y → MaySound (cond b x y)
  one_sound true x y h k = h
  one_sound false x y h k = k

  -- what a local holds leads to such an act
  pub local_sound : (k : ℕ) (f : Value → Option Act) →
      ((v : Value) → IsSendable v → MaySound (f v)) → MaySound (local inv k >>? f)
  local_sound k f each = then_sound IsSendable (local inv k) f (value_at inv.locals k all) each

  -- the answer is returned
  pub returns_sound : MaySound (returns inv)
  returns_sound = local_sound 14 (λ v. Some (Return v)) (λ v h. ((h, tt), (tt, (tt, tt))))

  -- a method of two places
  pub two_sound : (first : Option Act) → MaySound first → MaySound (in_two inv first)
  two_sound first h =
      one_sound (inv.pc == 0) first (cond (inv.pc == 1) (returns inv) None) h
      (one_sound (inv.pc == 1) (returns inv) None returns_sound type_fault)

  -- each of these
  abbrev pub AreSound : Listed (Option Act) → Type 0
  AreSound places = AllByRecursion MaySound places

  -- a method by its places
  pub places_sound : (places : Listed (Option Act)) → AreSound places →
      MaySound (at_place inv places)
  places_sound places h = go places inv.pc h
    where
      go : (places : Listed (Option Act)) (k : ℕ) → AreSound places →
          MaySound (slice_index_or places k None)
      go [] k h = type_fault
      go (o ∷ rest) zero h = h.0
      go (o ∷ rest) (suc k) h = go rest k h.1

  -- the act of each selector
  pub selector_sound : (does : Listed ℕ → Option Act) →
      ((selector : Listed ℕ) → MaySound (does selector)) → Sound (by_selector table inv does)
  selector_sound does each = whatever_sound (selector_in table inv) does each

  -- the act of each selector of a method that is there
  pub known_sound : (does : Listed ℕ → Option Act) →
      ((selector : Listed ℕ) → selector_of table inv.method ≡ Some selector →
      MaySound (does selector)) → Sound (by_selector table inv does)
  known_sound does each = by (length inv.locals == 16) (selector_of table inv.method) refl
    where
      by : (b : Bool) (o : Option (Listed ℕ)) → selector_of table inv.method ≡ o →
          MaySound (cond b o None >>? does)
      by true None is = type_fault
      by true (Some selector) is = each selector is
      by false o is = type_fault

  -- a step, whose new values are tested
  pub step_sound : (to : ℕ) (sets : Listed LocalSet) (handler : Option Handler)
      (writes : Listed Write) →
      AllByRecursion (λ (s : LocalSet). IsSendableIfLimited s.value) sets →
      AllByRecursion (λ (w : Write). IsSendableIfLimited w.value) writes →
      Sound (steps inv to sets handler writes)
  step_sound to sets handler writes set written =
      go (list_all (λ (s : LocalSet). is_limited s.value) sets)
      (list_all (λ (w : Write). is_limited w.value) writes)
      (all_passed (λ (s : LocalSet). s.value) sets set)
      (all_passed (λ (w : Write). w.value) writes written)
    where
      go : (a b : Bool) →
          (a ≡ true → AllByRecursion (λ (s : LocalSet). IsSendable s.value) sets) →
          (b ≡ true → AllByRecursion (λ (w : Write). IsSendable w.value) writes) →
          Sound (cond (a && b) (Step to (with_set inv.locals sets) handler writes) (Raise Range))
      go true true h k = (
        each_joined IsSendable (with_set inv.locals sets) (map (λ (w : Write). w.value) writes)
            (set_kept sets inv.locals all (h refl))
            (each_mapped IsSendable (λ (w : Write). w.value) writes (k refl)),
        (set_length sets inv.locals ∙ sixteen, (tt, tt)),
      )
      go true false h k = range_fault
      go false b h k = range_fault

  -- what is done leads to such an act
  pub fits_sound : {A : Type 0} (P : A → Type 0) (o : Option A) (f : A → Act) → IfSome o P →
      ((x : A) → P x → Sound (f x)) → Sound (fits o f)
  fits_sound P None f q each = range_fault
  fits_sound P (Some x) f q each = each x q

  -- a step that sets such values
  pub sets_sound : (to : ℕ) (sets : Listed LocalSet) (handler : Option Handler) →
      AllByRecursion (λ (s : LocalSet). HasAtoms s.value) sets →
      Sound (steps inv to sets handler [])
  sets_sound to sets handler new =
      step_sound to sets handler []
      (each_weaker (λ (s : LocalSet). HasAtoms s.value)
      (λ (s : LocalSet). IsSendableIfLimited s.value) (λ s. limited_sendable s.value) sets new) tt

  -- a step that also keeps slots
  pub keeps_sound : (to : ℕ) (sets : Listed LocalSet) (handler : Option Handler)
      (slots new : Listed Value) → AllByRecursion (λ (s : LocalSet). HasAtoms s.value) sets →
      AllHaveAtoms new → Sound (steps inv to sets handler (changes 0 slots new))
  keeps_sound to sets handler slots new set kept =
      step_sound to sets handler (changes 0 slots new)
      (each_weaker (λ (s : LocalSet). HasAtoms s.value)
      (λ (s : LocalSet). IsSendableIfLimited s.value) (λ s. limited_sendable s.value) sets set)
      (changes_kept IsSendableIfLimited 0 slots new
      (each_weaker HasAtoms IsSendableIfLimited limited_sendable new kept))

  -- a message to what a local holds
  pub sends_sound : (target : ℕ) (selector : Listed ℕ) (args : Listed Value) (to : ℕ) →
      AreSendable args → MaySound (sends inv target selector args to)
  sends_sound target selector args to h =
      local_sound target (λ v. Some (Send v selector args 13 (aside args) to))
      (λ v k. ((k, h), (tt, (tt, tt))))

  -- a method that only answers
  pub answers_sound : {Core Call : Type 0} (from : Listed Value → Option Core)
      (to : Core → Listed Value) (does : Core → Call → Option (Core × Value)) (call : Option Call)
      (slots : Listed Value) (KeptCore : Core → Type 0) (KeptCall : Call → Type 0) →
      IfSome (from slots) KeptCore → IfSome call KeptCall →
      ((core : Core) (asked : Call) → KeptCore core → KeptCall asked →
      IfSome (does core asked) (λ (d : Core × Value). KeptCore d.0 × HasAtoms d.1)) →
      ((core : Core) → KeptCore core → AllHaveAtoms (to core)) →
      MaySound (in_two inv (does_call from to does call inv slots))
  answers_sound {Core} {Call} from to does call slots KeptCore KeptCall read asks done shows =
      two_sound (does_call from to does call inv slots)
      (then_sound KeptCore (from slots)
      (λ core. call >>? λ asked.
      Some (fits (does core asked) (λ d. answered inv d.1 (changes 0 slots (to d.0))))) read
      (λ core h. then_sound KeptCall call
      (λ asked. Some (fits (does core asked) (λ d. answered inv d.1 (changes 0 slots (to d.0)))))
      asks
      (λ asked k. fits_sound (λ (d : Core × Value). KeptCore d.0 × HasAtoms d.1) (does core asked)
      (λ d. answered inv d.1 (changes 0 slots (to d.0))) (done core asked h k)
      (λ d q. keeps_sound 1 (set 14 d.1 ∷ []) inv.handler slots (to d.0) (q.1, tt)
      (shows d.0 q.0)))))
