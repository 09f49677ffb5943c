-- Servers of services keep what can be carried.
use Rattle.do_kept.proofs.Acts as acts
use Rattle.std.proofs.Common.{◌≡◌, ◌++◌, ℕ, Bool, true, false, cond, List as Listed, [], ◌∷◌}
use Rattle.std.proofs.Common.{length, map, refl, sym, subst, arith, ◌∙◌}
use Rattle.std.specs.Prelude.{None, Option, Some, codes, nat_lt, option_map, pos}
use Rattle.std.specs.{List.AllByRecursion, Map.keys_of, Option.IfSome, Str.bytes_eq}
use Rattle.do_base.specs.{values.Kinds.{is_nil, text}, declared.values.value.Value.Value}
use Rattle.do_base.specs.declared.values.value.Value.TheVariants.{Nil, Num, Text}
use Rattle.do_class.specs.Class.{Class}
use Rattle.do_grammar.specs.Words.{◌>>?◌}
use Rattle.do_behave.specs.{Numbers.truth, Steps.local, declared.act.Act.Act}
use Rattle.do_behave.specs.declared.{act.Act.TheVariants.{Root, Send}, change.LocalSet.LocalSet}
use Rattle.do_behave.specs.declared.invocation.Invocation.{Invocation}
use Rattle.do_native_acts.specs.{Owners.owner_in, Places.at_place, Rows.rows_in}
use Rattle.do_native_acts.specs.Steps.{caught_to, set}
use Rattle.do_table.specs.Entries.{value_of}
use Rattle.do_services.specs.Acts.{answers, asks_provider, asks_root, asks_type, has_type, keeps_on}
use Rattle.do_services.specs.Acts.{kept_service, method_act, perform_next, perform_places, performs}
use Rattle.do_services.specs.Acts.{provider_message, services_act, was_performed, was_raised}
use Rattle.do_services.specs.Calls.{as_number, call_in, does, row_or_nil}
use Rattle.do_services.specs.Core.{Entry, add_at, are_services, from_slots, keyed, of_core, row}
use Rattle.do_services.specs.Core.{service_in, texts_value, to_slots, with_service, without}
use Rattle.do_services.specs.declared.calls.Call.{Call, TheVariants.{Add, Items, Named, Remove}}
use Rattle.do_services.specs.{declared.service.Service.Service, laws.SlotsExact.service_back}
use Rattle.do_facts.proofs.EachOfLists.{each_joined, each_mapped, each_weaker}
use Rattle.do_limits.specs.{Sendable.{AreSendable, IsSendable}, SendableActs.KeepsSendable}
use Rattle.do_limits.proofs.scripts.{Locals.value_at, MadeLists.items_sendable}
use Rattle.do_limits.proofs.values.Carried.{carry-Nil}
use Rattle.do_kept.proofs.Limited.{AllHaveAtoms, HasAtoms, atoms-Nil, atoms-Text, count_atoms}
use Rattle.do_kept.proofs.Limited.{list_atoms, listed_atoms, parts_atoms, sendable_atoms}
use Rattle.do_kept.proofs.Limited.{truth_atoms}
use Rattle.do_kept.proofs.ReadValues.{AreOfBytes, IsOfBytes, if_passed, if_then, rows_are, text_is}
use Rattle.do_kept.proofs.Tables.{removed_are, texts_atoms, value_is}

-- ---- services

-- a service whose row can be carried
abbrev IsSendableService : Service → Type 0
IsSendableService s = IsSendable (row s)

-- a service whose row has atoms
abbrev IsService : Service → Type 0
IsService s = HasAtoms (row s)

-- the items of the list that a service is
abbrev parts : Service → Listed Value
parts s =
    Text s.item ∷ Text s.message ∷ Num (pos s.port) ∷ texts_value s.send ∷ texts_value s.returned
    ∷ s.user ∷ []

-- a service under an item of bytes
abbrev IsEntry : Entry → Type 0
IsEntry e = IsOfBytes e.0 × IsService e.1

-- each of these
abbrev AreEntries : Listed Entry → Type 0
AreEntries es = AllByRecursion IsEntry es

-- a service stands under its item
keyed_is : (s : Service) → IsService s → IsEntry (keyed s)
keyed_is s h = (sym (atoms-Text s.item) ∙ (parts_atoms (parts s) h).0, h)

-- the service that a value is
service_is : (v : Value) → IsSendable v → IfSome (service_in v) IsSendableService
service_is v h = go (service_in v) (service_back v)
  where
    go : (o : Option Service) → ((s : Service) → o ≡ Some s → row s ≡ v) →
        IfSome o IsSendableService
    go None back = tt
    go (Some s) back = subst IsSendable (sym (back s refl)) h

-- so is it of atoms
service_atoms : (v : Value) → IsSendable v → IfSome (service_in v) IsService
service_atoms v h = go (service_in v) (service_is v h)
  where
    go : (o : Option Service) → IfSome o IsSendableService → IfSome o IsService
    go None k = tt
    go (Some s) k = sendable_atoms (row s) k

-- the core that is read from slots
core_is : (slots : Listed Value) → AreSendable slots → IfSome (from_slots slots) AreEntries
core_is [] h = tt
core_is (slot ∷ []) h =
    if_then (λ ss. AllByRecursion IsService ss) AreEntries (rows_in service_in slot)
    (λ ss. of_core (map keyed ss)) (rows_are IsService service_in service_atoms slot h.0)
    (λ ss k. if_passed AreEntries (are_services (map keyed ss)) (map keyed ss)
    (λ e. each_mapped IsEntry keyed ss
    (each_weaker IsService (λ s. IsEntry (keyed s)) keyed_is ss k)))
core_is (slot ∷ other ∷ slots) h = tt

-- the slots of a core have atoms
slots_atoms : (es : Listed Entry) → AreEntries es → AllHaveAtoms (to_slots es)
slots_atoms es h = (
  listed_atoms (map (λ (e : Entry). row e.1) es)
      (each_mapped HasAtoms (λ (e : Entry). row e.1) es
      (each_weaker IsEntry (λ e. IsService e.1) (λ e k. k.1) es h)),
  tt,
)

-- ---- calls

-- a call with such a service
abbrev IsCallOf : Call → Type 0
IsCallOf (Add s) = IsService s
IsCallOf _ = Unit {0}

-- what is done leaves such services, and answers what has atoms
abbrev IsDone : Listed Entry × Value → Type 0
IsDone done = AreEntries done.0 × HasAtoms done.1

-- what a call does
done_is : (es : Listed Entry) (call : Call) → AreEntries es → IsCallOf call →
    IfSome (does es call) IsDone
done_is es (Add s) h k = numbered (with_service es s) (go (value_of es s.item))
  where
    Left : Listed Entry × Bool → Type 0
    Left d = AreEntries d.0

    numbered : (o : Option (Listed Entry × Bool)) → IfSome o Left →
        IfSome (option_map as_number o) IsDone
    numbered None q = tt
    numbered (Some d) q = (q, truth_atoms d.1)

    go : (o : Option Service) → IfSome (add_at es s o) Left
    go (Some had) = h
    go None =
        if_passed Left (nat_lt (length es) 256) (es ++ keyed s ∷ [], true)
        (λ e. each_joined IsEntry es (keyed s ∷ []) h (keyed_is s k, tt))
done_is es (Remove item) h k = (removed_are IsEntry es item h, truth_atoms (without es item).1)
done_is es Items h k =
    (h, list_atoms (map Text (keys_of es)) (texts_atoms (keys_of es) (keys es h)))
  where
    keys : (es : Listed Entry) → AreEntries es → AreOfBytes (keys_of es)
    keys [] h = tt
    keys (e ∷ es) h = (h.0.0, keys es h.1)
done_is es (Named item) h k = (h, go (value_of es item) (value_is IsService es item (each es h)))
  where
    each : (es : Listed Entry) → AreEntries es →
        AllByRecursion (λ (e : Entry). IsService e.1) es
    each [] h = tt
    each (e ∷ es) h = (h.0.1, each es h.1)

    go : (o : Option Service) → IfSome o IsService → HasAtoms (row_or_nil o)
    go None q = atoms-Nil
    go (Some s) q = q

-- ---- acts

module _ (table : Listed Class) (inv : Invocation) (slots : Listed Value)
    (all : AreSendable inv.locals) (sixteen : length inv.locals ≡ 16)
    (of_slots : AreSendable slots) where
  -- an act with such values
  abbrev Sound : Act → Type 0
  Sound act = acts.Sound table inv all sixteen act

  -- such an act, or the fault of type
  abbrev MaySound : Option Act → Type 0
  MaySound o = acts.MaySound table inv all sixteen o

  -- the service that a local holds
  local_service : (k : ℕ) → IfSome (local inv k >>? service_in) IsSendableService
  local_service k =
      if_then IsSendable IsSendableService (local inv k) service_in (value_at inv.locals k all)
      service_is

  -- the call of a selector
  call_is : (selector : Listed ℕ) → IfSome (call_in selector inv) IsCallOf
  call_is selector =
      one (bytes_eq selector (codes "addService:")) (bytes_eq selector (codes "removeService:"))
      (bytes_eq selector (codes "services")) (bytes_eq selector (codes "serviceNamed:"))
    where
      named : (f : Listed ℕ → Call) → ((s : Listed ℕ) → IsCallOf (f s)) →
          IfSome (local inv 0 >>? text >>? λ item. Some (f item)) IsCallOf
      named f each = go (local inv 0 >>? text)
        where
          go : (o : Option (Listed ℕ)) → IfSome (o >>? λ item. Some (f item)) IsCallOf
          go None = tt
          go (Some s) = each s

      one : (a b c d : Bool) → IfSome (cond a (local inv 0 >>? service_in >>? λ s. Some (Add s))
          (cond b (local inv 0 >>? text >>? λ item. Some (Remove item)) (cond c (Some Items)
          (cond d (local inv 0 >>? text >>? λ item. Some (Named item)) None)))) IsCallOf
      one true b c d =
          if_then IsSendableService IsCallOf (local inv 0 >>? service_in) (λ s. Some (Add s))
          (local_service 0) (λ s h. sendable_atoms (row s) h)
      one false true c d = named Remove (λ s. tt)
      one false false true d = tt
      one false false false true = named Named (λ s. tt)
      one false false false false = tt

  -- a method that only answers
  asked_sound : (selector : Listed ℕ) → MaySound (answers selector inv slots)
  asked_sound selector =
      acts.answers_sound table inv all sixteen from_slots to_slots does (call_in selector inv) slots
      AreEntries IsCallOf (core_is slots of_slots) (call_is selector) done_is slots_atoms

  -- a step that keeps the handler
  on_sound : (to : ℕ) (sets : Listed LocalSet) →
      AllByRecursion (λ (s : LocalSet). HasAtoms s.value) sets → Sound (keeps_on inv to sets)
  on_sound to sets h = acts.sets_sound table inv all sixteen to sets inv.handler h

  -- none, as a number
  zero_atoms : HasAtoms (Num (pos 0))
  zero_atoms = count_atoms 0 (omega arith)

  -- a text of the server's own
  own_atoms : (s : Listed ℕ) → IsOfBytes s → HasAtoms (Text s)
  own_atoms s h = atoms-Text s ∙ h

  -- the step after the item was looked for
  next_sound : (o : Option Service) → IfSome o IsService → Sound (perform_next inv o)
  next_sound None h =
      on_sound 8 (set 2 (Text (codes "unknown item")) ∷ set 3 Nil ∷ set 14 (Num (pos 0)) ∷ [])
      (own_atoms (codes "unknown item") refl, (atoms-Nil, (zero_atoms, tt)))
  next_sound (Some s) h =
      acts.sets_sound table inv all sixteen 1 (set 3 (row s) ∷ []) (caught_to 7) (h, tt)

  -- the item is looked for
  performs_sound : MaySound (performs inv slots)
  performs_sound =
      acts.then_sound table inv all sixteen AreEntries (from_slots slots) (λ es.
      local inv 0 >>? text >>? λ item. local inv 1 >>? owner_in >>? λ board.
      Some (perform_next inv (value_of es item))) (core_is slots of_slots)
      (λ es h. acts.whatever_sound table inv all sixteen (local inv 0 >>? text) (λ item.
      local inv 1 >>? owner_in >>? λ board. Some (perform_next inv (value_of es item)))
      (λ item. acts.whatever_sound table inv all sixteen (local inv 1 >>? owner_in)
      (λ board. Some (perform_next inv (value_of es item)))
      (λ board. next_sound (value_of es item)
      (value_is IsService es item (each_weaker IsEntry (λ e. IsService e.1) (λ e k. k.1) es h)))))

  -- what leads on from the service that local 3 holds
  service_sound : (f : Service → Option Act) →
      ((s : Service) → AreSendable (parts s) → MaySound (f s)) → MaySound (kept_service inv >>? f)
  service_sound f each =
      acts.then_sound table inv all sixteen IsSendableService (kept_service inv) f (local_service 3)
      (λ s h. each s (items_sendable (parts s) h))

  -- the pasteboard is asked for a type
  asks_sound : MaySound (asks_type inv)
  asks_sound =
      service_sound (λ s. local inv 1 >>? λ board. Some (Send board
      (codes "availableTypeFromArray:") (texts_value s.send ∷ []) 4 (13 ∷ []) 2))
      (λ s h. acts.local_sound table inv all sixteen 1 (λ board. Some (Send board
      (codes "availableTypeFromArray:") (texts_value s.send ∷ []) 4 (13 ∷ []) 2))
      (λ board k. ((k, (h.1.1.1.0, tt)), (tt, (tt, tt)))))

  -- there is none, or it goes on
  type_sound : MaySound (has_type inv)
  type_sound =
      acts.whatever_sound table inv all sixteen (local inv 4) (λ kind. Some (cond (is_nil kind)
      (keeps_on inv 8 (set 2 (Text (codes "no type")) ∷ set 14 (Num (pos 0)) ∷ []))
      (keeps_on inv 3 []))) (λ kind. go (is_nil kind))
    where
      go : (b : Bool) → Sound (cond b
          (keeps_on inv 8 (set 2 (Text (codes "no type")) ∷ set 14 (Num (pos 0)) ∷ []))
          (keeps_on inv 3 []))
      go true =
          on_sound 8 (set 2 (Text (codes "no type")) ∷ set 14 (Num (pos 0)) ∷ [])
          (own_atoms (codes "no type") refl, (zero_atoms, tt))
      go false = on_sound 3 [] tt

  -- the root of the port is asked for
  root_sound : MaySound (asks_root inv)
  root_sound =
      service_sound (λ s. Some (Root (Num (pos s.port)) 5 4))
      (λ s h. ((h.1.1.0, tt), (tt, (tt, tt))))

  -- the provider is asked
  provider_sound : MaySound (asks_provider inv)
  provider_sound =
      service_sound (λ s. local inv 5 >>? λ provider. local inv 1 >>? λ board. Some (message s
      provider board))
      (λ s h. acts.local_sound table inv all sixteen 5 (λ provider. local inv 1 >>? λ board.
      Some (message s provider board))
      (λ provider k. acts.local_sound table inv all sixteen 1
      (λ board. Some (message s provider board))
      (λ board q. ((k, (q, (h.1.1.1.1.1.0, (carry-Nil 8, tt)))), (tt, (tt, tt))))))
    where
      message : Service → Value → Value → Act
      message s provider board =
          Send provider (provider_message s) (board ∷ s.user ∷ Nil ∷ []) 13 (13 ∷ 13 ∷ 2 ∷ []) 6

  -- it was performed or not
  performed_sound : MaySound (was_performed inv)
  performed_sound =
      acts.whatever_sound table inv all sixteen (local inv 2)
      (λ error. Some (keeps_on inv 8 (set 14 (Num (truth (is_nil error))) ∷ [])))
      (λ error. on_sound 8 (set 14 (Num (truth (is_nil error))) ∷ [])
      (truth_atoms (is_nil error), tt))

  -- what was raised is the error
  raised_sound : MaySound (was_raised inv)
  raised_sound =
      acts.then_sound table inv all sixteen IsOfBytes (local inv 15 >>? text)
      (λ name. Some (keeps_on inv 8 (set 2 (Text name) ∷ set 14 (Num (pos 0)) ∷ [])))
      (if_then IsSendable IsOfBytes (local inv 15) text (value_at inv.locals 15 all) text_is)
      (λ name h. on_sound 8 (set 2 (Text name) ∷ set 14 (Num (pos 0)) ∷ [])
      (own_atoms name h, (zero_atoms, tt)))

  -- each method
  method_sound : (selector : Listed ℕ) → MaySound (method_act selector inv slots)
  method_sound selector =
      acts.one_sound table inv all sixteen
      (bytes_eq selector (codes "performService:pasteboard:error:"))
      (at_place inv (perform_places inv slots)) (answers selector inv slots)
      (acts.places_sound table inv all sixteen (perform_places inv slots) (
        performs_sound,
        (
          asks_sound,
          (
            type_sound,
            (
              root_sound,
              (
                on_sound 5 [] tt,
                (
                  provider_sound,
                  (
                    performed_sound,
                    (raised_sound, (acts.returns_sound table inv all sixteen, tt)),
                  ),
                ),
              ),
            ),
          ),
        ),
      ))
      (asked_sound selector)

-- servers of services keep what can be carried
pub services_keep : (table : Listed Class) → KeepsSendable table services_act
services_keep table inv slots all sixteen of_slots =
    acts.selector_sound table inv all sixteen (λ selector. method_act selector inv slots)
    (method_sound table inv slots all sixteen of_slots)
