-- What a server of services keeps, finds and answers may be named.
use Rattle.std.proofs.Common.{◌≡◌, ℕ, true, false, Bool, List as Listed, [], ◌∷◌, ◌++◌, Option}
use Rattle.std.proofs.Common.{Some, None, length, map, sym, subst}
use Rattle.std.specs.{Prelude.nat_lt, List.All, Map.keys_of, Option.IfSome, Str.bytes_eq}
use Rattle.std.proofs.lemmas.{List.Elements.All-push, Map.Entries.All-lookup}
use Rattle.do_base.specs.declared.values.value.Value.{Value, TheVariants.Text}
use Rattle.do_grammar.specs.Words.{◌>>?◌}
use Rattle.do_behave.specs.{Numbers.truth, Steps.local, declared.invocation.Invocation.Invocation}
use Rattle.do_native_acts.specs.laws.{FoundLaws.{if_mapped, if_room}, KeptLaws.kept_entries}
use Rattle.do_native_acts.specs.laws.{KindLaws.found_of, NamedValues.{EachNamed, Named, core_read}}
use Rattle.do_native_acts.specs.laws.NamedValues.{each_named, list_named, local_found, nil_named}
use Rattle.do_native_acts.specs.laws.NamedValues.{number_named, slot_from, slot_to, text_named}
use Rattle.do_table.specs.Entries.{value_of, removed}
use Rattle.do_services.specs.Calls.{as_number, call_in, does, row_or_nil}
use Rattle.do_services.specs.Core.{Entry, add_at, from_slots, keyed, row, service_in, texts_value}
use Rattle.do_services.specs.{Core.{to_slots, with_service, without}, declared.calls.Call.Call}
use Rattle.do_services.specs.declared.calls.Call.TheVariants.{Add, Remove, Items, Named as Find}
use Rattle.do_services.specs.{declared.service.Service.Service, laws.CallLaws.each_call}
use Rattle.do_services.specs.laws.SlotsExact.{read_back, service_back}

module _ (inv : Invocation) (slots : Listed Value) where
  -- a service may be named
  abbrev pub NamedService : Service → Type 0
  NamedService s = Named inv slots (row s)

  -- and so may the service of an entry
  abbrev NamedEntry : Entry → Type 0
  NamedEntry e = NamedService e.1

  -- and each service of a core
  abbrev pub NamedCore : Listed Entry → Type 0
  NamedCore es = All NamedEntry es

  -- the services of the core that the slots hold may be named
  pub core_from : (es : Listed Entry) → from_slots slots ≡ Some es → NamedCore es
  core_from =
      core_read inv slots from_slots to_slots NamedCore (read_back slots) (λ es each.
      slot_from inv slots (λ (e : Entry). row e.1) NamedEntry (λ e named. named) es each.0)

  -- and the slots of a core whose services may be
  pub core_to : (es : Listed Entry) → NamedCore es → EachNamed inv slots (to_slots es)
  core_to es named =
      (slot_to inv slots (λ (e : Entry). row e.1) NamedEntry (λ e it. it) es named, tt)

  -- texts as a value name no object
  texts_named : (ts : Listed (Listed ℕ)) → Named inv slots (texts_value ts)
  texts_named ts =
      list_named inv slots (map (λ (s : Listed ℕ). Text s) ts)
      (each_named inv slots (λ (s : Listed ℕ). Text s) (text_named inv slots) ts)

  -- what is found among services may be named
  pub found_named : (es : Listed Entry) (item : Listed ℕ) → NamedCore es
      → IfSome (value_of es item) NamedService
  found_named es item all = All-lookup NamedService (bytes_eq item) es all

  -- services that stay may be named
  left_named : (es : Listed Entry) (item : Listed ℕ) → NamedCore es → NamedCore (removed es item)
  left_named es item all = kept_entries NamedEntry (bytes_eq item) es all

  -- the service of a call may be named
  abbrev pub NamedCall : Call → Type 0
  NamedCall (Add service) = NamedService service
  NamedCall _ = Unit {0}

  -- what a call leaves and answers may be named
  abbrev pub NamedDone : Listed Entry × Value → Type 0
  NamedDone done = Named inv slots done.1 × NamedCore done.0

  -- what is left and answered, with the answer as a number, may be named
  abbrev NamedLeft : Listed Entry × Bool → Type 0
  NamedLeft done = NamedDone (as_number done)

  -- what is added is kept with the others
  added_named : (es : Listed Entry) (s : Service) (o : Option Service) → NamedCore es
      → NamedService s → IfSome (add_at es s o) NamedLeft
  added_named es s (Some had) named new = (number_named inv slots (truth false), named)
  added_named es s None named new =
      if_room NamedLeft (nat_lt (length es) 256) (es ++ keyed s ∷ [], true)
      (number_named inv slots (truth true), All-push NamedEntry es (keyed s) named new)

  -- a service or nil may be named
  row_or_nil_named : (o : Option Service) → IfSome o NamedService
      → Named inv slots (row_or_nil o)
  row_or_nil_named None named = nil_named inv slots
  row_or_nil_named (Some s) named = named

  -- what a call leaves and answers may be named, where what it was given may
  pub done_named : (es : Listed Entry) (call : Call) → NamedCore es → NamedCall call
      → IfSome (does es call) NamedDone
  done_named es (Add s) named given =
      if_mapped NamedDone as_number (with_service es s)
      (added_named es s (value_of es s.item) named given)
  done_named es (Remove item) named given =
      (number_named inv slots (truth (without es item).1), left_named es item named)
  done_named es Items named given = (texts_named (keys_of es), named)
  done_named es (Find item) named given =
      (row_or_nil_named (value_of es item) (found_named es item named), named)

  -- a service that a local holds may be named
  local_service : (k : ℕ) (s : Service) → (local inv k >>? service_in) ≡ Some s → NamedService s
  local_service k s is =
      let v = found_of (local inv k) service_in s is in
      subst (Named inv slots) (sym (service_back v.0 s v.2)) (local_found inv slots k v.0 v.1)

  -- the service of the call of a selector may be named
  pub call_named : (selector : Listed ℕ) → IfSome (call_in selector inv) NamedCall
  call_named selector =
      each_call NamedCall selector inv (local_service 0) (λ item. tt) tt (λ item. tt)
