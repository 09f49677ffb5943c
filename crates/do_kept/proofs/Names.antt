-- Servers of names keep what can be carried.
use Rattle.do_kept.proofs.Acts as acts
use Rattle.std.proofs.Common.{◌≡◌, ◌++◌, ℕ, Bool, true, false, cond, List as Listed, [], ◌∷◌}
use Rattle.std.proofs.Common.{length, map, ◌∙◌, arith}
use Rattle.std.specs.Prelude.{None, Option, Some, codes, nat_lt, option_and_then, option_map, pos}
use Rattle.std.specs.{List.AllByRecursion, Option.IfSome, Str.bytes_eq}
use Rattle.do_base.specs.{values.Kinds.text, declared.values.value.Value.Value}
use Rattle.do_base.specs.declared.values.value.Value.TheVariants.{Num, Text}
use Rattle.do_class.specs.Class.{Class}
use Rattle.do_grammar.specs.Words.{◌>>?◌}
use Rattle.do_behave.specs.{Steps.local, declared.invocation.Invocation.Invocation}
use Rattle.do_native_acts.specs.{Places.in_two, Ports.port_in, Rows.rows_in}
use Rattle.do_table.specs.Entries.{value_of}
use Rattle.do_names.specs.{Acts.{first, names_act}, Calls.{as_number, call_in, call_with, does}}
use Rattle.do_names.specs.{Calls.port_or_none, Core.{Entry, are_names, entry_in, from_slots}}
use Rattle.do_names.specs.Core.{name_in, of_core, register_at, row, to_slots, unregistered}
use Rattle.do_names.specs.declared.calls.Call.{Call, TheVariants.{Lookup, Register, Unregister}}
use Rattle.do_facts.proofs.EachOfLists.{each_joined, each_mapped, each_weaker}
use Rattle.do_limits.specs.{Sendable.{AreSendable, IsSendable}, SendableActs.KeepsSendable}
use Rattle.do_limits.proofs.scripts.Locals.{value_at}
use Rattle.do_kept.proofs.Limited.{AllHaveAtoms, HasAtoms, atoms-Text, count_atoms, list_atoms}
use Rattle.do_kept.proofs.{Limited.{listed_atoms, truth_atoms}, ReadValues.IsOfBytes}
use Rattle.do_kept.proofs.ReadValues.{IsPortNumber, if_passed, pair_is, port_is, rows_are, text_is}
use Rattle.do_kept.proofs.Tables.{removed_are, value_is}

-- ---- entries

-- an entry of a name of bytes and a port
abbrev IsEntry : Entry → Type 0
IsEntry e = IsOfBytes e.0 × IsPortNumber e.1

-- each of these
abbrev AreEntries : Listed Entry → Type 0
AreEntries es = AllByRecursion IsEntry es

-- a row has atoms
row_atoms : (e : Entry) → IsEntry e → HasAtoms (row e)
row_atoms e h =
    list_atoms (Text e.0 ∷ Num (pos e.1) ∷ [])
    (atoms-Text e.0 ∙ h.0, (count_atoms e.1 (omega (arith, h.1)), tt))

-- so have the slots of a core
slots_atoms : (es : Listed Entry) → AreEntries es → AllHaveAtoms (to_slots es)
slots_atoms es h = (
  listed_atoms (map row es)
      (each_mapped HasAtoms row es (each_weaker IsEntry (λ e. HasAtoms (row e)) row_atoms es h)),
  tt,
)

-- ---- reading

-- the name that a value is
name_is : (v : Value) → IsSendable v → IfSome (name_in v) IsOfBytes
name_is v h = go (text v) (text_is v h)
  where
    go : (o : Option (Listed ℕ)) → IfSome o IsOfBytes →
        IfSome (option_and_then (λ s. cond (nat_lt 0 (length s)) (Some s) None) o) IsOfBytes
    go None k = tt
    go (Some s) k = if_passed IsOfBytes (nat_lt 0 (length s)) s (λ e. k)

-- the core that is read from slots
core_is : (slots : Listed Value) → AreSendable slots → IfSome (from_slots slots) AreEntries
core_is [] h = tt
core_is (slot ∷ []) h =
    go (rows_in entry_in slot)
    (rows_are IsEntry entry_in
    (pair_is IsOfBytes IsPortNumber name_in port_in name_is (λ v k. port_is v)) slot h.0)
  where
    go : (o : Option (Listed Entry)) → IfSome o AreEntries →
        IfSome (option_and_then of_core o) AreEntries
    go None k = tt
    go (Some es) k = if_passed AreEntries (are_names es) es (λ e. k)
core_is (slot ∷ other ∷ slots) h = tt

-- ---- calls

-- a call with such a name and port
abbrev IsCallOf : Call → Type 0
IsCallOf (Register name port) = IsEntry (name, port)
IsCallOf _ = Unit {0}

-- what is done leaves such entries, and answers what has atoms
abbrev IsDone : Listed Entry × Value → Type 0
IsDone done = AreEntries done.0 × HasAtoms done.1

-- what a call does
done_is : (es : Listed Entry) (call : Call) → AreEntries es → IsCallOf call →
    IfSome (does es call) IsDone
done_is es (Register name port) h k = go (value_of es name)
  where
    numbered : (o : Option (Listed Entry × Bool)) → IfSome o (λ d. AreEntries d.0) →
        IfSome (option_map as_number o) IsDone
    numbered None q = tt
    numbered (Some d) q = (q, truth_atoms d.1)

    room : (b : Bool) → IfSome (cond b (Some (es ++ (name, port) ∷ [], true)) None)
        (λ (d : Listed Entry × Bool). AreEntries d.0)
    room true = each_joined IsEntry es ((name, port) ∷ []) h (k, tt)
    room false = tt

    go : (o : Option ℕ) → IfSome (option_map as_number (register_at es name port o)) IsDone
    go (Some has) = numbered (register_at es name port (Some has)) h
    go None = numbered (register_at es name port None) (room (nat_lt (length es) 512))
done_is es (Lookup name) h k =
    (h, go (value_of es name) (value_is IsPortNumber es name (each es h)))
  where
    each : (es : Listed Entry) → AreEntries es →
        AllByRecursion (λ (e : Entry). IsPortNumber e.1) es
    each [] h = tt
    each (e ∷ es) h = (h.0.1, each es h.1)

    go : (o : Option ℕ) → IfSome o IsPortNumber → HasAtoms (Num (pos (port_or_none o)))
    go None q = count_atoms 0 (omega arith)
    go (Some n) q = count_atoms n (omega (arith, q))
done_is es (Unregister name) h k =
    (removed_are IsEntry es name h, truth_atoms (unregistered es name).1)

-- ---- acts

module _ (table : Listed Class) (inv : Invocation) (slots : Listed Value)
    (all : AreSendable inv.locals) (sixteen : length inv.locals ≡ 16)
    (of_slots : AreSendable slots) where
  -- the call of a selector
  call_is : (selector : Listed ℕ) → IfSome (call_in selector inv) IsCallOf
  call_is selector =
      go (local inv 0) (local inv 1) (value_at inv.locals 0 all)
    where
      by_port : (name : Listed ℕ) → IsOfBytes name → (o : Option ℕ) → IfSome o IsPortNumber →
          IfSome (call_with selector o name) IsCallOf
      by_port name h o k =
          one (bytes_eq selector (codes "register:port:")) (bytes_eq selector (codes "lookup:"))
          (bytes_eq selector (codes "unregister:")) o k
        where
          one : (a b c : Bool) (o : Option ℕ) → IfSome o IsPortNumber →
              IfSome (cond a (option_map (Register name) o) (cond b (Some (Lookup name))
              (cond c (Some (Unregister name)) None))) IsCallOf
          one true b c None k = tt
          one true b c (Some port) k = (h, k)
          one false true c o k = tt
          one false false true o k = tt
          one false false false o k = tt

      by_name : (o : Option (Listed ℕ)) (p : Option ℕ) → IfSome o IsOfBytes →
          IfSome p IsPortNumber → IfSome (o >>? call_with selector p) IsCallOf
      by_name None p h k = tt
      by_name (Some name) p h k = by_port name h p k

      port_of : (w : Option Value) → IfSome (w >>? port_in) IsPortNumber
      port_of None = tt
      port_of (Some v) = port_is v

      go : (v w : Option Value) → IfSome v IsSendable →
          IfSome (v >>? name_in >>? call_with selector (w >>? port_in)) IsCallOf
      go None w h = tt
      go (Some v) w h = by_name (name_in v) (w >>? port_in) (name_is v h) (port_of w)

  -- a method
  method_sound : (selector : Listed ℕ) →
      acts.MaySound table inv all sixteen (in_two inv (first selector inv slots))
  method_sound selector =
      acts.answers_sound table inv all sixteen from_slots to_slots does (call_in selector inv) slots
      AreEntries IsCallOf (core_is slots of_slots) (call_is selector) done_is slots_atoms

-- servers of names keep what can be carried
pub names_keep : (table : Listed Class) → KeepsSendable table names_act
names_keep table inv slots all sixteen of_slots =
    acts.selector_sound table inv all sixteen (λ selector. in_two inv (first selector inv slots))
    (method_sound table inv slots all sixteen of_slots)
