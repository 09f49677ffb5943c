-- Pasteboards keep what can be carried.
use Rattle.do_kept.proofs.Acts as acts
use Rattle.std.proofs.Common.{◌≡◌, ◌<◌, ℕ, Bool, true, false, cond, List as Listed, [], ◌∷◌, length}
use Rattle.std.proofs.Common.{◌∙◌}
use Rattle.std.specs.{Prelude.{None, Option, Some, codes}, Option.IfSome, Str.bytes_eq}
use Rattle.do_base.specs.{names.Names.ObjectName, values.Kinds.{number, object, text}}
use Rattle.do_base.specs.declared.values.value.Value.{Value, TheVariants.{Nil, Obj, Text}}
use Rattle.do_base.specs.declared.events.exception.Exc.TheVariants.{Range}
use Rattle.do_class.specs.{Class.Class, Table.selector_of}
use Rattle.do_grammar.specs.Words.{◌>>?◌}
use Rattle.do_behave.specs.{Steps.local, declared.act.Act.{Act, TheVariants.Raise}}
use Rattle.do_behave.specs.declared.invocation.Invocation.{Invocation}
use Rattle.do_native_acts.specs.{Limited.is_limited, Owners.owner_in, Places.{at_place, sends}}
use Rattle.do_native_acts.specs.{Rows.list_in, Steps.{caught_to, changes, fits, set, steps}}
use Rattle.do_native_acts.specs.Types.{types_in}
use Rattle.do_table.specs.Entries.{value_of}
use Rattle.do_pboard.specs.Acts.{answers, asks, changed_owner, data_places, declare_next}
use Rattle.do_pboard.specs.Acts.{declare_places, declares, declares_on, found_now, look_next}
use Rattle.do_pboard.specs.Acts.{look_sets, looks, looks_again, looks_again_on, looks_on}
use Rattle.do_pboard.specs.Acts.{makes_next, method_act, name_next, name_places, names_keep}
use Rattle.do_pboard.specs.Acts.{names_keep_on, names_look, pasteboard_act, provide, to_tell}
use Rattle.do_pboard.specs.Calls.{adds_types, asks_available, call_in, does, sets_data}
use Rattle.do_pboard.specs.Changes.{data_for, keeps}
use Rattle.do_pboard.specs.Core.{Pasteboard, boards_slot, from_slots, to_slots}
use Rattle.do_pboard.specs.declared.board.BoardData.{BoardData, TheVariants.{Absent, Ask, Here}}
use Rattle.do_pboard.specs.declared.calls.Call.TheVariants.{AddTypes, Available, ChangeCount}
use Rattle.do_pboard.specs.declared.calls.Call.TheVariants.{Declare, SetData, Types}
use Rattle.do_limits.specs.{Sendable.{AreSendable, IsSendable}, SendableActs.KeepsSendable}
use Rattle.do_limits.proofs.{scripts.Locals.value_at, values.Carried.carry-Obj}
use Rattle.do_kept.proofs.{Acts.class_there, Limited.{atoms-Nil, atoms-Obj, atoms-Text}}
use Rattle.do_kept.proofs.{Limited.count_atoms, ReadValues.{AreOfBytes, IsOfBytes, if_any, if_then}}
use Rattle.do_kept.proofs.ReadValues.{list_is, text_is, types_are}
use Rattle.do_kept.proofs.pasteboards.{Read.{IsBoard, core_is}, Written.slots_atoms, Done.IsCallOf}
use Rattle.do_kept.proofs.pasteboards.Done.{IsData, IsDone, data_is, done_is, kept_is, now_atoms}

module _ (table : Listed Class) (inv : Invocation) (slots : Listed Value)
    (all : AreSendable inv.locals) (sixteen : length inv.locals ≡ 16)
    (of_slots : AreSendable slots) where
  -- an act with such values
  abbrev Sound : Act → Type 0
  Sound act = acts.Sound table inv all sixteen act

  -- such an act, or the fault of type
  abbrev MaySound : Option Act → Type 0
  MaySound o = acts.MaySound table inv all sixteen o

  -- what is read of a local
  local_is : {A : Type 0} (P : A → Type 0) (read : Value → Option A) (k : ℕ) →
      ((v : Value) → IsSendable v → IfSome (read v) P) → IfSome (local inv k >>? read) P
  local_is P read k each =
      if_then IsSendable P (local inv k) read (value_at inv.locals k all) each

  -- what leads on from the pasteboard
  board_sound : (f : Pasteboard → Option Act) →
      ((b : Pasteboard) → IsBoard b → MaySound (f b)) → MaySound (from_slots slots >>? f)
  board_sound f each =
      acts.then_sound table inv all sixteen IsBoard (from_slots slots) f (core_is slots of_slots)
      each

  -- what leads on from the text that local 0 holds
  text_sound : (f : Listed ℕ → Option Act) →
      ((s : Listed ℕ) → IsOfBytes s → MaySound (f s)) → MaySound (local inv 0 >>? text >>? f)
  text_sound f each =
      acts.then_sound table inv all sixteen IsOfBytes (local inv 0 >>? text) f
      (local_is IsOfBytes text 0 text_is) each

  -- the own object is an argument
  own_sendable : IsSendable (Obj inv.object)
  own_sendable = carry-Obj 8 inv.object

  -- the step after a declaration
  told_sound : (o : Option ObjectName) (done : Pasteboard × Value) → IsDone done →
      Sound (declare_next inv o done.1 slots (to_slots done.0))
  told_sound None done h =
      acts.keeps_sound table inv all sixteen 2 (set 2 Nil ∷ set 14 done.1 ∷ []) inv.handler slots
      (to_slots done.0) (atoms-Nil, (h.1, tt)) (slots_atoms done.0 h.0)
  told_sound (Some former) done h =
      acts.keeps_sound table inv all sixteen 1 (set 2 (Obj former) ∷ set 14 done.1 ∷ [])
      (caught_to 2) slots (to_slots done.0) (atoms-Obj former, (h.1, tt)) (slots_atoms done.0 h.0)

  -- types are declared
  declares_sound : MaySound (declares inv slots)
  declares_sound =
      board_sound (declares_on inv slots) (λ b h.
      acts.then_sound table inv all sixteen AreOfBytes (local inv 0 >>? types_in)
      (λ types. local inv 1 >>? owner_in >>? λ owner. Some (next b types owner))
      (local_is AreOfBytes types_in 0 types_are)
      (λ types k. acts.whatever_sound table inv all sixteen (local inv 1 >>? owner_in)
      (λ owner. Some (next b types owner))
      (λ owner. acts.fits_sound table inv all sixteen IsDone (does b (Declare types owner))
      (λ d. declare_next inv (to_tell b.owner owner) d.1 slots (to_slots d.0))
      (done_is b (Declare types owner) h k) (told_sound (to_tell b.owner owner)))))
    where
      next : Pasteboard → Listed (Listed ℕ) → Option ObjectName → Act
      next b types owner =
          fits (does b (Declare types owner))
          (λ d. declare_next inv (to_tell b.owner owner) d.1 slots (to_slots d.0))

  -- whom to ask is told, or the data is
  look_sound : (count : ℕ) (d : BoardData) → count < 9223372036854775808 → IsData d →
      Sound (look_next inv count d)
  look_sound count (Ask owner) h k =
      acts.sets_sound table inv all sixteen 1 (look_sets (Obj owner) count []) (caught_to 2)
      (atoms-Obj owner, (count_atoms count h, tt))
  look_sound count (Here content) h k =
      acts.sets_sound table inv all sixteen 3
      (look_sets Nil count (set 14 (Text content) ∷ [])) inv.handler
      (atoms-Nil, (count_atoms count h, (atoms-Text content ∙ k, tt)))
  look_sound count Absent h k =
      acts.sets_sound table inv all sixteen 3 (look_sets Nil count (set 14 Nil ∷ [])) inv.handler
      (atoms-Nil, (count_atoms count h, (atoms-Nil, tt)))

  -- the data of a type is looked for
  looks_sound : MaySound (looks inv slots)
  looks_sound =
      board_sound (looks_on inv) (λ b h.
      text_sound (λ kind. Some (look_next inv b.count (data_for b kind)))
      (λ kind k. look_sound b.count (data_for b kind) h.0 (data_is b kind h)))

  -- it is looked for again
  again_sound : MaySound (looks_again inv slots)
  again_sound =
      board_sound (looks_again_on inv) (λ b h.
      text_sound (λ kind. local inv 2 >>? number >>? λ count.
      Some (steps inv 3 (set 14 (found_now b kind count) ∷ []) inv.handler []))
      (λ kind k. acts.whatever_sound table inv all sixteen (local inv 2 >>? number)
      (λ count. Some (steps inv 3 (set 14 (found_now b kind count) ∷ []) inv.handler []))
      (λ count. acts.sets_sound table inv all sixteen 3 (set 14 (found_now b kind count) ∷ [])
      inv.handler (now_atoms b kind count h, tt))))

  -- the owner is asked
  asks_sound : MaySound (asks inv)
  asks_sound =
      acts.local_sound table inv all sixteen 0
      (λ kind. sends inv 1 provide (Obj inv.object ∷ kind ∷ []) 2)
      (λ kind h. acts.sends_sound table inv all sixteen 1 provide (Obj inv.object ∷ kind ∷ []) 2
      (own_sendable, (h, tt)))

  -- a pasteboard will be made
  makes_sound : (b : Pasteboard) → Sound (makes_next inv b)
  makes_sound b = go (is_limited (boards_slot b.boards))
    where
      go : (t : Bool) → Sound (cond t (steps inv 1 (set 1 Nil ∷ []) inv.handler []) (Raise Range))
      go true =
          acts.sets_sound table inv all sixteen 1 (set 1 Nil ∷ []) inv.handler (atoms-Nil, tt)
      go false = acts.range_fault table inv all sixteen

  -- the pasteboard of a name is looked for
  named_sound : MaySound (names_look inv slots)
  named_sound =
      board_sound (λ b. local inv 0 >>? text >>? λ name.
      Some (name_next inv b name (value_of b.boards name)))
      (λ b h. text_sound (λ name. Some (name_next inv b name (value_of b.boards name)))
      (λ name k. next b name (value_of b.boards name) h k))
    where
      next : (b : Pasteboard) (name : Listed ℕ) (o : Option ObjectName) → IsBoard b →
          IsOfBytes name → Sound (name_next inv b name o)
      next b name (Some kept) h k =
          acts.sets_sound table inv all sixteen 3 (set 1 (Obj kept) ∷ set 14 (Obj kept) ∷ [])
          inv.handler (atoms-Obj kept, (atoms-Obj kept, tt))
      next b name None h k =
          acts.fits_sound table inv all sixteen (λ (d : Pasteboard × ObjectName). IsBoard d.0)
          (keeps b name inv.object) (λ d. makes_next inv d.0) (kept_is b name inv.object h k)
          (λ d q. makes_sound d.0)

  -- the new pasteboard is kept under the name
  keep_sound : MaySound (names_keep inv slots)
  keep_sound =
      board_sound (names_keep_on inv slots) (λ b h.
      text_sound (λ name. local inv 1 >>? object >>? λ new. Some (next b name new))
      (λ name k. acts.whatever_sound table inv all sixteen (local inv 1 >>? object)
      (λ new. Some (next b name new))
      (λ new. acts.fits_sound table inv all sixteen
      (λ (d : Pasteboard × ObjectName). IsBoard d.0) (keeps b name new)
      (λ d. steps inv 3 (set 14 (Obj d.1) ∷ []) inv.handler (changes 0 slots (to_slots d.0)))
      (kept_is b name new h k)
      (λ d q. acts.keeps_sound table inv all sixteen 3 (set 14 (Obj d.1) ∷ []) inv.handler slots
      (to_slots d.0) (atoms-Obj d.1, tt) (slots_atoms d.0 q)))))
    where
      next : Pasteboard → Listed ℕ → ObjectName → Act
      next b name new =
          fits (keeps b name new) (λ d.
          steps inv 3 (set 14 (Obj d.1) ∷ []) inv.handler (changes 0 slots (to_slots d.0)))

  -- the call that adds types
  adds_is : IfSome (adds_types inv) IsCallOf
  adds_is =
      if_then AreOfBytes IsCallOf (local inv 0 >>? types_in)
      (λ types. local inv 1 >>? owner_in >>? λ owner. Some (AddTypes types owner))
      (local_is AreOfBytes types_in 0 types_are)
      (λ types k. if_any IsCallOf (local inv 1 >>? owner_in)
      (λ owner. Some (AddTypes types owner)) (λ owner. k))

  -- the call that sets data
  sets_is : IfSome (sets_data inv) IsCallOf
  sets_is =
      if_then IsOfBytes IsCallOf (local inv 0 >>? text)
      (λ content. local inv 1 >>? text >>? λ kind. local inv 2 >>? number >>? λ count.
      Some (SetData content kind count)) (local_is IsOfBytes text 0 text_is)
      (λ content k. if_any IsCallOf (local inv 1 >>? text)
      (λ kind. local inv 2 >>? number >>? λ count. Some (SetData content kind count))
      (λ kind. if_any IsCallOf (local inv 2 >>? number)
      (λ count. Some (SetData content kind count)) (λ count. k)))

  -- the call that asks for a type
  available_is : IfSome (asks_available inv) IsCallOf
  available_is =
      if_then AreOfBytes IsCallOf (local inv 0 >>? list_in text) (λ texts. Some (Available texts))
      (local_is AreOfBytes (list_in text) 0 (list_is IsOfBytes text text_is)) (λ texts k. k)

  -- the call of a selector
  call_is : (selector : Listed ℕ) → IfSome (call_in selector inv) IsCallOf
  call_is selector =
      one (bytes_eq selector (codes "addTypes:owner:"))
      (bytes_eq selector (codes "setData:forType:count:"))
      (bytes_eq selector (codes "availableTypeFromArray:")) (bytes_eq selector (codes "types"))
      (bytes_eq selector (codes "changeCount"))
    where
      one : (a b c d e : Bool) → IfSome (cond a (adds_types inv) (cond b (sets_data inv)
          (cond c (asks_available inv) (cond d (Some Types) (cond e (Some ChangeCount) None)))))
          IsCallOf
      one true b c d e = adds_is
      one false true c d e = sets_is
      one false false true d e = available_is
      one false false false true e = tt
      one false false false false true = tt
      one false false false false false = tt

  -- a method that only answers
  asked_sound : (selector : Listed ℕ) → MaySound (answers selector inv slots)
  asked_sound selector =
      acts.answers_sound table inv all sixteen from_slots to_slots does (call_in selector inv) slots
      IsBoard IsCallOf (core_is slots of_slots) (call_is selector) done_is slots_atoms

  -- each method
  method_sound : (selector : Listed ℕ) → selector_of table inv.method ≡ Some selector →
      MaySound (method_act selector inv slots)
  method_sound selector is =
      acts.one_sound table inv all sixteen (bytes_eq selector (codes "declareTypes:owner:"))
      (at_place inv (declare_places inv slots)) _
      (acts.places_sound table inv all sixteen (declare_places inv slots) (
        declares_sound,
        (
          acts.sends_sound table inv all sixteen 2 changed_owner (Obj inv.object ∷ []) 2
              (own_sendable, tt),
          (acts.returns_sound table inv all sixteen, tt),
        ),
      ))
      (acts.one_sound table inv all sixteen (bytes_eq selector (codes "dataForType:"))
      (at_place inv (data_places inv slots)) _
      (acts.places_sound table inv all sixteen (data_places inv slots) (
        looks_sound,
        (asks_sound, (again_sound, (acts.returns_sound table inv all sixteen, tt))),
      ))
      (acts.one_sound table inv all sixteen (bytes_eq selector (codes "pasteboardNamed:"))
      (at_place inv (name_places inv slots)) (answers selector inv slots)
      (acts.places_sound table inv all sixteen (name_places inv slots) (
        named_sound,
        (
          (tt, (tt, (class_there table inv.method selector is, tt))),
          (keep_sound, (acts.returns_sound table inv all sixteen, tt)),
        ),
      ))
      (asked_sound selector)))

-- pasteboards keep what can be carried
pub pasteboards_keep : (table : Listed Class) → KeepsSendable table pasteboard_act
pasteboards_keep table inv slots all sixteen of_slots =
    acts.known_sound table inv all sixteen (λ selector. method_act selector inv slots)
    (method_sound table inv slots all sixteen of_slots)
