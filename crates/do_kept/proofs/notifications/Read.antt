-- What is read of a center of such texts is of them.
use Rattle.std.proofs.Common.{◌≡◌, ◌&&◌, ℕ, ℤ, Bool, true, false, cond, sym, subst, List as Listed}
use Rattle.std.{proofs.Common.{[], ◌∷◌, rules, ◌∙◌}, specs.Prelude.{None, Option, Some}}
use Rattle.std.specs.{Cmp.Lexicographic.pointwise, List.AllByRecursion, Option.IfSome}
use Rattle.std.proofs.lemmas.{Bool.and_parts, List.Elements.{All-from_recursion, All-nil}}
use Rattle.do_base.specs.{names.Names.ObjectName, values.Equal.value_eq}
use Rattle.do_base.specs.values.{Induction.value_induction, Kinds.{object, text}}
use Rattle.do_base.specs.declared.values.value.Value.{List, Value, the_lemmas}
use Rattle.do_base.specs.declared.values.value.Value.TheVariants.{Nil, Num, Obj, Text}
use Rattle.do_grammar.specs.Words.{◌>>?◌}
use Rattle.do_behave.specs.laws.ValueKinds.{by_items}
use Rattle.do_native_acts.specs.Rows.{rows_in}
use Rattle.do_center.specs.Notes.{info_in, info_within, is_short, label_in, note_in, posted_name}
use Rattle.do_center.specs.Observers.{same_object, without_first}
use Rattle.do_center.specs.Registrations.{behaviour_in, registration_from, registration_in}
use Rattle.do_center.specs.Registrations.{registration_of, selector_in, takes_three}
use Rattle.do_center.specs.{Seats.{Core, are_seats, are_suspended, is_core}, Slots.from_slots}
use Rattle.do_center.specs.Slots.{of_core, place_in, queue_among, queued_in, queued_of, seated}
use Rattle.do_center.specs.{Slots.{to_slots, waiting_in, waiting_of}, declared.notes.Note.Note}
use Rattle.do_center.specs.declared.{queues.Queued.Queued, registrations.Registration.Registration}
use Rattle.do_center.specs.declared.suspension.Suspension.{Suspension}
use Rattle.do_limits.specs.Sendable.{AreSendable, IsSendable}
use Rattle.do_limits.proofs.scripts.MadeLists.{items_sendable}
use Rattle.do_kept.proofs.Limited.{HasAtoms, atoms-Text, sendable_atoms}
use Rattle.do_kept.proofs.ReadValues.{IsOfBytes, if_any, if_passed, if_then, rows_are, text_is}
use Rattle.do_kept.proofs.notifications.OfBytes.{AreEntries, IsCoreOf, IsEntry, IsLabel, IsPosted}
use Rattle.do_kept.proofs.notifications.OfBytes.{IsRegistered, IsSeat, IsWaiting, Waiting}

-- the selector of three colons that a value is
pub selector_is : (v : Value) → IsSendable v → IfSome (selector_in v) IsOfBytes
selector_is v h =
    if_then IsOfBytes IsOfBytes (text v) (λ s. cond (takes_three s) (Some s) None) (text_is v h)
    (λ s k. if_passed IsOfBytes (takes_three s) s (λ e. k))

-- the name of a notification
name_is : (v : Value) → IsSendable v → IfSome (posted_name v) IsOfBytes
name_is v h =
    if_then IsOfBytes IsOfBytes (text v) (λ s. cond (is_short s) (Some s) None) (text_is v h)
    (λ s k. if_passed IsOfBytes (is_short s) s (λ e. k))

-- the label that a value is
label_is : (v : Value) → IsSendable v → IfSome (label_in v) IsLabel
label_is =
    value_induction (λ v. IsSendable v → Read (label_in v)) (λ h. subst Read (sym of_Nil) tt)
    (λ z h. subst Read (sym (of_Num z)) tt) (λ s h. subst Read (sym (of_Text s)) (short s h))
    (λ o h. subst Read (sym (of_Obj o)) tt) (λ vs ih h. subst Read (sym (of_List vs)) tt)
  where
    Read : Option (Option (Listed ℕ)) → Type 0
    Read o = IfSome o IsLabel

    of_Nil : label_in Nil ≡ Some None
    of_Nil = search (rules, the_lemmas)

    of_Num : (z : ℤ) → label_in (Num z) ≡ None
    of_Num z = search (rules, the_lemmas)

    of_Text : (s : Listed ℕ) → label_in (Text s) ≡ cond (is_short s) (Some (Some s)) None
    of_Text s = search (rules, the_lemmas)

    of_Obj : (o : ObjectName) → label_in (Obj o) ≡ None
    of_Obj o = search (rules, the_lemmas)

    of_List : (vs : Listed Value) → label_in (List vs) ≡ None
    of_List vs = search (rules, the_lemmas)

    short : (s : Listed ℕ) → IsSendable (Text s) →
        Read (cond (is_short s) (Some (Some s)) None)
    short s h =
        if_passed IsLabel (is_short s) (Some s)
        (λ e. sym (atoms-Text s) ∙ sendable_atoms (Text s) h)

-- the registration that five values are
pub registration_is : (observer selector name about behaviour : Value) → IsSendable selector →
    IsSendable name → IsSendable about →
    IfSome (registration_from observer selector name about behaviour) IsRegistered
registration_is observer selector name about behaviour h k q =
    if_any IsRegistered (object observer) (λ o. selector_in selector >>? λ s. label_in name >>? λ n.
    label_in about >>? λ a. behaviour_in behaviour >>? λ b. Some (made o s n a b))
    (λ o. if_then IsOfBytes IsRegistered (selector_in selector) (λ s. label_in name >>? λ n.
    label_in about >>? λ a. behaviour_in behaviour >>? λ b. Some (made o s n a b))
    (selector_is selector h)
    (λ s p. if_then IsLabel IsRegistered (label_in name) (λ n. label_in about >>? λ a.
    behaviour_in behaviour >>? λ b. Some (made o s n a b)) (label_is name k)
    (λ n r. if_then IsLabel IsRegistered (label_in about)
    (λ a. behaviour_in behaviour >>? λ b. Some (made o s n a b)) (label_is about q)
    (λ a t. if_any IsRegistered (behaviour_in behaviour) (λ b. Some (made o s n a b))
    (λ b. (p, (r, t)))))))
  where
    made : ObjectName → Listed ℕ → Option (Listed ℕ) → Option (Listed ℕ) → Suspension →
        Registration
    made o s n a b = record { observer = o; selector = s; name = n; object = a; behaviour = b }

-- the registration that a value is
row_is : (v : Value) → IsSendable v → IfSome (registration_in v) IsRegistered
row_is =
    by_items (λ o v. IsSendable v → IfSome (o >>? registration_of) IsRegistered) (λ v h. tt)
    (λ vs h. of vs (items_sendable vs h))
  where
    of : (vs : Listed Value) → AreSendable vs → IfSome (registration_of vs) IsRegistered
    of [] h = tt
    of (a ∷ []) h = tt
    of (a ∷ b ∷ []) h = tt
    of (a ∷ b ∷ c ∷ []) h = tt
    of (a ∷ b ∷ c ∷ d ∷ []) h = tt
    of (a ∷ b ∷ c ∷ d ∷ e ∷ []) h = registration_is a b c d e h.1.0 h.1.1.0 h.1.1.1.0
    of (a ∷ b ∷ c ∷ d ∷ e ∷ f ∷ vs) h = tt

-- the notification that three values are
pub note_is : (name about info : Value) → IsSendable name → IsSendable about → IsSendable info →
    IfSome (note_in name about info) IsPosted
note_is name about info h k q =
    if_then IsOfBytes IsPosted (posted_name name) (λ s. label_in about >>? λ o.
    info_in info >>? λ i. Some (made s o i)) (name_is name h)
    (λ s p. if_then IsLabel IsPosted (label_in about) (λ o. info_in info >>? λ i.
    Some (made s o i)) (label_is about k)
    (λ o r. if_then HasAtoms IsPosted (info_in info) (λ i. Some (made s o i))
    (if_passed HasAtoms (info_within info 4) info (λ e. sendable_atoms info q))
    (λ i t. (p, (r, t)))))
  where
    made : Listed ℕ → Option (Listed ℕ) → Value → Note
    made s o i = record { name = s; object = o; info = i }

-- what a value says that waits
queued_is : (v : Value) → IsSendable v → IfSome (queued_in v) IsEntry
queued_is =
    by_items (λ o v. IsSendable v → IfSome (o >>? queued_of) IsEntry) (λ v h. tt)
    (λ vs h. of vs (items_sendable vs h))
  where
    made : ℕ → Note → Queued
    made k n = record { place = k; note = n }

    of : (vs : Listed Value) → AreSendable vs → IfSome (queued_of vs) IsEntry
    of [] h = tt
    of (a ∷ []) h = tt
    of (a ∷ b ∷ []) h = tt
    of (a ∷ b ∷ c ∷ []) h = tt
    of (a ∷ b ∷ c ∷ d ∷ []) h =
        if_any IsEntry (place_in a) (λ k. note_in b c d >>? λ n. Some (made k n))
        (λ k. if_then IsPosted IsEntry (note_in b c d) (λ n. Some (made k n))
        (note_is b c d h.1.0 h.1.1.0 h.1.1.1.0) (λ n p. p))
    of (a ∷ b ∷ c ∷ d ∷ e ∷ vs) h = tt

-- the observer with its queue that a value is
waiting_is : (v : Value) → IsSendable v → IfSome (waiting_in v) IsWaiting
waiting_is =
    by_items (λ o v. IsSendable v → IfSome (o >>? waiting_of) IsWaiting) (λ v h. tt)
    (λ vs h. of vs (items_sendable vs h))
  where
    made : ObjectName → Listed Queued → Waiting
    made o q = record { observer = o; queue = q }

    of : (vs : Listed Value) → AreSendable vs → IfSome (waiting_of vs) IsWaiting
    of [] h = tt
    of (a ∷ []) h = tt
    of (a ∷ b ∷ []) h =
        if_any IsWaiting (object a) (λ o. rows_in queued_in b >>? λ q. Some (made o q))
        (λ o. if_then (λ q. AllByRecursion IsEntry q) IsWaiting (rows_in queued_in b)
        (λ q. Some (made o q)) (rows_are IsEntry queued_in queued_is b h.1.0)
        (λ q p. All-from_recursion IsEntry q p))
    of (a ∷ b ∷ c ∷ vs) h = tt

-- the queue of an observer among others
among_is : (ws : Listed Waiting) (o : ObjectName) → AllByRecursion IsWaiting ws →
    AreEntries (queue_among ws o)
among_is [] o h = All-nil IsEntry
among_is (w ∷ ws) o h = go (same_object w.observer o) (among_is ws o h.1)
  where
    go : (b : Bool) → AreEntries (queue_among ws o) →
        AreEntries (cond b w.queue (queue_among ws o))
    go true k = h.0
    go false k = k

-- those behind it
others_are : (ws : Listed Waiting) (o : ObjectName) → AllByRecursion IsWaiting ws →
    AllByRecursion IsWaiting (without_first (λ (w : Waiting). w.observer) ws o)
others_are [] o h = tt
others_are (w ∷ ws) o h = go (same_object w.observer o) (others_are ws o h.1)
  where
    go : (b : Bool) →
        AllByRecursion IsWaiting (without_first (λ (x : Waiting). x.observer) ws o) →
        AllByRecursion IsWaiting
        (cond b ws (w ∷ without_first (λ (x : Waiting). x.observer) ws o))
    go true k = h.1
    go false k = (h.0, k)

-- registrations with queues
seated_are : (rs : Listed Registration) (ws : Listed Waiting) →
    AllByRecursion IsRegistered rs → AllByRecursion IsWaiting ws →
    AllByRecursion IsSeat (seated rs ws)
seated_are [] ws h k = tt
seated_are (r ∷ rs) ws h k = (
  (h.0, among_is ws r.observer k),
  seated_are rs (without_first (λ (w : Waiting). w.observer) ws r.observer) h.1
      (others_are ws r.observer k),
)

-- the core that is read from slots
pub core_is : (slots : Listed Value) → AreSendable slots → IfSome (from_slots slots) IsCoreOf
core_is [] h = tt
core_is (a ∷ []) h = tt
core_is (a ∷ b ∷ []) h = tt
core_is (a ∷ b ∷ c ∷ []) h =
    if_then (λ rs. AllByRecursion IsRegistered rs) IsCoreOf (rows_in registration_in a)
    (λ rs. rows_in object b >>? λ os. rows_in waiting_in c >>? λ ws. read rs os ws)
    (rows_are IsRegistered registration_in row_is a h.0)
    (λ rs p. if_any IsCoreOf (rows_in object b)
    (λ os. rows_in waiting_in c >>? λ ws. read rs os ws)
    (λ os. if_then (λ ws. AllByRecursion IsWaiting ws) IsCoreOf (rows_in waiting_in c) (read rs os)
    (rows_are IsWaiting waiting_in waiting_is c h.1.1.0)
    (λ ws q. if_passed IsCoreOf (is_core (core rs os ws) && same rs os ws) (core rs os ws)
    (λ e. (
      (and_parts (are_seats (seated rs ws)) (are_suspended os)
          (and_parts (is_core (core rs os ws)) (same rs os ws) e).0).0,
      All-from_recursion IsSeat (seated rs ws) (seated_are rs ws p q),
    )))))
  where
    core : Listed Registration → Listed ObjectName → Listed Waiting → Core
    core rs os ws = (seated rs ws, os)

    same : Listed Registration → Listed ObjectName → Listed Waiting → Bool
    same rs os ws = pointwise value_eq (to_slots (core rs os ws)) (a ∷ b ∷ c ∷ [])

    read : Listed Registration → Listed ObjectName → Listed Waiting → Option Core
    read rs os ws = of_core (a ∷ b ∷ c ∷ []) (core rs os ws)
core_is (a ∷ b ∷ c ∷ d ∷ vs) h = tt
