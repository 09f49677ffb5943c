-- Notification centres keep what can be carried.
use Rattle.do_center.specs.laws.PostLaws as posting
use Rattle.do_kept.proofs.Acts as acts
use Rattle.std.proofs.Common.{◌≡◌, ◌+◌, ◌++◌, ◌*◌, ◌==◌, ℕ, Bool, true, false, cond, List as Listed}
use Rattle.std.proofs.Common.{[], ◌∷◌, length, refl}
use Rattle.std.specs.Prelude.{None, Option, Some, codes, nat_le, nat_lt, option_map, slice_get, ◌-◌}
use Rattle.std.specs.{Prelude.{◌/◌, ◌%◌}, List.All, Option.IfSome, Str.bytes_eq}
use Rattle.std.proofs.lemmas.{Bool.ltb-true, List.Elements.{All-cons, All-nil, All-push}}
use Rattle.do_base.specs.{names.Names.ObjectName, values.Kinds.{items, object}}
use Rattle.do_base.specs.declared.values.value.Value.{Value}
use Rattle.do_class.specs.Class.{Class}
use Rattle.do_grammar.specs.Words.{◌>>?◌}
use Rattle.do_behave.specs.{Steps.local, laws.ValueKinds.by_items, declared.act.Act.Act}
use Rattle.do_behave.specs.declared.{act.Act.TheVariants.Send, invocation.Invocation.Invocation}
use Rattle.do_native_acts.specs.{Places.returns, Steps.{fits, steps}, laws.FoundLaws.if_chosen}
use Rattle.do_native_acts.specs.laws.KeptLaws.{kept_at, kept_flat}
use Rattle.do_center.specs.Acts.{act_of, adds, call_in, center_act, delivering, delivers}
use Rattle.do_center.specs.Acts.{delivery_at as parts_at, few, first, found, keeps, kept, kept_in}
use Rattle.do_center.specs.Acts.{later, method_act, method_of, of_five, posts, readies, removes}
use Rattle.do_center.specs.{Acts.{suspends, truth_in}, Calls.{IsCall, does, with_suspended}}
use Rattle.do_center.specs.{Notes.{label_in, note_in}, Posting.{came_to_all, due}}
use Rattle.do_center.specs.Queues.{deliveries, delivered_at, delivery_at, queue_of, with_queue}
use Rattle.do_center.specs.Registrations.{registration_from, selector_in}
use Rattle.do_center.specs.{Removing.{goes, left_of, moved, new_places, seats_left}, Seats.Core}
use Rattle.do_center.specs.{Slots.{from_slots, to_slots}, declared.calls.Call.Call}
use Rattle.do_center.specs.declared.calls.Call.TheVariants.{Add, Post, Remove, Suspend}
use Rattle.do_center.specs.declared.{notes.{Delivery.Delivery, Note.Note}, queues.Queued.Queued}
use Rattle.do_center.specs.declared.{registrations.Registration.Registration, seats.Seat.Seat}
use Rattle.do_center.specs.laws.{CallsRead.call_good, PostLaws.came_kept}
use Rattle.do_center.specs.laws.QueueLaws.{coalesced_kept, enqueued_kept, left_fit, moved_kept}
use Rattle.do_center.{specs.laws.QueueLaws.{queue_fits, with_fits}, proofs.CoreKept.added_kept}
use Rattle.do_center.proofs.{CoreKept.{cleared_kept, posted_kept}, RemovedKept.left_kept}
use Rattle.do_limits.specs.{Sendable.{AreSendable, IsSendable}, SendableActs.KeepsSendable}
use Rattle.do_limits.proofs.scripts.{Locals.value_at, MadeLists.items_sendable}
use Rattle.do_kept.proofs.{Limited.atoms-Nil, notifications.OfBytes.{AreEntries, IsCoreOf}}
use Rattle.do_kept.proofs.notifications.OfBytes.{IsDelivery, IsEntry, IsPosted, IsRegistered}
use Rattle.do_kept.proofs.notifications.{OfBytes.IsSeat, Read.{core_is, note_is, registration_is}}
use Rattle.do_kept.proofs.notifications.Written.{deliveries_atoms, slots_atoms}
use Rattle.do_kept.proofs.ReadValues.{Taken, if_any, if_passed, if_then}

-- ---- calls

-- the queue of an observer
queue_is : (ss : Listed Seat) (o : ObjectName) → All IsSeat ss → AreEntries (queue_of ss o)
queue_is ss o h = queue_fits IsRegistered (λ p q. AreEntries q) ss o (All-nil IsEntry) h

-- registrations where it is another
with_are : (ss : Listed Seat) (o : ObjectName) (q : Listed Queued) → All IsSeat ss →
    AreEntries q → All IsSeat (with_queue ss o q)
with_are ss o q h k = with_fits IsRegistered (λ p r. AreEntries r) ss o q k h

-- a post keeps such registrations
post_keeps : posting.IsPosted (All IsSeat) (λ o q. AreEntries q) (λ o e. IsEntry e) IsEntry
post_keeps = record {
  queue = queue_is;
  none = λ o. All-nil IsEntry;
  replaced = with_are;
  pushed = λ o q e h k. enqueued_kept IsEntry q e h k;
  reduced = λ o q e h. coalesced_kept IsEntry q e h;
  due = λ o q h. h;
  new = λ o e h. h;
}

-- what waits is delivered
deliveries_are : (ss : Listed Seat) (q : Listed Queued) → All IsSeat ss → AreEntries q →
    All IsDelivery (deliveries ss q)
deliveries_are ss q h k =
    kept_flat IsEntry IsDelivery (delivery_at ss)
    (λ e p. one e.note (slice_get ss e.place) p (kept_at IsSeat ss e.place h)) q k
  where
    one : (n : Note) (o : Option Seat) → IsPosted n → IfSome o IsSeat →
        All IsDelivery (delivered_at n o)
    one n None p r = All-nil IsDelivery
    one n (Some s) p r = All-cons IsDelivery _ [] (r.0.0, p) (All-nil IsDelivery)

-- what is left once some registrations are gone
left_are : (out : Registration → Bool) (o : ObjectName) (ss : Listed Seat) → All IsSeat ss →
    All IsSeat (left_of out o ss)
left_are out o ss h =
    let ps = new_places out 0 ss in
    with_are (seats_left out ps ss) o (moved ps (queue_of ss o))
    (left_fit IsRegistered (λ p q. AreEntries q) (λ p q. AreEntries q) out ps
    (λ p q k. moved_kept IsEntry IsEntry ps (λ e n at r. r) q k) ss h)
    (moved_kept IsEntry IsEntry ps (λ e n at r. r) (queue_of ss o) (queue_is ss o h))

-- a call of a registration or a notification of such texts
abbrev IsCallOf : Call → Type 0
IsCallOf (Add r) = IsRegistered r
IsCallOf (Post note immediate) = IsPosted note
IsCallOf _ = Unit {0}

-- such a call, within its limits
abbrev IsGoodCall : Call → Type 0
IsGoodCall call = IsCall call × IsCallOf call

-- what is done leaves such a core, and delivers such notifications
abbrev IsDone : Core × Listed Delivery → Type 0
IsDone done = IsCoreOf done.0 × All IsDelivery done.1

-- a post under way
abbrev Posting : Type 0
Posting = Taken due

-- what a call does
done_is : (c : Core) (call : Call) → IsCoreOf c → IsGoodCall call → IfSome (does c call) IsDone
done_is c (Add r) h k = go (nat_lt (length c.0) 256) refl
  where
    seat : Seat
    seat = record { registration = r; queue = [] }

    go : (b : Bool) → nat_lt (length c.0) 256 ≡ b →
        IfSome (option_map (λ (d : Core). (d, [])) (cond b (Some (c.0 ++ seat ∷ [], c.1)) None))
        IsDone
    go true is = (
      (
        added_kept c.0 r (ltb-true (length c.0) 256 is) k.0 h.0,
        All-push IsSeat c.0 seat h.1 (k.1, All-nil IsEntry),
      ),
      All-nil IsDelivery,
    )
    go false is = tt
done_is c (Remove o name about) h k = (
  (left_kept (goes o name about) o c.0 h.0, left_are (goes o name about) o c.0 h.1),
  All-nil IsDelivery,
)
done_is c (Suspend o true) h k = go (with_suspended c.1 o)
  where
    go : (os : Option (Listed ObjectName)) →
        IfSome (option_map (λ (os : Listed ObjectName). ((c.0, os), [])) os) IsDone
    go None = tt
    go (Some os) = (h, All-nil IsDelivery)
done_is c (Suspend o false) h k = (
  (cleared_kept c.0 o h.0, with_are c.0 o [] h.1 (All-nil IsEntry)),
  deliveries_are c.0 (queue_of c.0 o) h.1 (queue_is c.0 o h.1),
)
done_is c (Post note immediate) h k =
    if_passed IsDone (nat_le (length p.due) 1024) ((p.seats, c.1), deliveries c.0 p.due) (λ e. (
      (posted_kept c.0 note immediate c.1 k.0 h.0, after.seats),
      deliveries_are c.0 p.due h.1 after.due,
    ))
  where
    p : Posting
    p = came_to_all note immediate c.1 c.0

    after : posting.IsKept (All IsSeat) IsEntry p
    after =
        came_kept post_keeps note immediate c.1 (λ ss n s all at. k.1) c.0 (length c.0) h.1

-- ---- acts

-- a method
abbrev Method : Type 0
Method = Taken kept_in

-- the selectors of the four
abbrev adding : Listed ℕ
adding = codes "addObserver:selector:name:object:suspensionBehavior:"

abbrev removing : Listed ℕ
removing = codes "removeObserver:name:object:"

abbrev suspending : Listed ℕ
suspending = codes "setSuspended:for:"

abbrev posted : Listed ℕ
posted = codes "postNotificationName:object:userInfo:deliverImmediately:"

-- the method of a selector, unless it is this one, whose method is this
abbrev unless : Listed ℕ → Listed ℕ → Option Method → Option Method
unless selector own other = cond (bytes_eq selector own) (method_of own) other

module _ (table : Listed Class) (inv : Invocation) (slots : Listed Value)
    (all : AreSendable inv.locals) (sixteen : length inv.locals ≡ 16)
    (of_slots : AreSendable slots) where
  -- an act with such values
  abbrev Sound : Act → Type 0
  Sound act = acts.Sound table inv all sixteen act

  -- such an act, or the fault of type
  abbrev MaySound : Option Act → Type 0
  MaySound o = acts.MaySound table inv all sixteen o

  -- what leads on from what a local holds
  local_is : (k : ℕ) (f : Value → Option Call) →
      ((v : Value) → IsSendable v → IfSome (f v) IsCallOf) → IfSome (local inv k >>? f) IsCallOf
  local_is k f each =
      if_then IsSendable IsCallOf (local inv k) f (value_at inv.locals k all) each

  -- the call that adds a registration
  adds_is : IfSome (adds inv) IsCallOf
  adds_is =
      local_is 0 (λ o. local inv 1 >>? λ s. local inv 2 >>? λ n. local inv 3 >>? λ a.
      local inv 4 >>? λ b. registration_from o s n a b >>? λ r. Some (Add r))
      (λ o h. local_is 1 (λ s. local inv 2 >>? λ n. local inv 3 >>? λ a.
      local inv 4 >>? λ b. registration_from o s n a b >>? λ r. Some (Add r))
      (λ s k. local_is 2 (λ n. local inv 3 >>? λ a.
      local inv 4 >>? λ b. registration_from o s n a b >>? λ r. Some (Add r))
      (λ n p. local_is 3 (λ a. local inv 4 >>? λ b.
      registration_from o s n a b >>? λ r. Some (Add r))
      (λ a q. local_is 4 (λ b. registration_from o s n a b >>? λ r. Some (Add r))
      (λ b t. if_then IsRegistered IsCallOf (registration_from o s n a b) (λ r. Some (Add r))
      (registration_is o s n a b k p q) (λ r u. u))))))

  -- the call that takes out registrations
  removes_is : IfSome (removes inv) IsCallOf
  removes_is =
      if_any IsCallOf (local inv 0 >>? object) (λ o. (local inv 1 >>? label_in) >>? λ n.
      (local inv 2 >>? label_in) >>? λ a. Some (Remove o n a))
      (λ o. if_any IsCallOf (local inv 1 >>? label_in) (λ n.
      (local inv 2 >>? label_in) >>? λ a. Some (Remove o n a))
      (λ n. if_any IsCallOf (local inv 2 >>? label_in) (λ a. Some (Remove o n a)) (λ a. tt)))

  -- the call that suspends or resumes
  suspends_is : IfSome (suspends inv) IsCallOf
  suspends_is =
      if_any IsCallOf (local inv 0 >>? truth_in) (λ on. (local inv 1 >>? object) >>? λ o.
      Some (Suspend o on))
      (λ on. if_any IsCallOf (local inv 1 >>? object) (λ o. Some (Suspend o on)) (λ o. tt))

  -- the call that posts
  posts_is : IfSome (posts inv) IsCallOf
  posts_is =
      local_is 0 (λ n. local inv 1 >>? λ a. local inv 2 >>? λ i.
      (local inv 3 >>? truth_in) >>? λ immediate. note_in n a i >>? λ note.
      Some (Post note immediate))
      (λ n h. local_is 1 (λ a. local inv 2 >>? λ i.
      (local inv 3 >>? truth_in) >>? λ immediate. note_in n a i >>? λ note.
      Some (Post note immediate))
      (λ a k. local_is 2 (λ i. (local inv 3 >>? truth_in) >>? λ immediate.
      note_in n a i >>? λ note. Some (Post note immediate))
      (λ i p. if_any IsCallOf (local inv 3 >>? truth_in) (λ immediate. note_in n a i >>? λ note.
      Some (Post note immediate))
      (λ immediate. if_then IsPosted IsCallOf (note_in n a i) (λ note. Some (Post note immediate))
      (note_is n a i h k p) (λ note q. q)))))

  -- a method whose call is such a one
  abbrev Calls : Method → Type 0
  Calls m = IfSome (call_in m inv) IsCallOf

  -- the method of each selector
  calls : (selector : Listed ℕ) → IfSome (method_of selector) Calls
  calls selector =
      let last = unless selector posted None in
      let later = unless selector suspending last in
      if_chosen Calls (bytes_eq selector adding) (method_of adding)
      (unless selector removing later) adds_is
      (if_chosen Calls (bytes_eq selector removing) (method_of removing) later removes_is
      (if_chosen Calls (bytes_eq selector suspending) (method_of suspending) last suspends_is
      (if_chosen Calls (bytes_eq selector posted) (method_of posted) None posts_is tt)))

  -- such a call is within its limits
  call_is : (m : Method) → Calls m → IfSome (call_in m inv) IsGoodCall
  call_is m h = both (call_in m inv) (call_good m inv) h
    where
      both : (o : Option Call) → ((call : Call) → o ≡ Some call → IsCall call) →
          IfSome o IsCallOf → IfSome o IsGoodCall
      both None good h = tt
      both (Some call) good h = (good call refl, h)

  -- the first act
  first_sound : (m : Method) → Calls m → MaySound (first m inv slots)
  first_sound m is =
      acts.then_sound table inv all sixteen IsCoreOf (from_slots slots)
      (λ core. call_in m inv >>? λ call. Some (fits (does core call) (keeps m inv slots)))
      (core_is slots of_slots)
      (λ core h. acts.then_sound table inv all sixteen IsGoodCall (call_in m inv)
      (λ call. Some (fits (does core call) (keeps m inv slots))) (call_is m is)
      (λ call k. acts.fits_sound table inv all sixteen IsDone (does core call) (keeps m inv slots)
      (done_is core call h k)
      (λ done p. acts.keeps_sound table inv all sixteen 1 (kept m done.1) inv.handler slots
      (to_slots done.0) (deliveries_atoms done.1 p.1, (atoms-Nil, tt))
      (slots_atoms done.0 p.0))))

  -- what five parts lead to
  five_sound : (f : Value → Value → Value → Value → Value → Option Act) (parts : Listed Value) →
      AreSendable parts →
      ((a b c d e : Value) → AreSendable (a ∷ b ∷ c ∷ d ∷ e ∷ []) → MaySound (f a b c d e)) →
      MaySound (of_five f parts)
  five_sound f [] h each = acts.type_fault table inv all sixteen
  five_sound f (a ∷ []) h each = acts.type_fault table inv all sixteen
  five_sound f (a ∷ b ∷ []) h each = acts.type_fault table inv all sixteen
  five_sound f (a ∷ b ∷ c ∷ []) h each = acts.type_fault table inv all sixteen
  five_sound f (a ∷ b ∷ c ∷ d ∷ []) h each = acts.type_fault table inv all sixteen
  five_sound f (a ∷ b ∷ c ∷ d ∷ e ∷ []) h each = each a b c d e h
  five_sound f (a ∷ b ∷ c ∷ d ∷ e ∷ g ∷ more) h each = acts.type_fault table inv all sixteen

  -- the step before a delivery
  readies_sound : (parts : Listed Value) → AreSendable parts → MaySound (readies inv parts)
  readies_sound parts h =
      five_sound (λ observer selector name about info.
      Some (steps inv (inv.pc + 1) [] (Some (record { into = 15; pc = inv.pc + 2 })) [])) parts h
      (λ a b c d e k. acts.sets_sound table inv all sixteen (inv.pc + 1) []
      (Some (record { into = 15; pc = inv.pc + 2 })) tt)

  -- a delivery
  delivers_sound : (parts : Listed Value) → AreSendable parts → MaySound (delivers inv parts)
  delivers_sound parts h =
      five_sound (λ observer selector name about info. selector_in selector >>? λ s.
      Some (Send observer s (name ∷ about ∷ info ∷ []) 13 (13 ∷ 13 ∷ 13 ∷ []) (inv.pc + 1))) parts h
      (λ a b c d e k. acts.whatever_sound table inv all sixteen (selector_in b)
      (λ s. Some (Send a s (c ∷ d ∷ e ∷ []) 13 (13 ∷ 13 ∷ 13 ∷ []) (inv.pc + 1)))
      (λ s. ((k.0, k.1.1), (tt, (tt, tt)))))

  -- the items of a value
  items_are : (v : Value) → IsSendable v → IfSome (items v) AreSendable
  items_are = by_items (λ o v. IsSendable v → IfSome o AreSendable) (λ v h. tt) items_sendable

  -- the deliveries that the first step kept
  found_are : (m : Method) → IfSome (found m inv) AreSendable
  found_are m =
      if_then AreSendable AreSendable (local inv (kept_in m) >>? items) few
      (if_then IsSendable AreSendable (local inv (kept_in m)) items
      (value_at inv.locals (kept_in m) all) items_are)
      (λ ds h. if_passed AreSendable (nat_le (length ds) 1024) ds (λ e. h))

  -- each act of deliveries
  delivering_sound : (ds : Listed Value) (place : ℕ) → AreSendable ds →
      MaySound (delivering inv ds place)
  delivering_sound ds place h =
      acts.one_sound table inv all sixteen (place == 2 * length ds) (returns inv) _
      (acts.returns_sound table inv all sixteen)
      (acts.then_sound table inv all sixteen AreSendable (parts_at ds (place / 2))
      (λ parts. cond (place % 2 == 0) (readies inv parts) (delivers inv parts))
      (if_then IsSendable AreSendable (slice_get ds (place / 2)) items
      (value_at ds (place / 2) h) items_are)
      (λ parts k. acts.one_sound table inv all sixteen (place % 2 == 0) (readies inv parts)
      (delivers inv parts) (readies_sound parts k) (delivers_sound parts k)))

  -- each act of a method
  act_sound : (m : Method) → Calls m → MaySound (act_of m inv slots)
  act_sound m is =
      acts.one_sound table inv all sixteen (inv.pc == 0) (first m inv slots)
      (later m inv (inv.pc - 1)) (first_sound m is)
      (acts.then_sound table inv all sixteen AreSendable (found m inv)
      (λ ds. delivering inv ds (inv.pc - 1)) (found_are m)
      (λ ds h. delivering_sound ds (inv.pc - 1) h))

-- centres keep what can be carried
pub centers_keep : (table : Listed Class) → KeepsSendable table center_act
centers_keep table inv slots all sixteen of_slots =
    acts.selector_sound table inv all sixteen (λ selector. method_act selector inv slots)
    (λ selector. acts.then_sound table inv all sixteen (Calls table inv slots all sixteen of_slots)
    (method_of selector) (λ m. act_of m inv slots)
    (calls table inv slots all sixteen of_slots selector)
    (act_sound table inv slots all sixteen of_slots))
