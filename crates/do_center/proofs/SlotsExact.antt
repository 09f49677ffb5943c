-- The slots of a core are read as that core, and only slots of a core are read.
use Rattle.std.proofs.Common.{◌≡◌, ℕ, pos, Bool, true, false, ◌&&◌, List as Listed, [], ◌∷◌, length}
use Rattle.std.proofs.Common.{Option, Some, None, map, refl, sym, ◌∙◌, ap, IsTrue, arith, zero, suc}
use Rattle.std.proofs.Common.{◌<◌, ◌≤◌, true≢false}
use Rattle.std.specs.Prelude.{if◌then◌else◌, nat_lt, not, ◌||◌, slice_get}
use Rattle.std.specs.{Cmp.Lexicographic.{pointwise, pointwise_decides}, List.{All, list_all}}
use Rattle.std.proofs.lemmas.{Bool.{and_parts, and_from, lt-ltb}, List.Elements.All-weaker}
use Rattle.do_base.specs.{names.Names.ObjectName, values.Equal.{value_eq, value_eq-Decides}}
use Rattle.do_base.specs.{values.Kinds.object, declared.values.value.Value.Value}
use Rattle.do_base.specs.declared.values.value.Value.TheVariants.{Num, Text, Obj}
use Rattle.do_grammar.specs.Words.{◌>>?◌}
use Rattle.do_native_acts.specs.{Rows.{rows_in, listed}, laws.KeptLaws.each_holds}
use Rattle.do_native_acts.specs.laws.KindLaws.{text_of_Text, number_of_Num, object_of_Obj}
use Rattle.do_native_acts.specs.laws.{KindLaws.{items_of_List, then_is}, RowLaws.read_shown}
use Rattle.do_center.specs.Notes.{info_in, info_within, is_label, is_note, is_short, label_in}
use Rattle.do_center.specs.{Notes.{label_value, note_in}, Observers.{same_object, without_first}}
use Rattle.do_center.specs.Registrations.{behaviour_in, behaviour_number, is_registration}
use Rattle.do_center.specs.Registrations.{number_of, registration_in, registration_of}
use Rattle.do_center.specs.Registrations.{registration_value, selector_in, takes_three}
use Rattle.do_center.specs.Seats.{Core, are_apart, are_seats, are_suspended, has_none, is_core}
use Rattle.do_center.specs.Seats.{is_none, is_of, registrations}
use Rattle.do_center.specs.Slots.{from_slots, of_core, place_in, place_number, queue_among}
use Rattle.do_center.specs.Slots.{queued_in, queued_of, queued_value, seated, to_slots, waiting}
use Rattle.do_center.specs.{Slots.{waiting_in, waiting_of, waiting_value}, declared.notes.Note.Note}
use Rattle.do_center.specs.declared.{queues.Queued.Queued, registrations.Registration.Registration}
use Rattle.do_center.specs.declared.{seats.Seat.Seat, slots.Waiting.Waiting}
use Rattle.do_center.specs.declared.suspension.Suspension.{Suspension, TheVariants.{Drop, Coalesce}}
use Rattle.do_center.specs.declared.suspension.Suspension.TheVariants.{Hold, DeliverImmediately}
use Rattle.do_center.specs.laws.CallsRead.{label_of_Nil, label_of_Text}
use Rattle.do_center.specs.laws.{QueueLaws.{registrations_fit, waiting_fit}, SameObject.same_refl}
use Rattle.do_center.proofs.{CoreKept.seats_parts, SeatsKept.{CameBy, IsGiven, IsSeat, MayWait}}

-- a queue of which nothing waits is empty
empty_of : (q : Listed Queued) → is_none q ≡ true → q ≡ []
empty_of [] is = refl
empty_of (e ∷ q) is = cc

-- a label is read as it was shown
label_back : (l : Option (Listed ℕ)) → is_label l ≡ true → label_in (label_value l) ≡ Some l
label_back None is = label_of_Nil
label_back (Some s) is = label_of_Text s ∙ ap (λ b. if b then Some (Some s) else None) is

-- a test that holds lets pass
lets_pass : {A : Type 0} (b : Bool) (x : A) → b ≡ true → (if b then Some x else None) ≡ Some x
lets_pass b x is = ap (λ c. if c then Some x else None) is

-- a behaviour is read as it was shown
behaviour_back : (b : Suspension) → behaviour_in (Num (pos (number_of b))) ≡ Some b
behaviour_back b = then_is behaviour_number (number_of_Num (pos (number_of b))) ∙ each b
  where
    each : (b : Suspension) → behaviour_number (pos (number_of b)) ≡ Some b
    each Drop = refl
    each Coalesce = refl
    each Hold = refl
    each DeliverImmediately = refl

-- a selector is read as it was shown
selector_back : (s : Listed ℕ) → takes_three s ≡ true → selector_in (Text s) ≡ Some s
selector_back s is =
    then_is (λ t. if takes_three t then Some t else None) (text_of_Text s)
    ∙ lets_pass (takes_three s) s is

-- a registration is read as it was shown
registration_back : (r : Registration) → is_registration r ≡ true
    → registration_in (registration_value r) ≡ Some r
registration_back r is =
    let parts = and_parts (takes_three r.selector && is_label r.name) (is_label r.object) is in
    let first = and_parts (takes_three r.selector) (is_label r.name) parts.0 in
    let n = label_value r.name in
    let a = label_value r.object in
    let b : Value = Num (pos (number_of r.behaviour)) in
    then_is registration_of
    (items_of_List (Obj r.observer ∷ Text r.selector ∷ n ∷ a ∷ b ∷ []))
    ∙ then_is (λ o. selector_in (Text r.selector) >>? λ s. label_in n >>? λ m. label_in a >>? λ l.
    behaviour_in b >>? λ c.
    Some (record { observer = o; selector = s; name = m; object = l; behaviour = c }))
    (object_of_Obj r.observer)
    ∙ then_is (λ s. label_in n >>? λ m. label_in a >>? λ l. behaviour_in b >>? λ c.
    Some (record { observer = r.observer; selector = s; name = m; object = l; behaviour = c }))
    (selector_back r.selector first.0)
    ∙ then_is (λ m. label_in a >>? λ l. behaviour_in b >>? λ c. Some (record {
      observer = r.observer;
      selector = r.selector;
      name = m;
      object = l;
      behaviour = c;
    })) (label_back r.name first.1)
    ∙ then_is (λ l. behaviour_in b >>? λ c. Some (record {
      observer = r.observer;
      selector = r.selector;
      name = r.name;
      object = l;
      behaviour = c;
    })) (label_back r.object parts.1)
    ∙ then_is (λ c. Some (record {
      observer = r.observer;
      selector = r.selector;
      name = r.name;
      object = r.object;
      behaviour = c;
    })) (behaviour_back r.behaviour)

-- a place is read as it was shown
place_back : (k : ℕ) → nat_lt k 4294967296 ≡ true → place_in (Num (pos k)) ≡ Some k
place_back k is =
    then_is place_number (number_of_Num (pos k)) ∙ lets_pass (nat_lt k 4294967296) k is

-- a notification is read as it was shown
note_back : (n : Note) → is_note n ≡ true
    → note_in (Text n.name) (label_value n.object) n.info ≡ Some n
note_back n is =
    let parts = and_parts (is_short n.name && is_label n.object) (info_within n.info 4) is in
    let first = and_parts (is_short n.name) (is_label n.object) parts.0 in
    then_is (λ s. label_in (label_value n.object) >>? λ o. info_in n.info >>? λ i.
    Some (record { name = s; object = o; info = i }))
    (then_is (λ t. if is_short t then Some t else None) (text_of_Text n.name)
    ∙ lets_pass (is_short n.name) n.name first.0)
    ∙ then_is (λ o. info_in n.info >>? λ i.
    Some (record { name = n.name; object = o; info = i })) (label_back n.object first.1)
    ∙ then_is (λ i. Some (record { name = n.name; object = n.object; info = i }))
    (lets_pass (info_within n.info 4) n.info parts.1)

-- what waits is read as it was shown
queued_back : (e : Queued) → nat_lt e.place 4294967296 ≡ true → is_note e.note ≡ true
    → queued_in (queued_value e) ≡ Some e
queued_back e small is =
    let l = label_value e.note.object in
    then_is queued_of
    (items_of_List (Num (pos e.place) ∷ Text e.note.name ∷ l ∷ e.note.info ∷ []))
    ∙ then_is (λ k. note_in (Text e.note.name) l e.note.info >>? λ n.
    Some (record { place = k; note = n })) (place_back e.place small)
    ∙ then_is (λ n. Some (record { place = e.place; note = n })) (note_back e.note is)

-- what stands at a place stands within the list
within : {A : Type 0} (test : Option A → Bool) (none : test None ≡ false) (xs : Listed A) (k : ℕ)
    → test (slice_get xs k) ≡ true → k < length xs
within test none [] k is = absurd (true≢false (sym is ∙ none))
within test none (x ∷ xs) zero is = omega arith
within test none (x ∷ xs) (suc k) is = omega (arith, within test none xs k is)

-- a place within few is small
small_place : (k n : ℕ) → k < n → n ≤ 256 → nat_lt k 4294967296 ≡ true
small_place k n lt le = lt-ltb k 4294967296 (omega (arith, lt, le))

module _ (rs : Listed Registration) (few : length rs ≤ 256) where
  -- what waits in a queue of an observer is read as it was shown
  queue_back : (o : ObjectName) (q : Listed Queued) → All (CameBy rs o) q
      → All (λ e. queued_in (queued_value e) ≡ Some e) q
  queue_back o q all =
      All-weaker (CameBy rs o) (λ (e : Queued). queued_in (queued_value e) ≡ Some e) (λ e came.
      let both = and_parts (is_of o (slice_get rs e.place)) (is_note e.note) came in
      queued_back e
      (small_place e.place (length rs) (within (is_of o) refl rs e.place both.0) few) both.1) q all

  -- an observer with its queue is read as it was shown
  waiting_back : (w : Waiting) → MayWait rs w.observer w.queue
      → waiting_in (waiting_value w) ≡ Some w
  waiting_back w may =
      let q = listed (map queued_value w.queue) in
      then_is waiting_of (items_of_List (Obj w.observer ∷ q ∷ []))
      ∙ then_is (λ o. rows_in queued_in q >>? λ es. Some (record { observer = o; queue = es }))
      (object_of_Obj w.observer)
      ∙ then_is (λ es. Some (record { observer = w.observer; queue = es }))
      (read_shown queued_in queued_value w.queue (queue_back w.observer w.queue may.1))

  -- and so are all
  all_back : (ss : Listed Seat) → All (IsSeat rs) ss
      → All (λ w. waiting_in (waiting_value w) ≡ Some w) (waiting ss)
  all_back ss all =
      All-weaker (λ (w : Waiting). MayWait rs w.observer w.queue)
      (λ (w : Waiting). waiting_in (waiting_value w) ≡ Some w) waiting_back (waiting ss)
      (waiting_fit IsGiven (MayWait rs) ss all)

-- registrations are read as they were shown
registrations_back : (rs : Listed Registration) (ss : Listed Seat) → All (IsSeat rs) ss
    → All (λ r. registration_in (registration_value r) ≡ Some r) (registrations ss)
registrations_back rs ss all =
    All-weaker IsGiven (λ (r : Registration). registration_in (registration_value r) ≡ Some r)
    registration_back (registrations ss) (registrations_fit IsGiven (MayWait rs) ss all)

-- an observer without queue is not among those that have one
none_among : (o : ObjectName) (ss : Listed Seat) → list_all (has_none o) ss ≡ true
    → (queue_among (waiting ss) o ≡ [])
    × (without_first (λ (w : Waiting). w.observer) (waiting ss) o ≡ waiting ss)
none_among o [] all = (refl, refl)
none_among o (s ∷ ss) all =
    let parts = and_parts (has_none o s) (list_all (has_none o) ss) all in
    by (is_none s.queue) (same_object s.registration.observer o) refl refl parts.0
    (none_among o ss parts.1)
  where
    w : Waiting
    w = record { observer = s.registration.observer; queue = s.queue }

    by : (b c : Bool) → is_none s.queue ≡ b → same_object s.registration.observer o ≡ c
        → (not (same_object s.registration.observer o) || is_none s.queue) ≡ true
        → (queue_among (waiting ss) o ≡ [])
        × (without_first (λ (x : Waiting). x.observer) (waiting ss) o ≡ waiting ss)
        → (queue_among (if b then waiting ss else w ∷ waiting ss) o ≡ [])
        × (without_first (λ (x : Waiting). x.observer) (if b then waiting ss else w ∷ waiting ss) o
        ≡ (if b then waiting ss else w ∷ waiting ss))
    by true c none same is rest = rest
    by false true none same is rest = cc
    by false false none same is rest = (
      ap (λ t. if t then s.queue else queue_among (waiting ss) o) same ∙ rest.0,
      ap (λ t. if t then waiting ss
          else w ∷ without_first (λ (x : Waiting). x.observer) (waiting ss) o) same
          ∙ ap (λ ws. w ∷ ws) rest.1,
    )

-- each queue is seated where it stood
seated_back : (ss : Listed Seat) → are_apart ss ≡ true
    → seated (registrations ss) (waiting ss) ≡ ss
seated_back [] apart = refl
seated_back (s ∷ ss) apart =
    let parts = and_parts (list_all (has_none s.registration.observer) ss) (are_apart ss) apart in
    by (is_none s.queue) refl (none_among s.registration.observer ss parts.0)
    (seated_back ss parts.1)
  where
    o : ObjectName
    o = s.registration.observer

    w : Waiting
    w = record { observer = o; queue = s.queue }

    seat : Listed Queued → Seat
    seat q = record { registration = s.registration; queue = q }

    by : (b : Bool) → is_none s.queue ≡ b
        → (queue_among (waiting ss) o ≡ [])
        × (without_first (λ (x : Waiting). x.observer) (waiting ss) o ≡ waiting ss)
        → seated (registrations ss) (waiting ss) ≡ ss
        → seated (s.registration ∷ registrations ss) (if b then waiting ss else w ∷ waiting ss)
        ≡ s ∷ ss
    by true none among rest =
        ap (λ q. seat q
        ∷ seated (registrations ss) (without_first (λ (x : Waiting). x.observer) (waiting ss) o))
        (among.0 ∙ sym (empty_of s.queue none))
        ∙ ap (λ ws. s ∷ seated (registrations ss) ws) among.1 ∙ ap (λ xs. s ∷ xs) rest
    by false none among rest =
        ap (λ t. seat (if t then s.queue else queue_among (waiting ss) o)
        ∷ seated (registrations ss) (if t then waiting ss
        else w ∷ without_first (λ (x : Waiting). x.observer) (waiting ss) o)) (same_refl o)
        ∙ ap (λ xs. s ∷ xs) rest

-- slots are equal to themselves
slots_same : (vs : Listed Value) → pointwise value_eq vs vs ≡ true
slots_same vs = (pointwise_decides value_eq-Decides vs vs).1 refl

-- the slots of a core are read as that core
pub from_to : (c : Core) → IsTrue (is_core c) → from_slots (to_slots c) ≡ Some c
from_to c is =
    let halves = and_parts (are_seats c.0) (are_suspended c.1) is in
    let parts = seats_parts c.0 halves.0 in
    let rs = registrations c.0 in
    let b = listed (map Obj c.1) in
    let w = listed (map waiting_value (waiting c.0)) in
    then_is (λ xs. rows_in object b >>? λ os. rows_in waiting_in w >>? λ ws.
    of_core (to_slots c) (seated xs ws, os))
    (read_shown registration_in registration_value rs (registrations_back rs c.0 parts.1.1))
    ∙ then_is (λ os. rows_in waiting_in w >>? λ ws. of_core (to_slots c) (seated rs ws, os))
    (read_shown object Obj c.1
    (each_holds (λ (o : ObjectName). object (Obj o) ≡ Some o) object_of_Obj c.1))
    ∙ then_is (λ ws. of_core (to_slots c) (seated rs ws, c.1))
    (read_shown waiting_in waiting_value (waiting c.0) (all_back rs parts.0 c.0 parts.1.1))
    ∙ ap (λ ss. of_core (to_slots c) (ss, c.1)) (seated_back c.0 parts.1.2)
    ∙ lets_pass (is_core c && pointwise value_eq (to_slots c) (to_slots c)) c
    (and_from (is_core c) (pointwise value_eq (to_slots c) (to_slots c)) is
    (slots_same (to_slots c)))
