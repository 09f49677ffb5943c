-- The objects and the information of a core, and those of the slots that it has.
use Rattle.std.proofs.Common.{◌≡◌, ℕ, pos, List as Listed, [], ◌∷◌, Option, Some, None, map}
use Rattle.std.specs.{Prelude.if◌then◌else◌, List.All}
use Rattle.std.proofs.lemmas.List.Elements.{All-nil, All-cons, All-head, All-tail, All-weaker}
use Rattle.do_base.specs.{names.Names.ObjectName, declared.values.value.Value.Value}
use Rattle.do_base.specs.declared.values.value.Value.TheVariants.{Num, Text, Obj}
use Rattle.do_behave.specs.declared.invocation.Invocation.{Invocation}
use Rattle.do_native_acts.specs.{Rows.listed, laws.GoodSteps.SetsNamed}
use Rattle.do_native_acts.specs.laws.NamedValues.{EachNamed, Named, NamedObject, core_read}
use Rattle.do_native_acts.specs.laws.NamedValues.{list_named, list_of_parts, nil_named}
use Rattle.do_native_acts.specs.laws.NamedValues.{number_named, parts_of_list, rows_to, slot_from}
use Rattle.do_native_acts.specs.laws.NamedValues.{slot_to, text_named}
use Rattle.do_center.specs.{Acts.kept, Notes.{delivery_value, label_value}, Registrations.number_of}
use Rattle.do_center.specs.{Registrations.registration_value, Seats.{Core, is_none, registrations}}
use Rattle.do_center.specs.Slots.{from_slots, queued_value, to_slots, waiting, waiting_value}
use Rattle.do_center.specs.declared.{methods.Method.Method, notes.Delivery.Delivery}
use Rattle.do_center.specs.declared.{queues.Queued.Queued, registrations.Registration.Registration}
use Rattle.do_center.specs.declared.{seats.Seat.Seat, slots.Waiting.Waiting}
use Rattle.do_center.specs.laws.CoreRead.{read_back}
use Rattle.do_center.specs.laws.QueueLaws.{Fits, registrations_fit, waiting_fit}

module _ (inv : Invocation) (slots : Listed Value) where
  -- a registration whose observer may be named
  abbrev pub NamedRegistration : Registration → Type 0
  NamedRegistration r = NamedObject inv slots r.observer

  -- what waits, with information that may be named
  abbrev pub NamedEntry : Queued → Type 0
  NamedEntry e = Named inv slots e.note.info

  -- a queue of such
  abbrev pub NamedQueue : Listed Queued → Type 0
  NamedQueue q = All NamedEntry q

  -- an observer that may be named, with such a queue
  abbrev NamedWaiting : Waiting → Type 0
  NamedWaiting w = NamedObject inv slots w.observer × NamedQueue w.queue

  -- a registration whose observer may be named, with such a queue
  abbrev pub NamedSeat : Seat → Type 0
  NamedSeat s = Fits NamedRegistration (λ o q. NamedQueue q) s

  -- registrations of such
  abbrev pub NamedSeats : Listed Seat → Type 0
  NamedSeats ss = All NamedSeat ss

  -- a core whose objects and information may be named
  pub record NamedCore (c : Core) : Type 0 where
    pub seats : NamedSeats c.0
    pub suspended : All (NamedObject inv slots) c.1

  -- a delivery to an observer that may be named, with information that may be
  pub record NamedDelivery (d : Delivery) : Type 0 where
    pub observer : NamedObject inv slots d.observer
    pub info : Named inv slots d.note.info

  -- a label names no object
  label_named : (l : Option (Listed ℕ)) → Named inv slots (label_value l)
  label_named None = nil_named inv slots
  label_named (Some s) = text_named inv slots s

  -- the observer of a row may be named where the row may
  registration_from : (r : Registration) → Named inv slots (registration_value r)
      → NamedRegistration r
  registration_from r named = (parts_of_list inv slots _ named).0

  -- and the other way round
  registration_to : (r : Registration) → NamedRegistration r
      → Named inv slots (registration_value r)
  registration_to r named =
      let behaviour = number_named inv slots (pos (number_of r.behaviour)) in
      list_of_parts inv slots
      (Obj r.observer ∷ Text r.selector ∷ label_value r.name ∷ label_value r.object
      ∷ Num (pos (number_of r.behaviour)) ∷ []) (
        named,
        (
          text_named inv slots r.selector,
          (label_named r.name, (label_named r.object, (behaviour, tt))),
        ),
      )

  -- the information of what waits may be named where its row may
  entry_from : (e : Queued) → Named inv slots (queued_value e) → NamedEntry e
  entry_from e named = (parts_of_list inv slots _ named).1.1.1.0

  -- and the other way round
  entry_to : (e : Queued) → NamedEntry e → Named inv slots (queued_value e)
  entry_to e named =
      list_of_parts inv slots
      (Num (pos e.place) ∷ Text e.note.name ∷ label_value e.note.object ∷ e.note.info ∷ []) (
        number_named inv slots (pos e.place),
        (text_named inv slots e.note.name, (label_named e.note.object, (named, tt))),
      )

  -- the observer and the queue of a row may be named where the row may
  waiting_from : (w : Waiting) → Named inv slots (waiting_value w) → NamedWaiting w
  waiting_from w named =
      let parts = parts_of_list inv slots (Obj w.observer ∷ listed (map queued_value w.queue) ∷ [])
      named in
      (parts.0, slot_from inv slots queued_value NamedEntry entry_from w.queue parts.1.0)

  -- and the other way round
  waiting_to : (w : Waiting) → NamedWaiting w → Named inv slots (waiting_value w)
  waiting_to w named =
      list_of_parts inv slots (Obj w.observer ∷ listed (map queued_value w.queue) ∷ [])
      (named.0, (slot_to inv slots queued_value NamedEntry entry_to w.queue named.1, tt))

  -- registrations with queues may be named where the registrations and the queues may
  seats_from : (ss : Listed Seat) → All NamedRegistration (registrations ss)
      → All NamedWaiting (waiting ss) → NamedSeats ss
  seats_from [] all queues = All-nil NamedSeat
  seats_from (s ∷ ss) all queues =
      let own = by s.queue queues in
      All-cons NamedSeat s ss
      (All-head NamedRegistration s.registration (registrations ss) all, own.0)
      (seats_from ss (All-tail NamedRegistration s.registration (registrations ss) all) own.1)
    where
      by : (q : Listed Queued)
          → All NamedWaiting (if is_none q then waiting ss
          else record { observer = s.registration.observer; queue = q } ∷ waiting ss)
          → NamedQueue q × All NamedWaiting (waiting ss)
      by [] rest = (All-nil NamedEntry, rest)
      by (e ∷ q) rest =
          let w : Waiting = record { observer = s.registration.observer; queue = e ∷ q } in
          ((All-head NamedWaiting w (waiting ss) rest).1, All-tail NamedWaiting w (waiting ss) rest)

  -- and so may the queues with their observers
  queues_to : (ss : Listed Seat) → NamedSeats ss → All NamedWaiting (waiting ss)
  queues_to ss all =
      let Q = λ (o : ObjectName) (q : Listed Queued). NamedObject inv slots o × NamedQueue q in
      waiting_fit NamedRegistration Q ss
      (All-weaker NamedSeat (Fits NamedRegistration Q) (λ s is. (is.0, (is.0, is.1))) ss all)

  -- a core that is read from the slots may be named
  pub core_from : (c : Core) → from_slots slots ≡ Some c → NamedCore c
  core_from =
      core_read inv slots from_slots to_slots NamedCore (read_back slots) (λ c each. record {
        seats =
            seats_from c.0
            (slot_from inv slots registration_value NamedRegistration registration_from
            (registrations c.0) each.0)
            (slot_from inv slots waiting_value NamedWaiting waiting_from (waiting c.0) each.1.1.0);
        suspended = slot_from inv slots Obj (NamedObject inv slots) (λ o it. it) c.1 each.1.0;
      })

  -- and so may the slots of a core that may be
  pub core_to : (c : Core) → NamedCore c → EachNamed inv slots (to_slots c)
  core_to c named = (
    slot_to inv slots registration_value NamedRegistration registration_to (registrations c.0)
        (registrations_fit NamedRegistration (λ o q. NamedQueue q) c.0 named.seats),
    (
      slot_to inv slots Obj (NamedObject inv slots) (λ o it. it) c.1 named.suspended,
      (
        slot_to inv slots waiting_value NamedWaiting waiting_to (waiting c.0)
            (queues_to c.0 named.seats),
        tt,
      ),
    ),
  )

  -- a delivery as a value may be named
  delivery_to : (d : Delivery) → NamedDelivery d → Named inv slots (delivery_value d)
  delivery_to d named =
      list_of_parts inv slots
      (Obj d.observer ∷ Text d.selector ∷ Text d.note.name ∷ label_value d.note.object
      ∷ d.note.info ∷ []) (
        named.observer,
        (
          text_named inv slots d.selector,
          (text_named inv slots d.note.name, (label_named d.note.object, (named.info, tt))),
        ),
      )

  -- the locals that keep deliveries may be named
  pub kept_named : (m : Method) (ds : Listed Delivery) → All NamedDelivery ds
      → SetsNamed inv slots (kept m ds)
  kept_named m ds all = (
    list_named inv slots (map delivery_value ds)
        (rows_to inv slots delivery_value NamedDelivery delivery_to ds all),
    (nil_named inv slots, tt),
  )
