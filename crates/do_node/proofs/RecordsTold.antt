-- What is answered of the files of records, one behind another.
use Rattle.do_sched.specs.declared.fault.SchedFault.TheVariants as sched
use Rattle.std.proofs.Common.{◌≡◌, ◌≤◌, ℕ, ◌+◌, List, [], ◌∷◌, ◌++◌, length, Option, Some, ◌-◌}
use Rattle.std.proofs.Common.{Result, Ok, Err, inl, inr, ap, arith, drop, get_or, sym, subst, refl}
use Rattle.std.proofs.{Common.{take, ◌∙◌}, Math.Seq.take-length}
use Rattle.do_base.specs.declared.outside.shelf.NamedFile.{NamedFile}
use Rattle.do_machine.specs.declared.state.Seat.{Seat}
use Rattle.do_record.specs.declared.parts.Record.{Record}
use Rattle.do_sched.specs.{Answers.AnswersWith, declared.fault.SchedFault.SchedFault}
use Rattle.do_woven.specs.Judging.{judged}
use Rattle.do_given.specs.{declared.status.Status.Status, Reading.{OrMemory, OrUnread, Stops}}
use Rattle.do_node.specs.Records.{AnyUnread, IsNoRecord, SayNoRecords, SayRecords, SaysNoRecord}
use Rattle.do_node.specs.Records.{SaysRecord, told_of_record}
use Rattle.do_given.proofs.{FilesTold.{no_err, read_is}, BothGiven.unread_earlier}

module _ (seats : List Seat) (earlier : List Record) (bytes : List ℕ) where
  -- where bytes are no record, the answer says so
  pub no_record_stops : (fault : SchedFault) → AnswersWith (judged seats earlier bytes) (Err fault)
      → Stops ⊥ ⊥ (IsNoRecord seats earlier bytes) (told_of_record (length earlier + 1) fault)
  no_record_stops (sched.BadLine n) is =
      record { fault = sched.BadLine n; is_fault = sym is; tells = refl }
  no_record_stops (sched.TooMany n) is =
      record { fault = sched.TooMany n; is_fault = sym is; tells = refl }
  no_record_stops (sched.NoEnd n) is =
      record { fault = sched.NoEnd n; is_fault = sym is; tells = refl }
  no_record_stops sched.Memory is = tt

  -- bytes that are a record are refused only where memory ran out
  pub record_must_be : (fault : SchedFault) (r : Record) (index : ℕ)
      → AnswersWith (judged seats earlier bytes) (Err fault)
      → judged seats earlier bytes ≡ Ok r → OrMemory (Ok r) (Err (told_of_record index fault))
  record_must_be (sched.BadLine n) r index is said = absurd (cc)
  record_must_be (sched.TooMany n) r index is said = absurd (cc)
  record_must_be (sched.NoEnd n) r index is said = absurd (cc)
  record_must_be sched.Memory r index is said = inr refl

  -- the fault that is told is the one that must be
  same_fault : (fault : SchedFault) (status : Status) → Err fault ≡ judged seats earlier bytes
      → IsNoRecord seats earlier bytes status
      → ◌≡◌ {A = Result Record Status} (Err (told_of_record (length earlier + 1) fault))
      (Err status)
  same_fault fault status is bad =
      let both : ◌≡◌ {A = Result Record SchedFault} (Err fault) (Err bad.fault) =
      is ∙ bad.is_fault in
      let one : fault ≡ bad.fault = cc in
      ap (λ f. Err (told_of_record (length earlier + 1) f)) one ∙ ap (λ s. Err s) (sym bad.tells)

  -- bytes that are none are refused with their fault
  pub refusal_must_be : (fault : SchedFault) (status : Status)
      → AnswersWith (judged seats earlier bytes) (Err fault)
      → IsNoRecord seats earlier bytes status
      → OrMemory {A = Record} (Err status) (Err (told_of_record (length earlier + 1) fault))
  refusal_must_be (sched.BadLine n) status is bad =
      inl (same_fault (sched.BadLine n) status is bad)
  refusal_must_be (sched.TooMany n) status is bad =
      inl (same_fault (sched.TooMany n) status is bad)
  refusal_must_be (sched.NoEnd n) status is bad = inl (same_fault (sched.NoEnd n) status is bad)
  refusal_must_be sched.Memory status is bad = inr refl

-- files that a part of a call could not read, the whole could not read
pub any_unread_earlier : (told : Option (List NamedFile)) (before mid now : ℕ)
    (names : List (List ℕ))
    → before ≤ mid → AnyUnread told mid now names → AnyUnread told before now names
any_unread_earlier told before mid now [] le unread = unread
any_unread_earlier told before mid now (name ∷ names) le (inl unread) =
    inl (unread_earlier told before mid now name le unread)
any_unread_earlier told before mid now (name ∷ names) le (inr unread) =
    inr (any_unread_earlier told before mid now names le unread)

module _ (seats : List Seat) (earlier : List Record) (name : List ℕ) (names : List (List ℕ)) where
  -- where the first record was read, a refusal is that of the others
  pub later_records_refuse : (files : List NamedFile) (r : Record) (more : List Record)
      (wanted : Type 0) (st : Status) → more ≡ earlier ++ r ∷ []
      → (SaysNoRecord (Some files) seats earlier name st → OrUnread (Err st) (Ok r))
      → ((s : Record) → SaysRecord (Some files) seats earlier name s → OrUnread (Ok s) (Ok r))
      → (SayNoRecords (Some files) seats more names st → wanted)
      → SayNoRecords (Some files) seats earlier (name ∷ names) st → wanted
  later_records_refuse files r more wanted st with_it refuses accepts goes (inl none) =
      absurd (no_err r st (refuses none))
  later_records_refuse files r more wanted st with_it refuses accepts goes (inr later) =
      let one : later.0 ≡ r = read_is r later.0 (accepts later.0 later.1) in
      goes (rw with_it
      (subst (λ s. SayNoRecords (Some files) seats (earlier ++ s ∷ []) names st) one later.2))

  -- and the records are those of the others behind it
  pub later_records_say : (files : List NamedFile) (r : Record) (more records : List Record)
      → more ≡ earlier ++ r ∷ []
      → ((s : Record) → SaysRecord (Some files) seats earlier name s → OrUnread (Ok s) (Ok r))
      → SayRecords (Some files) seats earlier (name ∷ names) records
      → SayRecords (Some files) seats more names records
  later_records_say files r more records with_it accepts say =
      let one : say.0 ≡ r = read_is r say.0 (accepts say.0 say.1) in
      rw with_it
      (subst (λ s. SayRecords (Some files) seats (earlier ++ s ∷ []) names records) one say.2)

-- names of which the first is at hand are that one and the others
pub names_split : (names : List (List ℕ)) (name : List ℕ) → 1 ≤ length names
    → name ≡ get_or names 0 name → names ≡ name ∷ take (length names - 1) (drop 1 names)
names_split [] name some is = absurd (omega (arith, some))
names_split (n ∷ ns) name some is =
    let same : name ≡ n = is in
    let left : length (n ∷ ns) - 1 ≡ length ns = omega arith in
    let rest : take (length (n ∷ ns) - 1) ns ≡ ns =
    ap (λ k. take k ns) left ∙ take-length ns in
    ap (λ m. m ∷ ns) (sym same) ∙ ap (λ ms. name ∷ ms) (sym rest)
