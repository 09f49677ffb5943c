-- What stops a command, and what is answered where something must be.
use Rattle.do_given.specs.declared.status.Status.TheVariants as answer
use Rattle.std.proofs.Common.{◌≡◌, ◌⊎◌, Result, Ok, Err, inl, inr, ap}
use Rattle.do_given.specs.{declared.status.Status.Status, Reading.{OrUnread, Stops}}

-- a status that is answered where another must be
pub must_be : {A B : Type 0} (wanted status : Status) → OrUnread {A = A} (Err wanted) (Err status)
    → OrUnread {A = B} (Err wanted) (Err status)
must_be wanted status (inl e) = inl (cc)
must_be wanted status (inr (inl e)) = inr (inl (cc))
must_be wanted status (inr (inr e)) = inr (inr (cc))

-- what is answered where something must be given
pub must_give : {A : Type 0} (x : A) (status : Status) → OrUnread (Ok x) (Err status)
    → (status ≡ answer.ReadFault) ⊎ (status ≡ answer.Memory)
must_give x status (inl e) = absurd (cc)
must_give x status (inr (inl e)) = inl (cc)
must_give x status (inr (inr e)) = inr (cc)

-- a status that comes where something must be given may stand for any
pub give_any : {A B : Type 0} (x : A) (wanted : Result B Status) (status : Status)
    → OrUnread (Ok x) (Err status) → OrUnread wanted (Err status)
give_any x wanted status is = elim (must_give x status is) [
  | inl e ↦ inr (inl (ap (λ s. Err s) e))
  | inr e ↦ inr (inr (ap (λ s. Err s) e))
]

-- what stops a part stops the whole
pub stops_as : {u v f g : Type 0} {r s : Status → Type 0} → (u → v) → (f → g)
    → ((status : Status) → r status → s status) → (status : Status)
    → Stops u f r status → Stops v g s status
stops_as unread failed refuses answer.Ok stopped = refuses answer.Ok stopped
stops_as unread failed refuses (answer.Usage word) stopped = refuses (answer.Usage word) stopped
stops_as unread failed refuses answer.ReadFault stopped = unread stopped
stops_as unread failed refuses (answer.TooLong read limit) stopped =
    refuses (answer.TooLong read limit) stopped
stops_as unread failed refuses (answer.BadWorld fault) stopped =
    refuses (answer.BadWorld fault) stopped
stops_as unread failed refuses (answer.BadSchedule line) stopped =
    refuses (answer.BadSchedule line) stopped
stops_as unread failed refuses answer.WriteFault stopped = failed stopped
stops_as unread failed refuses (answer.TurnsSpent turns) stopped =
    refuses (answer.TurnsSpent turns) stopped
stops_as unread failed refuses (answer.ChildFailed index end) stopped =
    refuses (answer.ChildFailed index end) stopped
stops_as unread failed refuses answer.Memory stopped = tt
stops_as unread failed refuses answer.LinkFault stopped = refuses answer.LinkFault stopped
stops_as unread failed refuses (answer.BadRecord index line) stopped =
    refuses (answer.BadRecord index line) stopped
stops_as unread failed refuses (answer.Contradiction index line) stopped =
    refuses (answer.Contradiction index line) stopped
