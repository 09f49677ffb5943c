-- What a command comes to, by what was given and what came of it.
use Rattle.do_given.specs.declared.status.Status.TheVariants as answer
use Rattle.std.proofs.Common.{◌≡◌, ◌⊎◌, List, Option, Some, Ok, Err, inl, inr, subst, sym}
use Rattle.do_base.specs.declared.outside.shelf.NamedFile.{NamedFile}
use Rattle.do_given.specs.{declared.status.Status.Status, Reading.{OrUnread, Stops}}
use Rattle.do_given.proofs.{FilesTold.{no_err, read_is}, Stopping.must_give}
use Rattle.do_served.specs.Coming.{Because, ComesTo, OrNone, Ran}

-- a status that something that ran may end with
abbrev pub IsEnd : Status → Type 0
IsEnd answer.Ok = Unit {0}
IsEnd (answer.TurnsSpent n) = Unit {0}
IsEnd (answer.ChildFailed n end) = Unit {0}
IsEnd answer.LinkFault = Unit {0}
IsEnd answer.WriteFault = Unit {0}
IsEnd answer.Memory = Unit {0}
IsEnd status = ⊥

-- a status that a refusal may tell
abbrev pub IsRefusal : Status → Type 0
IsRefusal answer.Ok = ⊥
IsRefusal (answer.TurnsSpent n) = ⊥
IsRefusal (answer.ChildFailed n end) = ⊥
IsRefusal answer.LinkFault = ⊥
IsRefusal answer.WriteFault = ⊥
IsRefusal status = Unit {0}

module _ (ran refuses : Status → Type 0) (unread nothing : Type 0) where
  -- what ran is why a status came that it may end with
  pub because_ended : (status : Status) → IsEnd status → ran status
      → Because ran refuses unread nothing status
  because_ended answer.Ok is it = it
  because_ended (answer.Usage word) is it = absurd is
  because_ended answer.ReadFault is it = absurd is
  because_ended (answer.TooLong read limit) is it = absurd is
  because_ended (answer.BadWorld fault) is it = absurd is
  because_ended (answer.BadSchedule line) is it = absurd is
  because_ended answer.WriteFault is it = it
  because_ended (answer.TurnsSpent n) is it = it
  because_ended (answer.ChildFailed n end) is it = it
  because_ended answer.Memory is it = inr it
  because_ended answer.LinkFault is it = it
  because_ended (answer.BadRecord index line) is it = absurd is
  because_ended (answer.Contradiction index line) is it = absurd is

  -- what stopped a command before anything was done is why its status came
  pub because_stopped : ((st : Status) → refuses st → IsRefusal st) → nothing → (status : Status)
      → Stops unread ⊥ refuses status → Because ran refuses unread nothing status
  because_stopped told none answer.Ok stopped = absurd (told answer.Ok stopped)
  because_stopped told none (answer.Usage word) stopped = (stopped, none)
  because_stopped told none answer.ReadFault stopped = (stopped, none)
  because_stopped told none (answer.TooLong read limit) stopped = (stopped, none)
  because_stopped told none (answer.BadWorld fault) stopped = (stopped, none)
  because_stopped told none (answer.BadSchedule line) stopped = (stopped, none)
  because_stopped told none answer.WriteFault stopped = absurd stopped
  because_stopped told none (answer.TurnsSpent n) stopped =
      absurd (told (answer.TurnsSpent n) stopped)
  because_stopped told none (answer.ChildFailed n end) stopped =
      absurd (told (answer.ChildFailed n end) stopped)
  because_stopped told none answer.Memory stopped = inl none
  because_stopped told none answer.LinkFault stopped = absurd (told answer.LinkFault stopped)
  because_stopped told none (answer.BadRecord index line) stopped = (stopped, none)
  because_stopped told none (answer.Contradiction index line) stopped = (stopped, none)

-- a refusal that must be answered is answered so
refusal_is : {A : Type 0} (st status : Status) → OrUnread {A = A} (Err st) (Err status)
    → OrNone (status ≡ st) status
refusal_is st status (inl e) = inl (cc)
refusal_is st status (inr (inl e)) = inr (inl (cc))
refusal_is st status (inr (inr e)) = inr (inr (cc))

module _ {A : Type 0} (gives : Option (List NamedFile) → A → Type 0)
    (refuses : Option (List NamedFile) → Status → Type 0) (ends : A → Status → Type 0)
    (unread nothing : Type 0) (told : Option (List NamedFile)) where
  -- a command to which nothing was given comes to what stopped it
  pub comes_stopped : (status : Status) → ((st : Status) → refuses told st → IsRefusal st)
      → nothing → Stops unread ⊥ (refuses told) status
      → ((files : List NamedFile) (st : Status) → told ≡ Some files → refuses (Some files) st
      → OrUnread {A = A} (Err st) (Err status))
      → ((files : List NamedFile) (x : A) → told ≡ Some files → gives (Some files) x
      → OrUnread (Ok x) (Err status))
      → ComesTo gives refuses ends unread nothing told status
  comes_stopped status is_refusal none stopped refused accepts = record {
    why = because_stopped (Ran (gives told) ends) (refuses told) unread nothing is_refusal none
        status stopped;
    refused = λ files st is no. refusal_is st status (refused files st is no);
    complete = λ files x is given. inr (must_give x status (accepts files x is given));
  }

  -- a command to which something was given comes to what came of that
  pub comes_ended : (x : A) (status : Status) → gives told x
      → ((st : Status) → ends x st → IsEnd st)
      → ((status ≡ answer.Memory) × nothing) ⊎ ends x status
      → ((files : List NamedFile) (st : Status) → told ≡ Some files → refuses (Some files) st
      → OrUnread (Err st) (Ok x))
      → ((files : List NamedFile) (y : A) → told ≡ Some files → gives (Some files) y
      → OrUnread (Ok y) (Ok x))
      → ComesTo gives refuses ends unread nothing told status
  comes_ended x status given is_end (inl stopped) refused accepts = record {
    why = subst (Because (Ran (gives told) ends) (refuses told) unread nothing) (sym stopped.0)
        (inl stopped.1);
    refused = λ files st is no. absurd (no_err x st (refused files st is no));
    complete = λ files y is it. inr (inr stopped.0);
  }
  comes_ended x status given is_end (inr ended) refused accepts = record {
    why = because_ended (Ran (gives told) ends) (refuses told) unread nothing status
        (is_end status ended)
        (record { first = x; given = given; ended = ended });
    refused = λ files st is no. absurd (no_err x st (refused files st is no));
    complete = λ files y is it.
        inl (subst (λ z. ends z status) (sym (read_is x y (accepts files y is it))) ended);
  }
