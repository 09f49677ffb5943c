-- What a command that writes a text comes to, as a status tells it.
use Rattle.do_given.specs.declared.status.Status.TheVariants as answer
use Rattle.std.proofs.Common.{◌≡◌, ◌⊎◌, ℕ, List, Option, Result, Ok, Err, inl, inr, subst}
use Rattle.do_base.specs.declared.outside.shelf.NamedFile.{NamedFile}
use Rattle.std.specs.Prelude.{IsErrOf, IsOk}
use Rattle.do_cli.specs.declared.command.Command.{Command}
use Rattle.do_given.specs.{declared.status.Status.Status, Reading.Stops}
use Rattle.do_node.specs.Answering.{answer_of}
use Rattle.do_base.specs.outside.Causes.{Rose}
use Rattle.do_node.specs.Call.{CanWrite, Comes, HasUnread, IsRefusal, Obeys, Refuses}
use Rattle.do_node.{specs.Running.{Counts, EndsWith, IsRunEnd}, proofs.FrontsWritten.all_is_some}
use Rattle.do_node.proofs.RefusalsTold.{refusal_told, stops_no_word, stops_not_ok}

-- what stops a command and says what is wrong with a file is a refusal
stops_refused : (u f : Type 0) (refuses : Status → Type 0) (status : Status) → IsRefusal status
    → Stops u f refuses status → refuses status
stops_refused u f refuses answer.Ok is stopped = absurd is
stops_refused u f refuses (answer.Usage word) is stopped = absurd is
stops_refused u f refuses answer.ReadFault is stopped = absurd is
stops_refused u f refuses (answer.TooLong read limit) is stopped = stopped
stops_refused u f refuses (answer.BadWorld fault) is stopped = stopped
stops_refused u f refuses (answer.BadSchedule line) is stopped = stopped
stops_refused u f refuses answer.WriteFault is stopped = absurd is
stops_refused u f refuses (answer.TurnsSpent n) is stopped = absurd is
stops_refused u f refuses (answer.ChildFailed index end) is stopped = absurd is
stops_refused u f refuses answer.Memory is stopped = absurd is
stops_refused u f refuses answer.LinkFault is stopped = absurd is
stops_refused u f refuses (answer.BadRecord index line) is stopped = stopped
stops_refused u f refuses (answer.Contradiction index line) is stopped = stopped

-- what stops a command says of nothing that ran how it ended
stops_no_end : (u f : Type 0) (told : Option (List NamedFile)) (command : Command)
    (status : Status) → IsRunEnd status → Stops u f (Refuses told command) status → ⊥
stops_no_end u f told command answer.Ok is stopped = is
stops_no_end u f told command (answer.Usage word) is stopped = is
stops_no_end u f told command answer.ReadFault is stopped = is
stops_no_end u f told command (answer.TooLong read limit) is stopped = is
stops_no_end u f told command (answer.BadWorld fault) is stopped = is
stops_no_end u f told command (answer.BadSchedule line) is stopped = is
stops_no_end u f told command answer.WriteFault is stopped = is
stops_no_end u f told command (answer.TurnsSpent n) is stopped =
    refusal_told told command (answer.TurnsSpent n) stopped
stops_no_end u f told command (answer.ChildFailed index end) is stopped =
    refusal_told told command (answer.ChildFailed index end) stopped
stops_no_end u f told command answer.Memory is stopped = is
stops_no_end u f told command answer.LinkFault is stopped =
    refusal_told told command answer.LinkFault stopped
stops_no_end u f told command (answer.BadRecord index line) is stopped = is
stops_no_end u f told command (answer.Contradiction index line) is stopped = is

module _ (told : Option (List NamedFile)) (command : Command) (reads : Counts)
    (old new : Option (List ℕ)) (puts : Counts) where
  -- what stops the command
  abbrev Stopped : Status → Type 0
  Stopped = Stops (HasUnread told reads.before reads.now command)
      (Rose puts.before puts.now × CanWrite told command) (Refuses told command)

  -- a status stands for what was answered
  completed : (result : Result Unit Status) → IsOk result ⊎ IsErrOf result answer.Memory
      → EndsWith (answer_of result) command ⊎ (answer_of result ≡ answer.Memory)
  completed (Ok done) is = inl tt
  completed (Err status) (inl is) = absurd (cc)
  completed (Err status) (inr is) = inr (cc)

  -- the same where one of two others may
  must_answer : (result : Result Unit Status) (st : Status)
      → IsErrOf result st ⊎ IsErrOf result answer.ReadFault ⊎ IsErrOf result answer.Memory
      → (answer_of result ≡ st) ⊎ (answer_of result ≡ answer.ReadFault)
      ⊎ (answer_of result ≡ answer.Memory)
  must_answer (Ok done) st (inl is) = absurd (cc)
  must_answer (Ok done) st (inr (inl is)) = absurd (cc)
  must_answer (Ok done) st (inr (inr is)) = absurd (cc)
  must_answer (Err status) st (inl is) = inl (cc)
  must_answer (Err status) st (inr (inl is)) = inr (inl (cc))
  must_answer (Err status) st (inr (inr is)) = inr (inr (cc))

  -- a text that was written or not is answered by a status
  pub text_comes : (result : Result Unit Status) → Obeys told command reads old new puts result
      → Comes told command reads old new puts (answer_of result)
  text_comes (Ok done) o = record {
    no_word = λ word is. absurd (cc);
    unread = λ is. absurd (cc);
    refused = λ is. absurd is;
    refuses = λ files st is no. must_answer (Ok done) st (o.refuses files st is no);
    write_fault = λ is. absurd (cc);
    ends = λ is. absurd is;
    whole = λ is. o.whole;
    prefix = inr (all_is_some told command old new o.whole);
    nothing = λ is. absurd is;
    complete = λ files text is writes calm quiet. inl tt;
  }
  text_comes (Err status) o = record {
    no_word = λ word is. stops_no_word _ _ told command status word o.stopped is;
    unread = λ is. subst Stopped is o.stopped;
    refused = λ is. stops_refused _ _ (Refuses told command) status is o.stopped;
    refuses = λ files st is no. must_answer (Err status) st (o.refuses files st is no);
    write_fault = λ is. subst Stopped is o.stopped;
    ends = λ is. absurd (stops_no_end _ _ told command status is o.stopped);
    whole = λ is. absurd (stops_not_ok _ _ told command status o.stopped is);
    prefix = o.prefix;
    nothing = o.nothing;
    complete = λ files text is writes calm quiet.
        completed (Err status) (o.complete files text is writes calm quiet);
  }
