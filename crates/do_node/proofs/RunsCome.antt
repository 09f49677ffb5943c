-- What a command that runs something comes to, as a status tells it.
use Rattle.do_given.specs.declared.status.Status.TheVariants as answer
use Rattle.std.proofs.Common.{◌≡◌, ◌⊎◌, ℕ, List, Option, Some, inl, inr, subst, sym, refl}
use Rattle.do_base.specs.{outside.Causes.Rose, declared.outside.shelf.NamedFile.NamedFile}
use Rattle.do_cli.specs.declared.command.Command.{Command}
use Rattle.do_given.specs.declared.status.Status.{Status}
use Rattle.do_served.specs.Coming.{Because, ComesTo, OrNone, Ran}
use Rattle.do_node.specs.Call.{CanWrite, Comes, HasUnread, IsRefusal, Refuses, Writes, WritesAll}
use Rattle.do_node.specs.{Call.{WritesNothing, WritesSome}, Running.{Counts, EndsWith, IsRunEnd}}
use Rattle.do_node.proofs.{Obeying.all_are_read, FrontsWritten.all_is_some}
use Rattle.do_node.proofs.RefusalsTold.{refusal_told}

-- what an end of what ran says of what was written
abbrev pub EndSays : Option (List NamedFile) → Command → Option (List ℕ) → Option (List ℕ) → Counts
    → Status → Type 0
EndSays told command old new puts answer.Ok = WritesAll told command old new
EndSays told command old new puts (answer.TurnsSpent n) =
    EndsWith (answer.TurnsSpent n) command × WritesSome told command old new
EndSays told command old new puts (answer.ChildFailed index end) =
    EndsWith (answer.ChildFailed index end) command × WritesSome told command old new
EndSays told command old new puts answer.LinkFault =
    EndsWith answer.LinkFault command × (new ≡ old)
EndSays told command old new puts answer.WriteFault =
    Rose puts.before puts.now × WritesSome told command old new
EndSays told command old new puts answer.Memory = (new ≡ old) ⊎ WritesSome told command old new
EndSays told command old new puts status = ⊥

module _ (ran refuses : Status → Type 0) (unread nothing : Type 0) where
  -- a status comes of what ran, or nothing was done
  ran_or_nothing : (status : Status) → Because ran refuses unread nothing status
      → nothing ⊎ ran status
  ran_or_nothing answer.Ok why = inr why
  ran_or_nothing (answer.Usage word) why = inl why.1
  ran_or_nothing answer.ReadFault why = inl why.1
  ran_or_nothing (answer.TooLong read limit) why = inl why.1
  ran_or_nothing (answer.BadWorld fault) why = inl why.1
  ran_or_nothing (answer.BadSchedule line) why = inl why.1
  ran_or_nothing answer.WriteFault why = inr why
  ran_or_nothing (answer.TurnsSpent n) why = inr why
  ran_or_nothing (answer.ChildFailed index end) why = inr why
  ran_or_nothing answer.Memory why = why
  ran_or_nothing answer.LinkFault why = inr why
  ran_or_nothing (answer.BadRecord index line) why = inl why.1
  ran_or_nothing (answer.Contradiction index line) why = inl why.1

  -- how something ended is said of what ran
  end_ran : (status : Status) → IsRunEnd status → Because ran refuses unread nothing status
      → ran status
  end_ran answer.Ok is why = absurd is
  end_ran (answer.Usage word) is why = absurd is
  end_ran answer.ReadFault is why = absurd is
  end_ran (answer.TooLong read limit) is why = absurd is
  end_ran (answer.BadWorld fault) is why = absurd is
  end_ran (answer.BadSchedule line) is why = absurd is
  end_ran answer.WriteFault is why = absurd is
  end_ran (answer.TurnsSpent n) is why = why
  end_ran (answer.ChildFailed index end) is why = why
  end_ran answer.Memory is why = absurd is
  end_ran answer.LinkFault is why = why
  end_ran (answer.BadRecord index line) is why = absurd is
  end_ran (answer.Contradiction index line) is why = absurd is

  -- a refusal comes of what is refused
  refusal_refuses : (status : Status) → IsRefusal status → Because ran refuses unread nothing status
      → refuses status
  refusal_refuses answer.Ok is why = absurd is
  refusal_refuses (answer.Usage word) is why = absurd is
  refusal_refuses answer.ReadFault is why = absurd is
  refusal_refuses (answer.TooLong read limit) is why = why.0
  refusal_refuses (answer.BadWorld fault) is why = why.0
  refusal_refuses (answer.BadSchedule line) is why = why.0
  refusal_refuses answer.WriteFault is why = absurd is
  refusal_refuses (answer.TurnsSpent n) is why = absurd is
  refusal_refuses (answer.ChildFailed index end) is why = absurd is
  refusal_refuses answer.Memory is why = absurd is
  refusal_refuses answer.LinkFault is why = absurd is
  refusal_refuses (answer.BadRecord index line) is why = why.0
  refusal_refuses (answer.Contradiction index line) is why = why.0

module _ (told : Option (List NamedFile)) (command : Command) (old new : Option (List ℕ))
    (puts : Counts) where
  -- an end is one that the command has
  said_end : (status : Status) → IsRunEnd status → EndSays told command old new puts status
      → EndsWith status command
  said_end answer.Ok is said = absurd is
  said_end (answer.Usage word) is said = absurd is
  said_end answer.ReadFault is said = absurd is
  said_end (answer.TooLong read limit) is said = absurd is
  said_end (answer.BadWorld fault) is said = absurd is
  said_end (answer.BadSchedule line) is said = absurd is
  said_end answer.WriteFault is said = absurd is
  said_end (answer.TurnsSpent n) is said = said.0
  said_end (answer.ChildFailed index end) is said = said.0
  said_end answer.Memory is said = absurd is
  said_end answer.LinkFault is said = said.0
  said_end (answer.BadRecord index line) is said = absurd is
  said_end (answer.Contradiction index line) is said = absurd is

  -- so is each, where the output has no fault
  said_whole : ¬ Rose puts.before puts.now → (status : Status)
      → EndSays told command old new puts status
      → EndsWith status command ⊎ (status ≡ answer.Memory)
  said_whole quiet answer.Ok said = inl tt
  said_whole quiet (answer.Usage word) said = absurd said
  said_whole quiet answer.ReadFault said = absurd said
  said_whole quiet (answer.TooLong read limit) said = absurd said
  said_whole quiet (answer.BadWorld fault) said = absurd said
  said_whole quiet (answer.BadSchedule line) said = absurd said
  said_whole quiet answer.WriteFault said = absurd (quiet said.0)
  said_whole quiet (answer.TurnsSpent n) said = inl said.0
  said_whole quiet (answer.ChildFailed index end) said = inl said.0
  said_whole quiet answer.Memory said = inr refl
  said_whole quiet answer.LinkFault said = inl said.0
  said_whole quiet (answer.BadRecord index line) said = absurd said
  said_whole quiet (answer.Contradiction index line) said = absurd said

  -- a front of the text was written, or nothing
  said_some : (status : Status) → EndSays told command old new puts status
      → (new ≡ old) ⊎ WritesSome told command old new
  said_some answer.Ok said = inr (all_is_some told command old new said)
  said_some (answer.Usage word) said = absurd said
  said_some answer.ReadFault said = absurd said
  said_some (answer.TooLong read limit) said = absurd said
  said_some (answer.BadWorld fault) said = absurd said
  said_some (answer.BadSchedule line) said = absurd said
  said_some answer.WriteFault said = inr said.1
  said_some (answer.TurnsSpent n) said = inr said.1
  said_some (answer.ChildFailed index end) said = inr said.1
  said_some answer.Memory said = said
  said_some answer.LinkFault said = inl said.1
  said_some (answer.BadRecord index line) said = absurd said
  said_some (answer.Contradiction index line) said = absurd said

  -- before some ends nothing is written
  said_nothing : (status : Status) → WritesNothing status
      → EndSays told command old new puts status → new ≡ old
  said_nothing answer.Ok is said = absurd is
  said_nothing (answer.Usage word) is said = absurd said
  said_nothing answer.ReadFault is said = absurd said
  said_nothing (answer.TooLong read limit) is said = absurd said
  said_nothing (answer.BadWorld fault) is said = absurd said
  said_nothing (answer.BadSchedule line) is said = absurd said
  said_nothing answer.WriteFault is said = absurd is
  said_nothing (answer.TurnsSpent n) is said = absurd is
  said_nothing (answer.ChildFailed index end) is said = absurd is
  said_nothing answer.Memory is said = absurd is
  said_nothing answer.LinkFault is said = said.1
  said_nothing (answer.BadRecord index line) is said = absurd said
  said_nothing (answer.Contradiction index line) is said = absurd said

-- what a command gives, refuses and ends with, as its definitions say it
pub record IsOf {A : Type 0} (gives : Option (List NamedFile) → A → Type 0)
    (refuses : Option (List NamedFile) → Status → Type 0) (ends : A → Status → Type 0)
    (unread nothing : Type 0) (told : Option (List NamedFile)) (command : Command) (reads : Counts)
    (old new : Option (List ℕ)) (puts : Counts) : Type 0 where
  pub is_refused : (t : Option (List NamedFile)) (st : Status) → refuses t st → Refuses t command st
  pub is_refusal : (t : Option (List NamedFile)) (st : Status) → Refuses t command st → refuses t st
  pub is_unread : unread → HasUnread told reads.before reads.now command
  pub still : nothing → new ≡ old
  pub says : (x : A) (st : Status) → gives told x → ends x st
      → EndSays told command old new puts st
  pub given : (t : Option (List NamedFile)) (text : List ℕ) → Writes t command text
      → (x : A) × gives t x

module _ {A : Type 0} (gives : Option (List NamedFile) → A → Type 0)
    (refuses : Option (List NamedFile) → Status → Type 0) (ends : A → Status → Type 0)
    (unread nothing : Type 0) (told : Option (List NamedFile)) (command : Command) (reads : Counts)
    (old new : Option (List ℕ)) (puts : Counts) where
  -- why a status came
  abbrev Why : Status → Type 0
  Why = Because (Ran (gives told) ends) (refuses told) unread nothing

  -- what was written where nothing was done, or something ran
  run_some : (is : IsOf gives refuses ends unread nothing told command reads old new puts)
      → (status : Status) → nothing ⊎ Ran (gives told) ends status
      → (new ≡ old) ⊎ WritesSome told command old new
  run_some is status (inl none) = inl (is.still none)
  run_some is status (inr ran) = said_some told command old new puts status
      (is.says ran.first status ran.given ran.ended)

  -- and that it is nothing before some answers
  run_nothing : (is : IsOf gives refuses ends unread nothing told command reads old new puts)
      → (status : Status) → WritesNothing status → nothing ⊎ Ran (gives told) ends status
      → new ≡ old
  run_nothing is status before (inl none) = is.still none
  run_nothing is status before (inr ran) = said_nothing told command old new puts status before
      (is.says ran.first status ran.given ran.ended)

  -- where all is told and nothing fails, a command is carried out to its end
  run_complete : (is : IsOf gives refuses ends unread nothing told command reads old new puts)
      → (status : Status) → Why status → (files : List NamedFile) (text : List ℕ) (x : A)
      → told ≡ Some files → Writes (Some files) command text → gives (Some files) x
      → ¬ Rose reads.before reads.now → ¬ Rose puts.before puts.now
      → OrNone (ends x status) status → EndsWith status command ⊎ (status ≡ answer.Memory)
  run_complete is status why files text x tells writes gives_x calm quiet (inl ended) =
      said_whole told command old new puts quiet status
      (is.says x status (subst (λ t. gives t x) (sym tells) gives_x) ended)
  run_complete is status why files text x tells writes gives_x calm quiet (inr (inl failed)) =
      absurd (all_are_read told files _ _ command text tells writes calm
      (is.is_unread (subst Why failed why).0))
  run_complete is status why files text x tells writes gives_x calm quiet (inr (inr memory)) =
      inr memory

  -- what such a command comes to, as a status tells it
  pub run_comes : IsOf gives refuses ends unread nothing told command reads old new puts
      → (status : Status) → ComesTo gives refuses ends unread nothing told status
      → Comes told command reads old new puts status
  run_comes is status comes =
      let how = ran_or_nothing (Ran (gives told) ends) (refuses told) unread nothing status
      comes.why in
      record {
        no_word = λ word at. refusal_told told command (answer.Usage word)
            (is.is_refused told (answer.Usage word) (subst Why at comes.why).0);
        unread = λ at. is.is_unread (subst Why at comes.why).0;
        refused = λ refusal. is.is_refused told status (refusal_refuses (Ran (gives told) ends)
            (refuses told) unread nothing status refusal comes.why);
        refuses = λ files st tells no.
            comes.refused files st tells (is.is_refusal (Some files) st no);
        write_fault = λ at. faulty is (subst Why at comes.why);
        ends = λ end. said_end told command old new puts status end (ended_says is status
            (end_ran (Ran (gives told) ends) (refuses told) unread nothing status end comes.why));
        whole = λ at. ended_says is answer.Ok (subst Why at comes.why);
        prefix = run_some is status how;
        nothing = λ before. run_nothing is status before how;
        complete = λ files text tells writes calm quiet.
            let x = is.given (Some files) text writes in
            run_complete is status comes.why files text x.0 tells writes x.1 calm quiet
            (comes.complete files x.0 tells x.1);
      }
    where
      ended_says : IsOf gives refuses ends unread nothing told command reads old new puts
          → (st : Status) → Ran (gives told) ends st → EndSays told command old new puts st
      ended_says is st ran = is.says ran.first st ran.given ran.ended

      faulty : IsOf gives refuses ends unread nothing told command reads old new puts
          → Ran (gives told) ends answer.WriteFault
          → Rose puts.before puts.now × CanWrite told command
      faulty is ran = let said = ended_says is answer.WriteFault ran in
          (said.0, record { text = said.1.text; writes = said.1.writes })
