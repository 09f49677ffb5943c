-- What the words of a node that is served give: a node of a world, and starts; and plans.
use Rattle.std.specs.Prelude.{◌≡◌, ℕ, ◌⊎◌, ◌==◌, List, Option, Some, None, codes, find}
use Rattle.do_base.specs.declared.outside.shelf.NamedFile.{NamedFile}
use Rattle.do_document.specs.declared.fault.WorldFault.TheVariants.{Wrong}
use Rattle.do_machine.specs.declared.state.Seat.{Seat}
use Rattle.do_plan.specs.{Form.{Form, IsText, IsFault}, Plan.plan_form, Starts.starts_form}
use Rattle.do_plan.specs.declared.{plan.PlanLine.PlanLine, starts.StartLine.StartLine}
use Rattle.do_sched.specs.declared.fault.SchedFault.{SchedFault}
use Rattle.do_world.specs.declared.world.World.{World}
use Rattle.do_given.specs.declared.{seated.Seated.Seated, served.Served.Served}
use Rattle.do_given.specs.declared.status.Status.{Status, TheVariants.BadWorld}
use Rattle.do_given.specs.{Files.most_of_starts, Reading.{GivesWorld, HasText, NamesNone}}
use Rattle.do_given.specs.Reading.{RefusesSecond, RefusesWorld, told_of}

-- the bytes are no text of a form, and the answer tells the line of their fault
pub record IsNoText {A : Type 0} (form : Form A) (bytes : List ℕ) (status : Status)
    : Type 0 where
  pub fault : SchedFault
  pub is_fault : IsFault form bytes fault
  pub tells : status ≡ told_of fault

-- the file of a name has these lines, in a form
abbrev pub SaysText : {A : Type 0} → Form A → Option (List NamedFile) → List ℕ → List A → Type 0
SaysText form told name lines = HasText (IsText form) told name most_of_starts lines

-- the file of a name is too long, or is no text of a form
abbrev pub SaysNoText : {A : Type 0} → Form A → Option (List NamedFile) → List ℕ → Status → Type 0
SaysNoText form told name status = NamesNone (IsNoText form) told name most_of_starts status

-- the file of a name is starts of these lines
abbrev pub SaysStarts : Option (List NamedFile) → List ℕ → List StartLine → Type 0
SaysStarts = SaysText starts_form

-- the file of a name is a plan of these lines
abbrev pub SaysPlan : Option (List NamedFile) → List ℕ → List PlanLine → Type 0
SaysPlan = SaysText plan_form

-- the node of a port in a world
abbrev pub seat_at : World → ℕ → Option Seat
seat_at world port = find (λ s. port == s.node) world.nodes

-- a word gives a world that has a node of this port
pub record GivesSeat (told : Option (List NamedFile)) (port : ℕ) (word : List ℕ) (given : Seated)
    : Type 0 where
  pub gives : GivesWorld told word given.world
  pub seated : seat_at given.world port ≡ Some given.seat

-- a word gives a world without a node of this port, which is what is wrong at `node`
pub record LacksSeat (told : Option (List NamedFile)) (port : ℕ) (word : List ℕ)
    (status : Status) : Type 0 where
  pub world : World
  pub gives : GivesWorld told word world
  pub lacks : seat_at world port ≡ None
  pub tells : status ≡ BadWorld (Wrong (codes "node"))

-- a word gives no world, or else one without a node of this port
abbrev pub RefusesSeat : Option (List NamedFile) → ℕ → List ℕ → Status → Type 0
RefusesSeat told port word status =
    RefusesWorld told word status ⊎ LacksSeat told port word status

-- a word gives a world that has a node of this port, and another starts
pub record GivesServed (told : Option (List NamedFile)) (port : ℕ) (word name : List ℕ)
    (given : Served) : Type 0 where
  pub seat : GivesSeat told port word given.place
  pub says : SaysStarts told name given.starts

-- a word gives no world with a node of this port, or else another no starts
abbrev pub RefusesServed : Option (List NamedFile) → ℕ → List ℕ → List ℕ → Status → Type 0
RefusesServed told port word name status = RefusesSeat told port word status
    ⊎ RefusesSecond (GivesSeat told port word) (SaysNoText starts_form told name) status
