-- Files that nodes of a world wrote that served.
use Rattle.std.specs.Prelude.{List, Ok, Option, Some, [], false, length, ℕ, ◌++◌, ◌<◌, ◌^◌, ◌∷◌}
use Rattle.std.specs.{Prelude.{◌≡◌, ◌≤◌}, List.AllByRecursion}
use Rattle.do_base.specs.declared.outside.shelf.NamedFile.{NamedFile}
use Rattle.do_given.specs.{Files.{IsFile, most_of_record}, Reading.GivesWorld, Serving.seat_at}
use Rattle.do_link.specs.Told.{Told}
use Rattle.do_machine.specs.declared.state.Seat.{Seat}
use Rattle.do_plan.specs.{Starts.IsStartLine, declared.starts.StartLine.StartLine}
use Rattle.do_record.specs.{Recorded.record_of, declared.parts.Record.Record}
use Rattle.do_recorded.specs.Chain.{CameAsBytes}
use Rattle.do_sched.specs.Schedule.{most_steps}
use Rattle.do_serve.specs.Answers.{record_text}
use Rattle.do_served.specs.Nodes.{report}
use Rattle.do_world.specs.declared.world.World.{World}
use Rattle.do_woven.specs.{Judging.has_record, Steps.steps_in}

-- The bytes are the whole that the node of a seat wrote that served, with some lines of starts, for
-- fewer than 2^46 turns. What its link told it of peers is bytes, whatever they sent
pub record WroteServing (w : World) (seat : Seat) (bytes : List ℕ) : Type 0 where
  pub starts : List StartLine
  pub good : AllByRecursion IsStartLine starts
  pub turns : ℕ
  pub few : turns < 2 ^ 46
  pub told : List Told
  pub came : AllByRecursion CameAsBytes told
  pub wrote : bytes ≡ record_text seat.node (report turns (record {
    place = record { world = w; seat = seat };
    starts = starts;
  }) told)

-- the bytes are what a node of a world wrote that served, and are this record; no earlier one is of
-- that node
pub record IsServedFile (w : World) (earlier : List Record) (bytes : List ℕ) (r : Record)
    : Type 0 where
  pub seat : Seat
  pub here : seat_at w seat.node ≡ Some seat
  pub alone : has_record earlier seat.node ≡ false
  pub wrote : WroteServing w seat bytes
  pub is_read : record_of bytes ≡ Ok r

-- Behind earlier records, each of these files is what another node of a world wrote that served.
-- Together they have no more steps than any schedule
abbrev pub AreServedFiles : World → List Record → List (List ℕ) → Type 0
AreServedFiles w earlier [] = steps_in earlier ≤ most_steps
AreServedFiles w earlier (bytes ∷ files) =
    (r : Record) × IsServedFile w earlier bytes r × AreServedFiles w (earlier ++ r ∷ []) files

-- the files of the first of these names have these bytes
abbrev pub AreFirst : Option (List NamedFile) → List (List ℕ) → List (List ℕ) → Type 0
AreFirst told names [] = Unit {0}
AreFirst told [] (bytes ∷ files) = ⊥
AreFirst told (name ∷ names) (bytes ∷ files) =
    IsFile told name most_of_record bytes × AreFirst told names files

-- A word gives a world, and the first files, so many, are not all such. So one is not as a node of
-- the world wrote it that served, or two are of one node, or they have too many steps
pub record AreNotServed (told : Option (List NamedFile)) (word : List ℕ) (names : List (List ℕ))
    (count : ℕ) : Type 0 where
  pub world : World
  pub gives : GivesWorld told word world
  pub files : List (List ℕ)
  pub first : AreFirst told names files
  pub counted : length files ≡ count
  pub none : AreServedFiles world [] files → ⊥
