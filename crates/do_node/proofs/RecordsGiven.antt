-- What records are woven to gives them again.
use Rattle.std.proofs.Common.{◌≡◌, ◌++◌, ℕ, List, [], ◌∷◌, Option, Ok, sym, subst}
use Rattle.do_rewoven.specs.Read.{AreRead}
use Rattle.do_rewoven.proofs.{RecordsBehind.read_sound, WovenSchedule.woven_schedule}
use Rattle.do_base.specs.declared.outside.shelf.NamedFile.{NamedFile}
use Rattle.do_machine.specs.{World.opening, declared.state.Seat.Seat}
use Rattle.do_record.specs.declared.parts.Record.{Record}
use Rattle.do_sched.specs.{Schedule.IsSchedule, declared.line.Line.Line}
use Rattle.do_weave.{specs.Weaving.woven, proofs.Again.given_again}
use Rattle.do_world.specs.declared.world.World.{World}
use Rattle.do_node.specs.{Records.SayRecords, Rewoven.GivesBack}
use Rattle.do_node.specs.Weaving.{IsWoven, rules_of, world_woven}

-- files that say records have bytes that are read as these
pub files_read : (told : Option (List NamedFile)) (seats : List Seat) (names : List (List ℕ))
    (earlier records : List Record) → SayRecords told seats earlier names records →
    (files : List (List ℕ)) × AreRead seats earlier files records
files_read told seats [] earlier records say = ([], say)
files_read told seats (name ∷ names) earlier records say =
    let rest = files_read told seats names (earlier ++ say.0 ∷ []) records say.2 in
    (say.1.bytes ∷ rest.0, (say.0, say.1.is_read, rest.1))

-- what is woven over a world, from its opening on
pub over_world : (w : World) (records : List Record) (lines : List Line) →
    world_woven w records ≡ Ok lines →
    woven (rules_of w) (opening w.table w.nodes) records ≡ Ok lines
unfolding world_woven
over_world w records lines e = e

-- so it gives them back
pub gives_back : (told : Option (List NamedFile)) (word : List ℕ) (names : List (List ℕ))
    (text : List ℕ) → IsWoven told word names text → GivesBack told word names text
gives_back told word names text h =
    let w : World = h.world in
    let read = files_read told w.nodes names [] h.records h.given.say in
    let sound = read_sound w.nodes read.0 h.records read.1 in
    let lines = h.weaves.lines in
    let made = over_world w h.records lines h.weaves.is_woven in
    record {
      world = w;
      records = h.records;
      given = h.given;
      lines = lines;
      schedule = subst (λ t. IsSchedule t lines) (sym h.weaves.spelled)
          (woven_schedule (rules_of w) (opening w.table w.nodes) h.records lines sound made);
      again = given_again (rules_of w) (opening w.table w.nodes) h.records lines sound.apart made;
    }
