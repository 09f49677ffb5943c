-- What `leaks` tells is each stored object that nothing can reach.
use Rattle.std.proofs.Common.{◌≡◌, ℕ, List, Option, true, refl, ap, ◌∙◌, subst}
use Rattle.std.specs.List.{AllByRecursion, flat_map}
use Rattle.do_at_hand.specs.AtHand.{NamedAreStored}
use Rattle.do_at_hand.proofs.{NamesStored.reached_stored, Plain.lines_plain}
use Rattle.do_base.specs.declared.outside.shelf.NamedFile.{NamedFile}
use Rattle.do_cycles.specs.{Settled.IsSettled, Told.TellsEachLost}
use Rattle.do_cycles.proofs.{EachTold.reached_told, QuietSettled.reached_settled}
use Rattle.do_facts.specs.Reached.{reached}
use Rattle.do_given.specs.Parts.{behaviour_of}
use Rattle.do_lost.specs.{Named.quiet, Text.lost_text}
use Rattle.do_machine.specs.{Commit.skipped, World.opening, check.Blocks.events_of, run.Run.Acting}
use Rattle.do_native.specs.{Acts.native_act, laws.NativeLaws.native_names_shown}
use Rattle.do_quiet.proofs.EndsStayOpen.{stay_open}
use Rattle.do_sched.specs.{Good.IsLine, declared.line.Line.Line}
use Rattle.do_world.specs.declared.world.World.{World}
use Rattle.do_node.specs.{Call.IsLost, Leaking.{BreaksNothing, TellsLost, world_after}}
use Rattle.do_node.specs.Replaying.{lost_after, world_lost}
use Rattle.do_node.proofs.LinesAsEvents.{lines_lead, lines_unbroken}

module _ (w : World) (ls : List Line) where
  -- the world's acts
  abbrev acts : Acting
  acts = native_act (behaviour_of w)

  -- the state after lines is one that the machine comes to
  is_reached : reached w.table acts w.nodes (flat_map events_of ls) ≡ world_after w ls
  unfolding world_after
  is_reached = lines_lead w.table acts ls (skipped (opening w.table w.nodes))

  -- so each object that nothing can reach is told
  all_told : TellsEachLost (world_after w ls)
  all_told =
      subst TellsEachLost is_reached (reached_told w.table acts w.nodes (flat_map events_of ls))

  -- and a quiet state is settled
  is_settled : AllByRecursion BreaksNothing ls → quiet (world_after w ls) ≡ true →
      IsSettled (world_after w ls)
  is_settled unbroken idle =
      let events = flat_map events_of ls in
      subst IsSettled is_reached
      (reached_settled w.table acts w.nodes events
      (stay_open w.table w.nodes acts events (lines_unbroken ls unbroken))
      (ap quiet is_reached ∙ idle))

  -- where no end closed, what slots and invocations name is stored
  is_named : AllByRecursion IsLine ls → AllByRecursion BreaksNothing ls →
      NamedAreStored (world_after w ls)
  is_named good unbroken =
      let events = flat_map events_of ls in
      subst NamedAreStored is_reached
      (reached_stored w.table acts w.nodes (native_names_shown (behaviour_of w) w.table) events
      (lines_plain ls good) (stay_open w.table w.nodes acts events (lines_unbroken ls unbroken)))

  -- the text is that of this state
  same_text : world_lost w ls ≡ lost_text w.table (world_after w ls)
  unfolding world_lost lost_after world_after
  same_text = refl

-- what is told after a schedule over a world
pub leaks_told : (told : Option (List NamedFile)) (word name text : List ℕ) →
    IsLost told word name text → TellsLost told word name text
leaks_told told word name text h = record {
  given = h.given;
  gives = h.gives;
  is = h.is ∙ same_text h.given.world h.given.lines;
  each = all_told h.given.world h.given.lines;
  settled = is_settled h.given.world h.given.lines;
  named = is_named h.given.world h.given.lines h.gives.says.is_read.good;
}
