-- What is written from the opening of a world's network on.
use Rattle.std.proofs.Common.{◌≡◌, ◌<◌, ◌++◌, ◌∙◌, ℕ, List, [], ◌∷◌, Some, ap, arith, length, Err}
use Rattle.std.proofs.Common.{Ok, Option, Result, map, refl, subst, sym}
use Rattle.std.specs.{List.AllByRecursion, Prelude.{IfOk, OnOk, slice_get}}
use Rattle.do_machine.specs.{World.{IsWorld, opening}, check.Blocks.blocks}
use Rattle.do_lines.specs.Transcript.{transcript}
use Rattle.do_transcript.specs.Transcript.{transcript_from}
use Rattle.do_machine.specs.{declared.state.Seat.Seat, run.Run.Acting}
use Rattle.do_net.specs.{Net.AreAlike, OneMachine.StandsFor}
use Rattle.do_net.proofs.StandsForStates.{opening_stands}
use Rattle.do_class.specs.Class.{Class}
use Rattle.do_make.specs.{Summary.summary_of, Text.summary_text}
use Rattle.do_network.specs.{Net.{Net, net_opening}, Wired.{WiredBlock, net_blocks}}
use Rattle.do_agreement.specs.HasWires.{HasWires}
use Rattle.do_sched.specs.declared.line.Line.{Line}
use Rattle.do_native.specs.{Acts.native_act, declared.native.Native.Native}
use Rattle.do_replay.specs.Replayed.{WritesWithWires, wired_from}
use Rattle.do_replay.proofs.AsOneMachine.{begun_as_one}
use Rattle.do_world.specs.declared.world.World.{World}
use Rattle.do_given.specs.Parts.{behaviour_of}
use Rattle.do_node.specs.OneMachine.{ComesAsOne}
use Rattle.do_node.specs.Replaying.{world_summary, world_transcript, world_wired}

module _ (world : World) (table : List Class) (native : Native) (N : Net) (lines : List Line)
    (same_table : table ≡ world.table) (same_acts : native ≡ behaviour_of world)
    (is_opening : N ≡ net_opening world.table world.nodes) where
  -- the transcript from the opening of a world's network on is that of the world
  pub wired_world : wired_from table (native_act native) N lines ≡ world_wired world lines
  unfolding world_wired
  wired_world = rw (same_table, same_acts, is_opening) refl

  -- and so is the summary
  pub summed_world : summary_text (summary_of (net_blocks table (native_act native) N lines))
      ≡ world_summary world lines
  unfolding world_summary
  summed_world = rw (same_table, same_acts, is_opening) refl

  -- the one machine's transcript is that of the world
  local_world : transcript table (blocks table (native_act native) (opening table world.nodes)
      lines)
      ≡ world_transcript world lines
  unfolding world_transcript transcript_from
  local_world =
      ap (λ t. transcript t (blocks t (native_act native) (opening t world.nodes) lines)) same_table
      ∙ ap (λ n. transcript world.table (blocks world.table (native_act n)
      (opening world.table world.nodes) lines)) same_acts

  -- the world is one of the table, and the network is its opening
  opened : N ≡ net_opening table world.nodes
  opened = is_opening ∙ ap (λ t. net_opening t world.nodes) (sym same_table)

  module _ (opens : IsWorld world.table world.nodes) where
    -- the world is one of the table
    is_world : IsWorld table world.nodes
    is_world = subst (λ t. IsWorld t world.nodes) (sym same_table) opens

    -- so the whole transcript is the one machine's with what was sent put in
    pub whole_as_one : {T E : Type 0} (result : Result T E) →
        ((seats : List Seat) → IsWorld table seats → N ≡ net_opening table seats →
        OnOk result (HasWires
        (transcript table (blocks table (native_act native) (opening table seats) lines))
        (wired_from table (native_act native) N lines))) →
        OnOk result (HasWires (world_transcript world lines) (world_wired world lines))
    whole_as_one result told =
        subst (λ text. OnOk result (HasWires (world_transcript world lines) text)) wired_world
        (subst (λ text. OnOk result (HasWires text (wired_from table (native_act native) N lines)))
        local_world (told world.nodes is_world opened))

    -- and what was written begins such a text
    pub first_as_one : (before now : Option (List ℕ)) →
        ((seats : List Seat) → IsWorld table seats → N ≡ net_opening table seats →
        WritesWithWires before now
        (transcript table (blocks table (native_act native) (opening table seats) lines))) →
        WritesWithWires before now (world_transcript world lines)
    first_as_one before now told =
        subst (WritesWithWires before now) local_world (told world.nodes is_world opened)

    -- and the lines come to what they come to in the one machine
    pub blocks_as_one : ((seats : List Seat) → IsWorld table seats →
        N ≡ net_opening table seats →
        map (λ (b : WiredBlock). b.block) (net_blocks table (native_act native) N lines)
        ≡ blocks table (native_act native) (opening table seats) lines) →
        ComesAsOne world lines
    blocks_as_one told =
        subst (λ n. map (λ (b : WiredBlock). b.block) (net_blocks world.table (native_act n)
        (net_opening world.table world.nodes) lines)
        ≡ blocks world.table (native_act n) (opening world.table world.nodes) lines) same_acts
        (subst (λ t. map (λ (b : WiredBlock). b.block) (net_blocks t (native_act native)
        (net_opening world.table world.nodes) lines)
        ≡ blocks t (native_act native) (opening t world.nodes) lines) same_table
        (subst (λ M. map (λ (b : WiredBlock). b.block) (net_blocks table (native_act native) M
        lines) ≡ blocks table (native_act native) (opening table world.nodes) lines) is_opening
        (told world.nodes is_world opened)))

-- before the network of a world opened, nothing was written
pub nothing_as_one : (world : World) → IsWorld world.table world.nodes → (lines : List Line)
    (written : Option (List ℕ)) → WritesWithWires written written (world_transcript world lines)
unfolding world_transcript transcript_from
nothing_as_one world opens lines written =
    begun_as_one world.table (native_act (behaviour_of world)) world.nodes opens
    (net_opening world.table world.nodes) refl lines written

-- a world that opens has a node
pub has_node : (world : World) (nodes : List Seat) → nodes ≡ world.nodes
    → IsWorld world.table world.nodes → 0 < length nodes
has_node world nodes same opens = omega (arith, opens.some, ap length same)

-- those that all share one decide alike
pub share_alike : (native : Native) (makers : List Native) → AllByRecursion (λ m. m ≡ native) makers
    → AreAlike native_act makers
share_alike native [] all = tt
share_alike native (m ∷ makers) all = alike makers all.1
  where
    alike : (ms : List Native) → AllByRecursion (λ n. n ≡ native) ms
        → AllByRecursion (λ n. native_act n ≡ native_act m) ms
    alike [] each = tt
    alike (n ∷ ms) each = (ap native_act (each.0 ∙ sym all.0), alike ms each.1)

-- one more shares it
pub shares_more : (native m : Native) (makers : List Native)
    → AllByRecursion (λ n. n ≡ native) makers → m ≡ native
    → AllByRecursion (λ n. n ≡ native) (makers ++ m ∷ [])
shares_more native m [] all is = (is, tt)
shares_more native m (n ∷ makers) all is = (all.0, shares_more native m makers all.1 is)

-- the first of them is it
pub first_shared : (native m : Native) (makers : List Native)
    → AllByRecursion (λ n. n ≡ native) makers → slice_get makers 0 ≡ Some m → m ≡ native
first_shared native m [] all is = absurd (cc)
first_shared native m (n ∷ makers) all is = let same : n ≡ m = cc in sym same ∙ all.0

-- so what is told of by the first of them is told of by it
pub if_first : {N E : Type 0} (acts : N → Native) (native : Native) (makers : List Native)
    (result : Result N E) → AllByRecursion (λ n. n ≡ native) makers
    → IfOk result (λ n. slice_get makers 0 ≡ Some (acts n)) → IfOk result (λ n. acts n ≡ native)
if_first acts native makers (Ok n) all is = first_shared native (acts n) makers all is
if_first acts native makers (Err e) all is = tt

-- where what opened is the network of a world, it stands for the opening of the one machine
pub stands_opened : {T E : Type 0} (net : T → Net) (world : World) (act : Acting)
    (result : Result T E) → IsWorld world.table world.nodes
    → IfOk result (λ n. net n ≡ net_opening world.table world.nodes)
    → IfOk result
    (λ n. StandsFor world.table act (net n) (opening world.table world.nodes))
stands_opened net world act (Ok n) opens is =
    subst (λ N. StandsFor world.table act N (opening world.table world.nodes)) (sym is)
    (opening_stands world.table act world.nodes opens)
stands_opened net world act (Err e) opens is = tt
