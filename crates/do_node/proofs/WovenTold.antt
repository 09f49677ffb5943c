-- What is answered of records that are woven over a world.
use Rattle.do_record.specs.declared.parts.RecordLine.TheVariants as inputs
use Rattle.do_weave.specs.declared.fault.WeaveFault.TheVariants as weaving
use Rattle.std.proofs.Common.{◌≡◌, ◌≤◌, ℕ, List, [], ◌∷◌, Option, None, Some, Result, Ok, Err, inl}
use Rattle.std.proofs.Common.{inr, ap, arith, length, sum_by, sym, subst, refl, ◌∙◌}
use Rattle.std.{specs.Prelude.IfErr, proofs.lemmas.List.Sums.sum_by-cons}
use Rattle.do_base.specs.declared.outside.shelf.NamedFile.{NamedFile}
use Rattle.do_machine.specs.{World.opening, declared.state.State.State}
use Rattle.do_native.specs.{Acts.native_act, declared.native.Native.Native}
use Rattle.do_net.specs.{Net.{Stands, network}, OneMachine.StandsFor, Seen.Seen}
use Rattle.do_net.specs.declared.net.Net.{Net}
use Rattle.do_record.specs.declared.parts.{Block.Block, Record.Record, RecordLine.RecordLine}
use Rattle.do_sched.specs.{Spelling.spelling, declared.line.Line.Line}
use Rattle.do_sched.specs.declared.version.Version.TheVariants.{Second}
use Rattle.do_weave.specs.{Rules.Rules, Telling.Tells, Threads.blocks_in, Weaving.{Woven, woven}}
use Rattle.do_weave.specs.declared.fault.WeaveFault.{WeaveFault}
use Rattle.do_woven.specs.Steps.{block_steps, input_steps, record_steps, steps_in}
use Rattle.do_world.specs.{Builtin.builtin_world, declared.world.World.World}
use Rattle.do_given.specs.{declared.status.Status.Status, Files.IsUnread}
use Rattle.do_given.specs.Reading.{GivesWorld, OrMemory, OrUnread, RefusesWorld, Stops}
use Rattle.do_node.specs.Records.{AnyUnread, SayNoRecords, SayRecords}
use Rattle.do_given.specs.Parts.{behaviour_of}
use Rattle.do_node.specs.Weaving.{Contradicts, GivesRecords, HasUnreadPart, IsWoven, RefusesWeaving}
use Rattle.do_node.specs.Weaving.{RefusesRecords, WeavesTo, rules_of, told_of_weaving, world_woven}
use Rattle.do_node.specs.WovenNet.{IsMachine}
use Rattle.do_given.proofs.FilesTold.{no_err, or_unread, read_is}
use Rattle.do_given.proofs.Stopping.{give_any, must_be, stops_as}
use Rattle.do_node.proofs.RecordsTold.{any_unread_earlier}

-- the network of a world is its machine as it opens
pub opened_machine : {Site : Type 0} (seen : Site → Seen) (w : World) (n : Net Site Native)
    → n.table ≡ w.table → n.acts ≡ behaviour_of w → Stands seen (native_act n.acts) n
    → StandsFor w.table (native_act (behaviour_of w)) (network seen n) (opening w.table w.nodes)
    → IsMachine seen (native_act n.acts) n (rules_of w) (opening w.table w.nodes)
opened_machine seen w n same_table same_acts whole stands = record {
  rules = λ i. record { table = sym same_table i; act = native_act (sym same_acts i) };
  whole = whole;
  stands = stands;
}

-- an input takes a step
one_step : (i : RecordLine) → 1 ≤ input_steps i
one_step (inputs.Start selector values) = omega arith
one_step inputs.Run = omega arith
one_step (inputs.Take from) = omega arith
one_step (inputs.Close peer) = omega arith
one_step (inputs.Ended peer) = omega arith

-- blocks take at least as many steps as they are
blocks_within : (bs : List Block) → length bs ≤ sum_by block_steps bs
blocks_within [] = omega arith
blocks_within (b ∷ bs) =
    omega (arith, sum_by-cons block_steps b bs, one_step b.input, blocks_within bs)

-- and so do records
pub records_within : (rs : List Record) → blocks_in rs ≤ steps_in rs
records_within [] = omega arith
records_within (r ∷ rs) =
    omega (
      arith,
      sum_by-cons (λ x. length x.blocks) r rs,
      sum_by-cons record_steps r rs,
      blocks_within r.blocks,
      records_within rs,
    )

-- a network that stands for a world's opening tells what records are woven to over it
pub told_woven : {Site : Type 0} (seen : Site → Seen) (w : World) (records : List Record)
    (n : Net Site Native) (result : Result (List Line) WeaveFault)
    → n.table ≡ w.table → n.acts ≡ behaviour_of w → Stands seen (native_act n.acts) n
    → StandsFor w.table (native_act (behaviour_of w)) (network seen n) (opening w.table w.nodes)
    → ((R : Rules) (state : State) → IsMachine seen (native_act n.acts) n R state
    → Tells (woven R state records) result)
    → Tells (world_woven w records) result
unfolding world_woven
told_woven seen w records n result same_table same_acts whole stands tells =
    tells (rules_of w) (opening w.table w.nodes)
    (opened_machine seen w n same_table same_acts whole stands)

module _ (w : World) (records : List Record) where
  -- lines that are told are spelled
  pub lines_weave : (lines : List Line) (text : List ℕ) → Tells (world_woven w records) (Ok lines)
      → text ≡ spelling Second lines → WeavesTo w records text
  lines_weave lines text tells spelled =
      record { lines = lines; is_woven = tells; spelled = spelled }

  -- and no other text is woven
  pub lines_must_weave : (lines : List Line) (text other : List ℕ)
      → Tells (world_woven w records) (Ok lines) → text ≡ spelling Second lines
      → WeavesTo w records other → OrMemory (Ok other) (Ok text)
  lines_must_weave lines text other tells spelled weaves =
      let both : ◌≡◌ {A = Woven} (Ok lines) (Ok weaves.lines) = sym tells ∙ weaves.is_woven in
      let one : lines ≡ weaves.lines = cc in
      inl (ap (λ t. Ok t) (spelled ∙ ap (spelling Second) one ∙ sym weaves.spelled))

  -- nor do they contradict
  pub lines_agree : (lines : List Line) (status : Status)
      → Tells (world_woven w records) (Ok lines) → Contradicts w records status → ⊥
  lines_agree lines status tells bad =
      let both : ◌≡◌ {A = Woven} (Ok lines) (Err bad.fault) = sym tells ∙ bad.is_fault in
      cc

  -- a contradiction that is told stops the weaving
  pub weaving_stops : (fault : WeaveFault) → Tells (world_woven w records) (Err fault)
      → Stops ⊥ ⊥ (Contradicts w records) (told_of_weaving fault)
  weaving_stops (weaving.Contradiction index line) tells =
      record { fault = weaving.Contradiction index line; is_fault = tells; tells = refl }
  weaving_stops weaving.Memory tells = tt

  -- no text is woven then, but where memory ran out
  pub weaving_must_stop : (fault : WeaveFault) (text : List ℕ)
      → Tells (world_woven w records) (Err fault) → WeavesTo w records text
      → OrMemory (Ok text) (Err (told_of_weaving fault))
  weaving_must_stop (weaving.Contradiction index line) text tells weaves =
      let is = weaves.is_woven in absurd (cc)
  weaving_must_stop weaving.Memory text tells weaves = inr refl

  -- and the contradiction is the one that must be
  pub weaving_refuses : (fault : WeaveFault) (status : Status)
      → Tells (world_woven w records) (Err fault) → Contradicts w records status
      → OrMemory {A = List ℕ} (Err status) (Err (told_of_weaving fault))
  weaving_refuses (weaving.Contradiction index line) status tells bad =
      let both : ◌≡◌ {A = Woven} (Err (weaving.Contradiction index line)) (Err bad.fault) =
      sym tells ∙ bad.is_fault in
      let one : weaving.Contradiction index line ≡ bad.fault = cc in
      inl (ap (λ f. Err (told_of_weaving f)) one ∙ ap (λ s. Err s) (sym bad.tells))
  weaving_refuses weaving.Memory status tells bad = inr refl

module _ (word : List ℕ) (names : List (List ℕ)) where
  -- what stops the reading of a world stops the weaving
  pub world_stops : (told : Option (List NamedFile)) (before now : ℕ) (status : Status)
      → Stops ((builtin_world word ≡ None) × IsUnread told before now word) ⊥
      (RefusesWorld told word) status
      → Stops (HasUnreadPart told before now word names) ⊥ (RefusesWeaving told word names) status
  world_stops told before now status stopped = stops_as
      {u = (builtin_world word ≡ None) × IsUnread told before now word}
      {v = HasUnreadPart told before now word names} {f = ⊥} {g = ⊥}
      {r = RefusesWorld told word} {s = RefusesWeaving told word names}
      (λ unread. inl unread) (λ none. none) (λ st none. inl none) status stopped

  -- so does what stops the reading of records, once a world is given
  pub records_stop : (told same : Option (List NamedFile)) (before mid now : ℕ) (world : World)
      (none : List Record) (status : Status)
      → same ≡ told → before ≤ mid → none ≡ [] → GivesWorld told word world
      → Stops (AnyUnread same mid now names) ⊥ (SayNoRecords same world.nodes none names) status
      → Stops (HasUnreadPart told before now word names) ⊥ (RefusesWeaving told word names) status
  records_stop told same before mid now world none status is le empty gives stopped = stops_as
      {u = AnyUnread told mid now names} {v = HasUnreadPart told before now word names}
      {f = ⊥} {g = ⊥} {r = SayNoRecords told world.nodes [] names}
      {s = RefusesWeaving told word names}
      (λ unread. inr (any_unread_earlier told before mid now names le unread)) (λ bad. bad)
      (λ st bad. inr (inl (record { world = world; gives = gives; refuses = bad }))) status
      (rw (is, empty) at stopped)

  -- so does a contradiction of records that are given
  pub contradiction_stops : (told : Option (List NamedFile)) (unread : Type 0) (world : World)
      (records : List Record) (result : Result (List ℕ) Status)
      → GivesRecords told word names world records
      → IfErr result (Stops ⊥ ⊥ (Contradicts world records))
      → IfErr result (Stops unread ⊥ (RefusesWeaving told word names))
  contradiction_stops told unread world records (Ok text) given stopped = tt
  contradiction_stops told unread world records (Err status) given stopped = stops_as
      {u = ⊥} {v = unread} {f = ⊥} {g = ⊥} {r = Contradicts world records}
      {s = RefusesWeaving told word names} (λ bad. absurd bad) (λ bad. bad)
      (λ st bad. inr (inr (record {
        world = world;
        records = records;
        given = given;
        contradicts = bad;
      }))) status stopped

  module _ (files : List NamedFile) where
    -- where no world was read, a refusal is answered that must be
    pub world_refuses : (status : Status)
        → ((st : Status) → RefusesWorld (Some files) word st
        → OrUnread {A = World} (Err st) (Err status))
        → ((w : World) → GivesWorld (Some files) word w → OrUnread (Ok w) (Err status))
        → (st : Status) → RefusesWeaving (Some files) word names st
        → OrUnread {A = List ℕ} (Err st) (Err status)
    world_refuses status refuses accepts st (inl none) = must_be st status (refuses st none)
    world_refuses status refuses accepts st (inr (inl bad)) =
        give_any bad.world (Err st) status (accepts bad.world bad.gives)
    world_refuses status refuses accepts st (inr (inr bad)) =
        give_any bad.world (Err st) status (accepts bad.world bad.given.gives)

    module _ (world : World)
        (same : (w : World) → GivesWorld (Some files) word w → OrUnread (Ok w) (Ok world)) where
      -- the world that is given is the one that was read
      is_world : (w : World) → GivesWorld (Some files) word w → w ≡ world
      is_world w gives = read_is world w (same w gives)

      -- the records that are given are of the world that was read
      say_here : (w : World) (records : List Record)
          → GivesRecords (Some files) word names w records
          → SayRecords (Some files) world.nodes [] names records
      say_here w records given = subst (λ v. SayRecords (Some files) v.nodes [] names records)
          (is_world w given.gives) given.say

      -- records that are refused are refused in the world that was read
      no_here : (st : Status) → RefusesRecords (Some files) word names st
          → SayNoRecords (Some files) world.nodes [] names st
      no_here st bad = subst (λ v. SayNoRecords (Some files) v.nodes [] names st)
          (is_world bad.world bad.gives) bad.refuses

      -- where a world was read and no records were, a refusal is answered that must be
      pub records_refuse : (status : Status)
          → ((st : Status) → RefusesWorld (Some files) word st → OrUnread (Err st) (Ok world))
          → ((st : Status) → SayNoRecords (Some files) world.nodes [] names st
          → OrUnread {A = List Record} (Err st) (Err status))
          → ((rs : List Record) → SayRecords (Some files) world.nodes [] names rs
          → OrUnread (Ok rs) (Err status))
          → (st : Status) → RefusesWeaving (Some files) word names st
          → OrUnread {A = List ℕ} (Err st) (Err status)
      records_refuse status none refuses accepts st (inl bad) =
          absurd (no_err world st (none st bad))
      records_refuse status none refuses accepts st (inr (inl bad)) =
          must_be st status (refuses st (no_here st bad))
      records_refuse status none refuses accepts st (inr (inr bad)) =
          give_any bad.records (Err st) status
          (accepts bad.records (say_here bad.world bad.records bad.given))

      -- and no text is answered
      pub records_stop_text : (status : Status)
          → ((rs : List Record) → SayRecords (Some files) world.nodes [] names rs
          → OrUnread (Ok rs) (Err status))
          → (text : List ℕ) → IsWoven (Some files) word names text
          → OrUnread (Ok text) (Err status)
      records_stop_text status accepts text is =
          give_any is.records (Ok text) status
          (accepts is.records (say_here is.world is.records is.given))

      module _ (records : List Record)
          (read : (rs : List Record) → SayRecords (Some files) world.nodes [] names rs
          → OrUnread (Ok rs) (Ok records)) where
        -- the records that are given are those that were read
        are_records : (w : World) (rs : List Record) → GivesRecords (Some files) word names w rs
            → rs ≡ records
        are_records w rs given = read_is records rs (read rs (say_here w rs given))

        -- a text that is woven is woven of what was read
        pub woven_here : (result : Result (List ℕ) Status)
            → ((text : List ℕ) → WeavesTo world records text → OrMemory (Ok text) result)
            → (text : List ℕ) → IsWoven (Some files) word names text → OrUnread (Ok text) result
        woven_here result accepts text is =
            let here = subst (λ v. WeavesTo v is.records text)
            (is_world is.world is.given.gives) is.weaves in
            or_unread (Ok text) result (accepts text
            (subst (λ rs. WeavesTo world rs text) (are_records is.world is.records is.given) here))

        -- and what contradicts is what was read
        pub woven_refuses : (result : Result (List ℕ) Status)
            → ((st : Status) → RefusesWorld (Some files) word st → OrUnread (Err st) (Ok world))
            → ((st : Status) → SayNoRecords (Some files) world.nodes [] names st
            → OrUnread (Err st) (Ok records))
            → ((st : Status) → Contradicts world records st → OrMemory (Err st) result)
            → (st : Status) → RefusesWeaving (Some files) word names st
            → OrUnread (Err st) result
        woven_refuses result none refuses contradicts st (inl bad) =
            absurd (no_err world st (none st bad))
        woven_refuses result none refuses contradicts st (inr (inl bad)) =
            absurd (no_err records st (refuses st (no_here st bad)))
        woven_refuses result none refuses contradicts st (inr (inr bad)) =
            let here = subst (λ v. Contradicts v bad.records st)
            (is_world bad.world bad.given.gives) bad.contradicts in
            or_unread (Err st) result (contradicts st
            (subst (λ rs. Contradicts world rs st) (are_records bad.world bad.records bad.given)
            here))
