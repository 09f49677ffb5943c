-- What nodes of a world wrote that served is read behind the records of others. So where a file is
-- no record, not all were written so.
use Rattle.do_sched.specs.declared.fault.SchedFault.TheVariants as sched
use Rattle.std.proofs.Common.{◌≡◌, ◌∙◌, ◌++◌, ◌+◌, ◌==◌, ◌≤◌, ℕ, List, [], ◌∷◌, Ok, Option, ap}
use Rattle.std.proofs.Common.{arith, inl, inr, length, length-append, map, refl, subst, sym, true}
use Rattle.std.proofs.lemmas.{Bool.{or_left, or_right}, List.Elements.{All-head, All-tail}}
use Rattle.std.proofs.lemmas.List.Sums.{sum_by-append}
use Rattle.std.specs.{List.{All, AllByRecursion}, Prelude.{Err, Result, not}}
use Rattle.do_agreement.proofs.places.Numbers.{same_number}
use Rattle.do_base.specs.declared.outside.shelf.NamedFile.{NamedFile}
use Rattle.do_cycles.proofs.InLists.{all_filtered, found_in, images_in}
use Rattle.do_exchanged.{proofs.Files.files_read, specs.Runs.record_of_run}
use Rattle.do_given.specs.declared.{seated.Seated.Seated, status.Status.TheVariants.BadRecord}
use Rattle.do_given.specs.{Parts.behaviour_of, Reading.GivesWorld}
use Rattle.do_kept.proofs.Ranged.{worlds_keep}
use Rattle.do_limits.specs.SendableActs.{KeepsSendable}
use Rattle.do_machine.{proofs.PutInOrder.in_all, specs.Lists.IsIn}
use Rattle.do_machine.specs.{World.{IsSeat, by_port, is_before}, declared.state.Seat.Seat}
use Rattle.do_native.specs.{Acts.native_act, laws.NativeLaws.native_names_shown}
use Rattle.do_net.specs.Seen.{Seen}
use Rattle.do_record.specs.{Recorded.record_of, declared.parts.Record.Record}
use Rattle.do_recorded.specs.Chain.{AreHeard}
use Rattle.do_sched.specs.{Good.IsPort, declared.fault.SchedFault.SchedFault}
use Rattle.do_serve.specs.{Hosting.{outgoing, resting}, Peers.new_peer, Serving.{Server, opening}}
use Rattle.do_served.specs.Nodes.{heard, opened, ports_of}
use Rattle.do_world.specs.{Sound.IsSound, declared.world.World.World}
use Rattle.do_woven.specs.{Judging.{has_seat, judged}, Steps.{record_steps, steps_in}}
use Rattle.do_node.specs.Records.{SayNoRecords, told_of_record}
use Rattle.do_node.specs.ServedFiles.{AreFirst, AreNotServed, AreServedFiles, IsServedFile}

-- ---- seats

-- what holds of all holds of each
each_of : {X : Type 0} (P : X → Type 0) (xs : List X) (x : X) → All P xs → IsIn xs x → P x
each_of P [] x all i = absurd i
each_of P (z ∷ zs) x all (inl e) = subst P e (All-head P z zs all)
each_of P (z ∷ zs) x all (inr i) = each_of P zs x (All-tail P z zs all) i

-- a seat among some has one
seat_has : (seats : List Seat) (s : Seat) → IsIn seats s → has_seat seats s.node ≡ true
seat_has [] s i = absurd i
seat_has (z ∷ zs) s (inl e) =
    or_left (z.node == s.node) (has_seat zs s.node)
    (subst (λ (x : Seat). (z.node == x.node) ≡ true) e (same_number z.node))
seat_has (z ∷ zs) s (inr i) =
    or_right (z.node == s.node) (has_seat zs s.node) (seat_has zs s i)

-- peers of which nothing came are heard
new_heard : (ports : List ℕ) → AllByRecursion IsPort ports → AreHeard (map new_peer ports)
new_heard [] all = tt
new_heard (p ∷ ports) all = ((all.0, tt), new_heard ports all.1)

-- what is read is one record
one_record : (a b : Record) → ◌≡◌ {A = Result Record SchedFault} (Ok a) (Ok b) → a ≡ b
one_record a b e = cc

-- and no fault
no_fault_read : (fault : SchedFault) (r : Record) →
    ◌≡◌ {A = Result Record SchedFault} (Err fault) (Ok r) → ⊥
no_fault_read fault r e = cc

-- the acts of a world that was read keep values that a message can carry
pub sound_keeps : (w : World) → IsSound w → KeepsSendable w.table (native_act (behaviour_of w))
sound_keeps w sound =
    worlds_keep (behaviour_of w) w.table (record { program = sound.made; kinds = sound.kinds })
    sound.codes sound.denials

-- ---- files

module _ (w : World) (sound : IsSound w) where
  -- a node's peers have ports
  peers_heard : (p : Seated) → p.world ≡ w → AreHeard (map new_peer (heard p))
  peers_heard p e =
      new_heard (heard p) (all_filtered IsPort (λ x. not (x == p.seat.node)) (ports_of p.world)
      (λ x i passes. port_is x (subst (λ (v : World). IsIn (ports_of v) x) e i)))
    where
      port_is : (x : ℕ) → IsIn (ports_of w) x → IsPort x
      port_is x i =
          let r = images_in (λ (s : Seat). s.node) (by_port w.nodes) x i in
          let seat : IsSeat w.table r.0 =
          each_of (IsSeat w.table) w.nodes r.0 sound.opens.seated
          (in_all is_before w.nodes r.0 r.1) in
          subst IsPort r.2 seat.port

  -- what a node wrote that served is read behind the records of others
  served_judged : (earlier : List Record) (bytes : List ℕ) (r : Record) →
      IsServedFile w earlier bytes r → steps_in earlier + record_steps r ≤ 1000000 →
      judged w.nodes earlier bytes ≡ Ok r
  served_judged earlier bytes r file few =
      let act = native_act (behaviour_of w) in
      let seat : Seat = file.seat in
      let place : Seated = record { world = w; seat = seat } in
      let here = found_in (λ (s : Seat). seat.node == s.node) w.nodes seat file.here in
      let server : Server Seen =
      opening (resting (opened place)) (map outgoing (opened place).frames) (heard place)
      file.wrote.starts in
      let it =
      files_read w.table act w.nodes seat file.wrote.turns server file.wrote.told earlier
      sound.opens (each_of (IsSeat w.table) w.nodes seat sound.opens.seated here.0)
      (seat_has w.nodes seat here.0) (sound_keeps w sound)
      (native_names_shown (behaviour_of w) w.table) refl
      (record { peers = peers_heard place refl; starts = file.wrote.good }) file.wrote.came
      file.wrote.few file.alone in
      let ran : Record = record_of_run w.table act w.nodes it.ran in
      let read : record_of bytes ≡ Ok ran = ap record_of file.wrote.wrote ∙ it.is_read in
      let same : r ≡ ran = one_record r ran (sym file.is_read ∙ read) in
      ap (judged w.nodes earlier) file.wrote.wrote
      ∙ it.reads (subst (λ (q : Record). steps_in earlier + record_steps q ≤ 1000000) same few)
      ∙ ap Ok (sym same)

  -- the steps of a record behind others
  steps_more : (earlier : List Record) (r : Record) →
      steps_in (earlier ++ r ∷ []) ≡ steps_in earlier + record_steps r
  steps_more earlier r = omega (arith, sum_by-append record_steps earlier (r ∷ []))

  -- the records before have no more steps than all
  steps_few : (earlier : List Record) (files : List (List ℕ)) → AreServedFiles w earlier files →
      steps_in earlier ≤ 1000000
  steps_few earlier [] all = all
  steps_few earlier (bytes ∷ files) all =
      let more = steps_few (earlier ++ all.0 ∷ []) files all.2 in
      omega (arith, more, steps_more earlier all.0)

  -- the first of such files is read behind those before
  first_judged : (earlier : List Record) (bytes : List ℕ) (files : List (List ℕ))
      (all : AreServedFiles w earlier (bytes ∷ files)) →
      judged w.nodes earlier bytes ≡ Ok all.0
  first_judged earlier bytes files all =
      let more = steps_few (earlier ++ all.0 ∷ []) files all.2 in
      served_judged earlier bytes all.0 all.1
      (subst (λ n. n ≤ 1000000) (steps_more earlier all.0) more)

  -- ---- where a file is no record

  module _ (told : Option (List NamedFile)) where
    -- first files, of which not all were written by nodes that served
    record NotServed (earlier : List Record) (names : List (List ℕ)) (index : ℕ) : Type 0 where
      files : List (List ℕ)
      first : AreFirst told names files
      counted : length earlier + length files ≡ index
      none : AreServedFiles w earlier files → ⊥

    -- a fault of a record is told of the one behind those before
    fault_at : (index line count : ℕ) (fault : SchedFault) →
        BadRecord index line ≡ told_of_record count fault → index ≡ count
    fault_at index line count (sched.BadLine at) e = cc
    fault_at index line count (sched.TooMany at) e = cc
    fault_at index line count (sched.NoEnd at) e = cc
    fault_at index line count sched.Memory e = absurd (cc)

    -- so it is where one of the files is refused
    not_served : (earlier : List Record) (names : List (List ℕ)) (index line : ℕ) →
        SayNoRecords told w.nodes earlier names (BadRecord index line) →
        NotServed earlier names index
    not_served earlier [] index line h = absurd h
    not_served earlier (name ∷ names) index line (inl (inl long)) =
        let e = long.tells in absurd (cc)
    not_served earlier (name ∷ names) index line (inl (inr bad)) = record {
      files = bad.bytes ∷ [];
      first = (bad.file, tt);
      counted = sym (fault_at index line (length earlier + 1) bad.is_read.fault bad.is_read.tells);
      none = λ all.
          no_fault_read bad.is_read.fault all.0
          (sym bad.is_read.is_fault ∙ first_judged earlier bad.bytes [] all);
    }
    not_served earlier (name ∷ names) index line (inr (r, say, more)) =
        let rest = not_served (earlier ++ r ∷ []) names index line more in
        record {
          files = say.bytes ∷ rest.files;
          first = (say.file, rest.first);
          counted = omega (arith, rest.counted, length-append earlier (r ∷ []));
          none = λ all.
              rest.none (subst (λ q. AreServedFiles w (earlier ++ q ∷ []) rest.files)
              (one_record all.0 r
              (sym (first_judged earlier say.bytes rest.files all) ∙ say.is_read)) all.2);
        }

    -- what is told of it
    pub tells_not_served : (word : List ℕ) (names : List (List ℕ)) (index line : ℕ) →
        GivesWorld told word w → SayNoRecords told w.nodes [] names (BadRecord index line) →
        AreNotServed told word names index
    tells_not_served word names index line gives h =
        let it = not_served [] names index line h in
        record {
          world = w;
          gives = gives;
          files = it.files;
          first = it.first;
          counted = omega (arith, it.counted);
          none = it.none;
        }
