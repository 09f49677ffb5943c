-- A search for leaks tells each stored object of a state that nothing can reach.
use Rattle.std.proofs.Common.{◌≡◌, ◌∙◌, ◌⊎◌, Bool, true, false, cond, not, List, [], ◌∷◌, map}
use Rattle.std.proofs.Common.{Option, Some, None, IsSome, refl, sym, ap, inl, inr, rules}
use Rattle.std.{specs.{Prelude.is_some, List.list_any}, proofs.lemmas.Bool.{both_ways, not-true}}
use Rattle.std.proofs.lemmas.List.Elements.{All-from_recursion, All-weaker}
use Rattle.do_base.specs.{declared.events.event.Event.Event, names.Names.ObjectName}
use Rattle.do_class.specs.Class.{Class}
use Rattle.do_leaks.specs.{Heap.heap_of, Laws.{AreHeld, AreLost}, Leaks.holder}
use Rattle.do_leaks.{specs.Reach.{missed, reach}, proofs.Lost.{all_listed, each_lost}}
use Rattle.do_leaks.proofs.{Named.{same_is, same_self}, Reaching.reach_least}
use Rattle.do_lost.specs.Named.{named}
use Rattle.do_machine.specs.{declared.state.{Seat.Seat, State.State, Station.Station}, Lists.IsIn}
use Rattle.do_machine.specs.{check.Snapshot.{object_line, snapshot}, run.Run.Acting}
use Rattle.do_machine.proofs.Bools.{or_cases, or_left, or_right}
use Rattle.do_packet.specs.Met.{has_object, same_object}
use Rattle.do_facts.specs.Reached.{reached}
use Rattle.do_quiet.{specs.Keeping.NodesKeep, proofs.NodesKeep.reached_nodes_keep}
use Rattle.do_trace.specs.declared.outcome.ObjLine.{ObjLine}
use Rattle.do_cycles.{specs.Told.{TellsEachLost, lost, told}, proofs.Among.listed_stored}
use Rattle.do_cycles.proofs.{HeldOrNamed.held_or_named, StationsOfPorts.IsFoundOrOpens}
use Rattle.do_cycles.proofs.{StationsOfPorts.reached_stations, InLists.all_filtered}

-- an option that has a value
has_some : {X : Type 0} (x : Option X) → is_some x ≡ true → IsSome x
has_some None h = absurd (cc)
has_some (Some x) h = search rules

-- the names of the objects that are missed
abbrev names_missed : List ObjectName → List ObjLine → List ObjectName
names_missed os heap = map (λ (x : ObjLine). x.oid) (missed os heap)

-- a stored object that is missed is among the names of those
missed_name : (os : List ObjectName) (heap : List ObjLine) (o : ObjectName) →
    list_any (λ x. same_object x.oid o) heap ≡ true → has_object os o ≡ false →
    has_object (names_missed os heap) o ≡ true
missed_name os [] o h lost = absurd (cc)
missed_name os (x ∷ xs) o h lost =
    go (has_object os x.oid) refl
    (or_cases (same_object x.oid o) (list_any (λ y. same_object y.oid o) xs) h)
    (λ k. missed_name os xs o k lost)
  where
    go : (b : Bool) → has_object os x.oid ≡ b →
        (same_object x.oid o ≡ true) ⊎ (list_any (λ y. same_object y.oid o) xs ≡ true) →
        (list_any (λ y. same_object y.oid o) xs ≡ true →
        has_object (names_missed os xs) o ≡ true) →
        has_object (map (λ (y : ObjLine). y.oid) (cond (not b) (x ∷ missed os xs) (missed os xs)))
        o ≡ true
    go true e (inl q) k =
        absurd (both_ways (has_object os o) lost (ap (has_object os) (sym (same_is x.oid o q)) ∙ e))
    go true e (inr q) k = k q
    go false e (inl q) k =
        or_left (same_object o x.oid) (has_object (names_missed os xs) o)
        (ap (same_object o) (same_is x.oid o q) ∙ same_self o)
    go false e (inr q) k =
        or_right (same_object o x.oid) (has_object (names_missed os xs) o) (k q)

module _ (S : State) (keep : NodesKeep S)
    (stations : (s : Station) → IsIn S.stations s → IsFoundOrOpens S s) where
  -- a stored object that was missed has a holder
  missed_held : (line : ObjLine) → IsIn (heap_of (snapshot S)) line →
      not (has_object (reach (heap_of (snapshot S)) (named S)) line.oid) ≡ true →
      IsSome (holder (heap_of (snapshot S)) line.oid)
  missed_held line i h =
      let at = listed_stored S line i in
      let s : Station = at.0 in
      let heap = heap_of (snapshot S) in
      let is : object_line s.node at.2.0 ≡ line = at.2.2 in
      let unreached : has_object (reach heap (named S)) line.oid ≡ false =
      not-true (has_object (reach heap (named S)) line.oid) h in
      elim (held_or_named S keep s at.1 (stations s at.1) at.2.0 at.2.1) [
        | inl e ↦ absurd (both_ways (has_object (reach heap (named S)) line.oid) unreached
            ((reach_least heap (named S)).named_there line.oid
            (ap (λ (x : ObjLine). has_object (named S) x.oid) (sym is) ∙ e)))
        | inr e ↦ has_some (holder heap line.oid)
            (ap (λ (x : ObjLine). is_some (holder heap x.oid)) (sym is) ∙ e)
      ]

  -- so each has one
  all_held : AreHeld (snapshot S) (named S)
  all_held =
      let heap = heap_of (snapshot S) in
      let os = reach heap (named S) in
      let Held : ObjLine → Type 0 = λ x. IsSome (holder heap x.oid) in
      All-from_recursion Held (missed os heap)
      (all_filtered Held (λ x. not (has_object os x.oid)) heap missed_held)

  -- and all are told
  pub each_told : TellsEachLost S
  each_told = record {
    each = all_listed (snapshot S) (named S) all_held;
    held = All-weaker (AreLost (snapshot S) (named S))
        (λ l. has_object (lost S) l.holder ≡ true)
        (λ l h. missed_name (reach (heap_of (snapshot S)) (named S)) (heap_of (snapshot S)) l.holder
        h.1.stored h.1.unreached) (told S) (each_lost (snapshot S) (named S));
  }

-- in every state that a machine comes to
pub reached_told : (table : List Class) (act : Acting) (seats : List Seat)
    (events : List Event) → TellsEachLost (reached table act seats events)
reached_told table act seats events =
    each_told (reached table act seats events) (reached_nodes_keep table act seats events)
    (reached_stations table act seats events)
