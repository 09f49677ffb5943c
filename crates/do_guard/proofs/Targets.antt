-- A checker keeps its target.
use Rattle.do_behave.specs.declared.act.Act.TheVariants as acts
use Rattle.std.proofs.Common.{◌≡◌, ◌∙◌, ◌==◌, ◌<◌, ℕ, Bool, true, false, cond, List, [], ◌∷◌, ◌++◌}
use Rattle.std.proofs.Common.{refl, sym, ap, subst, arith}
use Rattle.std.specs.Prelude.{None, Option, Some, option_and_then, option_map, slice_get, unwrap_or}
use Rattle.std.proofs.lemmas.Bool.{eqb-true}
use Rattle.do_base.specs.{names.Names.ObjectName, declared.events.event.Event.Event}
use Rattle.do_base.specs.declared.events.event.Event.TheVariants.{Check, Close, Lose, Run, Start}
use Rattle.do_base.specs.declared.events.event.Event.TheVariants.{Take, Timeout}
use Rattle.do_class.specs.Class.{Class}
use Rattle.do_grammar.specs.Words.{◌>>?◌}
use Rattle.do_behave.specs.{Steps.or_fault, declared.act.Act.Act}
use Rattle.do_behave.specs.declared.invocation.{Invocation.Invocation, InvState.InvState}
use Rattle.do_behave.specs.declared.invocation.InvState.TheVariants.{Answered, Below, Running}
use Rattle.do_behave.specs.declared.invocation.InvState.TheVariants.{Waits}
use Rattle.do_check.specs.{Acts.check_act, Sent.IsNoStep, declared.rules.Rule.Rule}
use Rattle.do_check.proofs.OnlyAllowed.{target_stays}
use Rattle.do_native.specs.{Acts.{acts_as, native_act}, declared.native.Native.Native}
use Rattle.do_machine.specs.declared.{node.{Node.Node, Stored.Stored}, state.Seat.Seat}
use Rattle.do_machine.specs.{declared.state.State.State, State.{node, stored}, Step.step}
use Rattle.do_machine.specs.{World.opening, run.{Changes.with_writes, Run.{Acting, slots_seen}}}
use Rattle.do_guard.specs.Checkers.{HasTarget, IsOfCheckers}
use Rattle.do_objects.specs.OwnClass.{AllSound, HaveOwnMethods, WasMadeOf}
use Rattle.do_objects.specs.Reached.{after, object_of, reached}
use Rattle.do_objects.specs.Writes.{act_at, run_writes, writes_in, writes_of, writes_to}
use Rattle.do_objects.proofs.{Finding.{absent, there}, Whole.stored_made}
use Rattle.do_objects.proofs.Sound.{before, has_writes, reached_sound, stays_sound}

-- an act that is no step writes nothing
no_writes : (a : Act) → IsNoStep a → writes_of a ≡ []
no_writes (acts.Step pc locals handler writes) h = absurd h
no_writes (acts.New class into pc) h = refl
no_writes (acts.Send target selector args into from pc) h = refl
no_writes (acts.Root port into pc) h = refl
no_writes (acts.Vend value pc) h = refl
no_writes (acts.Say value pc) h = refl
no_writes (acts.Return value) h = refl
no_writes (acts.Raise e) h = refl

module _ (b : Native) (table : List Class) where
  -- an invocation of a checker, whose object has a target, writes nothing
  acts_quietly : (i : Invocation) (x : Stored) → IsOfCheckers b i.method.class → HasTarget x →
      writes_of (native_act b table i x.slots) ≡ []
  acts_quietly i x checker set =
      ap (λ kind. writes_of (or_fault (kind >>? λ k. acts_as b k table i x.slots))) checker
      ∙ by (slice_get b.rules i.method.class.0)
    where
      by : (rules : Option (List Rule)) →
          writes_of (or_fault (rules >>? λ these. Some (check_act these table i x.slots))) ≡ []
      by None = refl
      by (Some rules) =
          no_writes (check_act rules table i x.slots)
          (target_stays rules table i x.slots set.target set.slot set.set)

  -- in any state of its invocation
  runs_quietly : (i : Invocation) (x : Stored) → IsOfCheckers b i.method.class → HasTarget x →
      (state : InvState) → writes_in state (native_act b table i x.slots) ≡ []
  runs_quietly i x checker set Running = acts_quietly i x checker set
  runs_quietly i x checker set Below = refl
  runs_quietly i x checker set (Waits call peer what) = refl
  runs_quietly i x checker set (Answered a) = refl

  module _ (n : Node) (serial : ℕ) (x : Stored) (at : stored serial n.heap ≡ Some x)
      (checker : IsOfCheckers b x.class) (set : HasTarget x) where
    -- an invocation of the object writes nothing
    own_quiet : (i : Invocation) → WasMadeOf n i.object.serial i.method.class →
        (i.object.serial == serial) ≡ true →
        writes_in i.state (act_at table (native_act b) n i) ≡ []
    own_quiet i made e =
        let here : stored i.object.serial n.heap ≡ Some x =
        ap (λ k. stored k n.heap) (eqb-true i.object.serial serial e) ∙ at in
        ap (λ found. writes_in i.state (native_act b table i (slots_seen found))) here
        ∙ runs_quietly i x (subst (IsOfCheckers b) (made.1 x here) checker) set i.state

    -- a run of its home writes nothing to it
    run_quiet : (is : List Invocation) → HaveOwnMethods n is →
        run_writes table (native_act b) n is serial ≡ []
    run_quiet [] own = refl
    run_quiet (i ∷ below) own =
        by (i.object.serial == serial) (own_quiet i own.0)
      where
        by : (t : Bool) →
            (t ≡ true → writes_in i.state (act_at table (native_act b) n i) ≡ []) →
            cond t (writes_in i.state (act_at table (native_act b) n i)) [] ≡ []
        by true h = h refl
        by false h = refl

  module _ (S : State) (sound : AllSound S) (o : ObjectName) (x : Stored)
      (at : object_of S o ≡ Some x) (checker : IsOfCheckers b x.class) (set : HasTarget x) where
    -- at the home of the object
    home_quiet : (found : Option Node) → node S o.node ≡ found →
        unwrap_or (option_map (λ n. run_writes table (native_act b) n n.stack o.serial) found) []
        ≡ []
    home_quiet None h = refl
    home_quiet (Some n) h =
        run_quiet n o.serial x
        (ap (λ found. option_and_then (λ m. stored o.serial m.heap) found) (sym h) ∙ at)
        checker set n.stack (sound.each o.node n h).invocations

    -- no event writes to a checker that has a target
    unwritten : (event : Event) → writes_to table (native_act b) S event o ≡ []
    unwritten (Run port) = by (port == o.node) refl
      where
        by : (t : Bool) → (port == o.node) ≡ t →
            cond t (unwrap_or (option_map
            (λ n. run_writes table (native_act b) n n.stack o.serial) (node S port)) []) [] ≡ []
        by true e = home_quiet (node S port) (ap (λ p. node S p) (sym (eqb-true port o.node e)))
        by false e = refl
    unwritten (Start port selector values) = refl
    unwritten (Take port from) = refl
    unwritten (Close port peer) = refl
    unwritten (Lose from to count) = refl
    unwritten (Timeout port) = refl
    unwritten Check = refl

  -- an object was made, and is this one as long as it is stored
  record WasSet (S : State) (o : ObjectName) (x : Stored) : Type 0 where
    pub made : (n : Node) → node S o.node ≡ Some n → o.serial < n.next_serial
    pub stays : (y : Stored) → object_of S o ≡ Some y → y ≡ x

  module _ (o : ObjectName) (x : Stored) (checker : IsOfCheckers b x.class)
      (set : HasTarget x) where
    module _ (S : State) (event : Event) (sound : AllSound S) (was : WasSet S o x) where
      -- the state after the event
      abbrev T : State
      T = (step table (native_act b) S event).state

      -- the object was made
      made_after : (m : Node) → node T o.node ≡ Some m → o.serial < m.next_serial
      made_after m h =
          let n = before table (native_act b) S event o.node m h in
          let old : o.serial < n.0.next_serial = was.made n.0 n.1 in
          omega (arith, old, n.2.next)

      -- where it was not stored it is not stored
      gone_after : object_of S o ≡ None → object_of T o ≡ None
      gone_after gone = by (node T o.node) refl
        where
          by : (now : Option Node) → node T o.node ≡ now →
              option_and_then (λ n. stored o.serial n.heap) now ≡ None
          by None e = refl
          by (Some m) e =
              let n = before table (native_act b) S event o.node m e in
              n.2.gone o.serial (was.made n.0 n.1)
              (ap (λ found. option_and_then (λ k. stored o.serial k.heap) found) (sym n.1) ∙ gone)

      -- where it was stored nothing was written to it
      same_after : (y : Stored) → object_of T o ≡ Some y → (found : Option Stored) →
          object_of S o ≡ found → y ≡ x
      same_after y h None e = absurd (absent y (object_of T o) h (gone_after e))
      same_after y h (Some z) e =
          let at : object_of S o ≡ Some x = e ∙ ap (λ w. Some w) (was.stays z e) in
          has_writes table (native_act b) S event o x y at h
          ∙ ap (λ ws. with_writes ws x) (unwritten S sound o x at checker set event)

      -- so it is this one after a step
      set_after : WasSet T o x
      set_after = record {
        made = made_after;
        stays = λ y h. same_after y h (object_of S o) refl;
      }

    -- and after any events
    set_later : (S : State) (events : List Event) → AllSound S → WasSet S o x →
        WasSet (after table (native_act b) S events) o x
    set_later S [] sound was = was
    set_later S (event ∷ events) sound was =
        set_later (step table (native_act b) S event).state events
        (stays_sound table (native_act b) S event sound) (set_after S event sound was)

  -- an object that a sound state stores was made
  is_set : (S : State) (o : ObjectName) (x : Stored) → AllSound S →
      object_of S o ≡ Some x → WasSet S o x
  is_set S o x sound at = record {
    made = λ n h.
        (stored_made n o.serial x.class (sound.each o.node n h).given
        (ap (λ found. option_map (λ y. y.class)
        (option_and_then (λ m. stored o.serial m.heap) found)) (sym h)
        ∙ ap (option_map (λ y. y.class)) at)).0;
    stays = λ y h. there (object_of S o) y x h at;
  }

  -- over any events from a sound state, a checker keeps its target
  pub targets_stay : (S : State) (events : List Event) (o : ObjectName) (x y : Stored) →
      AllSound S → object_of S o ≡ Some x → IsOfCheckers b x.class → HasTarget x →
      object_of (after table (native_act b) S events) o ≡ Some y → y ≡ x
  targets_stay S events o x y sound at checker set h =
      (set_later o x checker set S events sound (is_set S o x sound at)).stays y h

-- events behind others go on from where those lead
after_both : (table : List Class) (act : Acting) (S : State) (events more : List Event) →
    after table act S (events ++ more) ≡ after table act (after table act S events) more
after_both table act S [] more = refl
after_both table act S (event ∷ events) more =
    after_both table act (step table act S event).state events more

-- over any schedule
pub targets_stay_reached : (b : Native) (table : List Class) (seats : List Seat)
    (events more : List Event) (o : ObjectName) (x y : Stored) →
    object_of (reached table (native_act b) seats events) o ≡ Some x →
    IsOfCheckers b x.class → HasTarget x →
    object_of (reached table (native_act b) seats (events ++ more)) o ≡ Some y → y ≡ x
targets_stay_reached b table seats events more o x y at checker set h =
    targets_stay b table (reached table (native_act b) seats events) more o x y
    (reached_sound table (native_act b) seats events) at checker set
    (ap (λ S. object_of S o)
    (sym (after_both table (native_act b) (opening table seats) events more)) ∙ h)
