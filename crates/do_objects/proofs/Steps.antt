-- What each event does to a node of the machine.
use Rattle.do_facts.specs.nodes.Cause as cause
use Rattle.do_behave.specs.declared.act.Act.TheVariants as acts
use Rattle.std.proofs.Common.{◌≡◌, ◌∙◌, ◌==◌, ℕ, Bool, true, false, cond, List, [], ◌∷◌, ap, refl}
use Rattle.std.{proofs.Common.{append-nil, subst, sym, arith}, specs.Prelude.{None, Option, Some}}
use Rattle.std.proofs.lemmas.Bool.{eqb-true, Decides.nat_tests}
use Rattle.do_base.specs.declared.events.{event.Event.Event, shown.Shown.Shown}
use Rattle.do_base.specs.declared.events.event.Event.TheVariants.{Close, Run, Start, Timeout}
use Rattle.do_base.specs.declared.values.value.Value.{Value}
use Rattle.do_class.specs.Class.{Class}
use Rattle.do_behave.specs.declared.{act.{Act.Act, Write.Write}, invocation.InvState.InvState}
use Rattle.do_behave.specs.declared.invocation.{InvState.TheVariants.Running, Invocation.Invocation}
use Rattle.do_machine.specs.declared.{node.Node.Node, state.{Effect.Effect, Parcel.Parcel}}
use Rattle.do_machine.specs.{declared.state.State.State, Commit.commit}
use Rattle.do_machine.specs.{Context.{Context, around, context}, Objects.object_at, State.node}
use Rattle.do_machine.specs.{Step.step, held.Leaving.leaving, run.Run.{Acting, run_effect}}
use Rattle.do_facts.specs.steps.IsStep.{IsActOf, IsRuleOf, without_oldest}
use Rattle.do_facts.proofs.steps.NodeSteps.{Acted, NodeStep, Stands, Took, node_step}
use Rattle.do_facts.proofs.steps.{OthersStay.move_leaves_own, RuleMoves.rule_moves}
use Rattle.do_facts.specs.{Net.Note, nodes.{Atoms.Atom, Judged.Judge, Moves.Wrote}}
use Rattle.do_facts.{specs.nodes.Cause.{Cause, frees}, proofs.nodes.Judges.judge_of}
use Rattle.do_facts.proofs.nodes.EventsDo.{cause_of, judge, rule_does, rule_wrote}
use Rattle.do_facts.proofs.nodes.{Ruled.{run_wrote, wrote_at, wrote_of}, RunWalks.{IfDoes, by_run}}
use Rattle.do_facts.proofs.nodes.{TakeWalks.by_take, Walks.Does}
use Rattle.do_objects.specs.Writes.{act_at, run_writes, writes_in, writes_of, writes_to}
use Rattle.do_objects.proofs.{Finding.there, Kept.{Became, Keeps, became, none, same_writes}}
use Rattle.do_objects.proofs.{Kept.stayed, Known.{HoldsAfter, HoldsBegun, Known}}
use Rattle.do_objects.proofs.{MovesKept.{by_walk, written_to}, Whole.stock}

-- nothing is written, whatever a test says
nothing : (b : Bool) → ◌≡◌ {A = List Write} (cond b [] []) []
nothing b = grind (arith)

-- what an act writes is written to the object of its invocation
act_alike : (i : Invocation) (a : Act) (k : ℕ) →
    cond (i.object.serial == k) (writes_of a) [] ≡ written_to (wrote_of i a) k
act_alike i (acts.Step pc locals handler writes) k =
    sym (append-nil (cond (i.object.serial == k) writes []))
act_alike i _ k = nothing (i.object.serial == k)

-- so is what a run writes
written_alike : (j : Judge) (stack : List Invocation) (k : ℕ) →
    run_writes j.table j.act j.first stack k ≡ written_to (run_wrote j stack) k
written_alike j [] k = refl
written_alike j (i ∷ is) k = go i.state
  where
    a : Act
    a = act_at j.table j.act j.first i

    go : (state : InvState) → cond (i.object.serial == k) (writes_in state a) []
        ≡ written_to (wrote_at i state a) k
    go Running = act_alike i a k
    go _ = nothing (i.object.serial == k)

module _ (table : List Class) (act : Acting) (S : State) where
  -- what an event writes at the node of a port
  abbrev pub writes_at : Event → ℕ → ℕ → List Write
  writes_at event p k = writes_to table act S event (object_at p k)

  -- what a run writes at its own node
  own_writes : (actor port : ℕ) (n : Node) → actor ≡ port → node S port ≡ Some n → (k : ℕ) →
      writes_at (Run actor) port k ≡ run_writes table act n n.stack k
  own_writes actor port n own here k = grind (arith, nat_tests, own, here)

  module _ (W : Known) (begin : HoldsBegun W table)
      (goes : (i : Invocation) (slots : List Value) → HoldsAfter W i (act table i slots)) where
    -- what moves come to keeps all, with their writes
    kept : (T : State) (n : Node) (why : Cause) → frees why ≡ false → {taken : List (Note Atom)}
        {written : List Wrote} {sent : List Parcel} {shown : List Shown} {q : Node} →
        Does (judge_of act (context table T n) why) n taken written q sent shown →
        Keeps W (written_to written) (stock n) (stock q)
    kept T n why none d = by_walk W (judge_of act (context table T n) why) none begin goes d

    -- no rule of an event frees anything
    frees_none : (event : Event) → frees (cause_of event) ≡ false
    frees_none (Start actor selector values) = refl
    frees_none (Close actor peer) = refl
    frees_none (Timeout actor) = refl
    frees_none _ = refl

    -- what moves write by a rule is what its event writes
    rule_alike : (event : Event) (port : ℕ) (n : Node) (e : Effect) → IsActOf port event →
        node S port ≡ Some n → IsRuleOf table act S event n e → (k : ℕ) →
        writes_at event port k ≡ written_to (rule_wrote table act S event n) k
    rule_alike (Run actor) port n e own here rule k =
        own_writes actor port n own here k
        ∙ written_alike (judge table act S (Run actor) n) n.stack k
    rule_alike (Start actor selector values) port n e own here rule k = refl
    rule_alike (Close actor peer) port n e own here rule k = refl
    rule_alike (Timeout actor) port n e own here rule k = refl
    rule_alike _ port n e own here rule k = absurd own

    -- what a node does by the rule of an event keeps all, with the writes of the event
    by_rule : (event : Event) (port : ℕ) (n : Node) (e : Effect) → IsActOf port event →
        node S port ≡ Some n → IsRuleOf table act S event n e →
        Keeps W (writes_at event port) (stock n) (stock e.node)
    by_rule event port n e own here rule =
        same_writes _ _ (written_to (rule_wrote table act S event n)) (writes_at event port)
        (rule_alike event port n e own here rule)
        (kept S n (cause_of event) (frees_none event) (rule_does table act S event n e rule))

    -- the node of a port before an event, of which that made another
    abbrev pub Before : Event → ℕ → Node → Type 0
    Before event port m =
        (n : Node) × (node S port ≡ Some n) × Became W (writes_at event port) n m

    module _ (event : Event) (port : ℕ) (m : Node)
        (now : node (step table act S event).state port ≡ Some m) where
      -- a node that had an effect, and left what nothing holds
      had : (n : Node) (e : Effect) (entry : ℕ → ℕ → Bool) → node S port ≡ Some n →
          node (step table act S event).state port ≡ Some (leaving entry e.node).node →
          Keeps W (writes_at event port) (stock n) (stock e.node) → Before event port m
      had n e entry here left kept =
          let is : (leaving entry e.node).node ≡ m = there _ _ m left now in
          let was = became (writes_at event port) entry n e.node kept in
          (n, here, subst (Became W (writes_at event port) n) is was)

      -- one that acts by the event's rule
      acted : (n : Node) (e : Effect) → IsActOf port event → node S port ≡ Some n →
          IsRuleOf table act S event n e → Before event port m
      acted n e own here r =
          had n e (around (commit port e S) e.node).entry here
          (ap (λ x. node x.state port) (rule_moves table act S event port n e own here r)
          ∙ move_leaves_own port n e S here)
          (by_rule event port n e own here r)

    -- a node that stands as it was: by its own run it has no effect, and else nothing is written
    stood : (event : Event) (port : ℕ) (m : Node) →
        node (step table act S event).state port ≡ Some m → node S port ≡ Some m →
        Before event port m
    stood (Run actor) port m now here = by (actor == port) refl
      where
        c : Context
        c = context table S m

        j : Judge
        j = judge table act S (Run actor) m

        ran : actor ≡ port → (found : Option Effect) → run_effect act c ≡ found →
            IfDoes j (run_wrote j m.stack) found → Before (Run actor) port m
        ran own None is h = (
          m,
          here,
          stayed m _ (λ k. own_writes actor port m own here k
              ∙ written_alike j m.stack k ∙ ap (λ ws. written_to ws k) h),
        )
        ran own (Some e) is h = acted (Run actor) port m now m e own here is

        by : (b : Bool) → (actor == port) ≡ b → Before (Run actor) port m
        by true e =
            ran (eqb-true actor port e) (run_effect act c) refl (by_run j)
        by false e = (m, here, stayed m _ (λ k. grind (arith, e)))
    stood event port m now here = (m, here, stayed m (writes_at event port) (λ k. refl))

    -- the node of a port before any event
    pub before_of : (event : Event) (port : ℕ) (m : Node) →
        node (step table act S event).state port ≡ Some m → Before event port m
    before_of event port m now = by (node_step table act S event port)
      where
        by : NodeStep table act S event port (node (step table act S event).state port) →
            Before event port m
        by (Stands same) = stood event port m now (sym same ∙ now)
        by (Acted n e entry own here r left) = acted event port m now n e own here r
        by (Took from n item behind e entry is here waits r left) =
            had event port m now n e entry here left
            (same_writes _ _ none (writes_at event port) (λ k. ap (λ x. writes_at x port k) is)
            (subst (λ d. Keeps W none (stock n) (stock d.node)) (sym r.1)
            (kept (without_oldest S from port behind) n (cause.Take from item) refl
            (by_take (judge_of act (context table (without_oldest S from port behind) n)
            (cause.Take from item)) from r.0 item refl))))
