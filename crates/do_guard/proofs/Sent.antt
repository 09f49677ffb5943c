-- What a run of a checker sends.
use Rattle.do_behave.specs.declared.invocation.Reason.TheVariants as reasons
use Rattle.do_machine.specs.declared.verdict.Request.TheVariants as requests
use Rattle.std.proofs.Common.{◌≡◌, ◌<◌, ◌≤◌, ℕ, List, [], ◌∷◌, length, refl, subst, arith}
use Rattle.std.specs.{Prelude.Some, List.AllByRecursion}
use Rattle.do_base.specs.names.Names.{ObjectName}
use Rattle.do_class.specs.{Class.Class, Table.selector_of}
use Rattle.do_behave.specs.declared.invocation.Answer.{Answer, TheVariants.Given}
use Rattle.do_behave.specs.declared.invocation.Invocation.{Invocation}
use Rattle.do_machine.specs.declared.{state.{Effect.Effect, Parcel.Parcel}, verdict.Verdict.Verdict}
use Rattle.do_machine.specs.declared.verdict.Verdict.TheVariants.{Asks, Begins, Fails, Goes, Makes}
use Rattle.do_machine.specs.declared.verdict.Verdict.TheVariants.{Returns, Says, Steps, Tells, Uses}
use Rattle.do_machine.specs.{declared.verdict.Verdict.TheVariants.Vends, Context.RunContext}
use Rattle.do_machine.specs.{Objects.object_at, run.{Delivery.below_answered, Fresh.fresh}}
use Rattle.do_machine.specs.run.Verdicts.{effect_of}
use Rattle.do_facts.proofs.Deliveries.{Delivers, by_delivery, by_failing}
use Rattle.do_guard.specs.Checkers.{IfMessage, IsOfMessage}

module _ (May : ObjectName → List ℕ → Type 0) (table : List Class) where
  -- each parcel that is a message may be sent
  abbrev pub MaySendAll : List Parcel → Type 0
  MaySendAll sent = AllByRecursion (λ p. IfMessage May p.to p.item) sent

  -- an effect that sends only what it may, over this stack
  pub record EffectSends (stack : List Invocation) (e : Effect) : Type 0 where
    pub sent : MaySendAll e.sent
    pub begun : (i : Invocation) (below : List Invocation) → e.node.stack ≡ i ∷ below →
        length stack < length e.node.stack → IsOfMessage May table i

  -- a verdict that sends only what it may
  abbrev pub VerdictSends : Verdict → Type 0
  VerdictSends (Asks peer (requests.Call method m) into outs pc) =
      May (object_at peer m.target) m.selector
  VerdictSends (Begins o method values into outs pc) =
      (selector : List ℕ) × (selector_of table method ≡ Some selector) × May o selector
  VerdictSends (Tells peer m into pc) = May (object_at peer m.target) m.selector
  VerdictSends _ = Unit {0}

  -- an effect whose stack is no longer
  no_longer : (stack : List Invocation) (e : Effect) → MaySendAll e.sent →
      length e.node.stack ≤ length stack → EffectSends stack e
  no_longer stack e sent h = record {
    sent = sent;
    begun = λ i below is longer. absurd (omega (arith, h, longer));
  }

  module _ (r : RunContext) where
    -- the stack of the run
    abbrev stack : List Invocation
    stack = r.top ∷ r.below

    -- as many invocations below
    as_many : (a : Answer) (below : List Invocation) →
        length (below_answered a below) ≡ length below
    as_many a [] = refl
    as_many a (i ∷ is) = refl

    -- an answer is no message
    delivers : Delivers (λ reason. EffectSends stack) r
    delivers = record {
      shown = λ a. no_longer stack _ tt (omega arith);
      below = λ a. no_longer stack _ tt (omega (arith, as_many a r.below));
      unheard = λ peer. no_longer stack _ tt (omega arith);
      told = λ peer e. no_longer stack _ tt (omega arith);
      dropped = λ peer number c. no_longer stack _ tt (omega arith);
      raised = λ peer number e o. no_longer stack _ (tt, tt) (omega arith);
      replied = λ peer number v outs packet o h. no_longer stack _ (tt, tt) (omega arith);
      caught = λ e h. no_longer stack _ tt (omega arith);
    }

    -- each verdict
    pub by_verdict : (v : Verdict) → VerdictSends v → EffectSends stack (effect_of r v)
    by_verdict (Goes into value pc) may = no_longer stack _ tt (omega arith)
    by_verdict (Uses result outs) may = no_longer stack _ tt (omega arith)
    by_verdict (Steps pc locals handler writes) may = no_longer stack _ tt (omega arith)
    by_verdict (Makes class into pc) may = no_longer stack _ tt (omega arith)
    by_verdict (Vends root pc) may = no_longer stack _ tt (omega arith)
    by_verdict (Says value pc) may = no_longer stack _ tt (omega arith)
    by_verdict (Asks peer requests.Root into outs pc) may =
        no_longer stack _ (tt, tt) (omega arith)
    by_verdict (Asks peer (requests.Call method m) into outs pc) may =
        no_longer stack _ (may, tt) (omega arith)
    by_verdict (Begins o method values into outs pc) may = record {
      sent = tt;
      begun = λ i below is longer.
          let same : fresh o method reasons.Local values ≡ i = cc in
          subst (IsOfMessage May table) same
          (record { selector = may.0; called = may.1; sent = may.2 });
    }
    by_verdict (Tells peer m into pc) may = no_longer stack _ (may, tt) (omega arith)
    by_verdict (Returns result outs) may =
        by_delivery (λ reason. EffectSends stack) r delivers (Given result outs) r.top.reason
    by_verdict (Fails e) may =
        by_failing (λ reason. EffectSends stack) r delivers e r.top.handler
