-- What serving a node and running a plan come to, as statuses tell it.
use Rattle.do_cli.specs.declared.command.Command.TheVariants as asked
use Rattle.do_given.specs.declared.status.Status.TheVariants as answer
use Rattle.do_served.specs.Nodes as nodes
use Rattle.do_served.specs.Plans as plans
use Rattle.std.proofs.Common.{ℕ, List, Option, inl, inr, refl}
use Rattle.do_base.specs.declared.outside.shelf.NamedFile.{NamedFile}
use Rattle.do_cli.specs.declared.command.Command.{Command}
use Rattle.do_given.specs.{Files.IsUnread, Reading.HasUnreadScheduled}
use Rattle.do_given.specs.Serving.{GivesServed, RefusesServed, SaysNoText, SaysPlan}
use Rattle.do_given.specs.declared.{served.Served.Served, status.Status.Status}
use Rattle.do_lab.specs.{Children.lab_text, declared.children.ChildEnd.ChildEnd}
use Rattle.do_link.specs.Told.{Told}
use Rattle.do_plan.specs.{Plan.plan_form, declared.plan.PlanLine.PlanLine}
use Rattle.do_serve.specs.Answers.{record_text}
use Rattle.do_node.specs.{Call.{Comes, Writes}, Running.Counts}
use Rattle.do_node.proofs.{FrontsWritten.front_written, RunsCome.{EndSays, run_comes}}

module _ (told : Option (List NamedFile)) (port : ℕ) (word name : List ℕ) (turns : ℕ)
    (old new : nodes.Seens) where
  abbrev Asked : Command
  Asked = asked.Node port word name turns

  abbrev Puts : Counts
  Puts = record { before = old.output; now = new.output }

  -- the record over what the link told is one that may be written
  may_write : (s : Served) → GivesServed told port word name s → (list : List Told)
      → Writes told Asked (record_text s.place.seat.node (nodes.report turns s list))
  may_write s given list = record { given = s; gives = given; list = list; is = refl }

  -- how serving ended is said
  node_says : (s : Served) (status : Status) → GivesServed told port word name s
      → nodes.Ends turns old new s status
      → EndSays told Asked old.written new.written Puts status
  node_says s answer.Ok given it =
      record { text = _; writes = may_write s given it.0; written = it.2.written }
  node_says s (answer.Usage word) given it = absurd it
  node_says s answer.ReadFault given it = absurd it
  node_says s (answer.TooLong read limit) given it = absurd it
  node_says s (answer.BadWorld fault) given it = absurd it
  node_says s (answer.BadSchedule line) given it = absurd it
  node_says s answer.WriteFault given it =
      (it.2, record { text = _; writes = may_write s given it.0; written = it.3.written })
  node_says s (answer.TurnsSpent n) given it = (
    it.2,
    record {
      text = _;
      writes = may_write s given it.0;
      written = front_written _ _ _ it.3.written;
    },
  )
  node_says s (answer.ChildFailed index end) given it = absurd it
  node_says s answer.Memory given (inl none) = inl none.1
  node_says s answer.Memory given (inr it) =
      inr (record { text = _; writes = may_write s given it.0; written = it.2.written })
  node_says s answer.LinkFault given it = (tt, it.1.1)
  node_says s (answer.BadRecord index line) given it = absurd it
  node_says s (answer.Contradiction index line) given it = absurd it

  -- what serving comes to
  pub node_comes : (before now : ℕ) (status : Status)
      → nodes.ServesGiven told before now port word name turns old new status
      → Comes told Asked (record { before = before; now = now }) old.written new.written Puts status
  node_comes before now status comes =
      run_comes (λ files. GivesServed files port word name)
      (λ files. RefusesServed files port word name) (nodes.Ends turns old new)
      (HasUnreadScheduled told before now word name) (nodes.DoesNothing old new) told Asked _
      old.written new.written Puts
      (record {
        is_refused = λ t st no. no;
        is_refusal = λ t st no. no;
        is_unread = λ unread. unread;
        still = λ none. none.1;
        says = λ s st given it. node_says s st given it;
        given = λ t text writes. (writes.given, writes.gives);
      })
      status comes

module _ (told : Option (List NamedFile)) (name : List ℕ) (old new : plans.Seens) where
  abbrev Run : Command
  Run = asked.Lab name

  abbrev Put : Counts
  Put = record { before = old.output; now = new.output }

  -- the lines over how the children ended are some that may be written
  may_run : (plan : List PlanLine) → SaysPlan told name plan → (ends : List ChildEnd)
      → Writes told Run (lab_text plan ends)
  may_run plan given ends = record { plan = plan; says = given; ends = ends; is = refl }

  -- how a plan ended is said
  plan_says : (plan : List PlanLine) (status : Status) → SaysPlan told name plan
      → plans.Ends old new plan status → EndSays told Run old.written new.written Put status
  plan_says plan answer.Ok given it =
      record { text = _; writes = may_run plan given it.0; written = it.3 }
  plan_says plan (answer.Usage word) given it = absurd it
  plan_says plan answer.ReadFault given it = absurd it
  plan_says plan (answer.TooLong read limit) given it = absurd it
  plan_says plan (answer.BadWorld fault) given it = absurd it
  plan_says plan (answer.BadSchedule line) given it = absurd it
  plan_says plan answer.WriteFault given it =
      (it.2, record { text = _; writes = may_run plan given it.0; written = it.3 })
  plan_says plan (answer.TurnsSpent n) given it = absurd it
  plan_says plan (answer.ChildFailed index end) given it = (
    tt,
    record {
      text = _;
      writes = may_run plan given it.1.0;
      written = front_written _ _ _ it.1.3;
    },
  )
  plan_says plan answer.Memory given (inl none) = inl none
  plan_says plan answer.Memory given (inr it) =
      inr (record { text = _; writes = may_run plan given it.0; written = it.2 })
  plan_says plan answer.LinkFault given it = absurd it
  plan_says plan (answer.BadRecord index line) given it = absurd it
  plan_says plan (answer.Contradiction index line) given it = absurd it

  -- what running a plan comes to
  pub plan_comes : (before now : ℕ) (status : Status)
      → plans.RunsGiven told before now name old new status
      → Comes told Run (record { before = before; now = now }) old.written new.written Put status
  plan_comes before now status comes =
      run_comes (λ files. SaysPlan files name) (λ files. SaysNoText plan_form files name)
      (plans.Ends old new) (IsUnread told before now name) (plans.DoesNothing old new) told Run _
      old.written new.written Put
      (record {
        is_refused = λ t st no. no;
        is_refusal = λ t st no. no;
        is_unread = λ unread. unread;
        still = λ none. none.1;
        says = λ plan st given it. plan_says plan st given it;
        given = λ t text writes. (writes.plan, writes.says);
      })
      status comes
