-- Each move of an effect leaves and posts only what a message can carry.
use Rattle.do_behave.specs.declared.invocation.Reason.TheVariants as reasons
use Rattle.do_facts.specs.nodes.Cause as cause
use Rattle.do_facts.specs.nodes.Moves as moves
use Rattle.do_machine.specs.declared.verdict.Request.TheVariants as requests
use Rattle.do_machine.specs.declared.verdict.Verdict.TheVariants as verdicts
use Rattle.std.proofs.lemmas.List.{length-set}
use Rattle.std.proofs.Common.{◌≡◌, ◌∙◌, ℕ, Bool, true, false, [], ◌∷◌, arith, map, refl, sym, subst}
use Rattle.std.specs.{Prelude.slice_set, List.AllByRecursion}
use Rattle.do_base.specs.{names.Names.TokenName, declared.events.exception.Exc.TheVariants.TimedOut}
use Rattle.do_base.specs.declared.values.value.Value.TheVariants.{Nil, Obj, Text}
use Rattle.do_behave.specs.declared.invocation.Answer.TheVariants.{Raised}
use Rattle.do_behave.specs.declared.invocation.InvState.TheVariants.{Below}
use Rattle.do_machine.specs.{declared.node.Node.Node, Objects.object_at, State.own}
use Rattle.do_machine.specs.{lend.Asking.wanted, run.Answers.exc_name}
use Rattle.do_machine.specs.run.{Changes.{answered, steps_to, uses}, Delivery.below_answered}
use Rattle.do_machine.specs.run.{Fresh.fresh, Verdicts.waits_for}
use Rattle.do_machine.specs.take.Receipt.{is_entered, is_reachable, reading}
use Rattle.do_facts.specs.nodes.After.{after, with_held, posts, takes, telling}
use Rattle.do_facts.specs.nodes.{Cause.{Cause, frees, leaves}, Judged.{Judge, context_of}, May.may}
use Rattle.do_facts.{specs.nodes.Moves.Move, proofs.EachOfLists.each_set}
use Rattle.do_facts.proofs.{methods.FewArguments.outs_length, nodes.Parcels.Goes as parts_go}
use Rattle.do_facts.{specs.nodes.Atoms.Atom, proofs.nodes.Kept.AllNotes}
use Rattle.do_limits.specs.Sendable.{IsSendable, IsSendableExc}
use Rattle.do_limits.specs.SendableStates.{InvocationIsSendable, ItemIsSendable}
use Rattle.do_limits.proofs.Effects.{MadeIsSendable, asks_for, begins, blank_sendable, ask_over}
use Rattle.do_limits.proofs.{Effects.{makes, pushes}, moves.Atoms.Comes}
use Rattle.do_limits.proofs.moves.Packets.{IsGiven, JudgeIsSendable, answer_ok, packed_ok}
use Rattle.do_limits.proofs.moves.Packets.{raised_ok, verdict_ok}
use Rattle.do_limits.proofs.runs.Invocations.{answered_below, outs_set, writes_slots}
use Rattle.do_limits.proofs.{runs.Verdicts.textless, takes.Answers.answered as answers_call}
use Rattle.do_limits.proofs.values.Carried.{carry-Nil, carry-Obj, name_sendable}
use Rattle.do_limits.proofs.{values.Unpacking.copies_come, moves.Nodes.{Keeps, closes_so, goes}}
use Rattle.do_limits.proofs.moves.Nodes.{goes_on_so, holds_so, restacked, stack_ok, stands_so}
use Rattle.do_limits.proofs.moves.Taken.{admitted_ok, denial_ok, started_ok, taken_ok}

-- no event leaves anything
leaves_not : (c : Cause) → IsGiven c → leaves c ≡ true → ⊥
leaves_not (cause.Leave freed) given h = given
leaves_not _ given h = cc

-- nor does one free anything
frees_not : (c : Cause) → IsGiven c → frees c ≡ true → ⊥
frees_not (cause.Leave freed) given h = given
frees_not _ given h = cc

module _ (j : Judge) (ok : JudgeIsSendable j) where
  -- a part of an item that goes to a peer
  abbrev pub Goes : ℕ → Atom → Type 0
  Goes = parts_go (ItemIsSendable j.table j.first.port)

  -- a lender that is told, or not
  telling_goes : (told : Bool) (token : TokenName) → AllNotes Goes (telling told token)
  telling_goes true token = (tt, tt)
  telling_goes false token = tt

  module _ (n : Node) (h : Keeps j n) where
    -- a move leaves such a node, and posts such parts
    abbrev Keeping : Move → Type 0
    Keeping v = Keeps j (after n v) × AllNotes Goes (posts n v)

    -- each move, where what it takes is so
    pub each : (v : Move) → may j n v → AllNotes (Comes j.table j.first.port) (takes v) → Keeping v
    each (moves.Goes t into value pc) m come =
        (goes j n h m into value pc (verdict_ok j ok (verdicts.Goes into value pc) t n m), tt)
    each (moves.Uses t result outs) m come =
        let was = stack_ok j n h m in
        let k = verdict_ok j ok (verdicts.Uses result outs) t n m in
        let set = slice_set t.top.locals t.top.into result in (
          restacked j n h (uses result outs t.top ∷ t.below) (
            record {
              locals = outs_set t.top.outs outs set k.1
                  (each_set IsSendable t.top.locals t.top.into result k.0 was.0.locals);
              sixteen = outs_length t.top.outs outs set
                  ∙ length-set t.top.locals t.top.into result ∙ was.0.sixteen;
              answer = tt;
            },
            was.1,
          ),
          tt,
        )
    each (moves.Steps t pc locals handler writes) m come =
        let was = stack_ok j n h m.0 in
        let k = verdict_ok j ok (verdicts.Steps pc locals handler writes) t n m.0 in (
          writes_slots t.top.object.serial writes _ k.1.1
              (restacked j n h (steps_to pc locals handler t.top ∷ t.below)
              (record { locals = k.0; sixteen = k.1.0; answer = was.0.answer }, was.1)),
          tt,
        )
    each (moves.Makes t made into pc) m come =
        let name = own n n.next_serial in (
          makes (made ∷ []) _ (
            subst (MadeIsSendable j.table) (sym m.2)
                (blank_sendable j.table m.0 (verdict_ok j ok (verdicts.Makes m.0 into pc) t n m.1)),
            tt,
          ) (goes j n h m.1 into (Obj name) pc (carry-Obj 8 name)),
          tt,
        )
    each (moves.Vends t root pc) m come =
        let k = goes_on_so j n h m pc in
        (record { heap = k.heap; stack = k.stack; numbers = k.numbers }, tt)
    each (moves.Says t value pc) m come = (goes_on_so j n h m pc, tt)
    each (moves.Begins t o method values into outs pc) m come =
        let k = verdict_ok j ok (verdicts.Begins o method values into outs pc) t n m.0 in (
          pushes (fresh o method reasons.Local values) _
              (begins o method reasons.Local values k.0 k.1)
              (stands_so j n h m.0 pc into outs Below tt),
          tt,
        )
    each (moves.AsksRoot t to into outs pc) m come =
        let k = stands_so j n h m.1 pc into outs (waits_for n to requests.Root) tt in
        (record { heap = k.heap; stack = k.stack; numbers = k.numbers }, (tt, tt))
    each (moves.Calls t to method x into outs pc) m come =
        let k = stands_so j n h m.1 pc into outs (waits_for n to (requests.Call method x)) tt in (
          record { heap = k.heap; stack = k.stack; numbers = k.numbers },
          (verdict_ok j ok (verdicts.Asks to (requests.Call method x) into outs pc) t n m.1, tt),
        )
    each (moves.Tells t to x into pc) m come = (
      goes j n h m.1 into Nil pc (carry-Nil 8),
      (verdict_ok j ok (verdicts.Tells to x into pc) t n m.1, tt),
    )
    each (moves.Catches t e k) m come = (
      goes j n h m.1 k.into (Text (exc_name e)) k.pc
          (name_sendable e (verdict_ok j ok (verdicts.Fails e) t n m.1)),
      tt,
    )
    each (moves.Finishes t a shown) m come =
        (restacked j n h t.below (stack_ok j n h m.2.judged).1, tt)
    each (moves.Answers t a) m come = (
      restacked j n h (below_answered a t.below)
          (answered_below a t.below (answer_ok j ok a t n m.1) (stack_ok j n h m.1.judged).1),
      tt,
    )
    each (moves.Replies t to number v outs packet) m come =
        (restacked j n h t.below (stack_ok j n h m.2.judged).1, (packed_ok j ok to packet m.3, tt))
    each (moves.Raises t to number e) m come = (
      restacked j n h t.below (stack_ok j n h m.4.judged).1,
      (
        subst IsSendableExc (sym m.3) (raised_ok j ok m.0 (answer_ok j ok m.0 t n m.4)),
        tt,
      ),
    )
    each (moves.Speaks to serial) m come = (h, (tt, tt))
    each (moves.Packs to packet) m come = (h, (tt, tt))
    each (moves.Names to serial class) m come = (h, (tt, tt))
    each (moves.Mentions to serial) m come = (h, (tt, tt))
    each (moves.Lends to o class) m come = (
      record {
        heap = h.heap;
        stack = h.stack;
        numbers = (
          h.numbers.0,
          (h.numbers.1.0, (omega (arith, h.numbers.1.1.0), h.numbers.1.1.1)),
        );
      },
      (tt, tt),
    )
    each (moves.Starts i) m come = (pushes i n (started_ok j ok i n m) h, tt)
    each (moves.TimesOut t call peer what) m come =
        let was = subst (AllByRecursion InvocationIsSendable) m.0 h.stack in
        let k = restacked j n h (answered (Raised TimedOut) t.top ∷ t.below) (
          record {
            locals = was.0.locals;
            sixteen = was.0.sixteen;
            answer = textless TimedOut refl;
          },
          was.1,
        ) in
        (record { heap = k.heap; stack = k.stack; numbers = k.numbers }, tt)
    each (moves.Closes peer) m come = (closes_so j n h peer, (tt, tt))
    each (moves.GivesUp w told) m come = (ask_over w n h, telling_goes told w.token)
    each (moves.Unpacks from packet copies) m come =
        let c = context_of j in (
          makes copies n
              (subst (AllByRecursion (MadeIsSendable j.table)) (sym m.2)
              (copies_come (reading c from packet) (map (is_entered c from) packet.names)
              (map (is_reachable c) packet.names) packet j.table from j.first.port come.0)) h,
          tt,
        )
    each (moves.Holds from serial class) m come = (holds_so j n h from serial come.0.0, tt)
    each (moves.Asks from o class token) m come =
        (asks_for (wanted o from token) come.0.1.0 n h, (come.0.1.0, tt))
    each (moves.Returns from o class token) m come = (h, (tt, tt))
    each (moves.Serves from number x i) m come =
        let reason = reasons.Call from number in
        (pushes i n (admitted_ok j ok from x reason i n come.0.packet m.1) h, tt)
    each (moves.Obeys from x i) m come =
        (pushes i n (admitted_ok j ok from x (reasons.Oneway from) i n come.0.packet m.1) h, tt)
    each (moves.Refuses from number x e) m come = (h, (denial_ok e m.1, tt))
    each (moves.Receives k item answer) m come =
        (answers_call k answer (taken_ok j ok k item answer come.0 m.1) n h, tt)
    each (moves.Gives from number packet) m come = (h, (packed_ok j ok from packet m.2, tt))
    each (moves.Grants from serial token) m come = (h, (come.0, tt))
    each (moves.Lacks from serial token) m come = (h, (come.0, tt))
    each (moves.Gains from serial token told) m come = (
      ask_over (wanted (object_at from serial) token.lender token.number)
          (with_held (object_at from serial) n) (holds_so j n h from serial come.0),
      telling_goes told token,
    )
    each (moves.Misses from serial token told) m come = (
      ask_over (wanted (object_at from serial) token.lender token.number) n h,
      telling_goes told token,
    )
    each (moves.Settles from number) m come =
        (record { heap = h.heap; stack = h.stack; numbers = h.numbers }, tt)
    each (moves.Parts from serials) m come = (closes_so j n h from, (tt, tt))
    each (moves.Strikes heap shown) m come = absurd (frees_not j.cause ok.given m.0)
    each (moves.Leaves o) m come = absurd (leaves_not j.cause ok.given m.0)
    each _ m come = (h, tt)
