-- A move of a node is moves of its calls.
use Rattle.do_behave.specs.declared.invocation.InvState.TheVariants as states
use Rattle.do_behave.specs.declared.invocation.Reason.TheVariants as reasons
use Rattle.do_machine.specs.declared.item.Item.TheVariants as items
use Rattle.do_facts.specs.calls.Calls as seen_as
use Rattle.do_facts.specs.calls.Moves as call
use Rattle.do_facts.specs.nodes.Moves as moves
use Rattle.do_facts.specs.nodes.After as does
use Rattle.std.proofs.Common.{◌≡◌, ◌∙◌, ℕ, Bool, true, false, List, [], ◌∷◌, map, refl, sym, ap}
use Rattle.std.{proofs.Common.subst, specs.Prelude.Some}
use Rattle.do_behave.specs.declared.invocation.{Answer.Answer, Invocation.Invocation}
use Rattle.do_behave.specs.declared.invocation.{InvState.InvState, Reason.Reason, Waited.Waited}
use Rattle.do_machine.specs.declared.{node.{LateCall.LateCall, Node.Node}, state.Effect.Effect}
use Rattle.do_machine.specs.{declared.verdict.Verdict.Verdict, State.is_open}
use Rattle.do_machine.specs.run.{Delivery.below_answered, Run.state_rule}
use Rattle.do_machine.specs.take.Awaiting.{AnsweredCall, answering, is_for_root}
use Rattle.do_facts.specs.{Net.Note, Moves.Runs, View.{AreMoves, posted}}
use Rattle.do_facts.specs.calls.Calls.{Calls, Frame, Idle, On, calls, calls_of, frame_of, wait_of}
use Rattle.do_facts.specs.calls.Moves.{call_rules, first_rested, idle}
use Rattle.do_facts.proofs.{Runs.{moves_once, stands, stands_by}, calls.FramesChanged.by_answering}
use Rattle.do_facts.{proofs.calls.FramesChanged.frames_parted, specs.nodes.Atoms.Atom}
use Rattle.do_facts.specs.nodes.{Judged.{IsUnheard, Judge, Judged, run_of}, May.{may, rules}}
use Rattle.do_facts.specs.nodes.{View.nodes, Moves.{Move, Top, Wrote}, After.{after, posts, takes}}
use Rattle.do_facts.proofs.nodes.{Projected.{runs_seen, seen}, Walks.{DoesTo, runs_of}}
use Rattle.do_facts.proofs.{calls.NodeAtoms.{call_atoms, item_seen}, nodes.ItemsSeen.sent_seen}

-- the first of the frames below waits no longer, once it is answered
rested_below : (a : Answer) (below : List Invocation) →
    first_rested (map frame_of below) ≡ map frame_of (below_answered a below)
rested_below a [] = refl
rested_below a (i ∷ is) = refl

module _ (j : Judge) (n : Node) where
  -- the calls of the node, with these frames
  abbrev with_frames : List Frame → Calls
  with_frames fs = record (calls_of n) { stack = fs }

  -- moves of it, by these notes
  abbrev Comes : List (Note seen_as.Atom) → Calls → List (Note seen_as.Atom) → Type 0
  Comes taken q sent = Runs call_rules (calls_of n) taken q sent

  module _ (t : Top) where
    -- the frames below
    abbrev rest : List Frame
    rest = map frame_of t.below

    -- an invocation on which a verdict is given waits for nothing
    waits_not : (v : Verdict) (state : InvState) →
        state_rule j.act (run_of j t) state ≡ Some v → wait_of state ≡ Idle
    waits_not v states.Running h = refl
    waits_not v (states.Answered a) h = refl
    waits_not v states.Below h = absurd (cc (h))
    waits_not v (states.Waits call peer what) h = absurd (cc (h))

    module _ {v : Verdict} (d : Judged j v t n) where
      -- the node's stack
      tied : n.stack ≡ t.top ∷ t.below
      tied = d.since.stack ∙ d.stack

      -- its frames
      frames : map frame_of n.stack ≡ idle t.top.reason ∷ rest
      frames =
          ap (map frame_of) tied
          ∙ ap (λ w. record { reason = t.top.reason; wait = w } ∷ rest)
          (waits_not v t.top.state d.rule)

      -- moves of the calls with the top one idle are moves of it
      acts : (taken : List (Note seen_as.Atom)) (q : Calls) (sent : List (Note seen_as.Atom)) →
          Runs call_rules (with_frames (idle t.top.reason ∷ rest)) taken q sent →
          Comes taken q sent
      acts taken q sent r =
          subst (λ fs. Runs call_rules (with_frames fs) taken q sent) (sym frames) r

      -- the top one goes on
      goes : Comes [] (with_frames (idle t.top.reason ∷ rest)) []
      goes =
          acts [] (with_frames (idle t.top.reason ∷ rest)) []
          (stands call_rules (with_frames (idle t.top.reason ∷ rest)))

      -- it goes on as it was
      stays : Comes [] (with_frames (frame_of t.top ∷ rest)) []
      stays = stands_by call_rules (ap (λ is. with_frames (map frame_of is)) tied) refl

      -- it ends, begun for such a reason
      ends : (reason : Reason) → t.top.reason ≡ reason → (w : call.Move) →
          call.may (with_frames (idle reason ∷ rest)) w →
          Comes (call.takes w) (call.moved (with_frames (idle reason ∷ rest)) w)
          (call.posts (with_frames (idle reason ∷ rest)) w)
      ends reason h w m =
          let p = with_frames (idle reason ∷ rest) in
          acts (call.takes w) (call.moved p w) (call.posts p w)
          (subst (λ x. Runs call_rules (with_frames (idle x ∷ rest)) (call.takes w)
          (call.moved p w) (call.posts p w)) (sym h) (moves_once call_rules p w m))

      -- nobody waits for its answer
      finishes : (reason : Reason) → t.top.reason ≡ reason → IsUnheard n reason →
          Comes [] (with_frames rest) []
      finishes reasons.Start h u =
          ends reasons.Start h (call.Finishes reasons.Start) ((rest, refl), refl)
      finishes reasons.Local h u = absurd u
      finishes (reasons.Oneway peer) h u =
          ends (reasons.Oneway peer) h (call.Finishes (reasons.Oneway peer)) ((rest, refl), refl)
      finishes (reasons.Call peer number) h u =
          ends (reasons.Call peer number) h (call.Drops peer number) ((rest, refl), u)

  -- an invocation begins
  begins : (i : Invocation) (f : Frame) → frame_of i ≡ f → (w : call.Move) →
      call.may (calls_of n) w →
      call.moved (calls_of n) w ≡ with_frames (f ∷ map frame_of n.stack) →
      Comes (call.takes w) (with_frames (frame_of i ∷ map frame_of n.stack))
      (call.posts (calls_of n) w)
  begins i f h w m same =
      subst (λ q. Comes (call.takes w) q (call.posts (calls_of n) w))
      (same ∙ ap (λ x. with_frames (x ∷ map frame_of n.stack)) (sym h))
      (moves_once call_rules (calls_of n) w m)

  -- a node parts from a peer
  parts_from : (peer : ℕ) → is_open n peer ≡ true → Comes [] (calls_of (does.closed peer n)) []
  parts_from peer o =
      subst (λ fs. Comes [] (record (calls_of (does.closed peer n)) { stack = fs }) [])
      (sym (frames_parted peer n.stack))
      (moves_once call_rules (calls_of n) (call.Closes peer) o)

  -- a call is answered
  answers : (k : AnsweredCall) (number : ℕ) (root : Bool) (answer : Waited → Answer) →
      k ≡ call.answered_call k.peer number root → is_open n k.peer ≡ true →
      Comes (call.note k.peer (call.answer_atom root number))
      (calls_of (answering k answer n).node) []
  answers k number root answer is o =
      subst (λ x. Comes (call.note k.peer (call.answer_atom root number))
      (calls_of (answering x answer n).node) []) (sym is)
      (by_answering k.peer number root answer n n refl o)

  -- each move
  pub each : (v : Move) → may j n v →
      Comes (seen call_atoms (takes v)) (calls_of (after n v)) (seen call_atoms (posts n v))
  each (moves.Goes t into value pc) m = goes t m
  each (moves.Uses t result outs) m = goes t m
  each (moves.Steps t pc locals handler writes) m = stays t m.0
  each (moves.Makes t made into pc) m = goes t m.1
  each (moves.Vends t root pc) m = stays t m
  each (moves.Says t value pc) m = stays t m
  each (moves.Begins t o method values into outs pc) m =
      ends t m.0 t.top.reason refl call.Begins (t.top.reason, (rest t, refl))
  each (moves.AsksRoot t to into outs pc) m =
      ends t m.1 t.top.reason refl (call.Asks to true) (t.top.reason, (rest t, refl), m.0)
  each (moves.Calls t to method x into outs pc) m =
      ends t m.1 t.top.reason refl (call.Asks to false) (t.top.reason, (rest t, refl), m.0)
  each (moves.Tells t to x into pc) m = goes t m.1
  each (moves.Catches t e h) m = goes t m.1
  each (moves.Finishes t a shown) m = finishes t m.2.judged t.top.reason refl m.1
  each (moves.Answers t a) m =
      subst (λ fs. Comes [] (with_frames fs) []) (rested_below a t.below)
      (ends t m.1.judged reasons.Local m.0 call.Returns (rest t, refl))
  each (moves.Replies t to number v outs packet) m =
      ends t m.2.judged (reasons.Call to number) m.1 (call.Replies to number)
      ((rest t, refl), m.0)
  each (moves.Raises t to number e) m =
      ends t m.4.judged (reasons.Call to number) m.2 (call.Replies to number)
      ((rest t, refl), m.1)
  each (moves.Starts i) m =
      begins i (idle reasons.Start) (ap frame_of m.begins) (call.Starts reasons.Start)
      (refl, refl) refl
  each (moves.TimesOut t peer_call peer what) m =
      let c : LateCall = record { number = peer_call.number; peer = peer; what = what } in
      let f : Frame = record {
        reason = t.top.reason;
        wait = On peer peer_call.number (is_for_root what);
      } in
      let here : map frame_of n.stack ≡ f ∷ rest t =
      ap (map frame_of) m.0
      ∙ ap (λ s. record { reason = t.top.reason; wait = wait_of s } ∷ rest t) m.1 in
      let p = with_frames (f ∷ rest t) in
      subst (λ fs. Runs call_rules (with_frames fs) [] (call.moved p (call.GivesUp c)) [])
      (sym here) (moves_once call_rules p (call.GivesUp c) (t.top.reason, (rest t, refl)))
  each (moves.Closes peer) m = parts_from peer m.0
  each (moves.GivesUp w told) m = told_not told
    where
      told_not : (told : Bool) →
          Comes [] (calls_of n) (seen call_atoms (does.telling told w.token))
      told_not true = stands call_rules (calls_of n)
      told_not false = stands call_rules (calls_of n)
  each (moves.Serves from number x i) m =
      begins i (idle (reasons.Call from number)) (ap frame_of m.1.begins)
      (call.Serves from number) m.0 refl
  each (moves.Obeys from x i) m =
      begins i (idle (reasons.Oneway from)) (ap frame_of m.1.begins)
      (call.Starts (reasons.Oneway from)) (refl, refl) refl
  each (moves.Refuses from number x e) m =
      moves_once call_rules (calls_of n) (call.Refuses from number) m.0
  each (moves.Receives k (items.Reply number packet) answer) m =
      answers k number false answer m.1.0 m.0
  each (moves.Receives k (items.RootAnswer number packet) answer) m =
      answers k number true answer m.1.0 m.0
  each (moves.Receives k (items.Raised number e) answer) m =
      answers k number false answer m.1.0 m.0
  each (moves.Receives k _ answer) m = absurd m.1
  each (moves.Gives from number packet) m =
      moves_once call_rules (calls_of n) (call.Gives from number) m.0
  each (moves.Gains from serial token told) m = told_not told
    where
      told_not : (told : Bool) →
          Comes [] (calls_of n) (seen call_atoms (does.telling told token))
      told_not true = stands call_rules (calls_of n)
      told_not false = stands call_rules (calls_of n)
  each (moves.Misses from serial token told) m = told_not told
    where
      told_not : (told : Bool) →
          Comes [] (calls_of n) (seen call_atoms (does.telling told token))
      told_not true = stands call_rules (calls_of n)
      told_not false = stands call_rules (calls_of n)
  each (moves.Parts from serials) m = parts_from from m.0
  each _ m = stands call_rules (calls_of n)

-- moves of a node are moves of its calls
pub calls_move : (j : Judge) {taken : List (Note Atom)} {written : List Wrote} (e : Effect) →
    DoesTo j j.first taken written e →
    AreMoves calls call_rules j.first (seen call_atoms taken) e
calls_move j {taken} e d =
    subst (λ xs. Runs call_rules (calls_of j.first) (seen call_atoms taken) (calls_of e.node) xs)
    (sent_seen calls call_atoms item_seen e.sent)
    (runs_seen (rules j) call_rules calls_of call_atoms (λ n. Unit {0})
    (λ n v s m. (tt, each j n v m)) j.first taken e.node (posted nodes e.sent) tt
    (runs_of j d.walk))
