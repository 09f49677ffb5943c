-- What an answer and a closed end make of the frames of a node.
use Rattle.do_facts.specs.calls.Moves as Move
use Rattle.std.proofs.Common.{◌≡◌, ℕ, Bool, true, List, [], ◌∷◌, map, arith, refl, sym, ap, ◌∙◌}
use Rattle.std.proofs.Common.{subst}
use Rattle.do_behave.specs.declared.invocation.{Invocation.Invocation, Waited.Waited}
use Rattle.do_behave.specs.declared.invocation.Answer.{Answer as Given}
use Rattle.do_machine.specs.{declared.node.{LateCall.LateCall, Node.Node}, Lists.change_first}
use Rattle.do_machine.specs.{State.is_open, ends.Closing.without_answer}
use Rattle.do_machine.specs.take.Awaiting.{AnsweredCall, answering, late_answered, stack_answered}
use Rattle.do_facts.specs.{Moves.Runs, calls.Calls.{Calls, Frame, calls_of, frame_of}}
use Rattle.do_facts.specs.calls.Moves.{answered_call, call_rules, is_on, note, rested, without_peer}
use Rattle.do_facts.proofs.Runs.{moves_once}

-- the frames of a stack, where one is answered
frames_answered : (k : AnsweredCall) (answer : Waited → Given) (stack : List Invocation) →
    map frame_of (stack_answered k answer stack)
    ≡ change_first (λ f. is_on k f.wait) rested (map frame_of stack)
frames_answered k answer [] = refl
frames_answered k answer (i ∷ is) = grind (arith, frames_answered k answer is)

-- the calls of a node with other frames and late calls
abbrev with_calls : Calls → List Frame → List LateCall → Calls
with_calls p stack late = record p { stack = stack; late = late }

-- an answer that is taken
pub by_answering : (from number : ℕ) (root : Bool) (answer : Waited → Given) (n m : Node) →
    calls_of n ≡ calls_of m → is_open n from ≡ true →
    Runs call_rules (calls_of n) (note from (Move.answer_atom root number))
    (calls_of (answering (answered_call from number root) answer m).node) []
by_answering from number root answer n m same ends =
    let k = answered_call from number root in
    let p = calls_of m in
    let late = late_answered k m.late in
    let taken = note from (Move.answer_atom root number) in
    subst (λ q. Runs call_rules q taken (with_calls p (map frame_of (stack_answered k answer
    m.stack)) late) [])
    (sym same)
    (subst (λ fs. Runs call_rules p taken (with_calls p fs late) [])
    (sym (frames_answered k answer m.stack))
    (moves_once call_rules p (Move.Receives from number root)
    (ap (λ q. Move.opens q from) (sym same) ∙ ends)))

-- the frames of a stack, where none waits for a peer any more
pub frames_parted : (peer : ℕ) (stack : List Invocation) →
    map frame_of (map (without_answer peer) stack) ≡ map (without_peer peer) (map frame_of stack)
frames_parted peer [] = refl
frames_parted peer (i ∷ is) = grind (arith, frames_parted peer is)
