-- What a node leaves it gives back.
use Rattle.std.proofs.Common.{◌≡◌, ◌||◌, ℕ, Bool, false, not, List, [], ◌∷◌, map, filter, refl}
use Rattle.std.proofs.{Common.arith, lemmas.Grind.common_steps}
use Rattle.do_base.specs.names.Names.{ObjectName}
use Rattle.do_packet.specs.Met.{has_object}
use Rattle.do_machine.specs.{declared.node.Node.Node, held.Kept.kept}
use Rattle.do_machine.specs.held.{Leaving.{freeing, leaving, left}, Refers.node_objects}
use Rattle.do_facts.specs.laws.Follows.{HoldsOpen}
use Rattle.do_facts.proofs.machine.passing.Passes.{Passes, gives_back}

-- an object is among those that pass or among those that fail
split : (p : ObjectName → Bool) (os : List ObjectName) (o : ObjectName) →
    (has_object (filter p os) o || has_object (filter (λ x. not (p x)) os) o) ≡ has_object os o
split p [] o = refl
split p (x ∷ os) o = grind (arith, split p os o)

-- the notice that an object was left releases it
left_gives : (port : ℕ) (os : List ObjectName) (o : ObjectName) →
    gives_back port o (map left os) ≡ has_object os o
left_gives port [] o = refl
left_gives port (x ∷ os) o = grind (arith, common_steps, left_gives port os o)

-- what follows a step
pub passes_leaving : (port : ℕ) (o : ObjectName) (entry : ℕ → ℕ → Bool) (n : Node) → HoldsOpen n →
    Passes port o n false (leaving entry n)
passes_leaving port o entry n h =
    let test : ObjectName → Bool = has_object (node_objects (freeing (kept entry n) n).node) in
    let gone = left_gives port (filter (λ x. not (test x)) n.held) o in
    record { same = grind (arith, gone, h.reached o, split test n.held o) }
