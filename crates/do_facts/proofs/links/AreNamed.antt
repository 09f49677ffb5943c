-- How the names of a message are named.
use Rattle.std.specs.Prelude.{Bool, List, [], suc, true, ℕ, ◌&&◌, ◌∷◌, ◌≡◌}
use Rattle.do_base.specs.names.Names.{ObjectName}
use Rattle.do_class.specs.declared.packet.Name.{Name, TheVariants.{Lent, Mine, Yours}}
use Rattle.do_machine.specs.{declared.node.Node.Node, Objects.object_at, State.{is_known, is_open}}
use Rattle.do_facts.specs.links.Moves.{is_there}

-- a node may name a foreign object that it knows, over an open end
abbrev pub is_usable : Node → ObjectName → Bool
is_usable n o = is_known n o && is_open n o.node

-- to a peer, the own names are of serials that pass, the others of objects that pass, and the lent
-- ones have these tokens: this one, and one more each
abbrev pub AreNamed : (ℕ → Bool) → (ObjectName → Bool) → ℕ → ℕ → List Name → Type 0
AreNamed own test to token [] = Unit {0}
AreNamed own test to token (Mine serial class ∷ names) =
    (own serial ≡ true) × AreNamed own test to token names
AreNamed own test to token (Yours serial ∷ names) =
    (test (object_at to serial) ≡ true) × AreNamed own test to token names
AreNamed own test to token (Lent o class number ∷ names) =
    (number ≡ token) × (test o ≡ true) × AreNamed own test to (suc token) names

-- the names are of objects that a node stores or may use, and have its next tokens
abbrev pub NamedBy : Node → ℕ → List Name → Type 0
NamedBy n to names = AreNamed (is_there n.heap) (is_usable n) to n.next_token names
