-- What a node knows of the rest of the machine stays behind a sound move of another node.
use Rattle.std.proofs.Common.{◌≡◌, ◌==◌, ℕ, Bool, true, false, cond, List, [], ◌∷◌, ap, ◌∙◌, sym}
use Rattle.std.proofs.Common.{arith, refl}
use Rattle.std.specs.{Prelude.{None, Option, Some, is_some, option_and_then}, List.find}
use mathlib.Core.Path.{fun_ext}
use Rattle.do_base.specs.names.Names.{ObjectName}
use Rattle.do_class.specs.declared.ids.ClassId.{ClassId}
use Rattle.do_machine.specs.{Context.around, State.{class_given, class_of, is_known, own}}
use Rattle.do_machine.specs.declared.{node.Node.Node, state.{State.State, Station.Station}}
use Rattle.do_facts.proofs.machine.ClassesStay.{stays}
use Rattle.do_orders.specs.Moves.{Move, Source, done, effected, taken_off, without_first}
use Rattle.do_orders.specs.Moves.Source.{First}
use Rattle.do_orders.proofs.{Past.entries_past, SoundMoves.{IsSound, StandsIn}, Stations.at_port}

-- the class of an object among stations
abbrev class_among : ObjectName → List Station → Option ClassId
class_among o ss =
    option_and_then (λ s. class_given s.classes o.serial) (find (λ s. o.node == s.port) ss)

-- an item that is taken off changes no class
class_off : (from port : ℕ) (o : ObjectName) (ss : List Station) →
    class_among o (at_port from (without_first port) ss) ≡ class_among o ss
class_off from port o [] = refl
class_off from port o (s ∷ ss) = grind (arith, class_off from port o ss)

-- nor does whatever is taken off
pub class_taken : (port : ℕ) (a : Source) (o : ObjectName) (S : State) →
    class_of (taken_off port a S) o ≡ class_of S o
class_taken port (First from item) o S = class_off from port o S.stations
class_taken port _ o S = refl

-- a class that there is stays behind a move
class_past : (k : Move) (S : State) (o : ObjectName) (c : ClassId) →
    class_of S o ≡ Some c → class_of (done k S) o ≡ Some c
class_past k S o c h =
    let T = taken_off k.port k.source S in
    stays k.port k.leaves o c (effected k S).stations
    (stays k.port k.effect o c T.stations (class_taken k.port k.source o S ∙ h))

-- each object that the node knows has a class
abbrev pub KnowsClasses : Node → State → Type 0
KnowsClasses n S = (o : ObjectName) → is_known n o ≡ true → is_some (class_of S o) ≡ true

-- so it has where an item was taken off
pub knows_off : (n : Node) (port : ℕ) (a : Source) (S : State) → KnowsClasses n S →
    KnowsClasses n (taken_off port a S)
knows_off n port a S knows o h = ap is_some (class_taken port a o S) ∙ knows o h

module _ (k : Move) (m : Node) (sound : IsSound k m) (S : State) (at : StandsIn k m S)
    (n : Node) (apart : (n.port == k.port) ≡ false) where
  -- which peers have entries of its objects
  pub entry_same : (around (done k S) n).entry ≡ (around S n).entry
  entry_same =
      fun_ext (λ peer. fun_ext (λ serial.
      entries_past k m sound S at (own n serial) apart peer))

  module _ (knows : KnowsClasses n S) where
    -- the class of an object that it may use
    class_same : (o : ObjectName) →
        (around (done k S) n).class_of o ≡ (around S n).class_of o
    class_same o = go (is_known n o) refl
      where
        there : (found : Option ClassId) → class_of S o ≡ found → is_some found ≡ true →
            class_of (done k S) o ≡ class_of S o
        there None q h = absurd (cc)
        there (Some c) q h = class_past k S o c q ∙ sym q

        go : (b : Bool) → is_known n o ≡ b →
            cond b (class_of (done k S) o) None ≡ cond b (class_of S o) None
        go false q = refl
        go true q = there (class_of S o) refl (knows o q)

    -- all that it knows
    pub around_past : around (done k S) n ≡ around S n
    around_past =
        let entry = (around (done k S) n).entry in
        ap (λ f. record { class_of = f; entry = entry }) (fun_ext (λ o. class_same o))
        ∙ ap (λ e. record { class_of = (around S n).class_of; entry = e }) entry_same
