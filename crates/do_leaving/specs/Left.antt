-- What a node frees and leaves, told by its store and its imports.
use Rattle.do_base.specs.declared.events.shown.Shown.TheVariants as shows
use Rattle.std.specs.Prelude.{◌≡◌, ℕ, Bool, List, map}
use Rattle.do_base.specs.{names.Names.ObjectName, declared.events.shown.Shown.Shown}
use Rattle.do_machine.specs.{State.own, declared.{node.Node.Node, state.Effect.Effect}}
use Rattle.do_machine.specs.{declared.state.Parcel.Parcel, held.Leaving.left}
use Rattle.do_leaving.specs.Counted.{Counted}
use Rattle.do_store.specs.Names.{Objects}
use Rattle.do_import.specs.Imported.{Imported}

-- what freed objects of these serials show
abbrev pub free_shown : Node → List ℕ → List Shown
free_shown n = map (λ serial. shows.Free (own n serial))

-- what tells their homes that these objects were left
abbrev pub left_sent : List (ObjectName × ℕ) → List Parcel
left_sent = map (λ one. left one.0)

-- a store and imports are what an effect leaves of the node, and these objects are the ones that it
-- frees and leaves
pub record IsEffect (entry : ℕ → ℕ → Bool) (n : Node) (e : Effect) (store : Objects)
    (imports : Imported) (freed : List ℕ) (gone : List (ObjectName × ℕ)) : Type 0 where
  pub counted : Counted entry e.node store imports
  pub shown : free_shown n freed ≡ e.shown
  pub sent : left_sent gone ≡ e.sent
