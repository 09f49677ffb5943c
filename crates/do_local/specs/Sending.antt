-- What a node does of which nothing is shown.
use Rattle.std.specs.Prelude.{List, []}
use Rattle.do_machine.specs.declared.{node.Node.Node, state.{Parcel.Parcel, Effect.Effect}}

-- the node is another and sent these parcels
abbrev pub sending : List Parcel → Node → Effect
sending sent n = record { node = n; sent = sent; shown = [] }
