-- A node as a packer sees it.
use Rattle.std.specs.Prelude.{◌≡◌, ◌<◌, ◌^◌, ◌==◌, ℕ, List, None, Some, if◌then◌else◌, not}
use Rattle.std.specs.Prelude.{slice_get, sum_by}
use Rattle.do_base.specs.{values.Values.weight_of, declared.values.value.Value.Value}
use Rattle.do_class.specs.declared.ids.ClassId.{ClassId}
use Rattle.do_packet.specs.Seen.{Seen}

-- a node with these objects, each of one class, that may name all foreign ones but those of a node
abbrev pub seen_of : ℕ → ℕ → ClassId → List (List Value) → Seen
seen_of node closed class objects = record {
  class_of = λ o. Some class;
  slots = λ o. if o.node == node then slice_get objects o.serial else None;
  usable = λ o. not (o.node == closed);
}

-- the slots of each object weigh less than 2^32 together
abbrev pub AllLight : List (List Value) → Type 0
AllLight objects = (at : ℕ) (vs : List Value) → slice_get objects at ≡ Some vs →
    sum_by weight_of vs < 2 ^ 32
