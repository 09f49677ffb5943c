-- What holds of the counts and of the queue, between the steps of the store.
use Rattle.std.specs.Prelude.{◌≡◌, ℕ, ◌+◌, ◌<◌, ◌≤◌, true, cond, List, Some, map, length, sum_by}
use Rattle.std.specs.Prelude.{Contains, IsSome}
use Rattle.do_store.specs.{Objects.{stored_at, Stock}, Queue.Queue}
use Rattle.do_store.specs.{Names.{Stored, named_in, Objects}, declared.object.Object.Object}

-- what a caller sees of an object
abbrev pub seen : Object → Stored
seen o = record { serial = o.serial; class = o.class; slots = o.slots; held = o.held }

-- one where an object waits to be looked at
abbrev pub waits : Object → ℕ
waits o = cond o.waiting 1 0

-- `pending` counts the names that are counted and stand in no slot
pub record Books (node : ℕ) (objects : List Object) (spare : ℕ) (queue : Queue)
    (pending : ℕ → ℕ) : Type 0 where
  pub counted : (n : ℕ) (o : Object) → stored_at objects n ≡ Some o
      → o.named ≡ named_in node n (map seen objects) + pending n
  pub closed : (n : ℕ) → 0 < named_in node n (map seen objects) → IsSome (stored_at objects n)
  pub idle : (n : ℕ) (o : Object) → stored_at objects n ≡ Some o → o.held ≡ 0 → o.named ≡ 0
      → o.waiting ≡ true
  pub queued : (n : ℕ) (o : Object) → stored_at objects n ≡ Some o → o.waiting ≡ true
      → Contains queue.serials n
  pub credit : length queue.serials ≤ sum_by waits objects
  pub room : spare + length objects ≤ queue.spare + length queue.serials

-- what a caller sees of the store
abbrev pub view_of : ℕ → Stock → Objects
view_of node stock =
    record { node = node; objects = map seen stock.objects; next = stock.next; spare = stock.spare }
