-- How queues lie in the region.
use Rattle.std.specs.Prelude.{◌≡◌, ℕ, zero, suc, ◌+◌, ◌-◌, ◌<◌, List, [], ◌∷◌, Option, Some, None}
use Rattle.std.specs.Prelude.{length, map, get_or, sum_by}
use Rattle.slab.specs.Slab.{Slab, get, slab_len}
use Rattle.do_pool.specs.{Pool.Pool, declared.line.{Cell.Cell, Line.Line}}

module _ {T : Type 0} where
  -- the items of so many cells, each led to by the one before
  abbrev pub walk : (ℕ → Option (Cell T)) → ℕ → ℕ → List T
  walk at zero key = []
  walk at (suc more) key =
      elim (at key) [ None ↦ [] | Some cell ↦ cell.item ∷ walk at more cell.next ]

  -- the items of the queue of a line
  abbrev pub items_of : (ℕ → Option (Cell T)) → Line → List T
  items_of at line = walk at line.len line.first

  -- what a region with these lines shows
  abbrev pub pool_of : Slab (Cell T) → List Line → Pool T
  pool_of cells lines =
      record { queues = map (items_of (get cells)) lines; spare = cells.capacity - slab_len cells }

  -- the cells of a queue stand at their keys; each key knows its queue and its number there
  pub record Linked (at : ℕ → Option (Cell T)) (place : ℕ → ℕ × ℕ) (queue number key : ℕ) : Type 0
    where
      pub cell : Cell T
      pub found : at key ≡ Some cell
      pub placed : place key ≡ (queue, number)

  -- so many cells from a key to the last key are one behind the other in a queue
  abbrev pub Chain : (ℕ → Option (Cell T)) → (ℕ → ℕ × ℕ) → ℕ → ℕ → ℕ → ℕ → ℕ → Type 0
  Chain at place queue number zero key last = Unit {0}
  Chain at place queue number (suc zero) key last = (key ≡ last) × Linked at place queue number key
  Chain at place queue number (suc (suc more)) key last =
      (here : Linked at place queue number key)
      × Chain at place queue (number + 1) (suc more) here.cell.next last

  -- each line leads to a chain of its own, and every cell stands in one
  pub record Sound (cells : Slab (Cell T)) (lines : List Line) : Type 0 where
    pub place : ℕ → ℕ × ℕ
    pub start : ℕ → ℕ
    pub chains : (queue : ℕ) (d : Line) → queue < length lines
        → Chain (get cells) place queue (start queue) (get_or lines queue d).len
        (get_or lines queue d).first (get_or lines queue d).last
    pub total : sum_by (λ line. line.len) lines ≡ slab_len cells
