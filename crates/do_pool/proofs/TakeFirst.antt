-- Taking the first cell of a queue out of a sound region.
use Rattle.std.proofs.Common.{◌≡◌, ◌≢◌, ℕ, zero, suc, ◌+◌, ◌-◌, ◌<◌, ◌≤◌, List, ◌∷◌, length, map}
use Rattle.std.proofs.Common.{get_or, set, Option, Some, None, refl, sym, ap, ◌∙◌, subst, arith}
use Rattle.slab.specs.Slab.{Slab, get, slab_len, Updates}
use Rattle.do_pool.specs.{Lines.{walk, items_of, Linked, Chain, Sound}, declared.line.Cell.Cell}
use Rattle.do_pool.{specs.declared.line.Line.Line, proofs.Chains.{put, put_same, put_other, Keeps}}
use Rattle.do_pool.proofs.Chains.{chain-keeps, walk-keeps, chain-first, chain-rest, walk_here}
use Rattle.do_pool.proofs.Regions.{Changes, sound-set, items-set, chain_of_line}

-- one queue is named by both pairs
abbrev pub Same : ℕ × ℕ → ℕ × ℕ → Type 0
Same a b = a ≡ b

module _ {T : Type 0} where
  -- the first cell of a queue is taken out
  pub keeps-taken : (cells cells' : Slab (Cell T)) (place : ℕ → ℕ × ℕ) (q n x : ℕ)
      → place x ≡ (q, n) → Updates cells cells' x None
      → (other m : ℕ) → ((j : ℕ) → m ≤ j → Same (other, j) (q, n) → ⊥)
      → Keeps (get cells) (get cells') place place other m
  keeps-taken cells cells' place q n x first updates other m apart =
      record {
        cells = λ k j cell above placed found.
            let differs : k ≢ x = λ same. apart j above (sym placed ∙ ap place same ∙ first) in
            (updates.others k differs ∙ found, placed);
      }

  -- taking out the first cell changes its own queue alone
  pub changes-taken : (cells cells' : Slab (Cell T)) (place : ℕ → ℕ × ℕ) (start : ℕ → ℕ) (q x : ℕ)
      → place x ≡ (q, start q) → Updates cells cells' x None
      → Changes cells cells' place place start (put q (start q + 1) start) q
  changes-taken cells cells' place start q x first updates =
      record {
        starts = λ other differs. put_other q (start q + 1) start other differs;
        keeps = λ other n differs.
            keeps-taken cells cells' place q (start q) x first updates other n
            (λ j above pair. differs (ap (λ (p : ℕ × ℕ). p.0) pair));
      }

  -- a chain with a cell has its first cell
  first_there : (at : ℕ → Option (Cell T)) (place : ℕ → ℕ × ℕ) (q n len key last : ℕ)
      → (len ≡ 0 → ⊥) → Chain at place q n len key last → Linked at place q n key
  first_there at place q n zero key last some chain = absurd (some refl)
  first_there at place q n (suc m) key last some chain = chain-first at place q n m key last chain

  -- what is behind the first cell is a chain of one cell less
  rest_there : (at : ℕ → Option (Cell T)) (place : ℕ → ℕ × ℕ) (q n len key last : ℕ) (cell : Cell T)
      → (len ≡ 0 → ⊥) → at key ≡ Some cell → Chain at place q n len key last
      → Chain at place q (n + 1) (len - 1) cell.next last
  rest_there at place q n zero key last cell some found chain = absurd (some refl)
  rest_there at place q n (suc m) key last cell some found chain =
      let P : ℕ → Type 0 = λ j. Chain at place q (n + 1) j cell.next last in
      let same : m ≡ suc m - 1 = omega arith in
      subst P same (chain-rest at place q n m key last cell found chain)

  -- a walk over a cell gives its item and then the walk behind it
  walk_there : (at : ℕ → Option (Cell T)) (len key : ℕ) (cell : Cell T) → (len ≡ 0 → ⊥)
      → at key ≡ Some cell → walk at len key ≡ cell.item ∷ walk at (len - 1) cell.next
  walk_there at zero key cell some found = absurd (some refl)
  walk_there at (suc m) key cell some found =
      let same : m ≡ suc m - 1 = omega arith in
      walk_here at m key cell found ∙ ap (λ j. cell.item ∷ walk at j cell.next) same

  -- the first key of a queue that is not empty leads to its first cell
  pub first_found : (cells : Slab (Cell T)) (lines : List Line) (q : ℕ) (line : Line)
      → (s : Sound cells lines) → q < length lines → line ≡ get_or lines q line → (line.len ≡ 0 → ⊥)
      → Linked (get cells) s.place q (s.start q) line.first
  first_found cells lines q line s within is some =
      first_there (get cells) s.place q (s.start q) line.len line.first line.last some
      (chain_of_line cells lines q line s within is)

  -- what is known where the first cell of a queue was taken out
  pub record Taking (cells cells' : Slab (Cell T)) (lines : List Line) (q : ℕ) (line : Line)
      (cell : Cell T) : Type 0 where
    pub within : q < length lines
    pub is : line ≡ get_or lines q line
    pub some : line.len ≡ 0 → ⊥
    pub found : get cells line.first ≡ Some cell
    pub updates : Updates cells cells' line.first None
    pub count : slab_len cells' + 1 ≡ slab_len cells

  -- the line once its first cell is gone
  abbrev pub line_behind : Line → Cell T → Line
  line_behind line cell = record { first = cell.next; last = line.last; len = line.len - 1 }

  module _ (cells cells' : Slab (Cell T)) (lines : List Line) (q : ℕ) (line : Line) (cell : Cell T)
      (s : Sound cells lines) (taking : Taking cells cells' lines q line cell) where
    -- the first cell as it was
    first_cell : Linked (get cells) s.place q (s.start q) line.first
    first_cell = first_found cells lines q line s taking.within taking.is taking.some

    -- no other queue changed
    taken_changes : Changes cells cells' s.place s.place s.start (put q (s.start q + 1) s.start) q
    taken_changes =
        changes-taken cells cells' s.place s.start q line.first first_cell.placed taking.updates

    -- the queue's cells behind the first one stay
    keeps_rest : Keeps (get cells) (get cells') s.place s.place q (s.start q + 1)
    keeps_rest = keeps-taken cells cells' s.place q (s.start q) line.first first_cell.placed
        taking.updates q (s.start q + 1)
        (λ j above pair. let same : j ≡ s.start q = ap (λ (p : ℕ × ℕ). p.1) pair in omega arith)

    -- they were a chain before
    old_rest : Chain (get cells) s.place q (s.start q + 1) (line.len - 1) cell.next line.last
    old_rest = rest_there (get cells) s.place q (s.start q) line.len line.first line.last cell
        taking.some taking.found (chain_of_line cells lines q line s taking.within taking.is)

    -- the region is sound again
    pub sound-taken : Sound cells' (set lines q (line_behind line cell))
    sound-taken =
        let moved = chain-keeps (get cells) (get cells') s.place s.place q (s.start q + 1)
        (line.len - 1) cell.next line.last keeps_rest old_rest in
        let N : ℕ → Type 0 =
        λ n. Chain (get cells') s.place q n (line.len - 1) cell.next line.last in
        let same : (get_or lines q line).len ≡ line.len =
        ap (λ (l : Line). l.len) (sym taking.is) in
        let some : line.len ≡ 0 → ⊥ = taking.some in
        let count : slab_len cells' + 1 ≡ slab_len cells = taking.count in
        sound-set cells cells' lines s.place (put q (s.start q + 1) s.start) q
        (line_behind line cell) line s taken_changes taking.within
        (subst N (sym (put_same q (s.start q + 1) s.start)) moved) (omega arith)

    -- the queue's items are those behind the first cell, and the other queues' are as before
    pub items-taken : map (items_of (get cells')) (set lines q (line_behind line cell))
        ≡ set (map (items_of (get cells)) lines) q (items_of (get cells') (line_behind line cell))
    items-taken =
        items-set cells cells' lines s.place (put q (s.start q + 1) s.start) q
        (line_behind line cell) s taken_changes

    -- the item taken out was the first
    pub front-taken : items_of (get cells) line ≡ cell.item ∷ items_of (get cells')
        (line_behind line cell)
    front-taken =
        walk_there (get cells) line.len line.first cell taking.some taking.found
        ∙ ap (λ items. cell.item ∷ items)
        (sym (walk-keeps (get cells) (get cells') s.place s.place q (s.start q + 1)
        (line.len - 1) cell.next line.last keeps_rest old_rest))
