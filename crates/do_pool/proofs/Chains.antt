-- Chains of cells, and what a change elsewhere leaves of them.
use Rattle.std.proofs.Common.{◌≡◌, ◌≢◌, ℕ, zero, suc, ◌+◌, ◌<◌, ◌≤◌, cond, eqb, eq-eqb, ne_eqb}
use Rattle.std.proofs.Common.{List, [], ◌∷◌, ◌++◌, length, map, get_or, set, Option, Some, None}
use Rattle.std.proofs.Common.{refl, sym, ap, ◌∙◌, subst, arith}
use Rattle.do_pool.specs.{Lines.{walk, Linked, Chain}, declared.line.Cell.Cell}

-- a function changed at one number
abbrev pub put : {A : Type 0} → ℕ → A → (ℕ → A) → ℕ → A
put k v f j = cond (eqb j k) v (f j)

-- at the number itself the changed function gives the new value
pub put_same : {A : Type 0} (k : ℕ) (v : A) (f : ℕ → A) → put k v f k ≡ v
put_same k v f = rw (eq-eqb k k refl)

-- at every other number it gives the old one
pub put_other : {A : Type 0} (k : ℕ) (v : A) (f : ℕ → A) (j : ℕ) → j ≢ k → put k v f j ≡ f j
put_other k v f j differs = rw (ne_eqb j k differs)

module _ {T : Type 0} where
  -- the cells of a queue from a number on stand as they stood
  pub record Keeps (at at' : ℕ → Option (Cell T)) (place place' : ℕ → ℕ × ℕ)
      (queue number : ℕ) : Type 0 where
    pub cells : (k j : ℕ) (cell : Cell T) → number ≤ j → place k ≡ (queue, j) → at k ≡ Some cell
        → (at' k ≡ Some cell) × (place' k ≡ (queue, j))

  -- cells that stay from a number on stay from the next number on
  keeps_later : {at at' : ℕ → Option (Cell T)} {place place' : ℕ → ℕ × ℕ} {q n : ℕ}
      → Keeps at at' place place' q n → Keeps at at' place place' q (n + 1)
  keeps_later keeps =
      record {
        cells = λ k j cell above placed found.
            keeps.cells k j cell (omega arith) placed found;
      }

  -- a cell that stays is linked as before
  abbrev linked-keeps : {at at' : ℕ → Option (Cell T)} {place place' : ℕ → ℕ × ℕ} {q n key : ℕ}
      → Keeps at at' place place' q n → Linked at place q n key → Linked at' place' q n key
  linked-keeps {at} {at'} {place} {place'} {q} {n} {key} keeps here =
      let both = keeps.cells key n here.cell (omega arith) here.placed here.found in
      record { cell = here.cell; found = both.0; placed = both.1 }

  -- a chain whose cells stay is a chain as before
  pub chain-keeps : (at at' : ℕ → Option (Cell T)) (place place' : ℕ → ℕ × ℕ) (q n m key last : ℕ)
      → Keeps at at' place place' q n → Chain at place q n m key last
      → Chain at' place' q n m key last
  chain-keeps at at' place place' q n zero key last keeps chain = tt
  chain-keeps at at' place place' q n (suc zero) key last keeps chain =
      (chain.0, linked-keeps keeps chain.1)
  chain-keeps at at' place place' q n (suc (suc m)) key last keeps chain = (
    linked-keeps keeps chain.0,
    chain-keeps at at' place place' q (n + 1) (suc m) chain.0.cell.next last
        (keeps_later keeps) chain.1,
  )

  -- a walk begins with the item of the cell where it starts
  pub walk_here : (at : ℕ → Option (Cell T)) (m key : ℕ) (cell : Cell T) → at key ≡ Some cell
      → walk at (suc m) key ≡ cell.item ∷ walk at m cell.next
  walk_here at m key cell found = rw (found, walk)

  -- a chain whose cells stay is walked to the same items
  pub walk-keeps : (at at' : ℕ → Option (Cell T)) (place place' : ℕ → ℕ × ℕ) (q n m key last : ℕ)
      → Keeps at at' place place' q n → Chain at place q n m key last
      → walk at' m key ≡ walk at m key
  walk-keeps at at' place place' q n zero key last keeps chain = refl
  walk-keeps at at' place place' q n (suc zero) key last keeps chain =
      let here = chain.1 in
      walk_here at' 0 key here.cell (linked-keeps keeps here).found
      ∙ sym (walk_here at 0 key here.cell here.found)
  walk-keeps at at' place place' q n (suc (suc m)) key last keeps chain =
      let here = chain.0 in
      walk_here at' (suc m) key here.cell (linked-keeps keeps here).found
      ∙ ap (λ items. here.cell.item ∷ items)
      (walk-keeps at at' place place' q (n + 1) (suc m) here.cell.next last
      (keeps_later keeps) chain.1)
      ∙ sym (walk_here at (suc m) key here.cell here.found)

  -- the last cell of a chain
  pub chain-last : (at : ℕ → Option (Cell T)) (place : ℕ → ℕ × ℕ) (q n m key last : ℕ)
      → Chain at place q n (suc m) key last → Linked at place q (n + m) last
  chain-last at place q n zero key last chain =
      let P : ℕ → Type 0 = λ k. Linked at place q (n + 0) k in
      let Q : ℕ → Type 0 = λ j. Linked at place q j key in
      let same : n ≡ n + 0 = omega arith in
      subst P chain.0 (subst Q same chain.1)
  chain-last at place q n (suc m) key last chain =
      let Q : ℕ → Type 0 = λ j. Linked at place q j last in
      let same : n + 1 + m ≡ n + suc m = omega arith in
      subst Q same (chain-last at place q (n + 1) m chain.0.cell.next last chain.1)

  -- the first cell of a chain
  pub chain-first : (at : ℕ → Option (Cell T)) (place : ℕ → ℕ × ℕ) (q n m key last : ℕ)
      → Chain at place q n (suc m) key last → Linked at place q n key
  chain-first at place q n zero key last chain = chain.1
  chain-first at place q n (suc m) key last chain = chain.0

  -- what is left behind the first cell
  pub chain-rest : (at : ℕ → Option (Cell T)) (place : ℕ → ℕ × ℕ) (q n m key last : ℕ)
      (cell : Cell T) → at key ≡ Some cell → Chain at place q n (suc m) key last
      → Chain at place q (n + 1) m cell.next last
  chain-rest at place q n zero key last cell found chain = tt
  chain-rest at place q n (suc m) key last cell found chain =
      let P : ℕ → Type 0 = λ k. Chain at place q (n + 1) (suc m) k last in
      let same : Some chain.0.cell ≡ Some cell = sym chain.0.found ∙ found in
      let cells : chain.0.cell ≡ cell = cc in
      subst P (ap (λ (x : Cell T). x.next) cells) chain.1

  -- a cell is put behind the last one
  pub record Posted (at at' : ℕ → Option (Cell T)) (place place' : ℕ → ℕ × ℕ) (queue x end last : ℕ)
      (item : T) : Type 0 where
    pub fresh : at x ≡ None
    pub new : at' x ≡ Some (record { item = item; next = 0 })
    pub placed : place' x ≡ (queue, end)
    pub others : (k : ℕ) → k ≢ x → place' k ≡ place k
    pub cells : (k : ℕ) → k ≢ x → k ≢ last → at' k ≡ at k
    pub tail : (cell : Cell T) → at last ≡ Some cell → at' last ≡ Some (record cell { next = x })

  -- a key that leads to a cell is not that of a free one
  pub not_fresh : (at : ℕ → Option (Cell T)) (k x : ℕ) (cell : Cell T) → at x ≡ None
      → at k ≡ Some cell → k ≢ x
  not_fresh at k x cell fresh found same = absurd (cc (ap at same))

  -- a cell put behind the last makes the chain longer by one
  pub chain-posted : (at at' : ℕ → Option (Cell T)) (place place' : ℕ → ℕ × ℕ)
      (q n m key last x end : ℕ) (item : T) → end ≡ n + suc m
      → Posted at at' place place' q x end last item → Chain at place q n (suc m) key last
      → Chain at' place' q n (suc (suc m)) key x
  chain-posted at at' place place' q n zero key last x end item ends posted chain =
      let here = chain.1 in
      let differs : key ≢ x = not_fresh at key x here.cell posted.fresh here.found in
      let P : ℕ → Type 0 = λ k. at' k ≡ Some (record here.cell { next = x }) in
      let found : at last ≡ Some here.cell = ap at (sym chain.0) ∙ here.found in
      let at_end : end ≡ n + 1 = omega arith in (
        record {
          cell = record here.cell { next = x };
          found =
              subst P (sym chain.0) (posted.tail here.cell found);
          placed = posted.others key differs
              ∙ here.placed;
        },
        (
          refl,
          record {
            cell = record { item = item; next = 0 };
            found = posted.new;
            placed =
                posted.placed ∙ ap (λ e. (q, e)) at_end;
          },
        ),
      )
  chain-posted at at' place place' q n (suc m) key last x end item ends posted chain =
      let here = chain.0 in
      let differs : key ≢ x = not_fresh at key x here.cell posted.fresh here.found in
      let other : key ≢ last = not_last in (
        record {
          cell = here.cell;
          found = posted.cells key differs other ∙ here.found;
          placed =
              posted.others key differs ∙ here.placed;
        },
        chain-posted at at' place place' q (n + 1) m here.cell.next last x end item
            (omega arith) posted chain.1,
      )
    where
      -- a cell with cells behind it is not the last
      not_last : key ≢ last
      not_last same =
          let tail = chain-last at place q n (suc m) key last chain in
          let pair : (q, n) ≡ (q, n + suc m) = sym chain.0.placed ∙ ap place same ∙ tail.placed in
          let number : n ≡ n + suc m = ap (λ (p : ℕ × ℕ). p.1) pair in
          omega arith

  -- the longer chain is walked to the items and then the new one
  pub walk-posted : (at at' : ℕ → Option (Cell T)) (place place' : ℕ → ℕ × ℕ)
      (q n m key last x end : ℕ) (item : T) → end ≡ n + suc m
      → Posted at at' place place' q x end last item → Chain at place q n (suc m) key last
      → walk at' (suc (suc m)) key ≡ walk at (suc m) key ++ item ∷ []
  unfolding chain-posted
  walk-posted at at' place place' q n zero key last x end item ends posted chain =
      let both = chain-posted at at' place place' q n zero key last x end item ends posted chain in
      let here = chain.1 in
      walk_here at' 1 key both.0.cell both.0.found
      ∙ ap (λ items. here.cell.item ∷ items)
      (walk_here at' 0 x (record { item = item; next = 0 }) posted.new)
      ∙ ap (λ items. items ++ item ∷ []) (sym (walk_here at 0 key here.cell here.found))
  walk-posted at at' place place' q n (suc m) key last x end item ends posted chain =
      let both = chain-posted at at' place place' q n (suc m) key last x end item ends posted chain
      in
      let here = chain.0 in
      walk_here at' (suc (suc m)) key here.cell both.0.found
      ∙ ap (λ items. here.cell.item ∷ items)
      (walk-posted at at' place place' q (n + 1) m here.cell.next last x end item
      (omega arith) posted chain.1)
      ∙ ap (λ items. items ++ item ∷ []) (sym (walk_here at (suc m) key here.cell here.found))

-- one item of a list, and no other, is told otherwise
pub map_same : {A B : Type 0} (f f' : A → B) (xs : List A)
    → ((j : ℕ) (d : A) → j < length xs → f' (get_or xs j d) ≡ f (get_or xs j d))
    → map f' xs ≡ map f xs
map_same f f' [] same = refl
map_same f f' (x ∷ xs) same =
    let head : f' x ≡ f x = same 0 x (omega arith) in
    let rest = map_same f f' xs (λ j d below. same (suc j) d (omega arith)) in
    cc

-- where a function gives the same on every other item, only one item of the mapped list changes
pub map_retold : {A B : Type 0} (f f' : A → B) (xs : List A) (i : ℕ) (y : A)
    → ((j : ℕ) (d : A) → j < length xs → j ≢ i → f' (get_or xs j d) ≡ f (get_or xs j d))
    → map f' (set xs i y) ≡ set (map f xs) i (f' y)
map_retold f f' [] i y same = refl
map_retold f f' (x ∷ xs) zero y same =
    ap (λ rest. f' y ∷ rest)
    (map_same f f' xs (λ j d below. same (suc j) d (omega arith) (λ e. omega arith)))
map_retold f f' (x ∷ xs) (suc i) y same =
    let head : f' x ≡ f x = same 0 x (omega arith) (λ e. omega arith) in
    let rest = map_retold f f' xs i y
    (λ j d below differs. same (suc j) d (omega arith) (λ e. differs (omega arith))) in
    cc
