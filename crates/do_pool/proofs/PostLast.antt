-- Putting a cell behind the last one of a queue in a sound region.
use Rattle.std.proofs.Common.{◌≡◌, ◌≢◌, ℕ, zero, suc, ◌+◌, ◌<◌, ◌≤◌, List, [], ◌∷◌, ◌++◌, length}
use Rattle.std.proofs.Common.{map, get_or, set, Option, Some, None, IsSome, refl, sym, ap, ◌∙◌}
use Rattle.std.proofs.Common.{subst, arith, slice_get}
use Rattle.slab.specs.Slab.{Slab, get, slab_len, Updates, ContainsKey}
use Rattle.do_pool.specs.{Lines.{walk, items_of, Linked, Chain, Sound}, declared.line.Cell.Cell}
use Rattle.do_pool.{specs.declared.line.Line.Line, proofs.Chains.{put, put_same, put_other, Posted}}
use Rattle.do_pool.proofs.Chains.{chain-last, chain-posted, walk-posted, walk_here, not_fresh}
use Rattle.do_pool.proofs.Regions.{sum_by-member, Changes, sound-set, items-set, chain_of_line}
use Rattle.do_pool.proofs.Regions.{found_key, slice_get-map}

-- a cell that was not there joins a queue
abbrev pub placed_at : (ℕ → ℕ × ℕ) → ℕ → ℕ → ℕ → ℕ → ℕ × ℕ
placed_at place x q end = put x (q, end) place

-- what is there is not None
not_none : {X : Type 0} (o : Option X) → o ≡ None → IsSome o → ⊥
not_none None e there = cc
not_none (Some x) e there = cc

module _ {T : Type 0} where
  -- a cell put where none was changes its own queue alone
  pub changes-first : (cells cells' : Slab (Cell T)) (place : ℕ → ℕ × ℕ) (start : ℕ → ℕ)
      (q x end : ℕ) (cell : Cell T)
      → get cells x ≡ None → Updates cells cells' x (Some cell)
      → Changes cells cells' place (placed_at place x q end) start start q
  changes-first cells cells' place start q x end cell fresh updates =
      record {
        starts = λ other differs. refl;
        keeps = λ other n differs. record {
          cells = λ k j found_cell above placed found.
              let apart : k ≢ x = not_fresh (get cells) k x found_cell fresh found in
              (updates.others k apart ∙ found, put_other x (q, end) place k apart ∙ placed);
        };
      }

  -- a new cell, to which the last one leads, is a cell posted
  pub posted_facts : (cells cells' cells'' : Slab (Cell T)) (place : ℕ → ℕ × ℕ) (q x end last : ℕ)
      (item : T)
      → get cells x ≡ None → Updates cells cells' x (Some (record { item = item; next = 0 }))
      → IsSome (get cells last)
      → ((cell : Cell T) → get cells' last ≡ Some cell
      → get cells'' last ≡ Some (record cell { next = x }))
      → ((other : ℕ) → other ≢ last → get cells'' other ≡ get cells' other)
      → Posted (get cells) (get cells'') place (placed_at place x q end) q x end last item
  posted_facts cells cells' cells'' place q x end last item fresh updates there linked others =
      let apart : last ≢ x = λ e. not_none (get cells last) (ap (get cells) e ∙ fresh) there in
      record {
        fresh = fresh;
        new = others x (λ e. apart (sym e)) ∙ updates.changed;
        placed = put_same x (q, end) place;
        others = λ k differs. put_other x (q, end) place k differs;
        cells = λ k differs other. others k other ∙ updates.others k differs;
        tail = λ cell found. linked cell (updates.others last apart ∙ found);
      }

  -- a posted cell changes its own queue alone
  pub changes-posted : (cells cells'' : Slab (Cell T)) (place : ℕ → ℕ × ℕ) (start : ℕ → ℕ)
      (q x end e last : ℕ) (item : T)
      → Posted (get cells) (get cells'') place (placed_at place x q end) q x end last item
      → place last ≡ (q, e)
      → Changes cells cells'' place (placed_at place x q end) start start q
  changes-posted cells cells'' place start q x end e last item posted tail =
      record {
        starts = λ other differs. refl;
        keeps = λ other n differs. record {
          cells = λ k j cell above placed found.
              let apart : k ≢ x = not_fresh (get cells) k x cell posted.fresh found in
              let not_last : k ≢ last = λ same.
              let pair : (other, j) ≡ (q, e) = sym placed ∙ ap place same ∙ tail in
              differs (ap (λ (p : ℕ × ℕ). p.0) pair) in
              (posted.cells k apart not_last ∙ found, posted.others k apart ∙ placed);
        };
      }

  -- what is known where an item was put into a cell that was free
  pub record Posting (cells cells' : Slab (Cell T)) (lines : List Line) (q : ℕ) (line : Line)
      (x : ℕ) (item : T) : Type 0 where
    pub within : q < length lines
    pub is : line ≡ get_or lines q line
    pub fresh : get cells x ≡ None
    pub updates : Updates cells cells' x (Some (record { item = item; next = 0 }))
    pub count : slab_len cells' ≡ slab_len cells + 1

  module _ (cells cells' : Slab (Cell T)) (lines : List Line) (q : ℕ) (line : Line) (x : ℕ)
      (item : T) (s : Sound cells lines) (posting : Posting cells cells' lines q line x item)
      (empty : line.len ≡ 0) where
    -- a cell put into an empty queue leaves the region sound
    pub sound-first : Sound cells' (set lines q (record { first = x; last = x; len = 1 }))
    sound-first =
        let place = placed_at s.place x q (s.start q) in
        let same : (get_or lines q line).len ≡ line.len =
        ap (λ (l : Line). l.len) (sym posting.is) in
        let count : slab_len cells' ≡ slab_len cells + 1 = posting.count in
        sound-set cells cells' lines place s.start q (record { first = x; last = x; len = 1 }) line
        s
        (changes-first cells cells' s.place s.start q x (s.start q)
        (record { item = item; next = 0 }) posting.fresh posting.updates)
        posting.within (
          refl,
          record {
            cell = record { item = item; next = 0 };
            found = posting.updates.changed;
            placed = put_same x (q, s.start q) s.place;
          },
        )
        (omega arith)

    -- and its item is the queue's only one
    pub items-first : (items : List T) → slice_get (map (items_of (get cells)) lines) q ≡ Some items
        → map (items_of (get cells')) (set lines q (record { first = x; last = x; len = 1 }))
        ≡ set (map (items_of (get cells)) lines) q (items ++ item ∷ [])
    items-first items told =
        let place = placed_at s.place x q (s.start q) in
        let whole = items-set cells cells' lines place s.start q
        (record { first = x; last = x; len = 1 }) s
        (changes-first cells cells' s.place s.start q x (s.start q)
        (record { item = item; next = 0 }) posting.fresh posting.updates) in
        let was : Some items ≡ Some (items_of (get cells) line) = sym told
        ∙ slice_get-map (items_of (get cells)) lines q line posting.within posting.is in
        let none : items_of (get cells) line ≡ [] = ap (λ n. walk (get cells) n line.first) empty in
        let items_are : items ≡ [] = cc in
        whole ∙ ap (λ l. set (map (items_of (get cells)) lines) q l)
        (walk_here (get cells') 0 x (record { item = item; next = 0 }) posting.updates.changed
        ∙ ap (λ l. l ++ item ∷ []) (sym items_are))

  -- a chain with a cell has its last cell
  last_there : (at : ℕ → Option (Cell T)) (place : ℕ → ℕ × ℕ) (q n len key last : ℕ) → (len ≡ 0 → ⊥)
      → Chain at place q n len key last → (e : ℕ) × (e + 1 ≡ n + len) × Linked at place q e last
  last_there at place q n zero key last some chain = absurd (some refl)
  last_there at place q n (suc m) key last some chain =
      (n + m, omega arith, chain-last at place q n m key last chain)

  -- a cell behind the last makes a chain with a cell longer by one
  more_there : (at at' : ℕ → Option (Cell T)) (place place' : ℕ → ℕ × ℕ) (q n len key last x : ℕ)
      (item : T) → (len ≡ 0 → ⊥) → Posted at at' place place' q x (n + len) last item
      → Chain at place q n len key last
      → Chain at' place' q n (len + 1) key x
      × (walk at' (len + 1) key ≡ walk at len key ++ item ∷ [])
  more_there at at' place place' q n zero key last x item some posted chain = absurd (some refl)
  more_there at at' place place' q n (suc m) key last x item some posted chain =
      let P : ℕ → Type 0 = λ j. Chain at' place' q n j key x
      × (walk at' j key ≡ walk at (suc m) key ++ item ∷ []) in
      let same : suc (suc m) ≡ suc m + 1 = omega arith in
      subst P same (
        chain-posted at at' place place' q n m key last x (n + suc m) item refl posted
            chain,
        walk-posted at at' place place' q n m key last x (n + suc m) item refl posted
            chain,
      )

  module _ (cells : Slab (Cell T)) (lines : List Line) (q : ℕ) (line : Line) (s : Sound cells lines)
      (within : q < length lines) (is : line ≡ get_or lines q line) (some : line.len ≡ 0 → ⊥) where
    -- the last key of a queue that is not empty leads to its last cell
    pub last_found : (e : ℕ) × (e + 1 ≡ s.start q + line.len)
        × Linked (get cells) s.place q e line.last
    last_found = last_there (get cells) s.place q (s.start q) line.len line.first line.last some
        (chain_of_line cells lines q line s within is)

    -- that key is contained once the new cell is put in
    pub last_key : (cells' : Slab (Cell T)) (x : ℕ) (new : Option (Cell T)) → get cells x ≡ None
        → Updates cells cells' x new → ContainsKey cells' line.last
    last_key cells' x new fresh updates =
        let here = last_found.2 in
        let apart : line.last ≢ x = not_fresh (get cells) line.last x here.cell fresh here.found in
        found_key cells' line.last here.cell (updates.others line.last apart ∙ here.found)

    -- a queue has no more cells than the region
    pub len_below : (bound : ℕ) → slab_len cells ≤ bound → line.len ≤ bound
    len_below bound below =
        let same : (get_or lines q line).len ≡ line.len = ap (λ (l : Line). l.len) (sym is) in
        omega (arith, sum_by-member (λ (l : Line). l.len) lines q line within, s.total)

  -- what is known where the last cell of a queue was led to it
  pub record Linking (cells' cells'' : Slab (Cell T)) (last x : ℕ) : Type 0 where
    pub linked : (cell : Cell T) → get cells' last ≡ Some cell
        → get cells'' last ≡ Some (record cell { next = x })
    pub others : (other : ℕ) → other ≢ last → get cells'' other ≡ get cells' other
    pub count : slab_len cells'' ≡ slab_len cells'

  module _ (cells cells' cells'' : Slab (Cell T)) (lines : List Line) (q : ℕ) (line : Line) (x : ℕ)
      (item : T) (s : Sound cells lines) (posting : Posting cells cells' lines q line x item)
      (linking : Linking cells' cells'' line.last x) (some : line.len ≡ 0 → ⊥) where
    -- the new cell is posted behind the last
    posted_here : Posted (get cells) (get cells'') s.place
        (placed_at s.place x q (s.start q + line.len)) q x (s.start q + line.len) line.last item
    posted_here =
        let here = (last_found cells lines q line s posting.within posting.is some).2 in
        let there : IsSome (get cells line.last) = found_key cells line.last here.cell here.found in
        posted_facts cells cells' cells'' s.place q x (s.start q + line.len) line.last item
        posting.fresh posting.updates there linking.linked linking.others

    -- no other queue changed
    posted_changes : Changes cells cells'' s.place (placed_at s.place x q (s.start q + line.len))
        s.start s.start q
    posted_changes =
        let found = last_found cells lines q line s posting.within posting.is some in
        changes-posted cells cells'' s.place s.start q x (s.start q + line.len) found.0 line.last
        item posted_here found.2.placed

    -- the queue's chain and its items are longer by one
    both : Chain (get cells'') (placed_at s.place x q (s.start q + line.len)) q (s.start q)
        (line.len + 1) line.first x
        × (walk (get cells'') (line.len + 1) line.first ≡ walk (get cells) line.len line.first
        ++ item ∷ [])
    both = more_there (get cells) (get cells'') s.place
        (placed_at s.place x q (s.start q + line.len)) q (s.start q) line.len line.first line.last x
        item some posted_here (chain_of_line cells lines q line s posting.within posting.is)

    -- the region is sound again
    pub sound-more : Sound cells''
        (set lines q (record { first = line.first; last = x; len = line.len + 1 }))
    sound-more =
        let same : (get_or lines q line).len ≡ line.len =
        ap (λ (l : Line). l.len) (sym posting.is) in
        let count : slab_len cells' ≡ slab_len cells + 1 = posting.count in
        let kept : slab_len cells'' ≡ slab_len cells' = linking.count in
        sound-set cells cells'' lines (placed_at s.place x q (s.start q + line.len)) s.start q
        (record { first = line.first; last = x; len = line.len + 1 }) line s posted_changes
        posting.within both.0 (omega arith)

    -- the item stands behind the queue's items, and the other queues' are as before
    pub items-more : (items : List T) → slice_get (map (items_of (get cells)) lines) q ≡ Some items
        → map (items_of (get cells''))
        (set lines q (record { first = line.first; last = x; len = line.len + 1 }))
        ≡ set (map (items_of (get cells)) lines) q (items ++ item ∷ [])
    items-more items told =
        let was : Some items ≡ Some (items_of (get cells) line) = sym told
        ∙ slice_get-map (items_of (get cells)) lines q line posting.within posting.is in
        let items_are : items ≡ items_of (get cells) line = cc in
        items-set cells cells'' lines (placed_at s.place x q (s.start q + line.len)) s.start q
        (record { first = line.first; last = x; len = line.len + 1 }) s posted_changes
        ∙ ap (λ l. set (map (items_of (get cells)) lines) q l)
        (both.1 ∙ ap (λ l. l ++ item ∷ []) (sym items_are))
