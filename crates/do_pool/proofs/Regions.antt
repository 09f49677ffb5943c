-- Regions whose queues are sound, and what one change of a queue makes of them.
use Rattle.std.proofs.Common.{◌≡◌, ◌≢◌, ℕ, zero, suc, ◌+◌, ◌<◌, ◌≤◌, List, [], ◌∷◌, length, map}
use Rattle.std.proofs.Common.{get_or, set, sum_by, Option, Some, IsSome, refl, sym, ap, subst, inl}
use Rattle.std.proofs.{Common.{inr, arith, slice_get}, lemmas.Bool.cases_eq}
use Rattle.std.proofs.lemmas.List.{get_or-set_same, get_or-set_other, length-set, length-map}
use Rattle.std.proofs.lemmas.List.Sums.{sum_by-set, sum_by-cons}
use Rattle.slab.specs.Slab.{Slab, get, slab_len, ContainsKey}
use Rattle.do_pool.specs.{Lines.{items_of, Chain, Sound}, declared.line.{Cell.Cell, Line.Line}}
use Rattle.do_pool.proofs.Chains.{Keeps, chain-keeps, walk-keeps, map_retold}

-- a member is at most the sum
pub sum_by-member : {X : Type 0} (f : X → ℕ) (xs : List X) (i : ℕ) (d : X) → i < length xs
    → f (get_or xs i d) ≤ sum_by f xs
sum_by-member f [] i d below = absurd (omega arith)
sum_by-member f (x ∷ xs) zero d below = omega (arith, sum_by-cons f x xs)
sum_by-member f (x ∷ xs) (suc i) d below =
    omega (arith, sum_by-cons f x xs, sum_by-member f xs i d (omega arith))

module _ {T : Type 0} where
  -- one queue of a region changed, and the others did not
  pub record Changes (cells cells' : Slab (Cell T)) (place place' : ℕ → ℕ × ℕ)
      (start start' : ℕ → ℕ) (queue : ℕ) : Type 0 where
    pub starts : (other : ℕ) → other ≢ queue → start' other ≡ start other
    pub keeps : (other n : ℕ) → other ≢ queue → Keeps (get cells) (get cells') place place' other n

  -- a queue's chain, as its line says
  abbrev pub ChainOf : Slab (Cell T) → (ℕ → ℕ × ℕ) → (ℕ → ℕ) → ℕ → Line → Type 0
  ChainOf cells place start queue line =
      Chain (get cells) place queue (start queue) line.len line.first line.last

  -- a region where one queue changed is sound, if that queue's new chain is
  pub sound-set : (cells cells' : Slab (Cell T)) (lines : List Line) (place' : ℕ → ℕ × ℕ)
      (start' : ℕ → ℕ) (q : ℕ) (line d : Line)
      → (s : Sound cells lines) → Changes cells cells' s.place place' s.start start' q
      → q < length lines
      → Chain (get cells') place' q (start' q) line.len line.first line.last
      → slab_len cells' + (get_or lines q d).len ≡ slab_len cells + line.len
      → Sound cells' (set lines q line)
  sound-set cells cells' lines place' start' q line d s changes within own count =
      record {
        place = place';
        start = start';
        chains = each;
        total = omega (arith, sum_by-set (λ (l : Line). l.len) lines q line d within, s.total);
      }
    where
      -- every queue has its chain: the changed one by assumption, the others because their cells
      -- stayed
      each : (other : ℕ) (e : Line) → other < length (set lines q line)
          → ChainOf cells' place' start' other (get_or (set lines q line) other e)
      each other e below =
          elim (cases_eq other q) [
            | inl same ↦
                let at_q : ChainOf cells' place' start' q (get_or (set lines q line) q e) =
                let P : Line → Type 0 = ChainOf cells' place' start' q in
                subst P (sym (get_or-set_same lines q line e within)) own in
                let P : ℕ → Type 0 =
                λ j. ChainOf cells' place' start' j (get_or (set lines q line) j e) in
                subst P (sym same) at_q
            | inr differs ↦
                let below : other < length lines = omega (arith, length-set lines q line) in
                let old = s.chains other e below in
                let l = get_or lines other e in
                let moved = chain-keeps (get cells) (get cells') s.place place' other
                (s.start other) l.len l.first l.last
                (changes.keeps other (s.start other) differs) old in
                let N : ℕ → Type 0 = λ n. Chain (get cells') place' other n l.len l.first l.last in
                let at_start = subst N (sym (changes.starts other differs)) moved in
                let P : Line → Type 0 = ChainOf cells' place' start' other in
                subst P (sym (get_or-set_other lines q other line e differs)) at_start
          ]

  -- the items of the other queues stay as they were
  pub items-set : (cells cells' : Slab (Cell T)) (lines : List Line) (place' : ℕ → ℕ × ℕ)
      (start' : ℕ → ℕ) (q : ℕ) (line : Line)
      → (s : Sound cells lines) → Changes cells cells' s.place place' s.start start' q
      → map (items_of (get cells')) (set lines q line) ≡ set (map (items_of (get cells)) lines) q
      (items_of (get cells') line)
  items-set cells cells' lines place' start' q line s changes =
      map_retold (items_of (get cells)) (items_of (get cells')) lines q line
      (λ other e below differs.
      let l = get_or lines other e in
      walk-keeps (get cells) (get cells') s.place place' other (s.start other) l.len l.first l.last
      (changes.keeps other (s.start other) differs) (s.chains other e below))

  -- the line that stands at a queue's number leads to that queue's chain
  pub chain_of_line : (cells : Slab (Cell T)) (lines : List Line) (q : ℕ) (line : Line)
      → (s : Sound cells lines) → q < length lines → line ≡ get_or lines q line
      → ChainOf cells s.place s.start q line
  chain_of_line cells lines q line s within is = let P : Line
      → Type 0 = ChainOf cells s.place s.start q in subst P (sym is) (s.chains q line within)

  -- a key that leads to a cell is contained
  pub found_key : (cells : Slab (Cell T)) (key : ℕ) (cell : Cell T) → get cells key ≡ Some cell
      → ContainsKey cells key
  found_key cells key cell found = let P : Option (Cell T) → Type 0 = λ o. IsSome o in
      subst P (sym found) refl

-- an item of a mapped list
pub slice_get-map : {A B : Type 0} (f : A → B) (xs : List A) (i : ℕ) (x : A) → i < length xs
    → x ≡ get_or xs i x → slice_get (map f xs) i ≡ Some (f x)
slice_get-map f [] i x below is = absurd (omega arith)
slice_get-map f (y ∷ ys) zero x below is = ap (λ z. Some (f z)) (sym is)
slice_get-map f (y ∷ ys) (suc i) x below is = slice_get-map f ys i x (omega arith) is

-- the queues are as many as the lines
pub length-queues : {A B : Type 0} (f : A → B) (xs : List A) (n : ℕ) (ys : List B) → map f xs ≡ ys
    → n < length ys → n < length xs
length-queues f xs n ys same below = omega (arith, ap length same, length-map xs f)
