-- Regions with no cell.
use Rattle.std.proofs.Common.{◌≡◌, ℕ, zero, suc, ◌<◌, List, [], ◌∷◌, map, sum_by, Option, refl, sym}
use Rattle.std.proofs.Common.{ap, ◌∙◌, arith, replicate}
use Rattle.std.proofs.lemmas.List.{length-replicate, get_or-replicate, Sums.sum_by-cons}
use Rattle.slab.specs.Slab.{Slab, slab_len}
use Rattle.do_pool.specs.{Lines.{items_of, Sound}, declared.line.{Cell.Cell, Line.Line}}

-- empty lines have no cell in all
sum_by-none : (n : ℕ)
    → sum_by (λ (l : Line). l.len) (replicate n (record { first = 0; last = 0; len = 0 })) ≡ 0
sum_by-none zero = refl
sum_by-none (suc n) =
    omega (
      arith,
      sum_by-cons (λ (l : Line). l.len) (record { first = 0; last = 0; len = 0 })
          (replicate n (record { first = 0; last = 0; len = 0 })),
      sum_by-none n,
    )

-- a function maps copies to copies
map-replicate : {A B : Type 0} (f : A → B) (n : ℕ) (x : A)
    → map f (replicate n x) ≡ replicate n (f x)
map-replicate f zero x = refl
map-replicate f (suc n) x = ap (λ rest. f x ∷ rest) (map-replicate f n x)

module _ {T : Type 0} where
  -- a region with no cell and empty lines alone is sound
  pub sound-new : (cells : Slab (Cell T)) (lines : List Line) (n : ℕ) → slab_len cells ≡ 0
      → lines ≡ replicate n (record { first = 0; last = 0; len = 0 }) → Sound cells lines
  sound-new cells lines n none are = rw are (record {
    place = λ k. (0, 0);
    start = λ q. 0;
    chains = λ q d below. let within : q < n = omega (arith, length-replicate {A = Line}) in
        rw (get_or-replicate n q (record { first = 0; last = 0; len = 0 }) d within) tt;
    total = sum_by-none n ∙ sym none;
  })

  -- its queues are empty
  pub queues-new : (at : ℕ → Option (Cell T)) (lines : List Line) (n : ℕ)
      → lines ≡ replicate n (record { first = 0; last = 0; len = 0 })
      → map (items_of at) lines ≡ replicate n []
  queues-new at lines n are = ap (map (items_of at)) are
      ∙ map-replicate (items_of at) n (record { first = 0; last = 0; len = 0 })
