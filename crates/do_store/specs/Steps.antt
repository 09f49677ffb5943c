-- What a step that counts names leaves.
use Rattle.std.specs.Prelude.{◌≡◌, ℕ, ◌+◌, ◌<◌, ◌^◌, map}
use Rattle.do_store.specs.{Objects.Stock, Queue.Queue, Names.named_in, Books.{Books, seen}}

-- these names are counted besides, where each object that is named has room for them
pub record Raises (port : ℕ) (old new : Stock) (names : ℕ → ℕ) : Type 0 where
  pub books : (queue : Queue) (pending pending' : ℕ → ℕ)
      → Books port old.objects old.spare queue pending
      → ((n : ℕ) → 0 < names n
      → named_in port n (map seen old.objects) + pending n + names n < 2 ^ 64)
      → ((n : ℕ) → pending' n ≡ pending n + names n)
      → Books port new.objects new.spare queue pending'
  pub seen : map seen new.objects ≡ map seen old.objects
  pub next : new.next ≡ old.next
  pub spare : new.spare ≡ old.spare

-- these names are counted no more
pub record Lowers (port : ℕ) (old new : Stock) (queue queue' : Queue) (names : ℕ → ℕ) : Type 0 where
  pub books : (pending pending' : ℕ → ℕ) → Books port old.objects old.spare queue pending
      → ((n : ℕ) → pending n ≡ pending' n + names n)
      → Books port new.objects new.spare queue' pending'
  pub seen : map seen new.objects ≡ map seen old.objects
  pub next : new.next ≡ old.next
  pub spare : new.spare ≡ old.spare
