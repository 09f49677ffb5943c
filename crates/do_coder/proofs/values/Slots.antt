-- How many slots a class has.
use Rattle.std.proofs.Common.{◌≡◌, ℕ, zero, suc, List, [], ◌∷◌, length, map, get_or, slice_get}
use Rattle.std.{proofs.Common.{Some, ap}, specs.Option.option_map}
use Rattle.do_class.specs.{Class.Class, Table.slots_of, declared.ids.{ClassId.ClassId, Slot.Slot}}

-- the number of a class's slots
pub len : (table : List Class) (class : ClassId) (slots : List Slot)
    → slots_of table class ≡ Some slots
    → get_or (map (λ (c : Class). length c.slots) table) class.0 0 ≡ length slots
len table class slots e = go table class.0 e
  where
    go : (table : List Class) (k : ℕ)
        → option_map (λ (c : Class). c.slots) (slice_get table k) ≡ Some slots
        → get_or (map (λ (c : Class). length c.slots) table) k 0 ≡ length slots
    go [] k e = absurd cc
    go (c ∷ table) zero e = let same : c.slots ≡ slots = cc in ap length same
    go (c ∷ table) (suc k) e = go table k e
