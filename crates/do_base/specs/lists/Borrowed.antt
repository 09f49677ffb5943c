-- What a list becomes once a borrow of one of its items is over.
use Rattle.std.specs.{Prelude.{ℕ, List, slice_set, Option}, Borrow.{Lends, LendsIf, MutBor, Fml}}
use denote.RattleType.{RattleType}
use Rattle.do_base.specs.{lists.Reserved.Reserved, contracts.lists.items.Items.the_row}
use Rattle.do_base.specs.contracts.lists.reserved.Reserved.{the_row as reserved_row}

-- the list ends with the last value behind the borrow at that place
abbrev pub BorrowsItem : (R : RattleType) → MutBor (List R.Denot) → ℕ → MutBor R.Denot → Fml
BorrowsItem R s at r = Lends (the_row R) R s r (slice_set s.now at)

-- the same of a place that may lie past the list's end, where nothing changes
abbrev pub BorrowsItemIf : (R : RattleType) → MutBor (List R.Denot) → ℕ → Option (MutBor R.Denot)
    → Fml
BorrowsItemIf R s at r = LendsIf (the_row R) R s r (slice_set s.now at) s.now

-- a queue with room ends with the last value behind the borrow at that place, and its room stays
abbrev pub BorrowsReserved : (R : RattleType) → MutBor (Reserved R.Denot) → ℕ → MutBor R.Denot → Fml
BorrowsReserved R s at r =
    Lends (reserved_row R) R s r (λ item. record s.now { items = slice_set s.now.items at item })
