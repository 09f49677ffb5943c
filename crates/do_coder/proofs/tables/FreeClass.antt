-- A search for a class that is not in the table with a serial, class by class.
use Rattle.std.proofs.Common.{◌≡◌, ℕ, ◌-◌, ◌+◌, ◌<◌, ◌≤◌, Bool, true, false, List, Some, None, refl}
use Rattle.std.{proofs.Common.{ap, arith}, specs.Prelude.nat_le}
use Rattle.std.proofs.lemmas.Bool.Decides.{nat_tests}
use Rattle.do_grammar.specs.BesideHoles.{is_hole, next_beside, some_beside}
use Rattle.do_grammar.proofs.texts.NextBeside.{next_up, free_stays, next_past}
use Rattle.do_coder.specs.{declared.recent.pair.Pair.Pair, Recent.{pair, place_in}}
use Rattle.do_coder.{specs.Names.taken_with, proofs.tables.TakenPairs.{free_none, none_free}}

-- the test of an order fails, and passes
is_over : (m n : ℕ) → n < m → nat_le m n ≡ false
is_over m n lt = grind (arith, nat_tests)

-- a number is at most another by the test, too
is_within : (m n : ℕ) → m ≤ n → nat_le m n ≡ true
is_within m n le = grind (arith, nat_tests)

module _ (serial from classes : ℕ) (table : List Pair) where
  -- past the last class none is left
  pub none_left : 0 < classes → classes ≤ from
      → some_beside (taken_with serial table) from (classes - 1) ≡ false
  none_left some le =
      let up = next_up (taken_with serial table) from in
      is_over (next_beside (taken_with serial table) from) (classes - 1) (omega arith)

  -- a class whose pair is not in the table is one
  pub free_here : from < classes → place_in (pair serial from) table ≡ None
      → some_beside (taken_with serial table) from (classes - 1) ≡ true
  free_here lt none =
      let stays = free_stays (taken_with serial table) from (none_free serial from table none) in
      rw stays (is_within from (classes - 1) (omega arith))

  -- a class whose pair is in the table is passed over
  pub taken_here : (k : ℕ) → place_in (pair serial from) table ≡ Some k
      → some_beside (taken_with serial table) from (classes - 1)
      ≡ some_beside (taken_with serial table) (from + 1) (classes - 1)
  taken_here k at = go (is_hole (taken_with serial table) from) refl
    where
      go : (t : Bool) → is_hole (taken_with serial table) from ≡ t
          → some_beside (taken_with serial table) from (classes - 1)
          ≡ some_beside (taken_with serial table) (from + 1) (classes - 1)
      go true e =
          ap (λ (n : ℕ). nat_le n (classes - 1)) (next_past (taken_with serial table) from e)
      go false e = let none = free_none serial from table e in absurd cc

pub ruleset free_class = (none_left, free_here, taken_here)
