-- The steps of reading names.
use Rattle.std.proofs.Common.{◌≡◌, ℕ, ◌-◌, ◌<◌, ◌^◌, List, None, Ok, refl, arith}
use Rattle.do_grammar.specs.{Grammar.Takes, Num.Num}
use Rattle.do_coder.specs.{declared.recent.pair.Pair.Pair, Recent.{pair, place_in}}
use Rattle.do_coder.specs.Names.{taken_with, taken_whole, mine_of, new_at}
use Rattle.do_grammar.proofs.loops.BesideLoop.{fast}
use Rattle.do_coder.proofs.tables.TakenPairs.{none_free, serial_left}

-- two numbers whose pair doesn't stand in the table are read so
pub fast_new : (classes : ℕ) (table : List Pair) (bytes : List ℕ) (serial : ℕ) (rest : List ℕ)
    (class : ℕ) (after : List ℕ) → classes < 2 ^ 64 → 0 < classes
    → Takes (Num 1 9223372036854775807) bytes serial rest
    → Takes (Num 0 (classes - 1)) rest class after → place_in (pair serial class) table ≡ None
    → new_at classes table bytes ≡ Ok (mine_of (pair serial class), after)
unfolding new_at
fast_new classes table bytes serial rest class after small some t u none =
    let most = u.spelled.at_most in
    let free = none_free serial class table none in
    rw (
      fast (taken_whole classes table) 1 9223372036854775807 bytes serial rest (omega arith) t
          (serial_left classes serial class table (omega arith) free),
      fast (taken_with serial table) 0 (classes - 1) rest class after (omega arith) u free,
    ) refl
