use Rattle.do_frames.proofs.unread.behind.Goals as goal
use Rattle.std.proofs.Common.{◌≡◌, ◌≤◌, [], List, arith, drop, length, sym, ℕ}
use Rattle.std.proofs.lemmas.Grind.{common_steps}

-- behind all of a list there is nothing
none_behind : {X : Type 0} (n : ℕ) (xs : List X) → length xs ≤ n → drop n xs ≡ []
none_behind n xs past = grind (arith, common_steps, past)

pub returns-then-begins-bytes : goal.returns-then-begins-bytes
returns-then-begins-bytes c =
    sym (none_behind c.args.begins c.args.bytes.now c.if-begins-bytes.true)
