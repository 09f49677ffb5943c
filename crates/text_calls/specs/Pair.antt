-- Two numbers from 1 to 9 in order: the worked example of how a grammar is added.
use Rattle.std.specs.Prelude.{◌≡◌, ℕ, ◌≤◌, List, ◌++◌}
use Rattle.do_grammar.specs.{Reader.{Reader, and_then, mapped}, Num.{num, num_at}}

-- the spelling of two numbers from 1 to 9, of which the second isn't below the first
pub record Pair (text : List ℕ) (x : ℕ × ℕ) : Type 0 where
  pub spelled : text ≡ num x.0 ++ num x.1
  pub at_least : 1 ≤ x.0
  pub in_order : x.0 ≤ x.1
  pub at_most : x.1 ≤ 9

-- two such numbers, one behind the other
unfoldable pub pair_at : {K : Type 0} → K → Reader K (ℕ × ℕ)
pair_at why =
    and_then (num_at why 1 9) (λ first. mapped (λ second. (first, second)) (num_at why first 9))
