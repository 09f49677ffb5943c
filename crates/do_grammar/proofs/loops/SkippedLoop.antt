-- The turns of the loop that passes over a text in quotes.
use Rattle.std.proofs.Common.{◌≡◌, ℕ, ◌+◌, ◌-◌, ◌<◌, ◌≤◌, List, ◌∷◌, Option, Some, None, refl, sym}
use Rattle.std.{proofs.Common.◌∙◌, specs.Option.option_map}
use Rattle.do_grammar.specs.{Words.◌>>?◌, Quoted.{piece_at, closing, closed_or, denoted}}
use Rattle.do_grammar.proofs.loops.QuotedLoop.{goes_by, closed_by, none_by, limit_by}

abbrev behind : Option (List ℕ × List ℕ) → Option (List ℕ)
behind o = option_map (λ x. x.1) o

-- a byte in front of a text changes nothing of what stands behind it
same_behind : (b : ℕ) (o : Option (List ℕ × List ℕ))
    → behind (o >>? λ x. Some (b ∷ x.0, x.1)) ≡ behind o
same_behind b None = refl
same_behind b (Some x) = refl

-- one more byte was denoted
pub skips : (limit i b : ℕ) (rest after : List ℕ) (total : Option (List ℕ)) → i < limit
    → None ≡ closing rest → Some (b, after) ≡ piece_at rest
    → option_map (λ x. x.1) (denoted (limit - i) rest) ≡ total
    → option_map (λ x. x.1) (denoted (limit - (i + 1)) after) ≡ total
skips limit i b rest after total lt c p so_far =
    goes_by behind limit i rest total so_far behind b after (same_behind b) lt c p

-- the quote is reached
pub is_skipped : (limit i : ℕ) (rest end : List ℕ) (total : Option (List ℕ))
    → Some end ≡ closing rest → option_map (λ x. x.1) (denoted (limit - i) rest) ≡ total
    → Some end ≡ total
is_skipped limit i rest end total c so_far = closed_by behind limit i rest total so_far end c

-- the next byte denotes nothing
pub no_piece : (limit i : ℕ) (rest : List ℕ) (total : Option (List ℕ)) → i < limit
    → None ≡ closing rest → None ≡ piece_at rest
    → option_map (λ x. x.1) (denoted (limit - i) rest) ≡ total → None ≡ total
no_piece limit i rest total lt c p so_far = none_by behind limit i rest total so_far lt c p

-- so many bytes as may be denoted were
pub at_limit : (limit i : ℕ) (rest : List ℕ) (total : Option (List ℕ)) → limit ≤ i
    → option_map (λ x. x.1) (denoted (limit - i) rest) ≡ total → closing rest ≡ total
at_limit limit i rest total le so_far = sym (at_end (closing rest))
    ∙ limit_by behind limit i rest total so_far le
  where
    at_end : (o : Option (List ℕ)) → behind (closed_or o None) ≡ o
    at_end None = refl
    at_end (Some end) = refl

pub ruleset skipped_facts = (skips, is_skipped, no_piece, at_limit)
