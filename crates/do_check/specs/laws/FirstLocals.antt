-- The first locals, one after the other.
use Rattle.std.proofs.Common.{◌≡◌, ℕ, zero, suc, ◌+◌, ◌≤◌, List as Listed, [], ◌∷◌, ◌++◌, ◌∙◌, ap}
use Rattle.std.{proofs.Common.{arith, IsTrue, add-one}, specs.List.{All, range_with_len}}
use Rattle.std.proofs.lemmas.{Grind.common_steps, List.Elements.{All-nil, All-cons}}
use Rattle.do_grammar.specs.Names.{is_selector, colons}
use Rattle.do_script.specs.Listing.{IsLocal}
use Rattle.do_check.specs.Acts.{firsts}

-- a selector has at most eight colons
pub few_colons : (s : Listed ℕ) → IsTrue (is_selector s) → colons s ≤ 8
unfolding is_selector
few_colons s is = grind (arith, common_steps)

-- a range that is longer by one ends in the next number
longer_range : (a n j : ℕ) → j ≡ a + n → range_with_len a (suc n) ≡ range_with_len a n ++ j ∷ []
longer_range a zero j is =
    let same : a ≡ j = omega (arith, is) in
    ap (λ k. k ∷ []) same
longer_range a (suc n) j is =
    ap (λ ks. a ∷ ks) (longer_range (a + 1) n j (omega (arith, is)))

-- one local more stands last
pub firsts_more : (k : ℕ) → firsts (k + 1) ≡ firsts k ++ k ∷ []
firsts_more k = ap firsts (add-one k) ∙ longer_range 0 k k (omega arith)

-- a range below 16 has locals alone
range_of_locals : (a n : ℕ) → a + n ≤ 16 → All IsLocal (range_with_len a n)
range_of_locals a zero few = All-nil IsLocal
range_of_locals a (suc n) few =
    All-cons IsLocal a (range_with_len (a + 1) n) (omega (arith, few))
    (range_of_locals (a + 1) n (omega (arith, few)))

-- the first eight are locals
pub firsts_are_locals : (count : ℕ) → count ≤ 8 → All IsLocal (firsts count)
firsts_are_locals count few = range_of_locals 0 count (omega (arith, few))
