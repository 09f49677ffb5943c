-- A text that was read in quotes is within its limit.
use Rattle.std.proofs.Common.{◌≡◌, ℕ, zero, suc, ◌≤◌, List, [], ◌∷◌, length, Option, Some, None}
use Rattle.std.proofs.Common.{Bool, true, false, cond, eqb, refl, arith}
use Rattle.do_grammar.specs.{Words.◌>>?◌, Quoted.{piece_at, closing, closed_or, denoted, quoted_at}}

denoted_short : (n : ℕ) (bytes : List ℕ) (x : List ℕ × List ℕ) → denoted n bytes ≡ Some x
    → length x.0 ≤ n
denoted_short zero bytes x e = go (closing bytes) e
  where
    go : (o : Option (List ℕ)) → closed_or o None ≡ Some x → length x.0 ≤ 0
    go None h = absurd cc
    go (Some rest) h = let none : [] ≡ x.0 = cc in rw (← none) (omega arith)
denoted_short (suc n) bytes x e = go (λ b y h. denoted_short n b y h) (closing bytes) e
  where
    more : (b : ℕ) (o : Option (List ℕ × List ℕ))
        → ((y : List ℕ × List ℕ) → o ≡ Some y → length y.0 ≤ n)
        → (o >>? λ y. Some (b ∷ y.0, y.1)) ≡ Some x → length x.0 ≤ suc n
    more b None f h = absurd cc
    more b (Some y) f h =
        let first : b ∷ y.0 ≡ x.0 = cc in let short = f y refl in rw (← first) (omega arith)

    on : ((b : List ℕ) (y : List ℕ × List ℕ) → denoted n b ≡ Some y → length y.0 ≤ n)
        → (p : Option (ℕ × List ℕ))
        → (p >>? λ q. denoted n q.1 >>? λ y. Some (q.0 ∷ y.0, y.1)) ≡ Some x → length x.0 ≤ suc n
    on again None h = absurd cc
    on again (Some q) h = more q.0 (denoted n q.1) (λ y k. again q.1 y k) h

    go : ((b : List ℕ) (y : List ℕ × List ℕ) → denoted n b ≡ Some y → length y.0 ≤ n)
        → (o : Option (List ℕ))
        → closed_or o
        (piece_at bytes >>? λ q. denoted n q.1 >>? λ y. Some (q.0 ∷ y.0, y.1)) ≡ Some x
        → length x.0 ≤ suc n
    go again None h = on again (piece_at bytes) h
    go again (Some rest) h = let none : [] ≡ x.0 = cc in rw (← none) (omega arith)

pub quoted_short : (limit : ℕ) (bytes : List ℕ) (x : List ℕ × List ℕ)
    → quoted_at limit bytes ≡ Some x → length x.0 ≤ limit
unfolding quoted_at
quoted_short limit [] x e = absurd cc
quoted_short limit (b ∷ bytes) x e = go (eqb b 34) e
  where
    go : (t : Bool) → cond t (denoted limit bytes) None ≡ Some x → length x.0 ≤ limit
    go true h = denoted_short limit bytes x h
    go false h = absurd cc
