-- What the counts of a site are once names were sent or given back, and over a closed end.
use Rattle.std.specs.FinMap as map_of
use Rattle.std.proofs.Common.{◌≡◌, ◌==◌, ◌+◌, ◌-◌, ℕ, Bool, true, false, cond, List, [], ◌∷◌, refl}
use Rattle.std.proofs.Common.{ap, sym, ◌∙◌, fold, arith}
use Rattle.std.specs.declared.cmp.Ordering.TheVariants.{Equal}
use Rattle.std.specs.{Prelude.{None, Some, length, unwrap_or}, List.filter, Ordering.eq_by_cmp}
use Rattle.std.specs.FinMap.{get-insert, get-remove, get-retain_keys}
use Rattle.std.proofs.lemmas.Bool.{eqb-true, Decides.nat_tests}
use Rattle.do_base.specs.names.Names.{ObjectName}
use Rattle.do_export.specs.Counts.{Counts, count_of, entry_cmp, lowered, raised}
use Rattle.do_export.proofs.Order.{entry_same, entry_total}
use Rattle.do_machine.specs.{declared.node.Node.Node, State.is_open}
use Rattle.do_network.specs.Counting.{over_open_ends}

-- two entries of one peer are the same where their serials are
same_entry : (peer s t : ℕ) → eq_by_cmp entry_cmp (peer, s) (peer, t) ≡ (t == s)
same_entry peer s t = grind (arith, nat_tests)

-- nothing more is as much
no_more : (n : ℕ) → n ≡ 0 + n
no_more n = omega arith

-- a count is one more where its object was named
raised_count : (c : Counts) (peer s serial : ℕ) →
    count_of (raised c peer s) peer serial ≡ cond (s == serial) 1 0 + count_of c peer serial
raised_count c peer s serial =
    ap (λ o. unwrap_or o 0)
    (get-insert entry_total c (peer, s) (count_of c peer s + 1) (peer, serial))
    ∙ ap (λ b. unwrap_or (cond b (Some (count_of c peer s + 1)) (map_of.get c (peer, serial))) 0)
    (same_entry peer serial s)
    ∙ go (s == serial) refl
  where
    go : (b : Bool) → (s == serial) ≡ b →
        unwrap_or (cond b (Some (count_of c peer s + 1)) (map_of.get c (peer, serial))) 0
        ≡ cond b 1 0 + count_of c peer serial
    go true e = ap (λ n. count_of c peer n + 1) (eqb-true s serial e) ∙ omega arith
    go false e = no_more (count_of c peer serial)

-- a count is more by each name of its object
pub named_counts : (peer serial : ℕ) (os : List ObjectName) (c : Counts) →
    count_of (fold (λ d o. raised d peer o.serial) c os) peer serial
    ≡ count_of c peer serial + length (filter (λ o. o.serial == serial) os)
named_counts peer serial [] c = grind arith
named_counts peer serial (o ∷ os) c =
    named_counts peer serial os (raised c peer o.serial)
    ∙ ap (λ n. n + length (filter (λ (x : ObjectName). x.serial == serial) os))
    (raised_count c peer o.serial serial)
    ∙ go (o.serial == serial)
  where
    rest : List ObjectName
    rest = filter (λ (x : ObjectName). x.serial == serial) os

    go : (b : Bool) → (cond b 1 0 + count_of c peer serial) + length rest
        ≡ count_of c peer serial + length (cond b (o ∷ rest) rest)
    go true = grind arith
    go false = ap (λ n. n + length rest) (sym (no_more (count_of c peer serial)))

-- a count is less by the names that were given back
pub lowered_count : (c : Counts) (peer serial n : ℕ) →
    count_of (lowered c peer serial n) peer serial ≡ count_of c peer serial - n
lowered_count c peer serial n = go (count_of c peer serial == n) refl
  where
    go : (b : Bool) → (count_of c peer serial == n) ≡ b →
        count_of (cond b (map_of.remove c (peer, serial))
        (map_of.insert c (peer, serial) (count_of c peer serial - n))) peer serial
        ≡ count_of c peer serial - n
    go true e =
        ap (λ o. unwrap_or o 0) (get-remove entry_total c (peer, serial) (peer, serial))
        ∙ ap (λ b. unwrap_or (cond b None (map_of.get c (peer, serial))) 0)
        (same_entry peer serial serial)
        ∙ grind (arith, e)
    go false e =
        ap (λ o. unwrap_or o 0) (get-insert entry_total c (peer, serial)
        (count_of c peer serial - n) (peer, serial))
        ∙ ap (λ b. unwrap_or (cond b (Some (count_of c peer serial - n))
        (map_of.get c (peer, serial))) 0)
        (same_entry peer serial serial)
        ∙ grind arith

-- a peer whose end is closed has no counts
pub closed_count : (n : Node) (c : Counts) (peer serial : ℕ) → is_open n peer ≡ false →
    count_of (over_open_ends n c) peer serial ≡ 0
closed_count n c peer serial shut =
    ap (λ o. unwrap_or o 0)
    (get-retain_keys c (λ e. is_open n e.0) (peer, serial) (λ e tied. same_peer e tied))
    ∙ ap (λ b. unwrap_or (cond b (map_of.get c (peer, serial)) None) 0) shut
  where
    same_peer : (e : ℕ × ℕ) → entry_cmp (peer, serial) e ≡ Equal →
        is_open n e.0 ≡ is_open n peer
    same_peer e tied =
        ap (λ (k : ℕ × ℕ). is_open n k.0) (sym (entry_same (peer, serial) e tied))
