-- Counts that are kept, and how an effect keeps them.
use Rattle.std.specs.FinMap as map
use Rattle.std.proofs.Common.{◌≡◌, ℕ, Bool, true, false, cond, List, [], refl, ap, sym, ◌∙◌, Option}
use Rattle.std.proofs.Common.{Some, None, ◌+◌, T, subst}
use Rattle.std.specs.{Option.unwrap_or, Ordering.{eq_by_cmp, is_eq}, declared.cmp.Ordering.Ordering}
use Rattle.std.specs.declared.cmp.Ordering.TheVariants.{Less, Equal, Greater}
use Rattle.std.specs.FinMap.{get-insert, get-retain_keys, same_map}
use Rattle.do_base.specs.declared.events.shown.Shown.{Shown}
use Rattle.do_export.specs.Counts.{Counts, count_of, entry_cmp, raised}
use Rattle.do_export.proofs.Order.{entry_same, entry_total}
use Rattle.do_machine.specs.{declared.{node.Node.Node, state.Effect.Effect}, State.is_open}
use Rattle.do_network.specs.{Counting.{counted, of_held, of_known, over_open_ends}, Own.Own}
use Rattle.do_effects.specs.Tidy.{IsTidy}

module _ {V : Type 0} (m : map.FinMap entry_cmp V) (p : ℕ × ℕ → Bool) where
  -- what is found among keys that pass a test
  pub kept_get : (q : ℕ × ℕ) → map.get (map.retain_keys m p) q ≡ cond (p q) (map.get m q) None
  kept_get q = get-retain_keys m p q (λ x same. ap p (sym (entry_same q x same)))

  -- keys that pass a test pass it again
  pub kept_twice : map.retain_keys (map.retain_keys m p) p ≡ map.retain_keys m p
  kept_twice = same_map entry_total entry_same _ _ (λ q. twice q)
    where
      -- whether the key passes or not
      go : (b : Bool) (o r : Option V) → r ≡ cond b o None → cond b r None ≡ r
      go true o r e = refl
      go false o r e = sym e

      -- so at each key
      twice : (q : ℕ × ℕ) →
          map.get (map.retain_keys (map.retain_keys m p) p) q ≡ map.get (map.retain_keys m p) q
      twice q =
          get-retain_keys (map.retain_keys m p) p q
          (λ x same. ap p (sym (entry_same q x same)))
          ∙ go (p q) (map.get m q) (map.get (map.retain_keys m p) q) (kept_get q)

-- after an effect a node is tidy, whatever it counted before
pub counted_is_tidy : (p : Own) (e : Effect) → IsTidy (counted p e)
counted_is_tidy p e = record {
  counts = kept_twice _ _;
  received = kept_twice _ _;
  classes = kept_twice _ _;
}

-- an effect that sends nothing, closes no end, and keeps what is held and asked for, changes the
-- node alone
pub node_alone : (p : Own) (n : Node) (shown : List Shown) → IsTidy p →
    n.open_to ≡ p.node.open_to → n.held ≡ p.node.held → n.asked ≡ p.node.asked →
    counted p (record { node = n; sent = []; shown = shown }) ≡ record p { node = n }
node_alone p n shown tidy ends held asked =
    (λ j. record {
      node = n;
      counts = over_open_ends (record p.node { open_to = ends j }) p.counts;
      received = of_held (record p.node { held = held j }) p.received;
      classes = of_known (record p.node { held = held j; asked = asked j }) p.classes;
    })
    ∙ (λ j. record {
      node = n;
      counts = tidy.counts j;
      received = tidy.received j;
      classes = tidy.classes j;
    })

-- what is tested to tie ties
pub tied : (r : Ordering) → is_eq r ≡ true → r ≡ Equal
tied Less e = absurd (subst T (sym e) tt)
tied Equal e = refl
tied Greater e = absurd (subst T (sym e) tt)

-- one name more to a peer is kept where the end towards it is open
pub raised_open : (n : Node) (c : Counts) (peer serial : ℕ) → is_open n peer ≡ true →
    over_open_ends n (raised c peer serial) ≡ raised (over_open_ends n c) peer serial
raised_open n c peer serial is = same_map entry_total entry_same _ _ (λ q. each q)
  where
    -- whether the end of an entry is open
    open_to : ℕ × ℕ → Bool
    open_to e = is_open n e.0

    -- the counts over open ends
    kept : Counts
    kept = over_open_ends n c

    -- over an open end the count is kept
    same_count : count_of kept peer serial ≡ count_of c peer serial
    same_count = ap (λ o. unwrap_or o 0)
        (kept_get c open_to (peer, serial)
        ∙ ap (λ b. cond b (map.get c (peer, serial)) None) is)

    -- at the entry that is raised, and at each other
    choice : (q : ℕ × ℕ) (b : Bool) → eq_by_cmp entry_cmp q (peer, serial) ≡ b →
        cond (open_to q) (cond b (Some (count_of c peer serial + 1)) (map.get c q)) None
        ≡ cond b (Some (count_of kept peer serial + 1)) (cond (open_to q) (map.get c q) None)
    choice q true e =
        ap (λ b. cond b (Some (count_of c peer serial + 1)) None)
        (ap open_to (entry_same q (peer, serial) (tied _ e)) ∙ is)
        ∙ ap (λ (m : ℕ). Some (m + 1)) (sym same_count)
    choice q false e = refl

    -- so at each entry
    each : (q : ℕ × ℕ) →
        map.get (over_open_ends n (raised c peer serial)) q
        ≡ map.get (raised kept peer serial) q
    each q =
        kept_get (raised c peer serial) open_to q
        ∙ ap (λ o. cond (open_to q) o None)
        (get-insert entry_total c (peer, serial) (count_of c peer serial + 1) q)
        ∙ choice q (eq_by_cmp entry_cmp q (peer, serial)) refl
        ∙ ap (λ o. cond (eq_by_cmp entry_cmp q (peer, serial))
        (Some (count_of kept peer serial + 1)) o) (sym (kept_get c open_to q))
        ∙ sym (get-insert entry_total kept (peer, serial) (count_of kept peer serial + 1) q)
