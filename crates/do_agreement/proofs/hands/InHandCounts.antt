-- What a node counts with an item in hand.
use Rattle.std.specs.FinMap as map_of
use Rattle.do_machine.specs.declared.item.Item.TheVariants as items
use Rattle.std.proofs.Common.{◌≡◌, ◌==◌, ◌&&◌, ◌+◌, ◌-◌, ℕ, Bool, true, false, cond, List, [], ◌∷◌}
use Rattle.std.proofs.Common.{filter, fold, map, refl, sym, ap, ◌∙◌, subst, arith}
use Rattle.std.specs.{Prelude.{None, Some, length, unwrap_or}, List.AllByRecursion}
use Rattle.std.specs.{Ordering.eq_by_cmp, FinMap.{get-insert, get-remove}}
use Rattle.std.proofs.lemmas.Bool.Decides.{nat_tests}
use Rattle.do_base.specs.names.Names.{ObjectName}
use Rattle.do_class.specs.declared.packet.Name.{Name, TheVariants.{Lent, Mine, Yours}}
use Rattle.do_export.specs.Counts.{Counts, count_of, entry_cmp, lowered}
use Rattle.do_export.proofs.{Counting.{count-raised, tie}, Order.entry_total}
use Rattle.do_import.specs.ByObject.{added}
use Rattle.do_machine.specs.{declared.{item.Item.Item, node.Node.Node}, Items.exported}
use Rattle.do_machine.specs.Items.{is_exported, name_naming, named_as, naming, Role.Released}
use Rattle.do_network.specs.{Frames.{frame_of, item_of}, Own.Own, Site.released_by}
use Rattle.do_network.specs.fits.Notes.{Note, exports_of, given_up, returns_of}
use Rattle.do_network.proofs.CountsFollow.{lowered_count}
use Rattle.do_agreement.specs.InHand.{in_hand}

-- ---- what is received

-- objects of one node
abbrev pub AreOf : ℕ → List ObjectName → Type 0
AreOf from os = AllByRecursion (λ o. o.node ≡ from) os

-- what a message exports is of its sender
names_of : (from to : ℕ) (ns : List Name) →
    AreOf from (named_as is_exported (map (name_naming from to) ns))
names_of from to [] = tt
names_of from to (Mine s class ∷ ns) = (refl, names_of from to ns)
names_of from to (Yours s ∷ ns) = names_of from to ns
names_of from to (Lent o class token ∷ ns) = names_of from to ns

-- an end exports nothing
pub end_exports : (to : ℕ) (serials : List ℕ) →
    named_as is_exported (map (naming Released to) serials) ≡ []
end_exports to [] = refl
end_exports to (s ∷ serials) = end_exports to serials

-- what an item exports is of its sender
pub exports_are : (from to : ℕ) (item : Item) → AreOf from (exported from to item)
exports_are from to (items.Call k m) = names_of from to m.packet.names
exports_are from to (items.Oneway m) = names_of from to m.packet.names
exports_are from to (items.Reply k p) = names_of from to p.names
exports_are from to (items.RootAnswer k p) = names_of from to p.names
exports_are from to (items.Granted s t) = (refl, tt)
exports_are from to (items.End serials) = subst (AreOf from) (sym (end_exports to serials)) tt
exports_are from to _ = tt

-- a frame exports what its item does
pub exports_alike : (from to amount : ℕ) (item : Item) →
    exported from to (item_of (frame_of amount item)) ≡ exported from to item
exports_alike from to amount (items.End serials) = sym (end_exports to serials)
exports_alike from to amount _ = refl

-- one more object of a node is received
one_received : (from h s n t k : ℕ) (rest : ℕ) → n ≡ from →
    k + cond ((n == h) && (t == s)) 1 0 + cond (h == from) rest 0
    ≡ k + cond (h == from) (cond (t == s) (1 + rest) rest) 0
one_received from h s n t k rest e = grind (arith, nat_tests, e)

-- objects of one node are received
all_received : (from h s : ℕ) (os : List ObjectName) → AreOf from os → (c : Counts) →
    count_of (fold added c os) h s
    ≡ count_of c h s + cond (h == from) (length (filter (λ o. o.serial == s) os)) 0
all_received from h s [] are c = go (h == from)
  where
    go : (b : Bool) → count_of c h s ≡ count_of c h s + cond b 0 0
    go true = omega arith
    go false = omega arith
all_received from h s (o ∷ os) are c =
    let rest = length (filter (λ (x : ObjectName). x.serial == s) os) in
    all_received from h s os are.1 (added c o)
    ∙ ap (λ k. k + cond (h == from) rest 0) (count-raised c o.node o.serial h s)
    ∙ one_received from h s o.node o.serial (count_of c h s) rest are.0
    ∙ go (o.serial == s)
  where
    rest : List ObjectName
    rest = filter (λ (x : ObjectName). x.serial == s) os

    go : (b : Bool) →
        count_of c h s + cond (h == from) (cond b (1 + length rest) (length rest)) 0
        ≡ count_of c h s + cond (h == from) (length (cond b (o ∷ rest) rest)) 0
    go true = ap (λ k. count_of c h s + cond (h == from) k 0) (omega arith)
    go false = refl

-- ---- what is given back

-- a count at another entry stays where names were given back
lowered_elsewhere : (c : Counts) (peer s n m t : ℕ) → ((peer == m) && (s == t)) ≡ false →
    count_of (lowered c peer s n) m t ≡ count_of c m t
lowered_elsewhere c peer s n m t apart = go (count_of c peer s == n)
  where
    other : eq_by_cmp entry_cmp (m, t) (peer, s) ≡ false
    other = tie peer s m t ∙ apart

    go : (b : Bool) → count_of (cond b (map_of.remove c (peer, s))
        (map_of.insert c (peer, s) (count_of c peer s - n))) m t ≡ count_of c m t
    go true =
        ap (λ o. unwrap_or o 0) (get-remove entry_total c (peer, s) (m, t))
        ∙ ap (λ b. unwrap_or (cond b None (map_of.get c (m, t))) 0) other
    go false =
        ap (λ o. unwrap_or o 0)
        (get-insert entry_total c (peer, s) (count_of c peer s - n) (m, t))
        ∙ ap (λ b. unwrap_or (cond b (Some (count_of c peer s - n)) (map_of.get c (m, t))) 0) other

-- a count once names were given back
lowered_at : (c : Counts) (peer s n m t : ℕ) →
    count_of (lowered c peer s n) m t
    ≡ count_of c m t - cond (m == peer) (cond (s == t) n 0) 0
lowered_at c peer s n m t = go ((peer == m) && (s == t)) refl
  where
    go : (b : Bool) → ((peer == m) && (s == t)) ≡ b →
        count_of (lowered c peer s n) m t
        ≡ count_of c m t - cond (m == peer) (cond (s == t) n 0) 0
    go true e = grind (arith, nat_tests, e, lowered_count c peer s n)
    go false e = lowered_elsewhere c peer s n m t e ∙ grind (arith, nat_tests, e)

-- nothing is taken off
none_off : (b : Bool) (k : ℕ) → k ≡ k - cond b 0 0
none_off true k = omega arith
none_off false k = omega arith

module _ (from : ℕ) (p : Own) where
  -- an item gives back what it says, and nothing else changes
  pub record GivesBack (amount : ℕ) (item : Item) : Type 0 where
    pub same : (released_by from (frame_of amount item) p).node ≡ p.node
    pub received : (released_by from (frame_of amount item) p).received ≡ p.received
    pub classes : (released_by from (frame_of amount item) p).classes ≡ p.classes
    pub counts : (m t : ℕ) → count_of (released_by from (frame_of amount item) p).counts m t
        ≡ count_of p.counts m t - cond (m == from) (given_up t item amount) 0

  -- any item
  pub gives_back : (amount : ℕ) (item : Item) → GivesBack amount item
  gives_back amount (items.Call k m) = record {
    same = refl;
    received = refl;
    classes = refl;
    counts = λ m t. none_off (m == from) (count_of p.counts m t);
  }
  gives_back amount (items.Oneway m) = record {
    same = refl;
    received = refl;
    classes = refl;
    counts = λ m t. none_off (m == from) (count_of p.counts m t);
  }
  gives_back amount (items.Left s) = record {
    same = refl;
    received = refl;
    classes = refl;
    counts = λ m t. lowered_at p.counts from s amount m t;
  }
  gives_back amount _ = record {
    same = refl;
    received = refl;
    classes = refl;
    counts = λ m t. none_off (m == from) (count_of p.counts m t);
  }

  -- what is received with an item in hand
  pub received_in_hand : (x : Note) (h s : ℕ) →
      count_of (in_hand from x p).received h s
      ≡ count_of p.received h s + cond (h == from) (exports_of from p.node.port s x) 0
  received_in_hand x h s =
      let port = p.node.port in
      let back = gives_back x.amount x.item in
      let q = released_by from (frame_of x.amount x.item) p in
      ap (λ (n : Node). count_of (fold added q.received
      (exported from n.port (item_of (frame_of x.amount x.item)))) h s) back.same
      ∙ ap (λ os. count_of (fold added q.received os) h s)
      (exports_alike from port x.amount x.item)
      ∙ all_received from h s (exported from port x.item) (exports_are from port x.item) q.received
      ∙ ap (λ c. count_of c h s + cond (h == from) (exports_of from port s x) 0) back.received

  -- what is counted with an item in hand
  pub counts_in_hand : (x : Note) (m s : ℕ) →
      count_of (in_hand from x p).counts m s
      ≡ count_of p.counts m s - cond (m == from) (returns_of s x) 0
  counts_in_hand x m s = (gives_back x.amount x.item).counts m s
