-- A node whose ask is over is tidy still.
use Rattle.std.proofs.Common.{◌≡◌, ◌||◌, ◌+◌, ℕ, Bool, true, false, cond, not, List, [], ◌∷◌, refl}
use Rattle.std.{proofs.Common.{ap, ◌∙◌, filter, ◌⊎◌, inl, inr}, specs.List.list_any}
use Rattle.std.proofs.lemmas.Bool.{false≢true}
use Rattle.do_base.specs.names.Names.{ObjectName}
use Rattle.do_export.specs.Counts.{count_of}
use Rattle.do_import.specs.ByObject.{object_of}
use Rattle.do_machine.specs.declared.node.{Node.Node, Wanted.Wanted}
use Rattle.do_machine.specs.State.{has_asked, holds, is_known}
use Rattle.do_machine.specs.{lend.Asking.{same_wanted, without_wanted}, take.Take.holding}
use Rattle.do_machine.proofs.{Bools.{or_cases, or_left, or_right}, Having.{has_joined_all, same_is}}
use Rattle.do_network.specs.Own.{Own}
use Rattle.do_packet.specs.Met.{same_object}
use Rattle.do_effects.specs.{Taking.{gone_own, granted_own}, Tidy.IsTidy}
use Rattle.do_effects.proofs.{KeptRows.{put_kept, wider}, NamesAsk.{and_first, same_self}}
use Rattle.do_effects.proofs.TidyCounts.{kept_twice}

-- what is asked for is asked for by another ask still, or is the object of the one that is over
asks_left : (w : Wanted) (x : ObjectName) (ws : List Wanted) →
    list_any (λ v. same_object x v.object) ws ≡ true →
    (same_object x w.object ≡ true)
    ⊎ (list_any (λ v. same_object x v.object) (filter (λ v. not (same_wanted w v)) ws) ≡ true)
asks_left w x [] h = absurd (false≢true h)
asks_left w x (v ∷ ws) h = go (same_wanted w v) refl (or_cases (same_object x v.object) _ h)
    (asks_left w x ws)
  where
    -- what an equal ask is for is its object
    same : same_wanted w v ≡ true → same_object x v.object ≡ true → same_object x w.object ≡ true
    same e s = ap (same_object x) (same_is w.object v.object
        (and_first (same_object w.object v.object) _ _ e)) ∙ s

    -- whether the first ask is the one that is over or not
    go : (b : Bool) → same_wanted w v ≡ b →
        (same_object x v.object ≡ true) ⊎ (list_any (λ v. same_object x v.object) ws ≡ true) →
        (list_any (λ v. same_object x v.object) ws ≡ true →
        (same_object x w.object ≡ true)
        ⊎ (list_any (λ v. same_object x v.object) (filter (λ v. not (same_wanted w v)) ws)
        ≡ true)) → (same_object x w.object ≡ true)
        ⊎ (list_any (λ v. same_object x v.object)
        (cond (not b) (v ∷ filter (λ v. not (same_wanted w v)) ws)
        (filter (λ v. not (same_wanted w v)) ws)) ≡ true)
    go true e (inl s) k = inl (same e s)
    go true e (inr s) k = k s
    go false e (inl s) k = inr (or_left (same_object x v.object) _ s)
    go false e (inr s) k = elim (k s) [
      | inl t ↦ inl t
      | inr t ↦ inr (or_right (same_object x v.object) _ t)
    ]

-- a tidy node is tidy once an ask was granted
pub granted_tidy : (w : Wanted) (p : Own) → IsTidy p → IsTidy (granted_own w p)
granted_tidy w p tidy = record {
  counts = tidy.counts;
  received = put_kept p.received (λ q. holds n (object_of q)) (λ q. holds m (object_of q))
      (w.object.node, w.object.serial)
      (count_of p.received w.object.node w.object.serial + 1) grows held tidy.received;
  classes = wider p.classes (λ q. is_known n (object_of q)) (λ q. is_known m (object_of q))
      known tidy.classes;
}
  where
    -- the node before
    n : Node
    n = p.node

    -- the node that holds the object, and does not ask for it any more
    m : Node
    m = without_wanted w (holding (w.object ∷ []) n)

    -- it holds the object, and what it held
    has : (x : ObjectName) → holds m x ≡ ((same_object x w.object || false) || holds n x)
    has x = has_joined_all n.held (w.object ∷ []) x

    -- so it holds the object
    held : holds m w.object ≡ true
    held = has w.object
        ∙ ap (λ b. (b || false) || holds n w.object) (same_self w.object)

    -- it holds what it held
    grows : (q : ℕ × ℕ) → holds n (object_of q) ≡ true → holds m (object_of q) ≡ true
    grows q is = has (object_of q) ∙ or_right (same_object (object_of q) w.object || false) _ is

    -- and knows what it knew
    known : (q : ℕ × ℕ) → is_known n (object_of q) ≡ true → is_known m (object_of q) ≡ true
    known q is = elim (or_cases (holds n (object_of q)) (has_asked n (object_of q)) is) [
      | inl h ↦ or_left (holds m (object_of q)) _ (grows q h)
      | inr h ↦ elim (asks_left w (object_of q) n.asked h) [
        | inl s ↦ or_left (holds m (object_of q)) _ (has (object_of q)
            ∙ ap (λ b. (b || false) || holds n (object_of q)) s)
        | inr s ↦ or_right (holds m (object_of q)) _ s
      ]
    ]

-- a tidy node is tidy once what it asked for is gone
pub gone_tidy : (w : Wanted) (p : Own) → IsTidy p → IsTidy (gone_own w p)
gone_tidy w p tidy = record {
  counts = tidy.counts;
  received = tidy.received;
  classes = kept_twice p.classes (λ q. is_known (without_wanted w p.node) (object_of q));
}
