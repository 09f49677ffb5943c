-- What a site that opens keeps true.
use Rattle.std.specs.FinMap as map
use Rattle.std.proofs.Common.{◌≡◌, ℕ, Bool, true, false, cond, List, [], ◌∷◌, refl, sym, ap, ◌∙◌}
use Rattle.std.proofs.{Common.{None, ◌&&◌, ◌||◌, ◌+◌, not, arith}, lemmas.Bool.Decides.nat_tests}
use Rattle.std.specs.{Prelude.{is_some, nat_le, nat_lt, ◌==◌}, List.list_any}
use Rattle.std.specs.FinMap.{get-empty, same_map}
use Rattle.do_base.specs.declared.values.value.Value.TheVariants.{Obj}
use Rattle.do_class.specs.Class.{Class}
use Rattle.do_export.{specs.Counts.entry_cmp, proofs.Order.{entry_same, entry_total}}
use Rattle.do_machine.specs.{declared.{node.Node.Node, state.Seat.Seat}, Objects.object_at}
use Rattle.do_machine.specs.{State.{is_open, stored}, World.{opening_node, others}}
use Rattle.do_machine.specs.run.Fresh.{with_objects}
use Rattle.do_network.specs.Net.{opening_own}
use Rattle.do_packet.specs.declared.receipt.Made.{Made}
use Rattle.do_part.specs.Names.{AreStored, value_of}
use Rattle.do_effects.{specs.Tidy.IsTidy, proofs.TidyCounts.kept_get}
use Rattle.do_site.{specs.Stored.is_there, proofs.Stored.{one_there, there_with}}

-- a port is not among those other than it
pub not_among_others : (ports : List ℕ) (port : ℕ) →
    list_any (λ p. p == port) (others ports port) ≡ false
not_among_others [] port = refl
not_among_others (p ∷ ps) port =
    elim (p == port) as (λ b. (p == port) ≡ b → list_any (λ q. q == port)
    (cond (not b) (p ∷ others ps port) (others ps port)) ≡ false) [
      | true ↦ λ e. not_among_others ps port
      | false ↦ λ e. ap (λ b. b || list_any (λ q. q == port) (others ps port)) e
          ∙ not_among_others ps port
    ] refl

-- a node has no end towards itself as it opens
pub opened_apart : (table : List Class) (ports : List ℕ) (s : Seat) →
    is_open (opening_node table ports s) s.node ≡ false
opened_apart table ports s = not_among_others ports s.node

-- where nothing is counted nothing is that passes a test
none_kept : {A : Type 0} (test : ℕ × ℕ → Bool) →
    map.retain_keys (map.empty {X = A} {R = entry_cmp}) test ≡ map.empty
none_kept {A = A} test =
    same_map entry_total entry_same _ _ (λ q. kept_get map.empty test q ∙ go (test q) q)
  where
    go : (b : Bool) (q : ℕ × ℕ) →
        cond b (map.get (map.empty {X = A} {R = entry_cmp}) q) None
        ≡ map.get (map.empty {X = A} {R = entry_cmp}) q
    go true q = refl
    go false q = sym (get-empty entry_cmp q)

-- a node that counts nothing counts nothing that it does not keep
pub opened_tidy : (n : Node) → IsTidy (opening_own n)
opened_tidy n = record {
  counts = none_kept _;
  received = none_kept _;
  classes = none_kept _;
}

-- the serial that the next object gets is there where one comes
pub next_there : (n : Node) → is_there n 1 n.next_serial ≡ true
next_there n =
    let k = n.next_serial in
    elim (is_some (stored k n.heap)) as (λ b. (b || (nat_le k k && nat_lt k (k + 1))) ≡ true) [
      | true ↦ refl
      | false ↦ grind (arith, nat_tests)
    ]

-- a root that is created with the next serial is stored then
pub root_stored : (n : Node) (made : Made) → AreStored (with_objects (made ∷ []) n)
    (value_of (Obj (object_at n.port n.next_serial)))
root_stored n made =
    there_with n (made ∷ []) (value_of (Obj (object_at n.port n.next_serial)))
    (one_there n 1 (object_at n.port n.next_serial) (λ own. next_there n))
