-- The leaks are the same wherever what is named is.
use Rattle.std.{proofs.Common.{◌≡◌, ◌∙◌, true, List, ap, sym}, specs.{Prelude.◌≡◌, List.flat_map}}
use mathlib.Core.Path.{fun_ext}
use Rattle.do_base.specs.names.Names.{ObjectName}
use Rattle.do_leaks.specs.{Heap.heap_of, Leaks.{leak_of, leaks}, Reach.reach}
use Rattle.do_leaks.proofs.Reaching.{reach_least}
use Rattle.do_packet.specs.Met.{has_object}
use Rattle.do_trace.specs.declared.outcome.{ObjLine.ObjLine, Snapshot.Snapshot}
use Rattle.do_net_named.proofs.NamedAlike.{both_true}

module _ (heap : List ObjLine) where
  -- what is reached from names is reached from others that have them
  reached_within : (a b : List ObjectName) → ((o : ObjectName) → has_object a o ≡ has_object b o) →
      (o : ObjectName) → has_object (reach heap a) o ≡ true → has_object (reach heap b) o ≡ true
  reached_within a b same o h =
      let r = reach_least heap b in
      (reach_least heap a).smallest (has_object (reach heap b))
      (λ p q. r.named_there p (sym (same p) ∙ q)) r.closed o h

  -- so both reach the same
  reached_alike : (a b : List ObjectName) → ((o : ObjectName) → has_object a o ≡ has_object b o) →
      (o : ObjectName) → has_object (reach heap a) o ≡ has_object (reach heap b) o
  reached_alike a b same o =
      both_true (has_object (reach heap a) o) (has_object (reach heap b) o)
      (reached_within a b same o) (reached_within b a (λ p. sym (same p)) o)

-- and the same is a leak
pub leaks_alike : (s : Snapshot) (a b : List ObjectName) →
    ((o : ObjectName) → has_object a o ≡ has_object b o) → leaks s a ≡ leaks s b
leaks_alike s a b same =
    let heap = heap_of s in
    ap (λ f. flat_map (leak_of heap f) heap) (fun_ext (reached_alike heap a b same))
