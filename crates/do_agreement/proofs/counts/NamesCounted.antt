-- A node's own counts stay right by what it names.
use Rattle.std.specs.FinMap as map_of
use Rattle.std.proofs.Common.{◌≡◌, ◌++◌, ◌+◌, ℕ, Bool, true, false, cond, List, refl, sym, ap, ◌∙◌}
use Rattle.std.proofs.Common.{arith}
use Rattle.std.specs.{Prelude.{None, fold, unwrap_or}, FinMap.get-retain_keys}
use Rattle.do_export.{specs.Counts.{Counts, count_of}, proofs.Order.entry_same}
use Rattle.do_machine.specs.{declared.{node.Node.Node, state.Effect.Effect}, Objects.object_at}
use Rattle.do_machine.specs.State.{holds, is_open}
use Rattle.do_network.specs.{Counting.{counted, named_to, over_open_ends}, Own.Own}
use Rattle.do_network.specs.fits.{Counted.Counted, Notes.{Note, exports_of, tells_of, total}}
use Rattle.do_agreement.{specs.NotesSent.notes_to, proofs.counts.NamesSent.named_count}
use Rattle.do_agreement.proofs.{counts.ReturnsSent.held_count, pairs.NotesAsAtoms.total_behind}

-- a count is kept over an open end
open_count : (n : Node) (c : Counts) (peer s : ℕ) →
    count_of (over_open_ends n c) peer s ≡ cond (is_open n peer) (count_of c peer s) 0
open_count n c peer s =
    ap (λ o. unwrap_or o 0) (get-retain_keys c (λ k. is_open n k.0) (peer, s)
    (λ x t. ap (λ k. is_open n k.0) (sym (entry_same (peer, s) x t))))
    ∙ go (is_open n peer)
  where
    go : (b : Bool) → unwrap_or (cond b (map_of.get c (peer, s)) None) 0
        ≡ cond b (count_of c peer s) 0
    go true = refl
    go false = refl

module _ (p q : Own) (e : Effect) (same : e.node.port ≡ p.node.port)
    (ends : is_open e.node q.node.port ≡ true → is_open p.node q.node.port ≡ true)
    (there back : List Note)
    (fit : is_open e.node q.node.port ≡ true → Counted p q there back)
    (reached : (s : ℕ) → is_open e.node q.node.port ≡ false →
    holds e.node (object_at q.node.port s) ≡ false)
    (silent : is_open e.node q.node.port ≡ true → (s : ℕ) →
    total (tells_of s) (there ++ notes_to p.received q.node.port e.sent) ≡ 0) where
  -- the peer
  abbrev peer : ℕ
  peer = q.node.port

  -- what the node sent to the peer
  abbrev new : List Note
  new = notes_to p.received peer e.sent

  -- the count after the effect, over an open end
  count_is : (s : ℕ) → is_open e.node peer ≡ true → count_of (counted p e).counts peer s
      ≡ count_of p.counts peer s + total (exports_of p.node.port peer s) new
  count_is s o =
      open_count e.node (fold (named_to p.node.port) p.counts e.sent) peer s
      ∙ ap (λ b. cond b (count_of (fold (named_to p.node.port) p.counts e.sent) peer s) 0) o
      ∙ named_count p.node.port p.received peer s e.sent p.counts

  -- the names under way after the effect
  names_are : (s : ℕ) → total (exports_of e.node.port peer s) (there ++ new)
      ≡ total (exports_of p.node.port peer s) there + total (exports_of p.node.port peer s) new
  names_are s =
      ap (λ x. total (exports_of x peer s) (there ++ new)) same
      ∙ total_behind (exports_of p.node.port peer s) there new

  -- the peer's end towards the node, by its port
  towards : {b : Bool} → is_open q.node e.node.port ≡ b → is_open q.node p.node.port ≡ b
  towards o = ap (λ x. is_open q.node x) (sym same) ∙ o

  -- the node's counts stay right
  pub names_counted : Counted (counted p e) q (there ++ new) back
  names_counted = record {
    agree = λ o k s.
        omega (
          arith,
          (fit o).agree (ends o) (towards k) s,
          count_is s o,
          names_are s,
          ap (λ x. count_of q.received x s) same,
        );
    ended = λ o k s. record {
      untold = λ t.
          omega (
            arith,
            ((fit o).ended (ends o) (towards k) s).untold t,
            count_is s o,
            names_are s,
          );
      told = λ t.
          omega (
            arith,
            ((fit o).ended (ends o) (towards k) s).told t,
            count_is s o,
            names_are s,
          );
    };
    closed = λ o s. (
      open_count e.node (fold (named_to p.node.port) p.counts e.sent) peer s
          ∙ ap (λ b. cond b (count_of (fold (named_to p.node.port) p.counts e.sent) peer s) 0) o,
      held_count e.node p.received peer s
          ∙ ap (λ b. cond b (count_of p.received peer s) 0) (reached s o),
    );
    silent = λ o s. silent o s;
  }
