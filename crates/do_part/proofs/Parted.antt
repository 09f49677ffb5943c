-- What a part has once all that it had with a peer has ended, step by step.
use Rattle.std.specs.FinMap as map
use Rattle.std.proofs.Common.{◌≡◌, ℕ, ◌==◌, ◌||◌, Bool, true, false, filter, map as each, not, refl}
use Rattle.std.{proofs.Common.{sym, ap, ◌∙◌}, specs.List.list_any}
use Rattle.do_base.specs.names.Names.{ObjectName}
use Rattle.do_packet.specs.Met.{has_object, same_object}
use Rattle.do_export.{specs.Counts.others_of, proofs.Order.{entry_total, entry_same}}
use Rattle.do_import.specs.ByObject.{ClassMap, object_of}
use Rattle.do_machine.specs.{Effect.only, State.{is_known, is_open}, declared.node.Node.Node}
use Rattle.do_machine.{specs.ends.Closing.{parted, without_answer}, proofs.Having.has_passing}
use Rattle.do_network.specs.{Counting.{counted, of_known}, Own.Own}
use Rattle.do_part.specs.{Parting.{without_asks, without_links}, Rooting.held_of}
use Rattle.do_part.proofs.MapKeys.{retain_twice}
use Rattle.do_part.proofs.PartingRows.{entries_parted, held_apart, received_held}

-- without entries
abbrev pub entries_gone : ℕ → Own → Own
entries_gone peer o = record o { counts = others_of o.counts peer }

-- without asks
abbrev pub asks_gone : ℕ → Own → Own
asks_gone peer o = record o {
  node = without_asks peer o.node;
  classes = of_known (without_asks peer o.node) o.classes;
}

-- without objects received and lends
abbrev pub links_gone : ℕ → Own → Own
links_gone peer o = record o {
  node = without_links peer o.node;
  received = others_of o.received peer;
  classes = of_known (without_links peer o.node) o.classes;
}

-- with all calls failed
abbrev pub failed : ℕ → Own → Own
failed peer o = record o {
  node = record o.node {
    stack = each (without_answer peer) o.node.stack;
    late = filter (λ c. not (c.peer == peer)) o.node.late;
  };
}

-- the classes of what is known in the end
known_closed : (peer : ℕ) (n : Node) (classes : ClassMap)
    → of_known (without_links peer (without_asks peer n)) (of_known (without_asks peer n) classes)
    ≡ of_known (parted peer n) classes
known_closed peer n classes =
    retain_twice entry_total entry_same classes (λ k. is_known (without_asks peer n) (object_of k))
    (λ k. is_known (parted peer n) (object_of k)) (λ q known.
    go q (has_object (filter (λ o. not (o.node == peer)) n.held) (object_of q)) refl known)
  where
    -- whether it is asked for
    asked : ℕ × ℕ → Bool
    asked q = list_any (λ w. same_object (object_of q) w.object)
        (filter (λ w. not (w.object.node == peer)) n.asked)

    go : (q : ℕ × ℕ) (b : Bool)
        → has_object (filter (λ o. not (o.node == peer)) n.held) (object_of q) ≡ b
        → (b || asked q) ≡ true → is_known (without_asks peer n) (object_of q) ≡ true
    go q true e h = ap (λ b. b || asked q)
        (has_passing (λ o. not (o.node == peer)) n.held (object_of q) e)
    go q false e h = or-right (has_object n.held (object_of q)) h
      where
        or-right : (a : Bool) → asked q ≡ true → (a || asked q) ≡ true
        or-right true h = refl
        or-right false h = h

-- all in all it has what the counts that follow a closed end have
pub own_parted : (peer : ℕ) (o : Own)
    → ((k : ℕ × ℕ) → map.contains_key o.counts k ≡ true → is_open o.node k.0 ≡ true)
    → o.node.held ≡ held_of o.received → record (failed peer (links_gone peer (asks_gone peer
    (entries_gone peer o)))) { node = parted peer o.node } ≡ counted o (only (parted peer o.node))
own_parted peer o ends held = λ j. record {
  node = parted peer o.node;
  counts = entries_parted o.counts o.node.open_to peer ends j;
  received = received j;
  classes = known_closed peer o.node o.classes j;
}
  where
    -- what was received of others is what is held in the end
    received : others_of o.received peer
        ≡ map.retain_keys o.received (λ k. has_object
        (filter (λ x. not (x.node == peer)) o.node.held) (object_of k))
    received = received_held o.received (λ e. not (e.0 == peer))
        ∙ ap (λ l. map.retain_keys o.received (λ k. has_object l (object_of k)))
        (held_apart o.received peer
        ∙ ap (filter (λ (x : ObjectName). not (x.node == peer))) (sym held))
