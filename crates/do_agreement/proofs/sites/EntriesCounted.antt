-- What a node counts tells which entries its peers have, in a network whose counts fit.
use Rattle.std.proofs.Common.{◌≡◌, ◌||◌, ◌&&◌, ℕ, Bool, true, false, List, map, refl, ap, sym, ◌∙◌}
use Rattle.std.specs.{Prelude.{Option, Some, nat_lt}, List.{AllByRecursion, list_any}}
use Rattle.do_base.specs.names.Names.{ObjectName}
use Rattle.do_coder.specs.Packets.{Surroundings}
use Rattle.do_export.specs.Counts.{count_of}
use Rattle.do_frames.specs.Frames.{IsFrame}
use Rattle.do_packet.specs.Met.{has_object}
use Rattle.do_machine.specs.{declared.{item.Item.Item, node.Node.Node}, Entry.is_holder}
use Rattle.do_machine.specs.{Items.{exported, released}, Lists.some_passes, Objects.object_at}
use Rattle.do_machine.specs.State.{holds, is_open}
use Rattle.do_network.specs.{Own.{Own, is_counted}, fits.Counted.Counted}
use Rattle.do_network.specs.fits.Notes.{Note, exports_of, note_frame, returns_of, tells_of, total}
use Rattle.do_network.proofs.CountsAreEntries.{counted_closed, counted_open, grouped}
use Rattle.do_network.proofs.NotesCounted.{some_export, some_release}

-- the entry of a peer, by the home's end, the peer, and what is under way between them
abbrev pub entry_of : ℕ → ObjectName → Bool → Option Node → Option (List Item) →
    Option (List Item) → Bool
entry_of peer o reached holder there back =
    reached
    && (some_passes (is_holder o) holder
    || some_passes (list_any (λ item. has_object (exported o.node peer item) o)) there
    || some_passes (list_any (λ item. has_object (released peer o.node item) o)) back)

module _ (p q : Own) (there back : List Note) (fit : Counted p q there back)
    (silent : is_open q.node p.node.port ≡ true → (serial : ℕ) →
    total (tells_of serial) back ≡ 0)
    (held : (serial : ℕ) → nat_lt 0 (count_of q.received p.node.port serial)
    ≡ holds q.node (object_at p.node.port serial))
    (s : Surroundings) (spelled : AllByRecursion (λ x. IsFrame s (note_frame x)) back) where
  -- over an open end, a count is above 0 just where the peer has an entry
  count_tells : (serial : ℕ) → is_open p.node q.node.port ≡ true →
      nat_lt 0 (count_of p.counts q.node.port serial)
      ≡ (is_holder (object_at p.node.port serial) q.node
      || (nat_lt 0 (total (exports_of p.node.port q.node.port serial) there)
      || (nat_lt 0 (total (returns_of serial) back) || nat_lt 0 (total (tells_of serial) back))))
  count_tells serial here = go (is_open q.node p.node.port) refl
    where
      rest : Bool
      rest = nat_lt 0 (total (exports_of p.node.port q.node.port serial) there)
          || (nat_lt 0 (total (returns_of serial) back)
          || nat_lt 0 (total (tells_of serial) back))

      go : (b : Bool) → is_open q.node p.node.port ≡ b →
          nat_lt 0 (count_of p.counts q.node.port serial)
          ≡ ((b && holds q.node (object_at p.node.port serial)) || rest)
      go true e =
          counted_open _ _ _ _ _ (fit.agree here e serial) (silent e serial)
          ∙ ap (λ b. b || rest) (held serial)
      go false e =
          let ended = fit.ended here e serial in
          counted_closed _ _ _ _ ended.untold ended.told

  -- what is counted tells the entries of the peer
  pub counts_tell : (serial : ℕ) (b : Bool) → is_open p.node q.node.port ≡ b →
      is_counted p q.node.port serial
      ≡ entry_of q.node.port (object_at p.node.port serial) b (Some q.node)
      (Some (map (λ x. x.item) there)) (Some (map (λ x. x.item) back))
  counts_tell serial true here =
      let a = p.node.port in
      let m = q.node.port in
      let o : ObjectName = object_at a serial in
      ap (λ b. b && nat_lt 0 (count_of p.counts m serial)) here
      ∙ count_tells serial here
      ∙ grouped (is_holder o q.node) (nat_lt 0 (total (exports_of a m serial) there))
      (nat_lt 0 (total (returns_of serial) back) || nat_lt 0 (total (tells_of serial) back))
      ∙ sym (ap (λ b. is_holder o q.node || b
      || list_any (λ item. has_object (released m a item) o) (map (λ (y : Note). y.item) back))
      (some_export a m serial there)
      ∙ ap (λ b. is_holder o q.node || nat_lt 0 (total (exports_of a m serial) there) || b)
      (some_release s m a serial back spelled))
  counts_tell serial false shut =
      ap (λ b. b && nat_lt 0 (count_of p.counts q.node.port serial)) shut
