-- A site that takes an item is judged as the machine's node, and does what its input says.
use Rattle.std.specs.FinMap as map_of
use Rattle.do_base.specs.declared.events.shown.Shown.TheVariants as shows
use Rattle.do_machine.specs.declared.item.Item.TheVariants as items
use Rattle.do_network.specs.declared.input.Done.TheVariants as dones
use Rattle.std.proofs.Common.{◌≡◌, ◌&&◌, ℕ, Bool, true, false, cond, not, List, [], refl, sym, ap}
use Rattle.std.{proofs.Common.◌∙◌, specs.Prelude.{None, Ok, Some, is_some, nat_lt}}
use mathlib.Core.Path.{fun_ext}
use Rattle.do_base.specs.names.Names.{ObjectName}
use Rattle.do_class.specs.{Class.Class, Table.IsTable}
use Rattle.do_coder.specs.declared.recent.pair.Pair.{Pair}
use Rattle.do_export.specs.Counts.{count_of}
use Rattle.do_frames.specs.{declared.frame.Frame.Frame, Frames.{after_frame, raw}}
use Rattle.do_machine.specs.declared.{item.Item.Item, node.Node.Node, state.State.State}
use Rattle.do_machine.specs.{Context.{Surroundings, around}, Effect.{showing, ◌>>=◌}}
use Rattle.do_machine.specs.{Entry.has_entry, Objects.object_at, State.{class_of, is_known}}
use Rattle.do_machine.specs.{State.is_open, ends.Closing.closing, run.Run.Acting}
use Rattle.do_machine.specs.take.{Lines.item_line, Take.{can_take, holding, take_effect}}
use Rattle.do_network.specs.{Counting.got, Faults.peer_fault}
use Rattle.do_network.specs.{Frames.{frame_of, item_of, read_frame}, Links.{Link, Part}}
use Rattle.do_network.specs.{Links.{change_link, having_read, names_read}, Net.{Lost, Whole}}
use Rattle.do_network.specs.Own.{Own, class_kept, counted_around, is_counted, site_context}
use Rattle.do_network.specs.Site.{Handled, enabled_input, handled, released_by, site_move, takes}
use Rattle.do_network.specs.{Site.takes_frame, Step.input_of, fits.Notes.{Note, note_frame}}
use Rattle.do_agreement.specs.{InHand.{in_hand, taken_by}, NetInHand.{carried_as, ends, links_read}}
use Rattle.do_agreement.{specs.NetInHand.part_in_hand, proofs.classes.ClassesAfter.classes_stay_so}
use Rattle.do_agreement.proofs.hands.InHandCounts.{end_exports, gives_back}

-- ---- effects

-- an item and its frame have one effect, where they are judged alike: an end is judged by nothing
pub take_alike : (table : List Class) (A B : Surroundings) (n : Node) (from amount : ℕ)
    (item : Item) → (ends item ≡ false → A ≡ B) →
    take_effect (record { table = table; around = A; node = n }) from
    (item_of (frame_of amount item))
    ≡ take_effect (record { table = table; around = B; node = n }) from item
take_alike table A B n from amount item same = go item same
  where
    by : (x : Item) → A ≡ B →
        take_effect (record { table = table; around = A; node = n }) from x
        ≡ take_effect (record { table = table; around = B; node = n }) from x
    by x e = ap (λ a. take_effect (record { table = table; around = a; node = n }) from x) e

    go : (x : Item) → (ends x ≡ false → A ≡ B) →
        take_effect (record { table = table; around = A; node = n }) from
        (item_of (frame_of amount x))
        ≡ take_effect (record { table = table; around = B; node = n }) from x
    go (items.End serials) e =
        ap (λ os. showing (shows.Took (item_line from n.port (items.End serials))) n
        >>= (λ m. closing from (holding os m))) (sym (end_exports n.port serials))
    go x e = by x (e refl)

-- ---- what a take is judged by

module _ (S T : State) (same : (o : ObjectName) → class_of T o ≡ class_of S o) (p : Own)
    (some : (o : ObjectName) → is_known p.node o ≡ true → is_some (class_of S o) ≡ true)
    (classes : (o : ObjectName) → class_kept p o ≡ (around S p.node).class_of o) (from : ℕ)
    (x : Note)
    (judged : (peer serial : ℕ) → is_counted (in_hand from x p) peer serial
    ≡ has_entry T peer (object_at p.node.port serial)) where
  -- the node once the item gave back what it gives back
  abbrev back : Own
  back = released_by from (note_frame x) p

  -- what it knows is what the machine's node knows
  pub around_alike : counted_around back ≡ around T p.node
  around_alike =
      let given = gives_back from p x.amount x.item in
      let known = fun_ext (λ o.
      ap (λ c. map_of.get c (o.node, o.serial)) given.classes
      ∙ classes_stay_so S T (λ z c h. same z ∙ h) p some classes o) in
      let entries = fun_ext (λ peer. fun_ext (λ serial.
      ap (λ (n : Node). is_open n peer && nat_lt 0 (count_of back.counts peer serial)) given.same
      ∙ judged peer serial)) in
      λ i. record { class_of = known i; entry = entries i }

-- what the site takes is judged by, and its effect
pub site_effect : (table : List Class) (from : ℕ) (x : Note) (p : Own) →
    taken_by table from x p
    ≡ take_effect (record {
      table = table;
      around = counted_around (released_by from (note_frame x) p);
      node = p.node;
    }) from (item_of (note_frame x))
site_effect table from x p =
    ap (λ (n : Node). take_effect (record {
      table = table;
      around = counted_around (released_by from (note_frame x) p);
      node = n;
    }) from (item_of (note_frame x))) (gives_back from p x.amount x.item).same

-- ---- what an input does

module _ (table : List Class) (act : Acting) (p : Part) (from : ℕ)
    (can : can_take from p.own.node ≡ true)
  where
    -- what a site does with an item in hand
    abbrev pub hand_done : Note → Handled
    hand_done x =
        handled (part_in_hand from x p) dones.Moved
        (site_move (in_hand from x p.own) (taken_by table from x p.own))

    -- something under way, with another mark and item
    abbrev noted_as : Note → Bool → Item → Note
    noted_as x b item = record { item = item; amount = x.amount; lost = b }

    -- the mark of a loss
    pub mark_done : (front : List Pair) (x : Note) → x.lost ≡ true → x.item ≡ items.End [] →
        enabled_input table act p (input_of from (carried_as front x)) ≡ Some (hand_done x)
    mark_done front x lost is =
        ap (λ b. enabled_input table act p (input_of from
        (cond b Lost (Whole (raw front (note_frame x)))))) lost
        ∙ ap (λ b. cond (not b) None (Some (handled p dones.Moved
        (site_move p.own (take_effect (site_context table p.own) from (items.End [])))))) can
        ∙ ap (λ y. Some y)
        (sym (ap (λ b. hand_done (noted_as x b x.item)) lost
        ∙ ap (λ item. hand_done (noted_as x true item)) is))

    module _ (t : IsTable table) (front : List Pair) (x : Note) (new : x.lost ≡ false)
        (reads : read_frame table from p.own.node.port (names_read p from)
        (raw front (note_frame x)) ≡ Ok (note_frame x))
        (faultless : peer_fault p.own from (note_frame x) ≡ None) where
      -- the frame
      abbrev f : Frame
      f = note_frame x

      -- the node once the item gave back what it gives given
      abbrev given : Own
      given = released_by from f p.own

      -- what the site does over links, of a node of a port
      abbrev over : List Link → Node → Handled
      over links n =
          handled (record { own = p.own; links = links }) dones.Moved
          (site_move (record (got from (item_of f) given) { node = n })
          (taken_by table from x p.own))

      -- a frame is taken
      pub frame_done :
          enabled_input table act p (input_of from (carried_as front x)) ≡ Some (hand_done x)
      frame_done =
          let same = (gives_back from p.own x.amount x.item).same in
          ap (λ b. enabled_input table act p (input_of from (cond b
          Lost (Whole (raw front f))))) new
          ∙ ap (λ b. cond (not b) None (Some (takes table p from
          (read_frame table from p.own.node.port (names_read p from) (raw front f))))) can
          ∙ ap (λ r. Some (takes table p from r)) reads
          ∙ ap (λ fault. Some (takes_frame table
          (having_read from f p) from f fault)) faultless
          ∙ ap (λ y. Some y)
          (ap (λ b. over (cond b p.links (change_link from
          (λ l. cond b l (record l { read = after_frame l.read f })) p.links)) given.node) (sym new)
          ∙ ap (λ n. over (links_read from x p.links) n) same)
