-- What a site counts tells the entries of a state that its network shows.
use Rattle.std.proofs.Common.{◌≡◌, ◌==◌, ℕ, Bool, true, false, List, map, refl, sym, ap, ◌∙◌}
use Rattle.std.specs.Prelude.{None, Option, Some, is_some, nat_lt, option_map, ◌&&◌}
use Rattle.std.proofs.lemmas.Bool.{eqb-true}
use Rattle.do_class.specs.Class.{Class}
use Rattle.do_coder.specs.Packets.{surroundings}
use Rattle.do_export.specs.Counts.{count_of}
use Rattle.do_machine.specs.{declared.{node.Node.Node, state.State.State}, Entry.has_entry}
use Rattle.do_machine.specs.{Lists.some_passes, Objects.object_at, State.{is_open, node, queue}}
use Rattle.do_network.specs.{Links.Part, Net.{Net, part_at}, Own.is_counted, fits.Notes.Note}
use Rattle.do_agreement.specs.{CountsFit.CountsFit, Shows.ShowsBut}
use Rattle.do_agreement.proofs.{counts.MovesAccount.apart, sites.EntriesCounted.counts_tell}
use Rattle.do_agreement.proofs.{sites.EntriesCounted.entry_of, places.Numbers.flipped}

module _ (table : List Class) (port : ℕ) (n : Node) (N : Net) (under_way : ℕ → ℕ → List Note)
    (T : State) (closes : ℕ → ℕ → Bool) (fit : CountsFit table N under_way closes)
    (shows : ShowsBut port n N under_way T) (p : Part) (there : part_at N port ≡ Some p)
    (ends : (peer : ℕ) → is_open n peer ≡ is_open p.own.node peer)
    (opened : (peer : ℕ) → closes port peer ≡ false) where
  -- a node whose end towards a port is open is not of this port
  not_itself : (peer : ℕ) → is_open p.own.node peer ≡ true → (port == peer) ≡ false
  not_itself peer o = go (port == peer) refl
    where
      go : (b : Bool) → (port == peer) ≡ b → b ≡ false
      go false e = refl
      go true e =
          absurd (apart (ap (λ k. is_open p.own.node k) (eqb-true port peer e) ∙ o)
          (fit.owns port p there).apart)

  -- a queue between two sites
  queue_is : (a m : ℕ) (y z : Part) → part_at N a ≡ Some y → part_at N m ≡ Some z →
      (a == m) ≡ false → queue T a m ≡ Some (map (λ x. x.item) (under_way a m))
  queue_is a m y z h k ne =
      sym (shows.queues a m)
      ∙ ap (option_map (λ c. map (λ (x : Note). x.item) (under_way a m)))
      (fit.channels a m y z h k ne).stands

  module _ (peer serial : ℕ) (q : Part) (k : part_at N peer ≡ Some q)
      (o : is_open p.own.node peer ≡ true) where
    -- over an open end to another site, a count tells the entry
    tells_open : is_counted p.own peer serial ≡ has_entry T peer (object_at port serial)
    tells_open =
        let ne = not_itself peer o in
        let is_q = (fit.owns peer q k).port_is in
        let is_p = (fit.owns port p there).port_is in
        let way = fit.channels peer port q p k there (flipped port peer ne) in
        let object = object_at port serial in
        let pair = fit.counted port peer p q there k ne (opened peer) in
        ap (λ m. is_counted p.own m serial) (sym is_q)
        ∙ counts_tell p.own q.own (under_way port peer) (under_way peer port) pair
        (λ b s. fit.silent peer port q k (ap (λ m. is_open q.own.node m) (sym is_p) ∙ b) s)
        (λ s. (fit.owns peer q k).received (object_at p.own.node.port s))
        (surroundings table peer port) way.carries.spelled serial true
        (ap (λ m. is_open p.own.node m) is_q ∙ o)
        ∙ ap (λ m. entry_of m (object_at p.own.node.port serial) true (Some q.own.node)
        (Some (map (λ x. x.item) (under_way port peer)))
        (Some (map (λ x. x.item) (under_way peer port)))) is_q
        ∙ ap (λ m. entry_of peer (object_at m serial) true (Some q.own.node)
        (Some (map (λ x. x.item) (under_way port peer)))
        (Some (map (λ x. x.item) (under_way peer port)))) is_p
        ∙ sym (ap (λ f. entry_of peer object (some_passes (λ m. is_open m peer) f) (node T peer)
        (queue T port peer) (queue T peer port)) shows.here
        ∙ ap (λ b. entry_of peer object b (node T peer) (queue T port peer) (queue T peer port))
        (ends peer ∙ o)
        ∙ ap (λ f. entry_of peer object true f (queue T port peer) (queue T peer port))
        (sym (shows.nodes peer ne) ∙ ap (option_map (λ (r : Part). r.own.node)) k)
        ∙ ap (λ w. entry_of peer object true (Some q.own.node) w (queue T peer port))
        (queue_is port peer p q there k ne)
        ∙ ap (λ w. entry_of peer object true (Some q.own.node)
        (Some (map (λ x. x.item) (under_way port peer))) w)
        (queue_is peer port q p k there (flipped port peer ne)))

  -- what is counted tells each entry
  pub counts_judge : (peer serial : ℕ) →
      is_counted p.own peer serial ≡ has_entry T peer (object_at port serial)
  counts_judge peer serial = go (is_open p.own.node peer) refl
    where
      reach : is_open p.own.node peer ≡ true → (found : Option Part) → part_at N peer ≡ found →
          is_some found ≡ true →
          is_counted p.own peer serial ≡ has_entry T peer (object_at port serial)
      reach o None k some = absurd (cc)
      reach o (Some q) k some = tells_open peer serial q k o

      go : (b : Bool) → is_open p.own.node peer ≡ b →
          is_counted p.own peer serial ≡ has_entry T peer (object_at port serial)
      go true o = reach o (part_at N peer) refl (fit.peers port peer p there o)
      go false shut =
          ap (λ b. b && nat_lt 0 (count_of p.own.counts peer serial)) shut
          ∙ sym (ap (λ f. entry_of peer (object_at port serial)
          (some_passes (λ m. is_open m peer) f) (node T peer) (queue T port peer)
          (queue T peer port)) shows.here
          ∙ ap (λ b. entry_of peer (object_at port serial) b (node T peer) (queue T port peer)
          (queue T peer port)) (ends peer ∙ shut))
