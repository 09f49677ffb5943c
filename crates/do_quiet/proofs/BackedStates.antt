-- Every step keeps what is lent or asked for backed, while no end closes.
use Rattle.std.proofs.Common.{◌≡◌, ◌==◌, ℕ, Bool, true, false, cond, List, [], inr, refl, sym, ap}
use Rattle.std.{proofs.Common.{◌∙◌, subst, arith}, specs.Prelude.Some, proofs.lemmas.Bool.eqb-true}
use Rattle.std.proofs.lemmas.Bool.Decides.{nat_tests}
use Rattle.do_packet.specs.Met.{has_object}
use Rattle.do_machine.specs.{Context.around, Objects.object_at, State.node, declared.node.Node.Node}
use Rattle.do_machine.specs.{declared.{node.Stored.Stored, state.State.State}, held.Kept.kept}
use Rattle.do_machine.specs.lend.Asking.{wanted}
use Rattle.do_facts.specs.Moves.{Happening, Happens, Keeps, Lost, Moved, net_then}
use Rattle.do_facts.specs.{Net.{Net, StandFirst, net_after}, View.{net_of, part_seen}}
use Rattle.do_facts.specs.links.{Links.{Atom, Links, links, links_of}, Moves.{Move, Strikes}}
use Rattle.do_facts.specs.links.Moves.{has_wanted, is_in_use, is_there, opens, stores}
use Rattle.do_facts.proofs.{Notes.total-append, links.{Acts.act_rules, EntriesKept.entries_keep}}
use Rattle.do_facts.proofs.links.{EntriesStored.frees_entries, HeapsGrow.kept_before}
use Rattle.do_facts.proofs.links.{ReachedLinks.{AllSound, sound_keeps}, StepsByActs.freed}
use Rattle.do_quiet.proofs.{BackedMoves.backed_moved, Backing.{AllReach, EachBacked, NoGone}}
use Rattle.do_quiet.proofs.Backing.{StandsBacked, asked_lent, backed_kept}
use Rattle.do_quiet.proofs.EndsWithin.{IsWithin, within_keeps}

module _ (ends_of : ℕ → ℕ → Bool) where
  -- a loss refuses nothing
  lost_backed : (net : Net Links Atom) (from to : ℕ) (first rest : List Atom) →
      Happens act_rules net (Lost from to first rest) → StandsBacked ends_of net →
      let after = net_then act_rules net (Lost from to first rest) in
      AllReach ends_of after → NoGone after × EachBacked after
  lost_backed net from to first rest m f reached_still =
      let after = net_then act_rules net (Lost from to first rest) in
      let r = f.backed reached_still in (
        λ a b. grind (arith, nat_tests, total-append, r.0 a b, m.0),
        λ n h s u.
            backed_kept net after h s (λ y v e. e) (λ y l t e. inr e)
            (λ y l t e. asked_lent ends_of net f reached_still y h s l t e) n u (r.1 n h s u),
      )

  -- whatever happens while nothing is freed
  pub backed_keeps : Keeps act_rules (StandsBacked ends_of)
  backed_keeps = record { by = by_happening }
    where
      by_happening : (net : Net Links Atom) (h : Happening Atom Move) → StandsBacked ends_of net →
          Happens act_rules net h → StandsBacked ends_of (net_then act_rules net h)
      by_happening net (Moved port v) f m = record {
        entries = entries_keep.by net (Moved port v) f.entries m;
        sound = sound_keeps.by net (Moved port v) f.sound (m.0.0, m.1);
        within = (within_keeps ends_of).by net (Moved port v) f.within (m.0.0, m.1);
        backed = backed_moved ends_of net port f v m.0.0 m.0.1 m.1;
      }
      by_happening net (Lost from to first rest) f m = record {
        entries = entries_keep.by net (Lost from to first rest) f.entries m;
        sound = f.sound;
        within = f.within;
        backed = lost_backed net from to first rest m f;
      }

  module _ (net : Net Links Atom) (port : ℕ) (heap : List Stored) (f : StandsBacked ends_of net)
    where
      -- the net once other objects are stored
      abbrev after : Net Links Atom
      after = net_after port (record (net.part port) { heap = heap }) [] [] net

      -- what is read of parts beside what is stored is as it was
      as_was : {X : Type 0} → (read : Links → X) →
          read (record (net.part port) { heap = heap }) ≡ read (net.part port) → (y : ℕ) →
          read (after.part y) ≡ read (net.part y)
      as_was {X} read same y = go (y == port) refl
        where
          go : (b : Bool) → (y == port) ≡ b →
              read (cond b (record (net.part port) { heap = heap }) (net.part y))
              ≡ read (net.part y)
          go true e =
              same ∙ ap (λ z. read (net.part z))
              (sym (eqb-true y port e))
          go false e = refl

      -- so all is backed still
      stored_backed : AllReach ends_of after → NoGone after × EachBacked after
      stored_backed then =
          let reach_now : AllReach ends_of net = λ a b e. (
            sym (as_was (λ r. opens r b) refl a) ∙ (then a b e).0,
            sym (as_was (λ r. opens r a) refl b) ∙ (then a b e).1,
          ) in
          let r = f.backed reach_now in (
            λ a b. grind (arith, nat_tests, total-append, r.0 a b),
            λ n h s u.
                backed_kept net after h s
                (λ y v e. as_was (λ q. has_object q.held (object_at h s)) refl y ∙ e)
                (λ y l t e.
                inr (as_was (λ q. has_wanted q (wanted (object_at h s) l t)) refl y ∙ e))
                (λ y l t e. asked_lent ends_of net f reach_now y h s l t e) n (used n h s u)
                (r.1 n h s (used n h s u)),
          )
        where
          used : (n h s : ℕ) →
              is_in_use (after.part n) (object_at h s) ≡ true →
              is_in_use (net.part n) (object_at h s) ≡ true
          used n h s u =
              sym (as_was (λ q. is_in_use q (object_at h s)) refl
              n) ∙ u

  -- and so once a node freed what it does not keep
  pub frees_backed : (V : State) (port : ℕ) (n : Node) → node V port ≡ Some n → n.port ≡ port →
      StandsBacked ends_of (net_of links V) → StandsBacked ends_of (freed V port n)
  frees_backed V port n here home f =
      let net = net_of links V in
      let heap = kept (around V n).entry n in
      let is : net.part port ≡ links_of n = ap (part_seen links) here in
      let may_free : (s : ℕ) → is_there heap s ≡ true → stores (net.part port) s ≡ true =
      λ s h. ap (λ p. stores p s) is ∙ kept_before (around V n).entry n s h in
      let first : StandFirst port [] net = λ x h. (net.wire x port, refl) in
      record {
        entries = frees_entries V port n here home f.entries;
        sound = subst (λ (p : Links).
            AllSound (net_after port (record p { heap = heap }) [] [] net)) is
            (sound_keeps.by net (Moved port (Strikes heap)) f.sound (may_free, first));
        within = subst (λ (p : Links). (y : ℕ) → IsWithin (ends_of y)
            ((net_after port (record p { heap = heap }) [] [] net).part y)) is
            ((within_keeps ends_of).by net (Moved port (Strikes heap)) f.within (may_free, first));
        backed = subst (λ (p : Links).
            AllReach ends_of (net_after port (record p { heap = heap }) [] [] net) →
            NoGone (net_after port (record p { heap = heap }) [] [] net)
            × EachBacked (net_after port (record p { heap = heap }) [] [] net)) is
            (stored_backed net port heap f);
      }
