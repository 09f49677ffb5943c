-- An effect that changes nothing of what its node holds and releases nothing accounts for all.
use Rattle.do_machine.specs.declared.item.Item.TheVariants as items
use Rattle.do_facts.specs.links.Links as Atoms
use Rattle.std.proofs.Common.{◌≡◌, ◌==◌, ◌+◌, ℕ, Bool, true, false, List, [], ◌∷◌, refl, sym, ap}
use Rattle.std.{proofs.Common.{◌∙◌, cond, arith}, specs.List.list_any}
use Rattle.do_packet.specs.Met.{has_object}
use Rattle.do_machine.specs.declared.{item.Item.Item, node.Node.Node, state.Effect.Effect}
use Rattle.do_machine.specs.{declared.state.Parcel.Parcel, Objects.object_at}
use Rattle.do_facts.proofs.machine.{follows.Steady.is_release, passing.Quiet.{NoneReleases, Quiet}}
use Rattle.do_facts.specs.{Net.{atoms_of, total}, View.posted, links.Facts.told_of}
use Rattle.do_facts.specs.links.{Links.{Atom, atoms, links, links_of}, Moves.opens}
use Rattle.do_agreement.{specs.Accounted.{Accounted, worth_of}, proofs.counts.MovesAccount.apart}
use Rattle.do_agreement.proofs.pairs.NotesAsAtoms.{CountsNoName, own_alone, own_atoms, posted_total}

-- an atom that may release objects
abbrev releases : Atom → Bool
releases (Atoms.Left serial) = true
releases (Atoms.End serials) = true
releases _ = false

module _ (g : Atom → ℕ) (none : (x : Atom) → releases x ≡ false → g x ≡ 0) where
  -- names release nothing
  named : CountsNoName g
  named = record {
    mine = λ s. none (Atoms.Mine s) refl;
    yours = λ s. none (Atoms.Yours s) refl;
    lent = λ o t. none (Atoms.Lent o t) refl;
  }

  -- an atom alone
  alone : (x : Atom) → releases x ≡ false → total g (x ∷ []) ≡ 0
  alone x e = omega (arith, none x e)

  -- an item that is no release counts for nothing
  item_none : (item : Item) → is_release item ≡ false → total g (atoms item) ≡ 0
  item_none item e = sym (own_alone g named item) ∙ go item e
    where
      go : (item : Item) → is_release item ≡ false → total g (own_atoms item) ≡ 0
      go (items.Ask s t) e = alone (Atoms.Ask s t) refl
      go (items.Granted s t) e = alone (Atoms.Granted s t) refl
      go (items.Gone s t) e = alone (Atoms.Gone s t) refl
      go (items.Left s) e = absurd (cc)
      go (items.Settled k) e = alone (Atoms.Settled k) refl
      go (items.End serials) e = absurd (cc)
      go _ e = refl

  -- parcels of which none releases anything count for nothing
  none_sent : (home : ℕ) (sent : List Parcel) → NoneReleases sent →
      total g (atoms_of home (posted links sent)) ≡ 0
  none_sent home [] quiet = refl
  none_sent home (x ∷ xs) quiet =
      posted_total g home x xs ∙ go (x.to == home) ∙ none_sent home xs quiet.1
    where
      rest : ℕ
      rest = total g (atoms_of home (posted links xs))

      go : (b : Bool) → cond b (total g (atoms x.item)) 0 + rest ≡ rest
      go true = omega (arith, item_none x.item quiet.0)
      go false = omega arith

module _ (h s c : ℕ) where
  -- what is no release gives nothing back
  gives_none : (x : Atom) → releases x ≡ false → worth_of h s c x ≡ 0
  gives_none x e = grind (arith, e)

  -- and tells nothing
  tells_none : (x : Atom) → releases x ≡ false → told_of s x ≡ 0
  tells_none x e = grind (arith, e)

  -- an effect that keeps what is held and releases nothing
  pub quiet_accounts : (n : Node) (e : Effect) → Quiet n e →
      Accounted h s c (links_of n) (links_of e.node) (posted links e.sent)
  quiet_accounts n e quiet =
      let none = none_sent (worth_of h s c) gives_none h e.sent quiet.sent in
      let untold = none_sent (told_of s) tells_none h e.sent quiet.sent in
      let ends : opens (links_of e.node) h ≡ opens (links_of n) h =
      ap (λ xs. list_any (λ x. x == h) xs) quiet.ends in
      let held = ap (λ xs. cond (has_object xs (object_at h s)) c 0) quiet.held in
      record {
        still = λ o. omega (arith, held, none);
        quiet = λ o. untold;
        untold = λ o k t. absurd (apart o (sym ends ∙ k));
        ended = λ o k t. absurd (apart o (sym ends ∙ k));
        shut = λ o. (ends ∙ o, none, untold);
      }
