-- What a site gives back by what it sends, and what it still counts as received.
use Rattle.std.specs.FinMap as map_of
use Rattle.do_machine.specs.declared.item.Item.TheVariants as items
use Rattle.do_facts.specs.Net as nets
use Rattle.std.proofs.Common.{◌≡◌, ◌==◌, ◌+◌, ℕ, Bool, true, false, cond, List, refl, sym, ap, ◌∙◌}
use Rattle.std.{proofs.Common.arith, specs.{Prelude.{None, unwrap_or}, FinMap.get-retain_keys}}
use Rattle.std.proofs.lemmas.Bool.{eqb-true}
use Rattle.do_export.{specs.Counts.{Counts, count_of}, proofs.Order.entry_same}
use Rattle.do_import.specs.ByObject.{object_of}
use Rattle.do_machine.specs.declared.{item.Item.Item, node.Node.Node, state.Parcel.Parcel}
use Rattle.do_machine.specs.{Objects.object_at, State.holds}
use Rattle.do_network.specs.{Counting.of_held, Frames.amount_of}
use Rattle.do_network.specs.fits.Notes.{given_up, returns_of, tells_of, total}
use Rattle.do_facts.specs.{View.posted, links.{Facts.told_of, Links.{atoms, links}}}
use Rattle.do_agreement.specs.{Accounted.{given, told, worth_of}, NotesSent.{note_sent, notes_to}}
use Rattle.do_agreement.proofs.pairs.LinksOfNotes.{tells_alike}
use Rattle.do_agreement.proofs.pairs.NotesAsAtoms.{own_alone, own_atoms, sent_total}

module _ (received : Counts) (h s : ℕ) where
  -- how often the object was received
  abbrev often : ℕ
  often = count_of received h s

  -- a count at a serial that is another's
  count_alike : (r : ℕ) →
      cond (r == s) (count_of received h r) 0 ≡ cond (r == s) often 0 + 0
  count_alike r = go (r == s) refl
    where
      go : (b : Bool) → (r == s) ≡ b → cond b (count_of received h r) 0 ≡ cond b often 0 + 0
      go true e =
          let same = ap (λ x. count_of received h x) (eqb-true r s e) in
          omega (arith, same)
      go false e = refl

  -- what an item to a home gives back
  returned_alike : (item : Item) → given_up s item (amount_of received h item)
      ≡ nets.total (worth_of h s often) (atoms item)
  returned_alike item =
      go item
      ∙ own_alone (worth_of h s often)
      (record { mine = λ r. refl; yours = λ r. refl; lent = λ o t. refl }) item
    where
      go : (item : Item) → given_up s item (amount_of received h item)
          ≡ nets.total (worth_of h s often) (own_atoms item)
      go (items.Left r) = count_alike r
      go _ = refl

  -- what is sent gives back what its atoms give back
  pub returned : (sent : List Parcel) →
      total (returns_of s) (notes_to received h sent) ≡ given h s often (posted links sent)
  returned sent =
      sent_total (returns_of s) (worth_of h s often) received h
      (λ x to. ap (λ z. given_up s x.item (amount_of received z x.item)) to
      ∙ returned_alike x.item)
      sent

  -- what is sent tells what its atoms tell
  pub told_sent : (c : ℕ) (sent : List Parcel) →
      total (tells_of s) (notes_to received h sent) ≡ told h s c (posted links sent)
  told_sent c sent =
      sent_total (tells_of s) (told_of s) received h
      (λ x to. tells_alike s (note_sent received x)) sent

-- what is received is kept of what is held
pub held_count : (n : Node) (received : Counts) (h s : ℕ) →
    count_of (of_held n received) h s
    ≡ cond (holds n (object_at h s)) (count_of received h s) 0
held_count n received h s =
    ap (λ o. unwrap_or o 0) (get-retain_keys received (λ k. holds n (object_of k)) (h, s)
    (λ x t. ap (λ k. holds n (object_of k)) (sym (entry_same (h, s) x t))))
    ∙ go (holds n (object_at h s))
  where
    go : (b : Bool) → unwrap_or (cond b (map_of.get received (h, s)) None) 0
        ≡ cond b (count_of received h s) 0
    go true = refl
    go false = refl
