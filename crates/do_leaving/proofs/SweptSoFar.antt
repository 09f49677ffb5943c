-- What a sweep has taken out so far, from nothing to all that goes.
use Rattle.std.proofs.Common.{◌≡◌, ℕ, List as Listed, [], ◌∷◌, ◌++◌, Some, map, refl, sym, ap, ◌∙◌}
use Rattle.std.proofs.{Common.{subst, append-nil, append_assoc}, lemmas.List.map-append}
use Rattle.std.proofs.lemmas.List.Concat.{flat_map-append}
use Rattle.do_machine.specs.declared.node.Stored.{Stored as Object}
use Rattle.do_machine.specs.held.Refers.{heap_objects, objects_in}
use Rattle.do_leaving.specs.Counted.{heap_of, plain, serial_of}
use Rattle.do_export.specs.Counts.{Counts}
use Rattle.do_import.specs.Imported.{Imported, all_off}
use Rattle.do_store.specs.{Kept.NoneIdle, Names.{Stored, Objects, find_stored, named_in, replaced}}
use Rattle.do_leaving.specs.Sweeping.{Sweeps, TakenOut, foreign, foreign_names}
use Rattle.do_leaving.proofs.{TakenInTurn.taken_more, UsesOff.{all_off-append, foreign-append}}

-- what a sweep has taken out so far, and what of the counts is left
pub record SweptSoFar (old now : Objects) (before : Imported) (uses : Counts)
    (start so_far : Listed ℕ) : Type 0 where
  pub gone : Listed Stored
  pub taken : TakenOut old.node old.objects gone now.objects
  pub serials : so_far ≡ start ++ map serial_of gone
  pub off : uses ≡ all_off before.uses (foreign_names old.node gone)
  pub node : now.node ≡ old.node
  pub next : now.next ≡ old.next
  pub spare : now.spare ≡ old.spare

-- nothing is taken out yet
pub swept_none : (old : Objects) (before : Imported) (start : Listed ℕ)
    → SweptSoFar old old before before.uses start start
swept_none old before start = record {
  gone = [];
  taken = TakenOut.none old.objects;
  serials = sym (append-nil start);
  off = refl;
  node = refl;
  next = refl;
  spare = refl;
}

-- what the objects name that are gone, and one more
gone_more : (node : ℕ) (gone : Listed Stored) (o : Stored)
    → foreign_names node (gone ++ o ∷ [])
    ≡ foreign_names node gone ++ foreign node (objects_in o.slots)
gone_more node gone o =
    ap (λ h. foreign node (heap_objects h)) (map-append plain gone (o ∷ []))
    ∙ ap (foreign node) (flat_map-append (λ (x : Object). objects_in x.slots) (heap_of gone)
    (plain o ∷ []) ∙ ap (λ l. heap_objects (heap_of gone) ++ l) (append-nil (objects_in o.slots)))
    ∙ foreign-append node (heap_objects (heap_of gone)) (objects_in o.slots)

-- one more is taken out
pub swept_more : (old now new : Objects) (before : Imported) (uses uses' : Counts)
    (start so_far : Listed ℕ) (o : Stored) → SweptSoFar old now before uses start so_far
    → find_stored now.objects o.serial ≡ Some o → o.held ≡ 0
    → named_in now.node o.serial now.objects ≡ 0
    → new.objects ≡ replaced o.serial (λ s. []) now.objects → new.node ≡ now.node
    → new.next ≡ now.next → new.spare ≡ now.spare
    → uses' ≡ all_off uses (foreign now.node (objects_in o.slots))
    → SweptSoFar old new before uses' start (so_far ++ o.serial ∷ [])
swept_more old now new before uses uses' start so_far o so found held unnamed objects node next
    spare off =
    let P : Listed Stored → Type 0 = λ l. TakenOut old.node old.objects (so.gone ++ o ∷ []) l in
    record {
      gone = so.gone ++ o ∷ [];
      taken = subst P (sym objects) (taken_more old.node old.objects so.gone now.objects o so.taken
          found held (ap (λ m. named_in m o.serial now.objects) (sym so.node) ∙ unnamed));
      serials = ap (λ l. l ++ o.serial ∷ []) so.serials
          ∙ append_assoc start (map serial_of so.gone) (o.serial ∷ [])
          ∙ ap (λ l. start ++ l) (sym (map-append serial_of so.gone (o ∷ [])));
      off = off
          ∙ (λ i. all_off (so.off i) (foreign (so.node i) (objects_in o.slots)))
          ∙ sym (ap (all_off before.uses) (gone_more old.node so.gone o)
          ∙ all_off-append before.uses (foreign_names old.node so.gone)
          (foreign old.node (objects_in o.slots)));
      node = node ∙ so.node;
      next = next ∙ so.next;
      spare = spare ∙ so.spare;
    }

-- nothing more can be taken out
pub swept_all : (old now new : Objects) (before after : Imported) (freed : Listed ℕ)
    → SweptSoFar old now before after.uses [] freed
    → after ≡ record before { uses = after.uses; spare = after.spare }
    → new.objects ≡ now.objects → NoneIdle now.node now.objects
    → Sweeps old new before after freed
swept_all old now new before after freed so same objects idle =
    let P : ℕ → Type 0 = λ m. NoneIdle m now.objects in
    let Q : Listed Stored → Type 0 = λ l. NoneIdle old.node l in
    let R : Listed Stored → Type 0 = λ l. TakenOut old.node old.objects so.gone l in
    record {
      gone = so.gone;
      taken = subst R (sym objects) so.taken;
      none_idle = subst Q (sym objects) (subst P so.node idle);
      serials = so.serials;
      uses = same ∙ (λ i. record before { uses = so.off i; spare = after.spare });
    }
