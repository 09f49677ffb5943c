-- Every move keeps what every node keeps of foreign objects.
use Rattle.std.proofs.Common.{◌≡◌, ◌==◌, ◌⊎◌, ◌++◌, ◌<◌, ℕ, suc, Bool, true, false, cond, not, List}
use Rattle.std.proofs.Common.{[], ◌∷◌, filter, refl, ap, ◌∙◌, arith, inl, inr}
use Rattle.std.proofs.lemmas.Bool.Decides.{nat_tests}
use Rattle.do_base.specs.names.Names.{ObjectName}
use Rattle.do_packet.specs.Met.{has_object, same_object}
use Rattle.do_machine.specs.declared.node.{Lend.Lend, Stored.Stored, Wanted.Wanted}
use Rattle.do_machine.specs.{Lists.inserted, Objects.{joined, object_at, object_lt}}
use Rattle.do_machine.specs.lend.{Asking.{same_wanted, wanted, wanted_lt}, Lending.is_lend}
use Rattle.do_machine.proofs.{Bools.or_cases, Having.{has_all_joined, has_passing, passes_among}}
use Rattle.do_facts.specs.{StandOnce.StandOnce, links.Links.Links}
use Rattle.do_facts.specs.links.Moves.{Asks, Closes, Ends, GivesUp, Holds, Leaves, Lends, Misses}
use Rattle.do_facts.specs.links.Moves.{Move, Receives, Settles, Stores, Strikes, closed, is_there}
use Rattle.do_facts.specs.links.Moves.{may, moved, next_lend, opens, with_held, without_ask}
use Rattle.do_facts.{specs.links.Sound.IsSound, proofs.OnceInLists.{once_filtered, once_inserted}}
use Rattle.do_facts.proofs.links.SameIsEqual.{object_flips, object_is, wanted_flips}
use Rattle.do_facts.proofs.links.ListsChanged.{open_less}

-- an object more is held once
held_once : (os : List ObjectName) (o : ObjectName) → StandOnce same_object os →
    StandOnce same_object (joined os o)
held_once os o h = go (has_object os o) refl
  where
    go : (b : Bool) → has_object os o ≡ b →
        StandOnce same_object (cond b os (inserted object_lt o os))
    go true e = h
    go false e = once_inserted same_object object_flips object_lt o os e h

-- an object that is among those after one joined is that one, or was there
joined_cases : (os : List ObjectName) (x o : ObjectName) → has_object (joined os x) o ≡ true →
    (o ≡ x) ⊎ (has_object os o ≡ true)
joined_cases os x o h =
    elim (has_all_joined os (x ∷ []) o h) [
      | inl e ↦ elim (or_cases (same_object o x) false e) [
        | inl s ↦ inl (object_is o x s)
        | inr s ↦ absurd (cc)
      ]
      | inr e ↦ inr e
    ]

module _ (p : Links) (sound : IsSound p) where
  -- other lends under another token
  sound_lent : (lent : List Lend) (token : ℕ) →
      IsSound (record p { lent = lent; token = token })
  sound_lent lent token = grind arith

  -- an ask less
  sound_less : (w : Wanted) → IsSound (without_ask w p)
  sound_less w = record {
    held = sound.held;
    reached = sound.reached;
    asked = once_filtered same_wanted (λ v. not (same_wanted w v)) p.asked sound.asked;
    given = sound.given;
  }

  -- other objects stored below another serial
  sound_stored : (heap : List Stored) (serial : ℕ) →
      ((s : ℕ) → is_there heap s ≡ true → s < serial) →
      IsSound (record p { heap = heap; serial = serial })
  sound_stored heap serial given = grind arith

  -- an object of an open end is held
  sound_held : (from serial : ℕ) → opens p from ≡ true →
      IsSound (with_held (object_at from serial) p)
  sound_held from serial ends = record {
    held = held_once p.held (object_at from serial) sound.held;
    reached = λ o h. elim (joined_cases p.held (object_at from serial) o h) [
      | inl e ↦ ap (λ x. opens p x.node) e ∙ ends
      | inr e ↦ sound.reached o e
    ];
    asked = sound.asked;
    given = sound.given;
  }

  -- an end is closed
  sound_closed : (peer : ℕ) → IsSound (closed peer p)
  sound_closed peer =
      let away : ObjectName → Bool = λ o. not (o.node == peer) in
      record {
        held = once_filtered same_object away p.held sound.held;
        reached = λ o h.
            let was = sound.reached o (has_passing away p.held o h) in
            let other = passes_among away p.held o h in
            grind (arith, nat_tests, was, other, open_less o.node peer p.open_to);
        asked = sound.asked;
        given = sound.given;
      }

-- any move
pub sound_moved : (p : Links) → IsSound p → (v : Move) → may p v → IsSound (moved p v)
sound_moved p sound (Lends to o) h =
    sound_lent p sound (p.lent ++ next_lend p to o ∷ []) (suc p.token)
sound_moved p sound (Leaves o) h = record {
  held = once_filtered same_object (λ x. not (same_object o x)) p.held sound.held;
  reached = λ x k. sound.reached x (has_passing (λ y. not (same_object o y)) p.held x k);
  asked = sound.asked;
  given = sound.given;
}
sound_moved p sound (Closes peer) h = sound_closed p sound peer
sound_moved p sound (GivesUp w told) h = sound_less p sound w
sound_moved p sound (Holds from serial) h = sound_held p sound from serial h
sound_moved p sound (Asks from o token) h = record {
  held = sound.held;
  reached = sound.reached;
  asked = once_inserted same_wanted wanted_flips wanted_lt (wanted o from token) p.asked h.2
      sound.asked;
  given = sound.given;
}
sound_moved p sound (Receives from serial token told) h =
    let o = object_at from serial in
    sound_less (with_held o p) (sound_held p sound from serial h.0)
    (wanted o token.lender token.number)
sound_moved p sound (Misses from serial token told) h =
    sound_less p sound (wanted (object_at from serial) token.lender token.number)
sound_moved p sound (Settles from number) h =
    sound_lent p sound (filter (λ l. not (is_lend from number l)) p.lent) p.token
sound_moved p sound (Ends from serials) h = sound_closed p sound from
sound_moved p sound (Stores heap serial) h = sound_stored p sound heap serial h.given
sound_moved p sound (Strikes heap) h =
    sound_stored p sound heap p.serial (λ s e. sound.given s (h s e))
sound_moved p sound _ h = sound
