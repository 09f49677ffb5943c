-- One place more of a lane that is read.
use Rattle.std.proofs.Common.{◌≡◌, ◌∙◌, ◌++◌, ◌+◌, ℕ, zero, suc, true, false, List, [], ◌∷◌, drop}
use Rattle.std.proofs.Common.{Result, Ok, Err, Some, refl, sym, ap, append_assoc, arith}
use Rattle.std.specs.{Prelude.{is_err, slice_get}, List.flat_map}
use Rattle.do_base.specs.names.Names.{ObjectName}
use Rattle.do_class.specs.Class.{Class}
use Rattle.do_coder.specs.declared.recent.pair.Pair.{Pair}
use Rattle.do_frames.specs.{declared.frame.{Frame.Frame, RawFrame.RawFrame}, Frames.after_frame}
use Rattle.do_lost.specs.Named.{item_names}
use Rattle.do_network.specs.{Frames.{item_of, read_frame}, Net.{Carried, Whole}}
use Rattle.do_net_named.specs.Waiting.{items_in, lane_names}
use Rattle.do_net_lost.specs.Read.{left_names}

-- a list from a place on begins with what stands there
pub drop_at : {X : Type 0} (xs : List X) (i : ℕ) (x : X) → slice_get xs i ≡ Some x →
    drop i xs ≡ x ∷ drop (i + 1) xs
drop_at [] i x e = absurd (cc)
drop_at (y ∷ ys) zero x e = let same : y ≡ x = cc in ap (λ v. v ∷ ys) same
drop_at (y ∷ ys) (suc i) x e =
    let later : suc (i + 1) ≡ suc i + 1 = omega arith in
    drop_at ys i x e ∙ ap (λ k. x ∷ drop k (y ∷ ys)) later

module _ (table : List Class) (from to : ℕ) (names after : List Pair) (f : RawFrame)
    (before : List ObjectName) (behind : List Carried) where
  -- a frame that is read names what its item names, and the rest is read by the names behind it
  pub read_turn : (g : Frame) (added : List ObjectName) →
      read_frame table from to names f ≡ Ok g → after ≡ after_frame names g →
      added ≡ before ++ item_names from to false (item_of g) →
      before ++ lane_names table from to names (Whole f ∷ behind)
      ≡ added ++ left_names table from to after behind true
  read_turn g added read since more =
      let own : List ObjectName = item_names from to false (item_of g) in
      ap (λ (r : Result Frame ℕ). before ++ flat_map (item_names from to false) (elim r [
        | Ok h ↦ item_of h ∷ items_in table from to (after_frame names h) behind
        | Err place ↦ []
      ])) read
      ∙ ap (λ ns. before ++ (own ++ lane_names table from to ns behind)) (sym since)
      ∙ sym (append_assoc before own (lane_names table from to after behind))
      ∙ ap (λ os. os ++ lane_names table from to after behind) (sym more)

  -- one that cannot be read ends it
  pub unread_turn : is_err (read_frame table from to names f) ≡ true →
      before ++ lane_names table from to names (Whole f ∷ behind)
      ≡ before ++ left_names table from to after behind false
  unread_turn bad = ap (λ os. before ++ os) (go (read_frame table from to names f) bad)
    where
      go : (r : Result Frame ℕ) → is_err r ≡ true →
          flat_map (item_names from to false) (elim r [
            | Ok h ↦ item_of h ∷ items_in table from to (after_frame names h) behind
            | Err place ↦ []
          ]) ≡ []
      go (Ok h) k = absurd (cc)
      go (Err place) k = refl

pub ruleset lane_turns = (unread_turn)
