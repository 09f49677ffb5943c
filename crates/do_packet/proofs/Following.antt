-- What the walk over the copies keeps, and what it ends with.
use Rattle.std.proofs.Common.{◌≡◌, ℕ, zero, suc, ◌+◌, ◌≤◌, ◌<◌, nat_lt, Bool, true, false, List, []}
use Rattle.std.proofs.Common.{◌∷◌, ◌++◌, map, length, take, sum_by, Ok, Err, refl, sym, ap, ◌∙◌}
use Rattle.std.proofs.Common.{subst, arith, get_or, add-one, add-zero, min}
use Rattle.std.{specs.List.{flat_map, zip}, proofs.lemmas.{Grind.common_steps, List.Folds.fold-map}}
use Rattle.std.proofs.lemmas.Slice.Zip.{length-zip, seconds-zip}
use Rattle.do_base.specs.{names.Names.ObjectName, values.Values.weight_of}
use Rattle.do_base.specs.declared.values.value.Value.{Value}
use Rattle.do_class.specs.declared.{ids.ClassId.ClassId, packet.{Part.Part, Copied.Copied}}
use Rattle.do_class.specs.declared.packet.{Packet.Packet, Name.Name}
use Rattle.do_packet.specs.Copies.{Placed, copied_at, copies_of, most_copies, named_at, names_with}
use Rattle.do_packet.specs.{Copies.{slot_values, slots_at}, Met.met}
use Rattle.do_packet.specs.Packing.{capped, class_at, copied_of, message_weight, most_weight}
use Rattle.do_packet.specs.Packing.{names_to, packed, packed_with, packet_with, part_at}
use Rattle.do_packet.specs.{Seen.Sender, walk.{Following.Followed, Walking.{IsPrefix, Walked}}}
use Rattle.do_packet.specs.declared.{packing.walk.Walk.Walk, fault.PackFault.TheVariants.TooLarge}
use Rattle.do_packet.proofs.Prefixes.{front_of, prefix_met, prefix_refl, prefix_trans}
use Rattle.do_packet.proofs.Reaching.{reached_all, reached_many, reached_next, reached_start}

-- the next pair of two lists
zip_suc : {A B : Type 0} (ks : List A) (vs : List B) (i : ℕ) (k : A) (v : B) → i < length ks →
    i < length vs → k ≡ get_or ks i k → v ≡ get_or vs i v →
    take (suc i) (zip ks vs) ≡ take i (zip ks vs) ++ (k, v) ∷ []
zip_suc [] vs i k v h l e f = absurd (omega arith)
zip_suc (x ∷ ks) [] i k v h l e f = absurd (omega arith)
zip_suc (x ∷ ks) (y ∷ vs) zero k v h l e f = cc
zip_suc (x ∷ ks) (y ∷ vs) (suc i) k v h l e f =
    ap (λ l. (x, y) ∷ l) (zip_suc ks vs i k v (omega arith) (omega arith) e f)

-- the next pair, counted as the loops do
pub zip_next : {A B : Type 0} (ks : List A) (vs : List B) (i : ℕ) (k : A) (v : B) → i < length ks →
    i < length vs → k ≡ get_or ks i k → v ≡ get_or vs i v →
    take (i + 1) (zip ks vs) ≡ take i (zip ks vs) ++ (k, v) ∷ []
zip_next ks vs i k v h l e f = rw add-one (zip_suc ks vs i k v h l e f)

-- all pairs
pub zip_whole : {A B : Type 0} (ks : List A) (vs : List B) (i : ℕ) →
    min (length ks) (length vs) ≤ i → take i (zip ks vs) ≡ zip ks vs
zip_whole ks vs i h = let e = length-zip ks vs in grind (arith, common_steps)

-- the weights of values with places are those of the values
pub weights_zip : (ks : List Bool) (vs : List Value) → length ks ≡ length vs →
    sum_by (λ p. weight_of p.1) (zip ks vs) ≡ sum_by weight_of vs
weights_zip ks vs h =
    sym (fold-map (λ a v. a + weight_of v) (λ p. p.1) 0 (zip ks vs))
    ∙ ap (sum_by weight_of) (seconds-zip ks vs (sym h))

-- where there are no values, there are no pairs
pub zip_none : (ks : List Bool) → zip {K = Bool} {X = Value} ks [] ≡ []
zip_none [] = refl
zip_none (k ∷ ks) = refl

-- a number below another
pub lt_true : (a b : ℕ) → a < b → nat_lt a b ≡ true
lt_true a b h = grind (arith, common_steps)

-- a number that is not
pub lt_false : (a b : ℕ) → b ≤ a → nat_lt a b ≡ false
lt_false a b h = grind (arith, common_steps)

-- a weight of which more than the limit is told is over it
over_limit : (w : ℕ) → most_weight < capped w → nat_lt most_weight w ≡ true
over_limit w h = grind (arith, common_steps)

-- a weight of which no more than the limit is told is not over it
within_limit : (w : ℕ) → capped w ≤ most_weight → nat_lt most_weight w ≡ false
within_limit w h = grind (arith, common_steps)

module _ (s : Sender) (values : List Placed) where
  -- before any copy is gone through, the values are packed
  pub followed_start : (walk : Walk) (ps : List Part) (w : ℕ) →
      Walked (flat_map (copied_at s) values) (flat_map (named_at s) values)
      (λ C N. map (part_at s C N) values) (record { copies = []; names = [] }) walk ps →
      w ≡ capped (sum_by (λ p. weight_of p.1) values) → Followed s values 0 walk ps [] w
  followed_start walk ps w walked e = record {
    reached = reached_start s values walk.copies walk.names walked.copies walked.names;
    parts_stand = walked.stands;
    copied_stand = λ C N p q. refl;
    weighed = e ∙ ap capped (sym (add-zero (sum_by (λ p. weight_of p.1) values)));
    few = omega arith;
  }

  -- one more copy is packed
  pub followed_next : (k : ℕ) (old new : Walk) (ps : List Part) (cs : List Copied) (c : Copied)
      (w more : ℕ) (o : ObjectName) → Followed s values k old ps cs w → k < length old.copies →
      length old.copies ≤ most_copies → take (k + 1) old.copies ≡ take k old.copies ++ o ∷ [] →
      Walked (flat_map (copied_at s) (slots_at s o)) (flat_map (named_at s) (slots_at s o))
      (λ C N. copied_of s C N o) old new c →
      more ≡ capped (16 + sum_by weight_of (slot_values s o)) →
      Followed s values (k + 1) new ps (cs ++ c ∷ []) (capped (w + more))
  followed_next k old new ps cs c w more o f h few e walked m =
      let pc : IsPrefix old.copies new.copies =
      subst (λ (l : List ObjectName). IsPrefix old.copies l) (sym walked.copies)
      (prefix_met old.copies (flat_map (copied_at s) (slots_at s o))) in
      let pn : IsPrefix old.names new.names =
      subst (λ (l : List ObjectName). IsPrefix old.names l) (sym walked.names)
      (prefix_met old.names (flat_map (named_at s) (slots_at s o))) in
      let front : take (k + 1) new.copies ≡ take k old.copies ++ o ∷ [] =
      front_of (k + 1) old.copies new.copies pc (omega arith) ∙ e in
      record {
        reached =
            reached_next s values k old.copies old.names new.copies new.names o f.reached h e
            walked.copies walked.names;
        parts_stand = λ C N p q.
            f.parts_stand C N (prefix_trans old.copies new.copies C pc p)
            (prefix_trans old.names new.names N pn q);
        copied_stand = λ C N p q.
            let a =
            f.copied_stand C N (prefix_trans old.copies new.copies C pc p)
            (prefix_trans old.names new.names N pn q) in
            let b = walked.stands C N p q in
            rw front (grind (arith, common_steps, a, b));
        weighed = rw front (grind (arith, common_steps, f.weighed, m));
        few = omega arith;
      }

  module _ (to token k : ℕ) (walk : Walk) (ps : List Part) (cs : List Copied) (w : ℕ)
      (f : Followed s values k walk ps cs w) where
    -- where more copies than the limit were met, the message is refused
    pub packed_many : most_copies < length walk.copies →
        Err (TooLarge 4097 4096) ≡ packed s to token values
    unfolding packed
    packed_many h =
        rw (lt_true most_copies (length (copies_of s values))
        (reached_many s values k walk.copies walk.names f.reached h)) refl

    module _ (h : length walk.copies ≤ k) where
      -- there are no more copies than the limit
      few : length walk.copies ≤ most_copies
      few = omega (arith, f.few)

      -- all copies were gone through
      all : take k walk.copies ≡ walk.copies
      all = grind (arith, common_steps)

      -- what was summed is the weight of the message
      weighed : w ≡ capped (message_weight s values walk.copies)
      weighed = f.weighed ∙ ap (λ os. capped (message_weight s values os)) all

      -- with all copies gone through, the message is the one with those that were met
      packed_is : packed s to token values ≡ packed_with s to token values walk.copies
      unfolding packed
      packed_is =
          ap (packed_with s to token values)
          (reached_all s values k walk.copies walk.names f.reached h few)

      -- where it weighs more than the limit, it is refused
      pub packed_heavy : most_weight < w → Err (TooLarge w 2097152) ≡ packed s to token values
      packed_heavy heavy =
          let over = over_limit _ (subst (λ n. most_weight < n) weighed heavy) in
          let d : packed_with s to token values walk.copies ≡ Err (TooLarge w 2097152) =
          rw (lt_false most_copies (length walk.copies) few, over, ← weighed) refl in
          sym (packed_is ∙ d)

      -- else it is what was made
      pub packed_fits : (ns : List Name) → w ≤ most_weight → ns ≡ names_to s to token walk.names →
          Ok (record { names = ns; copies = cs; values = ps }) ≡ packed s to token values
      packed_fits ns light n =
          let named : walk.names ≡ names_with s values walk.copies =
          f.reached.naming ∙ ap (names_with s values) all in
          let pe =
          f.parts_stand walk.copies walk.names (prefix_refl walk.copies)
          (prefix_refl walk.names) in
          let ce =
          f.copied_stand walk.copies walk.names (prefix_refl walk.copies) (prefix_refl walk.names)
          ∙ ap (map (copied_of s walk.copies walk.names)) all in
          let packet : Packet = record { names = ns; copies = cs; values = ps } in
          let p : packet ≡ packet_with s to token values walk.copies walk.names = cc in
          let d : packed_with s to token values walk.copies ≡ Ok packet =
          rw (
            lt_false most_copies (length walk.copies) few,
            within_limit _ (subst (λ n. n ≤ most_weight) weighed light),
            ← named,
          ) (ap Ok (sym p)) in
          sym (packed_is ∙ d)

-- a copy whose slots are not there
pub walked_bare : (s : Sender) (o : ObjectName) (walk : Walk) (class : ClassId) →
    class ≡ class_at s o → slots_at s o ≡ [] →
    Walked (flat_map (copied_at s) (slots_at s o)) (flat_map (named_at s) (slots_at s o))
    (λ C N. copied_of s C N o) walk walk (record { class = class; slots = [] })
walked_bare s o walk class e d = record {
  copies = ap (λ l. met walk.copies (flat_map (copied_at s) l)) (sym d);
  names = ap (λ l. met walk.names (flat_map (named_at s) l)) (sym d);
  stands = λ C N p q. rw (d, ← e) refl;
}
