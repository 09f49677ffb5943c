-- Rulings by which a lend is over or an end closes: they take no memory.
use Rattle.do_frames.specs.declared.frame.Frame.TheVariants as frames
use Rattle.do_rules.specs.declared.take.ruling.Ruling.TheVariants as rulings
use Rattle.std.{proofs.Common.{◌≡◌, ◌≤◌, ℕ, false, refl, arith}, specs.Prelude.vec_capacity}
use Rattle.do_frames.specs.{declared.frame.Frame.Frame, Frames.kind_of, Kinds.kind_number}
use Rattle.do_machine.specs.{declared.{item.Item.Item, node.Node.Node}, run.Fresh.with_objects}
use Rattle.do_part.specs.{Filled.made_values, Names.{AreStored, values_of}}
use Rattle.do_rules.specs.declared.take.ruling.Ruling.{Ruling}
use Rattle.do_effects.specs.{Bounded.IsBounded, Paying.{IsEnding, Pays}, Room.HasRoom}
use Rattle.do_effects.specs.Taking.{CanFollow, on_message, ruling_copies, ruling_values}
use Rattle.do_effects.specs.{Taking.taking_needs, declared.changing.Core.Core}
use Rattle.do_site.specs.{Room.{HasPlaceToClose, HasPlaceToLeave}, declared.told.Told.Told}
use Rattle.do_site.proofs.PlacesKept.{closed_place}

-- nothing comes with such a ruling
pub ending_quiet : (r : Ruling) → IsEnding r → on_message r ≡ false
ending_quiet (rulings.EndsLend number) e = refl
ending_quiet rulings.Closes e = refl
ending_quiet (rulings.Begins copies i) e = absurd e
ending_quiet (rulings.Refuses copies reason exc) e = absurd e
ending_quiet (rulings.Answers copies k a) e = absurd e
ending_quiet (rulings.Raises k exc) e = absurd e
ending_quiet (rulings.Replies answer) e = absurd e
ending_quiet (rulings.EndsAsk w) e = absurd e
ending_quiet rulings.Stays e = absurd e

-- so no copies
pub ending_copies : (r : Ruling) → IsEnding r → (n : Node) →
    AreStored (with_objects (ruling_copies r) n) (values_of (made_values (ruling_copies r)))
ending_copies (rulings.EndsLend number) e n = λ serial some. absurd (omega (arith, some))
ending_copies rulings.Closes e n = λ serial some. absurd (omega (arith, some))
ending_copies (rulings.Begins copies i) e n = absurd e
ending_copies (rulings.Refuses copies reason exc) e n = absurd e
ending_copies (rulings.Answers copies k a) e n = absurd e
ending_copies (rulings.Raises k exc) e n = absurd e
ending_copies (rulings.Replies answer) e n = absurd e
ending_copies (rulings.EndsAsk w) e n = absurd e
ending_copies rulings.Stays e n = absurd e

-- and no values
pub ending_values : (r : Ruling) → IsEnding r → (n : Node) →
    AreStored (with_objects (ruling_copies r) n) (values_of (ruling_values r))
ending_values (rulings.EndsLend number) e n = λ serial some. absurd (omega (arith, some))
ending_values rulings.Closes e n = λ serial some. absurd (omega (arith, some))
ending_values (rulings.Begins copies i) e n = absurd e
ending_values (rulings.Refuses copies reason exc) e n = absurd e
ending_values (rulings.Answers copies k a) e n = absurd e
ending_values (rulings.Raises k exc) e n = absurd e
ending_values (rulings.Replies answer) e n = absurd e
ending_values (rulings.EndsAsk w) e n = absurd e
ending_values rulings.Stays e n = absurd e

-- any node can follow it
pub ending_can : (n : Node) (from : ℕ) (item : Item) (r : Ruling) → IsEnding r →
    CanFollow n from item r
ending_can n from item (rulings.EndsLend number) e = tt
ending_can n from item rulings.Closes e = tt
ending_can n from item (rulings.Begins copies i) e = absurd e
ending_can n from item (rulings.Refuses copies reason exc) e = absurd e
ending_can n from item (rulings.Answers copies k a) e = absurd e
ending_can n from item (rulings.Raises k exc) e = absurd e
ending_can n from item (rulings.Replies answer) e = absurd e
ending_can n from item (rulings.EndsAsk w) e = absurd e
ending_can n from item rulings.Stays e = absurd e

-- where there is a place for a close there is room for it
pub ending_room : (item : Item) (r : Ruling) → IsEnding r → (c : Core) (t : Told) →
    HasPlaceToClose c t → HasRoom (taking_needs c.part.own.node item r) c
ending_room item (rulings.EndsLend number) e c t h =
    let hw = h.waiting in
    record {
      part = record {
        objects = omega arith;
        invocations = omega arith;
        names = omega arith;
        entries = omega arith;
      };
      waiting = omega (arith, hw);
    }
ending_room item rulings.Closes e c t h =
    let hw = h.waiting in
    record {
      part = record {
        objects = omega arith;
        invocations = omega arith;
        names = omega arith;
        entries = omega arith;
      };
      waiting = omega (arith, hw);
    }
ending_room item (rulings.Begins copies i) e c t h = absurd e
ending_room item (rulings.Refuses copies reason exc) e c t h = absurd e
ending_room item (rulings.Answers copies k a) e c t h = absurd e
ending_room item (rulings.Raises k exc) e c t h = absurd e
ending_room item (rulings.Replies answer) e c t h = absurd e
ending_room item (rulings.EndsAsk w) e c t h = absurd e
ending_room item rulings.Stays e c t h = absurd e

-- and once it is followed there is a place to leave what nothing holds
pub ending_left : (item : Item) (r : Ruling) → IsEnding r → (c d : Core) (t u : Told) →
    HasPlaceToClose c t → IsBounded (taking_needs c.part.own.node item r) c d → Pays c d →
    vec_capacity u.freed ≡ vec_capacity t.freed → vec_capacity u.left ≡ vec_capacity t.left →
    vec_capacity u.settled ≡ vec_capacity t.settled → HasPlaceToLeave d u
ending_left item (rulings.EndsLend number) e c d t u h b pays freed left settled =
    let hw = h.waiting in
    let bs = b.stored in
    let bh = b.held in
    let ba = b.asked in
    let bw = b.waiting in
    closed_place c d t u h
    (record {
      stored = omega (arith, bs);
      held = omega (arith, bh);
      asked = omega (arith, ba);
    }) freed left settled pays (omega (arith, bw))
ending_left item rulings.Closes e c d t u h b pays freed left settled =
    let hw = h.waiting in
    let bs = b.stored in
    let bh = b.held in
    let ba = b.asked in
    let bw = b.waiting in
    closed_place c d t u h
    (record {
      stored = omega (arith, bs);
      held = omega (arith, bh);
      asked = omega (arith, ba);
    }) freed left settled pays (omega (arith, bw))
ending_left item (rulings.Begins copies i) e c d t u h b pays freed left settled = absurd e
ending_left item (rulings.Refuses copies reason exc) e c d t u h b pays freed left settled =
    absurd e
ending_left item (rulings.Answers copies k a) e c d t u h b pays freed left settled = absurd e
ending_left item (rulings.Raises k exc) e c d t u h b pays freed left settled = absurd e
ending_left item (rulings.Replies answer) e c d t u h b pays freed left settled = absurd e
ending_left item (rulings.EndsAsk w) e c d t u h b pays freed left settled = absurd e
ending_left item rulings.Stays e c d t u h b pays freed left settled = absurd e

-- frames of kind 10 and more are releases, ends of lends and shutdowns
pub late_kinds : (f : Frame) → 10 ≤ kind_number (kind_of f) →
    ((serial amount : ℕ) → f ≡ frames.Release serial amount → ⊥) →
    ((number : ℕ) → f ≡ frames.Settle number → ⊥) → (f ≡ frames.Shutdown → ⊥) → ⊥
late_kinds (frames.Release serial amount) late release settle shut = release serial amount refl
late_kinds (frames.Settle number) late release settle shut = settle number refl
late_kinds frames.Shutdown late release settle shut = shut refl
late_kinds (frames.Call number serial selector p) late release settle shut = omega (arith, late)
late_kinds (frames.Oneway serial selector p) late release settle shut = omega (arith, late)
late_kinds (frames.Reply number packet) late release settle shut = omega (arith, late)
late_kinds (frames.Raised number e) late release settle shut = omega (arith, late)
late_kinds (frames.RootAsk number) late release settle shut = omega (arith, late)
late_kinds (frames.RootAnswer number packet) late release settle shut = omega (arith, late)
late_kinds (frames.Retain serial token) late release settle shut = omega (arith, late)
late_kinds (frames.Granted serial token) late release settle shut = omega (arith, late)
late_kinds (frames.Gone serial token) late release settle shut = omega (arith, late)
