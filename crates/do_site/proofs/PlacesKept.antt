-- Places that a site keeps to settle what it has, over its steps.
use Rattle.std.proofs.Common.{◌≡◌, ◌≤◌, ◌+◌, ℕ, ap, arith, length}
use Rattle.std.specs.Prelude.{Err, Ok, OnErr, OnOk, Result, not, vec_capacity, ◌==◌}
use Rattle.do_machine.specs.{declared.node.Node.Node, ends.Closing.parted}
use Rattle.do_network.specs.Own.{Own}
use Rattle.do_streams.specs.Streamed.{Streamed}
use Rattle.do_effects.specs.{Bounded.HasNoMore, Paying.Pays, declared.changing.Core.Core}
use Rattle.do_effects.proofs.ObjectsLeft.{few_pass}
use Rattle.do_site.specs.Room.{HasPlace, HasPlaces, HasPlaceToClose, HasPlaceToLeave}
use Rattle.do_site.specs.declared.{needs.Needs.Needs, told.Told.Told}

-- what holds whether a call gave something or failed holds
pub either_way : {A E : Type 0} {P : Type 0} (r : Result A E) → OnOk r P → OnErr r P → P
either_way (Ok x) p q = p
either_way (Err e) p q = q

module _ (a b : Core) (s t : Told) where
  -- a site that has no more, and paid only what it owed, keeps enough places
  pub places_fewer : HasNoMore a.part.own.node b.part.own.node → Pays a b →
      vec_capacity s.freed ≤ vec_capacity t.freed → vec_capacity s.left ≤ vec_capacity t.left →
      vec_capacity s.settled ≤ vec_capacity t.settled → HasPlaces a s → HasPlaces b t
  places_fewer few pays freed left settled h =
      let fs = few.stored in
      let fh = few.held in
      let fa = few.asked in
      let hf = h.freed in
      let hl = h.left in
      let hs = h.settled in
      let hp = h.places in
      record {
        freed = omega (arith, fs, freed, hf);
        left = omega (arith, fh, left, hl);
        settled = omega (arith, fa, settled, hs);
        places = omega (arith, fs, pays, hp);
      }

  -- so does one that has the same
  pub places_same : b.part.own ≡ a.part.own → a.streams.bare ≤ b.streams.bare →
      vec_capacity s.freed ≤ vec_capacity t.freed → vec_capacity s.left ≤ vec_capacity t.left →
      vec_capacity s.settled ≤ vec_capacity t.settled → HasPlaces a s → HasPlaces b t
  places_same own bare freed left settled h =
      let heap = ap (λ (p : Own). length p.node.heap) own in
      let held = ap (λ (p : Own). length p.node.held) own in
      let asked = ap (λ (p : Own). length p.node.asked) own in
      let ends = ap (λ (p : Own). length p.node.open_to) own in
      places_fewer
      (record {
        stored = omega (arith, heap);
        held = omega (arith, held);
        asked = omega (arith, asked);
      }) (omega (arith, bare, held, asked, ends)) freed left settled h

  -- one that has no more, paid only what it owed, and told no more than a close, has a place to
  -- leave what is left
  pub closed_place : HasPlaceToClose a s → HasNoMore a.part.own.node b.part.own.node →
      vec_capacity t.freed ≡ vec_capacity s.freed → vec_capacity t.left ≡ vec_capacity s.left →
      vec_capacity t.settled ≡ vec_capacity s.settled → Pays a b →
      a.streams.room ≤ b.streams.room + (length a.part.own.node.asked + 2) → HasPlaceToLeave b t
  closed_place h few freed left settled pays room =
      let fs = few.stored in
      let fh = few.held in
      let hw = h.waiting in
      record {
        places = places_fewer few pays (omega (arith, freed)) (omega (arith, left))
            (omega (arith, settled)) h.places;
        waiting = omega (arith, fs, fh, hw, room);
      }

-- a node that is parted has no more
pub parted_fewer : (peer : ℕ) (n m : Node) → m ≡ parted peer n → HasNoMore n m
parted_fewer peer n m is =
    let heap = ap (λ (x : Node). length x.heap) is in
    let held = ap (λ (x : Node). length x.held) is in
    let asked = ap (λ (x : Node). length x.asked) is in
    let few = few_pass (λ o. not (o.node == peer)) n.held in
    let less = few_pass (λ w. not (w.object.node == peer)) n.asked in
    record {
      stored = omega (arith, heap);
      held = omega (arith, held, few);
      asked = omega (arith, asked, less);
    }

-- where no line waits there is room for a close
pub told_place : (c : Core) (t : Told) → HasPlaces c t → c.streams.room ≡ c.streams.bare →
    HasPlaceToClose c t
told_place c t h room =
    let hp = h.places in
    record { places = h; waiting = omega (arith, hp, room) }

-- and to leave what nothing holds
pub kept_place : (c : Core) (t : Told) → HasPlaces c t → c.streams.room ≡ c.streams.bare →
    HasPlaceToLeave c t
kept_place c t h room =
    let hp = h.places in
    record { places = h; waiting = omega (arith, hp, room) }

-- a place that was made is one to settle what there is
pub made_places : (needs : Needs) (c : Core) (t : Told) → HasPlace needs c t →
    length c.part.own.node.open_to ≤ 64 → c.streams.room ≤ c.streams.bare → HasPlaces c t
made_places needs c t p few most =
    let pf = p.freed in
    let pl = p.left in
    let ps = p.settled in
    let pw = p.waiting in
    record {
      freed = omega (arith, pf);
      left = omega (arith, pl);
      settled = omega (arith, ps);
      places = omega (arith, pw, few, most);
    }

-- so there is where a place was made
pub made_place : (needs : Needs) (c : Core) (t : Told) → HasPlace needs c t → HasPlaces c t →
    length c.part.own.node.asked + 2 ≤ needs.waiting → HasPlaceToClose c t
made_place needs c t p h more =
    let pw = p.waiting in
    record { places = h; waiting = omega (arith, pw, more) }

-- and to leave what nothing holds
pub made_to_leave : (needs : Needs) (c : Core) (t : Told) → HasPlace needs c t → HasPlaces c t →
    HasPlaceToLeave c t
made_to_leave needs c t p h =
    let pw = p.waiting in
    record { places = h; waiting = omega (arith, pw) }

-- streams of which only links were read keep the place to leave
pub read_place : (c : Core) (s : Streamed) (t : Told) →
    s ≡ record c.streams { links = s.links } → HasPlaceToLeave c t →
    HasPlaceToLeave (record c { streams = s }) t
read_place c s t same h =
    let room = ap (λ (x : Streamed). x.room) same in
    let all = ap (λ (x : Streamed). x.bare) same in
    let hw = h.waiting in
    let hf = h.places.freed in
    let hl = h.places.left in
    let hs = h.places.settled in
    let hp = h.places.places in
    record {
      places = record {
        freed = hf;
        left = hl;
        settled = hs;
        places = omega (arith, hp, all);
      };
      waiting = omega (arith, hw, room);
    }
