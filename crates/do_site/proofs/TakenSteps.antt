-- What taking an item comes to, with a frame read besides.
use Rattle.do_base.specs.declared.events.shown.Shown.TheVariants as shows
use Rattle.std.{proofs.Common.{◌≡◌, ℕ, List, refl, ap, sym, subst, ◌∙◌}, specs.Prelude.false}
use Rattle.do_base.specs.declared.events.shown.Shown.{Shown}
use Rattle.do_class.specs.Class.{Class}
use Rattle.do_frames.specs.declared.frame.Frame.{Frame}
use Rattle.do_machine.specs.{declared.{item.Item.Item, state.Effect.Effect}, Context.Context}
use Rattle.do_machine.specs.{Effect.{showing, ◌>>=◌}, Items.exported, State.is_open}
use Rattle.do_machine.specs.take.{Lines.item_line, Take.{holding, take_effect}}
use Rattle.do_network.specs.{Counting.got, Frames.all_posted, Own.{Own, site_context}}
use Rattle.do_network.specs.Site.{site_move}
use Rattle.do_rules.specs.{Ruling.{RulingsAreArrivals, ruling}, declared.take.ruling.Ruling.Ruling}
use Rattle.do_streams.{specs.Reading.names_of, proofs.LinksRead.names_stay}
use Rattle.do_effects.specs.Doing.{Doing, cleared, does, doing, effected, moved}
use Rattle.do_effects.specs.{Taking.{taken, takes, taking_needs}, declared.changing.Core.Core}
use Rattle.do_site.proofs.{PlansKeep.enough_place, RulingsKeep.ruled_apart}
use Rattle.do_site.proofs.{SentBehind.sent_after_reading, StepsDone.then_left}
use Rattle.do_site.specs.{Plans.{AllowsRuling, IsEnough}, Room.{HasPlace, HasPlaceFor}}
use Rattle.do_site.specs.{Steps.{item_move, with_reading}, declared.needs.Needs.Needs}
use Rattle.do_site.specs.declared.told.Told.{Told}

-- to read a frame behind an effect is to read it before
pub read_does : (from : ℕ) (f : Frame) (d : Doing) (e : Effect) →
    with_reading from f (does d e) ≡ does (with_reading from f d) e
read_does from f d e = λ j. record {
  own = (does d e).own;
  out = (sym (sent_after_reading from f d.out (all_posted d.own.received e.sent))) j;
  shown = (does d e).shown;
}

-- what the ruling on an item does, once the item is shown, is what taking the item does
pub taken_is : RulingsAreArrivals → (c : Context) (from : ℕ) (item : Item) →
    taken from item (shows.Took (item_line from c.node.port item)) (ruling c from item) c.node
    ≡ take_effect c from item
taken_is laws c from item =
    ap (λ (e : Effect). showing (shows.Took (item_line from c.node.port item)) c.node >>= (λ m. e))
    (laws c from item (holding (exported from c.node.port item) c.node) refl refl)

module _ (from : ℕ) (item : Item) (line : Shown) (r : Ruling) (d one : Doing)
    (done : one ≡ takes from item line r d) where
  -- what is done, as an effect of the node that got the item
  abbrev done_by : Effect
  done_by = taken from item line r d.own.node

  -- the node that got the item, before the effect
  abbrev having_got : Doing
  having_got = record d { own = got from item d.own }

  -- the names that were read lately stay while an item is taken
  pub names_taken : names_of one.out.links from ≡ names_of d.out.links from
  names_taken =
      ap (λ (x : Doing). names_of x.out.links from) done
      ∙ names_stay from d.out (effected having_got.own done_by).posted

  -- a frame is read behind that, and then what nothing holds is left
  pub taken_then_left : (f : Frame) (kept new : Doing) → kept ≡ with_reading from f one →
      new ≡ moved kept (cleared kept.own) →
      new ≡ moved (with_reading from f d) (site_move (got from item d.own) done_by)
  taken_then_left f kept new read left =
      then_left (with_reading from f having_got) kept new done_by
      (read ∙ ap (with_reading from f) done ∙ read_does from f having_got done_by) left

  -- the node once that was left
  taken_own : (p : Own) → p ≡ (cleared one.own).own →
      p ≡ (site_move (got from item d.own) done_by).own
  taken_own p left = left ∙ ap (λ (x : Doing). (cleared x.own).own) done

  -- no end leads to the node itself
  pub taken_apart : (p : Own) → p ≡ (cleared one.own).own →
      is_open d.own.node d.own.node.port ≡ false → is_open p.node p.node.port ≡ false
  taken_apart p left h =
      subst (λ (q : Own). is_open q.node q.node.port ≡ false) (sym (taken_own p left))
      (ruled_apart from item r (holding (exported from d.own.node.port item) d.own.node) h)

-- an item is taken as the ruling on it says, with a frame read besides
pub follows : RulingsAreArrivals → (table : List Class) (from : ℕ) (item : Item) (f : Frame)
    (line : Shown) (r : Ruling) (d mid new : Doing) → mid ≡ d →
    line ≡ shows.Took (item_line from d.own.node.port item) →
    r ≡ ruling (site_context table d.own) from item →
    new ≡ moved (with_reading from f mid)
    (site_move (got from item mid.own) (taken from item line r mid.own.node)) →
    new ≡ moved (with_reading from f d) (item_move table from item d.own)
follows laws table from item f line r d mid new same is judged moves =
    moves
    ∙ ap (λ (x : Doing). moved (with_reading from f x)
    (site_move (got from item x.own) (taken from item line r x.own.node))) same
    ∙ ap (λ (e : Effect). moved (with_reading from f d) (site_move (got from item d.own) e))
    ((λ j. taken from item (is j) (judged j) d.own.node)
    ∙ taken_is laws (site_context table d.own) from item)

module _ (from : ℕ) (item : Item) (r : Ruling) (needs : Needs) (before mid : Core) (t : Told)
    (same : doing mid ≡ doing before) (a : AllowsRuling before.part.own.node from item r needs)
    (place : HasPlace needs mid t) where
  -- as much room was told as the ruling takes, or more
  room_enough : IsEnough (taking_needs mid.part.own.node item r) needs
  room_enough =
      subst (λ (d : Doing). IsEnough (taking_needs d.own.node item r) needs) (sym same) a.enough

  -- there is room to do what the ruling says, and then to leave what is stored and held
  pub ruling_place : HasPlaceFor (taking_needs mid.part.own.node item r) mid t
  ruling_place = enough_place (taking_needs mid.part.own.node item r) needs mid t room_enough place
