use Rattle.do_base.specs.declared.events.shown.Shown.TheVariants as shows
use Rattle.do_effects.proofs.changing.Core.show_freed.Goals as goal
use Rattle.std.proofs.Common.{◌∙◌, ◌++◌, ◌∷◌, [], ap, get_or, length, refl}
use Rattle.do_machine.specs.{Objects.object_at, State.own}
use Rattle.do_effects.proofs.Telling.{lines_end, lines_next, telling_begins, telling_ends}
use Rattle.do_effects.proofs.Telling.{telling_next, telling_room}

-- none was shown yet
pub loop-freed_serial-init : goal.loop-freed_serial-init
loop-freed_serial-init c =
    (telling_begins (length c.args.freed.now) c.args.self.now c.requires, refl, refl, refl)

-- there is room for one more
pub show-requires : goal.show-requires
show-requires c =
    telling_room c.loop-freed_serial.freed_serial-index (length c.args.freed.now)
    c.args.self.now c.loop-freed_serial.self c.loop-freed_serial.invariant.0
    c.loop-freed_serial-test.true

-- one more was shown
pub loop-freed_serial-preserved : goal.loop-freed_serial-preserved
loop-freed_serial-preserved c = (
  telling_next c.loop-freed_serial.freed_serial-index (length c.args.freed.now)
      c.args.self.now c.loop-freed_serial.self
      (record { part = c.loop-freed_serial.self.part; streams = c.show.new.self })
      c.loop-freed_serial.invariant.0 c.loop-freed_serial-test.true refl c.show.ensures.room
      c.show.ensures.classes,
  lines_next (λ serial. shows.Free (own c.args.self.now.part.own.node serial))
      c.args.freed.now c.loop-freed_serial.freed_serial-index 0
      c.args.self.now.streams.shown c.loop-freed_serial.self.streams.shown
      c.show.new.self.shown c.loop-freed_serial-test.true
      c.loop-freed_serial.invariant.1
      (c.show.ensures.shown
      ∙ ap (λ port. c.loop-freed_serial.self.streams.shown
      ++ shows.Free (object_at port
      (get_or c.args.freed.now c.loop-freed_serial.freed_serial-index 0)) ∷ [])
      c.port-node.ensures),
  c.show.ensures.sent ∙ c.loop-freed_serial.invariant.2,
  c.show.ensures.bare ∙ c.loop-freed_serial.invariant.3,
)

-- all were shown
pub returns-clause-shown : goal.returns-clause-shown
returns-clause-shown c =
    lines_end (λ serial. shows.Free (own c.args.self.now.part.own.node serial))
    c.args.freed.now c.loop-freed_serial.freed_serial-index c.args.self.now.streams.shown
    c.loop-freed_serial.self.streams.shown c.loop-freed_serial-test.false
    c.loop-freed_serial.invariant.1

-- each in the room of one
pub returns-clause-room : goal.returns-clause-room
returns-clause-room c =
    telling_ends c.loop-freed_serial.freed_serial-index (length c.args.freed.now)
    c.args.self.now c.loop-freed_serial.self c.loop-freed_serial.invariant.0
