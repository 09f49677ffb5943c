-- How much of its room a core took for what was told, and for names that were received.
use Rattle.std.proofs.Common.{◌≡◌, ◌≤◌, ◌+◌, ◌∙◌, ℕ, List, [], arith}
use Rattle.do_packet.specs.declared.receipt.Made.{Made}
use Rattle.do_streams.specs.Streamed.{Streamed}
use Rattle.do_effects.specs.{Room.{IsWithin, to_tell}, Taking.to_gain, declared.changing.Core.Core}

-- a core whose streams alone changed took no more than what was told
pub told_within : (many : ℕ) (c : Core) (later : Streamed) →
    c.streams.room ≤ later.room + many → later.classes ≡ c.streams.classes →
    IsWithin (to_tell many) c (record { part = c.part; streams = later })
told_within many c later room classes = record {
  part = record {
    objects = omega arith;
    invocations = omega arith;
    names = omega arith;
    entries = omega arith;
  };
  waiting = room;
  stored = omega arith;
  held = omega arith;
  asked = omega arith;
  classes = classes;
}

-- names that were received behind copies and names took no more than both did
pub names_within : (done more told many waiting : ℕ) (copies : List Made) (a b c : Core) →
    done + more ≡ many → told + more ≡ waiting →
    IsWithin (record (to_gain done copies) { waiting = told }) a b →
    IsWithin (to_gain more []) b c →
    IsWithin (record (to_gain many copies) { waiting = waiting }) a c
names_within done more told many waiting copies a b c all lines first second = record {
  part = record {
    objects = (let f = first.part.objects in let s = second.part.objects in omega (arith, f, s));
    invocations = (let f = first.part.invocations in let s = second.part.invocations in
        omega (arith, f, s));
    names = (let f = first.part.names in let s = second.part.names in omega (arith, f, s, all));
    entries = (let f = first.part.entries in let s = second.part.entries in
        omega (arith, f, s, all));
  };
  waiting = (let f = first.waiting in let s = second.waiting in omega (arith, f, s, lines));
  stored = (let f = first.stored in let s = second.stored in omega (arith, f, s));
  held = (let f = first.held in let s = second.held in omega (arith, f, s, all));
  asked = (let f = first.asked in let s = second.asked in omega (arith, f, s, all));
  classes = second.classes ∙ first.classes;
}
