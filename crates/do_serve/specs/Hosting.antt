-- A site of a network as the state of a node that is served.
use Rattle.std.specs.Prelude.{length, map, ◌==◌}
use Rattle.do_machine.specs.{State.is_open, take.Take.can_take}
use Rattle.do_net.specs.{Seen.{Seen, at_rest, site_handled}, Turns.can_act}
use Rattle.do_network.specs.{Links.{Sending, piece_bytes}, Site.Handled}
use Rattle.do_serve.specs.Rules.{Moved, Outgoing, Rules}

-- the classes and the acts of a site, and its part
abbrev pub resting : Seen → Seen
resting s = at_rest s.table s.act s.part

-- a greeting or a frame as its bytes
abbrev pub outgoing : Sending → Outgoing
outgoing s = record { to = s.to; bytes = piece_bytes s.piece }

-- what an input comes to at a site
abbrev pub site_moved : Seen → Handled → Moved Seen
site_moved s h = record {
  part = at_rest s.table s.act h.part;
  frames = map outgoing h.sent;
  shown = h.shown;
  done = h.done;
}

-- the rules of a site
abbrev pub site_rules : Rules Seen
site_rules = record {
  step = λ s input. site_moved s (site_handled s input);
  can_act = λ s. can_act s.part.own.node.stack;
  can_take = λ s from. can_take from s.part.own.node;
  is_idle = λ s. length s.part.own.node.stack == 0;
  is_open = λ s peer. is_open s.part.own.node peer;
}
