use Rattle.do_coder.proofs.read.name.many_names.Given as goal
use Rattle.std.{proofs.Common.{◌≡◌, ◌-◌}, specs.List.fold}
use Rattle.do_grammar.proofs.loops.TimesLoop.{with_front}
use Rattle.do_coder.specs.Recent.{after_name}
use Rattle.do_grammar.specs.OneSpelling.{times_by}
use Rattle.do_coder.specs.Names.{name_at}

abbrev pub invariant-loop : goal.invariant-loop
invariant-loop l =
    record {
      so_far : with_front l.names
          (times_by (name_at l.sides) after_name (l.count - l.counter) l.recent.now l.rest)
          ≡ times_by (name_at l.sides) after_name l.count l.initial.recent.now l.bytes;
      table : l.recent ≡ record {
        now = fold after_name l.initial.recent.now l.names;
        kept = l.initial.recent.kept;
      };
    }
