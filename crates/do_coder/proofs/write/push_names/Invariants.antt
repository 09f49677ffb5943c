use Rattle.do_coder.proofs.write.push_names.Given as goal
use Rattle.std.{proofs.Common.{◌≡◌, ◌++◌, drop}, specs.List.fold}
use Rattle.do_coder.specs.Recent.{after_name}
use Rattle.do_grammar.specs.OneSpelling.{spelling_by}
use Rattle.do_coder.specs.Names.{name_spelling}

abbrev pub invariant-loop-name : goal.invariant-loop-name
invariant-loop-name l =
    record {
      text : l.out ++ spelling_by name_spelling after_name l.recent.now (drop l.name-index l.names)
          ≡ l.initial.out ++ spelling_by name_spelling after_name l.initial.recent.now l.names;
      table : fold after_name l.recent.now (drop l.name-index l.names)
          ≡ fold after_name l.initial.recent.now l.names;
      kept : l.recent.kept ≡ l.initial.recent.kept;
    }
