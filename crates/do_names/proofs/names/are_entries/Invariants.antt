use Rattle.do_names.proofs.names.are_entries.Given as goal
use Rattle.std.{proofs.Common.{◌≡◌, true, take}, specs.List.list_all}
use Rattle.do_names.specs.Core.{is_entry}

abbrev pub invariant-loop-entry : goal.invariant-loop-entry
invariant-loop-entry l = list_all is_entry (take l.entry-index l.entry-items) ≡ true
