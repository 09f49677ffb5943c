use Rattle.do_base.proofs.outside.mem_shelf.find.Given as goal
use Rattle.std.proofs.Common.{◌≡◌, drop}
use Rattle.do_base.specs.outside.Files.{file_named}

abbrev pub invariant-loop-file : goal.invariant-loop-file
invariant-loop-file l =
    file_named l.name (drop l.file-index l.file-items) ≡ file_named l.name l.file-items
