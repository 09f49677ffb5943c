use Rattle.do_document.proofs.document.unknown_key.Goals as goal
use Rattle.std.proofs.{Common.arith, lemmas.Grind.common_steps}
use Rattle.do_document.proofs.Seen.{keys_seen}

pub loop-key-init : goal.loop-key-init
loop-key-init c =
    let same = keys_seen c.args.table.now.entries in grind (arith, common_steps, same)
