use Rattle.do_store.proofs.counting.settle.Goals as goal
use Rattle.std.proofs.Common.{◌≡◌, true, false, [], ◌∷◌, refl, arith, ◌∙◌, rules}
use Rattle.do_store.{specs.Names.Stored, proofs.Edits.seen-edit}
use Rattle.do_store.proofs.Ledger.{books-kept, books-posted, room_to_wait, rests_when, wrote}

pub returns-then-not-idle-clause-books : goal.returns-then-not-idle-clause-books
returns-then-not-idle-clause-books c = λ port top p p' o b rising stored same count others.
    let busy : c.is_idle-idle.result ≡ false = search rules in
    rw (c.set_counts.ensures.objects, c.set_counts.ensures.spare)
    (books-kept port top _ _ _ p p' c.args.serial c.args.held c.args.named c.args.waits o b
    rising stored same count others
    (rests_when c.is_idle-idle.result c.args.held c.args.named c.args.waits c.is_idle-idle.ensures
    busy))

pub returns-then-not-idle-clause-seen : goal.returns-then-not-idle-clause-seen
returns-then-not-idle-clause-seen c =
    λ top rising.
    rw c.set_counts.ensures.objects
    (seen-edit c.args.table.now.objects c.args.serial (wrote c.args.held c.args.named c.args.waits)
    (λ (s : Stored). record s { held = c.args.held } ∷ []) (λ x is. refl) 0 top rising)

pub returns-then-spare-eq0-clause-books : goal.returns-then-spare-eq0-clause-books
returns-then-spare-eq0-clause-books c = λ port top p p' o b rising stored same count others.
    let idle : c.is_idle-idle.result ≡ true = search rules in
    let facts = c.is_idle-idle.ensures.0 idle in
    let above = room_to_wait port top _ _ _ p c.args.serial o rising b stored (same ∙ facts.2) in
    absurd (omega (arith, above, c.spare.ensures, c.if-spare-eq0.true))

pub returns-then-spare-eq0-clause-seen : goal.returns-then-spare-eq0-clause-seen
returns-then-spare-eq0-clause-seen c =
    λ top rising. rw c.set_counts-then-spare-eq0.ensures.objects
    (seen-edit c.args.table.now.objects c.args.serial (wrote c.args.held c.args.named c.args.waits)
    (λ (s : Stored). record s { held = c.args.held } ∷ []) (λ x is. refl) 0 top rising)

pub returns-clause-books : goal.returns-clause-books
returns-clause-books c = λ port top p p' o b rising stored same count others.
    let idle : c.is_idle-idle.result ≡ true = search rules in
    let facts = c.is_idle-idle.ensures.0 idle in
    rw (c.set_counts-2.ensures.objects, c.set_counts-2.ensures.spare)
    (books-posted port top _ _ _ _ p p' c.args.serial c.args.held c.args.named o b rising stored
    (same ∙ facts.2) count others c.post.ensures.serials c.post.ensures.spare)

pub returns-clause-seen : goal.returns-clause-seen
returns-clause-seen c =
    λ top rising.
    rw c.set_counts-2.ensures.objects
    (seen-edit c.args.table.now.objects c.args.serial (wrote c.args.held c.args.named true)
    (λ (s : Stored). record s { held = c.args.held } ∷ []) (λ x is. refl) 0 top rising)
