-- A queue behind which something comes.
use Rattle.std.proofs.{Common.{◌≡◌, List, [], ◌++◌, ap, sym, ◌∙◌}, lemmas.List.append-nil}
use Rattle.do_machine.specs.declared.{item.Item.Item, state.Queue.Queue}

-- a queue behind which nothing comes
pub queue_stays : (q r : Queue) (more : List Item) → r ≡ q → more ≡ []
    → r ≡ record q { items = q.items ++ more }
queue_stays q r more same none =
    same ∙ rw none (ap (λ items. record q { items = items }) (sym (append-nil q.items)))

pub ruleset none_steps = (queue_stays)
