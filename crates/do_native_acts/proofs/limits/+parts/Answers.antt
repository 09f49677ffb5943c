use Rattle.do_native_acts.proofs.limits.+parts.Goals as goal
use Rattle.do_native_acts.proofs.SmallParts.{small_few, small_many}

pub has_small_parts-returns-then-len-le-MAX_ITEMS :
    goal.has_small_parts-returns-then-len-le-MAX_ITEMS
has_small_parts-returns-then-len-le-MAX_ITEMS t c =
    small_few c.args.value.now c.in-List.items c.in-List.is c.all_have_small_parts.result
    c.len-in-List.result c.len-in-List.ensures c.if-len-le-MAX_ITEMS.true
    c.all_have_small_parts.ensures

pub has_small_parts-returns-else-len-le-MAX_ITEMS :
    goal.has_small_parts-returns-else-len-le-MAX_ITEMS
has_small_parts-returns-else-len-le-MAX_ITEMS t c =
    small_many c.args.value.now c.in-List.items c.in-List.is c.len-in-List.result
    c.len-in-List.ensures c.if-len-le-MAX_ITEMS.false
