use Rattle.do_agreement.proofs.laws.counts.items_in_hand_are_counted.Goals as goal
use Rattle.do_agreement.proofs.hands.InHandCounted.{for_third_in_hand, sender_in_hand}
use Rattle.do_agreement.proofs.hands.InHandCounted.{taker_in_hand, third_in_hand}

-- what the sender of the item counts
pub returns-clause-sender : goal.returns-clause-sender
returns-clause-sender c = sender_in_hand

-- what the taker counts for the sender
pub returns-clause-taker : goal.returns-clause-taker
returns-clause-taker c = taker_in_hand

-- what a third node counts for the taker
pub returns-clause-thirds : goal.returns-clause-thirds
returns-clause-thirds c = third_in_hand

-- what the taker counts for a third node
pub returns-clause-for_thirds : goal.returns-clause-for_thirds
returns-clause-for_thirds c = for_third_in_hand
