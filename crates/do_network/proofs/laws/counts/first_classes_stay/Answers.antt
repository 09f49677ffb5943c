use Rattle.do_network.proofs.laws.counts.first_classes_stay.Goals as goal
use Rattle.do_network.{specs.Counting.item_classes, proofs.ClassesKept.classes_stay}

pub returns : goal.returns
returns c p from item o class kept =
    classes_stay o class (item_classes from item) p.classes kept
