-- What a node names is what its root, its invocations, its lends and its asks name.
use Rattle.std.proofs.{Common.{◌≡◌, ◌∙◌, ◌++◌, ◌||◌, List, ap, sym}, lemmas.List.append_assoc}
use Rattle.std.proofs.lemmas.List.Folds.{list_any-append}
use Rattle.do_base.specs.names.Names.{ObjectName}
use Rattle.do_packet.specs.Met.{has_object, same_object}

-- among what is named first and what lends and asks name, in whatever order these stand
pub named_whole : (o : ObjectName) (first more lends asks : List ObjectName) →
    has_object more o ≡ has_object (lends ++ asks) o →
    has_object (first ++ more) o ≡ has_object (first ++ lends ++ asks) o
named_whole o first more lends asks h =
    list_any-append (same_object o) first more
    ∙ ap (λ b. has_object first o || b) h
    ∙ sym (list_any-append (same_object o) first (lends ++ asks))
    ∙ ap (λ os. has_object os o) (sym (append_assoc first lends asks))

pub ruleset naming_steps = (named_whole)
