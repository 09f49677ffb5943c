-- What the objects of joined heaps name.
use Rattle.std.proofs.Common.{◌≡◌, List, [], ◌∷◌, ◌++◌, Option, Some, None, refl, ap, ◌∙◌, sym}
use Rattle.std.proofs.{Common.append_assoc, lemmas.{List.append-nil, Grind.flat_map-append}}
use Rattle.do_base.specs.names.Names.{ObjectName}
use Rattle.do_trace.specs.declared.outcome.{ObjLine.ObjLine, NodeLine.NodeLine}
use Rattle.do_leaks.specs.{Heap.objects_at, Rest.{joined, named_at, named_from}}

-- nothing behind a list leaves the list
pub joined_none : (a : Option (List ObjectName)) → joined a None ≡ a
joined_none None = refl
joined_none (Some os) = refl

-- three lists join in either order
pub joined_assoc : (a b c : Option (List ObjectName)) →
    joined (joined a b) c ≡ joined a (joined b c)
joined_assoc None b c = refl
joined_assoc (Some os) None c = refl
joined_assoc (Some os) (Some ps) None = refl
joined_assoc (Some os) (Some ps) (Some qs) = ap Some (append_assoc os ps qs)

-- what the objects of two heaps name
pub named_from-append : (xs ys : List ObjLine) (o : ObjectName) →
    named_from (xs ++ ys) o ≡ joined (named_from xs o) (named_from ys o)
named_from-append [] ys o = refl
named_from-append (x ∷ xs) ys o =
    ap (joined (named_at x o)) (named_from-append xs ys o)
    ∙ sym (joined_assoc (named_at x o) (named_from xs o) (named_from ys o))

-- what the objects of one node name
pub named_at_node : (n : NodeLine) (o : ObjectName) →
    named_from (objects_at (n ∷ [])) o ≡ named_from n.objects o
named_at_node n o = ap (λ xs. named_from xs o) (append-nil n.objects)

-- what the objects of two lists of nodes name
pub named_by_nodes : (ms ns : List NodeLine) (o : ObjectName) →
    named_from (objects_at (ms ++ ns)) o
    ≡ joined (named_from (objects_at ms) o) (named_from (objects_at ns) o)
named_by_nodes ms ns o = ap (λ xs. named_from xs o) (flat_map-append (λ n. n.objects) ms ns)
    ∙ named_from-append (objects_at ms) (objects_at ns) o

pub ruleset naming_steps = (joined_none, joined_assoc, named_from-append)
