use Rattle.do_store.proofs.store.Store.stored.Goals as goal
use Rattle.std.proofs.Common.{◌≡◌, ℕ, List, [], ◌∷◌, map, IfOk, refl, ap, subst}
use Rattle.do_base.specs.names.Names.{ObjectName}
use Rattle.do_store.specs.{Objects.name_of, Names.stored_name, Books.seen}
use Rattle.do_store.specs.declared.object.Object.{Object}

same_names : (node : ℕ) (xs : List Object)
    → map (name_of node) xs ≡ map (stored_name node) (map seen xs)
same_names node [] = refl
same_names node (x ∷ xs) = ap (λ l. name_of node x ∷ l) (same_names node xs)

pub returns : goal.returns
returns c = rw (← c.self.view_is)
    (subst (λ (l : List ObjectName). IfOk c.list.result (λ oids. oids ≡ l))
    (same_names c.self.inside.node c.self.inside.table.objects) c.list.ensures)
