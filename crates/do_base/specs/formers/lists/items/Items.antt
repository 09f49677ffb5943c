-- Where an `Items` keeps the values that it holds: in its view, which is the list of them.
-- With this file a type may reach itself through an `Items`, in this crate and in those above.
use Rattle.std.specs.formers.vec.Vec as vec
use Rattle.std.specs.declared.cmp.PartialEq as eq
use Rattle.std.specs.contracts.alloc.Global as heap
use Rattle.do_base.specs.contracts.lists.items.Items as outer
use Rattle.do_base.specs.contracts.lists.items.Items.TheInside as inner
use mathlib.Core.{Path.{◌≡◌, refl, sym}, List.{List, []}}
use mathlib.Core.Former.{Former, this, list, via, children}
use base.Stored.{code_map}
use denote.RattleType.{RattleType}
use denote.HoleLaws.{Alike}
use denote.HolePlaces.{Recodes, struct_places, laid}
use denote.Hole.{Carrier.{listed, list-listed}, Fix.over}
use denote.Param.Weighed.{Weighed, w_list}
use denote.Model.Placed.{view_places}
use Rattle.std.specs.{Prelude.map, Cmp.{Derive.Mapped.pointwise-map, Lexicographic.pointwise}}
use Rattle.std.specs.{declared.alloc.Global.Global, contracts.impls.GlobalAllocator.TheImpl.ghosts}
use Rattle.do_base.specs.declared.lists.items.Items.{TheInside.Inside, TheView.{view, invariant}}

-- its values over another former's
abbrev pub the_former : Former {0} → Former {0}
the_former g = list g

-- its measure is the largest among its items
abbrev pub the_weighed : {g : Former {0}} → Weighed g → Weighed (the_former g)
the_weighed w = w_list w

-- the one that holds nothing
pub the_empty : List ⊥
the_empty = []

-- what it holds, in order
abbrev pub the_items : (X : Type 0) → List X → List X
the_items X xs = xs

pub the_items_listed : (X : Type 0) (xs : List X) → listed _ (children (the_former this) X xs)
    ≡ the_items X xs
the_items_listed X xs = list-listed X xs

-- the field, a `Vec`, as a former over the items
abbrev field : Former {0}
field = via (vec.the_former this Global) Inside (λ X s. s.items) (λ X v. record { items = v })
    (λ X s. refl) (λ X v. refl)

module _ (R S : RattleType) (h : R.Denot → S.Denot) where
  -- it owns and lends what its items own and lend
  pub the_places : Alike R S h → Alike (outer.the_row R) (outer.the_row S)
      ((the_former this).map R.Denot S.Denot h)
  the_places alike =
      view_places field (list this) view (λ X Y k s. refl) (λ X s. refl) R.Denot S.Denot h
      (outer.the_row R).coded (outer.the_row S).coded (invariant R.Denot) (invariant S.Denot)
      (λ s p q. refl) (λ s p q. refl) (λ s e. tt) (λ s e. tt) (over (inner.the_row R))
      (over (inner.the_row S))
      (struct_places (inner.the_type R) (inner.the_type S) (vec.mapped h, tt) _ (λ s. refl) refl
      (laid _ _ _ (vec.the_places heap.the_row ghosts R S h alike), tt))

  -- and is coded by the codes of its items
  pub the_codes_placed : Recodes R S h → Recodes (outer.the_row R) (outer.the_row S)
      ((the_former this).map R.Denot S.Denot h)
  the_codes_placed same xs = sym (code_map R.coded.code S.coded.code h (λ x. sym (same x)) xs)

-- comparing after a map is comparing along it
pub the_eq_natural : (X Y : Type 0) (h : X → Y) (V : eq.Ghosts Y) (xs ys : List X)
    → pointwise V.eq (map h xs) (map h ys) ≡ pointwise (λ a b. V.eq (h a) (h b)) xs ys
the_eq_natural X Y h V xs ys = pointwise-map h V.eq xs ys
