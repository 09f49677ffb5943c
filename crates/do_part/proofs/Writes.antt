-- A part stays sound where a slot is written or an object created.
use Rattle.std.proofs.Common.{◌≡◌, ℕ, ◌+◌, ◌<◌, ◌≤◌, ◌^◌, false, IsSome, map, refl, sym, ap, ◌∙◌}
use Rattle.std.{proofs.Common.{arith, subst}, specs.Prelude.◌==◌}
use Rattle.do_base.specs.{names.Names.ObjectName, declared.values.value.Value.Value}
use Rattle.do_export.specs.Counts.{count_of}
use Rattle.do_import.specs.Imported.{Imported}
use Rattle.do_machine.specs.{Lists.change_first, Objects.object_at, run.Changes.with_writes}
use Rattle.do_store.specs.Names.{Stored as Kept, find_stored, named_in, AllStored}
use Rattle.do_part.specs.Holding.{plain, CanCome, CanGo, HasCome, HasGone}
use Rattle.do_part.specs.Names.{counted, value_of, values_of, size_of, sizes_of, stack_of, heap_of}
use Rattle.do_part.specs.{Names.AreStored, Owned.Owned, Seen.{own_of, owned_of}, Sound.IsBalanced}
use Rattle.do_part.specs.{Sound.{IsSound, holders, uses}, declared.holders.Holders.Holders}
use Rattle.do_part.specs.declared.{part.Part.TheInside.Inside, tally.Tally.TheVariants.Less}
use Rattle.do_part.proofs.{Balanced.{still_some, can_go, named-plain}, Bounds.{value-le, values-le}}
use Rattle.do_part.proofs.Created.{Created, names-created, balanced-created}
use Rattle.do_part.proofs.Naming.{counted-own, counted-foreign, counted-most}
use Rattle.do_part.proofs.Linking.{SameImports, links_kept}
use Rattle.do_part.proofs.Rest.{SameNumbers, numbers_then, numbers_came, numbers_gone, own_moved}
use Rattle.do_part.proofs.Slots.{Wrote, one_write, heap-wrote, names-wrote, balanced-wrote}
use Rattle.do_part.proofs.{Steps.can-less, Stored.found-stored, Tallying.tallied-none}
use Rattle.do_part.proofs.Turning.{sound_come, balanced_in, sound_after, room_below}

module _ (i : Inside) (s : IsSound i) (v : Owned) (is : owned_of i ≡ v) (d : ObjectName → ℕ)
    (size : ℕ) (stored : AreStored v.own.node d) (small : (o : ObjectName) → d o ≤ size)
    (room : size ≤ v.room.names) where
  -- what slots name that is counted
  abbrev pub lot : ObjectName → ℕ
  lot = counted false i.holders.node d

  -- names can come to stand in slots
  pub slots_come : CanCome i.holders lot size
  slots_come = can-less i.holders d lot size size (sound_come i s v is d size stored small room)
      (λ o. counted-most false i.holders.node d o) (omega arith)

  module _ (b : Holders) (come : HasCome i.holders b lot size) where
    -- what the slots name is stored
    pub slots_known : (n : ℕ) → 0 < d (object_at b.node n) → IsSome (find_stored b.store.objects n)
    slots_known n above =
        let at = ap (λ p. d (object_at p n)) come.came.node in
        still_some i.holders.store.objects b.store.objects n come.came.heap
        (found-stored i.holders.store.objects n
        (subst (λ (w : Owned). AreStored w.own.node d) (sym is) stored n (omega arith)))

    -- in the store's words
    pub slots_stored : AllStored b.store.node b.store.objects (λ n. d (object_at b.store.node n))
    slots_stored = subst (λ p. AllStored p b.store.objects (λ n. d (object_at p n))) (sym home)
        slots_known
      where
        -- the store's node is the node
        home : b.store.node ≡ b.node
        home = come.came.home ∙ s.balanced.home ∙ sym come.came.node

    -- no own object is named too often then
    pub slots_bound : (n : ℕ) → 0 < d (object_at b.store.node n)
        → named_in b.store.node n b.store.objects + d (object_at b.store.node n) < 2 ^ 64
    slots_bound n above =
        let x = named-plain b.store.node n b.store.objects in
        let y = ap (λ h. heap_of h (object_at b.store.node n)) come.came.heap in
        let z = s.few (object_at b.store.node n) in
        let w = small (object_at b.store.node n) in
        let m = (room_below i s v is size room).1 in
        omega arith

    -- the balance once they came
    pub slots_came : IsBalanced b (λ n. holders (own_of i) n + lot (object_at i.holders.node n))
        (λ o. uses i o + lot o)
    slots_came = balanced_in i s v is b lot size
        (λ n above. stored n
        (let m = counted-most false i.holders.node d (object_at v.own.node.port n) in omega arith))
        come

-- the part once a slot was written
module _ (i : Inside) (s : IsSound i) (v : Owned) (is : owned_of i ≡ v) (w : Value)
    (stored : AreStored v.own.node (value_of w)) (room : size_of w ≤ v.room.names)
    (b c : Holders) (n at : ℕ) (old : Value)
    (come : HasCome i.holders b (counted false i.holders.node (value_of w)) (size_of w))
    (wrote : Wrote b c n at w old) where
  -- the balance before the write
  before : IsBalanced b
      (λ m. holders (own_of i) m
      + counted false i.holders.node (value_of w) (object_at i.holders.node m))
      (λ o. uses i o + counted false i.holders.node (value_of w) o)
  before = slots_came i s v is (value_of w) (size_of w) stored (λ o. value-le o w) room b come

  -- and after it
  after : IsBalanced c
      (λ m. holders (own_of i) m
      + counted false i.holders.node (value_of w) (object_at i.holders.node m))
      (λ o. uses i o + counted false i.holders.node (value_of w) o)
  after = balanced-wrote b c n at w old wrote _ _ before
      (slots_known i s v is (value_of w) (size_of w) stored (λ o. value-le o w) room b come)

  -- the node is the same
  node : c.node ≡ i.holders.node
  node = wrote.node ∙ come.came.node

  -- the slots name the value, and no longer the old one
  names : (o : ObjectName) → heap_of (map plain c.store.objects) o + value_of old o
      ≡ heap_of (map plain i.holders.store.objects) o + value_of w o
  names o =
      let x = names-wrote b c n at w old wrote _ _ before o in
      let y = ap (λ l. heap_of l o) come.came.heap in
      omega arith

  -- the old value's names can go
  pub wrote_go : CanGo c (counted false c.node (value_of old))
  wrote_go = can_go c (counted false c.node (value_of old)) _ _ after
      (λ m. let x = counted-own c.node (value_of old) m in omega arith)
      (λ o away. let x = counted-foreign false c.node (value_of old) o away in
      let y = counted-foreign false i.holders.node (value_of w) o (λ h. away (h ∙ sym node)) in
      let z = names o in omega arith)

  module _ (e : Holders) (gone : HasGone c e (counted false c.node (value_of old)))
      (same : c.names ≡ b.names) where
    -- the heap is that of the node with the slot written
    heap : map plain e.store.objects ≡ change_first (λ x. x.serial == n)
        (with_writes (one_write at w)) (map plain i.holders.store.objects)
    heap = sym gone.went.heap ∙ heap-wrote b c n at w old wrote _ _ before
        ∙ ap (change_first (λ x. x.serial == n) (with_writes (one_write at w))) come.came.heap

    -- what is held of other nodes is the same, but for its uses
    imports : SameImports i.holders.imports e.imports
    imports = (numbers_gone c e (counted false c.node (value_of old)) gone).imports
        ∙ ap (λ (m : Imported). record m { uses = e.imports.uses; spare = e.imports.spare })
        (wrote.imports ∙ come.came.imports)

    -- all numbers are the same
    numbers : c.store.spare ≡ b.store.spare → SameNumbers i.holders e
    numbers spare = numbers_then i.holders c e
        (numbers_then i.holders b c
        (numbers_came i.holders b (counted false i.holders.node (value_of w)) (size_of w) come)
        (record {
          node = wrote.node;
          next = wrote.next;
          spare = spare;
          imports = subst
              (λ (m : Imported). m ≡ record b.imports { uses = m.uses; spare = m.spare })
              (sym wrote.imports) refl;
        }))
        (numbers_gone c e (counted false c.node (value_of old)) gone)

    -- the part has what it had, with the slot written
    pub own_wrote : c.store.spare ≡ b.store.spare
        → own_of (record i { holders = e }) ≡ record (own_of i) {
          node = record (own_of i).node {
            heap = change_first (λ x. x.serial == n) (with_writes (one_write at w))
                (own_of i).node.heap;
          };
        }
    own_wrote spare = own_moved i (record i { holders = e }) (numbers spare)
        ∙ λ k. record (own_of i) { node = record (own_of i).node { heap = heap k } }

    -- and is sound
    pub sound_wrote : IsSound (record i { holders = e })
    sound_wrote =
        sound_after i s v is j c (counted false i.holders.node (value_of w))
        (counted false i.holders.node (value_of old)) (size_of w) room after node
        (same ∙ come.names) went refl
        (λ m. let x = counted-own i.holders.node (value_of old) m in
        let y = counted-own i.holders.node (value_of w) m in
        let z = ap (λ p. stack_of i.stack.invocations (object_at p m)) last in omega arith)
        (λ o away. let x = counted-foreign false i.holders.node (value_of old) o away in
        let y = counted-foreign false i.holders.node (value_of w) o away in
        let z = used o in omega arith)
        (λ o. let z = used o in let f = s.few o in let l = value-le o w in omega arith) s.numbered
        (links_kept i j s.links last imports (let x = come.names in
        let y = gone.names in omega (arith, x, y, same)) refl refl)
      where
        -- the part after it
        j : Inside
        j = record i { holders = e }

        -- what went, at this node
        went : HasGone c e (counted false i.holders.node (value_of old))
        went = subst (λ p. HasGone c e (counted false p (value_of old))) node gone

        last : e.node ≡ i.holders.node
        last = sym gone.went.node ∙ node

        -- how often an object is used
        used : (o : ObjectName) → uses j o + value_of old o ≡ uses i o + value_of w o
        used o =
            let x = names o in
            let y = ap (λ l. heap_of l o) gone.went.heap in
            let z = ap (λ (m : Imported). count_of m.named o.node o.serial) gone.went.imports in
            let u = ap (λ (m : Imported). count_of m.named o.node o.serial) wrote.imports in
            let t = ap (λ (m : Imported). count_of m.named o.node o.serial) come.came.imports in
            omega arith

-- the part is sound once an object was created
pub sound_created : (i : Inside) (s : IsSound i) (v : Owned) (is : owned_of i ≡ v) (b c : Holders)
    (x : Kept) → AreStored v.own.node (values_of x.slots) → sizes_of x.slots ≤ v.room.names
    → HasCome i.holders b (counted false i.holders.node (values_of x.slots)) (sizes_of x.slots)
    → Created b c x → c.names ≡ b.names → IsSound (record i { holders = c })
sound_created i s v is b c x stored room come w same =
    sound_after i s v is j c (counted false i.holders.node (values_of x.slots)) (λ o. 0)
    (sizes_of x.slots) room
    (balanced-created b c x w _ _ before
    (slots_known i s v is (values_of x.slots) (sizes_of x.slots) stored (λ o. values-le o x.slots)
    room b come)) node (same ∙ come.names)
    (tallied-none Less c (λ o. 0) 0 (λ o. refl) refl) refl
    (λ m. let y = counted-own i.holders.node (values_of x.slots) m in
    let z = ap (λ p. stack_of i.stack.invocations (object_at p m)) node in omega arith)
    (λ o away. let y = counted-foreign false i.holders.node (values_of x.slots) o away in
    let z = used o in omega arith)
    (λ o. let z = used o in let f = s.few o in let l = values-le o x.slots in omega arith)
    s.numbered
    (links_kept i j s.links node imports (let y = come.names in omega (arith, y, same)) refl refl)
  where
    -- the part after it
    j : Inside
    j = record i { holders = c }

    -- the balance before
    before : IsBalanced b
        (λ m. holders (own_of i) m
        + counted false i.holders.node (values_of x.slots) (object_at i.holders.node m))
        (λ o. uses i o + counted false i.holders.node (values_of x.slots) o)
    before = slots_came i s v is (values_of x.slots) (sizes_of x.slots) stored
        (λ o. values-le o x.slots) room b come

    -- the node is the same
    node : c.node ≡ i.holders.node
    node = w.node ∙ come.came.node

    -- what is held of other nodes is the same, but for its uses
    imports : SameImports i.holders.imports c.imports
    imports = subst (SameImports i.holders.imports) (sym w.imports) come.came.imports

    -- the slots of the new object name besides what they name
    used : (o : ObjectName) → uses j o ≡ uses i o + values_of x.slots o
    used o =
        let y = names-created b c x w _ _ before o in
        let z = ap (λ l. heap_of l o) come.came.heap in
        let u = ap (λ (m : Imported). count_of m.named o.node o.serial) w.imports in
        let t = ap (λ (m : Imported). count_of m.named o.node o.serial) come.came.imports in
        omega arith
