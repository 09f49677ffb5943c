-- Names that are sent one after another.
use Rattle.std.proofs.Common.{◌≡◌, ℕ, ◌+◌, ◌≤◌, ◌^◌, true, List, ◌∷◌, length, refl, ap, ◌∙◌, sym}
use Rattle.std.proofs.{Common.{subst, arith, drop, get_or, ◌<◌}, lemmas.List.{drop_all, drop_more}}
use Rattle.do_class.specs.declared.packet.Name.{Name, TheVariants.{Lent, Mine, Yours}}
use Rattle.do_machine.specs.State.{is_open}
use Rattle.do_network.specs.Own.{Own}
use Rattle.do_part.specs.Owned.{Owned, Room}
use Rattle.do_effects.specs.{Named.{all_named_to, named_to}, Room.{PartHasRoom, PartKeepsRoom}}
use Rattle.do_effects.specs.{Room.to_name, Sends.{CanName, CanNameAll, token_after}}

-- so many names were sent, these are left, and they still can be sent
pub record IsNaming (to : ℕ) (whole left : List Name) (done : ℕ) (was : Owned) (p : Own)
    (spare : Room) : Type 0 where
  pub parts : done + length left ≡ length whole
  pub own : all_named_to to left p ≡ all_named_to to whole was.own
  pub here : is_open p.node to ≡ true
  pub can : CanNameAll p.node.heap p.node.port p.node.next_token left
  pub tokens : p.node.next_token + length left ≤ 2 ^ 62
  pub room : PartHasRoom (to_name (length left)) spare
  pub kept : PartKeepsRoom (to_name done) was.room spare

-- no name was sent yet
pub names_begin : (to : ℕ) (whole : List Name) (was : Owned) → is_open was.own.node to ≡ true →
    CanNameAll was.own.node.heap was.own.node.port was.own.node.next_token whole →
    was.own.node.next_token + length whole ≤ 2 ^ 62 →
    PartHasRoom (to_name (length whole)) was.room →
    IsNaming to whole whole 0 was was.own was.room
names_begin to whole was here can tokens room = record {
  parts = omega arith;
  own = refl;
  here = here;
  can = can;
  tokens = tokens;
  room = room;
  kept = record {
    objects = omega arith;
    invocations = omega arith;
    names = omega arith;
    entries = omega arith;
  };
}

-- naming leaves the ends, the objects and the port
record NamesAlone (to : ℕ) (x : Name) (p : Own) : Type 0 where
  ends : (named_to to p x).node.open_to ≡ p.node.open_to
  heap : (named_to to p x).node.heap ≡ p.node.heap
  port : (named_to to p x).node.port ≡ p.node.port
  token : (named_to to p x).node.next_token ≡ token_after p.node.next_token x
  below : token_after p.node.next_token x ≤ p.node.next_token + 1

-- so for each name
names_alone : (to : ℕ) (x : Name) (p : Own) → NamesAlone to x p
names_alone to (Mine serial class) p = record {
  ends = refl;
  heap = refl;
  port = refl;
  token = refl;
  below = omega arith;
}
names_alone to (Yours serial) p = record {
  ends = refl;
  heap = refl;
  port = refl;
  token = refl;
  below = omega arith;
}
names_alone to (Lent o class number) p = record {
  ends = refl;
  heap = refl;
  port = refl;
  token = refl;
  below = omega arith;
}

-- one more name is sent
pub names_next : (to : ℕ) (whole left : List Name) (x : Name) (done : ℕ) (was : Owned)
    (p later : Own) (room more : Room) → IsNaming to whole (x ∷ left) done was p room →
    later ≡ named_to to p x → PartKeepsRoom (to_name 1) room more →
    IsNaming to whole left (done + 1) was later more
names_next to whole left x done was p later room more n is keeps =
    let a = names_alone to x p in
    subst (λ (q : Own). IsNaming to whole left (done + 1) was q more) (sym is) (record {
      parts = (let e = n.parts in omega (arith, e));
      own = n.own;
      here = ap (λ ends. is_open (record p.node { open_to = ends }) to) a.ends ∙ n.here;
      can = subst (λ heap. CanNameAll heap (named_to to p x).node.port
          (named_to to p x).node.next_token left) (sym a.heap)
          (subst (λ port. CanNameAll p.node.heap port (named_to to p x).node.next_token left)
          (sym a.port)
          (subst (λ token. CanNameAll p.node.heap p.node.port token left) (sym a.token) n.can.1));
      tokens = (let t = n.tokens in let b = a.below in let e = a.token in
          omega (arith, t, b, e));
      room = record {
        objects = (let r = n.room.objects in let k = keeps.objects in omega (arith, r, k));
        invocations =
            (let r = n.room.invocations in let k = keeps.invocations in omega (arith, r, k));
        names = (let r = n.room.names in let k = keeps.names in omega (arith, r, k));
        entries = (let r = n.room.entries in let k = keeps.entries in omega (arith, r, k));
      };
      kept = record {
        objects = (let r = n.kept.objects in let k = keeps.objects in omega (arith, r, k));
        invocations =
            (let r = n.kept.invocations in let k = keeps.invocations in omega (arith, r, k));
        names = (let r = n.kept.names in let k = keeps.names in omega (arith, r, k));
        entries = (let r = n.kept.entries in let k = keeps.entries in omega (arith, r, k));
      };
    })

-- the next of the names that are left
pub names_at : (to : ℕ) (whole items : List Name) (x : Name) (i : ℕ) (was : Owned) (p : Own)
    (room : Room) → items ≡ whole → i < length items → x ≡ get_or items i x →
    IsNaming to whole (drop i whole) i was p room →
    IsNaming to whole (x ∷ drop (i + 1) whole) i was p room
names_at to whole items x i was p room same less is n =
    subst (λ (left : List Name). IsNaming to whole left i was p room)
    (ap (drop i) (sym same) ∙ drop_more items i x less
    ∙ (λ j. sym is j ∷ drop (i + 1) (same j))) n

-- what can be done where a name is next
pub record IsNext (to : ℕ) (x : Name) (p : Own) (spare : Room) : Type 0 where
  pub here : is_open p.node to ≡ true
  pub can : CanName p.node.heap p.node.port p.node.next_token x
  pub tokens : p.node.next_token < 2 ^ 62
  pub room : PartHasRoom (to_name 1) spare

-- the first of the names that are left can be sent
next_of : (to : ℕ) (whole left : List Name) (x : Name) (done : ℕ) (was : Owned) (p : Own)
    (room : Room) → IsNaming to whole (x ∷ left) done was p room → IsNext to x p room
next_of to whole left x done was p room n = record {
  here = n.here;
  can = n.can.0;
  tokens = (let t = n.tokens in omega (arith, t));
  room = record {
    objects = omega arith;
    invocations = omega arith;
    names = (let r = n.room.names in omega (arith, r));
    entries = (let r = n.room.entries in omega (arith, r));
  };
}

-- so of the name at a place
pub next_at : (to : ℕ) (whole items : List Name) (x : Name) (i : ℕ) (was now : Owned) →
    items ≡ whole → i < length items → x ≡ get_or items i x →
    IsNaming to whole (drop i whole) i was now.own now.room → IsNext to x now.own now.room
next_at to whole items x i was now same less is n =
    next_of to whole (drop (i + 1) whole) x i was now.own now.room
    (names_at to whole items x i was now.own now.room same less is n)

-- all names were sent
pub record IsNamed (to : ℕ) (whole : List Name) (was : Owned) (p : Own) (room : Room) : Type 0 where
  pub own : p ≡ all_named_to to whole was.own
  pub kept : PartKeepsRoom (to_name (length whole)) was.room room

-- once no name is left all were sent
pub names_end : (to : ℕ) (whole items : List Name) (i : ℕ) (was : Owned) (p : Own)
    (room : Room) → items ≡ whole → length items ≤ i →
    IsNaming to whole (drop i whole) i was p room → IsNamed to whole was p room
names_end to whole items i was p room same all n =
    let none = ap (drop i) (sym same) ∙ drop_all i items all in
    let few : i ≤ length whole = (let e = n.parts in omega (arith, e)) in
    record {
      own = ap (λ (left : List Name). all_named_to to left p) (sym none) ∙ n.own;
      kept = record {
        objects = (let k = n.kept.objects in omega (arith, k));
        invocations = (let k = n.kept.invocations in omega (arith, k));
        names = (let k = n.kept.names in omega (arith, k, few));
        entries = (let k = n.kept.entries in omega (arith, k, few));
      };
    }
