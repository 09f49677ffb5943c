-- Objects that a peer lent, received one at a time.
use Rattle.do_machine.specs.declared.item.Item.TheVariants as items
use Rattle.std.proofs.Common.{◌≡◌, Bool, true, false, not, [], ◌∷◌, refl, ap, sym, ◌∙◌, cond}
use Rattle.std.proofs.{Common.if◌then◌else◌, lemmas.Bool.false≢true}
use Rattle.do_base.specs.names.Names.{ObjectName, TokenName}
use Rattle.do_class.specs.declared.{ids.ClassId.ClassId, packet.Name.TheVariants.Lent}
use Rattle.do_machine.specs.{declared.node.{Node.Node, Wanted.Wanted}, Effect.{only, queueing}}
use Rattle.do_machine.specs.{State.is_open, lend.Asking.{settling, wanted}}
use Rattle.do_network.specs.Own.{Own}
use Rattle.do_effects.specs.{Doing.{Doing, does}, Taking.{HasClasses, gains}, Tidy.IsTidy}
use Rattle.do_effects.proofs.{Alone.does_tells, NamesAlone.closed_alone}

-- by a test that fails it is the second
pub either_own : (b : Bool) (x y p : Own) → b ≡ false → p ≡ (if b then x else y) → p ≡ y
either_own b x y p fails is = is ∙ ap (λ c. if c then x else y) fails

-- by one that passes the first
pub chosen_own : (b : Bool) (x y p : Own) → b ≡ true → p ≡ (if b then x else y) → p ≡ x
chosen_own b x y p passes is = is ∙ ap (λ c. if c then x else y) passes

-- what is not so is so
pub was_asked : (b : Bool) → not b ≡ false → b ≡ true
was_asked true e = refl
was_asked false e = absurd (false≢true (sym e))

-- and what is so is not
pub was_new : (b : Bool) → not b ≡ true → b ≡ false
was_new true e = absurd (false≢true e)
was_new false e = refl

-- a lender is told over an open end
pub settling_open : (w : Wanted) (n : Node) → is_open n w.token.lender ≡ true →
    settling w n ≡ queueing w.token.lender (items.Settled w.token.number) n
settling_open w n opened = ap (λ b. cond b (only n)
    (queueing w.token.lender (items.Settled w.token.number) n)) (ap not opened)

-- a lend whose home is closed is over
pub closed_settled : (d : Doing) (o : ObjectName) (class : ClassId) (t : TokenName) →
    IsTidy d.own → HasClasses d.own → is_open d.own.node t.lender ≡ true →
    is_open d.own.node o.node ≡ false →
    does d (settling (wanted o t.lender t.number) d.own.node)
    ≡ gains t.lender (Lent o class t.number ∷ []) d
closed_settled d o class t tidy knows opened closed =
    ap (does d) (settling_open (wanted o t.lender t.number) d.own.node opened)
    ∙ does_tells d t.lender (items.Settled t.number) tidy
    (record { exports = λ port. refl; gives = λ r. refl })
    ∙ sym (closed_alone d t.lender tidy o class t.number knows opened closed)
