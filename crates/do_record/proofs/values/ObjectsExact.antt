-- Names of objects are read exactly.
use Rattle.std.proofs.Common.{◌≡◌, ℕ, ◌<◌, Bool, true, false, cond, eqb, List, [], ◌∷◌, ◌++◌}
use Rattle.std.proofs.Common.{Option, Some, None, refl, ap, ◌∙◌, arith}
use Rattle.std.{specs.{Prelude.is_some, Fmt.decimal}, proofs.lemmas.Bool.eqb-true}
use Rattle.do_base.specs.names.Names.{ObjectName}
use Rattle.do_grammar.specs.{Dec.dec_in, Words.{◌>>?◌, word}}
use Rattle.do_grammar.proofs.texts.{DecExact.{dec_takes, dec_again}, IntExact.Without-decimal}
use Rattle.do_grammar.proofs.texts.{WordBytes.chain_some, WordExact.{word_takes, word_again}}
use Rattle.do_sched.specs.{Good.IsPort, Reading.port_at, Value.object_name}
use Rattle.do_record.specs.{GoodShown.IsObject, Value.{is_home_and_serial, is_object}}

-- ---- ports

-- what is read as a port is spelled so
pub port_takes : (bytes : List ℕ) (p : ℕ) → port_at bytes ≡ Some p → (bytes ≡ decimal p) × IsPort p
port_takes bytes p h = let t = dec_takes 1 65535 bytes p (omega arith) h in (t.0, (t.1, t.2))

-- a port is read from its digits
pub port_again : (p : ℕ) → IsPort p → port_at (decimal p) ≡ Some p
port_again p h = dec_again 1 65535 p (omega arith) h.0 h.1

-- a word that is a port, and what stands behind it
pub port_word : (end p : ℕ) (rest : List ℕ) → end < 48 → IsPort p
    → word end (decimal p ++ end ∷ rest) ≡ Some (decimal p, rest)
port_word end p rest low h =
    let most = h.1 in
    word_again end (decimal p) rest (Without-decimal end p low (omega arith))

-- ---- objects

-- a value that is there
pub there : {A : Type 0} (o : Option A) → is_some o ≡ true → (x : A) × (o ≡ Some x)
there None h = absurd cc
there (Some x) h = (x, refl)

-- the object that bytes name
pub record Names (bytes : List ℕ) : Type 0 where
  pub named : ObjectName
  pub spelled : bytes ≡ object_name named
  pub good : IsObject named

-- what is read as a home and a serial is a name behind its first byte
home_takes : (bytes : List ℕ) → is_home_and_serial bytes ≡ true → Names (35 ∷ bytes)
home_takes bytes h =
    let some = there (word 46 bytes >>? λ w. port_at w.0 >>? λ p.
    dec_in 1 9223372036854775807 w.1) h in
    let a = chain_some (word 46 bytes) (λ w. port_at w.0 >>? λ p.
    dec_in 1 9223372036854775807 w.1) some.0 some.1 in
    let b = chain_some (port_at a.0.0) (λ p. dec_in 1 9223372036854775807 a.0.1) some.0 a.2 in
    let home = port_takes a.0.0 b.0 b.1 in
    let serial = dec_takes 1 9223372036854775807 a.0.1 some.0 (omega arith) b.2 in
    let most = serial.2 in
    record {
      named = record { node = b.0; serial = some.0 };
      spelled = ap (λ w. 35 ∷ w) (word_takes 46 bytes a.0 a.1 ∙ ap (λ w. w ++ 46 ∷ a.0.1) home.0
          ∙ ap (λ w. decimal b.0 ++ 46 ∷ w) serial.0);
      good = record { home = home.1; least = serial.1; most = omega arith };
    }

-- what is read as an object's name is one
pub object_takes : (bytes : List ℕ) → is_object bytes ≡ true → Names bytes
object_takes [] h = absurd cc
object_takes (b ∷ bytes) h = go (eqb b 35) refl h
  where
    go : (t : Bool) → eqb b 35 ≡ t → cond t (is_home_and_serial bytes) false ≡ true
        → Names (b ∷ bytes)
    go true p q =
        let n = home_takes bytes q in
        record {
          named = n.named;
          spelled = ap (λ w. w ∷ bytes) (eqb-true b 35 p) ∙ n.spelled;
          good = n.good;
        }
    go false p q = absurd cc

-- an object's name is read
pub object_again : (o : ObjectName) → IsObject o → is_object (object_name o) ≡ true
object_again o h =
    let most = h.most in
    rw (
      port_word 46 o.node (decimal o.serial) (omega arith) h.home,
      port_again o.node h.home,
      dec_again 1 9223372036854775807 o.serial (omega arith) h.least (omega arith),
    ) refl
