-- The lines of plans are read exactly.
use Rattle.std.proofs.Common.{◌≡◌, ◌≢◌, ℕ, ◌≤◌, ◌^◌, Bool, true, false, List as Listed, [], ◌∷◌}
use Rattle.std.proofs.Common.{◌++◌, Some, None, refl, sym, ap, subst, ◌∙◌, arith}
use Rattle.std.specs.{Prelude.{codes, not, ◌==◌, ◌&&◌, ◌||◌, nat_eq}, List.list_all, Fmt.decimal}
use Rattle.std.specs.Str.{bytes_eq}
use Rattle.std.proofs.lemmas.{Bool.Decides.nat_tests, Slice.Eq.bytes_eq-Decides}
use Rattle.do_cli.specs.Forms.{names_file, names_builtin}
use Rattle.do_grammar.specs.{Dec.dec_in, Words.{◌>>?◌, Without, word}}
use Rattle.do_grammar.proofs.texts.WordBytes.{some_is, chain_some, Without-passes, Without-append}
use Rattle.do_grammar.proofs.texts.DecExact.{dec_takes, dec_again, cond_some}
use Rattle.do_grammar.proofs.texts.{IntExact.Without-decimal, WordExact.{word_takes, word_again}}
use Rattle.do_sched.specs.{Good.IsPort, Reading.port_at}
use Rattle.do_plan.specs.{declared.plan.PlanLine.PlanLine, Reading.{Reads, on_word}}
use Rattle.do_plan.specs.Plan.{holds, is_one_word, is_file, is_world, plan_spelling, IsPlanLine}
use Rattle.do_plan.specs.Plan.{plan_form, served_at, files_at, node_at, plan_at}
use Rattle.do_plan.proofs.WordChoice.{by_word, feed_free}

-- ---- words

-- bytes that are not found equal are apart
apart : (a b : ℕ) → nat_eq a b ≡ false → a ≢ b
apart a b h = λ (e : a ≡ b). grind (arith, nat_tests)

-- a byte that does not stand in a text stands nowhere in it
held_free : (byte : ℕ) (text : Listed ℕ) → holds byte text ≡ false → Without byte text
held_free byte [] h = tt
held_free byte (b ∷ text) h = go (nat_eq b byte) refl h (held_free byte text)
  where
    go : (t : Bool) → nat_eq b byte ≡ t → (t || holds byte text) ≡ false
        → (holds byte text ≡ false → Without byte text) → Without byte (b ∷ text)
    go true p q rest = absurd cc
    go false p q rest = (apart b byte p, rest q)

-- in a word stands neither a space nor a line feed
word_free : (text : Listed ℕ) → is_one_word text ≡ true → Without 32 text × Without 10 text
word_free text h = go (holds 32 text) (holds 10 text) refl refl h
  where
    go : (s t : Bool) → holds 32 text ≡ s → holds 10 text ≡ t → (not s && not t) ≡ true
        → Without 32 text × Without 10 text
    go false false p q r = (held_free 32 text p, held_free 10 text q)
    go false true p q r = absurd cc
    go true t p q r = absurd cc

-- nor in a file's name
file_free : (text : Listed ℕ) → is_file text ≡ true → Without 32 text × Without 10 text
file_free text h = go (names_file text) h
  where
    go : (t : Bool) → (t && is_one_word text) ≡ true → Without 32 text × Without 10 text
    go true q = word_free text q
    go false q = absurd cc

-- nor in the name of a built-in world
builtin_free : (text : Listed ℕ) → names_builtin text ≡ true → Without 32 text × Without 10 text
builtin_free text h =
    go (bytes_eq text (codes ":counter")) (bytes_eq text (codes ":mesh")) refl refl h
  where
    free : (name : Listed ℕ) → list_all (λ b. not (b == 32)) name ≡ true
        → list_all (λ b. not (b == 10)) name ≡ true → bytes_eq text name ≡ true
        → Without 32 text × Without 10 text
    free name s f e =
        subst (λ (w : Listed ℕ). Without 32 w × Without 10 w)
        (sym ((bytes_eq-Decides text name).0 e))
        (Without-passes (λ b. not (b == 32)) 32 name refl s, feed_free name f)

    go : (s t : Bool) → bytes_eq text (codes ":counter") ≡ s → bytes_eq text (codes ":mesh") ≡ t
        → (s || t) ≡ true → Without 32 text × Without 10 text
    go true t p q r = free (codes ":counter") refl refl p
    go false true p q r = free (codes ":mesh") refl refl q
    go false false p q r = absurd cc

-- nor in the word of a world
world_free : (text : Listed ℕ) → is_world text ≡ true → Without 32 text × Without 10 text
world_free text h = go (names_builtin text) refl h
  where
    go : (t : Bool) → names_builtin text ≡ t → (t || is_file text) ≡ true
        → Without 32 text × Without 10 text
    go true p q = builtin_free text p
    go false p q = file_free text q

-- ---- what is read is spelled so

-- a line with this port and world, of whose spelling these bytes are the rest
record Serves (port : ℕ) (world bytes : Listed ℕ) (l : PlanLine) : Type 0 where
  at : port ≡ l.port
  in_world : world ≡ l.world
  spelled : bytes ≡ l.starts ++ 32 ∷ decimal l.turns
  starts : is_file l.starts ≡ true
  least : 1 ≤ l.turns
  most : l.turns ≤ 2 ^ 40

-- what is read behind a world is spelled so
served_takes : (port : ℕ) (world bytes : Listed ℕ) (l : PlanLine)
    → (word 32 bytes >>? served_at port world) ≡ Some l → Serves port world bytes l
served_takes port world bytes l h =
    let a = chain_some (word 32 bytes) (served_at port world) l h in
    let c = cond_some (is_file a.0.0) (dec_in 1 1099511627776 a.0.1 >>? λ n.
    Some (record { port = port; world = world; starts = a.0.0; turns = n })) l a.2 in
    let d = chain_some (dec_in 1 1099511627776 a.0.1) (λ n.
    Some (record { port = port; world = world; starts = a.0.0; turns = n })) l c.1 in
    let t = dec_takes 1 1099511627776 a.0.1 d.0 (omega arith) d.1 in
    subst (Serves port world bytes)
    {x = record { port = port; world = world; starts = a.0.0; turns = d.0 }} (some_is _ l d.2)
    (record {
      at = refl;
      in_world = refl;
      spelled = word_takes 32 bytes a.0 a.1 ∙ ap (λ (w : Listed ℕ). a.0.0 ++ 32 ∷ w) t.0;
      starts = c.0;
      least = t.1;
      most = let most = t.2 in omega arith;
    })

-- what is read behind `node ` is spelled so
node_takes : (bytes : Listed ℕ) (l : PlanLine) → (word 32 bytes >>? node_at) ≡ Some l
    → (codes "node" ++ 32 ∷ bytes ≡ plan_spelling l) × IsPlanLine l
node_takes bytes l h =
    let a = chain_some (word 32 bytes) node_at l h in
    let b = chain_some (port_at a.0.0) (λ p. word 32 a.0.1 >>? files_at p) l a.2 in
    let c = chain_some (word 32 a.0.1) (files_at b.0) l b.2 in
    let d = cond_some (is_world c.0.0) (word 32 c.0.1 >>? served_at b.0 c.0.0) l c.2 in
    let port = dec_takes 1 65535 a.0.0 b.0 (omega arith) b.1 in
    let s = served_takes b.0 c.0.0 c.0.1 l d.1 in
    let at = s.at in (
      ap (λ (w : Listed ℕ). codes "node" ++ 32 ∷ w) (word_takes 32 bytes a.0 a.1
          ∙ ap (λ (w : Listed ℕ). w ++ 32 ∷ a.0.1) (port.0 ∙ ap decimal s.at)
          ∙ ap (λ (w : Listed ℕ). decimal l.port ++ 32 ∷ w) (word_takes 32 a.0.1 c.0 c.1
          ∙ ap (λ (w : Listed ℕ). w ++ 32 ∷ c.0.1) s.in_world
          ∙ ap (λ (w : Listed ℕ). l.world ++ 32 ∷ w) s.spelled)),
      record {
        at_port = subst IsPort s.at (port.1, port.2);
        world = subst (λ (w : Listed ℕ). is_world w ≡ true) s.in_world d.0;
        starts = s.starts;
        least = s.least;
        most = s.most;
      },
    )

-- what is read as a line is spelled so, and good
plan_takes : (text : Listed ℕ) (l : PlanLine) → plan_at text ≡ Some l
    → (text ≡ plan_spelling l) × IsPlanLine l
unfolding plan_at
plan_takes text l h =
    let a = chain_some (word 32 text) (λ w.
    on_word (codes "node") w.0 (word 32 w.1 >>? node_at) None) l h in
    by_word (codes "node") a.0.0 (word 32 a.0.1 >>? node_at) None l a.2 (λ p q.
    let n = node_takes a.0.1 l q in (
      word_takes 32 text a.0 a.1 ∙ ap (λ (w : Listed ℕ). w ++ 32 ∷ a.0.1) p ∙ n.0,
      n.1,
    )) (λ q. absurd cc)

-- ---- a good line is read from its spelling

plan_again : (l : PlanLine) → IsPlanLine l → plan_at (plan_spelling l) ≡ Some l
unfolding plan_at
plan_again l h =
    let most = h.at_port.1 in
    let behind = l.starts ++ 32 ∷ decimal l.turns in
    rw (
      word_again 32 (decimal l.port) (l.world ++ 32 ∷ behind)
          (Without-decimal 32 l.port (omega arith) (omega arith)),
      dec_again 1 65535 l.port (omega arith) h.at_port.0 h.at_port.1,
      word_again 32 l.world behind (world_free l.world h.world).0,
      h.world,
      word_again 32 l.starts (decimal l.turns) (file_free l.starts h.starts).0,
      h.starts,
      dec_again 1 1099511627776 l.turns (omega arith) h.least h.most,
    ) refl

-- ---- spellings

-- no spelling has a line feed
plan_free : (l : PlanLine) → IsPlanLine l → Without 10 (plan_spelling l)
plan_free l h =
    let port = h.at_port.1 in
    let turns = h.most in
    Without-append 10 (codes "node ") _ (feed_free (codes "node ") refl)
    (spaced (decimal l.port) _ (Without-decimal 10 l.port (omega arith) (omega arith))
    (spaced l.world _ (world_free l.world h.world).1
    (spaced l.starts _ (file_free l.starts h.starts).1
    (Without-decimal 10 l.turns (omega arith) (omega arith)))))
  where
    spaced : (first rest : Listed ℕ) → Without 10 first → Without 10 rest
        → Without 10 (first ++ 32 ∷ rest)
    spaced first rest p q =
        Without-append 10 first (32 ∷ rest) p (λ (e : 32 ≡ 10). omega arith, q)

-- the lines of a plan are read
pub plans_read : Reads plan_form plan_at
plans_read = record {
  sound = plan_takes;
  reads_spelling = plan_again;
  no_feed = plan_free;
  no_end = λ l h. refl;
  header_free = feed_free (codes "plan 1") refl;
}
