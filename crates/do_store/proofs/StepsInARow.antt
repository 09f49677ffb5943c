-- Steps that count names: none, one after the other, and the same names in other words.
use Rattle.std.proofs.Common.{◌≡◌, ◌≢◌, ℕ, ◌+◌, cond, eqb, eq-eqb, ne_eqb, map, refl, sym, ap, ◌∙◌}
use Rattle.std.proofs.Common.{arith}
use Rattle.do_store.specs.{Objects.Stock, Names.named_in, Queue.Queue, Books.seen}
use Rattle.do_store.specs.Steps.{Raises, Lowers}

-- two steps that raise counts, one after the other, raise them by the sum
pub raises-then : (port : ℕ) (a b c : Stock) (d e f : ℕ → ℕ) → Raises port a b d → Raises port b c e
    → ((n : ℕ) → f n ≡ d n + e n) → Raises port a c f
raises-then port a b c d e f first second sum = record {
  books = λ queue p p' books bound is.
      second.books queue (λ n. p n + d n) p'
      (first.books queue p (λ n. p n + d n) books
      (λ n above. let y = sum n in let x = bound n (omega arith) in omega arith) (λ n. refl))
      (λ n above. let y = sum n in let x = bound n (omega arith) in
      let z : named_in port n (map seen b.objects) ≡ named_in port n (map seen a.objects) =
      ap (named_in port n) first.seen in omega arith)
      (λ n. let x = is n in let y = sum n in omega arith);
  seen = second.seen ∙ first.seen;
  next = second.next ∙ first.next;
  spare = second.spare ∙ first.spare;
}

-- two steps that lower counts, one after the other, lower them by the sum
pub lowers-then : (port : ℕ) (a b c : Stock) (q q' q'' : Queue) (d e f : ℕ → ℕ)
    → Lowers port a b q q' d → Lowers port b c q' q'' e → ((n : ℕ) → f n ≡ d n + e n)
    → Lowers port a c q q'' f
lowers-then port a b c q q' q'' d e f first second sum = record {
  books = λ p p' books is.
      second.books (λ n. p' n + e n) p'
      (first.books p (λ n. p' n + e n) books (λ n. let x = is n in let y = sum n in omega arith))
      (λ n. refl);
  seen = second.seen ∙ first.seen;
  next = second.next ∙ first.next;
  spare = second.spare ∙ first.spare;
}

-- one name
abbrev pub once : ℕ → ℕ → ℕ
once serial n = cond (eqb serial n) 1 0

-- a serial is named once by itself
pub once_same : (n : ℕ) → once n n ≡ 1
once_same n = ap (λ b. cond b 1 0) (eq-eqb n n refl)

-- and never by another
pub once_other : (serial n : ℕ) → n ≢ serial → once serial n ≡ 0
once_other serial n differs = ap (λ b. cond b 1 0) (ne_eqb serial n (λ e. differs (sym e)))

-- counts that are raised are raised by the same names in other words
pub raises-as : (port : ℕ) (a b : Stock) (d f : ℕ → ℕ) → Raises port a b d → ((n : ℕ) → f n ≡ d n)
    → Raises port a b f
raises-as port a b d f r same = record {
  books = λ queue p p' books bound is.
      r.books queue p p' books
      (λ n above. let y = same n in let x = bound n (omega arith) in omega arith)
      (λ n. let x = is n in let y = same n in omega arith);
  seen = r.seen;
  next = r.next;
  spare = r.spare;
}

-- counts that are lowered are lowered by the same names in other words
pub lowers-as : (port : ℕ) (a b : Stock) (q q' : Queue) (d f : ℕ → ℕ) → Lowers port a b q q' d
    → ((n : ℕ) → f n ≡ d n) → Lowers port a b q q' f
lowers-as port a b q q' d f r same = record {
  books = λ p p' books is. r.books p p' books (λ n. let x = is n in let y = same n in omega arith);
  seen = r.seen;
  next = r.next;
  spare = r.spare;
}
