-- One token more of a value.
use Rattle.std.proofs.Common.{◌≡◌, Bool, true, false, cond, ℕ, zero, suc, List, Option, Some, None}
use Rattle.std.proofs.{Common.{ap, ◌∙◌, refl, arith}, lemmas.Bool.ne_eqb}
use Rattle.do_record.specs.Value.{Walked, behind_value, is_walked, walk_one, walks}

-- all that is walked is a value
pub walks_done : (n : ℕ) (want : Bool) (depth : ℕ) (rest : List ℕ) →
    is_walked want depth rest ≡ true → walks n want depth rest ≡ true
walks_done zero want depth rest e = e
walks_done (suc n) want depth rest e = ap (λ b. cond b true (elim (walk_one want depth rest) [
  | None ↦ false
  | Some s ↦ walks n s.0 s.1 s.2
])) e

-- what a token leads to
walks_by : (n : ℕ) (want : Bool) (depth : ℕ) (rest : List ℕ) (o : Option Walked) →
    is_walked want depth rest ≡ false → walk_one want depth rest ≡ o →
    walks (suc n) want depth rest ≡ elim o [ None ↦ false | Some s ↦ walks n s.0 s.1 s.2 ]
walks_by n want depth rest o e f = ap (λ b. cond b true (elim (walk_one want depth rest) [
  | None ↦ false
  | Some s ↦ walks n s.0 s.1 s.2
])) e ∙ ap (λ (x : Option Walked). elim x [ None ↦ false | Some s ↦ walks n s.0 s.1 s.2 ]) f

-- no token is there
pub walks_none : (n m : ℕ) (want : Bool) (depth : ℕ) (rest : List ℕ) → n ≡ suc m →
    is_walked want depth rest ≡ false → walk_one want depth rest ≡ None →
    walks n want depth rest ≡ false
walks_none n m want depth rest is e f =
    ap (λ k. walks k want depth rest) is ∙ walks_by m want depth rest None e f

-- a token is there
pub walks_some : (n m : ℕ) (want : Bool) (depth : ℕ) (rest : List ℕ) (s : Walked) → n ≡ suc m →
    is_walked want depth rest ≡ false → walk_one want depth rest ≡ Some s →
    walks n want depth rest ≡ walks m s.0 s.1 s.2
walks_some n m want depth rest s is e f =
    ap (λ k. walks k want depth rest) is ∙ walks_by m want depth rest (Some s) e f

-- while a list is open the walk is not over
pub not_over : (depth : ℕ) (rest : List ℕ) → is_walked false (suc depth) rest ≡ false
not_over depth rest = rw (ne_eqb (suc depth) 0 (λ (e : suc depth ≡ 0). omega arith)) refl

-- and it goes on with a space or a bracket
pub open_walks : (n depth : ℕ) (rest : List ℕ) →
    walks (suc n) false (suc depth) rest
    ≡ elim (behind_value (suc depth) rest) [ None ↦ false | Some s ↦ walks n s.0 s.1 s.2 ]
open_walks n depth rest =
    walks_by n false (suc depth) rest (behind_value (suc depth) rest) (not_over depth rest) refl
