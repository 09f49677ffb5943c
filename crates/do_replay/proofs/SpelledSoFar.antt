-- The lines that were done so far, in which each frame that was sent has a spelling.
use Rattle.std.proofs.Common.{◌≡◌, List, [], ◌∷◌, ◌++◌, refl, sym, ap, ◌∙◌, subst, append_assoc}
use Rattle.std.proofs.lemmas.List.{append-nil}
use Rattle.do_class.specs.Class.{Class}
use Rattle.do_machine.specs.{check.Blocks.events_of, run.Run.Acting}
use Rattle.do_sched.specs.declared.line.Line.{Line}
use Rattle.do_network.specs.{Net.Net, Wired.{net_blocks, net_line_step, wired_block}}
use Rattle.do_agreement.specs.Along.{EventsSendSpelled, LinesSendSpelled}
use Rattle.do_replay.specs.Replayed.{net_after}

-- Of these lines from a network on some were done, which led to another network, and these are left
pub record SpelledSoFar (table : List Class) (act : Acting) (N : Net) (lines : List Line)
    (M : Net) (left : List Line) : Type 0 where
  pub done : List Line
  pub joins : done ++ left ≡ lines
  pub blocks : (ls : List Line) →
      net_blocks table act N (done ++ ls) ≡ net_blocks table act N done ++ net_blocks table act M ls
  pub sends : (ls : List Line) → LinesSendSpelled table act M ls →
      LinesSendSpelled table act N (done ++ ls)
  pub leads : (ls : List Line) →
      net_after table act N (done ++ ls) ≡ net_after table act M ls

-- nothing was done
pub spelled_first : (table : List Class) (act : Acting) (N : Net) (lines left : List Line) →
    left ≡ lines → SpelledSoFar table act N lines N left
spelled_first table act N lines left all =
    record {
      done = [];
      joins = all;
      blocks = λ ls. refl;
      sends = λ ls s. s;
      leads = λ ls. refl;
    }

-- one line more was done
pub spelled_next : (table : List Class) (act : Acting) (N M K : Net) (lines left rest : List Line)
    (line : Line) → left ≡ line ∷ rest → K ≡ (net_line_step table act M line).net →
    EventsSendSpelled table act M (events_of line) → SpelledSoFar table act N lines M left →
    SpelledSoFar table act N lines K rest
spelled_next table act N M K lines left rest line is goes now s =
    let after = (net_line_step table act M line).net in
    let b = wired_block line (net_line_step table act M line) in
    let one = s.blocks (line ∷ []) in
    let same = λ (ls : List Line). append_assoc s.done (line ∷ []) ls in
    subst (λ k. SpelledSoFar table act N lines k rest) (sym goes)
    (record {
      done = s.done ++ line ∷ [];
      joins = same rest ∙ ap (λ ls. s.done ++ ls) (sym is) ∙ s.joins;
      blocks = λ ls.
          ap (net_blocks table act N) (same ls) ∙ s.blocks (line ∷ ls)
          ∙ sym (append_assoc (net_blocks table act N s.done) (b ∷ [])
          (net_blocks table act after ls))
          ∙ ap (λ bs. bs ++ net_blocks table act after ls) (sym one);
      sends = λ ls rest_sends.
          subst (LinesSendSpelled table act N) (sym (same ls))
          (s.sends (line ∷ ls) (now, rest_sends));
      leads = λ ls. ap (net_after table act N) (same ls) ∙ s.leads (line ∷ ls);
    })

-- in the lines that were done each frame that was sent has a spelling
pub spelled_done : (table : List Class) (act : Acting) (N M : Net) (lines left : List Line)
    (s : SpelledSoFar table act N lines M left) → LinesSendSpelled table act N s.done
spelled_done table act N M lines left s =
    subst (LinesSendSpelled table act N) (append-nil s.done) (s.sends [] tt)

-- where nothing is left, all lines were done
pub spelled_all : (table : List Class) (act : Acting) (N M : Net) (lines left : List Line) →
    left ≡ [] → SpelledSoFar table act N lines M left → LinesSendSpelled table act N lines
spelled_all table act N M lines left none s =
    subst (LinesSendSpelled table act N)
    (sym (append-nil s.done) ∙ ap (λ ls. s.done ++ ls) (sym none) ∙ s.joins)
    (spelled_done table act N M lines left s)

-- where nothing is left, the network is the one to which all lines lead
pub led_by_all : (table : List Class) (act : Acting) (N M : Net) (lines left : List Line) →
    left ≡ [] → SpelledSoFar table act N lines M left → M ≡ net_after table act N lines
led_by_all table act N M lines left none s =
    sym (s.leads [])
    ∙ ap (net_after table act N) (ap (λ ls. s.done ++ ls) (sym none) ∙ s.joins)
