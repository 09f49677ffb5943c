use Rattle.do_coder.proofs.recent.name_log.NameLog.add.Goals as goal
use Rattle.std.proofs.Common.{◌≡◌, ℕ, ◌<◌, ◌≤◌, ◌-◌, None, drop, ap, subst, ◌∙◌}
use Rattle.do_coder.specs.{Recent.place_in, NameLog.Tables}
use Rattle.do_coder.proofs.tables.NameLogLaws.{log_shifted, log_grown}

pub invariant_of-self-then-len-self-gt-MOST_PAIRS
    : goal.invariant_of-self-then-len-self-gt-MOST_PAIRS
invariant_of-self-then-len-self-gt-MOST_PAIRS c =
    let i = c.self.inside in
    let new : place_in c.args.pair (drop i.start i.log) ≡ None =
    ap (λ (w : Tables). place_in c.args.pair w.now) c.self.view_is ∙ c.requires in
    log_shifted i.log i.start i.kept_start i.kept_end i.index c.self.invariant c.append.new.log
    c.append.new.index c.in_ok-append.ensures.found c.in_ok-append.ensures.kept_found c.args.pair
    new
    c.in_ok-append.ensures.ok (subst (λ (n : ℕ). 256 < n - i.start) c.len.ensures
    c.if-len-self-gt-MOST_PAIRS.true)

pub invariant_of-self-else-len-self-gt-MOST_PAIRS
    : goal.invariant_of-self-else-len-self-gt-MOST_PAIRS
invariant_of-self-else-len-self-gt-MOST_PAIRS c =
    let i = c.self.inside in
    let new : place_in c.args.pair (drop i.start i.log) ≡ None =
    ap (λ (w : Tables). place_in c.args.pair w.now) c.self.view_is ∙ c.requires in
    log_grown i.log i.start i.kept_start i.kept_end i.index c.self.invariant c.append.new.log
    c.append.new.index c.in_ok-append.ensures.found c.in_ok-append.ensures.kept_found c.args.pair
    new c.in_ok-append.ensures.ok (subst (λ (n : ℕ). n - i.start ≤ 256) c.len.ensures
    c.if-len-self-gt-MOST_PAIRS.false)
