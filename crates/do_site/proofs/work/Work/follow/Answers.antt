use Rattle.do_site.proofs.work.Work.follow.Goals as goal
use Rattle.std.{proofs.Common.{◌≡◌, ap, refl, sym, subst, ◌∙◌}, specs.Prelude.IfSome}
use Rattle.do_streams.specs.{Reading.{AreKnown, IsReadBy}, Streamed.Streamed}
use Rattle.do_effects.specs.{Doing.{Doing, doing}, Taking.taking_needs}
use Rattle.do_site.specs.{Steps.with_reading, declared.told.Told.Told}
use Rattle.do_site.proofs.{PlacesKept.read_place, Followed.{left_by, settled_by}}
use Rattle.do_site.proofs.TakenSteps.{follows, names_taken, taken_apart, taken_then_left}

-- there is room to tell of what is settled
pub rule-ruled-requires-clause-settled : goal.rule-ruled-requires-clause-settled
rule-ruled-requires-clause-settled c =
    settled_by (taking_needs c.args.self.now.core.part.own.node c.args.item.now c.args.ruling)
    c.args.ruling c.args.self.now.core c.args.self.now.told c.requires.place

pub keep_read-requires : goal.keep_read-requires
keep_read-requires c =
    subst (λ k. IfSome c.args.names (λ ns. AreKnown k ns))
    (sym c.rule-ruled.ensures.within.classes) c.requires.known

-- there is a place to leave what nothing holds then
pub leave-requires-clause-place : goal.leave-requires-clause-place
leave-requires-clause-place c =
    let old = c.args.self.now in
    let told : Told = record old.told { settled = c.rule-ruled.new.settled } in
    read_place c.rule-ruled.new.self c.keep_read.new.self told c.keep_read.ensures.same
    (left_by c.args.item.now c.args.ruling old.core c.rule-ruled.new.self old.told told
    c.requires.place c.rule-ruled.ensures.within c.rule-ruled.ensures.pays refl refl
    c.rule-ruled.ensures.settled_room c.has_few.ensures.ends c.has_few.ensures.most)

-- so there is where memory ran out
pub returns-in_err-ruled-clause-places : goal.returns-in_err-ruled-clause-places
returns-in_err-ruled-clause-places c =
    let old = c.args.self.now in
    let told : Told = record old.told { settled = c.rule-ruled.new.settled } in
    (left_by c.args.item.now c.args.ruling old.core c.rule-ruled.new.self old.told told
    c.requires.place c.rule-ruled.ensures.within c.rule-ruled.ensures.pays refl refl
    c.rule-ruled.ensures.settled_room c.has_few.ensures.ends c.has_few.ensures.most).places

-- the ruling is done, the frame is read, and then what nothing holds is left
pub returns-clause-ok : goal.returns-clause-ok
returns-clause-ok c = λ f read.
    let table = c.args.table.now in
    let from = c.args.from in
    let item = c.args.item.now in
    let old = doing c.args.self.now.core in
    let one = doing c.rule-ruled.new.self in
    let done = c.in_ok-ruled.ensures.ok in
    let names = names_taken from item c.args.line c.args.ruling old one done in
    let links = c.keep_read.ensures.links f
    (subst (λ ns. IsReadBy ns f c.args.names) (sym names) read) in
    let kept = c.keep_read.ensures.same in
    let behind : doing (record c.rule-ruled.new.self { streams = c.keep_read.new.self })
    ≡ with_reading from f one = (λ j. record {
      own = one.own;
      out = record { links = links j; sent = (ap (λ (s : Streamed). s.frames) kept) j };
      shown = (ap (λ (s : Streamed). s.shown) kept) j;
    }) in
    follows c.rulings_are_arrivals.ensures table from item f c.args.line c.args.ruling old old
    (doing c.leave.new.self.core) refl c.requires.line c.requires.judged
    (taken_then_left from item c.args.line c.args.ruling old one done f
    (doing (record c.rule-ruled.new.self { streams = c.keep_read.new.self }))
    (doing c.leave.new.self.core) behind c.leave.ensures.moved)

-- what a site keeps true is true then
pub returns-clause-kept : goal.returns-clause-kept
returns-clause-kept c =
    let table = c.args.table.now in
    let item = c.args.item.now in
    let old = c.args.self.now in
    let one = doing c.rule-ruled.new.self in
    let done = c.in_ok-ruled.ensures.ok in
    let left = ap (λ (d : Doing). d.own) c.leave.ensures.moved in
    record {
      tidy = c.leave.ensures.tidy;
      apart = taken_apart c.args.from item c.args.line c.args.ruling (doing old.core) one done _
          left c.requires.kept.apart;
      classes = c.leave.ensures.stays.classes
          ∙ ap (λ (s : Streamed). s.classes) c.keep_read.ensures.same
          ∙ c.rule-ruled.ensures.within.classes
          ∙ c.requires.kept.classes;
    }
