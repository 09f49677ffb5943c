-- What is seen of a site after what a step did.
use Rattle.do_network.specs.declared.input.Done.TheVariants as dones
use Rattle.std.proofs.Common.{◌≡◌, ℕ, Bool, true, false, cond, List, [], Option, None, Some, refl}
use Rattle.std.{proofs.Common.{ap, sym, ◌∙◌}, specs.Prelude.{not, option_map, unwrap_or}}
use Rattle.std.proofs.lemmas.List.{append-nil}
use Rattle.do_class.specs.Class.{Class}
use Rattle.do_machine.specs.declared.{item.Item.TheVariants.End, state.Effect.Effect}
use Rattle.do_machine.specs.{State.is_open, ends.Closing.closing, run.Run.Acting}
use Rattle.do_machine.specs.take.Take.{can_take, take_effect}
use Rattle.do_network.specs.{Links.{Link, Outbox, Part, all_sent}, Own.site_context}
use Rattle.do_network.specs.Site.{Move, close_input, end_input, handled, moves, passed, site_move}
use Rattle.do_network.specs.declared.input.Done.{Done}
use Rattle.do_net.specs.Seen.{with_handled}
use Rattle.do_effects.specs.{Doing.{Doing, doing, moved}, declared.changing.Core.Core}
use Rattle.do_site.proofs.SentBehind.{sent_behind}
use Rattle.do_site.specs.Steps.{Does, IsSame, close_effect, end_effect, part_of, seen_of}

module _ (table : List Class) (act : Acting) (a b : Core) where
  -- what a move is to a caller, over links that changed before
  pub linked_seen : (links : List Link) (done : Done) (m : Move) →
      doing b ≡ moved (record (doing a) {
        out = record { links = links; sent = a.streams.frames };
      }) m →
      seen_of table act b
      ≡ with_handled (seen_of table act a) (handled (record (part_of a) { links = links }) done m)
  linked_seen links done m e =
      let out : Outbox = all_sent links m.posted in
      let sent = ap (λ (d : Doing). d.out) e ∙ sent_behind links a.streams.frames m.posted in
      λ j. record {
        table = table;
        act = act;
        part = record {
          own = (ap (λ (d : Doing). d.own) e) j;
          links = (ap (λ (o : Outbox). o.links) sent) j;
        };
        frames = (ap (λ (o : Outbox). o.sent) sent) j;
        shown = (ap (λ (d : Doing). d.shown) e) j;
      }

  -- what a move is to a caller
  pub move_seen : (done : Done) (m : Move) → doing b ≡ moved (doing a) m →
      seen_of table act b ≡ with_handled (seen_of table act a) (handled (part_of a) done m)
  move_seen done m e = linked_seen a.streams.links done m e

  -- where nothing was done the caller sees what was there
  pub same_seen : IsSame a b → seen_of table act b ≡ seen_of table act a
  same_seen e = λ j. record {
    table = table;
    act = act;
    part = record {
      own = (ap (λ (d : Doing). d.own) e) j;
      links = (ap (λ (d : Doing). d.out.links) e) j;
    };
    frames = (ap (λ (d : Doing). d.out.sent) e) j;
    shown = (ap (λ (d : Doing). d.shown) e) j;
  }

  -- so it is for an input that was passed
  pub passed_seen : IsSame a b →
      seen_of table act b ≡ with_handled (seen_of table act a) (passed (part_of a))
  passed_seen e = same_seen e ∙ (λ j. record (seen_of table act a) {
    frames = (sym (append-nil a.streams.frames)) j;
    shown = (sym (append-nil a.streams.shown)) j;
  })

  -- what an input comes to that is told to be done or not
  abbrev pub told_done : Bool → Done
  told_done told = cond told dones.Moved dones.Skipped

  pub does_handle : (told : Bool) (e : Option Effect) → Does a b told e →
      (told_done told ≡ (unwrap_or (option_map (moves (part_of a)) e) (passed (part_of a))).done)
      × (seen_of table act b ≡ with_handled (seen_of table act a)
      (unwrap_or (option_map (moves (part_of a)) e) (passed (part_of a))))
  does_handle told (Some e) h = (
    ap told_done h.0,
    move_seen dones.Moved (site_move a.part.own e) h.1,
  )
  does_handle told None h = (ap told_done h.0, passed_seen h.1)

-- a close is what it does, where it is enabled
pub close_is : (p : Part) (peer : ℕ) →
    close_input p peer ≡ option_map (moves p) (close_effect peer p.own.node)
close_is p peer = elim (is_open p.own.node peer) as (λ b.
    cond (not b) None (Some (moves p (closing peer p.own.node)))
    ≡ option_map (moves p) (cond b (Some (closing peer p.own.node)) None)) [
      | true ↦ refl
      | false ↦ refl
    ]

-- the end of a connection is what it does, where it is enabled
pub end_is : (table : List Class) (p : Part) (peer : ℕ) →
    end_input table p peer ≡ option_map (moves p) (end_effect table peer p.own)
end_is table p peer =
    let e : Effect = take_effect (site_context table p.own) peer (End []) in
    elim (can_take peer p.own.node) as (λ b. cond (not b) None (Some (moves p e))
    ≡ option_map (moves p) (cond b (Some e) None)) [ true ↦ refl | false ↦ refl ]
