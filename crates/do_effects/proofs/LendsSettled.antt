-- What is sent where lends are over.
use Rattle.do_frames.specs.declared.frame.Frame.TheVariants as frames
use Rattle.do_machine.specs.declared.item.Item.TheVariants as items
use Rattle.std.proofs.Common.{◌≡◌, ℕ, Bool, true, false, List, [], ◌∷◌, ◌++◌, refl, ap, sym, ◌∙◌}
use Rattle.std.{specs.Prelude.{fold, if◌then◌else◌, map, not}, proofs.lemmas.List.append-nil}
use Rattle.do_base.specs.{declared.events.shown.Shown.Shown, names.Names.{ObjectName, TokenName}}
use Rattle.do_export.specs.Counts.{Counts, raised}
use Rattle.do_machine.specs.declared.{node.{Node.Node, Wanted.Wanted}, state.Effect.Effect}
use Rattle.do_machine.specs.{declared.state.Parcel.Parcel, Chain.when◌then◌, Effect.{each, only}}
use Rattle.do_machine.specs.{Effect.queueing, State.is_open, ends.Closing.{asked_of, closing}}
use Rattle.do_machine.specs.{ends.Closing.{parted, serials_of}, lend.Asking.{settling, wanted}}
use Rattle.do_network.specs.Counting.{counted, named_to, of_held, of_known, over_open_ends}
use Rattle.do_network.specs.{Frames.{Posted, all_posted}, Links.{Outbox, sending}, Own.Own}
use Rattle.do_effects.specs.{Doing.{Doing, does}, Settled.{settle_post, settle_posts}, Tidy.IsTidy}
use Rattle.do_effects.proofs.{NamesSent.none_exported, TidyCounts.node_alone}

-- what a lender is told, over an open end
abbrev told : Node → TokenName → List Parcel
told n t = if not (is_open n t.lender) then []
    else record { to = t.lender; item = items.Settled t.number } ∷ []

-- what all lenders are told
abbrev all_told : Node → List Wanted → List Parcel
all_told n [] = []
all_told n (w ∷ ws) = told n w.token ++ all_told n ws

-- that a lend is over is told alone
settling_is : (w : Wanted) (n : Node) →
    settling w n ≡ record { node = n; sent = told n w.token; shown = [] }
settling_is w n = go (is_open n w.token.lender)
  where
    -- with an open end or a closed one
    go : (b : Bool) →
        (let rest = queueing w.token.lender (items.Settled w.token.number) n in
        (when not b then only n) rest)
        ≡ record {
          node = n;
          sent = if not b then [] else record {
            to = w.token.lender;
            item = items.Settled w.token.number;
          } ∷ [];
          shown = [];
        }
    go true = refl
    go false = refl

-- one effect behind another
abbrev joined : Effect → Effect → Effect
joined e d = record { node = d.node; sent = e.sent ++ d.sent; shown = e.shown ++ d.shown }

-- so of all lends
each_is : (ws : List Wanted) (n : Node) →
    each settling ws n ≡ record { node = n; sent = all_told n ws; shown = [] }
each_is [] n = refl
each_is (w ∷ ws) n =
    ap (λ (e : Effect). joined e (each settling ws e.node)) (settling_is w n)
    ∙ ap (λ (e : Effect). joined (record { node = n; sent = told n w.token; shown = [] }) e)
    (each_is ws n)

-- nothing is named so
none_named : (port : ℕ) (n : Node) (ws : List Wanted) (c : Counts) →
    fold (named_to port) c (all_told n ws) ≡ c
none_named port n [] c = refl
none_named port n (w ∷ ws) c = go (is_open n w.token.lender) (none_named port n ws c)
  where
    -- with an open end or a closed one
    go : (b : Bool) → fold (named_to port) c (all_told n ws) ≡ c →
        fold (named_to port) c ((if not b then [] else record {
          to = w.token.lender;
          item = items.Settled w.token.number;
        } ∷ []) ++ all_told n ws) ≡ c
    go true behind = behind
    go false behind = behind

-- the frames are those of what is told
posted_is : (received : Counts) (n : Node) (ws : List Wanted) →
    all_posted received (all_told n ws) ≡ settle_posts n (map (λ w. w.token) ws)
posted_is received n [] = refl
posted_is received n (w ∷ ws) = go (is_open n w.token.lender) (posted_is received n ws)
  where
    -- with an open end or a closed one
    go : (b : Bool) →
        all_posted received (all_told n ws) ≡ settle_posts n (map (λ v. v.token) ws) →
        all_posted received ((if not b then [] else record {
          to = w.token.lender;
          item = items.Settled w.token.number;
        } ∷ []) ++ all_told n ws)
        ≡ (if not b then [] else record {
          to = w.token.lender;
          frame = frames.Settle w.token.number;
        } ∷ []) ++ settle_posts n (map (λ v. v.token) ws)
    go true behind =
        ap (λ (xs : List Posted). record {
          to = w.token.lender;
          frame = frames.Settle w.token.number;
        } ∷ xs) behind
    go false behind = behind

-- one lender that is told
pub settle_done : (p : Own) (o : Outbox) (shown : List Shown) (token : TokenName) (x : ObjectName) →
    IsTidy p →
    let now : Doing = record {
      own = p;
      out = fold sending o (settle_post p.node token);
      shown = shown;
    } in
    now ≡ does (record { own = p; out = o; shown = shown })
    (settling (wanted x token.lender token.number) p.node)
settle_done p o shown token x tidy =
    let w : Wanted = wanted x token.lender token.number in
    (λ j. record {
      own = (sym (node_alone p p.node [] tidy refl refl refl)
          ∙ (λ k. record {
            node = p.node;
            counts = over_open_ends p.node
                (sym (none_named p.node.port p.node (w ∷ []) p.counts) k);
            received = of_held p.node p.received;
            classes = of_known p.node p.classes;
          })) j;
      out = ap (λ (xs : List Posted). fold sending o xs)
          (sym (append-nil (settle_post p.node token))
          ∙ sym (posted_is p.received p.node (w ∷ []))) j;
      shown = sym (append-nil shown) j;
    })
    ∙ ap (λ (sent : List Parcel). does (record { own = p; out = o; shown = shown })
    (record { node = p.node; sent = sent; shown = [] })) (append-nil (told p.node token))
    ∙ ap (does (record { own = p; out = o; shown = shown })) (sym (settling_is w p.node))

-- so where it was told over an open end
pub told_open : (p : Own) (o later : Outbox) (shown lines : List Shown) (token : TokenName)
    (x : ObjectName) → IsTidy p → is_open p.node token.lender ≡ true →
    later ≡ sending o (record { to = token.lender; frame = frames.Settle token.number }) →
    lines ≡ shown →
    let now : Doing = record { own = p; out = later; shown = lines } in
    now ≡ does (record { own = p; out = o; shown = shown })
    (settling (wanted x token.lender token.number) p.node)
told_open p o later shown lines token x tidy here posts shows =
    (λ j. record {
      own = p;
      out = (posts
          ∙ ap (λ (b : Bool). fold sending o (if not b then [] else record {
            to = token.lender;
            frame = frames.Settle token.number;
          } ∷ [])) (sym here)) j;
      shown = shows j;
    })
    ∙ settle_done p o shown token x tidy

-- and where the end is closed
pub told_closed : (p : Own) (o : Outbox) (shown : List Shown) (token : TokenName)
    (x : ObjectName) → IsTidy p → is_open p.node token.lender ≡ false →
    let now : Doing = record { own = p; out = o; shown = shown } in
    now ≡ does now (settling (wanted x token.lender token.number) p.node)
told_closed p o shown token x tidy closed =
    (λ j. record {
      own = p;
      out = ap (λ (b : Bool). fold sending o (if not b then [] else record {
        to = token.lender;
        frame = frames.Settle token.number;
      } ∷ [])) (sym closed) j;
      shown = shown;
    })
    ∙ settle_done p o shown token x tidy

-- the frame that one lender is told by is what its effect sends
pub settle_sent : (p : Own) (o : Outbox) (shown : List Shown) (token : TokenName) (x : ObjectName) →
    (does (record { own = p; out = o; shown = shown })
    (settling (wanted x token.lender token.number) p.node)).out
    ≡ fold sending o (settle_post p.node token)
settle_sent p o shown token x =
    let w : Wanted = wanted x token.lender token.number in
    ap (λ (e : Effect). fold sending o (all_posted p.received e.sent)) (settling_is w p.node)
    ∙ ap (λ (sent : List Parcel). fold sending o (all_posted p.received sent))
    (sym (append-nil (told p.node token)))
    ∙ ap (λ (xs : List Posted). fold sending o xs)
    (posted_is p.received p.node (w ∷ []) ∙ append-nil (settle_post p.node token))

-- an end that closes: the peer is told, and then all lenders
pub close_done : (p : Own) (o : Outbox) (shown : List Shown) (peer : ℕ) →
    let m = parted peer p.node in
    let now : Doing = record {
      own = counted p (only m);
      out = fold sending (sending o (record { to = peer; frame = frames.Shutdown }))
          (settle_posts m (map (λ w. w.token) (asked_of peer p.node)));
      shown = shown;
    } in
    now ≡ does (record { own = p; out = o; shown = shown }) (closing peer p.node)
close_done p o shown peer =
    let m = parted peer p.node in
    let ws = asked_of peer p.node in
    let end : Parcel = record { to = peer; item = items.End (serials_of peer p.node.held) } in
    (λ j. record {
      own = record {
        node = m;
        counts = over_open_ends m
            (sym (ap (λ (os : List ObjectName). fold (named_to p.node.port)
            (fold (λ (c : Counts) (x : ObjectName). raised c peer x.serial) p.counts os)
            (all_told m ws))
            (none_exported peer (serials_of peer p.node.held))
            ∙ none_named p.node.port m ws p.counts) j);
        received = of_held m p.received;
        classes = of_known m p.classes;
      };
      out = ap (λ (xs : List Posted). fold sending
          (sending o (record { to = peer; frame = frames.Shutdown })) xs)
          (sym (posted_is p.received m ws)) j;
      shown = sym (append-nil shown) j;
    })
    ∙ ap (λ (e : Effect). does (record { own = p; out = o; shown = shown })
    (joined (queueing peer (items.End (serials_of peer p.node.held)) m) e))
    (sym (each_is ws m))

-- an end that closes, told so
pub close_told : (p q : Own) (o mid later : Outbox) (shown lines : List Shown) (peer : ℕ)
    (tokens : List TokenName) → q ≡ counted p (only (parted peer p.node)) →
    mid ≡ sending o (record { to = peer; frame = frames.Shutdown }) →
    tokens ≡ map (λ w. w.token) (asked_of peer p.node) →
    later ≡ fold sending mid (settle_posts q.node tokens) → lines ≡ shown →
    let now : Doing = record { own = q; out = later; shown = lines } in
    now ≡ does (record { own = p; out = o; shown = shown }) (closing peer p.node)
close_told p q o mid later shown lines peer tokens is posts settled tells shows =
    (λ j. record {
      own = is j;
      out = (tells
          ∙ (λ k. fold sending (posts k) (settle_posts (is k).node (settled k)))) j;
      shown = shows j;
    })
    ∙ close_done p o shown peer
