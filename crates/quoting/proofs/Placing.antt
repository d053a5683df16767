-- A quote: its code is that of the tests on the state alone, then the buy's, then the sell's; each step is written over the last; and
-- where one is refused, what was written lies within the parts that are put back. Assumes nothing.
use mathlib.Core.Bool.{Bool, true, false, not}
use mathlib.Core.List.{List, [], ◌∷◌, ◌++◌}
use mathlib.Core.Path.{◌≡◌, refl, sym, ap, ◌∙◌, subst}
use Prim.Native.Nat.{ℕ, ◌+◌, ◌*◌, ◌<◌, ◌≤◌}
use native.Mathlib.Omega.{arith}
use borrow.Author.Tests.{eqb-true, eq-eqb, le-ltb, lt-ltb, ne_eqb, not-false}
use lib.Dec.{eqb, ltb}
use lib.ListN.{length, get_or, set, length-append}
use lib.Seq.{set-set}
use Rattle.laws.specs.Choice.{pick}
use Rattle.areas.specs.Records.{store}
use Rattle.rules.specs.Answers.{Refusal, day_limit_order, first_of, is_good_for_day, listing_of, named_refusals, not_continuous, order_refusals, pull_refusals, taker_of, trades_needed, trades_against}
use Rattle.rules.specs.Bounds.{in_auction, max_lots, max_resting, max_trades, max_accounts}
use Rattle.rules.specs.Exchange.{Exchange, Listing, account_at, holder_of, no_account, opposite, own, place_of}
use Rattle.rules.specs.Kinds.{code_of, done, kind_of}
use Rattle.rules.specs.Matching.{enter, rest_whole, rested_lots, sweep, traded_lots}
use Rattle.rules.specs.Memory.{Declared, Memory, WellFormedState, exchange_of, listing_in, memory, put, put_queue, put_state, queue_in, queue_stride, step_in, trade_stride, trade_words, well_formed_memory, written}
use Rattle.rules.specs.Quote.{Offered, offer_refusals, offered, half, buy_of, sell_of, buy_entered, sell_entered, without_quote, with_buy, with_sell, quote_refusals, quoted}
use Rattle.rules.specs.Step.{answer_of, entered_of, exchange_after, listing_after, with_trades, without}
use Rattle.rules.specs.WellFormed.{is_quote_of}
use Rattle.rules.specs.declared.Command.{Command}
use Rattle.rules.specs.declared.Command.TheVariants.{Quote}
use Rattle.rules.specs.declared.NewOrder.{NewOrder}
use Rattle.rules.specs.declared.Order.{Order}
use Rattle.rules.specs.declared.State.{State}
use Rattle.rules.specs.declared.Trade.{Trade}
use Rattle.theory.proofs.AuctionSteps.{entered_either, trades_needed_lem}
use Rattle.theory.proofs.Codecs.{length_queue}
use Rattle.theory.proofs.InUse.{account_in_use_lem}
use Rattle.theory.proofs.Fillable.{swept_at_most, traded_nil}
use Rattle.book.proofs.EarlyStop.{trades_counted}
use Rattle.theory.proofs.Queue.{length_without}
use Rattle.theory.proofs.Stages.{Each}
use Rattle.theory.proofs.Refusals.{Failed, both_zero, failed, first_append, first_here, first_there}
use Rattle.book.specs.Removal.{RemovedIs}
use Rattle.accounting.proofs.Declared.{stage_declared}
use Rattle.accounting.proofs.QuoteMoves.{quoted_shape}
use Rattle.accounting.proofs.StepShape.{SameShape, shape_sym, shape_trans}
use Rattle.invariants.proofs.Clauses.{Counted, WellFormed}
use Rattle.invariants.proofs.MemoryKeeps.{sound, stage_keeps, stage_read}
use Rattle.invariants.proofs.QuoteKeeps.{buy_counted, buy_keeps, buy_passes, buy_sells, gone_accounts, gone_counted, gone_keeps, none_marked, sells_unmarked, still_maker}
use Rattle.engine.specs.Outcome.{OutcomeIs, accepted_with, refused_with, with_counts_in}
use Rattle.engine.specs.declared.answers.Outcome.{Outcome}
use Rattle.engine.proofs.Formed.{Formed, accounts_count, contracts_count, formed, listing_at_lem}
use Rattle.engine.proofs.Outcomes.{acceptance, refusal}
use Rattle.engine.proofs.Puts.{put_queues_lem, trades_count}
use Rattle.engine.proofs.Removals.{lies}
use Rattle.engine.proofs.Traded.{few_after, put_traded}
use Rattle.refusals.proofs.Arrivals.{count_within}
use Rattle.refusals.proofs.Continuous as first
use Rattle.engine.proofs.Named.{account_there}
use Rattle.insertion.specs.Entry.{entered_in}
use Rattle.quoting.specs.Placing.{GoneIs, Quotable, PlacedIs, Undoable, early_refusals, gone_in, made_from, marked_in}
use Rattle.quoting.proofs.Marking.{entered_so, nothing_moved, told}
use Rattle.quoting.proofs.Undo.{made_room, undo_both, undo_nothing, undo_queue, undo_trades, queue_room}

-- an order trades at most once with each order that it meets
needed_few : (y : Exchange) (number : ℕ) (o : NewOrder) → trades_needed y number o ≤ length (opposite o.sell (listing_of y o))
unfolding trades_needed trades_against
needed_few y number o = by_auction (in_auction (listing_of y o).contract)
  where
    by_auction : (b : Bool) → pick b 0 (length (sweep (taker_of y number 0 o) o.lots (listing_of y o).contract.last (opposite o.sell (listing_of y o))).trades) ≤ length (opposite o.sell (listing_of y o))
    by_auction true = omega arith
    by_auction false = omega (arith, trades_counted (taker_of y number 0 o) o.lots (listing_of y o).contract.last (opposite o.sell (listing_of y o)), count_within (taker_of y number 0 o) o.lots (opposite o.sell (listing_of y o)))

-- an order trades and rests at most its lots
rested_lots_lem : (b : Bool) (lots : ℕ) (ts : List Trade) → rested_lots b lots ts ≤ lots
unfolding rested_lots
rested_lots_lem true lots ts = omega arith
rested_lots_lem false lots ts = omega arith

entered_lots : (y : Exchange) (number mark : ℕ) (o : NewOrder) → (traded_lots (entered_of y number mark o).trades ≤ o.lots) × ((entered_of y number mark o).rested ≤ o.lots)
unfolding enter rest_whole
entered_lots y number mark o =
    entered_either y number mark o (λ e. (traded_lots e.trades ≤ o.lots) × (e.rested ≤ o.lots)) (λ h. (omega (arith, traded_nil), omega arith))
    (λ h. (swept_at_most (taker_of y number mark o) o.lots (listing_of y o).contract.last (opposite o.sell (listing_of y o)), rested_lots_lem (is_good_for_day o.time) o.lots _))

-- what the code takes out of the two queues is the account's old quote
module _ {s : State} {buys sells trades : List ℕ} (w : WellFormedState s buys sells trades) (account contract : ℕ) (none : first_of (pull_refusals (exchange_of (memory s buys sells trades)) account contract false) ≡ 0) {place : ℕ} (is : place ≡ place_of contract)
    {owner : ℕ} (mine : owner ≡ place_of account) {bought sold bid offer : ℕ} {buys' sells' : List ℕ}
    (from-buys : RemovedIs (is_quote_of owner) buys place (get_or s.buycounts place 0) bought bid buys') (from-sells : RemovedIs (is_quote_of owner) sells place (get_or s.sellcounts place 0) sold offer sells') where
  own_buys : RemovedIs (is_quote_of (place_of account)) buys place (get_or s.buycounts place 0) bought bid buys'
  own_buys = rw mine at from-buys

  own_sells : RemovedIs (is_quote_of (place_of account)) sells place (get_or s.sellcounts place 0) sold offer sells'
  own_sells = rw mine at from-sells

  pub gone_written : {r : State} → r ≡ with_counts_in s (set s.buycounts place bought) (set s.sellcounts place sold)
      → GoneIs s buys sells trades account contract r buys' sells'
  gone_written e =
      record {
        lies = rw e (sym (lies w account contract false none is (is_quote_of (place_of account)) own_buys own_sells));
        accounts = rw e refl;
        rest = λ l at. rw (e, is, at, set-set s.buycounts (place_of contract) bought l.bought, set-set s.sellcounts (place_of contract) sold l.sold) refl;
      }

-- ---- 2, 3 and 4, then 23 and 24, as the code tries them

pub named_passed : (x : Exchange) (account contract buy sell : ℕ) → first_of (early_refusals x account contract buy sell) ≡ 0 → Failed (named_refusals x not_continuous account contract)
named_passed x account contract buy sell e =
    (both_zero (named_refusals x not_continuous account contract) (offer_refusals (holder_of x account) buy sell) (omega arith) e).0

module _ {s : State} (d : Declared s) (few : s.accountcount ≤ max_accounts) (buys sells trades : List ℕ) (account contract buy sell : ℕ) {named : ℕ}
    (en : named ≡ first_of (named_refusals (exchange_of (memory s buys sells trades)) not_continuous account contract)) where
  abbrev y : Exchange
  y = exchange_of (memory s buys sells trades)

  abbrev code : ℕ
  code = first_of (early_refusals y account contract buy sell)

  pub early_named : (named ≡ 0 → ⊥) → named ≡ code
  early_named some = en ∙ first_here (named_refusals y not_continuous account contract) (offer_refusals (holder_of y account) buy sell) (λ e. some (en ∙ e))

  -- the account as it lies
  module _ (none : named ≡ 0) {place : ℕ} (is : place ≡ place_of account) where
    in_use : place_of account < s.accountcount
    in_use = (account_there d few buys sells trades not_continuous account contract (failed (named_refusals y not_continuous account contract) (omega arith) (sym en ∙ none))).1

    maker_is : (holder_of y account).maker ≡ (get_or s.accounts place no_account).maker
    unfolding account_at
    maker_is = rw is (ap (λ v. v.maker) (account_in_use_lem (memory s buys sells trades) (place_of account) in_use))

    maker_first : code ≡ pick (not (eqb (get_or s.accounts place no_account).maker 1)) 23 (pick (not (ltb buy sell)) 24 0)
    unfolding first_of
    maker_first = sym (first_there (named_refusals y not_continuous account contract) (offer_refusals (holder_of y account) buy sell) (omega arith) (sym en ∙ none)) ∙ rw maker_is refl

    pub early_maker : ((get_or s.accounts place no_account).maker ≡ 1 → ⊥) → 23 ≡ code
    early_maker e = sym (maker_first ∙ rw (ne_eqb _ _ e) refl)

    module _ (maker : (get_or s.accounts place no_account).maker ≡ 1) where
      pub early_prices : sell ≤ buy → 24 ≡ code
      early_prices h = sym (maker_first ∙ rw (eq-eqb _ _ maker, le-ltb _ _ h) refl)

      pub early_none : buy < sell → 0 ≡ code
      early_none h = sym (maker_first ∙ rw (eq-eqb _ _ maker, lt-ltb _ _ h) refl)

module _ {s : State} {buys sells trades : List ℕ} (w : WellFormedState s buys sells trades) (account contract lots buy sell : ℕ) where
  abbrev m : Memory
  m = memory s buys sells trades

  abbrev x : Exchange
  x = exchange_of m

  f : Formed m
  f = formed w

  abbrev q : Offered
  q = offered account contract lots buy sell

  abbrev a : ℕ
  a = place_of account

  abbrev c : ℕ
  c = place_of contract

  abbrev command : Command
  command = Quote account contract lots buy sell

  -- ---- 2, 3, 4, 23, 24

  abbrev early : List Refusal
  early = early_refusals x account contract buy sell

  abbrev order_codes : List Refusal
  order_codes = order_refusals (without_quote x q) (buy_of q) ++ order_refusals (with_buy x q) (sell_of q)

  in_parts : code_of x command ≡ pick (eqb (first_of early) 0) (first_of order_codes) (first_of early)
  unfolding code_of kind_of quote_refusals
  in_parts = first_append early order_codes (omega arith)

  pub early_refused : {e : ℕ} {r : Outcome} → e ≡ first_of early → (e ≡ 0 → ⊥) → r ≡ refused_with s e → OutcomeIs (step_in m command) r buys sells trades
  early_refused {e} ee some t = refusal s buys sells trades command e (omega arith) (in_parts ∙ rw (← ee, ne_eqb e 0 some)) t

  module _ (none : first_of early ≡ 0) where
    tests : Failed early
    tests = failed early (omega arith) none

    named : Failed (named_refusals x not_continuous account contract)
    named = named_passed x account contract buy sell none

    holder_here : a < s.accountcount
    holder_here = first.account_here w account contract named

    pub here : c < s.contractcount
    here = first.contract_here w account contract named

    -- a queue of the contract, kept or put back
    pub part_room : (side : Bool) {place n : ℕ} → place ≡ c → n ≡ queue_stride → queue_stride * place + n ≤ length (pick side sells buys)
    part_room side is en = queue_room w here side is en

    pub contract_low : 1 ≤ contract
    contract_low = first.contract_low w account contract named

    pub removable : first_of (pull_refusals x account contract false) ≡ 0
    removable = first.pulls w account contract named

    holder : a < length x.accounts
    holder = rw (accounts_count m f) holder_here

    listed : c < length x.listings
    listed = rw (contracts_count m f) here

    is_maker : (account_at x.accounts a).maker ≡ 1
    is_maker = eqb-true _ 1 (not-false _ tests.1.1.1.0)

    counts : Counted x
    counts = (sound m w.formed).counts

    on : code_of x command ≡ first_of order_codes
    on = in_parts ∙ rw none

    orders_first : first_of order_codes ≡ pick (eqb (first_of (order_refusals (without_quote x q) (buy_of q))) 0) (first_of (order_refusals (with_buy x q) (sell_of q))) (first_of (order_refusals (without_quote x q) (buy_of q)))
    unfolding order_refusals
    orders_first = first_append (order_refusals (without_quote x q) (buy_of q)) (order_refusals (with_buy x q) (sell_of q)) (omega arith)

    shapes : Each (SameShape x) (without_quote x q ∷ with_buy x q ∷ with_sell x q ∷ [])
    unfolding quoted
    shapes = quoted_shape x q

    -- ---- the old quote gone

    gone_few : Counted (without_quote x q)
    gone_few = gone_counted x f.contents q holder listed counts

    abbrev queue : Bool → List Order
    queue side = queue_in (pick side sells buys) c (get_or (pick side s.sellcounts s.buycounts) c 0)

    abbrev left : Bool → List Order
    left side = without (is_quote_of a) (queue side)

    side_few : (side : Bool) → get_or (pick side s.sellcounts s.buycounts) c 0 ≤ max_resting
    side_few true = f.sells_high c here
    side_few false = f.buys_high c here

    left_few : (side : Bool) → length (left side) ≤ max_resting
    left_few side = omega (arith, length_without (is_quote_of a) (queue side), length_queue (pick side sells buys) c (get_or (pick side s.sellcounts s.buycounts) c 0), side_few side)

    gone_lies : put m (without_quote x q)
        ≡ memory (with_counts_in s (set s.buycounts c (length (left false))) (set s.sellcounts c (length (left true)))) (put_queue buys c (get_or s.buycounts c 0) (left false)) (put_queue sells c (get_or s.sellcounts c 0) (left true)) trades
    unfolding without_quote listing_in
    gone_lies = rw (listing_at_lem m f c here) (put_queues_lem m f c here (left false) (left true) (left_few false) (left_few true))

    room_buys : queue_stride * c + queue_stride ≤ length buys
    room_buys = omega (arith, f.buys_room, here)

    room_sells : queue_stride * c + queue_stride ≤ length sells
    room_sells = omega (arith, f.sells_room, here)

    trades_room : made_from s.tradecount + trade_stride * max_resting ≤ length trades
    trades_room = omega (arith, made_room s.tradecount, f.trades_room)

    gone_trades : length (without_quote x q).trades ≡ s.tradecount
    unfolding without_quote
    gone_trades = trades_count m f

    module _ {gone : State} {buys₁ sells₁ : List ℕ} (eg : memory gone buys₁ sells₁ trades ≡ gone_in m account contract) where
      abbrev m₁ : Memory
      m₁ = memory gone buys₁ sells₁ trades

      gone_is : m₁ ≡ put m (without_quote x q)
      unfolding without_quote
      gone_is = eg

      gone_read : exchange_of m₁ ≡ without_quote x q
      gone_read = ap exchange_of gone_is ∙ stage_read m w.formed (without_quote x q) shapes.0 gone_few

      pub gone_formed : WellFormedState gone buys₁ sells₁ trades
      gone_formed =
          record {
            declared = subst (λ (n : Memory). Declared n.state) (sym gone_is) (stage_declared m w.declared w.formed (without_quote x q) shapes.0);
            formed = ap well_formed_memory gone_is ∙ stage_keeps m w.formed (without_quote x q) shapes.0 gone_few (gone_keeps x f.contents q holder listed);
          }

      gone_counts : (gone.accountcount ≡ s.accountcount) × (gone.contractcount ≡ s.contractcount)
      unfolding put put_state
      gone_counts = (ap (λ (n : Memory). n.state.accountcount) gone_is, ap (λ (n : Memory). n.state.contractcount) gone_is)

      pub undo_buys₁ : Undoable (queue_stride * c) queue_stride buys buys₁
      undo_buys₁ = rw (ap (λ (n : Memory). n.buys) gone_is ∙ ap (λ (n : Memory). n.buys) gone_lies) (undo_queue buys c _ (left false) (side_few false) (left_few false) room_buys)

      pub undo_sells₁ : Undoable (queue_stride * c) queue_stride sells sells₁
      undo_sells₁ = rw (ap (λ (n : Memory). n.sells) gone_is ∙ ap (λ (n : Memory). n.sells) gone_lies) (undo_queue sells c _ (left true) (side_few true) (left_few true) room_sells)

      -- ---- the buy

      module _ {bid : NewOrder} (eb : bid ≡ day_limit_order account contract false false lots buy) where
        bid_is : bid ≡ buy_of q
        unfolding half
        bid_is = eb

        pub buy_quotable : Quotable gone buys₁ sells₁ trades bid
        unfolding listing_of
        buy_quotable =
            rw eb
            (record {
              present =
                  record {
                    account_low = first.account_low w account contract named;
                    account = rw gone_counts.0 holder_here;
                    contract_low = contract_low;
                    contract = rw gone_counts.1 here;
                  };
              opens = refl;
              maker = rw (gone_read, gone_accounts x f.contents q holder listed) is_maker;
              single = rw gone_read (none_marked x f.contents q holder listed false);
            })

        module _ {r₁ : Outcome} {buys₂ sells₂ trades₂ : List ℕ} (i₁ : OutcomeIs (marked_in m₁ bid) r₁ buys₂ sells₂ trades₂) where
          told_buy : r₁.answer.code ≡ first_of (order_refusals (without_quote x q) (buy_of q))
          told_buy = told m₁ bid i₁ ∙ rw (bid_is, gone_read)

          -- refused
          module _ (some : r₁.answer.code ≡ 0 → ⊥) where
            code_buy : code_of x command ≡ r₁.answer.code
            code_buy = on ∙ orders_first ∙ rw (← told_buy, ne_eqb r₁.answer.code 0 some)

            pub buy_refused : {r : Outcome} → r ≡ refused_with s r₁.answer.code → PlacedIs s buys sells trades account contract lots buy sell r buys₂ sells₂ trades₂
            buy_refused {r} e =
                let same = nothing_moved m₁ bid i₁ some in
                record {
                  accepted = λ z. absurd (some (sym (ap (λ (v : Outcome). v.answer.code) e) ∙ z));
                  refused = λ z. refusal s buys sells trades command r₁.answer.code (omega arith) code_buy e;
                  buys_back = λ z. rw (ap (λ (n : Memory). n.buys) same) undo_buys₁;
                  sells_back = λ z. rw (ap (λ (n : Memory). n.sells) same) undo_sells₁;
                  trades_back = λ z. rw (ap (λ (n : Memory). n.trades) same) (undo_nothing (made_from s.tradecount) (trade_stride * max_resting) trades trades_room);
                }

          -- entered
          module _ (clear : r₁.answer.code ≡ 0) where
            bought : Failed (order_refusals (without_quote x q) (buy_of q))
            unfolding order_refusals
            bought = failed (order_refusals (without_quote x q) (buy_of q)) (omega arith) (sym told_buy ∙ clear)

            abbrev m₂ : Memory
            m₂ = memory r₁.state buys₂ sells₂ trades₂

            entered₁ : OutcomeIs (entered_in m₁ bid gone.next 1 (gone.next + 1)) r₁ buys₂ sells₂ trades₂
            entered₁ = entered_so m₁ bid i₁ clear

            -- the state that the buy leaves, from the one that it is entered on
            abbrev bid_on : Exchange → Exchange
            bid_on y = exchange_after y (buy_of q) (entered_of y y.next 1 (buy_of q)) (y.next + 1)

            left_by_buy : m₂ ≡ put m₁ (bid_on (exchange_of m₁))
            unfolding exchange_of
            left_by_buy = entered₁.memory ∙ rw bid_is

            buy_is : bid_on (exchange_of m₁) ≡ with_buy x q
            unfolding with_buy
            buy_is = ap bid_on gone_read

            buy_left : m₂ ≡ put m₁ (with_buy x q)
            buy_left = left_by_buy ∙ ap (put m₁) buy_is

            buy_few : Counted (with_buy x q)
            buy_few = buy_counted x f.contents q holder listed is_maker bought counts

            buy_formed : WellFormed (with_buy x q)
            buy_formed = buy_keeps x f.contents q holder listed is_maker bought

            buy_shape : SameShape (exchange_of m₁) (with_buy x q)
            buy_shape = rw gone_read (shape_trans (shape_sym shapes.0) shapes.1.0)

            buy_read : exchange_of m₂ ≡ with_buy x q
            buy_read = ap exchange_of buy_left ∙ stage_read m₁ gone_formed.formed (with_buy x q) buy_shape buy_few

            pub bought_formed : WellFormedState r₁.state buys₂ sells₂ trades₂
            bought_formed =
                record {
                  declared = subst (λ (n : Memory). Declared n.state) (sym buy_left) (stage_declared m₁ gone_formed.declared gone_formed.formed (with_buy x q) buy_shape);
                  formed = ap well_formed_memory buy_left ∙ stage_keeps m₁ gone_formed.formed (with_buy x q) buy_shape buy_few buy_formed;
                }

            bought_counts : (r₁.state.accountcount ≡ gone.accountcount) × (r₁.state.contractcount ≡ gone.contractcount)
            unfolding put put_state
            bought_counts = (ap (λ (n : Memory). n.state.accountcount) buy_left, ap (λ (n : Memory). n.state.contractcount) buy_left)

            -- ---- what it wrote

            abbrev made : List Trade
            made = (entered_of (exchange_of m₁) (exchange_of m₁).next 1 (buy_of q)).trades

            abbrev listing₁ : Listing
            listing₁ = listing_after (listing_of (exchange_of m₁) (buy_of q)) false (entered_of (exchange_of m₁) (exchange_of m₁).next 1 (buy_of q))

            here₁ : c < gone.contractcount
            here₁ = rw gone_counts.1 here

            abbrev after₁ : Exchange
            after₁ = with_trades (exchange_of m₁) c listing₁ made ((exchange_of m₁).next + 1) ((exchange_of m₁).nextstamp + 1)

            after_is : after₁ ≡ with_buy x q
            unfolding exchange_after half
            after_is = buy_is

            kept₁ : WellFormed after₁
            kept₁ = subst WellFormed (sym after_is) buy_formed

            counted₁ : Counted after₁
            counted₁ = subst Counted (sym after_is) buy_few

            abbrev f₁ : Formed m₁
            f₁ = formed gone_formed

            few₁ : (side : Bool) → length (own side listing₁) ≤ max_resting
            few₁ side = few_after m₁ f₁ c listing₁ made ((exchange_of m₁).next + 1) ((exchange_of m₁).nextstamp + 1) here₁ kept₁ counted₁ side

            wrote : m₂ ≡ put m₁ after₁
            wrote = buy_left ∙ ap (put m₁) (sym after_is)

            written₁ : (buys₂ ≡ put_queue buys₁ c (get_or gone.buycounts c 0) listing₁.buys) × (sells₂ ≡ put_queue sells₁ c (get_or gone.sellcounts c 0) listing₁.sells) × (trades₂ ≡ store trade_words trades (trade_stride * gone.tradecount) made)
            written₁ =
                let e = wrote ∙ put_traded m₁ f₁ c listing₁ made ((exchange_of m₁).next + 1) ((exchange_of m₁).nextstamp + 1) here₁ kept₁ counted₁ in
                (ap (λ (n : Memory). n.buys) e, ap (λ (n : Memory). n.sells) e, ap (λ (n : Memory). n.trades) e)

            trades_same : gone.tradecount ≡ s.tradecount
            trades_same = sym (trades_count m₁ f₁) ∙ ap (λ (y : Exchange). length y.trades) gone_read ∙ gone_trades

            opposite_few : length (opposite (buy_of q).sell (listing_of (exchange_of m₁) (buy_of q))) ≤ max_resting
            unfolding listing_of half
            opposite_few = (sound m₁ gone_formed.formed).counts.queues c true (rw (contracts_count m₁ f₁) here₁)

            made_few : length made ≤ max_resting
            made_few = omega (arith, trades_needed_lem (exchange_of m₁) (exchange_of m₁).next 1 (buy_of q), needed_few (exchange_of m₁) (exchange_of m₁).next (buy_of q), opposite_few)

            made_fit : s.tradecount + length made ≤ max_trades
            made_fit = omega (arith, counted₁.trades, length-append (exchange_of m₁).trades made, trades_count m₁ f₁, trades_same)

            pub undo_buys₂ : Undoable (queue_stride * c) queue_stride buys buys₂
            undo_buys₂ = undo_both (queue_stride * c) queue_stride room_buys undo_buys₁ (rw written₁.0 (undo_queue buys₁ c _ listing₁.buys (f₁.buys_high c here₁) (few₁ false) (rw undo_buys₁.long room_buys)))

            pub undo_sells₂ : Undoable (queue_stride * c) queue_stride sells sells₂
            undo_sells₂ = undo_both (queue_stride * c) queue_stride room_sells undo_sells₁ (rw written₁.1 (undo_queue sells₁ c _ listing₁.sells (f₁.sells_high c here₁) (few₁ true) (rw undo_sells₁.long room_sells)))

            undo_trades₂ : Undoable (made_from s.tradecount) (trade_stride * max_resting) trades trades₂
            undo_trades₂ =
                subst (λ (l : List ℕ). Undoable (made_from s.tradecount) (trade_stride * max_resting) trades l)
                (sym (written₁.2 ∙ ap (λ (n : ℕ). store trade_words trades (trade_stride * n) made) trades_same))
                (undo_trades trades s.tradecount made made_few made_fit f.trades_room)

            -- ---- the sell

            module _ {offer : NewOrder} (eo : offer ≡ day_limit_order account contract true false lots sell) where
              offer_is : offer ≡ sell_of q
              unfolding half
              offer_is = eo

              pub sell_quotable : Quotable r₁.state buys₂ sells₂ trades₂ offer
              unfolding listing_of
              sell_quotable =
                  rw eo
                  (record {
                    present =
                        record {
                          account_low = first.account_low w account contract named;
                          account = rw (bought_counts.0, gone_counts.0) holder_here;
                          contract_low = contract_low;
                          contract = rw (bought_counts.1, gone_counts.1) here;
                        };
                    opens = refl;
                    maker = rw buy_read (still_maker x f.contents q holder listed is_maker bought);
                    single = rw (buy_read, buy_sells x f.contents q holder listed is_maker bought) (omega (arith, sells_unmarked x f.contents q holder listed is_maker bought));
                  })

              module _ {r₂ : Outcome} {buys₃ sells₃ trades₃ : List ℕ} (i₂ : OutcomeIs (marked_in m₂ offer) r₂ buys₃ sells₃ trades₃) where
                told_sell : r₂.answer.code ≡ first_of (order_refusals (with_buy x q) (sell_of q))
                told_sell = told m₂ offer i₂ ∙ rw (offer_is, buy_read)

                code_sell : code_of x command ≡ r₂.answer.code
                code_sell = on ∙ orders_first ∙ rw (← told_buy, clear, ← told_sell)

                pub sell_refused : {r : Outcome} → (r₂.answer.code ≡ 0 → ⊥) → r ≡ refused_with s r₂.answer.code → PlacedIs s buys sells trades account contract lots buy sell r buys₃ sells₃ trades₃
                sell_refused {r} some e =
                    let same = nothing_moved m₂ offer i₂ some in
                    record {
                      accepted = λ z. absurd (some (sym (ap (λ (v : Outcome). v.answer.code) e) ∙ z));
                      refused = λ z. refusal s buys sells trades command r₂.answer.code (omega arith) code_sell e;
                      buys_back = λ z. rw (ap (λ (n : Memory). n.buys) same) undo_buys₂;
                      sells_back = λ z. rw (ap (λ (n : Memory). n.sells) same) undo_sells₂;
                      trades_back = λ z. rw (ap (λ (n : Memory). n.trades) same) undo_trades₂;
                    }

                module _ (sold : r₂.answer.code ≡ 0) where
                  entered₂ : OutcomeIs (entered_in m₂ offer r₁.state.next 1 (r₁.state.next + 1)) r₂ buys₃ sells₃ trades₃
                  entered₂ = entered_so m₂ offer i₂ sold

                  abbrev offer_on : Exchange → Exchange
                  offer_on y = exchange_after y (sell_of q) (entered_of y y.next 1 (sell_of q)) (y.next + 1)

                  left_by_sell : memory r₂.state buys₃ sells₃ trades₃ ≡ put m₂ (offer_on (exchange_of m₂))
                  unfolding exchange_of
                  left_by_sell = entered₂.memory ∙ rw offer_is

                  sell_left : memory r₂.state buys₃ sells₃ trades₃ ≡ put (put (put m (without_quote x q)) (with_buy x q)) (with_sell x q)
                  unfolding with_sell
                  sell_left =
                      left_by_sell ∙ ap (λ (y : Exchange). put m₂ (offer_on y)) buy_read
                      ∙ ap (λ (n : Memory). put n (with_sell x q)) (buy_left ∙ ap (λ (n : Memory). put n (with_buy x q)) gone_is)

                  -- what each tells
                  first_is : (r₁.answer.traded ≡ traded_lots (buy_entered x q).trades) × (r₁.answer.lots ≡ (buy_entered x q).rested)
                  unfolding exchange_of
                  first_is =
                      let e : r₁.answer ≡ answer_of 0 (exchange_of m₁).next (traded_lots (entered_of (exchange_of m₁) (exchange_of m₁).next 1 (buy_of q)).trades) (entered_of (exchange_of m₁) (exchange_of m₁).next 1 (buy_of q)).rested = entered₁.answer ∙ rw bid_is in
                      (ap (λ v. v.traded) e ∙ ap (λ (y : Exchange). traded_lots (entered_of y y.next 1 (buy_of q)).trades) gone_read, ap (λ v. v.lots) e ∙ ap (λ (y : Exchange). (entered_of y y.next 1 (buy_of q)).rested) gone_read)

                  second_is : (r₂.answer.traded ≡ traded_lots (sell_entered x q).trades) × (r₂.answer.lots ≡ (sell_entered x q).rested)
                  unfolding exchange_of
                  second_is =
                      let e : r₂.answer ≡ answer_of 0 (exchange_of m₂).next (traded_lots (entered_of (exchange_of m₂) (exchange_of m₂).next 1 (sell_of q)).trades) (entered_of (exchange_of m₂) (exchange_of m₂).next 1 (sell_of q)).rested = entered₂.answer ∙ rw offer_is in
                      (ap (λ v. v.traded) e ∙ ap (λ (y : Exchange). traded_lots (entered_of y y.next 1 (sell_of q)).trades) buy_read, ap (λ v. v.lots) e ∙ ap (λ (y : Exchange). (entered_of y y.next 1 (sell_of q)).rested) buy_read)

                  abbrev traded : ℕ
                  traded = r₁.answer.traded + r₂.answer.traded

                  abbrev rested : ℕ
                  rested = r₁.answer.lots + r₂.answer.lots

                  next_is : x.next ≡ s.next
                  unfolding exchange_of
                  next_is = refl

                  summed : (done (kind_of x command).effect).answer ≡ answer_of 0 x.next traded rested
                  unfolding kind_of quoted
                  summed = rw (first_is.0, first_is.1, second_is.0, second_is.1) refl

                  told_both : (done (kind_of x command).effect).answer ≡ answer_of 0 s.next traded rested
                  told_both = summed ∙ ap (λ (n : ℕ). answer_of 0 n traded rested) next_is

                  written_both : written m (kind_of x command).effect.stages ≡ memory r₂.state buys₃ sells₃ trades₃
                  unfolding kind_of quoted
                  written_both = sym sell_left

                  lots_few : lots ≤ max_lots
                  unfolding half
                  lots_few = (buy_passes x f.contents q holder listed is_maker bought).lots_high

                  pub sums_fit : (traded ≤ 2 * max_lots) × (rested ≤ 2 * max_lots)
                  unfolding half
                  sums_fit =
                      let b = entered_lots (without_quote x q) (without_quote x q).next 1 (buy_of q) in
                      let o = entered_lots (with_buy x q) (with_buy x q).next 1 (sell_of q) in
                      (omega (arith, first_is.0, second_is.0, b.0, o.0, lots_few), omega (arith, first_is.1, second_is.1, b.1, o.1, lots_few))

                  pub quote_accepted : {r : Outcome} → r ≡ accepted_with r₂.state s.next traded rested → PlacedIs s buys sells trades account contract lots buy sell r buys₃ sells₃ trades₃
                  quote_accepted {r} e =
                      let zero-told : r.answer.code ≡ 0 = ap (λ (v : Outcome). v.answer.code) e in
                      record {
                        accepted = λ z. acceptance s buys sells trades command (code_sell ∙ sold) told_both written_both e;
                        refused = λ z. absurd (z zero-told);
                        buys_back = λ z. absurd (z zero-told);
                        sells_back = λ z. absurd (z zero-told);
                        trades_back = λ z. absurd (z zero-told);
                      }
