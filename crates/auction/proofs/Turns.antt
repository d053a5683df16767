-- The match's loop: what it ends with if from here on it goes by the rules, a turn that keeps this, and each way out of the loop.
-- Assumes nothing.
use Rattle.laws.specs.Logic.{Bool, true, false, ◌&&◌, List, [], ◌∷◌, ◌≡◌, refl, sym, ap, subst, ◌∙◌}
use Rattle.laws.specs.Numbers.{ℕ, ◌+◌, ◌-◌, ◌*◌, ◌<◌, ◌≤◌, min, arith, leb-true, ltb-true, le-leb, leb, ltb, length, get_or, set, drop}
use Rattle.laws.specs.Choice.{all_of, both_true, true_both}
use Rattle.areas.specs.Records.{store}
use Rattle.areas.proofs.Records.{length_store}
use Rattle.rules.specs.Auction.{Matched, after_match, less_first, match_at, paired, reaches, trade_at, unmatched}
use Rattle.rules.specs.Bounds.{max_lots, max_resting}
use Rattle.rules.specs.Exchange.{no_order}
use Rattle.rules.specs.Holdings.{book_trade}
use Rattle.rules.specs.Matching.{with_lots}
use Rattle.rules.specs.Memory.{order_from, put_queue, queue_in, trade_words, trade_stride, first_word}
use Rattle.rules.specs.declared.{Account.Account, Order.Order, Trade.Trade}
use Rattle.theory.proofs.AuctionTaken.{KeptWithFewer, less_kept}
use Rattle.theory.proofs.AuctionTurns.{match_at_stop, match_at_turn}
use Rattle.theory.proofs.Codecs.{trade_codec}
use Rattle.holdings.proofs.Bookings.{held_more, held_trade}
use Rattle.book.proofs.Queues.{next_order, no_more}
use Rattle.book.proofs.Trading.{Booked, booked, booked_trade, all_booked, still_made}
use Rattle.auction.specs.Matched.{FillsIs, MatchReady, MatchParties, fits}
use Rattle.auction.proofs.Filling.{Side, Stands, left_in, side_begins, side_filled, left_filled, stands_filled, side_part, left_part, stands_part}

-- ---- why a match stops

module _ (c price : ℕ) where
  pub no_buys : (ss : List Order) → match_at c price [] ss ≡ unmatched [] ss
  no_buys ss = match_at_stop c price [] ss tt

  pub no_sells : (bs : List Order) → match_at c price bs [] ≡ unmatched bs []
  no_sells [] = match_at_stop c price [] [] tt
  no_sells (b ∷ bs) = match_at_stop c price (b ∷ bs) [] tt

  pub unmet : (b : Order) (bs : List Order) (s : Order) (ss : List Order) → (reaches false price b && reaches true price s) ≡ false
      → match_at c price (b ∷ bs) (s ∷ ss) ≡ unmatched (b ∷ bs) (s ∷ ss)
  unmet b bs s ss e = match_at_stop c price (b ∷ bs) (s ∷ ss) e

-- ---- a turn that trades: the two orders met

pub record Meeting (buys : List ℕ) (bought : ℕ) (sells : List ℕ) (sold c price i j : ℕ) (b s : Order) : Type 0 where
  pub buy_here : i < bought
  pub sell_here : j < sold
  pub buy : b ≡ order_from (drop (first_word c i) buys)
  pub sell : s ≡ order_from (drop (first_word c j) sells)
  pub met : (reaches false price b && reaches true price s) ≡ true

-- the trade, in the terms of the contract's place
pub trade_here : {c contract : ℕ} (price : ℕ) (b s : Order) {tr : Trade} → c ≡ contract → tr ≡ trade_at contract price (paired b s) b s → tr ≡ trade_at c price (paired b s) b s
trade_here price b s ec e = rw ec e

-- an order fits with fewer lots too
fits_fewer : (used : ℕ) → KeptWithFewer (fits used)
fits_fewer used o n some fewer h =
    let b = both_true (ltb o.account used) (leb o.lots max_lots) h in
    true_both (ltb o.account used) (leb n max_lots) b.0 (le-leb n max_lots (omega (arith, leb-true o.lots max_lots b.1)))

-- ---- what the loop ends with

-- what stands after a match, and the two queues
pub record Outcome : Type 0 where
  pub booked : Booked
  pub buys : List Order
  pub sells : List Order

-- so much booked as it is, and a match still to come
unfoldable pub finish : ℕ → ℕ → ℕ → List Account → List ℕ → Matched → Outcome
finish done made last held area m = record { booked = booked done made last held area m.trades; buys = m.buys; sells = m.sells }

-- a trade passes from what is to come to what is done
finish_trade : (done made last : ℕ) (held : List Account) (area : List ℕ) (tr : Trade) (m : Matched) → trade_stride * made ≤ length area
    → finish done made last held area (after_match tr m)
    ≡ finish (done + tr.lots) (made + 1) tr.price (book_trade held tr) (store trade_words area (trade_stride * made) (tr ∷ [])) m
unfolding finish
finish_trade done made last held area tr m room =
    ap (λ (b : Booked). record { booked = b; buys = m.buys; sells = m.sells }) (booked_trade done made last held area tr m.trades room)

-- ---- what the loop keeps

pub record Going
    (c price last : ℕ) (held₀ : List Account) (buys₀ : List ℕ) (bought : ℕ) (sells₀ : List ℕ) (sold : ℕ) (area₀ : List ℕ) (before : ℕ)
    (buys sells area : List ℕ) (held : List Account) (latest made i j done : ℕ) : Type 0 where
  pub buying : Side buys₀ c bought buys i
  pub selling : Side sells₀ c sold sells j
  pub long : length area ≡ length area₀
  pub some : done ≤ 1_000 * (i + j)
  pub parties : MatchParties (1_000_000 + done + done) c held (drop i (queue_in buys c bought)) (drop j (queue_in sells c sold))
  pub answer : finish done made latest held area (match_at c price (drop i (queue_in buys c bought)) (drop j (queue_in sells c sold)))
      ≡ finish 0 before last held₀ area₀ (match_at c price (queue_in buys₀ c bought) (queue_in sells₀ c sold))
  pub buys_stand : Stands (queue_in buys₀ c bought) (match_at c price (queue_in buys₀ c bought) (queue_in sells₀ c sold)).trades (queue_in buys c bought) i
      (match_at c price (drop i (queue_in buys c bought)) (drop j (queue_in sells c sold))).trades
  pub sells_stand : Stands (queue_in sells₀ c sold) (match_at c price (queue_in buys₀ c bought) (queue_in sells₀ c sold)).trades (queue_in sells c sold) j
      (match_at c price (drop i (queue_in buys c bought)) (drop j (queue_in sells c sold))).trades

-- it begins
pub going : {c price : ℕ} {held : List Account} {buys : List ℕ} {bought : ℕ} {sells : List ℕ} {sold : ℕ} {area : List ℕ} {before : ℕ} (last : ℕ)
    → MatchReady (match_at c price (queue_in buys c bought) (queue_in sells c sold)) c held buys bought sells sold area before
    → Going c price last held buys bought sells sold area before buys sells area held last before 0 0 0
going last ready =
    record {
      buying = side_begins ready.queues.buys_room;
      selling = side_begins ready.queues.sells_room;
      long = refl;
      some = omega arith;
      parties =
          let p = ready.parties in
          record { used = p.used; few = p.few; buyers = p.buyers; sellers = p.sellers; holdings = held_more p.holdings (omega arith) };
      answer = refl;
      buys_stand = record { stands = refl };
      sells_stand = record { stands = refl };
    }

module _
    {c price last : ℕ} {held₀ : List Account} {buys₀ : List ℕ} {bought : ℕ} {sells₀ : List ℕ} {sold : ℕ} {area₀ : List ℕ} {before : ℕ}
    {buys sells area : List ℕ} {held : List Account} {latest made i j done : ℕ}
    (g : Going c price last held₀ buys₀ bought sells₀ sold area₀ before buys sells area held latest made i j done) where
  abbrev bids : List Order
  bids = queue_in buys c bought

  abbrev asks : List Order
  asks = queue_in sells c sold

  abbrev all : Matched
  all = match_at c price (queue_in buys₀ c bought) (queue_in sells₀ c sold)

  -- nothing is to come: what stands is the answer
  finished : match_at c price (drop i bids) (drop j asks) ≡ unmatched (drop i bids) (drop j asks)
      → FillsIs all c last held₀ buys₀ bought sells₀ sold area₀ before (record { accounts = held; traded = done; last = latest; bought = i; sold = j; made = made }) buys sells area
  unfolding finish
  finished e =
      let o : finish done made latest held area (unmatched (drop i bids) (drop j asks)) ≡ finish 0 before last held₀ area₀ all = ap (finish done made latest held area) (sym e) ∙ g.answer in
      record {
        booked = all_booked all.trades (ap (λ x. x.booked) o);
        bought = left_in g.buying (rw e at g.buys_stand) (ap (λ x. x.buys) o);
        sold = left_in g.selling (rw e at g.sells_stand) (ap (λ x. x.sells) o);
      }

  -- the loop is left before a trade
  abbrev Stopped : Type 0
  Stopped = FillsIs all c last held₀ buys₀ bought sells₀ sold area₀ before (record { accounts = held; traded = done; last = latest; bought = i; sold = j; made = made }) buys sells area

  pub stopped_buys : i ≡ bought → Stopped
  stopped_buys e = finished (rw (no_more buys c bought i (omega arith)) (no_buys c price (drop j asks)))

  pub stopped_sells : j ≡ sold → Stopped
  stopped_sells e = finished (rw (no_more sells c sold j (omega arith)) (no_sells c price (drop i bids)))

  pub stopped_unmet : {b s : Order} → i < bought → j < sold → b ≡ order_from (drop (first_word c i) buys) → s ≡ order_from (drop (first_word c j) sells)
      → (reaches false price b && reaches true price s) ≡ false → Stopped
  stopped_unmet {b} {s} hb hs eb es e =
      finished (rw (next_order buys c bought i b hb eb, next_order sells c sold j s hs es) (unmet c price b (drop (i + 1) bids) s (drop (j + 1) asks) e))

  -- ---- a turn that trades

  -- from the tests that code makes before it: both queues have an order there
  pub meeting : (i ≡ bought → ⊥) → (j ≡ sold → ⊥) → {b s : Order} {r : Bool} → b ≡ order_from (drop (first_word c i) buys) → s ≡ order_from (drop (first_word c j) sells)
      → r ≡ (reaches false price b && reaches true price s) → r ≡ true → Meeting buys bought sells sold c price i j b s
  meeting hb hs eb es er met =
      record { buy_here = omega (arith, g.buying.within); sell_here = omega (arith, g.selling.within); buy = eb; sell = es; met = sym er ∙ met }

  module _ {b s : Order} {tr : Trade} (m : Meeting buys bought sells sold c price i j b s) (et : tr ≡ trade_at c price (paired b s) b s) where
    next_buy : drop i bids ≡ b ∷ drop (i + 1) bids
    next_buy = next_order buys c bought i b m.buy_here m.buy

    next_sell : drop j asks ≡ s ∷ drop (j + 1) asks
    next_sell = next_order sells c sold j s m.sell_here m.sell

    pub trade_size : tr.lots ≡ min b.lots s.lots
    unfolding trade_at
    trade_size = ap (λ (t : Trade). t.lots) et

    pub trade_contract : tr.contract ≡ c
    unfolding trade_at
    trade_contract = ap (λ (t : Trade). t.contract) et

    trade_price_lem : tr.price ≡ price
    unfolding trade_at
    trade_price_lem = ap (λ (t : Trade). t.price) et

    buys_fit : all_of (fits g.parties.used) (b ∷ drop (i + 1) bids) ≡ true
    buys_fit = rw next_buy at g.parties.buyers

    sells_fit : all_of (fits g.parties.used) (s ∷ drop (j + 1) asks) ≡ true
    sells_fit = rw next_sell at g.parties.sellers

    -- the trade is of few lots, and its accounts are in use
    first_fits : (o : Order) (os : List Order) → all_of (fits g.parties.used) (o ∷ os) ≡ true → (o.account < g.parties.used) × (o.lots ≤ 1_000)
    unfolding all_of
    first_fits o os h =
        let f = both_true (fits g.parties.used o) (all_of (fits g.parties.used) os) h in
        let p = both_true (ltb o.account g.parties.used) (leb o.lots max_lots) f.0 in
        (ltb-true _ _ p.0, leb-true _ _ p.1)

    pub trade_few : tr.lots ≤ 1_000
    trade_few = omega (arith, trade_size, (first_fits b (drop (i + 1) bids) buys_fit).1)

    -- at most 64 orders rest on a side
    pub trade_total : bought ≤ max_resting → sold ≤ max_resting → done + tr.lots ≤ 128_000
    trade_total hb hs = omega (arith, trade_few, g.some, m.buy_here, m.sell_here)

    pub trade_parties : (tr.buyer < g.parties.used) × (tr.seller < g.parties.used)
    unfolding trade_at
    trade_parties = rw et ((first_fits b (drop (i + 1) bids) buys_fit).0, (first_fits s (drop (j + 1) asks) sells_fit).0)

    turn : match_at c price (drop i bids) (drop j asks)
        ≡ after_match tr (match_at c price (less_first tr.lots b (drop (i + 1) bids)) (less_first tr.lots s (drop (j + 1) asks)))
    turn =
        let both = both_true (reaches false price b) (reaches true price s) m.met in
        rw (next_buy, next_sell)
        (match_at_turn c price b (drop (i + 1) bids) s (drop (j + 1) asks) both.0 both.1
        ∙ ap (λ (t : Trade). after_match t (match_at c price (less_first (paired b s) b (drop (i + 1) bids)) (less_first (paired b s) s (drop (j + 1) asks)))) (sym et)
        ∙ ap (λ (n : ℕ). after_match tr (match_at c price (less_first n b (drop (i + 1) bids)) (less_first n s (drop (j + 1) asks)))) (sym trade_size))

    -- what is still to come behind this trade
    still : Matched
    still = match_at c price (less_first tr.lots b (drop (i + 1) bids)) (less_first tr.lots s (drop (j + 1) asks))

    buys_stood : Stands (queue_in buys₀ c bought) all.trades bids i (tr ∷ still.trades)
    unfolding still
    buys_stood = rw turn at g.buys_stand

    sells_stood : Stands (queue_in sells₀ c sold) all.trades asks j (tr ∷ still.trades)
    unfolding still
    sells_stood = rw turn at g.sells_stand

    -- the area has room for it
    pub trade_room : MatchReady (match_at c price (queue_in buys₀ c bought) (queue_in sells₀ c sold)) c held₀ buys₀ bought sells₀ sold area₀ before → trade_stride * made + trade_stride ≤ length area
    unfolding finish
    trade_room ready =
        omega (arith, ready.room, ap (λ x. x.booked.made) g.answer, still_made done made latest held area (match_at c price (drop i bids) (drop j asks)).trades, still_made 0 before last held₀ area₀ all.trades, ap (λ x. length x.trades) turn, g.long)

    module _ (room : trade_stride * made + trade_stride ≤ length area) {held' : List Account} (eh : held' ≡ book_trade held tr) {area' : List ℕ} (ea : area' ≡ store trade_words area (trade_stride * made) (tr ∷ [])) where
      -- it goes on with the two sides as they are then
      on : {buys' sells' : List ℕ} {i' j' : ℕ} → Side buys₀ c bought buys' i' → Side sells₀ c sold sells' j' → i + j < i' + j'
          → drop i' (queue_in buys' c bought) ≡ less_first tr.lots b (drop (i + 1) bids) → drop j' (queue_in sells' c sold) ≡ less_first tr.lots s (drop (j + 1) asks)
          → Stands (queue_in buys₀ c bought) all.trades (queue_in buys' c bought) i' still.trades → Stands (queue_in sells₀ c sold) all.trades (queue_in sells' c sold) j' still.trades
          → Going c price last held₀ buys₀ bought sells₀ sold area₀ before buys' sells' area' held' price (made + 1) i' j' (done + tr.lots)
      unfolding still
      on {buys'} {sells'} {i'} {j'} buying selling more lb ls bought' sold' =
          let u = g.parties.used in
          let next : still ≡ match_at c price (drop i' (queue_in buys' c bought)) (drop j' (queue_in sells' c sold)) = rw (lb, ls) in
          record {
            buying = buying;
            selling = selling;
            long = ap length ea ∙ length_store trade_codec area (trade_stride * made) (tr ∷ []) room ∙ g.long;
            some = omega (arith, g.some, trade_few);
            parties =
                record {
                  used = u;
                  few = g.parties.few;
                  buyers = rw lb (less_kept tr.lots b (drop (i + 1) bids) (fits u) (fits_fewer u) buys_fit);
                  sellers = rw ls (less_kept tr.lots s (drop (j + 1) asks) (fits u) (fits_fewer u) sells_fit);
                  holdings = rw eh (held_more (held_trade held tr trade_contract trade_parties.0 trade_parties.1 g.parties.holdings) (omega arith));
                };
            answer =
                rw (lb, ls, eh, ea)
                (ap (λ (p : ℕ). finish (done + tr.lots) (made + 1) p (book_trade held tr) (store trade_words area (trade_stride * made) (tr ∷ [])) still) (sym trade_price_lem)
                ∙ sym (finish_trade done made latest held area tr still (omega arith)) ∙ ap (finish done made latest held area) (sym turn)
                ∙ g.answer);
            buys_stand = subst (λ (m : Matched). Stands (queue_in buys₀ c bought) all.trades (queue_in buys' c bought) i' m.trades) next bought';
            sells_stand = subst (λ (m : Matched). Stands (queue_in sells₀ c sold) all.trades (queue_in sells' c sold) j' m.trades) next sold';
          }

      -- the sell is filled, the buy is, or both are
      pub on_sell : tr.lots < b.lots → {buys' : List ℕ} → length buys' ≡ length buys
          → buys' ≡ put_queue buys c bought (set bids i (with_lots (get_or bids i no_order) (b.lots - tr.lots)))
          → Going c price last held₀ buys₀ bought sells₀ sold area₀ before buys' sells area' held' price (made + 1) i (j + 1) (done + tr.lots)
      on_sell part same written =
          on (side_part g.buying m.buy_here m.buy tr.lots part same written) (side_filled g.selling m.sell_here m.sell) (omega arith)
          (left_part g.buying m.buy_here m.buy tr.lots part same written) (left_filled g.selling m.sell_here m.sell tr.lots (omega (arith, trade_size)))
          (stands_part g.buying m.buy_here m.buy tr.lots part same written tr refl buys_stood) (stands_filled g.selling m.sell_here m.sell tr (omega (arith, trade_size)) sells_stood)

      pub on_buy : b.lots ≤ tr.lots → tr.lots < s.lots → {sells' : List ℕ} → length sells' ≡ length sells
          → sells' ≡ put_queue sells c sold (set asks j (with_lots (get_or asks j no_order) (s.lots - tr.lots)))
          → Going c price last held₀ buys₀ bought sells₀ sold area₀ before buys sells' area' held' price (made + 1) (i + 1) j (done + tr.lots)
      on_buy full part same written =
          on (side_filled g.buying m.buy_here m.buy) (side_part g.selling m.sell_here m.sell tr.lots part same written) (omega arith)
          (left_filled g.buying m.buy_here m.buy tr.lots full) (left_part g.selling m.sell_here m.sell tr.lots part same written)
          (stands_filled g.buying m.buy_here m.buy tr full buys_stood) (stands_part g.selling m.sell_here m.sell tr.lots part same written tr refl sells_stood)

      pub on_both : b.lots ≤ tr.lots → s.lots ≤ tr.lots
          → Going c price last held₀ buys₀ bought sells₀ sold area₀ before buys sells area' held' price (made + 1) (i + 1) (j + 1) (done + tr.lots)
      on_both full filled =
          on (side_filled g.buying m.buy_here m.buy) (side_filled g.selling m.sell_here m.sell) (omega arith)
          (left_filled g.buying m.buy_here m.buy tr.lots full) (left_filled g.selling m.sell_here m.sell tr.lots filled)
          (stands_filled g.buying m.buy_here m.buy tr full buys_stood) (stands_filled g.selling m.sell_here m.sell tr filled sells_stood)
