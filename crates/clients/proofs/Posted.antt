-- What the clients' exchange has at its places: a posted order's client is one of the clients, a client's lots at the start are those of
-- the words read for it, and settlement prices are the day's. Assumes nothing.
use Rattle.laws.specs.Logic.{Bool, true, false, List, [], ◌∷◌, map, ◌≡◌, refl, ◌∙◌}
use Rattle.laws.specs.Numbers.{ℕ, ◌<◌, ◌≤◌, arith, leb-true, lt-ltb, eqb, leb, length, get_or}
use Rattle.laws.specs.Choice.{pick, both_true}
use Rattle.laws.specs.Sums.{sum_of}
use Rattle.laws.specs.Tabulate.{tabulate, get_d_tabulate}
use Rattle.rules.specs.Bounds.{max_contracts}
use Rattle.rules.specs.Exchange.{Exchange, holding_at, account_at, no_account, no_holding, listing_at}
use Rattle.rules.specs.Matching.{traded_lots}
use Rattle.rules.specs.Settlement.{trades_in, traded_value, weighted_price, price_from, settlement_price}
use Rattle.rules.specs.declared.{Order.Order, Trade.Trade}
use Rattle.theory.proofs.InUse.{used_holding}
use Rattle.clients.specs.Clients.{Clients, is_posted, client_place, client_trade, client_account, client_exchange, client_holding, posted, client_places, max_clients}

-- ---- postings

pub posted_place : (clients : ℕ) (postings : List ℕ) (number : ℕ) → is_posted clients postings number ≡ true → client_place clients postings number < clients
unfolding client_place is_posted
posted_place clients postings number e =
    let v = get_or (posted postings number) 0 0 in
    let p = (both_true (eqb (length (posted postings number)) 1) _ e).1 in
    let q = both_true (leb 1 v) (leb v clients) p in
    let low = leb-true 1 v q.0 in
    let high = leb-true v clients q.1 in
    rw e (omega arith)

-- ---- accounts

module _ (b : Clients) where
  pub client_holding_lem : (k c : ℕ) → k < b.count → k < client_places → c < max_contracts → holding_at (tabulate client_places (client_account b)) k c ≡ client_holding b.starts k c
  unfolding holding_at account_at client_account
  client_holding_lem k c l few h =
      rw (get_d_tabulate client_places k (client_account b) no_account few, lt-ltb k b.count l)
      (get_d_tabulate max_contracts c (client_holding b.starts k) no_holding h)

  module _ (x : Exchange) (a : ℕ) where
    pub start_at : (k c : ℕ) → k < b.count → b.count ≤ max_clients → c < length x.listings → length x.listings ≤ max_contracts
        → holding_at (client_exchange x a b).accounts k c ≡ client_holding b.starts k c
    unfolding client_exchange
    start_at k c l few h four' =
        used_holding (length x.listings) client_places (tabulate client_places (client_account b)) k c (omega arith) h
        ∙ client_holding_lem k c l (omega arith) (omega arith)

    pub same_listing : (c : ℕ) → listing_at (client_exchange x a b) c ≡ listing_at x c
    unfolding client_exchange listing_at
    same_listing c = refl

    -- ---- prices

    client_trades_in : (c : ℕ) (ts : List Trade) → trades_in c (map (client_trade a b.count b.postings) ts) ≡ map (client_trade a b.count b.postings) (trades_in c ts)
    unfolding trades_in client_trade
    client_trades_in c [] = refl
    client_trades_in c (t ∷ ts) = rw (client_trades_in c ts) (by_contract (eqb t.contract c))
      where
        by_contract : (here : Bool)
            → pick here (client_trade a b.count b.postings t ∷ map (client_trade a b.count b.postings) (trades_in c ts)) (map (client_trade a b.count b.postings) (trades_in c ts))
            ≡ map (client_trade a b.count b.postings) (pick here (t ∷ trades_in c ts) (trades_in c ts))
        by_contract true = refl
        by_contract false = refl

    same_value : (ts : List Trade) → traded_value (map (client_trade a b.count b.postings) ts) ≡ traded_value ts
    unfolding traded_value sum_of client_trade
    same_value [] = refl
    same_value (t ∷ ts) = omega (arith, same_value ts)

    same_lots_lem : (ts : List Trade) → traded_lots (map (client_trade a b.count b.postings) ts) ≡ traded_lots ts
    unfolding traded_lots sum_of client_trade
    same_lots_lem [] = refl
    same_lots_lem (t ∷ ts) = omega (arith, same_lots_lem ts)

    same_from : (tick reference : ℕ) (ts : List Trade) (buys sells : List Order)
        → price_from tick reference (map (client_trade a b.count b.postings) ts) buys sells ≡ price_from tick reference ts buys sells
    unfolding price_from weighted_price
    same_from tick reference [] buys sells = refl
    same_from tick reference (t ∷ ts) buys sells = rw (same_value (t ∷ ts), same_lots_lem (t ∷ ts))

    -- "at the settlement price due"
    pub same_price : (c : ℕ) → settlement_price (client_exchange x a b) c ≡ settlement_price x c
    unfolding settlement_price client_exchange listing_at
    same_price c = rw (client_trades_in c x.trades) (same_from _ _ (trades_in c x.trades) _ _)
