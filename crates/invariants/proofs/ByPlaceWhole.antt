-- `WrittenByPlace` says all: two memories of which it says the same are one. Assumes nothing.
use lib.Seq.{ext_get_or}
use Rattle.laws.specs.Logic.{Bool, true, false, List, ◌≡◌, sym, ap, ◌∙◌}
use Rattle.laws.specs.Numbers.{ℕ, ◌+◌, ◌*◌, ◌/◌, ◌%◌, ◌<◌, arith, length, get_or}
use Rattle.rules.specs.Bounds.{max_resting, max_accounts}
use Rattle.rules.specs.Exchange.{Exchange, account_at, holding_at, no_account, no_contract, no_holding}
use Rattle.rules.specs.Memory.{Memory, first_word, order_stride, queue_stride, trade_stride}
use Rattle.invariants.specs.ByPlace.{WrittenByPlace, area_of, counts_of}

-- each word of a queue area is one of a place of a contract
queue_word : (k : ℕ) → k ≡ first_word (k / queue_stride) (k % queue_stride / order_stride) + k % queue_stride % order_stride
queue_word k = omega arith

-- and each of the trade area one of a trade's place
trade_word : (k : ℕ) → k ≡ trade_stride * (k / trade_stride) + k % trade_stride
trade_word k = omega arith

place_of_word : (k : ℕ) → (k % queue_stride / order_stride < max_resting) × (k % queue_stride % order_stride < order_stride)
place_of_word k = (omega arith, omega arith)

-- ---- two memories told alike

module _ (m : Memory) (held : List Exchange) (x : Exchange) (n p : Memory) (s : WrittenByPlace m held x n) (t : WrittenByPlace m held x p) where
  same_area : (sell : Bool) → area_of sell n ≡ area_of sell p
  same_area sell = ext_get_or 0 (area_of sell n) (area_of sell p) (s.room sell ∙ sym (t.room sell)) (λ k h. word k)
    where
      at : (c i w : ℕ) → i < max_resting → w < order_stride → get_or (area_of sell n) (first_word c i + w) 0 ≡ get_or (area_of sell p) (first_word c i + w) 0
      at c i w a b = s.orders sell c i w a b ∙ sym (t.orders sell c i w a b)

      word : (k : ℕ) → get_or (area_of sell n) k 0 ≡ get_or (area_of sell p) k 0
      word k =
          let e = queue_word k in
          let l = place_of_word k in
          ap (λ (j : ℕ). get_or (area_of sell n) j 0) e
          ∙ at (k / queue_stride) (k % queue_stride / order_stride) (k % queue_stride % order_stride) l.0 l.1
          ∙ ap (λ (j : ℕ). get_or (area_of sell p) j 0) (sym e)

  same_trades : n.trades ≡ p.trades
  same_trades = ext_get_or 0 n.trades p.trades (s.traderoom ∙ sym t.traderoom) (λ k h. word k)
    where
      at : (i w : ℕ) → w < trade_stride → get_or n.trades (trade_stride * i + w) 0 ≡ get_or p.trades (trade_stride * i + w) 0
      at i w b = s.trades i w b ∙ sym (t.trades i w b)

      word : (k : ℕ) → get_or n.trades k 0 ≡ get_or p.trades k 0
      word k =
          let e = trade_word k in
          ap (λ (j : ℕ). get_or n.trades j 0) e ∙ at (k / trade_stride) (k % trade_stride) (omega arith) ∙ ap (λ (j : ℕ). get_or p.trades j 0) (sym e)

  same_contracts : n.state.contracts ≡ p.state.contracts
  same_contracts =
      ext_get_or no_contract n.state.contracts p.state.contracts (s.declared.contracts ∙ sym t.declared.contracts)
      (λ c h. s.contracts c ∙ sym (t.contracts c))

  same_counts : (sell : Bool) → counts_of sell n ≡ counts_of sell p
  same_counts sell = ext_get_or 0 (counts_of sell n) (counts_of sell p) (wide sell) (λ c h. s.counts sell c ∙ sym (t.counts sell c))
    where
      wide : (sell : Bool) → length (counts_of sell n) ≡ length (counts_of sell p)
      wide true = s.declared.sellcounts ∙ sym t.declared.sellcounts
      wide false = s.declared.buycounts ∙ sym t.declared.buycounts

  same_holdings_lem : (a : ℕ) → a < max_accounts → (account_at n.state.accounts a).holdings ≡ (account_at p.state.accounts a).holdings
  unfolding holding_at
  same_holdings_lem a h =
      ext_get_or no_holding (account_at n.state.accounts a).holdings (account_at p.state.accounts a).holdings
      (s.declared.holdings a h ∙ sym (t.declared.holdings a h)) (λ c k. s.holdings a c ∙ sym (t.holdings a c))

  same_account : (a : ℕ) → a < max_accounts → account_at n.state.accounts a ≡ account_at p.state.accounts a
  same_account a h =
      let b = s.balances a ∙ sym (t.balances a) in
      let k = s.makers a ∙ sym (t.makers a) in
      let hs = same_holdings_lem a h in
      λ i. record { balance = b i; maker = k i; holdings = hs i }

  same_accounts : n.state.accounts ≡ p.state.accounts
  unfolding account_at
  same_accounts =
      ext_get_or no_account n.state.accounts p.state.accounts (s.declared.accounts ∙ sym t.declared.accounts)
      (λ a h. same_account a (rw s.declared.accounts at h))

  same_state : n.state ≡ p.state
  same_state =
      let contractcount = s.contractcount ∙ sym t.contractcount in
      let accountcount = s.accountcount ∙ sym t.accountcount in
      let tradecount = s.tradecount ∙ sym t.tradecount in
      let next = s.next ∙ sym t.next in
      let nextstamp = s.nextstamp ∙ sym t.nextstamp in
      let settlements = s.settlements ∙ sym t.settlements in
      let buys = same_counts false in
      let sells = same_counts true in
      λ i. record {
        contracts = same_contracts i;
        accounts = same_accounts i;
        buycounts = buys i;
        sellcounts = sells i;
        contractcount = contractcount i;
        accountcount = accountcount i;
        tradecount = tradecount i;
        next = next i;
        nextstamp = nextstamp i;
        settlements = settlements i;
      }

  -- NOTHING IS LEFT UNTOLD
  pub by_place_whole : n ≡ p
  by_place_whole =
      let buys = same_area false in
      let sells = same_area true in
      λ i. record { state = same_state i; buys = buys i; sells = sells i; trades = same_trades i }
