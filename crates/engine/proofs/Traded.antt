-- A state with trades added and one contract's listing new, written into the memory that it comes from: what an insert leaves, and
-- what a match does. Assumes nothing.
use mathlib.Core.Bool.{Bool, true, false}
use mathlib.Core.List.{List, [], ◌∷◌, ◌++◌}
use mathlib.Core.Path.{◌≡◌, sym, ◌∙◌}
use Prim.Native.Nat.{ℕ, ◌+◌, ◌*◌, ◌<◌, ◌≤◌}
use native.Mathlib.Omega.{arith}
use lib.ListN.{length, get_or, set, length-append, length-set}
use lib.Seq.{get_or-set_same}
use Rattle.laws.specs.Choice.{all_of, all_of_append, both_true}
use Rattle.areas.specs.Records.{store}
use Rattle.rules.specs.Bounds.{max_resting}
use Rattle.rules.specs.Exchange.{Exchange, Listing, listing_at, no_listing, own}
use Rattle.rules.specs.Holdings.{book_trades}
use Rattle.rules.specs.Memory.{Memory, exchange_of, put, put_accounts, put_queue, put_trades, trade_words, trade_stride}
use Rattle.rules.specs.Step.{with_trades}
use Rattle.rules.specs.WellFormed.{trade_in_range}
use Rattle.rules.specs.declared.Trade.{Trade}
use Rattle.theory.proofs.Codecs.{store_trades}
use Rattle.theory.proofs.Holdings.{length_book_trades}
use Rattle.invariants.proofs.Clauses.{Counted, WellFormed, trade_ok}
use Rattle.engine.proofs.Accounts.{TradesUsed, put_trades_booked}
use Rattle.engine.proofs.Formed.{Formed, accounts_count, contracts_count, few_accounts, wide}
use Rattle.engine.proofs.Puts.{put_one_listing, trades_count}

-- trades in range are of contracts and accounts in use
trades_used : (y : Exchange) (k n : ℕ) → length y.listings ≡ k → length y.accounts ≡ n → (ts : List Trade) → all_of (trade_in_range y) ts ≡ true → TradesUsed k n ts
unfolding all_of TradesUsed
trades_used y k n el ea [] h = tt
trades_used y k n el ea (t ∷ ts) h =
    let b = both_true (trade_in_range y t) (all_of (trade_in_range y) ts) h in
    let q = trade_ok y t b.0 in
    ((omega (arith, q.contract), (omega (arith, q.buyer), omega (arith, q.seller))), trades_used y k n el ea ts b.1)

module _ (m : Memory) (f : Formed m) (c : ℕ) (l : Listing) (ts : List Trade) (next nextstamp : ℕ) (here : c < m.state.contractcount)
    (kept : WellFormed (with_trades (exchange_of m) c l ts next nextstamp)) (counted : Counted (with_trades (exchange_of m) c l ts next nextstamp)) where
  abbrev x : Exchange
  x = exchange_of m

  contracts_after : length (set x.listings c l) ≡ m.state.contractcount
  contracts_after = length-set x.listings c l ∙ contracts_count m f

  -- at most 64 orders on either side
  pub few_after : (side : Bool) → length (own side l) ≤ max_resting
  unfolding listing_at
  few_after side =
      rw (get_or-set_same x.listings c l no_listing (rw (contracts_count m f) here)) at (counted.queues c side (rw contracts_after here))

  accounts_booked : put_accounts (book_trades x.accounts ts) m.state.accounts ≡ book_trades m.state.accounts ts
  unfolding exchange_of
  accounts_booked =
      put_trades_booked m.state.contractcount m.state.accountcount m.state.accounts ts (few_accounts m f) (wide m f)
      (trades_used (with_trades x c l ts next nextstamp) m.state.contractcount m.state.accountcount contracts_after (length_book_trades x.accounts ts ∙ accounts_count m f) ts
      (both_true (all_of (trade_in_range (with_trades x c l ts next nextstamp)) x.trades) (all_of (trade_in_range (with_trades x c l ts next nextstamp)) ts) (rw all_of_append at kept.trades)).1)

  trades_stored : put_trades m.trades m.state.tradecount (x.trades ++ ts) ≡ store trade_words m.trades (trade_stride * m.state.tradecount) ts
  unfolding exchange_of
  trades_stored = sym (store_trades m.trades m.state.tradecount ts (omega (arith, f.trades_room, f.trades_high)))

  pub put_traded :
      put m (with_trades x c l ts next nextstamp)
      ≡ record {
        state =
            record {
              contracts = set m.state.contracts c l.contract;
              accounts = book_trades m.state.accounts ts;
              buycounts = set m.state.buycounts c (length l.buys);
              sellcounts = set m.state.sellcounts c (length l.sells);
              contractcount = m.state.contractcount;
              accountcount = m.state.accountcount;
              tradecount = m.state.tradecount + length ts;
              next = next;
              nextstamp = nextstamp;
              settlements = m.state.settlements;
            };
        buys = put_queue m.buys c (get_or m.state.buycounts c 0) l.buys;
        sells = put_queue m.sells c (get_or m.state.sellcounts c 0) l.sells;
        trades = store trade_words m.trades (trade_stride * m.state.tradecount) ts;
      }
  unfolding exchange_of
  put_traded =
      put_one_listing m f (book_trades x.accounts ts) (x.trades ++ ts) next nextstamp x.settlements c l here (few_after false) (few_after true)
      ∙ rw (accounts_booked, length-append, trades_count m f, trades_stored)
