-- What a well-formed memory says that margin and settlement ask for: terms, trades, holdings and balances in range, room, and
-- closes that find their lots. Assumes nothing.
use Rattle.laws.specs.Logic.{true, false, List, [], ◌∷◌, ◌≡◌}
use Rattle.laws.specs.Numbers.{ℕ, ◌*◌, ◌^◌, ◌<◌, ◌≤◌, arith, length, get_or}
use Rattle.laws.specs.Bound.{Within, within_abs}
use Rattle.laws.specs.Choice.{all_of, all_of_at, both_true}
use Rattle.rules.specs.Exchange.{Exchange, listing_at, contract_at, holder_at, held_at, no_contract, no_account, no_holding, no_trade}
use Rattle.rules.specs.Memory.{Memory, Declared, exchange_of, listing_in, recorded_trades, well_formed_memory}
use Rattle.rules.specs.Settlement.{day_start, legs, settlement_price}
use Rattle.rules.specs.WellFormed.{trade_in_range}
use Rattle.rules.specs.declared.{State.State, Trade.Trade}
use Rattle.theory.proofs.Codecs.{length_trades}
use Rattle.theory.proofs.InUse.{contracts_in_use, accounts_in_use, listing_in_use, holding_in_use}
use Rattle.theory.proofs.Terms.{Terms, contract_terms}
use Rattle.accounting.specs.DayLegs.{AllCovered}
use Rattle.accounting.proofs.Facts.{trade_facts}
use Rattle.accounting.proofs.PriceBound.{settlement_price_bound}
use Rattle.accounting.proofs.Replay.{replay_covered}
use Rattle.invariants.proofs.Clauses.{HoldingOk, WellFormed, well_formed}
use Rattle.invariants.proofs.MemoryRoom.{MemoryOk, memory_ok}
use Rattle.margin.specs.Charge.{ChargeableIn, ChargeableAt}
use Rattle.dayprofit.specs.Day.{AllSized, SizedTrades, Quotes, Priceable}
use Rattle.dayprofit.specs.Slots.{PlacedTrades}

-- the arrays have room for the accounts in use
pub accounts_declared : (m : Memory) → Declared m.state → well_formed_memory m ≡ true → m.state.accountcount ≤ length m.state.accounts
accounts_declared m d w = omega (arith, d.accounts, (memory_ok m w).counts.accounts_high)

-- ---- the day's trades

all_sized : (x : Exchange) (ts : List Trade) → all_of (trade_in_range x) ts ≡ true → AllSized ts
unfolding all_of AllSized
all_sized x [] h = tt
all_sized x (t ∷ ts) h =
    let b = both_true (trade_in_range x t) (all_of (trade_in_range x) ts) h in
    let f = trade_facts x t b.0 in
    (record { price = f.price; some = f.lots_low; lots = f.lots_high }, all_sized x ts b.1)

-- ---- the memory

module _ (m : Memory) (room : m.state.accountcount ≤ length m.state.accounts) (w : well_formed_memory m ≡ true) where
  abbrev s : State
  s = m.state

  its : MemoryOk m
  its = memory_ok m w

  contents : WellFormed (exchange_of m)
  contents = well_formed (exchange_of m) its.contents

  pub contracts_four : s.contractcount ≤ 4
  contracts_four = its.counts.contracts_high

  pub accounts_few : s.accountcount ≤ 32
  accounts_few = its.counts.accounts_high

  pub accounts_counted : length (exchange_of m).accounts ≡ s.accountcount
  accounts_counted = accounts_in_use m room

  module _ (c : ℕ) (lc : c < s.contractcount) where
    listed : c < length (exchange_of m).listings
    listed = rw (contracts_in_use m) lc

    pub contract_at_lem : Terms (listing_at (exchange_of m) c).contract
    contract_at_lem = contract_terms _ (contents.listing c listed).contract

    pub quotes : Quotes m.buys (get_or s.buycounts c 0) m.sells (get_or s.sellcounts c 0) c
    quotes =
        record {
          buyroom = omega (arith, its.counts.buys c lc, its.room.buys);
          sellroom = omega (arith, its.counts.sells c lc, its.room.sells);
        }

    pub price_high : settlement_price (exchange_of m) c ≤ 1_000_000
    price_high = settlement_price_bound (exchange_of m) its.contents c listed

    module _ (a : ℕ) (la : a < s.accountcount) where
      known : a < length (exchange_of m).accounts
      known = rw accounts_counted la

      its_holding_lem : HoldingOk (listing_at (exchange_of m) c) a (held_at (exchange_of m) a c)
      its_holding_lem = contents.holding a c known listed

      pub holding_starts : ((held_at (exchange_of m) a c).startlong ≤ 100_000) × ((held_at (exchange_of m) a c).startshort ≤ 100_000)
      holding_starts = (omega (arith, its_holding_lem.startlong, contract_at_lem.limit_high), omega (arith, its_holding_lem.startshort, contract_at_lem.limit_high))

      -- margin reads the state as it lies
      chargeable_in : ChargeableIn (get_or s.contracts c no_contract) m.buys (get_or s.buycounts c 0) m.sells (get_or s.sellcounts c 0) c a (get_or (get_or s.accounts a no_account).holdings c no_holding)
      unfolding listing_in
      chargeable_in =
          let terms = rw (listing_in_use m c lc) at contract_at_lem in
          let held = rw (listing_in_use m c lc, holding_in_use m a c la lc) at its_holding_lem in
          record {
            terms = record { multiplier = terms.multiplier_high; reference = terms.reference.high; rate = terms.rate_high };
            bids = its.counts.buys c lc;
            offers = its.counts.sells c lc;
            buyroom = quotes.buyroom;
            sellroom = quotes.sellroom;
            long = omega (arith, held.opens false, terms.limit_high);
            short = omega (arith, held.opens true, terms.limit_high);
          }

      pub legs_covered : AllCovered (day_start (contract_at (exchange_of m) c).reference (held_at (exchange_of m) a c).startlong (held_at (exchange_of m) a c).startshort) (legs a c (recorded_trades m.trades s.tradecount))
      unfolding exchange_of
      legs_covered = replay_covered a c (exchange_of m).accounts (exchange_of m).trades _ contents.covered

  -- an account's margin
  pub chargeable : (a : ℕ) → a < s.accountcount → ChargeableAt s m.buys m.sells a
  chargeable a la = record { account = omega (arith, la, accounts_few); few = contracts_four; each = λ c lc. chargeable_in c lc a la }

  pub sized_trades : SizedTrades m.trades s.tradecount
  unfolding exchange_of
  sized_trades =
      record {
        few = its.counts.trades;
        room = omega (arith, its.room.trades, its.counts.trades);
        sized = all_sized (exchange_of m) (exchange_of m).trades contents.trades;
      }

  -- trades between accounts and in contracts in use
  pub placed_trades : PlacedTrades m.trades s.tradecount
  unfolding exchange_of
  placed_trades =
      record {
        trades = sized_trades;
        placed = λ i li.
            let l : i < length (exchange_of m).trades = omega (arith, length_trades m.trades s.tradecount) in
            let f = trade_facts (exchange_of m) _ (all_of_at (trade_in_range (exchange_of m)) (exchange_of m).trades i no_trade contents.trades l) in
            record {
              contract = omega (arith, f.contract, contracts_in_use m, contracts_four);
              buyer = omega (arith, f.buyer, accounts_counted, accounts_few);
              seller = omega (arith, f.seller, accounts_counted, accounts_few);
            };
      }

  pub priceable : (c : ℕ) → c < s.contractcount
      → Priceable (get_or s.contracts c no_contract) m.buys (get_or s.buycounts c 0) m.sells (get_or s.sellcounts c 0) m.trades s.tradecount c
  unfolding listing_in
  priceable c lc = record { tick = (rw (listing_in_use m c lc) at (contract_at_lem c lc)).tick_low; place = omega (arith, contracts_four); trades = sized_trades; quotes = quotes c lc }

  pub balance_within : (a : ℕ) → a < s.accountcount → Within (2 * 10 ^ 18) (holder_at (exchange_of m) a).balance
  balance_within a la =
      let known : a < length (exchange_of m).accounts = rw accounts_counted la in
      within_abs _ (2 * 10 ^ 18) (omega (arith, contents.balance a known, contents.settlements))
