-- Article 32 as a reader looks for it: in a well-formed state, closing and holding profit of an account in a contract (before
-- the multiplier) are what its trades sold for, less what they cost, plus its net holding now at the settlement price, less its
-- net holding at the start at the reference. Assumes nothing.
use lib.IntN.{ℤ, pos, ◌+ℤ◌, ◌-ℤ◌, ◌*ℤ◌}
use Rattle.laws.specs.Logic.{true, ◌≡◌, sym, ap, ap₂, ◌∙◌}
use Rattle.laws.specs.Numbers.{ℕ, ◌<◌, length}
use Rattle.rules.specs.Condition3.{sales, costs, net_holding}
use Rattle.rules.specs.Exchange.{Exchange, listing_at, holding_at}
use Rattle.rules.specs.Settlement.{legs, day_of, holding_gain, settlement_price}
use Rattle.rules.specs.WellFormed.{replays, well_formed_contents}
use Rattle.accounting.specs.DayLegs.{net, net_open}
use Rattle.accounting.specs.Money.{proceeds, net_now, net_at_start}
use Rattle.accounting.specs.Shape.{Placed, Shaped}
use Rattle.accounting.proofs.DayProfit.{day_profit, day_net, lots_start}
use Rattle.accounting.proofs.Facts.{facts}
use Rattle.accounting.proofs.Replay.{day_covered, day_holdings}
use Rattle.accounting.proofs.Trades.{flow_legs, net_legs}

module _ (x : Exchange) (r : replays x ≡ true) (a c : ℕ) where
  -- at any price s, with the net holding at the start and what was bought less sold today
  pub day_money_lem : (s : ℕ) → (day_of x a c).closing +ℤ holding_gain s (day_of x a c)
      ≡ proceeds a c x.trades +ℤ pos s *ℤ (net_at_start x a c +ℤ net_holding a c x.trades) -ℤ pos (listing_at x c).contract.reference *ℤ net_at_start x a c
  unfolding day_of net_at_start
  day_money_lem s =
      day_profit _ s _ _ (legs a c x.trades) (day_covered x r a c)
      ∙ ap₂ (λ (f n : ℤ). f +ℤ pos s *ℤ (net_at_start x a c +ℤ n) -ℤ pos (listing_at x c).contract.reference *ℤ net_at_start x a c)
      (flow_legs a c x.trades) (net_legs a c x.trades)

  -- the net holding moves by what is bought less what is sold
  pub net_moves : Placed x.accounts a c → net_now x a c ≡ net_at_start x a c +ℤ net_holding a c x.trades
  unfolding day_of net_now net_at_start net_open
  net_moves p =
      let h = day_holdings x r a c p in
      let s = lots_start (listing_at x c).contract.reference (holding_at x.accounts a c).startlong (holding_at x.accounts a c).startshort in
      ap₂ (λ (l k : ℕ). pos l -ℤ pos k) (sym h.0) (sym h.1) ∙ day_net _ (legs a c x.trades) (day_covered x r a c)
      ∙ ap₂ (λ (l k : ℕ). pos l -ℤ pos k +ℤ net (legs a c x.trades)) s.0 s.1
      ∙ ap (λ (n : ℤ). net_at_start x a c +ℤ n) (net_legs a c x.trades)

-- a place of each account and contract in use
pub placed : (x : Exchange) → Shaped x → (a c : ℕ) → a < length x.accounts → c < length x.listings → Placed x.accounts a c
unfolding Shaped
placed x h a c la lc = record { account = la; contract = rw (h a la) lc }

pub article32_identity : (x : Exchange) → well_formed_contents x ≡ true → Shaped x → (a c : ℕ) → a < length x.accounts → c < length x.listings →
    (day_of x a c).closing +ℤ holding_gain (settlement_price x c) (day_of x a c)
    ≡ ((pos (sales a c x.trades) -ℤ pos (costs a c x.trades))
    +ℤ pos (settlement_price x c) *ℤ (pos (holding_at x.accounts a c).long -ℤ pos (holding_at x.accounts a c).short))
    -ℤ pos (listing_at x c).contract.reference *ℤ (pos (holding_at x.accounts a c).startlong -ℤ pos (holding_at x.accounts a c).startshort)
unfolding proceeds net_now net_at_start
article32_identity x w h a c la lc =
    let r = (facts x w).replay in
    day_money_lem x r a c (settlement_price x c)
    ∙ ap (λ (n : ℤ). proceeds a c x.trades +ℤ pos (settlement_price x c) *ℤ n -ℤ pos (listing_at x c).contract.reference *ℤ net_at_start x a c)
    (sym (net_moves x r a c (placed x h a c la lc)))
