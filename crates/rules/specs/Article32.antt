-- Article 32 of document 002 as it is written: closing profit and holding profit, two sums each. Settlement.antt keeps the open
-- lots as the day goes; that its profit comes to these sums is proved (`by_article_32`, accounting, proofs/FourSums). Assumes
-- nothing.
use Rattle.std.specs.Prelude.{Bool, not, ◌&&◌, List, [], ◌∷◌, ◌≡◌, ℕ, ◌+◌, ◌-◌, min, max, ℤ, pos, ◌+ℤ◌, ◌-ℤ◌, ◌*ℤ◌, length}
use Rattle.laws.specs.Choice.{pick}
use Rattle.laws.specs.Sums.{sum_of, sum_to}
use Rattle.rules.specs.Exchange.{Exchange, contract_at, held_at}
use Rattle.rules.specs.Settlement.{Batch, Leg, leg, legs, settlement_price, closing_profit, holding_profit}

-- ---- what the sums read: one account's day in one contract

pub record Figures : Type 0 where
  -- 上一交易日结算价, the previous settlement price, which is the reference; 当日结算价, the day's
  pub previous : ℕ
  pub price : ℕ
  -- lots held at the start of the day
  pub long : ℕ
  pub short : ℕ
  -- today's, each with its price, in trade order
  pub buy_opens : List Batch
  pub sell_opens : List Batch
  pub buy_closes : List Batch
  pub sell_closes : List Batch

-- legs of one kind
unfoldable pub those_that : (Bool → Bool → Bool) → List Leg → List Batch
those_that which [] = []
those_that which (leg sell close p n ∷ ls) = pick (which sell close) (record { price = p; lots = n } ∷ those_that which ls) (those_that which ls)

unfoldable pub figures : ℕ → ℕ → ℕ → ℕ → List Leg → Figures
figures previous price long short ls =
    record {
      previous = previous;
      price = price;
      long = long;
      short = short;
      buy_opens = those_that (λ sell close. not sell && not close) ls;
      sell_opens = those_that (λ sell close. sell && not close) ls;
      buy_closes = those_that (λ sell close. not sell && close) ls;
      sell_closes = those_that (λ sell close. sell && close) ls;
    }

unfoldable pub figures_of : Exchange → ℕ → ℕ → Figures
figures_of x a c =
    figures (contract_at x c).reference (settlement_price x c) (held_at x a c).startlong (held_at x a c).startshort
    (legs a c x.trades)

-- ---- which lots a close takes: "Closes use start-of-day lots first, then today's in trade order (house)."

-- So a side's lots stand in line, those of the start of the day in front and today's behind them as they were opened, and closes
-- take them from the front. Two stretches of that line, each so many lots from a place on, have these lots in common: an open's and a
-- close's, the lots that the close takes of the open
abbrev pub overlap : ℕ → ℕ → ℕ → ℕ → ℕ
overlap openPlace open_lots closePlace closeLots = min (openPlace + open_lots) (closePlace + closeLots) - max openPlace closePlace

-- Σ over opens or closes, of which the first has its first lot at a place in line: what each adds by its place, price and lots
unfoldable pub Σover : ℕ → List Batch → (ℕ → ℕ → ℕ → ℤ) → ℤ
Σover place [] part = pos 0
Σover place (b ∷ bs) part = part place b.price b.lots +ℤ Σover (place + b.lots) bs part

abbrev pub lots_in : List Batch → ℕ
lots_in batches = sum_of (λ b. b.lots) batches

-- ---- (1) 平仓盈亏 = 平历史仓盈亏 + 平当日仓盈亏: closing profit is that on historical lots and that on today's

-- 平历史仓盈亏 = Σ [(卖出平仓价－上一交易日结算价) × 卖出平仓量] + Σ [(上一交易日结算价－买入平仓价) × 买入平仓量]
-- Σ (sell close price - previous settlement price) x lots + Σ (previous settlement price - buy close price) x lots
unfoldable pub closed_history : Figures → ℤ
closed_history f =
    Σover 0 f.sell_closes (λ place sold lots. (pos sold -ℤ pos f.previous) *ℤ pos (overlap 0 f.long place lots))
    +ℤ Σover 0 f.buy_closes (λ place bought lots. (pos f.previous -ℤ pos bought) *ℤ pos (overlap 0 f.short place lots))

-- 平当日仓盈亏 = Σ [(当日卖出平仓价－当日买入开仓价) × 卖出平仓量] + Σ [(当日卖出开仓价－当日买入平仓价) × 买入平仓量]
-- Σ (sell close price - buy open price) x lots + Σ (sell open price - buy close price) x lots
unfoldable pub closed_today : Figures → ℤ
closed_today f =
    Σover 0 f.sell_closes
    (λ closePlace sold closeLots. Σover f.long f.buy_opens
    (λ openPlace bought open_lots. (pos sold -ℤ pos bought) *ℤ pos (overlap openPlace open_lots closePlace closeLots)))
    +ℤ Σover 0 f.buy_closes
    (λ closePlace bought closeLots. Σover f.short f.sell_opens
    (λ openPlace sold open_lots. (pos sold -ℤ pos bought) *ℤ pos (overlap openPlace open_lots closePlace closeLots)))

-- ---- (2) 持仓盈亏 = 历史持仓盈亏 + 当日开仓持仓盈亏: holding profit is that on historical lots and that on those opened today, each as far
-- as no close took them (decision 11)

-- 历史持仓盈亏 = Σ [(上一交易日结算价－当日结算价) × 卖出历史持仓量] + Σ [(当日结算价－上一交易日结算价) × 买入历史持仓量]
-- (previous settlement price - the day's) x historical short lots + (the day's - previous settlement price) x historical long lots
unfoldable pub held_history : Figures → ℤ
held_history f =
    (pos f.previous -ℤ pos f.price) *ℤ pos (f.short - overlap 0 f.short 0 (lots_in f.buy_closes))
    +ℤ (pos f.price -ℤ pos f.previous) *ℤ pos (f.long - overlap 0 f.long 0 (lots_in f.sell_closes))

-- 当日开仓持仓盈亏 = Σ [(卖出开仓价－当日结算价) × 卖出开仓量] + Σ [(当日结算价－买入开仓价) × 买入开仓量]
-- Σ (sell open price - the day's settlement price) x lots + Σ (the day's settlement price - buy open price) x lots
unfoldable pub held_today : Figures → ℤ
held_today f =
    Σover f.short f.sell_opens
    (λ place sold lots. (pos sold -ℤ pos f.price) *ℤ pos (lots - overlap place lots 0 (lots_in f.buy_closes)))
    +ℤ Σover f.long f.buy_opens
    (λ place bought lots. (pos f.price -ℤ pos bought) *ℤ pos (lots - overlap place lots 0 (lots_in f.sell_closes)))

-- ---- "times multiplier", over all contracts

abbrev pub in_all : (Figures → ℤ) → Exchange → ℕ → ℤ
in_all part x a = sum_to (length x.listings) (λ c. pos (contract_at x c).multiplier *ℤ part (figures_of x a c))

-- "Profit follows Article 32: closing and holding parts"
pub record ByArticle32 (x : Exchange) (a : ℕ) : Type 0 where
  pub closing : closing_profit x a ≡ in_all closed_history x a +ℤ in_all closed_today x a
  pub holding : holding_profit x a ≡ in_all held_history x a +ℤ in_all held_today x a
