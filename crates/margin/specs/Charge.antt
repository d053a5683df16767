-- What the margin functions ask for, in the ranges of a well-formed state, and what they give back. Assumes nothing.
use Rattle.std.specs.Prelude.{List, ◌≡◌, ℕ, ◌+◌, ◌*◌, ◌^◌, ◌<◌, ◌≤◌, length, get_or}
use Rattle.rules.specs.Bounds.{max_resting, max_contracts, max_accounts, max_price, max_multiplier, max_limit, max_rate}
use Rattle.rules.specs.Exchange.{Listing, no_account, no_contract, no_holding, resting_opens}
use Rattle.rules.specs.Margin as margin
use Rattle.rules.specs.Memory.{exchange_of, memory, queue_in, first_word}
use Rattle.rules.specs.declared.Contract.{Contract}
use Rattle.rules.specs.declared.Holding.{Holding}
use Rattle.rules.specs.declared.Order.{Order}
use Rattle.rules.specs.declared.State.{State}

-- a contract with its two queues
abbrev pub listing_with : Contract → List Order → List Order → Listing
listing_with contract buys sells = record { contract = contract; buys = buys; sells = sells }

-- with the first orders of its two queues
abbrev pub listing_from : Contract → List ℕ → ℕ → List ℕ → ℕ → ℕ → Listing
listing_from contract buys buycount sells sellcount c =
    record { contract = contract; buys = queue_in buys c buycount; sells = queue_in sells c sellcount }

pub record ChargeTerms (c : Contract) : Type 0 where
  pub multiplier : c.multiplier ≤ max_multiplier
  pub reference : c.reference ≤ max_price
  pub rate : c.rate ≤ max_rate

-- the lots of a side that a charge is asked for: at most the limit in a well-formed state, and with those of an open twice that is
-- ample
abbrev pub charged_most : ℕ
charged_most = 2 * max_limit

-- a contract, its two queues, and an account's holding in it
pub record ChargeableWith (contract : Contract) (buys sells : List Order) (a : ℕ) (h : Holding) : Type 0 where
  pub terms : ChargeTerms contract
  pub bids : length buys ≤ max_resting
  pub offers : length sells ≤ max_resting
  pub long : h.long + resting_opens a buys ≤ charged_most
  pub short : h.short + resting_opens a sells ≤ charged_most

-- the same of queues in their areas
pub record ChargeableIn (contract : Contract) (buys : List ℕ) (buycount : ℕ) (sells : List ℕ) (sellcount c a : ℕ) (h : Holding) : Type 0 where
  pub terms : ChargeTerms contract
  pub bids : buycount ≤ max_resting
  pub offers : sellcount ≤ max_resting
  pub buyroom : first_word c buycount ≤ length buys
  pub sellroom : first_word c sellcount ≤ length sells
  pub long : h.long + resting_opens a (queue_in buys c buycount) ≤ charged_most
  pub short : h.short + resting_opens a (queue_in sells c sellcount) ≤ charged_most

-- every contract in use, for one account: its holdings, the contracts and how many they are, and how many orders each queue has
pub record Chargeable (holdings : List Holding) (terms : List Contract) (contracts : ℕ) (buys buycounts sells sellcounts : List ℕ) (a : ℕ) : Type 0 where
  pub account : a < max_accounts
  pub few : contracts ≤ max_contracts
  pub each : (c : ℕ) → c < contracts →
      ChargeableIn (get_or terms c no_contract) buys (get_or buycounts c 0) sells (get_or sellcounts c 0) c a (get_or holdings c no_holding)

-- that a state has these for an account in use
pub record Has (s : State) (holdings : List Holding) (terms : List Contract) (contracts : ℕ) (buycounts sellcounts : List ℕ) (a : ℕ) : Type 0 where
  pub account : a < s.accountcount
  pub held : (get_or s.accounts a no_account).holdings ≡ holdings
  pub listed : s.contracts ≡ terms
  pub count : s.contractcount ≡ contracts
  pub bought : s.buycounts ≡ buycounts
  pub sold : s.sellcounts ≡ sellcounts

-- an account's margin: price, multiplier and rate at their largest, for `charged_most` lots in each contract, come to 8 x 10^14
abbrev pub margin_most : ℕ
margin_most = 10 ^ 15

-- the charged margin of the account in any state that has these, whatever trades the day has; it is small
pub record ChargedIs (holdings : List Holding) (terms : List Contract) (contracts : ℕ) (buys buycounts sells sellcounts : List ℕ) (a r : ℕ) : Type 0 where
  pub charged : (s : State) (trades : List ℕ) → Has s holdings terms contracts buycounts sellcounts a → r ≡ margin.charged (exchange_of (memory s buys sells trades)) a
  pub small : r ≤ margin_most

-- the same of what a state has
abbrev pub ChargeableAt : State → List ℕ → List ℕ → ℕ → Type 0
ChargeableAt s buys sells a = Chargeable (get_or s.accounts a no_account).holdings s.contracts s.contractcount buys s.buycounts sells s.sellcounts a

abbrev pub ChargedAt : State → List ℕ → List ℕ → ℕ → ℕ → Type 0
ChargedAt s buys sells a r = ChargedIs (get_or s.accounts a no_account).holdings s.contracts s.contractcount buys s.buycounts sells s.sellcounts a r
