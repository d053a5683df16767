-- WHAT AN ACCOUNT IS CHARGED AFTER A STEP in one contract: no more than before, the lots of an open of its own included. A trade moves
-- a resting open into the holding, or takes off what it closes; orders that go are charged no longer. Assumes nothing.
use Rattle.laws.specs.Logic.{Bool, true, false, List, ◌∷◌, ◌≡◌, refl, sym, ap, ap₂, subst⁻¹, ◌∙◌}
use Rattle.laws.specs.Numbers.{ℕ, zero, suc, ◌+◌, ◌*◌, ◌<◌, ◌≤◌, le_refl, mul-le-mul_left, arith, eq-eqb, eqb, length, set, length-set}
use Rattle.laws.specs.Choice.{pick, pick_same, all_of}
use Rattle.laws.specs.Lists.{at_set}
use Rattle.rules.specs.Answers.{listing_of, mark, taker_of}
use Rattle.rules.specs.Exchange.{Exchange, Listing, contract_at, holding_at, listing_at, no_listing, opposite, own, resting_opens, with_queues}
use Rattle.rules.specs.Holdings.{book_trades}
use Rattle.rules.specs.Margin.{charge, charged, charged_lots, charged_lots_with, charged_to, included_to}
use Rattle.rules.specs.Matching.{remainder}
use Rattle.rules.specs.Step.{entered_of, exchange_after, listing_after}
use Rattle.rules.specs.declared.{Account.Account, Contract.Contract, NewOrder.NewOrder, Order.Order, Trade.Trade}
use Rattle.theory.proofs.Holdings.{other_holding}
use Rattle.theory.proofs.LotsIncluded.{more_lots, no_lots}
use Rattle.theory.proofs.Sweep.{of_contract}
use Rattle.invariants.proofs.Insert.{account, accounts_after, after, arrived, contract_limit, its_trades, kept_after, kept_before, lots_swept, mine, mine_after, others, place, Before}
use Rattle.invariants.proofs.InsertListing.{Enterable, contract_after, own_is}
use Rattle.invariants.proofs.Legs.{KeptAt, opens_for, resting_cons}
use Rattle.invariants.proofs.SweptHoldings.{Fewer}

-- ---- a step in one contract: its listing is replaced, and trades in it are booked

pub record Relisted (x : Exchange) (c : ℕ) (m : Listing) (ts : List Trade) (y : Exchange) : Type 0 where
  pub there : c < length x.listings
  pub listings : y.listings ≡ set x.listings c m
  pub accounts : y.accounts ≡ book_trades x.accounts ts
  pub here : all_of (of_contract c) ts ≡ true
  pub charge_same : charge m.contract ≡ charge (contract_at x c)

-- one contract more
one_more : {s s' k k' n n' : ℕ} → k ≡ k' → s ≤ s' → n ≤ n' → s + k * n ≤ s' + k' * n'
one_more {k' = k'} e h l = rw e (omega (arith, mul-le-mul_left k' l))

-- the charge of all contracts follows from that of one
module _ (x : Exchange) (c : ℕ) (m : Listing) (ts : List Trade) (y : Exchange) (r : Relisted x c m ts y) (a : ℕ) (sell : Bool) (lots : ℕ)
    (no_more : charged_lots m a (holding_at (book_trades x.accounts ts) a c) ≤ charged_lots_with (listing_at x c) a (holding_at x.accounts a c) sell lots) where
  abbrev NoMoreAt : List Account → ℕ → Listing → Type 0
  NoMoreAt accounts d l =
      (charge l.contract ≡ charge (contract_at x d))
      × (charged_lots l a (holding_at accounts a d) ≤ charged_lots_with (listing_at x d) a (holding_at x.accounts a d) sell (pick (eqb d c) lots 0))

  in_contract : (d : ℕ) → NoMoreAt y.accounts d (listing_at y d)
  unfolding listing_at
  in_contract d =
      subst⁻¹ (λ (accounts : List Account). NoMoreAt accounts d (listing_at y d)) r.accounts
      (rw r.listings
      (at_set (NoMoreAt (book_trades x.accounts ts)) x.listings c m no_listing r.there (r.charge_same, rw (eq-eqb c c refl) no_more) d
      (λ n. (refl, rw (other_holding c x.accounts ts a d r.here n) (more_lots (listing_at x d) a (holding_at x.accounts a d) sell (pick (eqb d c) lots 0))))))

  in_contracts : (n : ℕ) → charged_to y a n ≤ included_to x a c sell lots n
  unfolding charged_to included_to
  in_contracts zero = le_refl 0
  in_contracts (suc d) =
      let p = in_contract d in
      one_more p.0 (in_contracts d) p.1

  pub relisted_charged : charged y a ≤ included_to x a c sell lots (length x.listings)
  relisted_charged =
      subst⁻¹ (λ (n : ℕ). charged_to y a n ≤ included_to x a c sell lots (length x.listings)) (ap length r.listings ∙ length-set x.listings c m)
      (in_contracts (length x.listings))

-- without lots of its own
pub none_included : (x : Exchange) (a c : ℕ) (sell : Bool) (n : ℕ) → included_to x a c sell 0 n ≡ charged_to x a n
unfolding included_to charged_to
none_included x a c sell zero = refl
none_included x a c sell (suc d) =
    ap₂ (λ (s k : ℕ). s + charge (listing_at x d).contract * k) (none_included x a c sell d)
    (rw (pick_same {A = ℕ} (eqb d c) 0) (sym (no_lots (listing_at x d) a (holding_at x.accounts a d) sell)))

pub relisted_no_more : (x : Exchange) (c : ℕ) (m : Listing) (ts : List Trade) (y : Exchange) → Relisted x c m ts y → (a : ℕ) →
    charged_lots m a (holding_at (book_trades x.accounts ts) a c) ≤ charged_lots (listing_at x c) a (holding_at x.accounts a c) →
    charged y a ≤ charged x a
relisted_no_more x c m ts y r a h =
    rw (← none_included x a c false (length x.listings))
    (relisted_charged x c m ts y r a false 0 (rw (← no_lots (listing_at x c) a (holding_at x.accounts a c) false) h))

-- orders that go, or have fewer lots, are charged no more
pub fewer_charged : (l m : Listing) (a : ℕ) (accounts : List Account) (c : ℕ) → Fewer m.buys l.buys → Fewer m.sells l.sells →
    charged_lots m a (holding_at accounts a c) ≤ charged_lots l a (holding_at accounts a c)
unfolding charged_lots
fewer_charged l m a accounts c f g = omega (arith, f 0 a, g 0 a)

-- ---- an order entered

-- what is charged with the arriving lots bounds what the account holds and has resting
bounded : (sell : Bool) (l : Listing) (c limit lots : ℕ) (accounts : List Account) (a : ℕ) (r : Order) →
    resting_opens a (r ∷ own sell l) ≡ lots + resting_opens a (own sell l) →
    KeptAt limit c accounts (pick sell (opposite sell l) (r ∷ own sell l)) (pick sell (r ∷ own sell l) (opposite sell l)) a →
    KeptAt (charged_lots_with l a (holding_at accounts a c) sell lots) c accounts (pick sell (opposite sell l) (r ∷ own sell l)) (pick sell (r ∷ own sell l) (opposite sell l)) a
unfolding charged_lots_with
bounded false l c limit lots accounts a r e k = record { buy_opens_lem = omega arith; sell_opens_lem = omega arith; buy_closes_lem = k.buy_closes_lem; sell_closes_lem = k.sell_closes_lem }
bounded true l c limit lots accounts a r e k = record { buy_opens_lem = omega arith; sell_opens_lem = omega arith; buy_closes_lem = k.buy_closes_lem; sell_closes_lem = k.sell_closes_lem }

-- .. and what they are then is charged within the bound
within_bound : (sell : Bool) (contract : Contract) (mine others : List Order) (c bound : ℕ) (accounts : List Account) (a : ℕ) →
    KeptAt bound c accounts (pick sell others mine) (pick sell mine others) a → charged_lots (with_queues sell contract mine others) a (holding_at accounts a c) ≤ bound
unfolding charged_lots
within_bound sell contract mine others c bound accounts a k = omega (arith, k.buy_opens_lem, k.sell_opens_lem)

module _ {x : Exchange} {number quote next : ℕ} {o : NewOrder} (entry : Enterable x number quote next o) where
  -- the arriving lots that count for an account: its own open's
  abbrev pub arriving : ℕ → ℕ
  arriving a = opens_for a (account entry) (mark o.close) o.lots

  abbrev bound : ℕ → ℕ
  bound a = charged_lots_with (listing_of x o) a (holding_at x.accounts a (place entry)) o.sell (arriving a)

  before_bound : Before entry bound
  unfolding taker_of remainder
  before_bound a l =
      bounded o.sell (listing_of x o) (place entry) (contract_limit entry a) (arriving a) x.accounts a
      (arrived entry) (resting_cons 0 a (arrived entry) (mine entry)) (kept_before entry a l)

  lots_after : (a : ℕ) → a < length x.accounts → charged_lots (after entry) a (holding_at (accounts_after entry) a (place entry)) ≤ bound a
  unfolding listing_after
  lots_after a l =
      rw (own_is entry)
      (within_bound o.sell (contract_after entry) (mine_after entry) (lots_swept entry).rest
      (place entry) (bound a) (accounts_after entry) a (kept_after entry bound before_bound a l))

  relisted : Relisted x (place entry) (after entry) (lots_swept entry).trades
      (exchange_after x o (entered_of x number quote o) next)
  unfolding exchange_after listing_after listing_of
  relisted = record { there = entry.passes.contract; listings = refl; accounts = refl; here = its_trades entry; charge_same = refl }

  -- WHAT IS CHARGED AFTER AN ORDER IS ENTERED is at most what was with its lots included
  pub entered_charged : (a : ℕ) → a < length x.accounts → charged (exchange_after x o (entered_of x number quote o) next) a
      ≤ included_to x a (place entry) o.sell (arriving a) (length x.listings)
  unfolding listing_of
  entered_charged a l =
      relisted_charged x (place entry) (after entry) (lots_swept entry).trades
      (exchange_after x o (entered_of x number quote o) next) relisted a o.sell (arriving a) (lots_after a l)
