-- Every trade of an auction's match: what holds of a trade with any two orders that reach the price holds of each. Assumes nothing.
use Rattle.laws.specs.Logic.{Bool, true, false, List, [], ◌∷◌, ◌≡◌, refl}
use Rattle.laws.specs.Numbers.{ℕ, ◌<◌, ◌≤◌, arith, eq-eqb, eqb}
use Rattle.laws.specs.Choice.{all_of, both_true, true_both}
use Rattle.rules.specs.Auction.{match_at, paired, reaches, trade_at}
use Rattle.rules.specs.declared.{Order.Order, Trade.Trade}
use Rattle.theory.proofs.AuctionTaken.{KeptWithFewer, less_kept}
use Rattle.theory.proofs.AuctionTurns.{match_ind}

-- the tests that the orders of the two queues pass, with fewer lots too, and the one that their trades then pass
module _ (contract price : ℕ) (test : Trade → Bool) (buy sell : Order → Bool) (fewer : KeptWithFewer buy × KeptWithFewer sell)
    (each : (lots : ℕ) (b s : Order) → lots ≤ b.lots → lots ≤ s.lots → (0 < b.lots → 0 < s.lots → 0 < lots)
    → reaches false price b ≡ true → reaches true price s ≡ true → buy b ≡ true → sell s ≡ true → test (trade_at contract price lots b s) ≡ true) where
  pub match_each : (bs ss : List Order) → all_of buy bs ≡ true → all_of sell ss ≡ true → all_of test (match_at contract price bs ss).trades ≡ true
  unfolding all_of
  match_each =
      match_ind contract price (λ bs ss m. all_of buy bs ≡ true → all_of sell ss ≡ true → all_of test m.trades ≡ true)
      (λ bs ss a x y. refl)
      (λ b bs s ss m f g ih x y.
      let n = paired b s in
      let p = both_true (buy b) (all_of buy bs) x in
      let q = both_true (sell s) (all_of sell ss) y in
      true_both (test (trade_at contract price n b s)) (all_of test m.trades)
      (each n b s (omega arith) (omega arith) (λ h k. omega arith) f g p.0 q.0)
      (ih (less_kept n b bs buy fewer.0 x) (less_kept n s ss sell fewer.1 y)))

every_true : {A : Type 0} (l : List A) → all_of (λ x. true) l ≡ true
unfolding all_of
every_true [] = refl
every_true (x ∷ xs) = every_true xs

-- "All trades are at it", of the one contract
module _ (contract price : ℕ) (bs ss : List Order) where
  each_trade : (test : Trade → Bool) → ((lots : ℕ) (b s : Order) → test (trade_at contract price lots b s) ≡ true) → all_of test (match_at contract price bs ss).trades ≡ true
  each_trade test f =
      match_each contract price test (λ o. true) (λ o. true) ((λ o n h l e. refl), (λ o n h l e. refl)) (λ lots b s h k l i j x y. f lots b s) bs ss
      (every_true bs) (every_true ss)

  pub match_prices : all_of (λ t. eqb t.price price) (match_at contract price bs ss).trades ≡ true
  unfolding trade_at
  match_prices = each_trade (λ t. eqb t.price price) (λ lots b s. eq-eqb price price refl)

  pub match_contract : all_of (λ t. eqb t.contract contract) (match_at contract price bs ss).trades ≡ true
  unfolding trade_at
  match_contract = each_trade (λ t. eqb t.contract contract) (λ lots b s. eq-eqb contract contract refl)
