-- Quote marks carried from a queue to what is left of it, and from the accounts to the accounts after a step: nothing but a quote adds a
-- mark, and nothing changes who is a maker. Assumes nothing.
use Rattle.laws.specs.Logic.{Bool, true, false, ◌&&◌, ◌||◌, List, [], ◌≡◌, refl}
use Rattle.laws.specs.Numbers.{ℕ, ◌+◌, ◌<◌, ◌≤◌, le_refl, arith, eqb-true, eqb, length}
use Rattle.laws.specs.Choice.{pick, all_of, all_of_imp}
use Rattle.laws.specs.Sums.{sum_of}
use Rattle.rules.specs.Answers.{listing_of, mark}
use Rattle.rules.specs.Change.{unmarked}
use Rattle.rules.specs.Exchange.{Exchange, account_at, own, place_of}
use Rattle.rules.specs.Matching.{sweep, remainder, rest_lots}
use Rattle.rules.specs.WellFormed.{is_quote_of, mark_allowed, quotes}
use Rattle.rules.specs.declared.{Account.Account, NewOrder.NewOrder, Order.Order, Taker.Taker}
use Rattle.theory.proofs.AuctionTaken.{KeptWithFewer, LessWithFewer}
use Rattle.theory.proofs.Rest.{rest_all, rest_sum}
use Rattle.invariants.proofs.Clauses.{MarksOk, WellFormed}
use Rattle.invariants.proofs.InsertQueues.{rested_all, rested_sum}

-- 1 for an account's marked order
abbrev pub mark_of : ℕ → Order → ℕ
mark_of a o = pick (is_quote_of a o) 1 0

module _ (accounts : List Account) where
  pub no_marks : MarksOk accounts []
  unfolding all_of quotes sum_of
  no_marks = record { allowed = refl; single = λ a l. omega arith }

  -- what is left of a queue
  pub marks_left : {before : List Order} (after : List Order) → MarksOk accounts before →
      (all_of (mark_allowed accounts) before ≡ true → all_of (mark_allowed accounts) after ≡ true) → ((a : ℕ) → sum_of (mark_of a) after ≤ sum_of (mark_of a) before) →
      MarksOk accounts after
  unfolding quotes
  marks_left after k tests sums = record { allowed = tests k.allowed; single = λ a l. omega (arith, sums a, k.single a l) }

  -- lots play no part; an order without its mark may stand anywhere
  pub allowed_fewer : KeptWithFewer (mark_allowed accounts)
  unfolding mark_allowed
  allowed_fewer o n low high h = h

  pub allowed_unmarked : (o : Order) → mark_allowed accounts (unmarked o) ≡ true
  unfolding mark_allowed
  allowed_unmarked o = refl

  -- other accounts with as many makers in the same places
  pub marks_carried : (accounts' : List Account) → length accounts' ≡ length accounts →
      ((a : ℕ) → (account_at accounts' a).maker ≡ (account_at accounts a).maker) → {queue : List Order} → MarksOk accounts queue → MarksOk accounts' queue
  unfolding mark_allowed
  marks_carried accounts' same makers {queue} k =
      record {
        allowed = all_of_imp (mark_allowed accounts) (mark_allowed accounts') queue (λ o h. rw (makers o.account) h) k.allowed;
        single = λ a l. k.single a (rw same at l);
      }

pub mark_fewer : (a : ℕ) → LessWithFewer (mark_of a)
mark_fewer a o n low high = le_refl _

pub mark_dropped : (a : ℕ) (o : Order) (n : ℕ) → mark_of a (unmarked o) ≤ n
mark_dropped a o n = by_account (eqb o.account a)
  where
    by_account : (b : Bool) → pick (b && false) 1 0 ≤ n
    by_account true = omega arith
    by_account false = omega arith

-- ---- the mark of an order that is entered

-- none, or that of a maker's open, with no other of its account on that side
pub record Marks (x : Exchange) (quote : ℕ) (o : NewOrder) : Type 0 where
  pub low : quote ≤ 1
  pub allowed : (eqb quote 0 || eqb (account_at x.accounts (place_of o.account)).maker 1 && eqb (mark o.close) 0) ≡ true
  pub single : pick (eqb quote 1) 1 0 + quotes (place_of o.account) (own o.sell (listing_of x o)) ≤ 1

pub no_mark : (x : Exchange) → WellFormed x → (o : NewOrder) → place_of o.account < length x.accounts → place_of o.contract < length x.listings → Marks x 0 o
unfolding listing_of
no_mark x k o account contract =
    record { low = omega arith; allowed = refl; single = omega (arith, (k.marks (place_of o.contract) contract o.sell).single (place_of o.account) account) }

module _ (accounts : List Account) (t : Taker) where
  -- the queue that it meets
  pub swept_marks : (left last : ℕ) (os : List Order) → MarksOk accounts os → MarksOk accounts (sweep t left last os).rest
  swept_marks left last os k =
      marks_left accounts (sweep t left last os).rest k (rest_all (mark_allowed accounts) (allowed_fewer accounts) t left last os) (λ a. rest_sum (mark_of a) (mark_fewer a) t left last os)

  -- the queue in which it rests
  pub rested_marks : (price n : ℕ) (queue : List Order) →
      (eqb t.quote 0 || eqb (account_at accounts t.account).maker 1 && eqb t.close 0) ≡ true → pick (eqb t.quote 1) 1 0 + quotes t.account queue ≤ 1 →
      MarksOk accounts queue → MarksOk accounts (rest_lots t price n queue)
  unfolding mark_allowed quotes remainder
  rested_marks price n queue allowed single k =
      record {
        allowed = rested_all t price (mark_allowed accounts) n queue (λ some. allowed) k.allowed;
        single = λ a l. by_account a (eqb t.account a) refl (rested_sum t price (mark_of a) n queue) (k.single a l);
      }
    where
      by_account : (a : ℕ) (b : Bool) → eqb t.account a ≡ b → sum_of (mark_of a) (rest_lots t price n queue) ≤ pick (eqb t.account a && eqb t.quote 1) 1 0 + sum_of (mark_of a) queue →
          sum_of (mark_of a) queue ≤ 1 → sum_of (mark_of a) (rest_lots t price n queue) ≤ 1
      by_account a true e s h =
          let s' : sum_of (mark_of a) (rest_lots t price n queue) ≤ pick (eqb t.quote 1) 1 0 + sum_of (mark_of a) queue = rw e at s in
          let h' : pick (eqb t.quote 1) 1 0 + sum_of (mark_of a) queue ≤ 1 = rw (eqb-true t.account a e) at single in
          omega arith
      by_account a false e s h = let s' : sum_of (mark_of a) (rest_lots t price n queue) ≤ 0 + sum_of (mark_of a) queue = rw e at s in omega arith
