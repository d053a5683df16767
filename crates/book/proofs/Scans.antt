-- What one order adds to the numbers that are read of a queue, in the terms of the code that reads it: the number of trades, an
-- account's resting lots. Assumes nothing.
use Rattle.laws.specs.Logic.{true, ◌&&◌, List, [], ◌∷◌, ◌≡◌, sym, ap, ◌∙◌, Bool, false, not}
use Rattle.laws.specs.Numbers.{ℕ, ◌+◌, ◌-◌, min, arith, eq-eqb, ne_eqb, eqb, not-true, not-false, ◌≤◌}
use Rattle.laws.specs.Choice.{true_both, false_both, both_false, pick}
use Rattle.book.specs.EarlyStop.{count_trades}
use Rattle.rules.specs.Exchange.{resting, lots_where}
use Rattle.rules.specs.Matching.{counterpart}
use Rattle.rules.specs.declared.{Order.Order, Taker.Taker}
use Rattle.book.proofs.EarlyStop.{count_met}
use Rattle.theory.proofs.Queue.{lots_nil, lots_met, lots_unmet, lots_append}
use Rattle.laws.specs.Sums.{sum_of}

-- ---- a counterpart

-- what a negated test decides of the answer t that its value r stands for
pub test_failed : (r t : Bool) → r ≡ t → not r ≡ true → t ≡ false
test_failed r t e h = sym e ∙ not-true r h

pub test_passed : (r t : Bool) → r ≡ t → not r ≡ false → t ≡ true
test_passed r t e h = sym e ∙ not-false r h

-- it adds one trade, of the smaller of the lots left and its own
pub trades_on : (t : Taker) (left size : ℕ) (o : Order) → (left ≡ 0 → ⊥) → size ≡ min left o.lots → counterpart t o ≡ true → (os : List Order)
    → count_trades t left (o ∷ os) ≡ 1 + count_trades t (left - size) os
trades_on t left size o some e met os =
    let rest : left - o.lots ≡ left - size = omega arith in
    count_met t left o os (omega arith) met ∙ ap (λ (k : ℕ). 1 + count_trades t k os) rest

-- ---- an account's resting lots

pub resting_nil : (close account : ℕ) → resting close account [] ≡ 0
unfolding resting
resting_nil close account = lots_nil _

module _ (close account : ℕ) (o : Order) where
  -- what an order adds: nothing as another account's, nothing as the other mark's, else its lots
  pub other_account : (o.account ≡ account → ⊥) → 0 ≡ resting close account (o ∷ [])
  unfolding resting
  other_account h = sym (lots_unmet _ o [] (false_both (eqb o.account account) (eqb o.close close) (ne_eqb o.account account h)) ∙ lots_nil _)

  pub other_mark : (o.close ≡ close → ⊥) → 0 ≡ resting close account (o ∷ [])
  unfolding resting
  other_mark h = sym (lots_unmet _ o [] (both_false (eqb o.account account) (eqb o.close close) (ne_eqb o.close close h)) ∙ lots_nil _)

  pub own_lots : (a : ℕ) → a ≡ o.lots → o.account ≡ account → o.close ≡ close → a ≡ resting close account (o ∷ [])
  unfolding resting
  own_lots a e p q =
      let t : (eqb o.account account && eqb o.close close) ≡ true = true_both (eqb o.account account) (eqb o.close close) (eq-eqb o.account account p) (eq-eqb o.close close q) in
      omega (arith, lots_met (λ p. eqb p.account account && eqb p.close close) o [] t, lots_nil (λ p. eqb p.account account && eqb p.close close))

  pub resting_on : (a : ℕ) → a ≡ resting close account (o ∷ []) → (os : List Order) → resting close account (o ∷ os) ≡ a + resting close account os
  unfolding resting
  resting_on a e os = rw e (lots_append _ (o ∷ []) os)

  module _ (a : ℕ) (e : a ≡ resting close account (o ∷ [])) where
    pub resting_within : a ≤ o.lots
    unfolding resting lots_where sum_of
    resting_within = within (eqb o.account account && eqb o.close close) o.lots a e
      where
        within : (t : Bool) (x a : ℕ) → a ≡ pick t x 0 + 0 → a ≤ x
        within true x a e = omega arith
        within false x a e = omega arith
