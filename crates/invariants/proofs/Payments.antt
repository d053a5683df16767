-- A deposit and a withdrawal keep a state well formed: they change one balance, within its bound. Assumes nothing.
use lib.IntN.{ℤ, pos, negsuc, nat_abs, ◌+ℤ◌, ◌-ℤ◌}
use lib.Signed.{lt_z}
use Rattle.laws.specs.Logic.{false, List, [], map, ◌≡◌, refl, sym, ap, ◌∙◌}
use Rattle.laws.specs.Numbers.{ℕ, suc, ◌+◌, ◌*◌, ◌<◌, ◌≤◌, le_refl, arith, ltb-false, length, get_or, set, length-set, List·getD-map, map-set_same}
use Rattle.laws.specs.Bound.{within_abs, within_d, abs_within}
use Rattle.laws.specs.Choice.{either_false}
use Rattle.laws.specs.Lists.{kept_at, map_set, at_set}
use Rattle.laws.specs.Ring.{d, d_ind, pos_part, neg_part, split, ring, lt_z_d}
use Rattle.rules.specs.Answers.{first_of, deposit_refusals, withdraw_refusals, lifts_too_high, leaves_too_little, amount_refused}
use Rattle.rules.specs.Bounds.{max_balance, max_day_profit}
use Rattle.rules.specs.Exchange.{Exchange, listing_at, account_at, holding_at, place_of, no_account, no_holding}
use Rattle.rules.specs.Holdings.{book_trades, start_account, start_of_day}
use Rattle.rules.specs.Kinds.{last_of}
use Rattle.rules.specs.Margin.{charged}
use Rattle.rules.specs.Step.{with_balance, paid, deposited, withdrawn}
use Rattle.rules.specs.declared.{Account.Account, Holding.Holding}
use Rattle.theory.proofs.Refusals.{failed, present}
use Rattle.invariants.proofs.Carry.{trades_carried}
use Rattle.invariants.proofs.Clauses.{WellFormed, Counted}
use Rattle.invariants.proofs.Marks.{marks_carried}
use Rattle.invariants.proofs.Replay.{lots_of, lots_only, same_holdings_lem, holdings_same, book_same, never_same}

module _ (x : Exchange) (k : WellFormed x) (a : ℕ) (there : a < length x.accounts) (balance : ℤ)
    (bound : nat_abs balance ≤ max_balance + x.settlements * max_day_profit) where
  abbrev after : List Account
  after = set x.accounts a (with_balance (account_at x.accounts a) balance)

  same_count : length after ≡ length x.accounts
  same_count = length-set x.accounts a _

  same_lots_lem : lots_only after ≡ lots_only x.accounts
  unfolding lots_only account_at
  same_lots_lem = map-set_same lots_of x.accounts a _ no_account refl

  same_start : lots_only (start_of_day after) ≡ lots_only (start_of_day x.accounts)
  unfolding lots_only start_of_day account_at
  same_start =
      ap (map lots_of) (map_set start_account x.accounts a _)
      ∙ map-set_same lots_of (start_of_day x.accounts) a _ no_account (ap lots_of (sym (List·getD-map start_account x.accounts a no_account)))

  same_holding : (b c : ℕ) → holding_at after b c ≡ holding_at x.accounts b c
  unfolding holding_at account_at
  same_holding b c =
      ap (λ (hs : List Holding). get_or hs c no_holding)
      (sym (List·getD-map (λ (d : Account). d.holdings) after b no_account)
      ∙ ap (λ (l : List (List Holding)). get_or l b []) (map-set_same (λ (d : Account). d.holdings) x.accounts a _ no_account refl)
      ∙ List·getD-map (λ (d : Account). d.holdings) x.accounts b no_account)

  same_maker : (b : ℕ) → (account_at after b).maker ≡ (account_at x.accounts b).maker
  unfolding account_at
  same_maker b = kept_at (λ (d : Account). d.maker) x.accounts a _ no_account refl b

  -- the state with one balance changed
  pub paid_keeps : WellFormed (paid x a balance)
  unfolding paid listing_at account_at
  paid_keeps =
      record {
        next_low = k.next_low;
        next_high = k.next_high;
        nextstamp_low = k.nextstamp_low;
        nextstamp_high = k.nextstamp_high;
        settlements = k.settlements;
        listing = λ c l. rw same_count (k.listing c l);
        once = k.once;
        stamps_once = k.stamps_once;
        marks = λ c l sell. marks_carried x.accounts after same_count same_maker (k.marks c l sell);
        makers = λ b lb. rw (same_maker b) (k.makers b (rw same_count at lb));
        trades = trades_carried x (paid x a balance) refl (sym same_count) (le_refl x.next) (λ c p h. h) x.trades k.trades;
        covered = never_same (start_of_day after) (start_of_day x.accounts) same_start x.trades ∙ k.covered;
        replay =
            holdings_same (book_trades (start_of_day after) x.trades) after
            (book_same (start_of_day after) (start_of_day x.accounts) same_start x.trades ∙ same_holdings_lem _ _ k.replay ∙ sym same_lots_lem);
        holding = λ b c lb lc. rw (same_holding b c) (k.holding b c (rw same_count at lb) lc);
        balance =
            λ b lb. at_set (λ (j : ℕ) (d : Account). nat_abs d.balance ≤ max_balance + x.settlements * max_day_profit)
            x.accounts a _ no_account there bound b (λ n. k.balance b (rw same_count at lb));
      }

pub paid_counted : (x : Exchange) (a : ℕ) (balance : ℤ) → Counted x → Counted (paid x a balance)
unfolding paid listing_at
paid_counted x a balance n = record { contracts = n.contracts; trades = n.trades; queues = n.queues }

-- ---- the two bounds

-- a deposit passes code 16 only where the balance stays within 10^18
deposit_bound : (b : ℤ) (amount high n : ℕ) → nat_abs b ≤ n → high ≤ n → lt_z (pos high) (b +ℤ pos amount) ≡ false → nat_abs (b +ℤ pos amount) ≤ n
unfolding d
deposit_bound (pos m) amount high n h k e = omega (arith, ltb-false high (m + amount) e)
deposit_bound (negsuc m) amount high n h k e =
    d_ind amount (suc m) (λ z. lt_z (pos high) z ≡ false → nat_abs z ≤ n) (λ j i f. omega arith) (λ j i f. omega (arith, ltb-false high j f)) e

-- a withdrawal passes code 9 only where what is left covers the margin, which is not below zero
withdraw_bound : (b : ℤ) (amount margin n : ℕ) → nat_abs b ≤ n → lt_z (b -ℤ pos amount) (pos margin) ≡ false → nat_abs (b -ℤ pos amount) ≤ n
withdraw_bound b amount margin n h e =
    let w = within_abs b n h in
    let e' : lt_z (d (pos_part b + 0) (neg_part b + amount)) (d margin 0) ≡ false = simp ring at (rw (split b) at e) in
    let l = ltb-false (pos_part b + 0 + 0) (margin + (neg_part b + amount)) (sym (lt_z_d (pos_part b + 0) (neg_part b + amount) margin 0) ∙ e') in
    abs_within (b -ℤ pos amount) (rw (split b) (simp ring (within_d (omega arith) (omega arith))))

-- ---- the two steps

module _ (x : Exchange) (k : WellFormed x) (account amount : ℕ) where
  pub deposit_keeps : first_of (deposit_refusals x account amount) ≡ 0 → WellFormed (last_of x (deposited x (place_of account) amount).stages)
  unfolding deposit_refusals deposited lifts_too_high
  deposit_keeps e =
      let f = failed (deposit_refusals x account amount) (omega arith) e in
      let there = present account x.accounts f.0 in
      let low = (either_false (amount_refused amount) (lifts_too_high x account amount) f.1.0).1 in
      paid_keeps x k (place_of account) there _
      (deposit_bound (account_at x.accounts (place_of account)).balance amount max_balance _ (k.balance _ there) (omega arith) low)

  pub withdraw_keeps : first_of (withdraw_refusals x account amount) ≡ 0 → WellFormed (last_of x (withdrawn x (place_of account) amount).stages)
  unfolding withdraw_refusals withdrawn leaves_too_little
  withdraw_keeps e =
      let f = failed (withdraw_refusals x account amount) (omega arith) e in
      let there = present account x.accounts f.0 in
      paid_keeps x k (place_of account) there _
      (withdraw_bound (account_at x.accounts (place_of account)).balance amount (charged x (place_of account)) _ (k.balance _ there) f.1.1.0)

module _ (x : Exchange) (account amount : ℕ) where
  pub deposit_counted : Counted x → Counted (last_of x (deposited x (place_of account) amount).stages)
  unfolding deposited
  deposit_counted n = paid_counted x (place_of account) _ n

  pub withdraw_counted : Counted x → Counted (last_of x (withdrawn x (place_of account) amount).stages)
  unfolding withdrawn
  withdraw_counted n = paid_counted x (place_of account) _ n
