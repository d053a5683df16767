-- Deposit and withdraw: the code's tests are the rules' refusals, and the balance changed is the rules' state. Assumes nothing.
use mathlib.Core.Bool.{Bool, true, false, ◌||◌}
use mathlib.Core.List.{List}
use mathlib.Core.Path.{◌≡◌, refl, sym, ap, ◌∙◌, subst, subst⁻¹}
use Prim.Native.Nat.{ℕ, ◌-◌, ◌<◌, ◌≤◌, ◌^◌}
use native.Mathlib.Omega.{arith}
use borrow.Author.Tests.{leb-true, not-false}
use lib.Dec.{leb}
use lib.IntN.{ℤ, pos, ◌+ℤ◌, ◌-ℤ◌}
use lib.ListN.{get_or, set}
use lib.Signed.{lt_z}
use Rattle.laws.specs.Bound.{Within}
use Rattle.laws.specs.Choice.{both_true, pick}
use Rattle.rules.specs.Kinds.{code_of, kind_of}
use Rattle.rules.specs.Answers.{amount_refused, deposit_refusals, first_of, leaves_too_little, lifts_too_high, withdraw_refusals}
use Rattle.rules.specs.Bounds.{within, max_accounts, max_amount, balance_most}
use Rattle.rules.specs.Exchange.{account_at, no_account, is_absent}
use Rattle.rules.specs.Margin.{charged}
use Rattle.rules.specs.Memory.{Memory, exchange_of, in_use, put, memory, WellFormedState, written}
use Rattle.rules.specs.Step.{deposited, paid, with_balance, withdrawn}
use Rattle.rules.specs.declared.Account.{Account}
use Rattle.rules.specs.declared.Command.TheVariants.{Deposit, Withdraw}
use Rattle.rules.specs.declared.State.{State}
use Rattle.margin.specs.Charge.{Chargeable, ChargedIs}
use Rattle.margin.proofs.Charging.{charged_at_lem}
use Rattle.engine.specs.Decision.{DecisionIs, HeldBy, accepted_by, refused_by}
use Rattle.engine.specs.Outcome.{with_balance_at}
use Rattle.engine.specs.declared.updates.Decision.{Decision}
use Rattle.engine.specs.declared.updates.Update.TheVariants.{Balance}
use Rattle.engine.proofs.Decisions.{balance_decided, held_here, refusal_decided}
use Rattle.engine.proofs.Formed.{Formed, formed, no_account_lem, account_at_lem, account_put, balance_within}
use Rattle.engine.proofs.Margins.{chargeable}
use Rattle.engine.proofs.Outcomes.{refusal, acceptance}
use Rattle.engine.proofs.Puts.{put_accounts_lem}
use Rattle.engine.proofs.Tests.{place_below}

-- an amount that is not refused
pub amount_high : (amount : ℕ) → amount_refused amount ≡ false → amount ≤ max_amount
unfolding amount_refused
amount_high amount e = leb-true amount max_amount (both_true (leb 1 amount) (leb amount max_amount) (not-false (within 1 max_amount amount) e)).1

module _ {s : State} {buys sells trades : List ℕ} (w : WellFormedState s buys sells trades) (account : ℕ) where
  abbrev m : Memory
  m = memory s buys sells trades

  f : Formed m
  f = formed w

  -- ---- the account's place

  module _ (present : is_absent account s.accountcount ≡ false) {who : Account} (held : HeldBy s account who) where
    here : account - 1 < s.accountcount
    here = (place_below account s.accountcount present).1

    its_balance : (get_or s.accounts (account - 1) no_account).balance ≡ who.balance
    its_balance = ap (λ (v : Account). v.balance) (held_here s account present held)

    balance_is : (account_at (exchange_of m).accounts (account - 1)).balance ≡ who.balance
    unfolding account_at
    balance_is = ap (λ (v : Account). v.balance) (account_at_lem m f (account - 1) here) ∙ its_balance

    pub balance_fits : Within balance_most who.balance
    unfolding account_at
    balance_fits = rw its_balance at (balance_within m f (account - 1) here)

    -- the rules' state with another balance, as it lies
    paid_lies : (balance : ℤ) → put m (paid (exchange_of m) (account - 1) balance) ≡ memory (with_balance_at s (account - 1) balance) buys sells trades
    unfolding paid account_at
    paid_lies balance =
        let v : Account = with_balance (get_or s.accounts (account - 1) no_account) balance in
        let read : with_balance (account_at (exchange_of m).accounts (account - 1)) balance ≡ in_use s.contractcount v =
        ap (λ (u : Account). with_balance u balance) (account_at_lem m f (account - 1) here) in
        put_accounts_lem m f (set (exchange_of m).accounts (account - 1) (with_balance (account_at (exchange_of m).accounts (account - 1)) balance)) (set s.accounts (account - 1) v)
        (rw read (account_put m f (account - 1) v here refl))

    module _ {place : ℕ} (is : place ≡ account - 1) where
      pub account_fits : place < max_accounts
      account_fits = omega (arith, is, here, f.accounts_high)

      -- the account can be charged
      abbrev ChargeableBy : Account → Type 0
      ChargeableBy v = Chargeable v.holdings s.contracts s.contractcount buys s.buycounts sells s.sellcounts place

      pub account_chargeable : ChargeableBy who
      account_chargeable = subst ChargeableBy (held_here s account present held) (rw is (chargeable m f (account - 1) here))

      abbrev ChargedBy : ℕ → Account → Type 0
      ChargedBy total v = ChargedIs v.holdings s.contracts s.contractcount buys s.buycounts sells s.sellcounts place total

      charged_is : {total : ℕ} → ChargedBy total who → total ≡ charged (exchange_of m) (account - 1)
      charged_is {total} c = charged_at_lem s buys sells place _ (rw is here) (rw is (rw is at (subst⁻¹ (ChargedBy total) (held_here s account present held) c))) trades ∙ rw is

  -- ---- deposit

  module _ (amount : ℕ) where
    abbrev DepositIs : Decision → Type 0
    DepositIs d = DecisionIs m (Deposit account amount) d buys sells trades

    deposit_code : code_of (exchange_of m) (Deposit account amount) ≡ pick (is_absent account s.accountcount) 2 (pick (amount_refused amount || lifts_too_high (exchange_of m) account amount) 16 0)
    unfolding code_of kind_of deposit_refusals first_of
    deposit_code = rw (no_account_lem m f account)

    deposit_refused : (code : ℕ) {d : Decision} → 0 < code → code_of (exchange_of m) (Deposit account amount) ≡ code → d ≡ refused_by code → DepositIs d
    deposit_refused code h e = refusal_decided (refusal s buys sells trades (Deposit account amount) code h e refl)

    pub deposit_absent : {d : Decision} → is_absent account s.accountcount ≡ true → d ≡ refused_by 2 → DepositIs d
    deposit_absent e = deposit_refused 2 (omega arith) (rw (deposit_code, e))

    pub deposit_amount : {d : Decision} → is_absent account s.accountcount ≡ false → amount_refused amount ≡ true → d ≡ refused_by 16 → DepositIs d
    deposit_amount present a = deposit_refused 16 (omega arith) (rw (deposit_code, present, a))

    module _ (present : is_absent account s.accountcount ≡ false) {who : Account} (held : HeldBy s account who) (right : amount_refused amount ≡ false) where
      abbrev lifted : ℤ
      lifted = who.balance +ℤ pos amount

      lifts_is : lifts_too_high (exchange_of m) account amount ≡ lt_z (pos (10 ^ 18)) lifted
      unfolding lifts_too_high
      lifts_is = rw (balance_is present held)

      -- the test as the code makes it, of the balance as it is stored
      module _ {stored : ℤ} (same : stored ≡ who.balance) {t : Bool} (tested : t ≡ lt_z (pos (10 ^ 18)) (stored +ℤ pos amount)) where
        high_is : lt_z (pos (10 ^ 18)) lifted ≡ t
        high_is = sym (tested ∙ rw same)

        pub deposit_high : {d : Decision} → t ≡ true → d ≡ refused_by 16 → DepositIs d
        deposit_high h = deposit_refused 16 (omega arith) (rw (deposit_code, present, right, lifts_is, high_is, h))

      module _ {place : ℕ} (is : place ≡ account - 1) where
        deposit_lies : written m (kind_of (exchange_of m) (Deposit account amount)).effect.stages ≡ memory (with_balance_at s place lifted) buys sells trades
        unfolding kind_of deposited
        deposit_lies = rw (is, balance_is present held) (paid_lies present held lifted)

        pub deposit_accepted : {stored : ℤ} (same : stored ≡ who.balance) {t : Bool} (tested : t ≡ lt_z (pos (10 ^ 18)) (stored +ℤ pos amount)) {sum : ℤ} {d : Decision}
            → t ≡ false → sum ≡ lifted → d ≡ accepted_by (Balance place sum) 0 0 → DepositIs d
        unfolding kind_of deposited
        deposit_accepted same tested h n e =
            balance_decided (account_fits present held is)
            (acceptance s buys sells trades (Deposit account amount) (rw (deposit_code, present, right, lifts_is, high_is same tested, h)) refl deposit_lies refl)
            (e ∙ ap (λ (z : ℤ). accepted_by (Balance place z) 0 0) n)

    -- ---- withdraw

    abbrev WithdrawIs : Decision → Type 0
    WithdrawIs d = DecisionIs m (Withdraw account amount) d buys sells trades

    withdraw_code : code_of (exchange_of m) (Withdraw account amount)
        ≡ pick (is_absent account s.accountcount) 2 (pick (amount_refused amount) 16 (pick (leaves_too_little (exchange_of m) account amount) 9 0))
    unfolding code_of kind_of withdraw_refusals first_of
    withdraw_code = rw (no_account_lem m f account)

    withdraw_refused : (code : ℕ) {d : Decision} → 0 < code → code_of (exchange_of m) (Withdraw account amount) ≡ code → d ≡ refused_by code → WithdrawIs d
    withdraw_refused code h e = refusal_decided (refusal s buys sells trades (Withdraw account amount) code h e refl)

    pub withdraw_absent : {d : Decision} → is_absent account s.accountcount ≡ true → d ≡ refused_by 2 → WithdrawIs d
    withdraw_absent e = withdraw_refused 2 (omega arith) (rw (withdraw_code, e))

    pub withdraw_amount : {d : Decision} → is_absent account s.accountcount ≡ false → amount_refused amount ≡ true → d ≡ refused_by 16 → WithdrawIs d
    withdraw_amount present a = withdraw_refused 16 (omega arith) (rw (withdraw_code, present, a))

    module _ (present : is_absent account s.accountcount ≡ false) {who : Account} (held : HeldBy s account who) (right : amount_refused amount ≡ false)
        {place : ℕ} (is : place ≡ account - 1) {total : ℕ} (c : ChargedBy present held is total who) where
      abbrev left : ℤ
      left = who.balance -ℤ pos amount

      leaves_is : leaves_too_little (exchange_of m) account amount ≡ lt_z left (pos total)
      unfolding leaves_too_little
      leaves_is = rw (charged_is present held is c, balance_is present held)

      -- the test as the code makes it, of the difference as it is stored
      module _ {rest : ℤ} (same : rest ≡ left) {t : Bool} (tested : t ≡ lt_z rest (pos total)) where
        short_is : lt_z left (pos total) ≡ t
        short_is = sym (tested ∙ rw same)

        pub withdraw_short : {d : Decision} → t ≡ true → d ≡ refused_by 9 → WithdrawIs d
        withdraw_short h = withdraw_refused 9 (omega arith) (rw (withdraw_code, present, right, leaves_is, short_is, h))

      withdraw_lies : written m (kind_of (exchange_of m) (Withdraw account amount)).effect.stages ≡ memory (with_balance_at s place left) buys sells trades
      unfolding kind_of withdrawn
      withdraw_lies = rw (is, balance_is present held) (paid_lies present held left)

      pub withdraw_accepted : {rest : ℤ} (same : rest ≡ left) {t : Bool} (tested : t ≡ lt_z rest (pos total)) {d : Decision} → t ≡ false → d ≡ accepted_by (Balance place rest) 0 0 → WithdrawIs d
      unfolding kind_of withdrawn
      withdraw_accepted same tested h e =
          balance_decided (account_fits present held is)
          (acceptance s buys sells trades (Withdraw account amount) (rw (withdraw_code, present, right, leaves_is, short_is same tested, h)) refl withdraw_lies refl)
          (e ∙ ap (λ (z : ℤ). accepted_by (Balance place z) 0 0) same)
