-- The code of an order that is entered again with its number: 8 and 9 as for an insert, then time stamps and trades. Assumes nothing.
use mathlib.Core.Bool.{Bool, true, false}
use mathlib.Core.List.{[], ◌∷◌}
use mathlib.Core.Path.{◌≡◌, refl, sym, ◌∙◌}
use Prim.Native.Nat.{ℕ, ◌<◌, ◌≤◌}
use native.Mathlib.Omega.{arith}
use borrow.Author.Tests.{le-leb, lt-leb}
use Rattle.laws.specs.Choice.{pick}
use Rattle.rules.specs.Answers.{◌when◌, account_refusals, first_of, stamps_used_up, trades_refused}
use Rattle.rules.specs.Bounds.{numbers_end}
use Rattle.rules.specs.Change.{reentry_refusals}
use Rattle.rules.specs.Exchange.{Exchange}
use Rattle.rules.specs.declared.NewOrder.{NewOrder}
use Rattle.theory.proofs.Refusals.{first_here, first_there}

module _ (x : Exchange) (o : NewOrder) (number : ℕ) {account : ℕ} (ex : account ≡ first_of (account_refusals x o)) where
  abbrev code : ℕ
  code = first_of (reentry_refusals x number o)

  -- 8 and 9
  pub reentry_account : (account ≡ 0 → ⊥) → account ≡ code
  reentry_account some = ex ∙ first_here (account_refusals x o) ((10 when stamps_used_up x) ∷ (12 when trades_refused x number o) ∷ []) (λ e. some (ex ∙ e))

  module _ (clear : account ≡ 0) where
    on : code ≡ pick (stamps_used_up x) 10 (pick (trades_refused x number o) 12 0)
    unfolding first_of
    on = sym (first_there (account_refusals x o) ((10 when stamps_used_up x) ∷ (12 when trades_refused x number o) ∷ []) (omega arith) (sym ex ∙ clear))

    -- 10
    pub reentry_stamps : numbers_end ≤ x.nextstamp → 10 ≡ code
    reentry_stamps h = sym (on ∙ rw (le-leb _ _ h) refl)

    -- 12
    module _ (left : x.nextstamp < numbers_end) {r : Bool} (er : r ≡ trades_refused x number o) where
      pub reentry_trades : r ≡ true → 12 ≡ code
      reentry_trades h = sym (on ∙ rw (lt-leb _ _ left, ← er, h) refl)

      pub reentry_clear : r ≡ false → 0 ≡ code
      reentry_clear h = sym (on ∙ rw (lt-leb _ _ left, ← er, h) refl)
