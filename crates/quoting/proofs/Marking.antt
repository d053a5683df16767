-- An order of a quote: refused with its code from 5 on, or entered marked. Assumes nothing.
use Rattle.std.proofs.Common.{Result, Err}
use Rattle.std.specs.Result.{IsErrAnd}
use Rattle.std.proofs.lemmas.Result.{err_from_is_err_and}
use mathlib.Core.Bool.{Bool, true, false}
use mathlib.Core.List.{List}
use mathlib.Core.Path.{◌≡◌, refl, sym, ap, ◌∙◌}
use Prim.Native.Nat.{ℕ, ◌+◌, ◌-◌, ◌<◌, ◌≤◌}
use native.Mathlib.Omega.{arith}
use borrow.Author.Tests.{eqb-true, ne_eqb}
use lib.Dec.{eqb}
use lib.ListN.{length}
use Rattle.rules.specs.Bounds.{max_accounts, numbers_end}
use Rattle.laws.specs.Choice.{pick}
use Rattle.rules.specs.Answers.{first_of, order_refusals}
use Rattle.rules.specs.Exchange.{Exchange, place_of}
use Rattle.rules.specs.Kinds.{refused}
use Rattle.rules.specs.Memory.{Memory, AfterCommand, WellFormedState, exchange_of, in_memory, memory}
use Rattle.rules.specs.declared.NewOrder.{NewOrder}
use Rattle.rules.specs.declared.State.{State}
use Rattle.rules.specs.declared.codes.Code.{Code}
use Rattle.theory.proofs.Refusals.{Failed, failed}
use Rattle.invariants.proofs.InsertAccepted.{Passes, next_given, numbers_left, order_passes}
use Rattle.invariants.proofs.Marks.{Marks}
use Rattle.engine.specs.Outcome.{OutcomeIs}
use Rattle.engine.specs.declared.answers.Outcome.{Outcome}
use Rattle.engine.proofs.Formed.{Formed, accounts_count, contracts_count, formed}
use Rattle.insertion.specs.Entry.{Enterable, entered_in}
use Rattle.insertion.proofs.Entering.{may_enter}
use Rattle.quoting.specs.Placing.{Quotable, marked_in}

-- a code that a call gave, passed on by `?`
pub passed_on : {A : Type 0} (r : Result A Code) (code : Code) → IsErrAnd r (λ y. y ≡ code) → r ≡ Err code
passed_on r code is = let p = err_from_is_err_and r is in rw (p.1, p.2) refl

-- a code that is told, whichever way it went
told_either : (code : ℕ) (entered : AfterCommand) (m : Memory) → entered.answer.code ≡ 0 → (pick (eqb code 0) entered (in_memory m (refused code))).answer.code ≡ code
told_either code entered m z = by_code (eqb code 0) refl
  where
    by_code : (b : Bool) → eqb code 0 ≡ b → (pick b entered (in_memory m (refused code))).answer.code ≡ code
    by_code true e = z ∙ sym (eqb-true code 0 e)
    by_code false e = refl

-- what an order's outcome tells
module _ (m : Memory) (o : NewOrder) {r : Outcome} {buys' sells' trades' : List ℕ} (is : OutcomeIs (marked_in m o) r buys' sells' trades') where
  pub told : r.answer.code ≡ first_of (order_refusals (exchange_of m) o)
  told = ap (λ a. a.code) is.answer ∙ told_either (first_of (order_refusals (exchange_of m) o)) (entered_in m o m.state.next 1 (m.state.next + 1)) m refl

  pub nothing_moved : (r.answer.code ≡ 0 → ⊥) → memory r.state buys' sells' trades' ≡ m
  nothing_moved some =
      let e : eqb (first_of (order_refusals (exchange_of m) o)) 0 ≡ false = ne_eqb _ 0 (λ z. some (told ∙ z)) in
      is.memory ∙ rw e

  pub entered_so : r.answer.code ≡ 0 → OutcomeIs (entered_in m o m.state.next 1 (m.state.next + 1)) r buys' sells' trades'
  entered_so clear = rw (sym told ∙ clear) at is

module _ {s : State} {buys sells trades : List ℕ} (w : WellFormedState s buys sells trades) (o : NewOrder) (g : Quotable s buys sells trades o) where
  abbrev m : Memory
  m = memory s buys sells trades

  abbrev x : Exchange
  x = exchange_of m

  f : Formed m
  f = formed w

  pub marked_low : 1 ≤ o.account
  marked_low = g.present.account_low

  pub marked_fits : {place : ℕ} → place ≡ o.account - 1 → place < max_accounts
  marked_fits e = omega (arith, g.present.account, f.accounts_high)

  module _ {code : ℕ} (ec : code ≡ first_of (order_refusals x o)) where
    module _ (clear : code ≡ 0) where
      tests : Failed (order_refusals x o)
      unfolding order_refusals
      tests = failed (order_refusals x o) (omega arith) (sym ec ∙ clear)

      holder : place_of o.account < length x.accounts
      holder = rw (accounts_count m f) g.present.account

      listed : place_of o.contract < length x.listings
      listed = rw (contracts_count m f) g.present.contract

      passes : Passes x x.next o
      passes = order_passes x o tests holder listed

      marks : Marks x 1 o
      marks = record { low = omega arith; allowed = rw (g.maker, g.opens) refl; single = omega (arith, g.single) }

      pub numbers_low : s.next < numbers_end
      unfolding exchange_of
      numbers_low = numbers_left x o tests

      pub marked_enterable : Enterable s buys sells trades o s.next 1 (s.next + 1)
      unfolding exchange_of
      marked_enterable = may_enter w o x.next 1 (x.next + 1) g.present (next_given x f.contents (numbers_left x o tests)) passes marks

      pub marked_entered : {r : Outcome} {buys' sells' trades' : List ℕ} → OutcomeIs (entered_in m o s.next 1 (s.next + 1)) r buys' sells' trades'
          → OutcomeIs (marked_in m o) r buys' sells' trades'
      marked_entered e = rw (← ec, clear) e
