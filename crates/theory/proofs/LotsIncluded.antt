-- Ticket 2: "An open passes if all charged margin, its lots included, is at most the balance", with the lots where the ticket has them:
-- among those that the charge is for. Assumes nothing.
use lib.IntN.{pos}
use lib.Signed.{le_z}
use Rattle.laws.specs.Logic.{Bool, true, false, not, ◌≡◌, refl, sym, ap, ap₂, ◌∙◌}
use Rattle.laws.specs.Numbers.{ℕ, zero, suc, ◌+◌, ◌*◌, ◌<◌, ◌≤◌, max, mul-le-mul_left, arith, eqb-true, eqb-false, eqb, length}
use Rattle.laws.specs.Choice.{pick}
use Rattle.laws.specs.Ring.{le_z_lt_z}
use Rattle.rules.specs.Answers.{money_refused}
use Rattle.rules.specs.Exchange.{Exchange, Listing, listing_at, account_at, holding_at, place_of}
use Rattle.rules.specs.Holdings.{after_leg}
use Rattle.rules.specs.Margin.{charge, charged, charged_lots, charged_lots_with, charged_to, charged_with, included_to, with_open}
use Rattle.rules.specs.declared.{Holding.Holding, NewOrder.NewOrder}
use Rattle.theory.proofs.Holdings.{holding_same, holding_other_contract}

-- ---- one contract

-- lots held already count as those that come
held_or_come : (l : Listing) (a : ℕ) (h : Holding) (sell : Bool) (lots : ℕ) → charged_lots l a (after_leg h sell 0 lots) ≡ charged_lots_with l a h sell lots
unfolding charged_lots charged_lots_with after_leg
held_or_come l a h true lots = ap₂ max (omega arith) (omega arith)
held_or_come l a h false lots = ap₂ max (omega arith) (omega arith)

pub no_lots : (l : Listing) (a : ℕ) (h : Holding) (sell : Bool) → charged_lots l a h ≡ charged_lots_with l a h sell 0
unfolding charged_lots charged_lots_with
no_lots l a h true = ap₂ max (omega arith) (omega arith)
no_lots l a h false = ap₂ max (omega arith) (omega arith)

pub more_lots : (l : Listing) (a : ℕ) (h : Holding) (sell : Bool) (lots : ℕ) → charged_lots l a h ≤ charged_lots_with l a h sell lots
unfolding charged_lots charged_lots_with
more_lots l a h sell lots = omega arith

-- ---- all contracts

module _ (x : Exchange) (a c : ℕ) (sell : Bool) (lots : ℕ) (known : a < length x.accounts) (holds : c < length (account_at x.accounts a).holdings) where
  in_contract : (d : ℕ) → charged_lots (listing_at x d) a (holding_at (with_open x a c sell lots).accounts a d)
      ≡ charged_lots_with (listing_at x d) a (holding_at x.accounts a d) sell (pick (eqb d c) lots 0)
  in_contract d = by_contract (eqb d c) refl
    where
      by_contract : (t : Bool) → eqb d c ≡ t → charged_lots (listing_at x d) a (holding_at (with_open x a c sell lots).accounts a d)
          ≡ charged_lots_with (listing_at x d) a (holding_at x.accounts a d) sell (pick t lots 0)
      by_contract true e =
          rw (eqb-true d c e)
          (ap (charged_lots (listing_at x c) a) (holding_same x.accounts a c sell 0 lots known holds)
          ∙ held_or_come (listing_at x c) a (holding_at x.accounts a c) sell lots)
      by_contract false e =
          ap (charged_lots (listing_at x d) a) (holding_other_contract x.accounts a c sell 0 lots a d (eqb-false d c e))
          ∙ no_lots (listing_at x d) a (holding_at x.accounts a d) sell

  in_contracts : (n : ℕ) → charged_to (with_open x a c sell lots) a n ≡ included_to x a c sell lots n
  unfolding charged_to included_to listing_at
  in_contracts zero = refl
  in_contracts (suc d) = ap₂ (λ (s k : ℕ). s + charge (listing_at x d).contract * k) (in_contracts d) (in_contract d)

  -- ALL CHARGED MARGIN, ITS LOTS INCLUDED
  pub lots_included : charged_with x a c sell lots ≡ included_to x a c sell lots (length x.listings)
  lots_included = in_contracts (length x.listings)

  -- lots add to the charge or leave it, so an open that adds nothing is refused all the same where the charge exceeds the balance
  more_in_contracts : (n : ℕ) → charged_to x a n ≤ included_to x a c sell lots n
  unfolding charged_to included_to
  more_in_contracts zero = omega arith
  more_in_contracts (suc d) =
      omega (
        arith,
        more_in_contracts d,
        mul-le-mul_left (charge (listing_at x d).contract) (more_lots (listing_at x d) a (holding_at x.accounts a d) sell (pick (eqb d c) lots 0)),
      )

  pub no_less_with_lots : charged x a ≤ charged_with x a c sell lots
  no_less_with_lots = rw lots_included (more_in_contracts (length x.listings))

-- AN OPEN PASSES IF ALL CHARGED MARGIN, ITS LOTS INCLUDED, IS AT MOST THE BALANCE
module _ (x : Exchange) (o : NewOrder) where
  abbrev account : ℕ
  account = place_of o.account

  abbrev contract : ℕ
  contract = place_of o.contract

  pub open_passes : o.close ≡ false → account < length x.accounts → contract < length (account_at x.accounts account).holdings →
      not (money_refused x o)
      ≡ le_z (pos (included_to x account contract o.sell o.lots (length x.listings))) (account_at x.accounts account).balance
  unfolding money_refused
  open_passes e known holds =
      rw (e, lots_included x account contract o.sell o.lots known holds)
      (sym (le_z_lt_z (pos (included_to x account contract o.sell o.lots (length x.listings))) (account_at x.accounts account).balance))
