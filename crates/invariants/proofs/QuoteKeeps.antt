-- An accepted quote keeps a state well formed: what is left of the old quote is removed, so that the account has no marked order in the
-- contract; the buy is entered, marked; the sell is entered, marked, on the state that the buy leaves. Assumes nothing.
use borrow.Author.Rules.{rules}
use Rattle.laws.specs.Logic.{Bool, true, false, List, [], ◌∷◌, ◌≡◌, refl, ◌∙◌}
use Rattle.laws.specs.Numbers.{ℕ, ◌+◌, ◌<◌, ◌≤◌, arith, eqb-true, not-false, eqb, length, length-set, get_or-set_same}
use Rattle.laws.specs.Choice.{pick, for_either}
use Rattle.laws.specs.Sums.{sum_of}
use Rattle.rules.specs.Answers.{first_of, listing_of, order_refusals, taker_of}
use Rattle.rules.specs.Exchange.{Exchange, Listing, account_at, listing_at, no_listing, own, place_of}
use Rattle.rules.specs.Kinds.{last_of}
use Rattle.rules.specs.Matching.{enter, rest_whole}
use Rattle.rules.specs.Quote.{Offered, buy_entered, buy_of, half, quote_refusals, quoted, sell_of, with_buy, with_sell, without_quote}
use Rattle.rules.specs.Step.{exchange_after, listing_after, listing_without, removed, without}
use Rattle.rules.specs.WellFormed.{is_quote_of, quotes}
use Rattle.rules.specs.declared.Order.{Order}
use Rattle.theory.proofs.AuctionSteps.{entered_either}
use Rattle.theory.proofs.Holdings.{booked_maker, length_book_trades}
use Rattle.theory.proofs.Rest.{rest_sum}
use Rattle.theory.proofs.Stages.{Each}
use Rattle.theory.proofs.Refusals.{Failed, failed, failed_both, present}
use Rattle.invariants.proofs.Clauses.{WellFormed, Counted}
use Rattle.invariants.proofs.Insert.{entry_counted, entry_keeps}
use Rattle.invariants.proofs.InsertAccepted.{Passes, next_given, numbers_left, order_passes}
use Rattle.invariants.proofs.InsertListing.{Enterable}
use Rattle.invariants.proofs.Marks.{mark_of, mark_fewer}
use Rattle.invariants.proofs.Removal.{removed_counted, removed_keeps}

-- no order of the old quote is left
none_left : (a : ℕ) (os : List Order) → quotes a (without (is_quote_of a) os) ≡ 0
unfolding quotes sum_of without
none_left a [] = refl
none_left a (o ∷ os) = by_quote (is_quote_of a o) refl (none_left a os)
  where
    by_quote : (b : Bool) → is_quote_of a o ≡ b → quotes a (without (is_quote_of a) os) ≡ 0 → quotes a (pick b (without (is_quote_of a) os) (o ∷ without (is_quote_of a) os)) ≡ 0
    by_quote true e ih = ih
    by_quote false e ih = rw e (omega (arith, ih))

-- account and contract are in use
module _ (x : Exchange) (w : WellFormed x) (q : Offered) (account_there : place_of q.account < length x.accounts) (there : place_of q.contract < length x.listings) where
  abbrev account : ℕ
  account = place_of q.account

  abbrev place : ℕ
  place = place_of q.contract

  -- ---- the old quote gone

  abbrev left : Listing
  left = listing_without (is_quote_of account) (listing_at x place)

  pub gone_keeps : WellFormed (without_quote x q)
  unfolding without_quote removed
  gone_keeps = removed_keeps (is_quote_of account) x place there 0 w

  pub gone_counted : Counted x → Counted (without_quote x q)
  unfolding without_quote removed
  gone_counted = removed_counted (is_quote_of account) x place there 0

  pub gone_listing : listing_at (without_quote x q) place ≡ left
  unfolding without_quote listing_at
  gone_listing = get_or-set_same x.listings place left no_listing there

  pub gone_there : place < length (without_quote x q).listings
  unfolding without_quote
  gone_there = rw (length-set x.listings place left) there

  pub gone_accounts : (without_quote x q).accounts ≡ x.accounts
  unfolding without_quote
  gone_accounts = refl

  pub none_marked : (sell : Bool) → quotes account (own sell (listing_at (without_quote x q) place)) ≡ 0
  none_marked sell = rw gone_listing
      (for_either (λ s. quotes account (own s left) ≡ 0) (none_left account (listing_at x place).buys) (none_left account (listing_at x place).sells) sell)

  -- ---- the buy, which passes its tests

  module _ (is_maker : (account_at x.accounts (place_of q.account)).maker ≡ 1) (bought : Failed (order_refusals (without_quote x q) (buy_of q))) where
    pub buy_passes : Passes (without_quote x q) (without_quote x q).next (buy_of q)
    unfolding half
    buy_passes = order_passes (without_quote x q) (buy_of q) bought (rw gone_accounts account_there) gone_there

    pub buy_enters : Enterable (without_quote x q) (without_quote x q).next 1 ((without_quote x q).next + 1) (buy_of q)
    unfolding half listing_of account_at
    buy_enters = search (rules, gone_keeps, next_given, numbers_left, buy_passes, gone_accounts, none_marked) depth 12

    pub buy_keeps : WellFormed (with_buy x q)
    unfolding with_buy
    buy_keeps = entry_keeps buy_enters

    pub buy_counted : Counted x → Counted (with_buy x q)
    unfolding with_buy
    buy_counted n = entry_counted buy_enters (gone_counted n)

    -- ---- what it leaves

    pub buy_accounts : length (with_buy x q).accounts ≡ length x.accounts
    unfolding with_buy exchange_after without_quote
    buy_accounts = length_book_trades x.accounts (buy_entered x q).trades

    pub buy_listings : length (with_buy x q).listings ≡ length (without_quote x q).listings
    unfolding with_buy exchange_after
    buy_listings = length-set (without_quote x q).listings (place_of (buy_of q).contract) _

    pub still_maker : (account_at (with_buy x q).accounts account).maker ≡ 1
    unfolding with_buy exchange_after without_quote
    still_maker = booked_maker x.accounts (buy_entered x q).trades account ∙ is_maker

    -- the buy may trade with the sells, and adds none
    pub buy_sells : (listing_at (with_buy x q) place).sells ≡ (buy_entered x q).opposite
    unfolding with_buy exchange_after listing_at listing_after half
    buy_sells = rw (get_or-set_same (without_quote x q).listings place (listing_after (listing_of (without_quote x q) (buy_of q)) false (buy_entered x q)) no_listing gone_there)

    pub sells_unmarked : quotes account (buy_entered x q).opposite ≤ 0
    unfolding quotes half listing_of rest_whole enter
    sells_unmarked =
        entered_either (without_quote x q) (without_quote x q).next 1 (buy_of q) (λ r. quotes account r.opposite ≤ 0)
        (λ a. omega (arith, none_marked true))
        (λ a. omega (
          arith,
          none_marked true,
          rest_sum (mark_of account) (mark_fewer account) (taker_of (without_quote x q) (without_quote x q).next 1 (buy_of q)) q.lots (listing_at (without_quote x q) place).contract.last (listing_at (without_quote x q) place).sells,
        ))

    -- ---- the sell, which passes its own

    module _ (sold : Failed (order_refusals (with_buy x q) (sell_of q))) where
      pub sell_passes : Passes (with_buy x q) (with_buy x q).next (sell_of q)
      unfolding half
      sell_passes = order_passes (with_buy x q) (sell_of q) sold (rw buy_accounts account_there) (rw buy_listings gone_there)

      pub sell_enters : Enterable (with_buy x q) (with_buy x q).next 1 ((with_buy x q).next + 1) (sell_of q)
      unfolding half listing_of
      sell_enters =
          record {
            formed = buy_keeps;
            given = next_given (with_buy x q) buy_keeps (numbers_left (with_buy x q) (sell_of q) sold);
            passes = sell_passes;
            marks = record { low = omega arith; allowed = rw still_maker refl; single = rw buy_sells (omega (arith, sells_unmarked)) };
          }

      pub sell_keeps : WellFormed (with_sell x q)
      unfolding with_sell
      sell_keeps = entry_keeps sell_enters

      pub sell_counted : Counted x → Counted (with_sell x q)
      unfolding with_sell
      sell_counted n = entry_counted sell_enters (buy_counted n)

-- ---- a quote that is refused for nothing

-- its first two stages are well formed, and its contract is there throughout
pub record QuoteStages (x : Exchange) (q : Offered) : Type 0 where
  pub there : place_of q.contract < length x.listings
  pub without : WellFormed (without_quote x q)
  pub without_there : place_of q.contract < length (without_quote x q).listings
  pub bought : WellFormed (with_buy x q)
  pub bought_there : place_of q.contract < length (with_buy x q).listings

module _ (x : Exchange) (w : WellFormed x) (q : Offered) (e : first_of (quote_refusals x q) ≡ 0) where
  pub tests : Failed (quote_refusals x q)
  unfolding quote_refusals order_refusals
  tests = failed (quote_refusals x q) (omega arith) e

  pub holder : place_of q.account < length x.accounts
  unfolding quote_refusals
  holder = present q.account x.accounts tests.0

  pub listed : place_of q.contract < length x.listings
  unfolding quote_refusals
  listed = present q.contract x.listings tests.1.0

  pub maker : (account_at x.accounts (place_of q.account)).maker ≡ 1
  unfolding quote_refusals
  maker = eqb-true (account_at x.accounts (place_of q.account)).maker 1 (not-false (eqb (account_at x.accounts (place_of q.account)).maker 1) tests.1.1.1.0)

  pub codes : Failed (order_refusals (without_quote x q) (buy_of q)) × Failed (order_refusals (with_buy x q) (sell_of q))
  unfolding quote_refusals
  codes = failed_both (order_refusals (without_quote x q) (buy_of q)) (order_refusals (with_buy x q) (sell_of q)) tests.1.1.1.1.1

  pub quote_stages : QuoteStages x q
  quote_stages =
      record {
        there = listed;
        without = gone_keeps x w q holder listed;
        without_there = gone_there x w q holder listed;
        bought = buy_keeps x w q holder listed maker codes.0;
        bought_there = rw (buy_listings x w q holder listed maker codes.0) (gone_there x w q holder listed);
      }

  pub quote_keeps : WellFormed (last_of x (quoted x q).stages)
  unfolding quoted
  quote_keeps = sell_keeps x w q holder listed maker codes.0 codes.1

  pub quote_counted : Counted x → Each Counted (quoted x q).stages
  unfolding quoted
  quote_counted n =
      (gone_counted x w q holder listed n, (buy_counted x w q holder listed maker codes.0 n, (sell_counted x w q holder listed maker codes.0 codes.1 n, tt)))
