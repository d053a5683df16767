-- What commands do changes neither how many accounts and contracts there are nor how many holdings an account has. Assumes
-- nothing.
use lib.IntN.{ℤ}
use Rattle.laws.specs.Logic.{List, ◌≡◌, refl, sym, ap, ◌∙◌}
use Rattle.laws.specs.Numbers.{ℕ, ◌+◌, ◌<◌, length, get_or, length-map, length-set}
use Rattle.laws.specs.Tabulate.{length_tabulate, get_d_tabulate}
use Rattle.laws.specs.Lists.{kept_at}
use Rattle.rules.specs.Auction.{match_of}
use Rattle.rules.specs.Exchange.{Exchange, Listing, no_account, account_at, place_of}
use Rattle.rules.specs.Matching.{Entered}
use Rattle.rules.specs.Settlement.{carried_holding, settled_account, settled_listing, settled}
use Rattle.rules.specs.Step.{with_listing, with_trades, paid, exchange_after, exchange_matched}
use Rattle.rules.specs.declared.{Account.Account, NewOrder.NewOrder, Trade.Trade}
use Rattle.accounting.proofs.Booking.{all_booked_length, all_booked_wide}

pub record SameShape (x x' : Exchange) : Type 0 where
  pub listings : length x'.listings ≡ length x.listings
  pub accounts : length x'.accounts ≡ length x.accounts
  pub wide : (a : ℕ) → a < length x.accounts → length (account_at x'.accounts a).holdings ≡ length (account_at x.accounts a).holdings

pub same_shape : (x : Exchange) → SameShape x x
same_shape x = record { listings = refl; accounts = refl; wide = λ a l. refl }

pub shape_trans : {x y z : Exchange} → SameShape x y → SameShape y z → SameShape x z
shape_trans s t = record {
  listings = t.listings ∙ s.listings;
  accounts = t.accounts ∙ s.accounts;
  wide = λ a l. t.wide a (rw s.accounts l) ∙ s.wide a l;
}

pub shape_sym : {x y : Exchange} → SameShape x y → SameShape y x
shape_sym s = record { listings = sym s.listings; accounts = sym s.accounts; wide = λ a l. sym (s.wide a (rw s.accounts at l)) }

module _ (x : Exchange) where
  pub listing_replaced : (c : ℕ) (l : Listing) → SameShape x (with_listing x c l)
  listing_replaced c l = record { listings = length-set x.listings c l; accounts = refl; wide = λ a k. refl }

  pub paid_shape : (u : ℕ) (b : ℤ) → SameShape x (paid x u b)
  unfolding paid account_at
  paid_shape u b = record {
    listings = refl;
    accounts = length-set x.accounts u _;
    wide = λ a l. kept_at (λ (k : Account). length k.holdings) x.accounts u _ no_account refl a;
  }

  traded_shape : (c : ℕ) (l : Listing) (ts : List Trade) (next nextstamp : ℕ) → SameShape x (with_trades x c l ts next nextstamp)
  traded_shape c l ts next nextstamp = record {
    listings = length-set x.listings c l;
    accounts = all_booked_length x.accounts ts;
    wide = λ a k. all_booked_wide x.accounts ts a;
  }

  pub entered_shape : (o : NewOrder) (e : Entered) (next : ℕ) → SameShape x (exchange_after x o e next)
  unfolding exchange_after
  entered_shape o e next = traded_shape (place_of o.contract) _ e.trades next (x.nextstamp + 1)

  pub matched_shape : (c phase : ℕ) → SameShape x (exchange_matched x c phase (match_of x c))
  unfolding exchange_matched
  matched_shape c phase = traded_shape c _ (match_of x c).trades x.next x.nextstamp

  pub settled_shape : SameShape x (settled x)
  unfolding settled account_at settled_account
  settled_shape = record {
    listings = length_tabulate (length x.listings) (settled_listing x);
    accounts = length_tabulate (length x.accounts) (settled_account x);
    wide = λ a l.
        ap (λ (k : Account). length k.holdings) (get_d_tabulate (length x.accounts) a (settled_account x) no_account l)
        ∙ length-map (get_or x.accounts a no_account).holdings carried_holding;
  }
