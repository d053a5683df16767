-- Work in one contract: what the stages of a command leave of all other contracts, and of the accounts. Assumes nothing.
use Rattle.laws.specs.Logic.{true, false, List, [], ◌++◌, append-nil, append_assoc, ◌≡◌, refl, sym, ◌∙◌}
use Rattle.laws.specs.Numbers.{ℕ, ◌+◌, eqb-false, eqb, get_or, set, get_or-set_other}
use Rattle.laws.specs.Choice.{all_of, all_of_append, true_both}
use Rattle.rules.specs.Answers.{listing_of, taker_of}
use Rattle.rules.specs.Auction.{match_of}
use Rattle.rules.specs.Change.{Asked, arriving, change_trades, changed, gone, place_kept, place_lost, reentered, unchanged}
use Rattle.rules.specs.Exchange.{Exchange, Listing, listing_at, no_listing, opposite, place_of}
use Rattle.rules.specs.Holdings.{book_trades}
use Rattle.rules.specs.Kinds.{last_of}
use Rattle.rules.specs.Matching.{enter, rest_whole}
use Rattle.rules.specs.Quote.{Offered, buy_of, half, quote_trades, quoted, sell_of, with_buy, with_sell, without_quote}
use Rattle.rules.specs.Step.{cancelled, entered_of, exchange_after, exchange_matched, removed, with_listing}
use Rattle.rules.specs.declared.{NewOrder.NewOrder, Trade.Trade}
use Rattle.theory.proofs.AuctionOutcome.{auction_either}
use Rattle.theory.proofs.AuctionSteps.{entered_either, match_either}
use Rattle.theory.proofs.AuctionTrades.{match_contract}
use Rattle.theory.proofs.Changes.{changed_either}
use Rattle.theory.proofs.Holdings.{book_trades_append}
use Rattle.theory.proofs.Sweep.{of_contract, swept_contract}

-- no other listing changes, and what happens to the accounts is that these trades, of this contract, are booked
pub record InContract (d : ℕ) (ts : List Trade) (x y : Exchange) : Type 0 where
  pub others : (c : ℕ) → eqb c d ≡ false → listing_at y c ≡ listing_at x c
  pub here : all_of (of_contract d) ts ≡ true
  pub recorded : y.trades ≡ x.trades ++ ts
  pub booked : y.accounts ≡ book_trades x.accounts ts

module _ (d : ℕ) where
  same_in : (x : Exchange) → InContract d [] x x
  unfolding all_of book_trades
  same_in x = record { others = λ c n. refl; here = refl; recorded = sym (append-nil x.trades); booked = refl }

  more_in : {ts us : List Trade} {x y z : Exchange} → InContract d ts x y → InContract d us y z → InContract d (ts ++ us) x z
  more_in {ts} {us} {x} {y} {z} i j =
      record {
        others = λ c n. j.others c n ∙ i.others c n;
        here = rw (all_of_append (of_contract d) ts us) (true_both (all_of (of_contract d) ts) (all_of (of_contract d) us) i.here j.here);
        recorded = j.recorded ∙ rw i.recorded (append_assoc x.trades ts us);
        booked = j.booked ∙ rw i.booked (sym (book_trades_append x.accounts ts us));
      }

  elsewhere : (ls : List Listing) (l : Listing) (c : ℕ) → eqb c d ≡ false → get_or (set ls d l) c no_listing ≡ get_or ls c no_listing
  elsewhere ls l c n = get_or-set_other ls d c l no_listing (eqb-false c d n)

  pub relisted_in : (x : Exchange) (l : Listing) → InContract d [] x (with_listing x d l)
  unfolding listing_at all_of book_trades
  relisted_in x l = record { others = elsewhere x.listings l; here = refl; recorded = sym (append-nil x.trades); booked = refl }

-- an order entered
pub entered_in_lem : (x : Exchange) (o : NewOrder) (number quote next : ℕ) →
    InContract (place_of o.contract) (entered_of x number quote o).trades x (exchange_after x o (entered_of x number quote o) next)
unfolding exchange_after listing_at
entered_in_lem x o number quote next =
    record {
      others = elsewhere (place_of o.contract) x.listings _;
      here = entered_either x number quote o (λ e. all_of (of_contract (place_of o.contract)) e.trades ≡ true) (λ u. unfold all_of rest_whole in refl)
          (λ u. unfold enter taker_of in swept_contract (taker_of x number quote o) o.lots (listing_of x o).contract.last (opposite o.sell (listing_of x o)));
      recorded = refl;
      booked = refl;
    }

-- a change of a contract's state, with a match where there is one
pub matched_in : (x : Exchange) (d phase : ℕ) → InContract d (match_of x d).trades x (exchange_matched x d phase (match_of x d))
unfolding exchange_matched listing_at
matched_in x d phase =
    record {
      others = elsewhere d x.listings _;
      here = match_either x d (λ m. all_of (of_contract d) m.trades ≡ true)
          (λ u. auction_either d (listing_at x d).contract.last (listing_at x d).buys (listing_at x d).sells (λ m. all_of (of_contract d) m.trades ≡ true)
          (λ z. unfold all_of in refl) (λ z. match_contract d _ (listing_at x d).buys (listing_at x d).sells))
          (λ u. unfold all_of in refl);
      recorded = refl;
      booked = refl;
    }

pub changed_in : (x : Exchange) (k : Asked) → InContract (place_of k.contract) (change_trades x k) x (last_of x (changed x k).stages)
unfolding cancelled removed place_lost unchanged place_kept gone reentered arriving
changed_in x k =
    changed_either x k (λ ts e. InContract (place_of k.contract) ts x (last_of x e.stages))
    (λ e. relisted_in (place_of k.contract) x _)
    (λ e. more_in (place_of k.contract) (relisted_in (place_of k.contract) x _) (entered_in_lem (gone x k) (arriving x k) k.number 0 x.next))
    (λ e f. same_in (place_of k.contract) x)
    (λ e f g. relisted_in (place_of k.contract) x _)

pub quoted_in : (x : Exchange) (q : Offered) → InContract (place_of q.contract) (quote_trades x q) x (last_of x (quoted x q).stages)
unfolding quoted quote_trades with_sell with_buy without_quote half
quoted_in x q =
    more_in (place_of q.contract)
    (more_in (place_of q.contract) (relisted_in (place_of q.contract) x _) (entered_in_lem (without_quote x q) (buy_of q) (without_quote x q).next 1 ((without_quote x q).next + 1)))
    (entered_in_lem (with_buy x q) (sell_of q) (with_buy x q).next 1 ((with_buy x q).next + 1))
