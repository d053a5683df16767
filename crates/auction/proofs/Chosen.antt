-- The match at the chosen price, with volume and without it. Assumes nothing.
use Rattle.laws.specs.Logic.{List, [], ◌≡◌, refl, sym, ap, ◌∙◌}
use Rattle.laws.specs.Numbers.{ℕ, ◌-◌, arith, lt-ltb, le-ltb, length, drop}
use Rattle.rules.specs.Auction.{Matched, auction_match, match_at, unmatched}
use Rattle.rules.specs.Memory.{put_queue, queue_in}
use Rattle.rules.specs.declared.{Account.Account, Order.Order}
use Rattle.theory.proofs.Codecs.{length_queue, put_queue_lem}
use Rattle.book.proofs.Trading.{all_booked}
use Rattle.auction.specs.Matched.{FillsIs, MatchReady, MatchedIs, level_match}
use Rattle.auction.specs.Price.{chosen_level}
use Rattle.auction.specs.declared.matched.Match.{Match}
use Rattle.auction.specs.declared.price.Level.{Level}

module _ (c : ℕ) (level : Level) (buys sells : List Order) where
  pub level_none : level.volume ≡ 0 → level_match c level buys sells ≡ unmatched buys sells
  unfolding level_match
  level_none e = rw (le-ltb 0 level.volume (omega arith))

  pub level_some : (level.volume ≡ 0 → ⊥) → level_match c level buys sells ≡ match_at c level.price buys sells
  unfolding level_match
  level_some some = rw (lt-ltb 0 level.volume (omega arith))

-- at the chosen price it is the auction's
pub level_auction : (c last : ℕ) (buys sells : List Order) {level : Level} → level ≡ chosen_level last buys sells → level_match c level buys sells ≡ auction_match c last buys sells
unfolding level_match auction_match
level_auction c last buys sells e = rw e

-- ---- the number of trades

module _ (c : ℕ) (level : Level) (buys sells : List Order) where
  pub needs_none : level.volume ≡ 0 → 0 ≡ length (level_match c level buys sells).trades
  needs_none e = sym (ap (λ (m : Matched). length m.trades) (level_none c level buys sells e))

  pub needs_some : (level.volume ≡ 0 → ⊥) → {n : ℕ} → n ≡ length (match_at c level.price buys sells).trades → n ≡ length (level_match c level buys sells).trades
  needs_some some e = e ∙ sym (ap (λ (m : Matched). length m.trades) (level_some c level buys sells some))

-- ---- the match

module _ (level : Level) {c : ℕ} {held : List Account} {buys : List ℕ} {bought : ℕ} {sells : List ℕ} {sold : ℕ} {area : List ℕ} {before : ℕ}
    (ready : MatchReady (level_match c level (queue_in buys c bought) (queue_in sells c sold)) c held buys bought sells sold area before) where
  abbrev bids : List Order
  bids = queue_in buys c bought

  abbrev asks : List Order
  asks = queue_in sells c sold

  -- without volume nothing happens
  pub none_matched : (last : ℕ) → level.volume ≡ 0
      → MatchedIs (level_match c level bids asks) c last held buys bought sells sold area before (record { accounts = held; traded = 0; last = last; bought = bought; sold = sold; made = before }) buys sells area
  none_matched last e =
      rw (level_none c level bids asks e)
      (record {
        booked = all_booked [] refl;
        bought = sym (length_queue buys c bought);
        sold = sym (length_queue sells c sold);
        buy_queue = sym (put_queue_lem buys c bought ready.queues.buys_room);
        sell_queue = sym (put_queue_lem sells c sold ready.queues.sells_room);
      })

  module _ (some : level.volume ≡ 0 → ⊥) where
    pub ready_at : MatchReady (match_at c level.price bids asks) c held buys bought sells sold area before
    ready_at = rw (level_some c level bids asks some) at ready

    -- the filled orders are taken out of both queues
    module _ {last : ℕ} {f : Match} {buys₁ sells₁ area' : List ℕ} (fd : FillsIs (match_at c level.price bids asks) c last held buys bought sells sold area before f buys₁ sells₁ area') where
      pub queues_left : {buys' sells' : List ℕ} → buys' ≡ put_queue buys₁ c bought (drop f.bought (queue_in buys₁ c bought)) → sells' ≡ put_queue sells₁ c sold (drop f.sold (queue_in sells₁ c sold))
          → MatchedIs (level_match c level bids asks) c last held buys bought sells sold area before
          (record { accounts = f.accounts; traded = f.traded; last = f.last; bought = bought - f.bought; sold = sold - f.sold; made = f.made }) buys' sells' area'
      queues_left eb es =
          rw (level_some c level bids asks some)
          (record {
            booked = fd.booked;
            bought = omega (arith, fd.bought.count);
            sold = omega (arith, fd.sold.count);
            buy_queue = eb ∙ fd.bought.dropped;
            sell_queue = es ∙ fd.sold.dropped;
          })
