-- The loop that counts the trades of a match: those so far, with those of what is left of the two queues, are the answer.
-- Assumes nothing.
use Rattle.laws.specs.Logic.{true, false, ◌&&◌, List, [], ◌∷◌, ◌≡◌, refl, sym, ap, ◌∙◌}
use Rattle.laws.specs.Numbers.{ℕ, ◌+◌, ◌-◌, ◌<◌, ◌≤◌, min, sub-zero, arith, length, get_or, drop}
use Rattle.laws.specs.Choice.{both_true}
use Rattle.rules.specs.Auction.{less_first, match_at, reaches}
use Rattle.rules.specs.Exchange.{no_order}
use Rattle.rules.specs.Matching.{with_lots}
use Rattle.rules.specs.declared.Order.{Order}
use Rattle.theory.proofs.AuctionTurns.{less_filled, less_part, match_at_turn}
use Rattle.book.proofs.ReadOrders.{rest_at, no_rest}
use Rattle.auction.proofs.Turns.{no_buys, no_sells, unmet}

-- ---- one side: a queue of whose first order so many lots are traded already

unfoldable pub less_lots : ℕ → List Order → List Order
less_lots n [] = []
less_lots n (o ∷ os) = with_lots o (o.lots - n) ∷ os

none_less : (os : List Order) → less_lots 0 os ≡ os
unfolding less_lots
none_less [] = refl
none_less (o ∷ os) = simp sub-zero

module _ (queue : List Order) (i used : ℕ) {o : Order} (h : i < length queue) (e : o ≡ get_or queue i no_order) where
  rest : drop i queue ≡ o ∷ drop (i + 1) queue
  rest = rw e (rest_at queue i h)

  less_now : less_lots used (drop i queue) ≡ with_lots o (o.lots - used) ∷ drop (i + 1) queue
  unfolding less_lots
  less_now = rw rest

  -- it trades all that is left of it, or n lots of that
  less_all : (n : ℕ) → o.lots - used ≤ n → less_lots 0 (drop (i + 1) queue) ≡ less_first n (with_lots o (o.lots - used)) (drop (i + 1) queue)
  less_all n f = none_less _ ∙ sym (less_filled n (with_lots o (o.lots - used)) _ f)

  less_more : (n : ℕ) → n < o.lots - used → less_lots (used + n) (drop i queue) ≡ less_first n (with_lots o (o.lots - used)) (drop (i + 1) queue)
  unfolding less_lots
  less_more n f =
      let l : o.lots - (used + n) ≡ o.lots - used - n = omega arith in
      rw (rest, l) (sym (less_part n (with_lots o (o.lots - used)) _ f))

-- ---- what the loop keeps

-- the contract's number is in the trades and changes nothing of how many they are
pub record Counting (buys sells : List Order) (price i j bid ask made : ℕ) : Type 0 where
  pub buys_within : i ≤ length buys
  pub sells_within : j ≤ length sells
  pub bid_within : bid ≤ (get_or buys i no_order).lots
  pub ask_within : ask ≤ (get_or sells j no_order).lots
  pub few : made ≤ i + j
  pub so_far : (c : ℕ) → made + length (match_at c price (less_lots bid (drop i buys)) (less_lots ask (drop j sells))).trades ≡ length (match_at c price buys sells).trades

pub counting : (buys sells : List Order) (price : ℕ) → Counting buys sells price 0 0 0 0 0
counting buys sells price =
    record {
      buys_within = omega arith;
      sells_within = omega arith;
      bid_within = omega arith;
      ask_within = omega arith;
      few = omega arith;
      so_far = λ c. rw (none_less buys, none_less sells) (omega arith);
    }

module _ {buys sells : List Order} {price i j bid ask made : ℕ} (k : Counting buys sells price i j bid ask made) where
  abbrev Counted : Type 0
  Counted = (c : ℕ) → made ≡ length (match_at c price buys sells).trades

  -- the loop is left
  pub counted_buys : length buys ≤ i → Counted
  unfolding less_lots
  counted_buys h c = omega (arith, rw (no_rest buys i h, no_buys c price (less_lots ask (drop j sells))) at (k.so_far c))

  pub counted_sells : length sells ≤ j → Counted
  unfolding less_lots
  counted_sells h c = omega (arith, rw (no_rest sells j h, no_sells c price (less_lots bid (drop i buys))) at (k.so_far c))

  module _ {b s : Order} (hb : i < length buys) (hs : j < length sells) (eb : b ≡ get_or buys i no_order) (es : s ≡ get_or sells j no_order) where
    pub counted_unmet : (reaches false price b && reaches true price s) ≡ false → Counted
    counted_unmet e c =
        omega (arith, rw (less_now buys i bid hb eb, less_now sells j ask hs es, unmet c price (with_lots b (b.lots - bid)) (drop (i + 1) buys) (with_lots s (s.lots - ask)) (drop (j + 1) sells) e) at (k.so_far c))

    -- or a trade is made
    module _ (met : (reaches false price b && reaches true price s) ≡ true) where
      abbrev size : ℕ
      size = min (b.lots - bid) (s.lots - ask)

      turned : {bs ss : List Order} → bs ≡ less_first size (with_lots b (b.lots - bid)) (drop (i + 1) buys) → ss ≡ less_first size (with_lots s (s.lots - ask)) (drop (j + 1) sells)
          → (c : ℕ) → made + 1 + length (match_at c price bs ss).trades ≡ length (match_at c price buys sells).trades
      turned p q c =
          let both = both_true (reaches false price b) (reaches true price s) met in
          rw (p, q)
          (omega (arith, rw (less_now buys i bid hb eb, less_now sells j ask hs es, match_at_turn c price (with_lots b (b.lots - bid)) (drop (i + 1) buys) (with_lots s (s.lots - ask)) (drop (j + 1) sells) both.0 both.1) at (k.so_far c)))

      buy_filled : b.lots - bid ≤ size → less_lots 0 (drop (i + 1) buys) ≡ less_first size (with_lots b (b.lots - bid)) (drop (i + 1) buys)
      buy_filled = less_all buys i bid hb eb size

      sell_filled : s.lots - ask ≤ size → less_lots 0 (drop (j + 1) sells) ≡ less_first size (with_lots s (s.lots - ask)) (drop (j + 1) sells)
      sell_filled = less_all sells j ask hs es size

      bid_within : bid ≤ b.lots
      bid_within = rw eb k.bid_within

      ask_within : ask ≤ s.lots
      ask_within = rw es k.ask_within

      -- n lots are traded: the sell is filled, the buy is, or both are
      module _ {n : ℕ} (e : n ≡ size) where
        pub count_sell : (bid + n ≡ b.lots → ⊥) → ask + n ≡ s.lots → Counting buys sells price i (j + 1) (bid + n) 0 (made + 1)
        count_sell some full =
            record {
              buys_within = k.buys_within;
              sells_within = omega arith;
              bid_within = rw (← eb) (omega (arith, bid_within));
              ask_within = omega arith;
              few = omega (arith, k.few);
              so_far = turned (ap (λ (l : ℕ). less_lots (bid + l) (drop i buys)) e ∙ less_more buys i bid hb eb size (omega (arith, bid_within))) (sell_filled (omega arith));
            }

        pub count_buy : bid + n ≡ b.lots → (ask + n ≡ s.lots → ⊥) → Counting buys sells price (i + 1) j 0 (ask + n) (made + 1)
        count_buy full some =
            record {
              buys_within = omega arith;
              sells_within = k.sells_within;
              bid_within = omega arith;
              ask_within = rw (← es) (omega (arith, ask_within));
              few = omega (arith, k.few);
              so_far = turned (buy_filled (omega arith)) (ap (λ (l : ℕ). less_lots (ask + l) (drop j sells)) e ∙ less_more sells j ask hs es size (omega (arith, ask_within)));
            }

        pub count_both : bid + n ≡ b.lots → ask + n ≡ s.lots → Counting buys sells price (i + 1) (j + 1) 0 0 (made + 1)
        count_both p q =
            record {
              buys_within = omega arith;
              sells_within = omega arith;
              bid_within = omega arith;
              ask_within = omega arith;
              few = omega (arith, k.few);
              so_far = turned (buy_filled (omega arith)) (sell_filled (omega arith));
            }

        -- and never neither
        pub one_filled : (bid + n ≡ b.lots → ⊥) → ask + n ≡ s.lots
        one_filled some = omega (arith, bid_within, ask_within)
