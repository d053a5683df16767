-- A quote keeps the shape of the state and makes the buy's trades, then the sell's, and no other move of money. Assumes nothing.
use Rattle.laws.specs.Logic.{List, [], ◌++◌, append_assoc, refl, sym, ap, ◌∙◌}
use Rattle.laws.specs.Numbers.{◌+◌}
use Rattle.rules.specs.Exchange.{Exchange, place_of}
use Rattle.rules.specs.Kinds.{makes, last_of}
use Rattle.rules.specs.Quote.{Offered, buy_entered, buy_of, quote_trades, quoted, sell_entered, sell_of, with_buy, with_sell, without_quote}
use Rattle.rules.specs.declared.Trade.{Trade}
use Rattle.theory.proofs.Stages.{Each}
use Rattle.accounting.specs.Books.{after, books_of}
use Rattle.accounting.proofs.StepMoves.{Makes, entered_moves, same_listing}
use Rattle.accounting.proofs.StepShape.{SameShape, entered_shape, listing_replaced, shape_trans}

-- trades, and more after them
makes_more : (x y z : Exchange) (ts us : List Trade) → SameShape x y → Makes x (makes ts) y → Makes y (makes us) z → Makes x (makes (ts ++ us)) z
unfolding after
makes_more x y z ts us s p q = record {
  balance = λ a k. p.balance a k ∙ q.balance a (rw s.accounts k);
  start = λ a c k l. p.start a c k l ∙ q.start a c (rw s.accounts k) (rw s.listings l);
  reference = λ c k. p.reference c k ∙ q.reference c (rw s.listings k);
  multiplier = λ c k. p.multiplier c k ∙ q.multiplier c (rw s.listings k);
  trades = sym (append_assoc (books_of x).trades ts us) ∙ ap (λ (l : List Trade). l ++ us) p.trades ∙ q.trades;
}

module _ (x : Exchange) (q : Offered) where
  removed_shape : SameShape x (without_quote x q)
  unfolding without_quote
  removed_shape = listing_replaced x (place_of q.contract) _

  buy_shape : SameShape x (with_buy x q)
  unfolding with_buy
  buy_shape = shape_trans removed_shape (entered_shape (without_quote x q) (buy_of q) (buy_entered x q) ((without_quote x q).next + 1))

  sell_shape : SameShape x (with_sell x q)
  unfolding with_sell
  sell_shape = shape_trans buy_shape (entered_shape (with_buy x q) (sell_of q) (sell_entered x q) ((with_buy x q).next + 1))

  pub quoted_shape : Each (SameShape x) (quoted x q).stages
  unfolding quoted
  quoted_shape = (removed_shape, (buy_shape, (sell_shape, tt)))

  buy_moves : Makes x (makes (buy_entered x q).trades) (with_buy x q)
  unfolding with_buy without_quote
  buy_moves =
      makes_more x (without_quote x q) (with_buy x q) [] (buy_entered x q).trades removed_shape (same_listing x (place_of q.contract) _ refl refl)
      (entered_moves (without_quote x q) (buy_of q) (buy_entered x q) ((without_quote x q).next + 1))

  pub quoted_moves : Makes x (makes (quote_trades x q)) (last_of x (quoted x q).stages)
  unfolding quoted quote_trades with_sell
  quoted_moves =
      makes_more x (with_buy x q) (with_sell x q) (buy_entered x q).trades (sell_entered x q).trades buy_shape buy_moves
      (entered_moves (with_buy x q) (sell_of q) (sell_entered x q) ((with_buy x q).next + 1))
