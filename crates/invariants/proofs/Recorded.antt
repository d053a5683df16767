-- The trades that a quote and a change record are those that they make. Of every command it is `trades_recorded` (`EachKind`). Assumes nothing.
use Rattle.laws.specs.Logic.{◌++◌, append-nil, append_assoc, ◌≡◌, refl, sym}
use Rattle.rules.specs.Change.{Asked, change_trades, changed, gone, place_kept, place_lost, unchanged}
use Rattle.rules.specs.Exchange.{Exchange}
use Rattle.rules.specs.Kinds.{last_of}
use Rattle.rules.specs.Quote.{Offered, buy_entered, quote_trades, quoted, sell_entered, with_buy, with_sell, without_quote}
use Rattle.rules.specs.Step.{cancelled, exchange_after, removed}
use Rattle.theory.proofs.Changes.{changed_either}

module _ (x : Exchange) where
  pub quoted_records : (q : Offered) → (last_of x (quoted x q).stages).trades ≡ x.trades ++ quote_trades x q
  unfolding quoted quote_trades with_sell with_buy without_quote exchange_after
  quoted_records q = append_assoc x.trades (buy_entered x q).trades (sell_entered x q).trades

  pub changed_records : (k : Asked) → (last_of x (changed x k).stages).trades ≡ x.trades ++ change_trades x k
  unfolding cancelled removed place_lost unchanged place_kept gone exchange_after
  changed_records k =
      changed_either x k (λ ts e. (last_of x e.stages).trades ≡ x.trades ++ ts) (λ e. sym (append-nil x.trades)) (λ e. refl)
      (λ e f. sym (append-nil x.trades)) (λ e f g. sym (append-nil x.trades))
