-- Recorded trades read in turn from their area. Assumes nothing.
use Rattle.laws.specs.Logic.{List, [], ◌∷◌, ◌≡◌, sym, ap, ◌∙◌}
use Rattle.laws.specs.Numbers.{ℕ, ◌+◌, ◌*◌, ◌<◌, ◌≤◌, add-one, drop, drop_of_length-le, drop-cons}
use Rattle.rules.specs.Exchange.{no_trade}
use Rattle.rules.specs.Memory.{trade_from, recorded_trades, trade_stride}
use Rattle.rules.specs.declared.Trade.{Trade}
use Rattle.theory.proofs.Codecs.{length_trades, trade_at_lem}

module _ (area : List ℕ) (n i : ℕ) where
  pub next_trade : {t : Trade} → i < n → t ≡ trade_from (drop (trade_stride * i) area) → drop i (recorded_trades area n) ≡ t ∷ drop (i + 1) (recorded_trades area n)
  next_trade {t} h e =
      rw add-one (drop-cons (recorded_trades area n) i no_trade (rw (length_trades area n) h))
      ∙ ap (λ (u : Trade). u ∷ drop (i + 1) (recorded_trades area n)) (trade_at_lem area n i h ∙ sym e)

  pub no_trades : n ≤ i → drop i (recorded_trades area n) ≡ []
  no_trades h = drop_of_length-le (recorded_trades area n) {i = i} (rw (length_trades area n) h)
