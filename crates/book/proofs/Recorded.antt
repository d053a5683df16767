-- The trade area: nine words for each trade of the day. Assumes nothing.
use lib.Seq.{sets}
use Rattle.laws.specs.Logic.{List, [], ◌∷◌, ◌≡◌}
use Rattle.laws.specs.Numbers.{ℕ, ◌+◌, ◌<◌, ◌≤◌, arith, length}
use Rattle.areas.specs.Records.{store}
use Rattle.areas.proofs.Lists.{sets_over}
use Rattle.areas.proofs.Records.{encode_one}
use Rattle.rules.specs.Memory.{recorded_trades, trade_words, trade_stride}
use Rattle.rules.specs.declared.Trade.{Trade}
use Rattle.theory.proofs.Codecs.{length_trades, trade_codec}

-- a place in the list is one of the trades in the area
pub recorded : (area : List ℕ) (n : ℕ) {ts : List Trade} → recorded_trades area n ≡ ts → {i : ℕ} → i < length ts → i < n
recorded area n e h = omega (arith, length_trades area n, rw (← e) at h)

-- nine stores write a trade
pub stored_trade : (area : List ℕ) (at : ℕ) (t : Trade) → at + trade_stride ≤ length area → sets area at (trade_words t) ≡ store trade_words area at (t ∷ [])
unfolding store
stored_trade area at t room = rw (encode_one trade_codec t) (sets_over area at (trade_words t) room)
