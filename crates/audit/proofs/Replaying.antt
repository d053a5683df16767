-- From the replay of the day's trades over the starting holdings to the rule's answer. Assumes nothing.
use Rattle.std.specs.Prelude.{Option, Some, None, is_some}
use Rattle.laws.specs.Logic.{Bool, false, List, ◌≡◌, sym, ap, ◌∙◌}
use Rattle.laws.specs.Numbers.{ℕ, ◌*◌, ◌<◌, ◌≤◌, length, get_or}
use Rattle.rules.specs.Bounds.{max_trades}
use Rattle.rules.specs.Exchange.{holding_at, no_trade}
use Rattle.rules.specs.Holdings.{book_trades, never_below_zero, same_holdings, start_of_day}
use Rattle.rules.specs.Memory.{recorded_trades, used, trade_stride}
use Rattle.rules.specs.WellFormed.{replays}
use Rattle.rules.specs.declared.{Account.Account, Trade.Trade}
use Rattle.replaying.specs.Parts.{Booked, Replayable, ReplayIs}
use Rattle.replaying.proofs.Started.{start_at, used_day}
use Rattle.audit.specs.Parts.{replayed}

module _ (list : List Account) (k n : ℕ) (area : List ℕ) (count : ℕ) {start : List Account} (e : start ≡ start_of_day list) where
  pub replayable : k ≤ 4 → n ≤ 32 → count ≤ max_trades → trade_stride * count ≤ length area
      → ((i : ℕ) → i < count → Booked k n (get_or (recorded_trades area count) i no_trade))
      → ((a c : ℕ) → a < n → c < k → ((holding_at list a c).startlong ≤ 100_000) × ((holding_at list a c).startshort ≤ 100_000))
      → Replayable start k n area count
  replayable hk hn hc room each starts =
      record { few = hk; fit = hn; trades = hc; room = room; each = each; held = λ a c ha hc. rw (e, start_at list a c) (starts a c ha hc) }

  abbrev day : List Trade
  day = recorded_trades area count

  abbrev answer : Bool
  answer = replays (replayed (used k n list) day)

  used_start : used k n start ≡ start_of_day (used k n list)
  used_start = ap (used k n) e ∙ used_day k n list

  covered_is : {r : Option (List Account)} → ReplayIs start k n area count r → is_some r ≡ never_below_zero (start_of_day (used k n list)) day
  covered_is q = q.covered ∙ ap (λ (l : List Account). never_below_zero l day) used_start

  pub goes_below : ReplayIs start k n area count None → false ≡ answer
  unfolding replays
  goes_below q = rw (sym (covered_is q))

  pub replayed_all : {held : List Account} → ReplayIs start k n area count (Some held) → {b : Bool} → b ≡ same_holdings (used k n held) (used k n list) → b ≡ answer
  unfolding replays
  replayed_all {held} q s =
      let now : used k n held ≡ book_trades (start_of_day (used k n list)) day = q.held ∙ ap (λ (l : List Account). book_trades l day) used_start in
      rw (sym (covered_is q)) (s ∙ ap (λ (l : List Account). same_holdings l (used k n list)) now)
