-- Accounts in use written into the memory they were read from: one changed account changes its own place, and booked trades
-- leave the room of every account as it was. Assumes nothing.
use mathlib.Core.Bool.{Bool, true, false}
use mathlib.Core.List.{List, [], ◌∷◌}
use mathlib.Core.Path.{◌≡◌, refl, ap, ◌∙◌}
use Prim.Native.Nat.{ℕ, zero, suc, ◌<◌, ◌≤◌}
use native.Mathlib.Nat.{le_of_suc-le-suc, not-suc-le-zero}
use native.Mathlib.Omega.{arith}
use lib.ListN.{length, set, take, drop, length-set, take-append-drop}
use lib.Seq.{drop-set-lt, length-take-le}
use Rattle.rules.specs.Exchange.{account_at, holding_at}
use Rattle.rules.specs.Holdings.{after_leg, book_leg, book_trade, book_trades, with_holding}
use Rattle.rules.specs.Memory.{in_use, put_account, put_accounts, put_first, used}
use Rattle.rules.specs.declared.Account.{Account}
use Rattle.rules.specs.declared.Holding.{Holding}
use Rattle.rules.specs.declared.Trade.{Trade}
use Rattle.theory.proofs.InUse.{used_leg, used_set}

-- ---- one account

-- a list's first places written over a list with the same room
pub first_room : {A : Type 0} (k : ℕ) (l room : List A) → drop k l ≡ drop k room → k ≤ length l → put_first (take k l) room ≡ l
first_room k l room e h = rw (length-take-le k l h, ← e) (take-append-drop k l)

pub account_room : (k : ℕ) (a room : Account) → drop k a.holdings ≡ drop k room.holdings → k ≤ length a.holdings → put_account (in_use k a) room ≡ a
account_room k a room e h = ap (λ (hs : List Holding). record { balance = a.balance; maker = a.maker; holdings = hs }) (first_room k a.holdings room.holdings e h)

-- ---- all accounts: `accounts` has the room of `rooms`, beyond n accounts and in each beyond k contracts

pub data SameRoom (k : ℕ) : ℕ → List Account → List Account → Type 0 where
  past : {rooms : List Account} → SameRoom k 0 rooms rooms
  next : {n : ℕ} {a room : Account} {as' rooms : List Account} → drop k a.holdings ≡ drop k room.holdings → k ≤ length a.holdings → SameRoom k n as' rooms → SameRoom k (suc n) (a ∷ as') (room ∷ rooms)

pub same_room_put : (k : ℕ) {n : ℕ} {accounts rooms : List Account} → SameRoom k n accounts rooms → put_accounts (used k n accounts) rooms ≡ accounts
unfolding put_accounts
same_room_put k past = refl
same_room_put k (next {a = a} {room = room} {as' = as'} e h s) =
    rw (account_room k a room e h) (ap (λ (l : List Account). a ∷ l) (same_room_put k s))

pub same_room : (k n : ℕ) (accounts : List Account) → n ≤ length accounts → ((i : ℕ) → i < n → k ≤ length (account_at accounts i).holdings) → SameRoom k n accounts accounts
unfolding account_at
same_room k zero accounts h wide = past
same_room k (suc n) [] h wide = absurd (not-suc-le-zero h)
same_room k (suc n) (a ∷ accounts) h wide =
    next refl (wide 0 (omega arith)) (same_room k n accounts (le_of_suc-le-suc h) (λ i l. wide (suc i) (omega arith)))

-- one account changed in the contracts in use
pub same_room_set : (k : ℕ) {n : ℕ} {accounts rooms : List Account} (i : ℕ) (v : Account) → SameRoom k n accounts rooms → i < n
    → drop k v.holdings ≡ drop k (account_at accounts i).holdings → length v.holdings ≡ length (account_at accounts i).holdings → SameRoom k n (set accounts i v) rooms
unfolding account_at
same_room_set k i v past h e l = absurd (not-suc-le-zero h)
same_room_set k zero v (next e' h' s) h e l = next (e ∙ e') (omega arith) s
same_room_set k (suc i) v (next e' h' s) h e l = next e' h' (same_room_set k i v s (le_of_suc-le-suc h) e l)

-- ---- booked trades

module _ (k n : ℕ) where
  -- trades of accounts and contracts in use
  unfoldable pub TradesUsed : List Trade → Type 0
  TradesUsed [] = Unit {0}
  TradesUsed (t ∷ ts) = ((t.contract < k) × ((t.buyer < n) × (t.seller < n))) × TradesUsed ts

  pub length_leg : (l : List Account) (a c : ℕ) (sell : Bool) (close lots : ℕ) → length (book_leg l a c sell close lots) ≡ length l
  unfolding book_leg
  length_leg l a c sell close lots = length-set l a _

  pub used_trades : (l : List Account) (ts : List Trade) → n ≤ length l → TradesUsed ts → book_trades (used k n l) ts ≡ used k n (book_trades l ts)
  unfolding book_trades book_trade TradesUsed
  used_trades l [] m u = refl
  used_trades l (t ∷ ts) m u =
      let b = book_leg l t.buyer t.contract false t.buyclose t.lots in
      let lb : length b ≡ length l = length_leg l t.buyer t.contract false t.buyclose t.lots in
      let s = book_leg b t.seller t.contract true t.sellclose t.lots in
      let ls : length s ≡ length b = length_leg b t.seller t.contract true t.sellclose t.lots in
      rw (used_leg k n l t.buyer t.contract false t.buyclose t.lots u.0.1.0 u.0.0, used_leg k n b t.seller t.contract true t.sellclose t.lots u.0.1.1 u.0.0)
      (used_trades s ts (omega arith) u.1)

  pub same_room_leg : {l rooms : List Account} (a c : ℕ) (sell : Bool) (close lots : ℕ) → SameRoom k n l rooms → a < n → c < k
      → SameRoom k n (book_leg l a c sell close lots) rooms
  unfolding book_leg
  same_room_leg {l = l} a c sell close lots s h hc =
      let v = after_leg (holding_at l a c) sell close lots in
      same_room_set k a (with_holding (account_at l a) c v) s h
      (drop-set-lt k (account_at l a).holdings c v hc)
      (length-set (account_at l a).holdings c v)

  pub same_room_trades : {l rooms : List Account} (ts : List Trade) → SameRoom k n l rooms → TradesUsed ts → SameRoom k n (book_trades l ts) rooms
  unfolding book_trades book_trade TradesUsed
  same_room_trades [] s u = s
  same_room_trades {l = l} (t ∷ ts) s u =
      same_room_trades {l = book_trade l t} ts
      (same_room_leg t.seller t.contract true t.sellclose t.lots (same_room_leg t.buyer t.contract false t.buyclose t.lots s u.0.1.0 u.0.0) u.0.1.1 u.0.0)
      u.1

  -- what the rules book in the accounts in use is what is booked in the accounts as they lie
  pub put_trades_booked : (l : List Account) (ts : List Trade) → n ≤ length l → ((i : ℕ) → i < n → k ≤ length (account_at l i).holdings) → TradesUsed ts
      → put_accounts (book_trades (used k n l) ts) l ≡ book_trades l ts
  put_trades_booked l ts m wide u =
      rw (used_trades l ts m u) (same_room_put k (same_room_trades ts (same_room k n l m wide) u))

  pub put_account_set : (l : List Account) (i : ℕ) (v : Account) → n ≤ length l → ((j : ℕ) → j < n → k ≤ length (account_at l j).holdings) → i < n
      → v.holdings ≡ (account_at l i).holdings → put_accounts (set (used k n l) i (in_use k v)) l ≡ set l i v
  put_account_set l i v m wide h e =
      rw (← used_set k n l i v h) (same_room_put k (same_room_set k i v (same_room k n l m wide) h (ap (drop k) e) (ap length e)))
