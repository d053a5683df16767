-- What of a memory is in use, place by place: the lists of `exchange_of` against the arrays of the state. Assumes nothing.
use lib.Seq.{take-nil, take-set-lt}
use Rattle.laws.specs.Logic.{Bool, List, ◌≡◌, sym, ap, ◌∙◌}
use Rattle.laws.specs.Numbers.{ℕ, ◌<◌, ◌≤◌, length, get_or, set, take, length-map, List·getD-map, length-take-le, get_or-take}
use Rattle.laws.specs.Lists.{map_set}
use Rattle.laws.specs.Tabulate.{length_tabulate, get_d_tabulate}
use Rattle.rules.specs.Exchange.{no_account, no_holding, no_listing, listing_at, account_at, holding_at}
use Rattle.rules.specs.Holdings.{after_leg, book_leg, with_holding}
use Rattle.rules.specs.Memory.{Memory, exchange_of, in_use, listing_in, used}
use Rattle.rules.specs.declared.{Account.Account, Holding.Holding}

-- ---- accounts: n of them are in use, each with its holdings in k contracts

-- no account has no holdings in use either
none_in_use : (k : ℕ) → in_use k no_account ≡ no_account
none_in_use k = rw (take-nil k)

module _ (k n : ℕ) where
  pub length_used : (l : List Account) → n ≤ length l → length (used k n l) ≡ n
  length_used l h = length-map (take n l) (in_use k) ∙ length-take-le n l h

  pub used_set : (l : List Account) (i : ℕ) (v : Account) → i < n → used k n (set l i v) ≡ set (used k n l) i (in_use k v)
  used_set l i v h = rw (take-set-lt n l i v h) (map_set (in_use k) (take n l) i v)

  pub used_at : (l : List Account) (i : ℕ) → i < n → account_at (used k n l) i ≡ in_use k (account_at l i)
  unfolding account_at
  used_at l i h =
      ap (λ (d : Account). get_or (used k n l) i d) (sym (none_in_use k)) ∙ List·getD-map (in_use k) (take n l) i no_account
      ∙ ap (in_use k) (get_or-take n l i no_account h)

  pub used_holding : (l : List Account) (a c : ℕ) → a < n → c < k → holding_at (used k n l) a c ≡ holding_at l a c
  unfolding holding_at
  used_holding l a c h hc = rw (used_at l a h) (get_or-take k (account_at l a).holdings c no_holding hc)

  pub used_leg : (l : List Account) (a c : ℕ) (sell : Bool) (close lots : ℕ) → a < n → c < k
      → book_leg (used k n l) a c sell close lots ≡ used k n (book_leg l a c sell close lots)
  unfolding book_leg
  used_leg l a c sell close lots h hc =
      let hs = (account_at l a).holdings in
      let v = after_leg (holding_at l a c) sell close lots in
      let e : with_holding (in_use k (account_at l a)) c v ≡ in_use k (with_holding (account_at l a) c v) =
      ap (λ (r : List Holding). record { balance = (account_at l a).balance; maker = (account_at l a).maker; holdings = r }) (sym (take-set-lt k hs c v hc)) in
      rw (used_holding l a c h hc, used_at l a h, e) (sym (used_set l a (with_holding (account_at l a) c v) h))

-- ---- the lists of a memory

module _ (m : Memory) where
  pub contracts_in_use : length (exchange_of m).listings ≡ m.state.contractcount
  unfolding exchange_of
  contracts_in_use = length_tabulate m.state.contractcount (listing_in m)

  pub accounts_in_use : m.state.accountcount ≤ length m.state.accounts → length (exchange_of m).accounts ≡ m.state.accountcount
  unfolding exchange_of
  accounts_in_use = length_used m.state.contractcount m.state.accountcount m.state.accounts

  pub listing_in_use : (c : ℕ) → c < m.state.contractcount → listing_at (exchange_of m) c ≡ listing_in m c
  unfolding exchange_of listing_at
  listing_in_use c l = get_d_tabulate m.state.contractcount c (listing_in m) no_listing l

  pub account_in_use_lem : (a : ℕ) → a < m.state.accountcount
      → account_at (exchange_of m).accounts a ≡ in_use m.state.contractcount (get_or m.state.accounts a no_account)
  unfolding exchange_of account_at
  account_in_use_lem = used_at m.state.contractcount m.state.accountcount m.state.accounts

  pub holding_in_use : (a c : ℕ) → a < m.state.accountcount → c < m.state.contractcount
      → holding_at (exchange_of m).accounts a c ≡ get_or (get_or m.state.accounts a no_account).holdings c no_holding
  unfolding exchange_of account_at holding_at
  holding_in_use = used_holding m.state.contractcount m.state.accountcount m.state.accounts
