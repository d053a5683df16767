-- The opening state in memory is the opening exchange, whatever stands in the areas lent with it: none of their places is in
-- use. Assumes nothing.
use Rattle.laws.specs.Logic.{true, List, ◌∷◌, map, ◌≡◌, refl, ap, ◌∙◌}
use Rattle.laws.specs.Numbers.{ℕ, zero, suc, ◌<◌, ◌≤◌, le_of_suc-le-suc, not-suc-le-zero, arith, get_or, take, replicate, get_or-replicate}
use Rattle.areas.specs.Lists.{padded}
use Rattle.areas.proofs.Lists.{get_d_padded, take_padded}
use Rattle.laws.specs.Tabulate.{tabulate, length_tabulate, get_d_tabulate, tabulate_below, map_tabulate}
use Rattle.rules.specs.DayFile.{contracts_in, accounts_in, opening_listing, opening_account, opening, sound}
use Rattle.rules.specs.Exchange.{no_contract, no_holding}
use Rattle.rules.specs.Memory.{Memory, listing_in, in_use, exchange_of}
use Rattle.theory.proofs.Codecs.{queue_none, trades_none}
use Rattle.dayfile.specs.Opening.{account_with, opening_contract, opening_holder, opening_contracts, opening_accounts, opening_state, opening_memory}
use Rattle.dayfile.proofs.Places.{sound_layout}

take_replicate : {A : Type 0} (k n : ℕ) (z : A) → k ≤ n → take k (replicate n z) ≡ replicate k z
take_replicate zero n z h = refl
take_replicate (suc k) zero z h = absurd (not-suc-le-zero h)
take_replicate {A} (suc k) (suc n) z h = ap (λ (l : List A). z ∷ l) (take_replicate k n z (le_of_suc-le-suc h))

-- ---- the opening state

module _ (file buys sells trades : List ℕ) (h : sound file ≡ true) where
  abbrev m : Memory
  m = opening_memory file buys sells trades

  at_contract : (c : ℕ) → c < contracts_in file → get_or (opening_contracts file) c no_contract ≡ opening_contract file c
  unfolding opening_contracts
  at_contract c l =
      get_d_padded 4 c no_contract no_contract (tabulate (contracts_in file) (opening_contract file)) (rw length_tabulate l)
      ∙ get_d_tabulate (contracts_in file) c (opening_contract file) no_contract l

  at_listing : (c : ℕ) → c < contracts_in file → listing_in m c ≡ opening_listing file c
  unfolding listing_in opening_listing opening_state
  at_listing c l =
      let s = sound_layout file h in
      let e : ◌≡◌ {A = ℕ} (get_or (replicate 4 0) c 0) 0 = get_or-replicate 4 c 0 0 (omega arith) in
      rw (
        at_contract c l,
        queue_none buys c (get_or (replicate 4 0) c 0) e,
        queue_none sells c (get_or (replicate 4 0) c 0) e,
      )

  at_account : (a : ℕ) → a < accounts_in file → in_use (contracts_in file) (opening_holder file a) ≡ opening_account file a
  unfolding opening_account
  at_account a l = let s = sound_layout file h in rw (take_replicate (contracts_in file) 4 no_holding s.contracts)

  accounts_in_use : map (in_use (contracts_in file)) (take (accounts_in file) (opening_accounts file))
      ≡ tabulate (accounts_in file) (opening_account file)
  unfolding opening_accounts
  accounts_in_use =
      let n = accounts_in file in
      let holders = tabulate n (opening_holder file) in
      let t : take n (padded 32 (account_with 0 0) holders) ≡ holders =
      rw (length_tabulate n (opening_holder file)) at (take_padded 32 (account_with 0 0) holders) in
      rw (t, map_tabulate (in_use (contracts_in file)) n (opening_holder file))
      (tabulate_below n (λ a. in_use (contracts_in file) (opening_holder file a)) (opening_account file) at_account)

  pub opening_exchange : exchange_of m ≡ opening file
  unfolding exchange_of opening opening_state
  opening_exchange =
      rw (
        tabulate_below (contracts_in file) (listing_in m) (opening_listing file) at_listing,
        accounts_in_use,
        trades_none trades,
      )
