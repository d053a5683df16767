-- What is read stands over the places of a state. Assumes nothing.
use mathlib.Core.List.{List, map}
use mathlib.Core.Path.{◌≡◌, sym, ap, ap₂, ◌∙◌}
use Prim.Native.Nat.{ℕ, ◌+◌, ◌-◌, ◌*◌, ◌≤◌, ◌<◌}
use native.Mathlib.Nat.{mul-le-mul_left}
use native.Mathlib.Omega.{arith}
use lib.IntN.{ℤ}
use lib.ListN.{length, get_or}
use Rattle.laws.specs.Tabulate.{tabulate, length_tabulate, map_tabulate}
use Rattle.laws.specs.Written.{overwritten}
use Rattle.rules.specs.Bounds.{max_accounts, max_contracts}
use Rattle.rules.specs.DayFile.{contracts_in, u8_at, u32_at, u64_at, count_width}
use Rattle.rules.specs.Exchange.{no_account}
use Rattle.rules.specs.Memory.{put_account, put_accounts, put_first, put_state}
use Rattle.rules.specs.declared.Account.{Account}
use Rattle.rules.specs.declared.Contract.{Contract}
use Rattle.rules.specs.declared.Holding.{Holding}
use Rattle.rules.specs.declared.State.{State}
use Rattle.endian.specs.Numbers.{signed_of}
use Rattle.settlement.proofs.Places.{overwritten_accounts, overwritten_first}
use Rattle.sections.specs.Sections.{holding_width}
use Rattle.statefile.specs.StateFile.{saved_account_place, saved_accounts_in, saved_contract_place, loaded_account, loaded_from, loaded_listing, loaded_state, row_place, saved_account, saved_contract, saved_holding, settlements_place, balance_width, saved_account_width, saved_contract_width, settlements_width}
use Rattle.saving.specs.Parts.{Laid}
use Rattle.saving.proofs.Shapes.{few_bytes}

-- ---- one account

pub account_made : (bs : List ℕ) (n at row : ℕ) (room : Account) {z : ℤ} {m : ℕ} {hs : List Holding} → z ≡ signed_of (u64_at bs at) → m ≡ u8_at bs (at + balance_width)
    → hs ≡ overwritten (λ c. saved_holding bs (row + holding_width * c)) room.holdings n
    → record { balance = z; maker = m; holdings = hs } ≡ put_account (saved_account bs n at row) room
unfolding saved_account
account_made bs n at row room e f g =
    let h = g ∙ sym (overwritten_first (λ c. saved_holding bs (row + holding_width * c)) room.holdings n) in
    λ i. record { balance = e i; maker = f i; holdings = h i }

-- ---- all of them

module _ (bs : List ℕ) (c a : ℕ) (l : Laid bs c a) (i : ℕ) (h : i < a) where
  -- an account's row ends where the next begins
  row_ends : holding_width * c * i + holding_width * c ≤ holding_width * c * a
  row_ends =
      let e : holding_width * c * (i + 1) ≡ holding_width * c * i + holding_width * c = omega arith in
      let p : holding_width * c * (i + 1) ≤ holding_width * c * a = mul-le-mul_left (holding_width * c) (let q : i + 1 ≤ a = omega arith in q) in
      omega arith

  pub record Inside : Type 0 where
    pub entry : 2 * count_width + saved_contract_width * c + saved_account_width * i + saved_account_width ≤ length bs
    pub row : 2 * count_width + saved_contract_width * c + saved_account_width * a + count_width + holding_width * c * i + holding_width * c ≤ length bs
    pub small : holding_width * c * i ≤ holding_width * max_contracts * max_accounts

  pub inside : Inside
  inside =
      record {
        entry = omega (arith, l.ends);
        row = omega (arith, l.ends, row_ends);
        small = omega (arith, row_ends, few_bytes c a l.few_contracts l.few_accounts);
      }

  account_placed : (first rows width : ℕ) → first ≡ 2 * count_width + saved_contract_width * c → rows ≡ first + saved_account_width * a + count_width → width ≡ holding_width * c
      → saved_account bs c (first + saved_account_width * i) (rows + width * i) ≡ loaded_account bs i
  unfolding loaded_account
  account_placed first rows width e f g =
      let p : first + saved_account_width * i ≡ saved_account_place c i = omega arith in
      let q : rows + width * i ≡ row_place c a i = rw g (omega arith) in
      ap₂ (λ (x y : ℕ). saved_account bs c x y) p q ∙ rw (l.contracts_are, l.accounts_are)

  pub account_over : (first rows width : ℕ) → first ≡ 2 * count_width + saved_contract_width * c → rows ≡ first + saved_account_width * a + count_width → width ≡ holding_width * c → (r room : Account)
      → r ≡ put_account (saved_account bs c (first + saved_account_width * i) (rows + width * i)) room → r ≡ put_account (loaded_account bs i) room
  account_over first rows width e f g r room p = p ∙ ap (λ (o : Account). put_account o room) (account_placed first rows width e f g)

-- ---- the state

module _ (s : State) (bs : List ℕ) (c a : ℕ) (l : Laid bs c a) where
  contracts_over : put_first (map (λ n. n.contract) (loaded_from bs).listings) s.contracts
      ≡ overwritten (λ i. saved_contract bs (saved_contract_place i)) s.contracts c
  unfolding loaded_from loaded_listing
  contracts_over =
      ap (λ (vs : List Contract). put_first vs s.contracts) (map_tabulate (λ n. n.contract) (contracts_in bs) (loaded_listing bs))
      ∙ overwritten_first (λ i. saved_contract bs (saved_contract_place i)) s.contracts (contracts_in bs)
      ∙ ap (overwritten (λ i. saved_contract bs (saved_contract_place i)) s.contracts) (sym l.contracts_are)

  no_buys : (places : List ℕ) → put_first (map (λ n. length n.buys) (loaded_from bs).listings) places ≡ put_first (tabulate c (λ i. 0)) places
  unfolding loaded_from loaded_listing
  no_buys places =
      ap (λ (vs : List ℕ). put_first vs places) (map_tabulate (λ n. length n.buys) (contracts_in bs) (loaded_listing bs) ∙ ap (λ (n : ℕ). tabulate n (λ i. 0)) (sym l.contracts_are))

  no_sells : (places : List ℕ) → put_first (map (λ n. length n.sells) (loaded_from bs).listings) places ≡ put_first (tabulate c (λ i. 0)) places
  unfolding loaded_from loaded_listing
  no_sells places =
      ap (λ (vs : List ℕ). put_first vs places) (map_tabulate (λ n. length n.sells) (contracts_in bs) (loaded_listing bs) ∙ ap (λ (n : ℕ). tabulate n (λ i. 0)) (sym l.contracts_are))

  accounts_over : a ≤ length s.accounts → put_accounts (loaded_from bs).accounts s.accounts
      ≡ overwritten (λ i. put_account (loaded_account bs i) (get_or s.accounts i no_account)) s.accounts a
  unfolding loaded_from
  accounts_over h =
      ap (λ (n : ℕ). put_accounts (tabulate n (loaded_account bs)) s.accounts) (sym l.accounts_are)
      ∙ overwritten_accounts (loaded_account bs) s.accounts a h

  contract_count : length (loaded_from bs).listings ≡ c
  unfolding loaded_from
  contract_count = length_tabulate (contracts_in bs) (loaded_listing bs) ∙ sym l.contracts_are

  account_count : length (loaded_from bs).accounts ≡ a
  unfolding loaded_from
  account_count = length_tabulate (saved_accounts_in bs) (loaded_account bs) ∙ sym l.accounts_are

  settlements_at : (loaded_from bs).settlements ≡ u32_at bs (length bs - settlements_width)
  unfolding loaded_from
  settlements_at =
      let p : length bs - settlements_width ≡ settlements_place c a = omega (arith, l.ends) in
      sym (ap (u32_at bs) (p ∙ rw (l.contracts_are, l.accounts_are)))

  module _ {terms : List Contract} {accounts : List Account} {buycounts sellcounts : List ℕ} {settlements : ℕ} where
    pub state_made : a ≤ length s.accounts → terms ≡ overwritten (λ i. saved_contract bs (saved_contract_place i)) s.contracts c
        → accounts ≡ overwritten (λ i. put_account (loaded_account bs i) (get_or s.accounts i no_account)) s.accounts a
        → buycounts ≡ put_first (tabulate c (λ i. 0)) s.buycounts → sellcounts ≡ put_first (tabulate c (λ i. 0)) s.sellcounts → settlements ≡ u32_at bs (length bs - settlements_width)
        → record {
          contracts = terms;
          accounts = accounts;
          buycounts = buycounts;
          sellcounts = sellcounts;
          contractcount = c;
          accountcount = a;
          tradecount = 0;
          next = 1;
          nextstamp = 1;
          settlements = settlements;
        } ≡ loaded_state s (loaded_from bs)
    unfolding loaded_state put_state loaded_from
    state_made h t o b e n =
        let t' = t ∙ sym contracts_over in
        let o' = o ∙ sym (accounts_over h) in
        let b' = b ∙ sym (no_buys s.buycounts) in
        let e' = e ∙ sym (no_sells s.sellcounts) in
        let n' = n ∙ sym settlements_at in
        let c' = sym contract_count in
        let a' = sym account_count in
        λ i. record {
          contracts = t' i;
          accounts = o' i;
          buycounts = b' i;
          sellcounts = e' i;
          contractcount = c' i;
          accountcount = a' i;
          tradecount = 0;
          next = 1;
          nextstamp = 1;
          settlements = n' i;
        }
