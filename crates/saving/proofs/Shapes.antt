-- What the counts and the length of a saved file decide. Assumes nothing.
use mathlib.Core.Bool.{Bool, true, false, ◌&&◌}
use mathlib.Core.List.{List}
use mathlib.Core.Path.{◌≡◌, refl, sym, ap, ◌∙◌}
use Prim.Native.Nat.{ℕ, ◌+◌, ◌-◌, ◌*◌, ◌≤◌, ◌<◌}
use native.Mathlib.Nat.{mul-le-mul}
use native.Mathlib.Omega.{arith}
use lib.Dec.{eqb}
use lib.ListN.{length}
use borrow.Author.Tests.{eq-eqb, ne_eqb, le-leb, lt-leb}
use Rattle.laws.specs.Choice.{false_both}
use Rattle.rules.specs.Bounds.{max_accounts, max_contracts}
use Rattle.rules.specs.DayFile.{contracts_in, u8_at, u32_at, count_width}
use Rattle.theory.proofs.Terms.{within_high, within_low, within_test}
use Rattle.sections.specs.Sections.{holding_width}
use Rattle.statefile.specs.StateFile.{saved_account_place, saved_accounts_in, counts_right, mark_sound, row_place, settlements_place, shaped, balance_width, saved_account_width, saved_contract_width, settlements_width}
use Rattle.dayfile.specs.FileHead.{count_before}
use Rattle.dayfile.proofs.Counts.{counted, uncounted}
use Rattle.dayfile.proofs.Places.{contracts_are, contracts_read}
use Rattle.statefile.proofs.Again.{shape}
use Rattle.saving.specs.Parts.{Laid}

-- rows of eight bytes for each of four contracts and 32 accounts at most
pub few_bytes : (contracts accounts : ℕ) → contracts ≤ max_contracts → accounts ≤ max_accounts → holding_width * contracts * accounts ≤ holding_width * max_contracts * max_accounts
few_bytes contracts accounts h k = let p : holding_width * contracts ≤ holding_width * max_contracts = omega arith in mul-le-mul p k

-- a file whose counts or length contradict its shape is not so
pub record Lengths (bs : List ℕ) : Type 0 where
  pub some_contract : 1 ≤ contracts_in bs
  pub few_contracts : contracts_in bs ≤ max_contracts
  pub some_account : 1 ≤ saved_accounts_in bs
  pub few_accounts : saved_accounts_in bs ≤ max_accounts
  pub ends : length bs ≡ settlements_place (contracts_in bs) (saved_accounts_in bs) + settlements_width

lengths : (bs : List ℕ) → shaped bs ≡ true → Lengths bs
lengths bs h =
    let s = shape bs h in
    record {
      some_contract = within_low 1 max_contracts (contracts_in bs) s.contracts;
      few_contracts = within_high 1 max_contracts (contracts_in bs) s.contracts;
      some_account = within_low 1 max_accounts (saved_accounts_in bs) s.accounts;
      few_accounts = within_high 1 max_accounts (saved_accounts_in bs) s.accounts;
      ends = s.ends;
    }

pub misshapen : (bs : List ℕ) → (Lengths bs → ⊥) → shaped bs ≡ false
misshapen bs f = by_shape (shaped bs) refl
  where
    by_shape : (t : Bool) → shaped bs ≡ t → shaped bs ≡ false
    by_shape true e = absurd (f (lengths bs e))
    by_shape false e = e

-- counts and length as they should be leave it to the counts of the last two sections
pub counts_decide : (bs : List ℕ) → Lengths bs → shaped bs ≡ counts_right bs
unfolding shaped
counts_decide bs l =
    rw (
      within_test 1 max_contracts (contracts_in bs) l.some_contract l.few_contracts,
      within_test 1 max_accounts (saved_accounts_in bs) l.some_account l.few_accounts,
      eq-eqb (length bs) (settlements_place (contracts_in bs) (saved_accounts_in bs) + settlements_width) l.ends,
    )

-- ---- the counts as the code reads them

pub no_contracts_lem : (bs : List ℕ) → count_before bs 4 4 ≡ 0 → shaped bs ≡ false
no_contracts_lem bs z = misshapen bs (λ l. uncounted bs 4 4 z (omega (arith, l.ends)) (omega (arith, l.some_contract, contracts_read bs)) (omega (arith, l.few_contracts, contracts_read bs)))

module _ (bs : List ℕ) {c : ℕ} (ec : c ≡ count_before bs 4 4) (some : 1 ≤ c) {end : ℕ} (is : end ≡ 8 + 24 * c) where
  count_there : u32_at bs (end - 4) ≡ saved_accounts_in bs
  unfolding saved_accounts_in
  count_there = ap (u32_at bs) (omega (arith, contracts_are bs ec some))

  pub no_accounts_lem : count_before bs end 32 ≡ 0 → shaped bs ≡ false
  no_accounts_lem z =
      misshapen bs (λ l. uncounted bs end 32 z (omega (arith, l.ends, contracts_are bs ec some)) (omega (arith, l.some_account, count_there)) (omega (arith, l.few_accounts, count_there)))

  pub accounts_are : {a : ℕ} → a ≡ count_before bs end 32 → 1 ≤ a → a ≡ saved_accounts_in bs
  accounts_are ea more = (counted bs end 32 ea more).is ∙ count_there

-- ---- the tests in the order of the code, with what was read so far

module _ (bs : List ℕ) (c a n : ℕ) (e : c ≡ contracts_in bs) (f : a ≡ saved_accounts_in bs) (g : n ≡ settlements_place c a + settlements_width) where
  long_as : settlements_place (contracts_in bs) (saved_accounts_in bs) + settlements_width ≡ n
  long_as = rw (← e, ← f) (sym g)

  pub length_wrong : (length bs ≡ n → ⊥) → shaped bs ≡ false
  length_wrong d = misshapen bs (λ l. d (l.ends ∙ long_as))

  module _ (h : length bs ≡ n) (some_contract : 1 ≤ c) (few_contracts : c ≤ max_contracts) (some_account : 1 ≤ a) (few_accounts : a ≤ max_accounts) where
    pub laid : Laid bs c a
    laid = record { contracts_are = e; accounts_are = f; few_contracts = few_contracts; few_accounts = few_accounts; ends = h ∙ g }

    pub decided : {r : Bool} → r ≡ counts_right bs → shaped bs ≡ r
    decided q =
        counts_decide bs
        (record {
          some_contract = omega (arith, e);
          few_contracts = omega (arith, e);
          some_account = omega (arith, f);
          few_accounts = omega (arith, f);
          ends = h ∙ sym long_as;
        })
        ∙ sym q

-- a file that passed
pub shaped_long : (bs : List ℕ) → shaped bs ≡ true → count_width ≤ length bs
shaped_long bs h = omega (arith, (lengths bs h).ends)

pub count_ready : (bs : List ℕ) (c : ℕ) → c ≡ contracts_in bs → shaped bs ≡ true → (c ≡ contracts_in bs) × (c ≤ max_contracts) × (2 * count_width + saved_contract_width * c ≤ length bs)
count_ready bs c e h = let l = lengths bs h in (e, omega (arith, e, l.few_contracts), omega (arith, e, l.ends))

pub shaped_laid : (bs : List ℕ) (c a : ℕ) → c ≡ contracts_in bs → a ≡ saved_accounts_in bs → shaped bs ≡ true → Laid bs c a
shaped_laid bs c a e f h =
    let l = lengths bs h in
    record {
      contracts_are = e;
      accounts_are = f;
      few_contracts = omega (arith, e, l.few_contracts);
      few_accounts = omega (arith, f, l.few_accounts);
      ends = rw (e, f) l.ends;
    }

module _ (bs : List ℕ) (c a : ℕ) (l : Laid bs c a) where
  holdings_place : 2 * count_width + saved_contract_width * c + saved_account_width * a ≡ saved_account_place (contracts_in bs) (saved_accounts_in bs)
  holdings_place = omega (arith, l.contracts_are, l.accounts_are)

  one_place : row_place (contracts_in bs) (saved_accounts_in bs) (saved_accounts_in bs) ≡ row_place c a a
  one_place = rw (l.contracts_are, l.accounts_are)

  product : saved_accounts_in bs * contracts_in bs ≡ a * c
  product = rw (l.contracts_are, l.accounts_are)

  abbrev holdings_right : Bool
  holdings_right = eqb (u32_at bs (saved_account_place (contracts_in bs) (saved_accounts_in bs))) (saved_accounts_in bs * contracts_in bs)

  module _ (n : ℕ) (e : n ≡ u32_at bs (2 * count_width + saved_contract_width * c + saved_account_width * a)) where
    read_there : u32_at bs (saved_account_place (contracts_in bs) (saved_accounts_in bs)) ≡ n
    read_there = ap (u32_at bs) (sym holdings_place) ∙ sym e

    pub holdings_wrong : (n ≡ a * c → ⊥) → false ≡ counts_right bs
    unfolding counts_right
    holdings_wrong d = sym (false_both holdings_right _ (ne_eqb _ _ (λ h. d (sym read_there ∙ h ∙ product))))

    pub one_decides : n ≡ a * c → (m : ℕ) → m ≡ u32_at bs (length bs - (count_width + settlements_width)) → eqb m 1 ≡ counts_right bs
    unfolding counts_right
    one_decides h m q =
        let p : length bs - (count_width + settlements_width) ≡ row_place c a a = omega (arith, l.ends) in
        let t : holdings_right ≡ true = eq-eqb _ _ (read_there ∙ h ∙ sym product) in
        ap (λ (k : ℕ). eqb k 1) (q ∙ ap (u32_at bs) (p ∙ sym one_place)) ∙ sym (ap (λ (b : Bool). b && eqb (u32_at bs (row_place (contracts_in bs) (saved_accounts_in bs) (saved_accounts_in bs))) 1) t)

  -- a mark stands eight bytes behind its account's first byte
  module _ (first i n : ℕ) (p : first ≡ 2 * count_width + balance_width + saved_contract_width * c) (e : n ≡ u8_at bs (first + saved_account_width * i)) where
    mark_there : n ≡ u8_at bs (saved_account_place (contracts_in bs) i + balance_width)
    mark_there = let q : first + saved_account_width * i ≡ saved_account_place (contracts_in bs) i + balance_width = omega (arith, l.contracts_are) in e ∙ ap (u8_at bs) q

    pub mark_wrong : 1 < n → mark_sound bs i ≡ false
    unfolding mark_sound
    mark_wrong h = rw (← mark_there) (lt-leb n 1 h)

    pub mark_right : n ≤ 1 → mark_sound bs i ≡ true
    unfolding mark_sound
    mark_right h = rw (← mark_there) (le-leb n 1 h)
