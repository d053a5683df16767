-- The state that a day file's run opens with is writable: nothing is held in it. Assumes nothing.
use mathlib.Core.Bool.{true}
use mathlib.Core.List.{List}
use mathlib.Core.Path.{◌≡◌, refl, ap₂, ◌∙◌}
use Prim.Native.Nat.{ℕ, zero, suc, ◌+◌}
use lib.ListN.{length, get_or}
use borrow.Author.Tests.{eq-eqb}
use Rattle.laws.specs.Choice.{all_true, all_of}
use Rattle.laws.specs.Sums.{sum_of}
use Rattle.laws.specs.Lists.{get_d_same}
use Rattle.laws.specs.Tabulate.{tabulate, all_of_table}
use Rattle.rules.specs.DayFile.{accounts_in, contract_from, contracts_in, opening, opening_account, opening_listing}
use Rattle.rules.specs.Exchange.{no_holding}
use Rattle.statefile.specs.StateFile.{all_equal, empty_pre_open, totals_equal, writable}

sum_table : {A : Type 0} (f g : A → ℕ) (n : ℕ) (h : ℕ → A) → ((i : ℕ) → f (h i) ≡ g (h i)) → sum_of f (tabulate n h) ≡ sum_of g (tabulate n h)
unfolding sum_of tabulate
sum_table f g zero h e = refl
sum_table f g (suc n) h e = ap₂ (λ (x y : ℕ). x + y) (e 0) (sum_table f g n (λ i. h (suc i)) (λ i. e (suc i)))

module _ (file : List ℕ) where
  as_many : (c i : ℕ) → (get_or (opening_account file i).holdings c no_holding).long ≡ (get_or (opening_account file i).holdings c no_holding).short
  unfolding opening_account
  as_many c i = rw (get_d_same (contracts_in file) c no_holding)

  equal_at : (c : ℕ) → totals_equal (opening file).accounts c ≡ true
  unfolding totals_equal opening
  equal_at c =
      eq-eqb _ _
      (sum_table (λ a. (get_or a.holdings c no_holding).long) (λ a. (get_or a.holdings c no_holding).short) (accounts_in file) (opening_account file) (as_many c))

  equal_all_lem : all_equal (opening file) ≡ true
  unfolding all_equal
  equal_all_lem = all_true (totals_equal (opening file).accounts) (length (opening file).listings) (λ c l. equal_at c)

  still : (c : ℕ) → empty_pre_open (opening_listing file c) ≡ true
  unfolding empty_pre_open opening_listing contract_from
  still c = refl

  empty_all : all_of empty_pre_open (opening file).listings ≡ true
  unfolding opening
  empty_all = all_of_table empty_pre_open (contracts_in file) (opening_listing file) ∙ all_true (λ c. empty_pre_open (opening_listing file c)) (contracts_in file) (λ c l. still c)

  fresh : (length (opening file).trades ≡ 0) × (((opening file).next ≡ 1) × ((opening file).nextstamp ≡ 1))
  unfolding opening
  fresh = (refl, (refl, refl))

  pub opening_writable : writable (opening file) ≡ true
  unfolding writable
  opening_writable = rw (empty_all, equal_all_lem, fresh.0, fresh.1.0, fresh.1.1)
