-- A contract's long and short lots added up, account by account, and a state's contracts found in pre-open without orders one by one. Assumes nothing.
use mathlib.Core.Bool.{Bool, true, false, ◌&&◌}
use mathlib.Core.List.{List}
use mathlib.Core.Path.{◌≡◌, refl, sym, ap, ap₂, ◌∙◌}
use Prim.Native.Nat.{ℕ, ◌+◌, ◌*◌, ◌≤◌, ◌<◌}
use native.Mathlib.Omega.{arith}
use lib.Dec.{eqb}
use lib.ListN.{length, get_or, take}
use Rattle.laws.specs.Numbers.{take_all}
use borrow.Author.Tests.{eq-eqb, ne_eqb}
use Rattle.laws.specs.Choice.{all, both_false, false_both}
use Rattle.laws.specs.Sums.{sum_of, sum_of_more}
use Rattle.rules.specs.Exchange.{no_account, no_contract, no_holding}
use Rattle.rules.specs.declared.Account.{Account}
use Rattle.rules.specs.declared.State.{State}
use Rattle.statefile.specs.StateFile.{totals_equal}
use Rattle.saving.specs.Parts.{empty_pre_open_at, state_writable}

module _ (list : List Account) (c : ℕ) where
  abbrev long_of : Account → ℕ
  long_of a = (get_or a.holdings c no_holding).long

  abbrev short_of : Account → ℕ
  short_of a = (get_or a.holdings c no_holding).short

  -- the first a accounts are added up
  pub record Adding (long short a : ℕ) : Type 0 where
    pub long_is : long ≡ sum_of long_of (take a list)
    pub short_is : short ≡ sum_of short_of (take a list)
    pub long_small : long ≤ 4_294_967_295 * a
    pub short_small : short ≤ 4_294_967_295 * a

  pub adding_none : Adding 0 0 0
  unfolding sum_of
  adding_none = record { long_is = refl; short_is = refl; long_small = omega arith; short_small = omega arith }

  pub adding_more : {long short a x y : ℕ} → a < length list → Adding long short a
      → x ≡ long_of (get_or list a no_account) → y ≡ short_of (get_or list a no_account) → x ≤ 4_294_967_295 → y ≤ 4_294_967_295
      → Adding (long + x) (short + y) (a + 1)
  adding_more {a = a} l s e f p q =
      record {
        long_is = ap₂ (λ (u v : ℕ). u + v) s.long_is e ∙ sym (sum_of_more long_of list a no_account l);
        short_is = ap₂ (λ (u v : ℕ). u + v) s.short_is f ∙ sym (sum_of_more short_of list a no_account l);
        long_small = omega (arith, s.long_small);
        short_small = omega (arith, s.short_small);
      }

  pub adding_done : {long short a : ℕ} → length list ≤ a → Adding long short a → eqb long short ≡ totals_equal list c
  unfolding totals_equal
  adding_done {a = a} h s =
      let e : take a list ≡ list = take_all a list h in
      ap₂ eqb (s.long_is ∙ ap (sum_of long_of) e) (s.short_is ∙ ap (sum_of short_of) e)

-- ---- a contract in pre-open without orders

module _ (s : State) (c : ℕ) where
  abbrev phase : ℕ
  phase = (get_or s.contracts c no_contract).phase

  abbrev buys : ℕ
  buys = get_or s.buycounts c 0

  abbrev sells : ℕ
  sells = get_or s.sellcounts c 0

  pub not_pre_open : (phase ≡ 0 → ⊥) → empty_pre_open_at s c ≡ false
  not_pre_open d = false_both (eqb phase 0 && eqb buys 0) (eqb sells 0) (false_both (eqb phase 0) (eqb buys 0) (ne_eqb phase 0 d))

  pub some_buys : (buys ≡ 0 → ⊥) → empty_pre_open_at s c ≡ false
  some_buys d = false_both (eqb phase 0 && eqb buys 0) (eqb sells 0) (both_false (eqb phase 0) (eqb buys 0) (ne_eqb buys 0 d))

  pub some_sells : (sells ≡ 0 → ⊥) → empty_pre_open_at s c ≡ false
  some_sells d = both_false (eqb phase 0 && eqb buys 0) (eqb sells 0) (ne_eqb sells 0 d)

  pub is_empty : phase ≡ 0 → buys ≡ 0 → sells ≡ 0 → empty_pre_open_at s c ≡ true
  is_empty e f g = rw (eq-eqb phase 0 e, eq-eqb buys 0 f, eq-eqb sells 0 g)

-- ---- a state that may be written

module _ (s : State) where
  abbrev all_empty : Bool
  all_empty = all (empty_pre_open_at s) s.contractcount

  abbrev equal_all : Bool
  equal_all = all (totals_equal (take s.accountcount s.accounts)) s.contractcount

  pub not_empty : all_empty ≡ false → false ≡ state_writable s
  unfolding state_writable
  not_empty h = rw h

  pub not_equal : equal_all ≡ false → false ≡ state_writable s
  unfolding state_writable
  not_equal h =
      sym (false_both (all_empty && equal_all && eqb s.tradecount 0 && eqb s.next 1) (eqb s.nextstamp 1)
      (false_both (all_empty && equal_all && eqb s.tradecount 0) (eqb s.next 1)
      (false_both (all_empty && equal_all) (eqb s.tradecount 0) (both_false all_empty equal_all h))))

  module _ (e : all_empty ≡ true) (f : equal_all ≡ true) where
    pub some_trades : (s.tradecount ≡ 0 → ⊥) → false ≡ state_writable s
    unfolding state_writable
    some_trades d = rw (e, f, ne_eqb s.tradecount 0 d)

    module _ (g : s.tradecount ≡ 0) where
      pub next_given : (s.next ≡ 1 → ⊥) → false ≡ state_writable s
      unfolding state_writable
      next_given d = rw (e, f, eq-eqb s.tradecount 0 g, ne_eqb s.next 1 d)

      pub stamp_decides : s.next ≡ 1 → eqb s.nextstamp 1 ≡ state_writable s
      unfolding state_writable
      stamp_decides h = rw (e, f, eq-eqb s.tradecount 0 g, eq-eqb s.next 1 h)
