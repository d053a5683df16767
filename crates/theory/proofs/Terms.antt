-- What a passed test of a range, of a tick multiple and of a contract's terms says, and back. Assumes nothing.
use Rattle.laws.specs.Logic.{Bool, true, false, ◌&&◌, List, [], ◌∷◌, ◌≡◌, refl}
use Rattle.laws.specs.Numbers.{ℕ, ◌<◌, ◌≤◌, leb-true, le-leb, lt-leb, leb}
use Rattle.laws.specs.Chains.{all_passed, join}
use Rattle.laws.specs.Choice.{both_true, true_both, both_false, false_both}
use Rattle.rules.specs.Bounds.{within, on_tick, tick_multiple, terms_in_range, max_price, max_method, max_multiplier, max_tick, max_limit, max_rate, phase_known}
use Rattle.rules.specs.WellFormed.{contract_in_range}
use Rattle.rules.specs.declared.Contract.{Contract}

module _ (low high n : ℕ) where
  pub within_low : within low high n ≡ true → low ≤ n
  within_low h = leb-true low n (both_true (leb low n) (leb n high) h).0

  pub within_high : within low high n ≡ true → n ≤ high
  within_high h = leb-true n high (both_true (leb low n) (leb n high) h).1

  pub within_test : low ≤ n → n ≤ high → within low high n ≡ true
  within_test h k = true_both (leb low n) (leb n high) (le-leb low n h) (le-leb n high k)

  pub within_below : n < low → within low high n ≡ false
  within_below h = false_both (leb low n) (leb n high) (lt-leb low n h)

  pub within_above : high < n → within low high n ≡ false
  within_above h = both_false (leb low n) (leb n high) (lt-leb n high h)

-- ---- a tick multiple from one tick on

pub record Multiple (tick n : ℕ) : Type 0 where
  pub on_tick_lem : on_tick tick n ≡ true
  pub low : tick ≤ n
  pub high : n ≤ max_price

module _ (tick n : ℕ) where
  pub multiple : tick_multiple tick n ≡ true → Multiple tick n
  unfolding tick_multiple
  multiple h =
      let p = both_true (on_tick tick n) (within tick max_price n) h in
      record { on_tick_lem = p.0; low = within_low tick max_price n p.1; high = within_high tick max_price n p.1 }

  pub multiple_test : Multiple tick n → tick_multiple tick n ≡ true
  unfolding tick_multiple
  multiple_test k = true_both (on_tick tick n) (within tick max_price n) k.on_tick_lem (within_test tick max_price n k.low k.high)

-- ---- a contract's terms

and_true_lem : (b : Bool) → (b && true) ≡ b
and_true_lem true = refl
and_true_lem false = refl

-- "every file sound until now": with a method of 0 the terms are in range where document 01 has them so
pub zero_in_range : (c : Contract) → c.method ≡ 0 → terms_in_range c
    ≡ (within 1 max_multiplier c.multiplier && within 1 max_tick c.tick && tick_multiple c.tick c.reference && tick_multiple c.tick c.band && within 1 max_limit c.limit && within 1 max_rate c.rate)
unfolding terms_in_range
zero_in_range c e = rw e (and_true_lem _)

pub record Terms (c : Contract) : Type 0 where
  pub multiplier_low : 1 ≤ c.multiplier
  pub multiplier_high : c.multiplier ≤ max_multiplier
  pub tick_low : 1 ≤ c.tick
  pub tick_high : c.tick ≤ max_tick
  pub reference : Multiple c.tick c.reference
  pub band : Multiple c.tick c.band
  pub limit_low : 1 ≤ c.limit
  pub limit_high : c.limit ≤ max_limit
  pub rate_low : 1 ≤ c.rate
  pub rate_high : c.rate ≤ max_rate
  pub method_high : c.method ≤ max_method

module _ (c : Contract) where
  abbrev term_tests : List Bool
  term_tests =
      within 1 max_tick c.tick
      ∷ tick_multiple c.tick c.reference
      ∷ tick_multiple c.tick c.band
      ∷ within 1 max_limit c.limit
      ∷ within 1 max_rate c.rate
      ∷ leb c.method max_method
      ∷ []

  pub terms : terms_in_range c ≡ true → Terms c
  unfolding terms_in_range
  terms h =
      let p = all_passed (within 1 1_000 c.multiplier) term_tests h in
      search (within_low, within_high, multiple, leb-true) depth 12

  pub terms_test : Terms c → terms_in_range c ≡ true
  unfolding terms_in_range
  terms_test t =
      join (within 1 max_multiplier c.multiplier) term_tests (
        within_test 1 max_multiplier c.multiplier t.multiplier_low t.multiplier_high,
        (
          within_test 1 max_tick c.tick t.tick_low t.tick_high,
          (
            multiple_test c.tick c.reference t.reference,
            (
              multiple_test c.tick c.band t.band,
              (
                within_test 1 max_limit c.limit t.limit_low t.limit_high,
                (within_test 1 max_rate c.rate t.rate_low t.rate_high, le-leb c.method max_method t.method_high),
              ),
            ),
          ),
        ),
      )

  -- a contract of a well-formed state has its terms in range
  pub terms_passed : contract_in_range c ≡ true → terms_in_range c ≡ true
  unfolding contract_in_range
  terms_passed h = (all_passed (terms_in_range c) (phase_known c.phase ∷ tick_multiple c.tick c.last ∷ []) h).0

  pub contract_terms : contract_in_range c ≡ true → Terms c
  contract_terms h = terms (terms_passed h)
