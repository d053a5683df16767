-- A holding's limit and cover, and a balance's bound, in the tests that code makes of them. Assumes nothing.
use lib.IntN.{ℤ, pos, negsuc, neg_ℤ, nat_abs, ◌-ℤ◌, +ℤ_idl}
use lib.Signed.{lt_z}
use mir.Facts.{to_z-of_z}
use mir.Syntax.{w64}
use mir.Val.{SFits, to_z, of_z}
use Rattle.laws.specs.Logic.{true, false, false≢true, ◌≡◌, sym, ap, ◌∙◌}
use Rattle.laws.specs.Numbers.{ℕ, zero, suc, ◌+◌, ◌-◌, ◌*◌, ◌^◌, ◌<◌, ◌≤◌, arith, leb-true, ltb-true, le-leb, lt-leb, leb}
use Rattle.laws.specs.Bound.{within_lt_z, within_fits, within_neg_pos, abs_within}
use Rattle.laws.specs.Choice.{same_test}
use Rattle.laws.proofs.Signed.{read_pos}
use Rattle.rules.specs.WellFormed.{balance_in_range}
use Rattle.rules.specs.declared.Account.{Account}

-- ---- lots

-- a holding above the limit leaves no room for opens
pub over_limit : (held limit more : ℕ) → limit < held → false ≡ leb (held + more) limit
over_limit held limit more h = sym (lt-leb (held + more) limit (omega arith))

-- what is left of the limit, against the opens
pub limit_left : (held limit : ℕ) {left more opens : ℕ} → held ≤ limit → left ≡ limit - held → opens ≡ more → leb opens left ≡ leb (held + more) limit
limit_left held limit {left} {more} {opens} h e k =
    same_test (leb opens left) (leb (held + more) limit)
    (λ t. le-leb (held + more) limit (omega (arith, leb-true opens left t)))
    (λ t. le-leb opens left (omega (arith, leb-true (held + more) limit t)))

-- ---- a balance z against a bound n, either sign

too_high : (n : ℕ) (z : ℤ) → lt_z (pos n) z ≡ true → leb (nat_abs z) n ≡ false
too_high n (pos k) t = lt-leb k n (ltb-true n k t)
too_high n (negsuc k) t = absurd (false≢true t)

too_low : (n : ℕ) (z : ℤ) → lt_z z (neg_ℤ (pos n)) ≡ true → leb (nat_abs z) n ≡ false
too_low zero (pos k) t = absurd (omega (arith, ltb-true k 0 t))
too_low (suc n) (pos k) t = absurd (false≢true t)
too_low zero (negsuc k) t = lt-leb (suc k) zero (omega arith)
too_low (suc n) (negsuc k) t = lt-leb (suc k) (suc n) (omega (arith, ltb-true n k t))

-- the bound as code makes it, of the settlements read as a wider number
module _ (s : ℕ) {w : ℕ} (e : w ≡ s) (few : s ≤ 250) (a : Account) (fits : SFits w64 a.balance) where
  abbrev most : ℕ
  most = 1_000_000_000_000_000_000 + w * 3_000_000_000_000_000

  abbrev low : ℤ
  low = pos 0 -ℤ to_z w64 most

  small : most < 2 ^ 63
  small = omega arith

  high_is : to_z w64 most ≡ pos most
  high_is = read_pos most small

  low_is : low ≡ neg_ℤ (pos most)
  low_is = ap (λ (z : ℤ). pos 0 -ℤ z) high_is ∙ +ℤ_idl (neg_ℤ (pos most))

  pub low_fits : SFits w64 low
  low_fits = rw low_is (within_fits most small (within_neg_pos {k = most} (omega arith)))

  low_back : to_z w64 (of_z w64 low) ≡ neg_ℤ (pos most)
  low_back = to_z-of_z {w = w64} low_fits ∙ low_is

  balance_back : to_z w64 (of_z w64 a.balance) ≡ a.balance
  balance_back = to_z-of_z {w = w64} fits

  rule : leb (nat_abs a.balance) most ≡ balance_in_range s a
  unfolding balance_in_range
  rule = rw e

  pub balance_high : lt_z (to_z w64 most) (to_z w64 (of_z w64 a.balance)) ≡ true → false ≡ balance_in_range s a
  balance_high t = sym (too_high most a.balance (rw (high_is, balance_back) at t)) ∙ rule

  pub balance_low : lt_z (to_z w64 (of_z w64 a.balance)) (to_z w64 (of_z w64 low)) ≡ true → false ≡ balance_in_range s a
  balance_low t = sym (too_low most a.balance (rw (low_back, balance_back) at t)) ∙ rule

  pub balance_within : lt_z (to_z w64 most) (to_z w64 (of_z w64 a.balance)) ≡ false → lt_z (to_z w64 (of_z w64 a.balance)) (to_z w64 (of_z w64 low)) ≡ false → true ≡ balance_in_range s a
  balance_within t u =
      sym (le-leb (nat_abs a.balance) most (abs_within a.balance (within_lt_z most a.balance (rw (high_is, balance_back) at t) (rw (low_back, balance_back) at u)))) ∙ rule
