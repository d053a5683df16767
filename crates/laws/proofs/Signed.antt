-- i64 in code. A proof meets each signed number as its bits read back, `to_z w64 (of_z w64 z)`, and owes that each sum, difference
-- and product fits; these laws take the bits away and show the fit, from bounds `Within`. Of a parameter or a call's result
-- `c.fits.x` or `record { sfits = c.f.ok }` is enough: cite `to_z-of_z` of `mir.Facts` with it. Assumes nothing.
use mathlib.Core.Bool.{false}
use mathlib.Core.Path.{◌≡◌, subst}
use Prim.Native.Nat.{ℕ, ◌+◌, ◌*◌, ◌<◌, ◌≤◌, ◌^◌}
use native.Mathlib.Nat.{mul-le-mul_left}
use native.Mathlib.Omega.{arith}
use lib.Dec.{T}
use lib.IntN.{ℤ, pos, negsuc, ◌+ℤ◌, ◌-ℤ◌, ◌*ℤ◌}
use lib.Signed.{lt_z, non_neg}
use mir.Syntax.{w64}
use mir.Val.{SFits, to_z, of_z}
use mir.Facts.{to_z-of_z, to_z_pos}
use Rattle.laws.specs.Bound.{Within, within_fits, within_le, within_add, within_sub, within_times}

-- a number within the range, read back from its bits
pub back : {z : ℤ} (n : ℕ) → n < 2 ^ 63 → Within n z → to_z w64 (of_z w64 z) ≡ z
back n h w = to_z-of_z {w = w64} (within_fits n h w)

-- an unsigned number that is small enough, read as signed: what `x as i64` is
pub read_pos : (n : ℕ) → n < 2 ^ 63 → to_z w64 n ≡ pos n
read_pos n h = to_z_pos w64 h

-- ---- sums and differences of two numbers whose bounds add up to less than 2 ^ 63

module _ {x y : ℤ} {m n : ℕ} (h : Within m x) (k : Within n y) (room : m + n < 2 ^ 63) where
  pub sum_fits : SFits w64 (x +ℤ y)
  sum_fits = within_fits (m + n) room (within_add h k)

  pub difference_fits : SFits w64 (x -ℤ y)
  difference_fits = within_fits (m + n) room (within_sub h k)

  back_left : to_z w64 (of_z w64 x) ≡ x
  back_left = back m (omega arith) h

  back_right : to_z w64 (of_z w64 y) ≡ y
  back_right = back n (omega arith) k

  -- as code adds and subtracts them; `x as i64` of an unsigned x is the case `pos x`
  pub add_fits : SFits w64 (to_z w64 (of_z w64 x) +ℤ to_z w64 (of_z w64 y))
  add_fits = rw (back_left, back_right) sum_fits

  pub add_back : to_z w64 (of_z w64 (to_z w64 (of_z w64 x) +ℤ to_z w64 (of_z w64 y))) ≡ x +ℤ y
  add_back = rw (back_left, back_right) (to_z-of_z {w = w64} sum_fits)

  pub sub_fits : SFits w64 (to_z w64 (of_z w64 x) -ℤ to_z w64 (of_z w64 y))
  sub_fits = rw (back_left, back_right) difference_fits

  pub sub_back : to_z w64 (of_z w64 (to_z w64 (of_z w64 x) -ℤ to_z w64 (of_z w64 y))) ≡ x -ℤ y
  sub_back = rw (back_left, back_right) (to_z-of_z {w = w64} difference_fits)

-- a running total: a loop's invariant has a signed local as its bits t, so it states `to_z w64 t`
module _ {y : ℤ} {m n : ℕ} (t : ℕ) (h : Within m (to_z w64 t)) (k : Within n y) (room : m + n < 2 ^ 63) where
  pub total_fits : SFits w64 (to_z w64 t +ℤ to_z w64 (of_z w64 y))
  total_fits = rw (back n (omega arith) k) (sum_fits h k room)

  pub total_back : to_z w64 (of_z w64 (to_z w64 t +ℤ to_z w64 (of_z w64 y))) ≡ to_z w64 t +ℤ y
  total_back = rw (back n (omega arith) k) (to_z-of_z {w = w64} (sum_fits h k room))

-- ---- a product with a number that is never negative

module _ {x : ℤ} {m n : ℕ} (k : ℕ) (h : Within m x) (few : k ≤ n) (small : m + n < 2 ^ 63) (room : m * n < 2 ^ 63) where
  product_fits : SFits w64 (x *ℤ pos k)
  product_fits = within_fits (m * n) room (within_le (mul-le-mul_left m few) (within_times k h))

  pub mul_fits : SFits w64 (to_z w64 (of_z w64 x) *ℤ to_z w64 k)
  mul_fits = rw (back m (omega arith) h, read_pos k (omega arith)) product_fits

  pub mul_back : to_z w64 (of_z w64 (to_z w64 (of_z w64 x) *ℤ to_z w64 k)) ≡ x *ℤ pos k
  mul_back = rw (back m (omega arith) h, read_pos k (omega arith)) (to_z-of_z {w = w64} product_fits)

-- ---- tests of two numbers in the range

pub non_neg_lt_z : (z : ℤ) → lt_z z (pos 0) ≡ false → T (non_neg z)
non_neg_lt_z (pos n) e = tt
non_neg_lt_z (negsuc n) e = subst T e tt
