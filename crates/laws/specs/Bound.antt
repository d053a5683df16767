-- Bounds of integers, as two facts of naturals that `omega` reads, and the range of an i64. Assumes nothing.
use Rattle.std.specs.Prelude.{true, false, ◌≡◌, ℕ, zero, suc, ◌+◌, ◌*◌, ◌<◌, ◌≤◌, ◌^◌, ℤ, pos, negsuc, neg_ℤ, nat_abs, ◌+ℤ◌, ◌-ℤ◌, ◌*ℤ◌}
use Rattle.std.proofs.Common.{true≢false, mul-le-mul_right, le_refl, arith, leb-true, ltb-false, SFits}
use Rattle.std.proofs.lemmas.Bool.{false≢true}
use Rattle.std.specs.Int.Signed.{mag, le_z, lt_z}
use Rattle.std.specs.Int.{w64}
use Rattle.laws.specs.Ring.{d, pos_part, neg_part, split, d_add, d_neg, d_mul, pos_d, neg_pos_d, pos_part_d, neg_part_d, pos_part_pos, neg_part_pos}

-- −n ≤ z ≤ n
pub record Within (n : ℕ) (z : ℤ) : Type 0 where
  pub up : pos_part z ≤ n
  pub down : neg_part z ≤ n

-- ---- what keeps a bound

pub within_le : {z : ℤ} {m n : ℕ} → m ≤ n → Within m z → Within n z
within_le h w = record { up = (let q = w.up in omega arith); down = (let q = w.down in omega arith) }

pub within_d : {n a b : ℕ} → a ≤ n → b ≤ n → Within n (d a b)
within_d {n} {a} {b} h k = record { up = omega (arith, pos_part_d a b); down = omega (arith, neg_part_d a b) }

pub within_pos : {k n : ℕ} → k ≤ n → Within n (pos k)
within_pos {k} h = record { up = omega (arith, pos_part_pos k); down = omega (arith, neg_part_pos k) }

pub within_zero : Within 0 (pos 0)
within_zero = within_pos (le_refl 0)

pub within_neg : {n : ℕ} {z : ℤ} → Within n z → Within n (neg_ℤ z)
within_neg {n} {z} w = rw (split z, d_neg) (within_d w.down w.up)

pub within_neg_pos : {k n : ℕ} → k ≤ n → Within n (neg_ℤ (pos k))
within_neg_pos h = within_neg (within_pos h)

pub within_add : {x y : ℤ} {m n : ℕ} → Within m x → Within n y → Within (m + n) (x +ℤ y)
within_add {x} {y} {m} {n} h k =
    let u = h.up in
    let v = h.down in
    rw (split x, split y, d_add) (within_d (omega (arith, k.up)) (omega (arith, k.down)))

pub within_sub : {x y : ℤ} {m n : ℕ} → Within m x → Within n y → Within (m + n) (x -ℤ y)
within_sub h k = within_add h (within_neg k)

-- the difference of two naturals is no further from 0 than the larger
pub within_diff : {n a b : ℕ} → a ≤ n → b ≤ n → Within n (pos a -ℤ pos b)
within_diff {n} {a} {b} h k = rw (neg_pos_d b, pos_d a, d_add) (within_d (omega arith) (omega arith))

pub within_times : {n : ℕ} {z : ℤ} (k : ℕ) → Within n z → Within (n * k) (z *ℤ pos k)
within_times {n} {z} k w =
    rw (split z, pos_d k, d_mul)
    (within_d (omega (arith, mul-le-mul_right k w.up)) (omega (arith, mul-le-mul_right k w.down)))

-- ---- the other measures of size: `nat_abs`, and `mag`, which is one less below zero

pub within_abs : (z : ℤ) (n : ℕ) → nat_abs z ≤ n → Within n z
unfolding pos_part neg_part
within_abs (pos k) n h = record { up = h; down = omega arith }
within_abs (negsuc k) n h = record { up = omega arith; down = h }

pub abs_within : {n : ℕ} (z : ℤ) → Within n z → nat_abs z ≤ n
unfolding pos_part neg_part
abs_within (pos k) w = w.up
abs_within (negsuc k) w = w.down

pub within_mag : (z : ℤ) (n : ℕ) → mag z < n → Within n z
unfolding pos_part neg_part
within_mag (pos k) n h = record { up = omega arith; down = omega arith }
within_mag (negsuc k) n h = record { up = omega arith; down = h }

pub mag_within : {n : ℕ} (z : ℤ) → Within n z → mag z ≤ n
unfolding pos_part neg_part
mag_within (pos k) w = w.up
mag_within (negsuc k) w = omega (arith, w.down)

-- ---- a bound from two tests: as `k < z` and `z < -k` failed, or as `z <= k` and `-k <= z` passed

pub within_lt_z : (k : ℕ) (z : ℤ) → lt_z (pos k) z ≡ false → lt_z z (neg_ℤ (pos k)) ≡ false → Within k z
within_lt_z k (pos n) p q = within_pos (ltb-false k n p)
within_lt_z zero (negsuc n) p q = absurd (true≢false q)
within_lt_z (suc k) (negsuc n) p q = within_abs (negsuc n) (suc k) (omega (arith, ltb-false k n q))

pub within_le_z : (k : ℕ) (z : ℤ) → le_z z (pos k) ≡ true → le_z (neg_ℤ (pos k)) z ≡ true → Within k z
within_le_z k (pos n) p q = within_pos (leb-true n k p)
within_le_z zero (negsuc n) p q = absurd (false≢true q)
within_le_z (suc k) (negsuc n) p q = within_abs (negsuc n) (suc k) (omega (arith, leb-true n k q))

-- ---- the range of an i64

pub within_fits : {z : ℤ} (n : ℕ) → n < 2 ^ 63 → Within n z → SFits w64 z
within_fits {z} n h w = record { sfits = omega (arith, mag_within z w) }

pub fits_within : {z : ℤ} → SFits w64 z → Within (2 ^ 63) z
fits_within {z} f = within_mag z (2 ^ 63) f.sfits
