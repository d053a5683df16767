-- Signed numbers and what eight bytes hold of them: written and read again. Assumes nothing.
use lib.IntN.{ℤ, pos, negsuc, nat_abs, suc_ℤ, neg_ℤ, ◌+ℤ◌, ◌-ℤ◌, +ℤ_one, +ℤ_idl}
use Rattle.laws.specs.Logic.{Bool, true, false, ◌≡◌, refl, true≢false, sym, ap, subst, ◌∙◌}
use Rattle.laws.specs.Numbers.{ℕ, ◌-◌, ◌<◌, ◌≤◌, arith, ltb-false, lt-ltb, le-ltb, ltb, zero, suc, ◌+◌, ◌^◌, not-suc-le-zero, add-one, ltb-true}
use Rattle.laws.specs.Choice.{pick}
use Rattle.endian.specs.Numbers.{eight_most, unsigned, sign_end, signed_of}
use lib.Dec.{T}
use lib.Signed.{lt_z, mag, non_neg}
use mir.Syntax.{w64}
use mir.Val.{SFits, to_z, of_z}
use mir.Facts.{to_z-of_z}
use Rattle.laws.specs.Bound.{within_pos}
use Rattle.laws.specs.Ring.{d_eq, ring}
use Rattle.laws.proofs.Signed.{difference_fits, read_pos}

-- ---- a negative i64 on the way to its magnitude: x + 1, and 0 less that, both of which fit

-- what the two steps leave of a negative x, and that each fits
pub record Steps (x : ℤ) : Type 0 where
  pub up : SFits w64 (x +ℤ pos 1)
  pub down : SFits w64 (pos 0 -ℤ (x +ℤ pos 1))
  pub some : T (non_neg (pos 0 -ℤ (x +ℤ pos 1)))
  pub less : nat_abs (pos 0 -ℤ (x +ℤ pos 1)) + 1 ≡ nat_abs x

one_up : (n : ℕ) → n < 2 ^ 63 → mag (suc_ℤ (negsuc n)) < 2 ^ 63
one_up zero l = l
one_up (suc n) l = omega arith

turned : (n : ℕ) → pos 0 -ℤ (negsuc n +ℤ pos 1) ≡ pos n
turned n = +ℤ_idl (neg_ℤ (negsuc n +ℤ pos 1)) ∙ ap neg_ℤ (+ℤ_one (negsuc n)) ∙ by_zero n
  where
    by_zero : (n : ℕ) → neg_ℤ (suc_ℤ (negsuc n)) ≡ pos n
    by_zero zero = refl
    by_zero (suc n) = refl

pub steps : (x : ℤ) → SFits w64 x → lt_z x (pos 0) ≡ true → Steps x
steps (pos n) f e = absurd (not-suc-le-zero (ltb-true n 0 e))
steps (negsuc n) f e =
    record {
      up = record { sfits = rw (+ℤ_one (negsuc n)) (one_up n f.sfits) };
      down = record { sfits = rw (turned n) f.sfits };
      some = subst (λ (z : ℤ). T (non_neg z)) (sym (turned n)) tt;
      less = ap (λ (z : ℤ). nat_abs z + 1) (turned n) ∙ add-one n;
    }

-- ---- what eight bytes hold of a signed number, from its magnitude

module _ (x : ℤ) (n : ℕ) (f : SFits w64 x) (e : n ≡ nat_abs x) where
  pub some_below : lt_z x (pos 0) ≡ true → (1 ≤ n) × (n ≤ 2 ^ 63)
  some_below t = by_sign x f e t
    where
      by_sign : (x : ℤ) → SFits w64 x → n ≡ nat_abs x → lt_z x (pos 0) ≡ true → (1 ≤ n) × (n ≤ 2 ^ 63)
      by_sign (pos k) f e t = absurd (not-suc-le-zero (ltb-true k 0 t))
      by_sign (negsuc k) f e t = (omega arith, omega (arith, f.sfits))

  pub unsigned_below : lt_z x (pos 0) ≡ true → eight_most - n + 1 ≡ unsigned x
  unfolding unsigned
  unsigned_below t = by_sign x f e t
    where
      by_sign : (x : ℤ) → SFits w64 x → n ≡ nat_abs x → lt_z x (pos 0) ≡ true → eight_most - n + 1 ≡ unsigned x
      by_sign (pos k) f e t = absurd (not-suc-le-zero (ltb-true k 0 t))
      by_sign (negsuc k) f e t = omega (arith, f.sfits)

  pub unsigned_above : lt_z x (pos 0) ≡ false → n ≡ unsigned x
  unfolding unsigned
  unsigned_above t = by_sign x e t
    where
      by_sign : (x : ℤ) → n ≡ nat_abs x → lt_z x (pos 0) ≡ false → n ≡ unsigned x
      by_sign (pos k) e t = e
      by_sign (negsuc k) e t = absurd (true≢false t)

-- ---- a signed number made of its eight bytes: from 2^63 on, 0 less what it is below 2^64 - 1, less 1

signed_low : (n : ℕ) → n < sign_end → signed_of n ≡ pos n
unfolding signed_of
signed_low n h = rw (lt-ltb n sign_end h)

signed_high : (n : ℕ) → sign_end ≤ n → signed_of n ≡ negsuc (eight_most - n)
unfolding signed_of
signed_high n h = rw (le-ltb n sign_end h)

pub as_it_is : (n : ℕ) → n < sign_end → to_z w64 n ≡ signed_of n
as_it_is n h = read_pos n (omega arith) ∙ sym (signed_low n h)

less_one : (k : ℕ) → pos 0 -ℤ pos k -ℤ pos 1 ≡ negsuc k
less_one k = simp ring (d_eq _ _ _ _ (omega arith))

module _ (n : ℕ) (h : sign_end ≤ n) where
  abbrev size : ℕ
  size = eight_most - n

  read_size : to_z w64 size ≡ pos size
  read_size = read_pos size (omega arith)

  opposite : SFits w64 (pos 0 -ℤ pos size)
  opposite = difference_fits {m = 0} {n = size} (within_pos {k = 0} {n = 0} (omega arith)) (within_pos {k = size} {n = size} (omega arith)) (omega arith)

  pub opposite_fits : SFits w64 (pos 0 -ℤ to_z w64 size)
  opposite_fits = rw read_size opposite

  read_opposite : to_z w64 (of_z w64 (pos 0 -ℤ to_z w64 size)) ≡ pos 0 -ℤ pos size
  read_opposite = rw read_size (to_z-of_z {w = w64} opposite)

  below : SFits w64 (negsuc size)
  below = record { sfits = omega arith }

  pub below_fits : SFits w64 (to_z w64 (of_z w64 (pos 0 -ℤ to_z w64 size)) -ℤ pos 1)
  below_fits = rw (read_opposite, less_one size) below

  pub below_is : to_z w64 (of_z w64 (to_z w64 (of_z w64 (pos 0 -ℤ to_z w64 size)) -ℤ pos 1)) ≡ signed_of n
  below_is =
      ap (λ (z : ℤ). to_z w64 (of_z w64 (z -ℤ pos 1))) read_opposite ∙ ap (λ (z : ℤ). to_z w64 (of_z w64 z)) (less_one size) ∙ to_z-of_z {w = w64} below
      ∙ sym (signed_high n h)

-- ---- what is written is read, and what is read is written

pub signed_back : (z : ℤ) → nat_abs z < sign_end → signed_of (unsigned z) ≡ z
unfolding signed_of unsigned
signed_back (pos n) h = rw (lt-ltb n sign_end h)
signed_back (negsuc n) h =
    let e : eight_most - (eight_most - n) ≡ n = omega arith in
    rw (le-ltb (eight_most - n) sign_end (omega arith), e)

pub signed_forth : (n : ℕ) → n ≤ eight_most → unsigned (signed_of n) ≡ n
unfolding signed_of unsigned
signed_forth n h = either_sign (ltb n sign_end) refl
  where
    either_sign : (t : Bool) → ltb n sign_end ≡ t → unsigned (pick t (pos n) (negsuc (eight_most - n))) ≡ n
    either_sign true e = refl
    either_sign false e = omega (arith, ltb-false n sign_end e)
