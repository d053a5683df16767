-- The text of a number written: its digits, and its sign. Assumes nothing.
use lib.IntN.{ℤ, pos, negsuc, nat_abs}
use lib.Signed.{lt_z}
use Rattle.laws.specs.Logic.{true, false, true≢false, List, [], ◌∷◌, ◌++◌, ◌≡◌, refl}
use Rattle.laws.specs.Numbers.{ℕ, zero, suc, ◌+◌, ◌-◌, ◌/◌, ◌%◌, ◌<◌, ◌≤◌, not-suc-le-zero, arith, ltb-true, lt-ltb, le-ltb, ltb, length}
use Rattle.laws.specs.Choice.{pick}
use Rattle.endian.specs.Written.{Written}
use Rattle.endian.proofs.Writes.{looser, no_byte, then}
use Rattle.rules.specs.Lines.{digits, decimal, signed}

-- ---- digits

pub least : (k : ℕ) → (k ≡ 0 → ⊥) → 1 ≤ k
least zero f = absurd (f refl)
least (suc k) f = omega arith

-- the definition at a number of places that is not 0
step : (places n : ℕ) → (places ≡ 0 → ⊥) → digits places n ≡ pick (ltb n 10) ((48 + n) ∷ []) (digits (places - 1) (n / 10) ++ ((48 + n % 10) ∷ []))
unfolding digits
step zero n f = absurd (f refl)
step (suc k) n f = let e : suc k - 1 ≡ k = omega arith in rw e

module _ {before : List ℕ} {at : ℕ} (places n : ℕ) where
  pub digits_none : places ≡ 0 → at ≤ length before → Written places before at (digits places n) before at
  unfolding digits
  digits_none e room = rw e (no_byte before at room)

  module _ {after : List ℕ} {next : ℕ} (some : places ≡ 0 → ⊥) where
    pub digits_one : n < 10 → Written 1 before at ((48 + n) ∷ []) after next → Written places before at (digits places n) after next
    digits_one h w = rw (step places n some, lt-ltb n 10 h) (looser w places (least places some))

    pub digits_more : {middle : List ℕ} {j : ℕ} → 10 ≤ n → Written (places - 1) before at (digits (places - 1) (n / 10)) middle j
        → Written 1 middle j ((48 + n % 10) ∷ []) after next → Written places before at (digits places n) after next
    digits_more h w v = rw (
      step places n some,
      le-ltb n 10 h,
    ) (looser (then w v) places (let l = least places some in omega arith))

-- ---- a signed number

module _ {before after : List ℕ} {at next : ℕ} (x : ℤ) (n : ℕ) (size : n ≡ nat_abs x) where
  pub signed_below : lt_z x (pos 0) ≡ true → Written 21 before at (45 ∷ decimal n) after next → Written 21 before at (signed x) after next
  unfolding signed
  signed_below below w = by_sign x below size
    where
      by_sign : (x : ℤ) → lt_z x (pos 0) ≡ true → n ≡ nat_abs x → Written 21 before at (signed x) after next
      by_sign (pos k) t e = absurd (not-suc-le-zero (ltb-true k 0 t))
      by_sign (negsuc k) t e = rw (← e) w

  pub signed_above : lt_z x (pos 0) ≡ false → Written 20 before at (decimal n) after next → Written 21 before at (signed x) after next
  unfolding signed
  signed_above above w = by_sign x above size
    where
      by_sign : (x : ℤ) → lt_z x (pos 0) ≡ false → n ≡ nat_abs x → Written 21 before at (signed x) after next
      by_sign (pos k) t e = rw (← e) (looser w 21 (omega arith))
      by_sign (negsuc k) t e = absurd (true≢false t)
