-- Little-endian numbers written and read, over their width. Assumes nothing.
use Rattle.laws.specs.Logic.{List, [], ◌∷◌, ◌++◌, ◌≡◌, sym, ap, ◌∙◌}
use Rattle.laws.specs.Numbers.{ℕ, suc, ◌+◌, ◌*◌, ◌/◌, ◌%◌, ◌<◌, ◌≤◌, add-zero, add_assoc, add-one, arith, length, get_or, take, drop, take-add, drop_at}
use Rattle.laws.specs.Numbers.{drop-cons, drop-drop, get_or-drop}
use Rattle.rules.specs.DayFile.{u8_at, u16_at, u32_at, u64_at}
use Rattle.endian.specs.Numbers.{two, four, eight, eight_most}

-- each is a byte, as a u8 is
pub record Bytes (xs : List ℕ) : Type 0 where
  pub below : (i : ℕ) → get_or xs i 0 < 256

pub bytes_drop : (n : ℕ) (xs : List ℕ) → Bytes xs → Bytes (drop n xs)
bytes_drop n xs b = record { below = λ i. rw (get_or-drop n xs i 0) (b.below (n + i)) }

-- two parts of a list that meet are one
pub parts : (at m n : ℕ) (xs : List ℕ) → take m (drop at xs) ++ take n (drop (at + m) xs) ≡ take (m + n) (drop at xs)
parts at m n xs = sym (take-add m n (drop at xs) ∙ ap (λ (l : List ℕ). take m (drop at xs) ++ take n l) (drop-drop m at xs))

-- ---- a number stands at a place as at the front of what begins there

module _ (xs : List ℕ) (n : ℕ) where
  pub u8_drop : (at : ℕ) → u8_at (drop n xs) at ≡ u8_at xs (n + at)
  unfolding u8_at
  u8_drop at = get_or-drop n xs at 0

  pub u16_drop : (at : ℕ) → u16_at (drop n xs) at ≡ u16_at xs (n + at)
  unfolding u16_at u8_at
  u16_drop at = rw (get_or-drop n xs at 0, get_or-drop n xs (at + 1) 0, add_assoc n at 1)

  pub u32_drop : (at : ℕ) → u32_at (drop n xs) at ≡ u32_at xs (n + at)
  unfolding u32_at
  u32_drop at = rw (u16_drop at, u16_drop (at + 2), add_assoc n at 2)

  pub u64_drop : (at : ℕ) → u64_at (drop n xs) at ≡ u64_at xs (n + at)
  unfolding u64_at
  u64_drop at = rw (u32_drop at, u32_drop (at + 4), add_assoc n at 4)

-- ---- what is written is read

value_2 : (n : ℕ) → n % 256 + 256 * (n / 256) ≡ n
value_2 n = omega arith

value_4 : (n : ℕ) → n % 65_536 + 65_536 * (n / 65_536) ≡ n
value_4 n = omega arith

value_8 : (n : ℕ) → n % 4_294_967_296 + 4_294_967_296 * (n / 4_294_967_296) ≡ n
value_8 n = omega arith

pub two_back : (n : ℕ) (ys : List ℕ) → u16_at (two n ++ ys) 0 ≡ n
unfolding two u16_at u8_at
two_back n ys = value_2 n

pub four_back : (n : ℕ) (ys : List ℕ) → u32_at (four n ++ ys) 0 ≡ n
unfolding four two u32_at u16_at u8_at
four_back n ys = rw (value_2 (n % 65_536), value_2 (n / 65_536)) (value_4 n)

pub eight_back : (n : ℕ) (ys : List ℕ) → u64_at (eight n ++ ys) 0 ≡ n
unfolding eight four two u64_at u32_at u16_at u8_at
eight_back n ys = rw (four_back (n % 4_294_967_296) [], four_back (n / 4_294_967_296) []) (value_8 n)

-- a number behind what begins a file
pub four_behind : (p : List ℕ) (n : ℕ) (ys : List ℕ) (at : ℕ) → length p ≡ at → u32_at (p ++ (four n ++ ys)) at ≡ n
four_behind p n ys at e =
    ap (u32_at (p ++ (four n ++ ys))) (sym (add-zero at)) ∙ sym (u32_drop (p ++ (four n ++ ys)) at 0)
    ∙ rw (drop_at p (four n ++ ys) at e) (four_back n ys)

-- ---- what is read is written

pub one_forth : (xs : List ℕ) (at : ℕ) → at + 1 ≤ length xs → u8_at xs at ∷ [] ≡ take 1 (drop at xs)
unfolding u8_at
one_forth xs at h = rw (drop-cons xs at 0 (omega arith))

module _ (xs : List ℕ) (b : Bytes xs) where
  below_2 : (at : ℕ) → u16_at xs at < 65_536
  unfolding u16_at u8_at
  below_2 at = omega (arith, b.below at, b.below (at + 1))

  below_4 : (at : ℕ) → u32_at xs at < 4_294_967_296
  unfolding u32_at
  below_4 at = omega (arith, below_2 at, below_2 (at + 2))

  pub two_forth : (at : ℕ) → at + 2 ≤ length xs → two (u16_at xs at) ≡ take 2 (drop at xs)
  unfolding two u16_at u8_at
  two_forth at h =
      let low : (get_or xs at 0 + 256 * get_or xs (at + 1) 0) % 256 ≡ get_or xs at 0 = omega (arith, b.below at) in
      let high : (get_or xs at 0 + 256 * get_or xs (at + 1) 0) / 256 ≡ get_or xs (at + 1) 0 = omega (arith, b.below at) in
      rw (low, high, drop-cons xs at 0 (omega arith), drop-cons xs (suc at) 0 (omega arith), add-one at)

  pub four_forth : (at : ℕ) → at + 4 ≤ length xs → four (u32_at xs at) ≡ take 4 (drop at xs)
  unfolding four u32_at
  four_forth at h =
      let low : (u16_at xs at + 65_536 * u16_at xs (at + 2)) % 65_536 ≡ u16_at xs at = omega (arith, below_2 at) in
      let high : (u16_at xs at + 65_536 * u16_at xs (at + 2)) / 65_536 ≡ u16_at xs (at + 2) = omega (arith, below_2 at) in
      rw (low, high, two_forth at (omega arith), two_forth (at + 2) (omega arith)) (parts at 2 2 xs)

  pub eight_forth : (at : ℕ) → at + 8 ≤ length xs → eight (u64_at xs at) ≡ take 8 (drop at xs)
  unfolding eight u64_at
  eight_forth at h =
      let low : (u32_at xs at + 4_294_967_296 * u32_at xs (at + 4)) % 4_294_967_296 ≡ u32_at xs at = omega (arith, below_4 at) in
      let high : (u32_at xs at + 4_294_967_296 * u32_at xs (at + 4)) / 4_294_967_296 ≡ u32_at xs (at + 4) = omega (arith, below_4 at) in
      rw (low, high, four_forth at (omega arith), four_forth (at + 4) (omega arith)) (parts at 4 4 xs)

  pub below_8 : (at : ℕ) → u64_at xs at ≤ eight_most
  unfolding u64_at
  below_8 at = omega (arith, below_4 at, below_4 (at + 4))
