-- Writing one thing after the other: numbers, and parts of a file. Assumes nothing.
use Rattle.laws.specs.Logic.{List, [], ◌∷◌, ◌++◌, ◌≡◌, refl, sym, ap, ◌∙◌}
use Rattle.laws.specs.Numbers.{ℕ, ◌+◌, ◌-◌, ◌/◌, ◌%◌, ◌<◌, ◌≤◌, le_refl, arith, length, set, take, drop, length-append, length-drop, length-take-le, add-one, get_or, take-suc, get_or-drop}
use Rattle.areas.specs.Lists.{over}
use Rattle.areas.proofs.Moves.{lent_over}
use borrow.Rule.Slice.PartMut.{put_mid}
use Rattle.std.specs.Int.{w16, w32, w64, to_le_bytes}
use Rattle.areas.proofs.Lists.{length_over, over_nil, over_append, set_over}
use Rattle.endian.specs.Numbers.{two, four, eight}
use Rattle.endian.specs.Written.{Written}

-- ---- one thing after the other

-- from the two equations, a bound on the bytes, and room for them
pub written_from : {before bytes after : List ℕ} (most at next : ℕ) → after ≡ over before at bytes → next ≡ at + length bytes
    → length bytes ≤ most → at + length bytes ≤ length before → Written most before at bytes after next
written_from {before} {bytes} most at next e n s room =
    record { content = e; ends = n; short = s; kept = ap length e ∙ length_over before at bytes room; inside = omega arith }

-- one byte, and none
pub one_byte : (before : List ℕ) (at byte : ℕ) → at + 1 ≤ length before → Written 1 before at (byte ∷ []) (set before at byte) (at + 1)
one_byte before at byte room = written_from 1 at (at + 1) (set_over before at byte (omega arith)) refl (le_refl 1) room

pub no_byte : (before : List ℕ) (at : ℕ) → at ≤ length before → Written 0 before at [] before at
no_byte before at room = written_from 0 at at (sym (over_nil before at)) (omega arith) (le_refl 0) (omega arith)

-- n bytes copied over a part
pub copied : (before bytes part : List ℕ) (at n : ℕ) → at + n ≤ length before → length bytes ≡ n → part ≡ bytes
    → Written n before at bytes (put_mid at (at + n - at) before part) (at + n)
copied before bytes part at n room l q =
    written_from n at (at + n) (rw q (lent_over before bytes at (at + n) (omega arith) (omega arith))) (omega arith) (omega arith) (omega arith)

module _ {before after bytes : List ℕ} {most at next : ℕ} (w : Written most before at bytes after next) where
  -- a looser bound
  pub looser : (more : ℕ) → most ≤ more → Written more before at bytes after next
  looser more h =
      let s = w.short in
      record { content = w.content; ends = w.ends; short = omega arith; kept = w.kept; inside = w.inside }

  -- one thing after the other
  pub then : {end more : ℕ} {last others : List ℕ} → Written more after next others last end
      → Written (most + more) before at (bytes ++ others) last end
  then {end} {more} {last} {others} v =
      let e = w.ends in
      let i = w.inside in
      let l : length (bytes ++ others) ≡ length bytes + length others = length-append bytes others in
      let c : last ≡ over before at (bytes ++ others) =
      v.content ∙ rw (w.content, e) (sym (over_append before at bytes (omega arith) others)) in
      record {
        content = c;
        ends = omega (arith, v.ends);
        short = omega (arith, w.short, v.short);
        kept = v.kept ∙ w.kept;
        inside = omega (arith, v.inside, w.kept);
      }

-- ---- numbers

module _ {before middle after : List ℕ} {at j next : ℕ} (n : ℕ) where
  pub two_bytes : Written 1 before at (n % 256 ∷ []) middle j → Written 1 middle j (n / 256 ∷ []) after next → Written 2 before at (two n) after next
  unfolding two
  two_bytes w v = then w v

  pub four_bytes : Written 2 before at (two (n % 65_536)) middle j → Written 2 middle j (two (n / 65_536)) after next
      → Written 4 before at (four n) after next
  unfolding four
  four_bytes w v = then w v

  pub eight_bytes : Written 4 before at (four (n % 4_294_967_296)) middle j
      → Written 4 middle j (four (n / 4_294_967_296)) after next → Written 8 before at (eight n) after next
  unfolding eight
  eight_bytes w v = then w v

-- the library's bytes of a number are ours
pub two_is : (n : ℕ) → n < 65_536 → to_le_bytes w16 n ≡ two n
unfolding two
two_is n h = let high : n / 256 % 256 ≡ n / 256 = omega arith in rw high

pub four_is : (n : ℕ) → n < 4_294_967_296 → to_le_bytes w32 n ≡ four n
unfolding four two
four_is n h =
    let first : n % 65_536 % 256 ≡ n % 256 = omega arith in
    let second : n % 65_536 / 256 ≡ n / 256 % 256 = omega arith in
    let last : n / 65_536 / 256 ≡ n / 16_777_216 % 256 = omega arith in
    rw (first, second, last)

pub eight_is : (n : ℕ) → n < 18_446_744_073_709_551_616 → to_le_bytes w64 n ≡ eight n
unfolding eight
eight_is n h =
    let low : ℕ = n % 4_294_967_296 in
    let high : ℕ = n / 4_294_967_296 in
    let first : low % 256 ≡ n % 256 = omega arith in
    let second : low / 256 % 256 ≡ n / 256 % 256 = omega arith in
    let third : low / 65_536 % 256 ≡ n / 65_536 % 256 = omega arith in
    let fourth : low / 16_777_216 % 256 ≡ n / 16_777_216 % 256 = omega arith in
    let sixth : high / 256 % 256 ≡ n / 1_099_511_627_776 % 256 = omega arith in
    let seventh : high / 65_536 % 256 ≡ n / 281_474_976_710_656 % 256 = omega arith in
    let eighth : high / 16_777_216 % 256 ≡ n / 72_057_594_037_927_936 % 256 = omega arith in
    rw (← four_is low (omega arith), ← four_is high (omega arith), first, second, third, fourth, sixth, seventh, eighth)

pub length_two : (n : ℕ) → length (two n) ≡ 2
unfolding two
length_two n = refl

pub length_four : (n : ℕ) → length (four n) ≡ 4
unfolding four two
length_four n = refl

pub length_eight : (n : ℕ) → length (eight n) ≡ 8
unfolding eight four two
length_eight n = refl

-- ---- a part of a file

module _ (file : List ℕ) (from : ℕ) where
  pub length_part : (n : ℕ) → from + n ≤ length file → length (take n (drop from file)) ≡ n
  length_part n h = length-take-le n (drop from file) (omega (arith, length-drop from file))

  part_more : (i : ℕ) → from + i < length file → take (i + 1) (drop from file) ≡ take i (drop from file) ++ (get_or file (from + i) 0 ∷ [])
  part_more i h =
      ap (λ (k : ℕ). take k (drop from file)) (add-one i) ∙ take-suc (drop from file) i 0 (omega (arith, length-drop from file))
      ∙ ap (λ (y : ℕ). take i (drop from file) ++ (y ∷ [])) (get_or-drop from file i 0)

  pub part_turn : {before middle after : List ℕ} {at j next : ℕ} (i : ℕ) → from + i < length file
      → Written i before at (take i (drop from file)) middle j → Written 1 middle j (get_or file (from + i) 0 ∷ []) after next
      → Written (i + 1) before at (take (i + 1) (drop from file)) after next
  part_turn i h w v = rw (part_more i h) (then w v)
