-- Equations and orders of integers, proved by `omega`, which reads only naturals: each integer is written as a difference `d a b`
-- of two naturals, and the set `ring` multiplies out. An equation of x, y and z in ℤ is
--     rw (split x, split y, split z) (simp ring (d-eq _ _ _ _ (omega arith)))
-- with each part of type ℤ that is no sum or product split once. A hypothesis h goes to `omega` as
--     d-inj _ _ _ _ (simp ring at (rw (split x, split y) at h))
-- `omega` takes at most 64 products of parts: keep factors that are never negative in ℕ, as `pos n`. Assumes nothing.
use Rattle.std.specs.Prelude.{◌≡◌, refl, Bool, true, false, not, cond, ℕ, zero, suc, ◌+◌, ◌*◌, ◌-◌, ◌<◌, ◌≤◌, T, leb, ltb, ℤ, pos, negsuc, neg_ℤ, ◌+ℤ◌, ◌*ℤ◌}
use Rattle.std.proofs.Common.{sym, ◌∙◌, ap, arith, leb-true, leb-false, le-leb, lt-ltb, le-ltb, ltb→lt, nltb→le}
use Rattle.std.proofs.lemmas.Bool.{lt-leb}
use Rattle.std.proofs.Math.IntN.{sub_ℕ}
use Rattle.std.specs.Int.Signed.{le_z, lt_z}

-- the difference of two naturals, a − b
unfoldable pub d : ℕ → ℕ → ℤ
d a b = sub_ℕ a b

-- the positive part of an integer, and the negative part, of which it is the difference
unfoldable pub pos_part : ℤ → ℕ
pos_part (pos n) = n
pos_part (negsuc n) = 0

unfoldable pub neg_part : ℤ → ℕ
neg_part (pos n) = 0
neg_part (negsuc n) = suc n

-- ---- a difference is one of the two kinds of integer

cond_ind : (c : Bool) (x y : ℤ) (P : ℤ → Type 0) → (T c → P x) → (T (not c) → P y) → P (cond c x y)
cond_ind true x y P f g = f tt
cond_ind false x y P f g = g tt

-- a − b is −(k + 1) where a + k + 1 is b, and k where a is b + k
pub d_ind : (a b : ℕ) (P : ℤ → Type 0) → ((k : ℕ) → a + suc k ≡ b → P (negsuc k)) → ((k : ℕ) → a ≡ b + k → P (pos k)) → P (d a b)
unfolding d
d_ind a b P f g =
    cond_ind (ltb a b) (negsuc (b - suc a)) (pos (a - b)) P
    (λ t. let h = ltb→lt a b t in f (b - suc a) (omega arith))
    (λ t. let h = nltb→le a b t in g (a - b) (omega arith))

pub d_pos : (a b k : ℕ) → a ≡ b + k → d a b ≡ pos k
d_pos a b k e = d_ind a b (λ z. z ≡ pos k) (λ j h. absurd (apart j h)) (λ j h. ap pos (let r : j ≡ k = omega arith in r))
  where
    apart : (j : ℕ) → a + suc j ≡ b → ⊥
    apart j h = omega arith

pub d_negsuc : (a b k : ℕ) → a + suc k ≡ b → d a b ≡ negsuc k
d_negsuc a b k e = d_ind a b (λ z. z ≡ negsuc k) (λ j h. ap negsuc (let r : j ≡ k = omega arith in r)) (λ j h. absurd (apart j h))
  where
    apart : (j : ℕ) → a ≡ b + j → ⊥
    apart j h = omega arith

-- ---- every integer is a difference; equal differences have equal crossed sums

pub split : (z : ℤ) → z ≡ d (pos_part z) (neg_part z)
unfolding pos_part neg_part
split (pos n) = sym (d_pos n 0 n (omega arith))
split (negsuc n) = sym (d_negsuc 0 (suc n) n (omega arith))

pub d_eq : (a b a' b' : ℕ) → a + b' ≡ a' + b → d a b ≡ d a' b'
d_eq a b a' b' e =
    sym (d_ind a' b' (λ z. z ≡ d a b) (λ k h. sym (d_negsuc a b k (omega arith))) (λ k h. sym (d_pos a b k (omega arith))))

pub d_inj : (a b a' b' : ℕ) → d a b ≡ d a' b' → a + b' ≡ a' + b
d_inj a b a' b' e =
    d_ind a b (λ z. z ≡ d a' b' → a + b' ≡ a' + b)
    (λ k h. d_ind a' b' (λ z. negsuc k ≡ z → a + b' ≡ a' + b)
    (λ j i q. let r : k ≡ j = cc in omega arith)
    (λ j i q. let r : ◌≡◌ {A = ℕ} 0 1 = cc in omega arith))
    (λ k h. d_ind a' b' (λ z. pos k ≡ z → a + b' ≡ a' + b)
    (λ j i q. let r : ◌≡◌ {A = ℕ} 0 1 = cc in omega arith)
    (λ j i q. let r : k ≡ j = cc in omega arith))
    e

-- ---- the operations on differences

open_d : (m n : ℕ) → sub_ℕ m n ≡ d m n
unfolding d
open_d m n = refl

pub d_add : (a b a' b' : ℕ) → d a b +ℤ d a' b' ≡ d (a + a') (b + b')
d_add a b a' b' =
    d_ind a b (λ z. z +ℤ d a' b' ≡ d (a + a') (b + b'))
    (λ k h. d_ind a' b' (λ z. negsuc k +ℤ z ≡ d (a + a') (b + b'))
    (λ j i. sym (d_negsuc _ _ _ (omega arith)))
    (λ j i. open_d j (suc k) ∙ d_eq _ _ _ _ (omega arith)))
    (λ k h. d_ind a' b' (λ z. pos k +ℤ z ≡ d (a + a') (b + b'))
    (λ j i. open_d k (suc j) ∙ d_eq _ _ _ _ (omega arith))
    (λ j i. sym (d_pos _ _ _ (omega arith))))

pub d_neg : (a b : ℕ) → neg_ℤ (d a b) ≡ d b a
d_neg a b = d_ind a b (λ z. neg_ℤ z ≡ d b a) (λ k h. sym (d_pos _ _ _ (omega arith))) (λ k h. at k h)
  where
    at : (k : ℕ) → a ≡ b + k → neg_ℤ (pos k) ≡ d b a
    at zero h = sym (d_pos _ _ _ (omega arith))
    at (suc k) h = sym (d_negsuc _ _ _ (omega arith))

pub pos_d : (n : ℕ) → pos n ≡ d n 0
pos_d n = sym (d_pos n 0 n (omega arith))

pub negsuc_d : (n : ℕ) → negsuc n ≡ d 0 (suc n)
negsuc_d n = sym (d_negsuc 0 (suc n) n (omega arith))

-- `neg_ℤ (pos n)` waits for `n`, so `simp` does not see the `pos n` in it
pub neg_pos_d : (n : ℕ) → neg_ℤ (pos n) ≡ d 0 n
neg_pos_d n = ap neg_ℤ (pos_d n) ∙ d_neg n 0

pub d_mul : (a b a' b' : ℕ) → d a b *ℤ d a' b' ≡ d (a * a' + b * b') (a * b' + b * a')
d_mul a b a' b' =
    d_ind a b (λ z. z *ℤ d a' b' ≡ product)
    (λ k h. d_ind a' b' (λ z. negsuc k *ℤ z ≡ product)
    (λ j i. sym (d_pos _ _ _ (rw (← h, ← i) (omega arith))))
    (λ j i. neg_pos_d (suc k * j) ∙ d_eq _ _ _ _ (rw (← h, i) (omega arith))))
    (λ k h. d_ind a' b' (λ z. pos k *ℤ z ≡ product)
    (λ j i. neg_pos_d (k * suc j) ∙ d_eq _ _ _ _ (rw (h, ← i) (omega arith)))
    (λ j i. sym (d_pos _ _ _ (rw (h, i) (omega arith)))))
  where
    product : ℤ
    product = d (a * a' + b * b') (a * b' + b * a')

-- what takes sums, products and negations of differences to one difference
pub ruleset ring = (d_add, d_neg, d_mul, pos_d, negsuc_d, neg_pos_d)

-- ---- the order of differences: a − b ≤ a' − b' where a + b' ≤ a' + b

as_leb : (m n m' n' : ℕ) → (m ≤ n → m' ≤ n') → (n < m → n' < m') → leb m n ≡ leb m' n'
as_leb m n m' n' f g = by_comparison (leb m n) refl
  where
    by_comparison : (t : Bool) → leb m n ≡ t → leb m n ≡ leb m' n'
    by_comparison true e = e ∙ sym (le-leb m' n' (f (leb-true m n e)))
    by_comparison false e = e ∙ sym (lt-leb m' n' (g (leb-false m n e)))

pub le_z_d : (a b a' b' : ℕ) → le_z (d a b) (d a' b') ≡ leb (a + b') (a' + b)
le_z_d a b a' b' =
    d_ind a b (λ z. le_z z (d a' b') ≡ test)
    (λ k h. d_ind a' b' (λ z. le_z (negsuc k) z ≡ test)
    (λ j i. as_leb j k (a + b') (a' + b) (λ l. omega arith) (λ l. omega arith))
    (λ j i. sym (le-leb (a + b') (a' + b) (omega arith))))
    (λ k h. d_ind a' b' (λ z. le_z (pos k) z ≡ test)
    (λ j i. sym (lt-leb (a + b') (a' + b) (omega arith)))
    (λ j i. as_leb k j (a + b') (a' + b) (λ l. omega arith) (λ l. omega arith)))
  where
    test : Bool
    test = leb (a + b') (a' + b)

pub lt_z_d : (a b a' b' : ℕ) → lt_z (d a b) (d a' b') ≡ ltb (a + b') (a' + b)
lt_z_d a b a' b' =
    d_ind a b (λ z. lt_z z (d a' b') ≡ test)
    (λ k h. d_ind a' b' (λ z. lt_z (negsuc k) z ≡ test)
    (λ j i. as_leb (suc j) k (suc (a + b')) (a' + b) (λ l. omega arith) (λ l. omega arith))
    (λ j i. sym (lt-ltb (a + b') (a' + b) (omega arith))))
    (λ k h. d_ind a' b' (λ z. lt_z (pos k) z ≡ test)
    (λ j i. sym (le-ltb (a + b') (a' + b) (omega arith)))
    (λ j i. as_leb (suc k) j (suc (a + b')) (a' + b) (λ l. omega arith) (λ l. omega arith)))
  where
    test : Bool
    test = ltb (a + b') (a' + b)

-- a test that fails is the other test the other way round
pub le_z_lt_z : (x y : ℤ) → le_z x y ≡ not (lt_z y x)
le_z_lt_z x y = rw (split x, split y) (rw (le_z_d, lt_z_d) (leb_not (pos_part x + neg_part y) (pos_part y + neg_part x)))
  where
    leb_not : (m n : ℕ) → leb m n ≡ not (ltb n m)
    leb_not m n = by_comparison (leb m n) refl
      where
        by_comparison : (t : Bool) → leb m n ≡ t → leb m n ≡ not (ltb n m)
        by_comparison true e = e ∙ sym (ap not (le-ltb n m (leb-true m n e)))
        by_comparison false e = e ∙ sym (ap not (lt-ltb n m (leb-false m n e)))

-- ---- the parts

pub pos_part_pos : (n : ℕ) → pos_part (pos n) ≡ n
unfolding pos_part
pos_part_pos n = refl

pub neg_part_pos : (n : ℕ) → neg_part (pos n) ≡ 0
unfolding neg_part
neg_part_pos n = refl

-- the parts of a difference are no larger than what it is the difference of
pub pos_part_d : (a b : ℕ) → pos_part (d a b) ≤ a
unfolding pos_part
pos_part_d a b = d_ind a b (λ z. pos_part z ≤ a) (λ k h. omega arith) (λ k h. omega arith)

pub neg_part_d : (a b : ℕ) → neg_part (d a b) ≤ b
unfolding neg_part
neg_part_d a b = d_ind a b (λ z. neg_part z ≤ b) (λ k h. omega arith) (λ k h. omega arith)

-- ---- laws of sums and products beside those of `lib.IntN`

pub *ℤ-add : (x y z : ℤ) → x *ℤ (y +ℤ z) ≡ x *ℤ y +ℤ x *ℤ z
*ℤ-add x y z = rw (split x, split y, split z) (simp ring (d_eq _ _ _ _ (omega arith)))
