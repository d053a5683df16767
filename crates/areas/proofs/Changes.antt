-- The records of an area after a record was put in, by `move_back` and a write, or records were taken out, by `close_up`, or all
-- were cleared. `s` and `e` are where the lent part begins and ends, as the caller's code computes them; `z` is the record whose
-- words are all zero. Assumes nothing.
use borrow.Rule.Slice.PartMut.{put_mid}
use native.Mathlib.Nat.{mul-add, mul-one, mul-sub, mul-zero, mul-le-mul_left}
use Rattle.laws.specs.Logic.{List, [], ◌++◌, ◌≡◌, refl, sym, ◌∙◌}
use Rattle.laws.specs.Numbers.{ℕ, ◌+◌, ◌-◌, ◌*◌, ◌<◌, ◌≤◌, arith, length, take, drop, replicate, length-replicate}
use Rattle.areas.specs.Lists.{over, insert_at, remove_at, padded}
use Rattle.areas.specs.Moves.{moved_back, closed_up}
use Rattle.areas.specs.Records.{Codec, records, store}
use Rattle.areas.proofs.Lists.{padded_nil, padded_remove_at, padded_drop}
use Rattle.areas.proofs.Moves.{lent_zeros, over_insert, over_closed}
use Rattle.areas.proofs.Records.{encode_zeros, length_records, insert_store, remove_store, store_over}

module _ {A : Type 0} {W : ℕ} {words : A → List ℕ} {first : List ℕ → A} (C : Codec A W words first) (a : List ℕ) (base n : ℕ) where
  -- o is put in at place i
  pub inserted : (i : ℕ) (o : A) (s e : ℕ) (part c : List ℕ) → i ≤ n → s ≡ base + W * i → e ≡ base + W * n + W → e ≤ length a
      → part ≡ moved_back W (take (e - s) (drop s a)) → c ≡ over (put_mid s (e - s) a part) s (words o)
      → c ≡ store words a base (insert_at i o (records W first a base n))
  inserted i o s e part c h hs he l ep ec =
      let m : W * i ≤ W * n = mul-le-mul_left W h in
      let k : W * (n - i) ≡ W * n - W * i = mul-sub W n i in
      over_insert a s e W (W * (n - i)) (put_mid s (e - s) a part) part (words o) c (omega arith) l (C.wide o) ep refl ec
      ∙ rw hs (insert_store C a base n i o h (omega arith))

  module _ (z : A) (zero : words z ≡ replicate W 0) where
    -- k records are taken out from place i on
    pub removed : (i k : ℕ) (s e w : ℕ) (part : List ℕ) → i + k ≤ n → s ≡ base + W * i → e ≡ base + W * n → w ≡ W * k → e ≤ length a
        → part ≡ closed_up w (take (e - s) (drop s a))
        → put_mid s (e - s) a part ≡ store words a base (take i (records W first a base n) ++ (drop (i + k) (records W first a base n) ++ replicate k z))
    removed i k s e w part h hs he hw l ep =
        let p : W * (i + k) ≡ W * i + W * k = mul-add W i k in
        let m : W * (i + k) ≤ W * n = mul-le-mul_left W h in
        let r : W * (n - (i + k)) ≡ W * n - W * (i + k) = mul-sub W n (i + k) in
        let f : s + w ≡ base + W * (i + k) = omega arith in
        over_closed a s e w (W * (n - (i + k))) part (omega arith) l ep
        ∙ rw (f, hs, hw, ← encode_zeros C k z zero) (remove_store C a base n i k (replicate k z) h (length-replicate k z) (omega arith))

    -- the record at place i is taken out
    pub removed_at : (i : ℕ) (s e : ℕ) (part : List ℕ) → i < n → s ≡ base + W * i → e ≡ base + W * n → e ≤ length a
        → part ≡ closed_up W (take (e - s) (drop s a))
        → put_mid s (e - s) a part ≡ store words a base (padded n z (remove_at i (records W first a base n)))
    removed_at i s e part h hs he l ep =
        removed i 1 s e W part (omega arith) hs he (sym (mul-one W)) l ep
        ∙ rw (padded_remove_at n z (records W first a base n) (length_records C a base n) i h)

    -- the first k records are taken out
    pub removed_first : (k : ℕ) (e w : ℕ) (part : List ℕ) → k ≤ n → e ≡ base + W * n → w ≡ W * k → e ≤ length a
        → part ≡ closed_up w (take (e - base) (drop base a))
        → put_mid base (e - base) a part ≡ store words a base (padded n z (drop k (records W first a base n)))
    removed_first k e w part h he hw l ep =
        removed 0 k base e w part (omega arith) (omega (arith, mul-zero W)) he hw l ep
        ∙ rw (padded_drop n z (records W first a base n) (length_records C a base n) k h)

    -- all are cleared
    pub emptied : (e : ℕ) (part : List ℕ) → e ≡ base + W * n → e ≤ length a → part ≡ replicate (length (take (e - base) (drop base a))) 0
        → put_mid base (e - base) a part ≡ store words a base (padded n z [])
    emptied e part he l ep =
        let k : e - base ≡ W * n = omega arith in
        lent_zeros a part base e (omega arith) l ep ∙ rw (k, ← encode_zeros C n z zero, padded_nil, ← store_over C a base (replicate n z))
