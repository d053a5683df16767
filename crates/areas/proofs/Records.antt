-- The laws of `specs/Records.antt`, over any record that has a `Codec`: what a caller needs who writes records into an area
-- and reads them, or others, back. W is the stride, so `base + W * i` is the word where record i begins. Assumes nothing.
use native.Mathlib.Nat.{mul-suc, mul-zero, mul-add, mul-sub, mul-le-mul_left, sub-zero, suc-sub-suc}
use lib.ListN.{take-append-drop, replicate-append-replicate, get_or-append}
use lib.Seq.{take-nil, drop-nil, take-add, take-append-add, drop_at, drop-drop, drop-append-le, drop-append-add, length-take-le, get_or-drop, drop-cons}
use Rattle.laws.specs.Logic.{List, [], ◌∷◌, ◌++◌, append-nil, append_assoc, ◌≡◌, refl, sym, ap, ◌∙◌}
use Rattle.laws.specs.Numbers.{ℕ, zero, suc, ◌+◌, ◌-◌, ◌*◌, ◌<◌, ◌≤◌, arith, length, get_or, set, take, drop, replicate, length-append, length-drop, length-take}
use Rattle.areas.specs.Lists.{over, insert_at}
use Rattle.areas.specs.Records.{Codec, decode, encode, records, store}
use Rattle.areas.proofs.Lists.{length_over, over_nil, over_tail, over_part, drop_over_at, drop_over, over_front, over_over, over_append, over_inside, over_comm, set_over}

module _ {A : Type 0} {W : ℕ} {words : A → List ℕ} {first : List ℕ → A} (C : Codec A W words first) where
  -- ---- records and their words

  pub decode_encode : (os : List A) (ys : List ℕ) → decode W first (length os) (encode words os ++ ys) ≡ os
  unfolding decode encode
  decode_encode [] ys = refl
  decode_encode (o ∷ os) ys =
      rw (append_assoc, C.back, drop_at (words o) (encode words os ++ ys) W (C.wide o)) (ap (λ (l : List A). o ∷ l) (decode_encode os ys))

  pub encode_decode : (n : ℕ) (xs : List ℕ) → W * n ≤ length xs → encode words (decode W first n xs) ≡ take (W * n) xs
  unfolding decode encode
  encode_decode zero xs h = rw mul-zero
  encode_decode (suc n) xs h =
      let m : W * suc n ≡ W + W * n = mul-suc W n ∙ omega arith in
      rw (m, take-add W (W * n) xs, C.forth xs (omega arith), encode_decode n (drop W xs) (rw length-drop (omega arith)))

  pub length_decode : (n : ℕ) (xs : List ℕ) → length (decode W first n xs) ≡ n
  unfolding decode
  length_decode zero xs = refl
  length_decode (suc n) xs = ap suc (length_decode n (drop W xs))

  pub take_decode : (i n : ℕ) (xs : List ℕ) → i ≤ n → take i (decode W first n xs) ≡ decode W first i xs
  unfolding decode
  take_decode zero n xs h = refl
  take_decode (suc i) zero xs h = absurd (omega arith)
  take_decode (suc i) (suc n) xs h = ap (λ (l : List A). first xs ∷ l) (take_decode i n (drop W xs) (omega arith))

  pub drop_decode : (i n : ℕ) (xs : List ℕ) → i ≤ n → drop i (decode W first n xs) ≡ decode W first (n - i) (drop (W * i) xs)
  unfolding decode
  drop_decode zero n xs h = rw (sub-zero, mul-zero)
  drop_decode (suc i) zero xs h = absurd (omega arith)
  drop_decode (suc i) (suc n) xs h =
      let e : W + W * i ≡ W * suc i = omega (arith, mul-suc W i) in
      drop_decode i n (drop W xs) (omega arith) ∙ rw (suc-sub-suc, drop-drop, e)

  pub get_d_decode : (n i : ℕ) (xs : List ℕ) (d : A) → i < n → get_or (decode W first n xs) i d ≡ first (drop (W * i) xs)
  unfolding decode
  get_d_decode zero i xs d h = absurd (omega arith)
  get_d_decode (suc n) zero xs d h = rw mul-zero
  get_d_decode (suc n) (suc i) xs d h =
      let e : W + W * i ≡ W * suc i = omega (arith, mul-suc W i) in
      get_d_decode n i (drop W xs) d (omega arith) ∙ rw (drop-drop, e)

  -- a record is read from its own words only
  pub first_append : (l t : List ℕ) → W ≤ length l → first (l ++ t) ≡ first l
  first_append l t h =
      let e : l ≡ words (first l) ++ drop W l = rw (C.forth l h) (sym (take-append-drop W l)) in
      ap (λ (k : List ℕ). first (k ++ t)) e ∙ rw (append_assoc (words (first l)) (drop W l) t) (C.back (first l) (drop W l ++ t))

  pub decode_append : (n : ℕ) (l t : List ℕ) → W * n ≤ length l → decode W first n (l ++ t) ≡ decode W first n l
  unfolding decode
  decode_append zero l t h = refl
  decode_append (suc n) l t h =
      let m : W * suc n ≡ W * n + W = mul-suc W n in
      rw (first_append l t (omega arith), drop-append-le W l t (omega arith), decode_append n (drop W l) t (rw length-drop (omega arith)))

  pub length_encode : (os : List A) → length (encode words os) ≡ W * length os
  unfolding encode
  length_encode [] = sym (mul-zero W)
  length_encode (o ∷ os) = rw (length-append, C.wide, length_encode os, mul-suc) (omega arith)

  pub encode_one : (o : A) → encode words (o ∷ []) ≡ words o
  unfolding encode
  encode_one o = append-nil (words o)

  pub encode_cons : (o : A) (os : List A) → encode words (o ∷ os) ≡ words o ++ encode words os
  unfolding encode
  encode_cons o os = refl

  pub encode_append : (os ps : List A) → encode words (os ++ ps) ≡ encode words os ++ encode words ps
  unfolding encode
  encode_append [] ps = refl
  encode_append (o ∷ os) ps = rw (encode_append os ps, append_assoc)

  pub encode_take : (i : ℕ) (os : List A) → encode words (take i os) ≡ take (W * i) (encode words os)
  unfolding encode
  encode_take zero os = rw mul-zero
  encode_take (suc i) [] = sym (take-nil (W * suc i))
  encode_take (suc i) (o ∷ os) =
      let m : W * suc i ≡ length (words o) + W * i = rw (C.wide o, mul-suc) (omega arith) in
      rw (m, take-append-add (words o) (encode words os) (W * i), encode_take i os)

  pub encode_drop : (i : ℕ) (os : List A) → encode words (drop i os) ≡ drop (W * i) (encode words os)
  unfolding encode
  encode_drop zero os = rw mul-zero
  encode_drop (suc i) [] = sym (drop-nil (W * suc i))
  encode_drop (suc i) (o ∷ os) =
      let m : W * suc i ≡ length (words o) + W * i = rw (C.wide o, mul-suc) (omega arith) in
      rw (m, drop-append-add (words o) (encode words os) (W * i)) (encode_drop i os)

  -- a word of the record at place i
  pub get_d_encode : (os : List A) (i word : ℕ) (d : A) → i < length os → word < W →
      get_or (encode words os) (W * i + word) 0 ≡ get_or (words (get_or os i d)) word 0
  get_d_encode os i word d h b =
      sym (get_or-drop (W * i) (encode words os) word 0) ∙ ap (λ (r : List ℕ). get_or r word 0)
      (sym (encode_drop i os) ∙ ap (encode words) (drop-cons os i d h) ∙ encode_cons (get_or os i d) (drop (suc i) os))
      ∙ get_or-append (words (get_or os i d)) (encode words (drop (suc i) os)) 0 word (rw (C.wide (get_or os i d)) b)

  pub encode_over : (os : List A) (j : ℕ) (ps : List A) → encode words (over os j ps) ≡ over (encode words os) (W * j) (encode words ps)
  unfolding over
  encode_over os j ps = rw (encode_append, encode_append, encode_take, encode_drop, length_encode ps, mul-add W j (length ps))

  -- a record that is all zero
  pub encode_zeros : (n : ℕ) (z : A) → words z ≡ replicate W 0 → encode words (replicate n z) ≡ replicate (W * n) 0
  unfolding encode
  encode_zeros zero z e = rw mul-zero
  encode_zeros (suc n) z e =
      let m : W + W * n ≡ W * suc n = omega (arith, mul-suc W n) in
      rw (e, encode_zeros n z e, replicate-append-replicate {A = ℕ} W (W * n) 0, m)

  -- ---- the records of an area

  pub length_records : (a : List ℕ) (base n : ℕ) → length (records W first a base n) ≡ n
  unfolding records
  length_records a base n = length_decode n (drop base a)

  pub get_d_records : (a : List ℕ) (base n i : ℕ) (d : A) → i < n → get_or (records W first a base n) i d ≡ first (drop (base + W * i) a)
  unfolding records
  get_d_records a base n i d h = rw (← drop-drop (W * i) base a) (get_d_decode n i (drop base a) d h)

  -- fewer of them, and those that follow
  pub take_records : (a : List ℕ) (base n i : ℕ) → i ≤ n → take i (records W first a base n) ≡ records W first a base i
  unfolding records
  take_records a base n i h = take_decode i n (drop base a) h

  pub drop_records : (a : List ℕ) (base n i : ℕ) → i ≤ n → drop i (records W first a base n) ≡ records W first a (base + W * i) (n - i)
  unfolding records
  drop_records a base n i h = rw (drop_decode i n (drop base a) h, drop-drop)

  pub records_add : (a : List ℕ) (base m n : ℕ) → records W first a base (m + n) ≡ records W first a base m ++ records W first a (base + W * m) n
  records_add a base m n =
      let k : m + n - m ≡ n = omega arith in
      sym (take-append-drop m (records W first a base (m + n)))
      ∙ rw (take_records a base (m + n) m (omega arith), drop_records a base (m + n) m (omega arith), k)

  -- their words
  pub encode_records : (a : List ℕ) (base n : ℕ) → base + W * n ≤ length a → encode words (records W first a base n) ≡ take (W * n) (drop base a)
  unfolding records
  encode_records a base n h = encode_decode n (drop base a) (rw length-drop (omega arith))

  -- the words of those from record i on
  pub encode_rest : (a : List ℕ) (base n i : ℕ) → i ≤ n → base + W * n ≤ length a
      → encode words (drop i (records W first a base n)) ≡ take (W * (n - i)) (drop (base + W * i) a)
  encode_rest a base n i h l =
      let m : W * i ≤ W * n = mul-le-mul_left W h in
      let s : W * (n - i) ≡ W * n - W * i = mul-sub W n i in
      rw (drop_records a base n i h) (encode_records a (base + W * i) (n - i) (omega arith))

  -- read from a part that holds them
  pub records_part : (a : List ℕ) (base k n : ℕ) → W * n ≤ k → base + W * n ≤ length a
      → records W first (take k (drop base a)) 0 n ≡ records W first a base n
  unfolding records
  records_part a base k n h b =
      let l : W * n ≤ length (take k (drop base a)) = rw (length-take, length-drop) (omega arith) in
      sym (rw (take-append-drop k (drop base a)) at (decode_append n (take k (drop base a)) (drop k (drop base a)) l))

  -- ---- words written elsewhere leave the records as they are

  decode_front : (k base n : ℕ) (a t : List ℕ) → base + W * n ≤ k → k ≤ length a
      → decode W first n (drop base (take k a ++ t)) ≡ decode W first n (drop base (take k a))
  decode_front k base n a t h b =
      let l : length (take k a) ≡ k = length-take-le k a b in
      rw (drop-append-le base (take k a) t (omega arith)) (decode_append n (drop base (take k a)) t (rw (length-drop, l) (omega arith)))

  pub records_over_before : (a : List ℕ) (at : ℕ) (ys : List ℕ) (base n : ℕ) → base + W * n ≤ at → at ≤ length a
      → records W first (over a at ys) base n ≡ records W first a base n
  unfolding records over
  records_over_before a at ys base n h b =
      decode_front at base n a (ys ++ drop (at + length ys) a) h b ∙ sym (rw (take-append-drop at a) at (decode_front at base n a (drop at a) h b))

  pub records_over_after : (a : List ℕ) (at : ℕ) (ys : List ℕ) (base n : ℕ) → at + length ys ≤ base → at ≤ length a
      → records W first (over a at ys) base n ≡ records W first a base n
  unfolding records
  records_over_after a at ys base n h b = rw (drop_over a at ys b base h)

  -- ---- records written and read back

  pub store_over : (a : List ℕ) (base : ℕ) (os : List A) → store words a base os ≡ over a base (encode words os)
  unfolding store
  store_over a base os = refl

  pub length_store : (a : List ℕ) (base : ℕ) (os : List A) → base + W * length os ≤ length a → length (store words a base os) ≡ length a
  unfolding store
  length_store a base os h = length_over a base (encode words os) (rw length_encode h)

  pub store_nil : (a : List ℕ) (base : ℕ) → store words a base [] ≡ a
  unfolding store encode
  store_nil a base = over_nil a base

  pub records_store_front : (a : List ℕ) (base n : ℕ) (os ps : List A) → base ≤ length a → length os ≡ n
      → records W first (store words a base (os ++ ps)) base n ≡ os
  unfolding records store
  records_store_front a base n os ps h l = rw (drop_over_at a base (encode words (os ++ ps)) h, encode_append, append_assoc, ← l) (decode_encode os _)

  pub records_store : (a : List ℕ) (base n : ℕ) (os : List A) → base ≤ length a → length os ≡ n → records W first (store words a base os) base n ≡ os
  records_store a base n os h l = rw append-nil at (records_store_front a base n os [] h l)

  -- storing what stands there changes nothing
  pub store_records : (a : List ℕ) (base n : ℕ) → base + W * n ≤ length a → store words a base (records W first a base n) ≡ a
  unfolding store
  store_records a base n h = rw (encode_records a base n h) (over_part a base (W * n) h)

  -- the second of two stores stays: over the front of the first, over all of it, after it
  pub store_front : (a : List ℕ) (base : ℕ) (xs ys zs : List A) → base ≤ length a → length zs ≡ length xs
      → store words (store words a base (xs ++ ys)) base zs ≡ store words a base (zs ++ ys)
  unfolding store
  store_front a base xs ys zs h e =
      let lz : length (encode words zs) ≡ length (encode words xs) = rw (length_encode zs, length_encode xs, e) in
      let r : drop (length (encode words zs)) (encode words (xs ++ ys)) ≡ encode words ys = rw (encode_append xs ys) (drop_at (encode words xs) (encode words ys) (length (encode words zs)) (sym lz)) in
      over_front a base (encode words (xs ++ ys)) h (encode words zs) (rw (encode_append xs ys, length-append, lz) (omega arith)) ∙ rw (r, encode_append zs ys)

  pub store_store : (a : List ℕ) (base : ℕ) (xs zs : List A) → base ≤ length a → length zs ≡ length xs
      → store words (store words a base xs) base zs ≡ store words a base zs
  unfolding store
  store_store a base xs zs h e = over_over a base (encode words xs) h (encode words zs) (rw (length_encode zs, length_encode xs, e))

  pub store_append : (a : List ℕ) (base : ℕ) (xs ys : List A) → base ≤ length a
      → store words a base (xs ++ ys) ≡ store words (store words a base xs) (base + W * length xs) ys
  unfolding store
  store_append a base xs ys h = rw (encode_append xs ys, ← length_encode xs) (over_append a base (encode words xs) h (encode words ys))

  -- records stored in the midst of others
  module _ (a : List ℕ) (base n j : ℕ) (os : List A) (room : j + length os ≤ n) (fits : base + W * n ≤ length a) where
    pub store_inside : store words a (base + W * j) os ≡ store words a base (over (records W first a base n) j os)
    unfolding store
    store_inside =
        let m : W * (j + length os) ≤ W * n = mul-le-mul_left W room in
        let k : W * (j + length os) ≡ W * j + W * length os = mul-add W j (length os) in
        rw (encode_over, encode_records a base n fits) (over_inside a base (W * n) (W * j) (encode words os) (rw length_encode (omega arith)) fits)

    pub records_store_inside : records W first (store words a (base + W * j) os) base n ≡ over (records W first a base n) j os
    records_store_inside =
        let l : length (over (records W first a base n) j os) ≡ n = length_over (records W first a base n) j os (rw length_records room) ∙ length_records a base n in
        rw store_inside (records_store a base n (over (records W first a base n) j os) (omega arith) l)

  -- one record written over the one at i
  pub set_store : (a : List ℕ) (base n i : ℕ) (o : A) → i < n → base + W * n ≤ length a
      → over a (base + W * i) (words o) ≡ store words a base (set (records W first a base n) i o)
  set_store a base n i o h l =
      let e : i + length (o ∷ []) ≤ n = omega arith in
      rw (← encode_one o, ← store_over a (base + W * i) (o ∷ [])) (store_inside a base n i (o ∷ []) e l ∙ rw (set_over (records W first a base n) i o (rw length_records h)))

  -- records with a record put in at i: the words from record i on are moved back, and o is written in front of them
  pub insert_store : (a : List ℕ) (base n i : ℕ) (o : A) → i ≤ n → base + W * n + W ≤ length a
      → over a (base + W * i) (words o ++ take (W * (n - i)) (drop (base + W * i) a)) ≡ store words a base (insert_at i o (records W first a base n))
  unfolding insert_at
  insert_store a base n i o h l =
      let m : W * suc n ≡ W * n + W = mul-suc W n in
      let q : List A = records W first a base n in
      let q1 : List A = records W first a base (suc n) in
      let fits : base + W * suc n ≤ length a = omega arith in
      let ls : i + length (o ∷ drop i q) ≡ suc n = rw (length-drop, length_records) (omega arith) in
      let t : take i q1 ≡ take i q = take_records a base (suc n) i (omega arith) ∙ sym (take_records a base n i h) in
      let s : over q1 i (o ∷ drop i q) ≡ take i q1 ++ (o ∷ drop i q) = over_tail q1 i (o ∷ drop i q) (rw (length_records, ls) (omega arith)) in
      rw (← encode_rest a base n i h (omega arith), ← encode_cons o (drop i q), ← store_over a (base + W * i) (o ∷ drop i q))
      (store_inside a base (suc n) i (o ∷ drop i q) (omega arith) fits ∙ rw (s, t))

  -- records without the k from i on: the words after them are moved forward, and zs are written behind
  pub remove_store : (a : List ℕ) (base n i k : ℕ) (zs : List A) → i + k ≤ n → length zs ≡ k → base + W * n ≤ length a
      → over a (base + W * i) (take (W * (n - (i + k))) (drop (base + W * (i + k)) a) ++ encode words zs) ≡ store words a base (take i (records W first a base n) ++ (drop (i + k) (records W first a base n) ++ zs))
  remove_store a base n i k zs h e l =
      let q : List A = records W first a base n in
      let ls : i + length (drop (i + k) q ++ zs) ≡ n = rw (length-append, length-drop, length_records) (omega arith) in
      let s : over q i (drop (i + k) q ++ zs) ≡ take i q ++ (drop (i + k) q ++ zs) = over_tail q i (drop (i + k) q ++ zs) (rw (length_records, ls) (omega arith)) in
      rw (← encode_rest a base n (i + k) h l, ← encode_append (drop (i + k) q) zs, ← store_over a (base + W * i) (drop (i + k) q ++ zs))
      (store_inside a base n i (drop (i + k) q ++ zs) (omega arith) l ∙ rw s)

-- ---- two kinds of records in one area

module _ {A B : Type 0} {W U : ℕ} {words : A → List ℕ} {others : B → List ℕ} {first : List ℕ → A} {other : List ℕ → B} (C : Codec A W words first) (D : Codec B U others other) where
  -- records of the first kind are as they were after a store of the second kind behind them, or before them
  pub records_store_before : (a : List ℕ) (at : ℕ) (ps : List B) (base n : ℕ) → base + W * n ≤ at → at ≤ length a
      → records W first (store others a at ps) base n ≡ records W first a base n
  unfolding store
  records_store_before a at ps base n h b = records_over_before C a at (encode others ps) base n h b

  pub records_store_after : (a : List ℕ) (at : ℕ) (ps : List B) (base n : ℕ) → at + U * length ps ≤ base → at ≤ length a
      → records W first (store others a at ps) base n ≡ records W first a base n
  unfolding store
  records_store_after a at ps base n h b = records_over_after C a at (encode others ps) base n (rw (length_encode D ps) h) b

  -- stores to places apart are in either order
  pub store_comm : (a : List ℕ) (at : ℕ) (os : List A) (bt : ℕ) (ps : List B) → at + W * length os ≤ bt → bt + U * length ps ≤ length a
      → store others (store words a at os) bt ps ≡ store words (store others a bt ps) at os
  unfolding store
  store_comm a at os bt ps h b = over_comm a at (encode words os) bt (encode others ps) (rw (length_encode C os) h) (rw (length_encode D ps) b)
