-- A record of bytes that is read as it was written where it fits, and written as it was read; a row of such records is one again.
-- Assumes nothing.
use mathlib.Core.Bool.{Bool, true, ◌&&◌}
use mathlib.Core.List.{List, [], ◌∷◌, ◌++◌, append_assoc}
use mathlib.Core.Path.{◌≡◌, refl, sym, ap, ◌∙◌}
use Prim.Native.Nat.{ℕ, zero, suc, ◌+◌, ◌*◌, ◌≤◌}
use native.Mathlib.Nat.{mul-suc, mul-zero}
use native.Mathlib.Omega.{arith}
use lib.Dec.{eqb}
use lib.ListN.{length, take, drop, length-append, length-drop}
use lib.Seq.{drop_at, drop-drop, take-add}
use borrow.Author.Tests.{eqb-true}
use Rattle.laws.specs.Choice.{all_of, both_true, true_both}
use Rattle.laws.specs.Tabulate.{tabulate, tabulate_ext}
use Rattle.areas.specs.Records.{decode, encode, records}
use Rattle.endian.proofs.Numbers.{Bytes, bytes_drop}

pub record Field (A : Type 0) (W : ℕ) (fit : A → Bool) (words : A → List ℕ) (first : List ℕ → A) : Type 0 where
  pub wide : (o : A) → fit o ≡ true → length (words o) ≡ W
  pub back : (o : A) (ys : List ℕ) → fit o ≡ true → first (words o ++ ys) ≡ o
  pub forth : (xs : List ℕ) → Bytes xs → W ≤ length xs → words (first xs) ≡ take W xs

decoded_all : {A : Type 0} (W : ℕ) (first : List ℕ → A) (p : A → Bool) → ((xs : List ℕ) → p (first xs) ≡ true) → (n : ℕ)
    (xs : List ℕ) → all_of p (decode W first n xs) ≡ true
unfolding decode all_of
decoded_all W first p f zero xs = refl
decoded_all W first p f (suc n) xs = true_both (p (first xs)) (all_of p (decode W first n (drop W xs))) (f xs) (decoded_all W first p f n (drop W xs))

module _ {A : Type 0} {W : ℕ} {fit : A → Bool} {words : A → List ℕ} {first : List ℕ → A} (F : Field A W fit words first) where
  pub row_wide : (os : List A) → all_of fit os ≡ true → length (encode words os) ≡ W * length os
  unfolding encode all_of
  row_wide [] h = sym (mul-zero W)
  row_wide (o ∷ os) h =
      let p = both_true (fit o) (all_of fit os) h in
      length-append (words o) (encode words os)
      ∙ omega (arith, F.wide o p.0, row_wide os p.1, mul-suc W (length os))

  pub row_back : (os : List A) (ys : List ℕ) → all_of fit os ≡ true → decode W first (length os) (encode words os ++ ys) ≡ os
  unfolding decode encode all_of
  row_back [] ys h = refl
  row_back (o ∷ os) ys h =
      let p = both_true (fit o) (all_of fit os) h in
      rw (append_assoc, F.back o (encode words os ++ ys) p.0, drop_at (words o) (encode words os ++ ys) W (F.wide o p.0))
      (ap (λ (l : List A). o ∷ l) (row_back os ys p.1))

  pub row_forth : (n : ℕ) (xs : List ℕ) → Bytes xs → W * n ≤ length xs → encode words (decode W first n xs) ≡ take (W * n) xs
  unfolding decode encode
  row_forth zero xs b h = rw mul-zero
  row_forth (suc n) xs b h =
      let m : W * suc n ≡ W + W * n = mul-suc W n ∙ omega arith in
      rw (m, take-add W (W * n) xs, F.forth xs b (omega arith), row_forth n (drop W xs) (bytes_drop W xs b) (rw length-drop (omega arith)))

  -- the rows of n records
  abbrev pub fit_row : ℕ → List A → Bool
  fit_row n os = eqb (length os) n && all_of fit os

  pub row : (n : ℕ) → Field (List A) (W * n) (fit_row n) (λ os. encode words os) (λ xs. records W first xs 0 n)
  unfolding records
  row n =
      record {
        wide = λ os h. row_wide os (fits os h).1 ∙ ap (λ (k : ℕ). W * k) (fits os h).0;
        back = λ os ys h. ap (λ (k : ℕ). decode W first k (encode words os ++ ys)) (sym (fits os h).0) ∙ row_back os ys (fits os h).1;
        forth = λ xs b h. row_forth n xs b h;
      }
    where
      fits : (os : List A) → fit_row n os ≡ true → (length os ≡ n) × (all_of fit os ≡ true)
      fits os h = let p = both_true (eqb (length os) n) (all_of fit os) h in (eqb-true (length os) n p.0, p.1)

  length_decode : (n : ℕ) (xs : List ℕ) → length (decode W first n xs) ≡ n
  unfolding decode
  length_decode zero xs = refl
  length_decode (suc n) xs = ap suc (length_decode n (drop W xs))

  -- ---- in a file

  pub records_forth : (bs : List ℕ) (base n : ℕ) → Bytes bs → base + W * n ≤ length bs
      → encode words (records W first bs base n) ≡ take (W * n) (drop base bs)
  unfolding records
  records_forth bs base n b h = row_forth n (drop base bs) (bytes_drop base bs b) (rw length-drop (omega arith))

  pub length_records : (bs : List ℕ) (base n : ℕ) → length (records W first bs base n) ≡ n
  unfolding records
  length_records bs base n = length_decode n (drop base bs)

-- a test that all records read pass
pub records_all : {A : Type 0} (W : ℕ) (first : List ℕ → A) (p : A → Bool) → ((xs : List ℕ) → p (first xs) ≡ true) → (bs : List ℕ)
    (base n : ℕ) → all_of p (records W first bs base n) ≡ true
unfolding records
records_all W first p f bs base n = decoded_all W first p f n (drop base bs)

-- the records read are the table of what stands at each place
decode_table : {A : Type 0} (W : ℕ) (first : List ℕ → A) (n : ℕ) (xs : List ℕ) → decode W first n xs ≡ tabulate n (λ i. first (drop (W * i) xs))
unfolding decode tabulate
decode_table W first zero xs = refl
decode_table {A} W first (suc n) xs =
    rw (decode_table W first n (drop W xs), mul-zero W)
    (ap (λ (l : List A). first xs ∷ l)
    (tabulate_ext n (λ i. first (drop (W * i) (drop W xs))) (λ i. first (drop (W * suc i) xs))
    (λ i. ap first (further i))))
  where
    further : (i : ℕ) → drop (W * i) (drop W xs) ≡ drop (W * suc i) xs
    further i = let e : W + W * i ≡ W * suc i = omega (arith, mul-suc W i) in drop-drop (W * i) W xs ∙ ap (λ (k : ℕ). drop k xs) e

pub records_table : {A : Type 0} (W : ℕ) (first : List ℕ → A) (bs : List ℕ) (base n : ℕ)
    → records W first bs base n ≡ tabulate n (λ i. first (drop (base + W * i) bs))
unfolding records
records_table W first bs base n =
    decode_table W first n (drop base bs)
    ∙ tabulate_ext n (λ i. first (drop (W * i) (drop base bs))) (λ i. first (drop (base + W * i) bs)) (λ i. ap first (drop-drop (W * i) base bs))
