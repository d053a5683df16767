-- A word of an area after records were written over n places of it, place by place: the word of the record that stands there
-- now, 0 where there was one and is none, and the word as it was. For any record, for the queues and for the day's trades.
-- Assumes nothing.
use Rattle.laws.specs.Logic.{Bool, true, false, List, ⊎_elim, ◌≡◌, refl, sym, ap, ◌∙◌}
use Rattle.laws.specs.Numbers.{ℕ, zero, suc, ◌+◌, ◌*◌, ◌<◌, ◌≤◌, max, le_of_suc-le-suc, eq-or-lt_of_le, zero-add, add_assoc, mul-suc, mul-le-mul_left, arith}
use Rattle.laws.specs.Numbers.{eqb-true, eqb-false, ltb-true, ltb-false, eqb, ltb, length, get_or, replicate, get_or-replicate}
use Rattle.laws.specs.Choice.{pick}
use Rattle.areas.specs.Lists.{over, padded}
use Rattle.areas.specs.Records.{Codec, encode, store}
use Rattle.areas.proofs.Lists.{get_d_over_before, get_d_over_in, get_d_over_behind, get_d_padded, get_d_fill}
use Rattle.areas.proofs.Records.{get_d_encode, length_encode}
use Rattle.rules.specs.Bounds.{max_resting}
use Rattle.rules.specs.Exchange.{no_order, no_trade}
use Rattle.rules.specs.Memory.{first_word, order_stride, queue_stride, trade_stride, order_words, trade_words, word_of, put_queue, put_queues, put_trades}
use Rattle.rules.specs.declared.{Order.Order, Trade.Trade}
use Rattle.theory.proofs.Codecs.{order_codec, trade_codec, length_filled, length_put_queues, before_or_after}

-- ---- records written over n places, z in those that they leave

module _ {A : Type 0} {W : ℕ} {words : A → List ℕ} {first : List ℕ → A} (C : Codec A W words first) (z : A) (blank : words z ≡ replicate W 0) where
  word_put : (a : List ℕ) (base n i word : ℕ) (os : List A) → base ≤ length a → word < W →
      get_or (store words a base (padded n z os)) (base + W * i + word) 0
      ≡ pick (ltb i (length os)) (get_or (words (get_or os i z)) word 0) (pick (ltb i n) 0 (get_or a (base + W * i + word) 0))
  unfolding store
  word_put a base n i word os inside b = by_place (ltb i (length os)) (ltb i n) refl refl
    where
      written : List ℕ
      written = encode words (padded n z os)

      wide : length written ≡ W * max n (length os)
      wide = length_encode C (padded n z os) ∙ ap (λ (k : ℕ). W * k) (length_filled n z os)

      among : (k : ℕ) → i < k → W * i + word < W * k
      among k h = omega (arith, mul-suc W i, mul-le-mul_left W h)

      -- a place that is written
      at : i < max n (length os) → get_or (over a base written) (base + W * i + word) 0 ≡ get_or (words (get_or (padded n z os) i z)) word 0
      at h =
          ap (λ (k : ℕ). get_or (over a base written) k 0) (add_assoc base (W * i) word)
          ∙ get_d_over_in a base written inside (W * i + word) 0 (rw wide (among (max n (length os)) h))
          ∙ get_d_encode C (padded n z os) i word z (rw (length_filled n z os) h) b

      by_place : (s t : Bool) → ltb i (length os) ≡ s → ltb i n ≡ t → get_or (over a base written) (base + W * i + word) 0
          ≡ pick s (get_or (words (get_or os i z)) word 0) (pick t 0 (get_or a (base + W * i + word) 0))
      by_place true t p q =
          let h = ltb-true i (length os) p in
          at (omega arith) ∙ ap (λ (o : A). get_or (words o) word 0) (get_d_padded n i z z os h)
      by_place false true p q =
          let h = ltb-false i (length os) p in
          let l = ltb-true i n q in
          at (omega arith) ∙ ap (λ (o : A). get_or (words o) word 0) (get_d_fill n i z z os h l)
          ∙ ap (λ (ws : List ℕ). get_or ws word 0) blank ∙ get_or-replicate W word 0 0 b
      by_place false false p q =
          let h = ltb-false i (length os) p in
          let l = ltb-false i n q in
          let k : max n (length os) ≤ i = omega arith in
          get_d_over_behind a base written inside (base + W * i + word) 0 (rw wide (omega (arith, mul-le-mul_left W k)))

-- ---- the day's trades

pub word_put_trades : (area : List ℕ) (n : ℕ) (ts : List Trade) (i word : ℕ) → word < trade_stride →
    get_or (put_trades area n ts) (trade_stride * i + word) 0
    ≡ pick (ltb i (length ts)) (get_or (trade_words (get_or ts i no_trade)) word 0) (pick (ltb i n) 0 (get_or area (trade_stride * i + word) 0))
unfolding put_trades
word_put_trades area n ts i word b = rw (zero-add (trade_stride * i)) at (word_put trade_codec no_trade refl area 0 n i word ts (omega arith) b)

-- ---- a queue

module _ (area : List ℕ) (c n : ℕ) (q : List Order) (i word : ℕ) (place : i < max_resting) (b : word < order_stride) (inside : queue_stride * c ≤ length area) where
  word_put_queue :
      get_or (put_queue area c n q) (first_word c i + word) 0
      ≡ pick (ltb i (length q)) (word_of word (get_or q i no_order)) (pick (ltb i n) 0 (get_or area (first_word c i + word) 0))
  unfolding put_queue
  word_put_queue = word_put order_codec no_order refl area (queue_stride * c) n i word q inside b

  -- a word of another contract's
  word_put_queue_other : n ≤ max_resting → length q ≤ max_resting → (d : ℕ) → (c ≡ d → ⊥) →
      get_or (put_queue area c n q) (first_word d i + word) 0 ≡ get_or area (first_word d i + word) 0
  unfolding put_queue store
  word_put_queue_other few short d apart =
      let wide : length (encode order_words (padded n no_order q)) ≡ order_stride * max n (length q) =
      length_encode order_codec (padded n no_order q) ∙ ap (λ (k : ℕ). order_stride * k) (length_filled n no_order q) in
      ⊎_elim
      (λ (k : c < d).
      get_d_over_behind area (queue_stride * c) (encode order_words (padded n no_order q)) inside (first_word d i + word) 0 (omega arith))
      (λ (k : d < c).
      get_d_over_before area (queue_stride * c) (encode order_words (padded n no_order q)) inside (first_word d i + word) 0 (omega arith))
      (before_or_after c d apart)

-- ---- the queues of all contracts, each within 64 orders before and after

module _ (area counts : List ℕ) (queues : ℕ → List Order) (contracts : ℕ) (few : (c : ℕ) → c < contracts → get_or counts c 0 ≤ max_resting) (short : (c : ℕ) → c < contracts → length (queues c) ≤ max_resting) (room : queue_stride * contracts ≤ length area) (i word : ℕ) (place : i < max_resting) (b : word < order_stride) where
  fits : (n : ℕ) → n < contracts → queue_stride * n ≤ length (put_queues area counts queues n)
  fits n h = rw (length_put_queues area counts queues contracts few short room n (omega arith)) (omega arith)

  -- a contract that they are not of
  pub word_put_queues_past : (n c : ℕ) → n ≤ contracts → n ≤ c →
      get_or (put_queues area counts queues n) (first_word c i + word) 0 ≡ get_or area (first_word c i + word) 0
  unfolding put_queues
  word_put_queues_past zero c k past = refl
  word_put_queues_past (suc d) c k past =
      word_put_queue_other (put_queues area counts queues d) d (get_or counts d 0) (queues d) i word place b (fits d k) (few d k) (short d k) c
      (λ e. omega arith) ∙ word_put_queues_past d c (omega arith) (omega arith)

  pub word_put_queues : (n c : ℕ) → n ≤ contracts → c < n → get_or (put_queues area counts queues n) (first_word c i + word) 0
      ≡ pick (ltb i (length (queues c))) (word_of word (get_or (queues c) i no_order)) (pick (ltb i (get_or counts c 0)) 0 (get_or area (first_word c i + word) 0))
  unfolding put_queues
  word_put_queues zero c k h = absurd (omega arith)
  word_put_queues (suc d) c k h = by_contract (eqb d c) refl (λ l. word_put_queues d c (omega arith) l)
    where
      told : ℕ → ℕ
      told was = pick (ltb i (length (queues c))) (word_of word (get_or (queues c) i no_order)) (pick (ltb i (get_or counts c 0)) 0 was)

      by_contract : (t : Bool) → eqb d c ≡ t → (c < d → get_or (put_queues area counts queues d) (first_word c i + word) 0 ≡ told (get_or area (first_word c i + word) 0)) →
          get_or (put_queue (put_queues area counts queues d) d (get_or counts d 0) (queues d)) (first_word c i + word) 0 ≡ told (get_or area (first_word c i + word) 0)
      by_contract true e ih =
          let s = eqb-true d c e in
          rw s
          (word_put_queue (put_queues area counts queues c) c (get_or counts c 0) (queues c) i word place b (fits c (omega arith))
          ∙ ap told (word_put_queues_past c c (omega arith) (omega arith)))
      by_contract false e ih =
          let apart : d ≡ c → ⊥ = eqb-false d c e in
          let l : c < d = ⊎_elim (λ p. absurd (apart (sym p))) (λ p. p) (eq-or-lt_of_le (le_of_suc-le-suc h)) in
          word_put_queue_other (put_queues area counts queues d) d (get_or counts d 0) (queues d) i word place b (fits d k) (few d k) (short d k) c apart ∙ ih l
