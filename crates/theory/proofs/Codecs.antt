-- Orders and trades as they lie in the areas: their codecs, and the laws of records written over as many places as were in
-- use, for a queue and for the day's trades. Assumes nothing.
use lib.ListN.{replicate-append-replicate}
use Rattle.laws.specs.Logic.{Bool, true, false, List, [], ◌++◌, append-nil, append_assoc, ◌⊎◌, ⊎_elim, inl, inr, ◌≡◌, refl, sym, ap, ◌∙◌}
use Rattle.laws.specs.Numbers.{ℕ, zero, suc, ◌+◌, ◌-◌, ◌*◌, ◌<◌, ◌≤◌, max, le_of_suc-le-suc, eq-or-lt_of_le, add-zero, zero-add, mul-le-mul_left, arith}
use Rattle.laws.specs.Numbers.{eqb-true, eqb-false, leb-true, leb-false, ltb-true, ltb-false, eqb, leb, ltb, length, get_or, take, drop, replicate, length-append}
use Rattle.laws.specs.Numbers.{length-drop, length-replicate, length-take, take-append-drop, get_or-take, get_or-drop}
use Rattle.laws.specs.Tabulate.{tabulate, tabulate_take}
use Rattle.laws.specs.Choice.{by_test}
use Rattle.areas.specs.Lists.{over, padded}
use Rattle.areas.specs.Records.{Codec, decode, encode, records, store}
use Rattle.areas.proofs.Lists.{take_over, drop_over, drop_padded, padded_full}
use Rattle.areas.proofs.Records.{length_encode, length_records, get_d_records, length_store, store_front, store_append, store_records, records_store_front, records_store_before, records_store_after}
use Rattle.rules.specs.Bounds.{max_resting, max_trades}
use Rattle.rules.specs.Exchange.{no_order, no_trade}
use Rattle.rules.specs.Memory.{order_words, order_from, trade_words, trade_from, queue_in, recorded_trades, put_queue, put_queues, put_trades, order_stride, queue_stride, trade_stride, first_word, word_of, trades_words}
use Rattle.rules.specs.declared.{Order.Order, Trade.Trade}

-- ---- the codecs

pub order_codec : Codec Order order_stride order_words order_from
unfolding tabulate
order_codec = record { wide = λ o. refl; back = λ o ys. refl; forth = λ xs h. tabulate_take order_stride xs 0 h }

pub trade_codec : Codec Trade trade_stride trade_words trade_from
unfolding tabulate
trade_codec = record { wide = λ t. refl; back = λ t ys. refl; forth = λ xs h. tabulate_take trade_stride xs 0 h }

-- ---- records written over n places: the places that they do not fill get z

module _ {A : Type 0} where
  -- a write over one that is no longer
  over_longer : (l : List A) (at : ℕ) (ys zs : List A) → at ≤ length l → length ys ≤ length zs → over (over l at ys) at zs ≡ over l at zs
  unfolding over
  over_longer l at ys zs b h =
      let t : take at (over l at ys) ≡ take at l = take_over l at ys b at (omega arith) in
      let d : drop (at + length zs) (over l at ys) ≡ drop (at + length zs) l = drop_over l at ys b (at + length zs) (omega arith) in
      rw (t, d)

  pub length_filled : (n : ℕ) (z : A) (os : List A) → length (padded n z os) ≡ max n (length os)
  unfolding padded
  length_filled n z os = simp (length-append, length-replicate) (omega arith)

  filled_up : (n : ℕ) (z : A) (os : List A) → n ≤ length os → padded n z os ≡ os
  unfolding padded
  filled_up n z os h =
      let e : n - length os ≡ 0 = omega arith in
      rw (e, append-nil)

  -- places that are filled either way
  same_fill : (m n : ℕ) (z : A) (os : List A) → m - length os ≡ n - length os → padded m z os ≡ padded n z os
  unfolding padded
  same_fill m n z os e = rw e

  more_fill : (m n : ℕ) (z : A) (os : List A) → max m (length os) ≤ n → padded m z os ++ replicate (n - max m (length os)) z ≡ padded (max n m) z os
  unfolding padded
  more_fill m n z os h =
      let e : m - length os + (n - max m (length os)) ≡ max n m - length os = omega arith in
      rw (append_assoc, replicate-append-replicate, e)

module _ {A : Type 0} {W : ℕ} {words : A → List ℕ} {first : List ℕ → A} (C : Codec A W words first) (z : A) where
  pub records_put : (a : List ℕ) (base n : ℕ) (os : List A) → base ≤ length a
      → records W first (store words a base (padded n z os)) base (length os) ≡ os
  unfolding padded
  records_put a base n os h = records_store_front C a base (length os) os (replicate (n - length os) z) h refl

  pub put_records : (a : List ℕ) (base n : ℕ) → base + W * n ≤ length a → store words a base (padded n z (records W first a base n)) ≡ a
  put_records a base n h =
      let e : padded n z (records W first a base n) ≡ records W first a base n = rw (length_records C a base n) at (padded_full z (records W first a base n)) in
      rw e (store_records C a base n h)

  pub length_put : (a : List ℕ) (base n : ℕ) (os : List A) → base + W * max n (length os) ≤ length a
      → length (store words a base (padded n z os)) ≡ length a
  length_put a base n os h = length_store C a base (padded n z os) (rw length_filled h)

  -- a put over one of no more records: its own fill reaches as far
  put_longer : (a : List ℕ) (base n m : ℕ) (os ps : List A) → max n (length os) ≤ max m (length ps) → base ≤ length a
      → store words (store words a base (padded n z os)) base (padded m z ps) ≡ store words a base (padded m z ps)
  unfolding store
  put_longer a base n m os ps k b =
      over_longer a base (encode words (padded n z os)) (encode words (padded m z ps)) b
      (rw (length_encode C (padded n z os), length_encode C (padded m z ps), length_filled n z os, length_filled m z ps) (mul-le-mul_left W k))

  -- a put over one of more records, that are all fill from there on
  put_shorter : (a : List ℕ) (base n m : ℕ) (os ps : List A) → max m (length ps) ≤ n → length os ≤ m → base ≤ length a
      → store words (store words a base (padded n z os)) base (padded m z ps) ≡ store words a base (padded m z ps ++ replicate (n - max m (length ps)) z)
  put_shorter a base n m os ps k h b =
      let i : ℕ = max m (length ps) in
      let q : List A = padded n z os in
      let l : length (padded m z ps) ≡ length (take i q) = rw (length_filled m z ps, length-take, length_filled n z os) (omega arith) in
      let e : q ≡ take i q ++ replicate (n - i) z = sym (rw (← drop_padded n i z os (omega arith)) (take-append-drop i q)) in
      ap (λ (r : List A). store words (store words a base r) base (padded m z ps)) e ∙ store_front C a base (take i q) (replicate (n - i) z) (padded m z ps) b l

  pub put_put : (a : List ℕ) (base n m : ℕ) (os ps : List A) → length os ≤ m → base ≤ length a
      → store words (store words a base (padded n z os)) base (padded m z ps) ≡ store words a base (padded (max n m) z ps)
  put_put a base n m os ps h b =
      by_test (leb n (max m (length ps)))
      (λ e. let k = leb-true n (max m (length ps)) e in
      put_longer a base n m os ps (omega arith) b ∙ ap (λ (r : List A). store words a base r) (same_fill m (max n m) z ps (omega arith)))
      (λ e. let k = leb-false n (max m (length ps)) e in
      put_shorter a base n m os ps (omega arith) h b ∙ ap (λ (r : List A). store words a base r) (more_fill m n z ps (omega arith)))

  pub store_more : (a : List ℕ) (base n : ℕ) (os : List A) → base + W * n ≤ length a
      → store words a (base + W * n) os ≡ store words a base (padded n z (records W first a base n ++ os))
  store_more a base n os h =
      let q : List A = records W first a base n in
      let e : padded n z (q ++ os) ≡ q ++ os = filled_up n z (q ++ os) (rw (length-append, length_records C a base n) (omega arith)) in
      rw (e, store_append C a base q os (omega arith), length_records C a base n, store_records C a base n h)

-- ---- a queue read

-- one order's words
pub order_words_lem : (area : List ℕ) (k : ℕ) → order_from (drop k area)
    ≡ record {
      price = get_or area k 0;
      number = get_or area (k + 1) 0;
      account = get_or area (k + 2) 0;
      lots = get_or area (k + 3) 0;
      close = get_or area (k + 4) 0;
      stamp = get_or area (k + 5) 0;
      quote = get_or area (k + 6) 0;
    }
order_words_lem area k = simp (get_or-drop, add-zero)

pub order_word : (area : List ℕ) (at word : ℕ) → word < order_stride → at + order_stride ≤ length area → get_or area (at + word) 0 ≡ word_of word (order_from (drop at area))
order_word area at word h room =
    let f : order_words (order_from (drop at area)) ≡ take order_stride (drop at area) = order_codec.forth (drop at area) (rw length-drop (omega arith)) in
    sym (ap (λ (ws : List ℕ). get_or ws word 0) f ∙ get_or-take order_stride (drop at area) word 0 h ∙ get_or-drop at area word 0)

module _ (area : List ℕ) (c n : ℕ) where
  pub length_queue : length (queue_in area c n) ≡ n
  unfolding queue_in
  length_queue = length_records order_codec area (queue_stride * c) n

  pub order_at_lem : (i : ℕ) → i < n → get_or (queue_in area c n) i no_order ≡ order_from (drop (first_word c i) area)
  unfolding queue_in
  order_at_lem i h = get_d_records order_codec area (queue_stride * c) n i no_order h

pub before_or_after : (c d : ℕ) → (c ≡ d → ⊥) → (c < d) ⊎ (d < c)
before_or_after c d apart =
    by_test (ltb c d) (λ e. inl (ltb-true c d e))
    (λ e. ⊎_elim (λ p. absurd (apart (sym p))) (λ l. inr l) (eq-or-lt_of_le (ltb-false c d e)))

-- ---- a queue written: `room` for 64 orders, and no more than 64 before and after

-- writing what is there changes nothing
pub put_queue_lem : (area : List ℕ) (c n : ℕ) → first_word c n ≤ length area → put_queue area c n (queue_in area c n) ≡ area
unfolding put_queue queue_in
put_queue_lem area c n room = put_records order_codec no_order area (queue_stride * c) n room

module _ (area : List ℕ) (c n : ℕ) (q : List Order) where
  pub queue_put : queue_stride * c ≤ length area → queue_in (put_queue area c n q) c (length q) ≡ q
  unfolding put_queue queue_in
  queue_put room = records_put order_codec no_order area (queue_stride * c) n q room

  pub length_put_queue : n ≤ max_resting → length q ≤ max_resting → queue_stride * c + queue_stride ≤ length area → length (put_queue area c n q) ≡ length area
  unfolding put_queue
  length_put_queue few short room = length_put order_codec no_order area (queue_stride * c) n q (omega arith)

  -- the second of two writes stays; the places that the first cleared stay clear
  pub put_queue_put_queue : (m : ℕ) (r : List Order) → length q ≤ m → queue_stride * c ≤ length area
      → put_queue (put_queue area c n q) c m r ≡ put_queue area c (max n m) r
  unfolding put_queue
  put_queue_put_queue m r h room = put_put order_codec no_order area (queue_stride * c) n m q r h room

  pub put_queue_again : (r : List Order) → length q ≤ n → queue_stride * c ≤ length area → put_queue (put_queue area c n q) c n r ≡ put_queue area c n r
  put_queue_again r h room =
      let e : max n n ≡ n = omega arith in
      put_queue_put_queue n r h room ∙ ap (λ (k : ℕ). put_queue area c k r) e

  -- another contract's queue
  module _ (few : n ≤ max_resting) (short : length q ≤ max_resting) (d : ℕ) (apart : c ≡ d → ⊥) where
    pub queue_put_other : (m : ℕ) → m ≤ max_resting → queue_stride * c ≤ length area → queue_in (put_queue area c n q) d m ≡ queue_in area d m
    unfolding put_queue queue_in
    queue_put_other m h room =
        ⊎_elim
        (λ (k : c < d). records_store_after order_codec order_codec area (queue_stride * c) (padded n no_order q) (queue_stride * d) m (rw length_filled (omega arith)) room)
        (λ (k : d < c). records_store_before order_codec order_codec area (queue_stride * c) (padded n no_order q) (queue_stride * d) m (omega arith) room)
        (before_or_after c d apart)

-- ---- the queues of all contracts

module _ (area counts : List ℕ) (queues : ℕ → List Order) where
  pub put_queues_same : (n : ℕ) → ((c : ℕ) → c < n → queues c ≡ queue_in area c (get_or counts c 0)) → ((c : ℕ) → c < n → get_or counts c 0 ≤ max_resting)
      → queue_stride * n ≤ length area → put_queues area counts queues n ≡ area
  unfolding put_queues
  put_queues_same zero same few room = refl
  put_queues_same (suc c) same few room =
      rw (put_queues_same c (λ d h. same d (omega arith)) (λ d h. few d (omega arith)) (omega arith), same c (omega arith))
      (put_queue_lem area c (get_or counts c 0) (omega (arith, few c (omega arith))))

  -- one contract's queue alone has changed
  pub put_queues_one : (n d : ℕ) → d < n → ((c : ℕ) → c < n → (d ≡ c → ⊥) → queues c ≡ queue_in area c (get_or counts c 0))
      → ((c : ℕ) → c < n → get_or counts c 0 ≤ max_resting)
      → length (queues d) ≤ max_resting → queue_stride * n ≤ length area → put_queues area counts queues n ≡ put_queue area d (get_or counts d 0) (queues d)
  unfolding put_queues
  put_queues_one zero d h same few short room = absurd (omega arith)
  put_queues_one (suc c) d h same few short room = by_contract (eqb d c) refl (λ l. put_queues_one c d l (λ b k. same b (omega arith)) (λ b k. few b (omega arith)) short (omega arith))
    where
      before : (b : ℕ) → d ≡ c → b < c → d ≡ b → ⊥
      before b e l k = omega arith

      by_contract : (t : Bool) → eqb d c ≡ t → (d < c → put_queues area counts queues c ≡ put_queue area d (get_or counts d 0) (queues d))
          → put_queue (put_queues area counts queues c) c (get_or counts c 0) (queues c) ≡ put_queue area d (get_or counts d 0) (queues d)
      by_contract true e ih =
          let k : d ≡ c = eqb-true d c e in
          rw (put_queues_same c (λ b l. same b (omega arith) (before b k l)) (λ b l. few b (omega arith)) (omega arith), k)
      by_contract false e ih =
          let apart : d ≡ c → ⊥ = eqb-false d c e in
          let l : d < c = ⊎_elim (λ k. absurd (apart k)) (λ k. k) (eq-or-lt_of_le (le_of_suc-le-suc h)) in
          let wide : length (put_queue area d (get_or counts d 0) (queues d)) ≡ length area = length_put_queue area d (get_or counts d 0) (queues d) (few d (omega arith)) short (omega arith) in
          let other : queue_in (put_queue area d (get_or counts d 0) (queues d)) c (get_or counts c 0) ≡ queue_in area c (get_or counts c 0)
          = queue_put_other area d (get_or counts d 0) (queues d) (few d (omega arith)) short c apart (get_or counts c 0) (few c (omega arith)) (omega arith) in
          rw (ih l, same c (omega arith) apart, ← other) (put_queue_lem (put_queue area d (get_or counts d 0) (queues d)) c (get_or counts c 0) (omega (arith, few c (omega arith))))

  -- each within 64 orders, before and after
  module _ (contracts : ℕ) (few : (c : ℕ) → c < contracts → get_or counts c 0 ≤ max_resting) (short : (c : ℕ) → c < contracts → length (queues c) ≤ max_resting) (room : queue_stride * contracts ≤ length area) where
    pub length_put_queues : (n : ℕ) → n ≤ contracts → length (put_queues area counts queues n) ≡ length area
    unfolding put_queues
    length_put_queues zero k = refl
    length_put_queues (suc c) k =
        let ih : length (put_queues area counts queues c) ≡ length area = length_put_queues c (omega arith) in
        length_put_queue (put_queues area counts queues c) c (get_or counts c 0) (queues c) (few c k) (short c k) (omega arith) ∙ ih

    pub queue_put_queues : (n c : ℕ) → n ≤ contracts → c < n → queue_in (put_queues area counts queues n) c (length (queues c)) ≡ queues c
    unfolding put_queues
    queue_put_queues zero c k h = absurd (omega arith)
    queue_put_queues (suc b) c k h = by_contract (eqb b c) refl (λ l. queue_put_queues b c (omega arith) l)
      where
        fits : queue_stride * b ≤ length (put_queues area counts queues b)
        fits = rw (length_put_queues b (omega arith)) (omega arith)

        by_contract : (t : Bool) → eqb b c ≡ t → (c < b → queue_in (put_queues area counts queues b) c (length (queues c)) ≡ queues c)
            → queue_in (put_queue (put_queues area counts queues b) b (get_or counts b 0) (queues b)) c (length (queues c)) ≡ queues c
        by_contract true e ih = rw (← eqb-true b c e) (queue_put (put_queues area counts queues b) b (get_or counts b 0) (queues b) fits)
        by_contract false e ih =
            let apart : b ≡ c → ⊥ = eqb-false b c e in
            let l : c < b = ⊎_elim (λ p. absurd (apart (sym p))) (λ p. p) (eq-or-lt_of_le (le_of_suc-le-suc h)) in
            queue_put_other (put_queues area counts queues b) b (get_or counts b 0) (queues b) (few b k) (short b k) c apart (length (queues c)) (short c (omega arith)) fits ∙ ih l

-- ---- nothing in use

pub queue_none : (area : List ℕ) (c n : ℕ) → n ≡ 0 → queue_in area c n ≡ []
unfolding queue_in records decode
queue_none area c n e = rw e

pub trades_none : (area : List ℕ) → recorded_trades area 0 ≡ []
unfolding recorded_trades records decode
trades_none area = refl

-- ---- the day's trades

module _ (area : List ℕ) (n : ℕ) where
  pub length_trades : length (recorded_trades area n) ≡ n
  unfolding recorded_trades
  length_trades = length_records trade_codec area 0 n

  pub trade_at_lem : (i : ℕ) → i < n → get_or (recorded_trades area n) i no_trade ≡ trade_from (drop (trade_stride * i) area)
  unfolding recorded_trades
  trade_at_lem i h = get_d_records trade_codec area 0 n i no_trade h ∙ rw zero-add

  pub put_trades_lem : trade_stride * n ≤ length area → put_trades area n (recorded_trades area n) ≡ area
  unfolding put_trades recorded_trades
  put_trades_lem room = put_records trade_codec no_trade area 0 n (rw zero-add room)

  -- trades written behind those there are
  pub store_trades : (ts : List Trade) → trade_stride * n ≤ length area → store trade_words area (trade_stride * n) ts ≡ put_trades area n (recorded_trades area n ++ ts)
  unfolding put_trades recorded_trades
  store_trades ts room = ap (λ (k : ℕ). store trade_words area k ts) (sym (zero-add (trade_stride * n))) ∙ store_more trade_codec no_trade area 0 n ts (rw zero-add room)

  module _ (ts : List Trade) where
    pub trades_put : recorded_trades (put_trades area n ts) (length ts) ≡ ts
    unfolding put_trades recorded_trades
    trades_put = records_put trade_codec no_trade area 0 n ts (omega arith)

    pub length_put_trades : n ≤ max_trades → length ts ≤ max_trades → trades_words ≤ length area → length (put_trades area n ts) ≡ length area
    unfolding put_trades
    length_put_trades few short room = length_put trade_codec no_trade area 0 n ts (omega arith)
