-- A pull: a queue walked from front to back, the orders that satisfy a test taken out and the others written closed up. What holds when i
-- orders are read and `kept` of them are kept, what a turn does to it, and the end. Assumes nothing.
use borrow.Rule.Slice.PartMut.{put_mid}
use Rattle.laws.specs.Logic.{Bool, true, false, List, [], ◌∷◌, ◌++◌, append-nil, ◌≡◌, refl, sym, ap, ◌∙◌}
use Rattle.laws.specs.Numbers.{ℕ, ◌+◌, ◌-◌, ◌*◌, ◌<◌, ◌≤◌, add-one, arith, length, get_or, take, drop, replicate, length-append, take_all}
use Rattle.laws.specs.Numbers.{take-suc}
use Rattle.areas.specs.Lists.{over, padded}
use Rattle.areas.specs.Records.{encode, store}
use Rattle.areas.proofs.Lists.{drop_over}
use Rattle.areas.proofs.Moves.{lent_zeros}
use Rattle.areas.proofs.Records.{length_encode, length_store, encode_one, encode_zeros, store_append, store_nil, store_over}
use Rattle.rules.specs.Exchange.{lots_where, no_order}
use Rattle.rules.specs.Memory.{order_words, order_from, queue_in, put_queue, order_stride, queue_stride, first_word}
use Rattle.rules.specs.Step.{without}
use Rattle.rules.specs.declared.Order.{Order}
use Rattle.theory.proofs.Codecs.{order_codec, length_queue, order_at_lem}
use Rattle.theory.proofs.Queue.{lots_nil, lots_met, lots_unmet, lots_append, without_nil, without_met, without_unmet, without_append}
use Rattle.book.specs.Removal.{RemovedIs}
use Rattle.book.proofs.Queues.{put_over}

-- ---- the walk

-- the orders kept of the first i
abbrev pub kept_of : (Order → Bool) → List ℕ → ℕ → ℕ → ℕ → List Order
kept_of test start c n i = without test (take i (queue_in start c n))

-- `start` is the area at the start, `lots` what was taken out; no order adds more to it than its word holds
pub record Pulling (test : Order → Bool) (start : List ℕ) (c n : ℕ) (area : List ℕ) (kept lots i : ℕ) : Type 0 where
  pub within : i ≤ n
  pub fewer : kept ≤ i
  pub long : length area ≡ length start
  pub small : lots ≤ 4294967296 * i
  pub count : kept ≡ length (kept_of test start c n i)
  pub pulled : lots ≡ lots_where test (take i (queue_in start c n))
  pub queue : area ≡ store order_words start (queue_stride * c) (kept_of test start c n i)

pub pull_start : (test : Order → Bool) (area : List ℕ) (c n : ℕ) → Pulling test area c n area 0 0 0
pull_start test area c n =
    record {
      within = omega arith;
      fewer = omega arith;
      long = refl;
      small = omega arith;
      count = rw (without_nil test);
      pulled = sym (lots_nil test);
      queue = sym (rw (without_nil test) (store_nil order_codec area (queue_stride * c)));
    }

module _ (test : Order → Bool) (start : List ℕ) (c n : ℕ) (room : first_word c n ≤ length start) (area : List ℕ) (kept lots i : ℕ) (p : Pulling test start c n area kept lots i) where
  -- from order i on nothing is written yet
  unread : drop (first_word c i) area ≡ drop (first_word c i) start
  unread =
      let stay : List Order = kept_of test start c n i in
      let written : length (encode order_words stay) ≡ order_stride * kept = length_encode order_codec stay ∙ ap (λ (k : ℕ). order_stride * k) (sym p.count) in
      ap (drop (first_word c i)) (p.queue ∙ store_over order_codec start (queue_stride * c) stay)
      ∙ drop_over start (queue_stride * c) (encode order_words stay) (omega arith) (first_word c i) (omega (arith, p.fewer))

  -- orders written behind those kept
  behind : (s : ℕ) (more : List Order) → s ≡ first_word c kept
      → over area s (encode order_words more) ≡ store order_words start (queue_stride * c) (kept_of test start c n i ++ more)
  behind s more es =
      let stay : List Order = kept_of test start c n i in
      let next : s ≡ first_word c (length stay) = es ∙ ap (λ (k : ℕ). first_word c k) p.count in
      sym (store_over order_codec area s more) ∙ ap (λ (a : List ℕ). store order_words a s more) p.queue
      ∙ ap (λ (k : ℕ). store order_words (store order_words start (queue_stride * c) stay) k more) next
      ∙ sym (store_append order_codec start (queue_stride * c) stay more (omega arith))

  module _ (o : Order) (h : i < n) (e : o ≡ order_from (drop (first_word c i) area)) where
    -- the first i orders and one more
    one_more : take (i + 1) (queue_in start c n) ≡ take i (queue_in start c n) ++ (o ∷ [])
    one_more =
        let read : get_or (queue_in start c n) i no_order ≡ o = order_at_lem start c n i h ∙ sym (e ∙ ap order_from unread) in
        rw (add-one, take-suc (queue_in start c n) i no_order (rw (length_queue start c n) h), read)

    -- an order of the account goes
    pub pull_out : (a : ℕ) → a ≡ o.lots → a < 4294967296 → test o ≡ true → Pulling test start c n area kept (lots + a) (i + 1)
    pull_out a ea fits met =
        let first : List Order = take i (queue_in start c n) in
        let stay : kept_of test start c n (i + 1) ≡ without test first =
        rw (one_more, without_append test first (o ∷ []), without_met test o [] met, without_nil test, append-nil) in
        let out : lots_where test (take (i + 1) (queue_in start c n)) ≡ lots + a =
        rw one_more (omega (arith, p.pulled, lots_append test first (o ∷ []), lots_met test o [] met, lots_nil test)) in
        record {
          within = omega arith;
          fewer = omega (arith, p.fewer);
          long = p.long;
          small = omega (arith, p.small);
          count = p.count ∙ ap length (sym stay);
          pulled = sym out;
          queue = p.queue ∙ ap (store order_words start (queue_stride * c)) (sym stay);
        }

    -- another stays
    pub pull_past : (s : ℕ) (part : List ℕ) → test o ≡ false → s ≡ first_word c kept → part ≡ order_words o ++ drop order_stride (take (length area - s) (drop s area))
        → Pulling test start c n (put_mid s (length area - s) area part) (kept + 1) lots (i + 1)
    pull_past s part unmet es ep =
        let first : List Order = take i (queue_in start c n) in
        let few : kept ≤ i = p.fewer in
        let long : length area ≡ length start = p.long in
        let stay : kept_of test start c n (i + 1) ≡ without test first ++ (o ∷ []) =
        rw (one_more, without_append test first (o ∷ []), without_unmet test o [] unmet, without_nil test) in
        let out : lots_where test (take (i + 1) (queue_in start c n)) ≡ lots =
        rw one_more (omega (arith, p.pulled, lots_append test first (o ∷ []), lots_unmet test o [] unmet, lots_nil test)) in
        let size : length (kept_of test start c n (i + 1)) ≡ kept + 1 = rw (stay, length-append) (omega (arith, p.count)) in
        let written : put_mid s (length area - s) area part ≡ store order_words start (queue_stride * c) (kept_of test start c n (i + 1)) =
        put_over area s o part (omega arith) ep ∙ ap (over area s) (sym (encode_one order_codec o)) ∙ behind s (o ∷ []) es ∙ ap (store order_words start (queue_stride * c)) (sym stay) in
        record {
          within = omega arith;
          fewer = omega arith;
          long = ap length written ∙ length_store order_codec start (queue_stride * c) (kept_of test start c n (i + 1)) (omega arith);
          small = omega (arith, p.small);
          count = sym size;
          pulled = sym out;
          queue = written;
        }

  -- the places behind those kept are cleared
  cleared : (s e : ℕ) (part : List ℕ) → s ≡ first_word c kept → e ≡ first_word c n → part ≡ replicate (length (take (e - s) (drop s area))) 0
      → put_mid s (e - s) area part ≡ put_queue start c n (kept_of test start c n i)
  unfolding put_queue padded
  cleared s e part es ee ep =
      let few : kept ≤ n = omega (arith, p.fewer, p.within) in
      let free : e - s ≡ order_stride * (n - kept) = omega arith in
      let zeros : replicate (e - s) 0 ≡ encode order_words (replicate (n - kept) no_order) = rw (free, encode_zeros order_codec (n - kept) no_order refl) in
      rw (lent_zeros area part s e (omega arith) (omega (arith, p.long)) ep, zeros, behind s (replicate (n - kept) no_order) es, p.count)

  -- all are read
  pub pull_end : (s e : ℕ) (part : List ℕ) → n ≤ i → s ≡ first_word c kept → e ≡ first_word c n → part ≡ replicate (length (take (e - s) (drop s area))) 0
      → RemovedIs test start c n kept lots (put_mid s (e - s) area part)
  pull_end s e part all es ee ep =
      let read : take i (queue_in start c n) ≡ queue_in start c n = take_all i (queue_in start c n) (rw (length_queue start c n) all) in
      record { queue = cleared s e part es ee ep ∙ rw read; count = p.count ∙ rw read; lots = p.pulled ∙ rw read }
