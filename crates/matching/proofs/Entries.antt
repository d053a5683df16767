-- An order entered: what a remainder does to its own queue, what is left of the opposite one without its filled orders, and both
-- as one answer. Assumes nothing.
use Rattle.laws.specs.Logic.{Bool, List, ◌++◌, ◌≡◌, refl, sym, ap, ◌∙◌}
use Rattle.laws.specs.Numbers.{ℕ, zero, suc, ◌+◌, ◌-◌, ◌≤◌, arith, length, take, drop, length-append, length-take-le, drop_at}
use Rattle.laws.specs.Choice.{pick}
use Rattle.rules.specs.Matching.{sweep, rest_in, remainder, rest_lots, rested_lots, enter}
use Rattle.rules.specs.Memory.{queue_in, put_queue, order_stride, first_word}
use Rattle.rules.specs.declared.{Account.Account, Order.Order, Taker.Taker}
use Rattle.theory.proofs.Codecs.{length_queue, put_queue_lem, queue_put, put_queue_again}
use Rattle.theory.proofs.Fillable.{swept_at_most}
use Rattle.theory.proofs.Queue.{length_rest_in}
use Rattle.matching.specs.Entry.{EntryReady, EntryIs}
use Rattle.matching.specs.Sweep.{FilledIs}
use Rattle.matching.specs.declared.sweep.Filled.{Filled}

-- ---- the own queue

rests_not : (t : Taker) (price lots : ℕ) (queue : List Order) → lots ≡ 0 → rest_lots t price lots queue ≡ queue
unfolding rest_lots
rests_not t price lots queue e = rw e

rests_in_lem : (t : Taker) (price lots : ℕ) (queue : List Order) → (lots ≡ 0 → ⊥)
    → rest_lots t price lots queue ≡ rest_in t.sell (record { price = price; number = t.number; account = t.account; lots = lots; close = t.close; stamp = t.stamp; quote = t.quote }) queue
unfolding rest_lots remainder
rests_in_lem t price zero queue some = absurd (some refl)
rests_in_lem t price (suc n) queue some = refl

module _ (t : Taker) (price lots : ℕ) (owns : List ℕ) (c count : ℕ) where
  pub none_rests : lots ≡ 0 → first_word c (length (rest_lots t price lots (queue_in owns c count))) ≤ length owns
      → (count ≡ length (rest_lots t price lots (queue_in owns c count))) × (owns ≡ put_queue owns c count (rest_lots t price lots (queue_in owns c count)))
  none_rests e room =
      let q : rest_lots t price lots (queue_in owns c count) ≡ queue_in owns c count = rests_not t price lots (queue_in owns c count) e in
      let l : length (rest_lots t price lots (queue_in owns c count)) ≡ count = ap length q ∙ length_queue owns c count in
      (sym l, sym (rw q (put_queue_lem owns c count (omega arith))))

  module _ (some : lots ≡ 0 → ⊥) where
    length_rests : length (rest_lots t price lots (queue_in owns c count)) ≡ count + 1
    length_rests = rw (rests_in_lem t price lots (queue_in owns c count) some, length_rest_in, length_queue owns c count) (omega arith)

    pub rest_room : first_word c (length (rest_lots t price lots (queue_in owns c count))) ≤ length owns → first_word c count + order_stride ≤ length owns
    rest_room room = omega (arith, length_rests)

    pub some_rests : {owns' : List ℕ}
        → owns' ≡ put_queue owns c count (rest_in t.sell (record { price = price; number = t.number; account = t.account; lots = lots; close = t.close; stamp = t.stamp; quote = t.quote }) (queue_in owns c count))
        → (count + 1 ≡ length (rest_lots t price lots (queue_in owns c count))) × (owns' ≡ put_queue owns c count (rest_lots t price lots (queue_in owns c count)))
    some_rests e = (sym length_rests, e ∙ ap (put_queue owns c count) (sym (rests_in_lem t price lots (queue_in owns c count) some)))

-- ---- the opposite queue

-- with its first k orders taken out
pub front_dropped : (queues queues' : List ℕ) (c count k : ℕ) (rest : List Order) → first_word c count ≤ length queues → k + length rest ≡ count
    → queues' ≡ put_queue queues c count (take k (queue_in queues c count) ++ rest)
    → put_queue queues' c count (drop k (queue_in queues' c count)) ≡ put_queue queues c count rest
front_dropped queues queues' c count k rest room l e =
    let front : List Order = take k (queue_in queues c count) in
    let lf : length front ≡ k = length-take-le k (queue_in queues c count) (rw length_queue (omega arith)) in
    let lq : length (front ++ rest) ≡ count = rw (length-append, lf) l in
    let q : queue_in queues' c count ≡ front ++ rest
    = rw e (ap (queue_in (put_queue queues c count (front ++ rest)) c) (sym lq) ∙ queue_put queues c count (front ++ rest) (omega arith)) in
    ap (λ (os : List Order). put_queue queues' c count (drop k os)) q ∙ ap (put_queue queues' c count) (drop_at front rest k lf)
    ∙ ap (λ (a : List ℕ). put_queue a c count rest) e ∙ put_queue_again queues c count (front ++ rest) rest (omega arith) (omega arith)

-- ---- the answer

module _ {t : Taker} {lots price : ℕ} {day : Bool} {last : ℕ} {held : List Account} {owns : List ℕ} {own : ℕ} {opposites : List ℕ} {opposite : ℕ} {area : List ℕ} {before : ℕ}
    (ready : EntryReady t lots price day last held owns own opposites opposite area before) {f : Filled} {opposites₁ area' : List ℕ}
    (swept : FilledIs (sweep t lots last (queue_in opposites t.contract opposite)) opposites t.contract opposite area before last held f opposites₁ area') where
  pub traded_within : f.traded ≤ lots
  traded_within = omega (arith, swept.traded, swept_at_most t lots last (queue_in opposites t.contract opposite))

  module _ {rested c : ℕ} (er : rested ≡ pick day (lots - f.traded) 0) (ec : c ≡ t.contract) where
    rested_is : rested ≡ rested_lots day lots (sweep t lots last (queue_in opposites t.contract opposite)).trades
    unfolding rested_lots
    rested_is = er ∙ rw swept.traded

    own_is : rest_lots t price rested (queue_in owns c own) ≡ (enter t lots price day last (queue_in owns t.contract own) (queue_in opposites t.contract opposite)).own
    unfolding enter
    own_is = rw (rested_is, ec)

    pub rests_ready : first_word c (length (rest_lots t price rested (queue_in owns c own))) ≤ length owns
    rests_ready = omega (arith, ready.rests, ap length own_is)

    pub entered : {owns' opposites' : List ℕ} {resting : ℕ}
        → opposites' ≡ put_queue opposites₁ c opposite (drop f.filled (queue_in opposites₁ c opposite))
        → (resting ≡ length (rest_lots t price rested (queue_in owns c own))) × (owns' ≡ put_queue owns c own (rest_lots t price rested (queue_in owns c own)))
        → EntryIs (enter t lots price day last (queue_in owns t.contract own) (queue_in opposites t.contract opposite)) t.contract owns own opposites opposite area before last held
        (record { traded = f.traded; rested = rested; own = resting; opposite = opposite - f.filled; made = f.made; last = f.last; accounts = f.accounts }) owns' opposites' area'
    unfolding enter
    entered eo (el, eq) =
        let s = sweep t lots last (queue_in opposites t.contract opposite) in
        record {
          traded = swept.traded;
          rested = rested_is;
          own_count = el ∙ ap length own_is;
          opposite_count = omega (arith, swept.filled);
          made = swept.made;
          last = swept.last;
          accounts = swept.accounts;
          own_queue_lem = eq ∙ ap (λ (k : ℕ). put_queue owns k own (rest_lots t price rested (queue_in owns c own))) ec ∙ ap (put_queue owns t.contract own) own_is;
          opposite_queue_lem = eo ∙ rw ec (front_dropped opposites opposites₁ t.contract opposite f.filled s.rest ready.sweeps.queue swept.filled swept.queue);
          trades = swept.trades;
        }
