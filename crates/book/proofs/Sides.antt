-- The queue asked for as a part of its area: what each test of the code decides, and that the part holds just that queue.
-- Assumes nothing.
use native.Mathlib.Nat.{add-sub_cancel_left}
use Rattle.laws.specs.Logic.{Bool, true, false, ◌||◌, List, [], ◌≡◌, ◌∙◌}
use Rattle.laws.specs.Numbers.{ℕ, ◌-◌, ◌*◌, ◌<◌, ◌≤◌, arith, ltb-false, eq-eqb, ne_eqb, lt-ltb, le-ltb, eqb, ltb, length, get_or, take, drop, length-drop}
use Rattle.laws.specs.Numbers.{length-take-le}
use Rattle.laws.specs.Choice.{pick, either_false}
use Rattle.areas.proofs.Records.{records_part}
use Rattle.rules.specs.Bounds.{max_resting}
use Rattle.rules.specs.Exchange.{own}
use Rattle.rules.specs.Memory.{Memory, listing_in, queue_in, order_stride, queue_stride, first_word}
use Rattle.theory.proofs.Codecs.{order_codec}
use Rattle.rules.specs.Side.{no_queue, queue_words, side_words}

-- ---- the tests in the code's order

module _ (buys sells : List ℕ) (sell : Bool) (contract contracts count : ℕ) where
  pub no_contract_lem : contract ≡ 0 → [] ≡ side_words buys sells sell contract contracts count
  unfolding side_words queue_words no_queue
  no_contract_lem e = rw (eq-eqb contract 0 e)

  module _ (some : contract ≡ 0 → ⊥) where
    pub unlisted : contracts < contract → [] ≡ side_words buys sells sell contract contracts count
    unfolding side_words queue_words no_queue
    unlisted h = rw (ne_eqb contract 0 some, lt-ltb contracts contract h)

    module _ (listed : contract ≤ contracts) where
      pub no_place : 4 < contract → [] ≡ side_words buys sells sell contract contracts count
      unfolding side_words queue_words no_queue
      no_place h = rw (ne_eqb contract 0 some, le-ltb contracts contract listed, lt-ltb 4 contract h)

      module _ (placed : contract ≤ 4) where
        pub too_many : max_resting < count → [] ≡ side_words buys sells sell contract contracts count
        unfolding side_words queue_words no_queue
        too_many h = rw (ne_eqb contract 0 some, le-ltb contracts contract listed, le-ltb 4 contract placed, lt-ltb max_resting count h)

        module _ (few : count ≤ max_resting) (area : List ℕ) (picked : area ≡ pick sell sells buys) where
          pub too_short : length area < first_word (contract - 1) count → [] ≡ side_words buys sells sell contract contracts count
          unfolding side_words queue_words no_queue
          too_short h =
              rw (← picked, ne_eqb contract 0 some, le-ltb contracts contract listed, le-ltb 4 contract placed, le-ltb max_resting count few, lt-ltb (length area) (first_word (contract - 1) count) h)

          pub whole_queue : first_word (contract - 1) count ≤ length area
              → take (first_word (contract - 1) count - queue_stride * (contract - 1)) (drop (queue_stride * (contract - 1)) area) ≡ side_words buys sells sell contract contracts count
          unfolding side_words queue_words no_queue
          whole_queue h =
              rw (← picked, ne_eqb contract 0 some, le-ltb contracts contract listed, le-ltb 4 contract placed, le-ltb max_resting count few, le-ltb (length area) (first_word (contract - 1) count) h, add-sub_cancel_left)

-- ---- the part holds the queue and nothing else

-- an area whose queue can be given is long enough for it
queue_fits : (area : List ℕ) (contract contracts count : ℕ) → no_queue area contract contracts count ≡ false → first_word (contract - 1) count ≤ length area
unfolding no_queue
queue_fits area contract contracts count h =
    let short = ltb (length area) (first_word (contract - 1) count) in
    ltb-false (length area) (first_word (contract - 1) count) (either_false (eqb contract 0 || ltb contracts contract || ltb 4 contract || ltb max_resting count) short h).1

pub side_queue : (buys sells : List ℕ) (sell : Bool) (contract contracts count : ℕ) → no_queue (pick sell sells buys) contract contracts count ≡ false
    → queue_in (side_words buys sells sell contract contracts count) 0 count ≡ queue_in (pick sell sells buys) (contract - 1) count
unfolding side_words queue_words queue_in
side_queue buys sells sell contract contracts count h =
    rw h (records_part order_codec (pick sell sells buys) (queue_stride * (contract - 1)) (order_stride * count) count (omega arith) (queue_fits (pick sell sells buys) contract contracts count h))

pub side_length : (buys sells : List ℕ) (sell : Bool) (contract contracts count : ℕ) → no_queue (pick sell sells buys) contract contracts count ≡ false
    → length (side_words buys sells sell contract contracts count) ≡ order_stride * count
unfolding side_words queue_words
side_length buys sells sell contract contracts count h =
    let fits = queue_fits (pick sell sells buys) contract contracts count h in
    rw h (length-take-le (order_stride * count) (drop (queue_stride * (contract - 1)) (pick sell sells buys)) (rw length-drop (omega arith)))

-- in a memory, it is the queue of the contract's listing
pub side_of_listing : (m : Memory) (sell : Bool) (contract count : ℕ) → count ≡ pick sell (get_or m.state.sellcounts (contract - 1) 0) (get_or m.state.buycounts (contract - 1) 0)
    → no_queue (pick sell m.sells m.buys) contract m.state.contractcount count ≡ false
    → queue_in (side_words m.buys m.sells sell contract m.state.contractcount count) 0 count ≡ own sell (listing_in m (contract - 1))
unfolding listing_in
side_of_listing m true contract count e h = side_queue m.buys m.sells true contract m.state.contractcount count h ∙ rw e
side_of_listing m false contract count e h = side_queue m.buys m.sells false contract m.state.contractcount count h ∙ rw e
