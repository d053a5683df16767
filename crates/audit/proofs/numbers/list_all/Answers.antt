use borrow.Rule.Slice.PartMut.{mid_len, mid_of, same_len_mid}
use Rattle.std.proofs.Common.{◌≡◌, ◌+◌, ◌-◌, ◌*◌, ◌<◌, ◌≤◌, ◌∙◌, List, ℕ, get_or, length, refl, arith, rules}
use Rattle.rules.specs.Bounds.{max_resting}
use Rattle.rules.specs.Memory.{listing_in, queue_in, word_of}
use Rattle.rules.specs.declared.Order.{Order}
use Rattle.rules.specs.declared.State.{State}
use Rattle.theory.proofs.Codecs.{length_queue}
use Rattle.invariants.proofs.MemoryRoom.{counts_ok}
use Rattle.audit.specs.Parts.{QueuesReady, max_listed}
use Rattle.audit.proofs.FieldLists.{listed_more, listed_none}
use Rattle.audit.proofs.Rooms.{contract_in, few_buys, few_sells}
use Rattle.audit.proofs.numbers.list_all.Goals as goal

-- how many orders a queue has
counted : (area : List ℕ) (c n : ℕ) {k : ℕ} {q : List Order} → k ≡ length q → q ≡ queue_in area c n → k ≡ n
counted area c n e is = e ∙ rw is (length_queue area c n)

-- there is room for the queues of one more contract
room : {s : State} {buys sells : List ℕ} → QueuesReady s buys sells → {c count bought sold : ℕ} → c < s.contractcount → count ≤ 2 * max_resting * c
    → bought ≡ get_or s.buycounts c 0 → sold ≡ get_or s.sellcounts c 0 → count + bought + sold ≤ max_listed
room r h few b s = omega (arith, few_buys r h, few_sells r h, contract_in r h)

-- a part has the length that was asked for
part : (a n : ℕ) (l : List ℕ) → length l ≡ max_listed → a + n ≤ max_listed → length (mid_of a (a + n - a) l) ≡ n
part a n l e h = mid_len a (a + n) l (omega arith) ∙ omega arith

pub loop-c-init : goal.loop-c-init
loop-c-init c = (search rules, omega arith, listed_none (word_of c.args.word) _)

pub overflow_add-middle : goal.overflow_add-middle
overflow_add-middle c = omega (arith, room c.args.queues.now.ready c.loop-c-test.true c.loop-c.invariant.1 (counted _ _ _ c.len.ensures c.bids-bids.ensures) refl)

pub overflow_add-end : goal.overflow_add-end
overflow_add-end c =
    omega (
      arith,
      room c.args.queues.now.ready c.loop-c-test.true c.loop-c.invariant.1
          (counted _ _ _ c.len.ensures c.bids-bids.ensures) (counted _ _ _ c.len-in-loop-c.ensures c.offers-offers.ensures),
    )

pub slice_bounds-list_queue-end : goal.slice_bounds-list_queue-end
slice_bounds-list_queue-end c =
    let r = room c.args.queues.now.ready c.loop-c-test.true c.loop-c.invariant.1
    (counted _ _ _ c.len.ensures c.bids-bids.ensures) (counted _ _ _ c.len-in-loop-c.ensures c.offers-offers.ensures) in
    search rules

pub slice_bounds-list_queue-end-in-loop-c : goal.slice_bounds-list_queue-end-in-loop-c
slice_bounds-list_queue-end-in-loop-c c =
    let r = room c.args.queues.now.ready c.loop-c-test.true c.loop-c.invariant.1
    (counted _ _ _ c.len.ensures c.bids-bids.ensures) (counted _ _ _ c.len-in-loop-c.ensures c.offers-offers.ensures) in
    search rules

pub loop-c-preserved : goal.loop-c-preserved
unfolding listing_in
loop-c-preserved c =
    let bought = counted _ _ _ c.len.ensures c.bids-bids.ensures in
    let sold = counted _ _ _ c.len-in-loop-c.ensures c.offers-offers.ensures in
    let r = room c.args.queues.now.ready c.loop-c-test.true c.loop-c.invariant.1 bought sold in
    let l = same_len_mid c.loop-c.count _ c.loop-c.list _ c.list_queue.auto.values in
    let m = same_len_mid (c.loop-c.count + c.len.result) _ _ _ c.list_queue-in-loop-c.auto.values in
    let p = part c.loop-c.count c.len.result _ c.loop-c.invariant.0 (omega arith) in
    let q = part (c.loop-c.count + c.len.result) c.len-in-loop-c.result _ (l ∙ c.loop-c.invariant.0) (omega arith) in (
      m ∙ l ∙ c.loop-c.invariant.0,
      omega (arith, bought, sold, few_buys c.args.queues.now.ready c.loop-c-test.true, few_sells c.args.queues.now.ready c.loop-c-test.true),
      listed_more (word_of c.args.word) _ c.loop-c.c c.loop-c.list _ _ c.loop-c.count _ _ _ _ c.loop-c.invariant.2
          (omega (arith, c.list_queue.auto.values, p))
          (omega (arith, c.list_queue-in-loop-c.auto.values, q)) (omega arith)
          (rw c.bids-bids.ensures at c.list_queue.ensures)
          (rw c.offers-offers.ensures at c.list_queue-in-loop-c.ensures),
    )

pub returns : goal.returns
returns c =
    let all : c.loop-c.c ≡ c.args.queues.now.state.now.contractcount = omega arith in
    (omega (arith, (counts_ok _ c.args.queues.now.ready.counts).contracts_high), rw all at c.loop-c.invariant.2)
