-- What a caller may rely on whatever lies in the memory past the counts: a refusal changes nothing, and room beyond a count affects no
-- answer. Assumes nothing.
use Rattle.laws.specs.Logic.{Bool, true, false, List, [], ◌∷◌, ◌≡◌, refl, sym, ap, ap₂, subst, ◌∙◌}
use Rattle.laws.specs.Numbers.{ℕ, ◌<◌, leb, length, get_or}
use Rattle.laws.specs.Choice.{pick, all, all_ext, by_test}
use Rattle.rules.specs.Bounds.{max_resting}
use Rattle.rules.specs.Condition3.{run}
use Rattle.rules.specs.Exchange.{Exchange, Listing, listing_at}
use Rattle.rules.specs.Kinds.{decide, step}
use Rattle.rules.specs.Memory.{Memory, counts_in_range, exchange_of, has_room, in_memory, listing_in, put, put_state, respond, step_in, well_formed_memory, written}
use Rattle.rules.specs.Step.{answer_of}
use Rattle.rules.specs.declared.{Command.Command, Order.Order}
use Rattle.theory.proofs.Codecs.{length_queue, length_trades}
use Rattle.theory.proofs.InUse.{contracts_in_use, listing_in_use}
use Rattle.theory.proofs.Stages.{decided}
use Rattle.invariants.specs.InUse.{AgreeInUse, refusal_in}
use Rattle.invariants.proofs.MemoryKeeps.{memory_keeps, read_back}
use Rattle.invariants.proofs.MemoryRoom.{memory_ok, room_test}

-- ---- "a refusal gives three zeros and changes nothing"

step_refused : (m : Memory) (c : Command) → ((step_in m c).answer.code ≡ 0 → ⊥) → step_in m c ≡ refusal_in m (step_in m c).answer.code
unfolding step_in
step_refused m c =
    decided (λ d. (d.answer.code ≡ 0 → ⊥) → in_memory m d ≡ refusal_in m d.answer.code) (exchange_of m) c
    (λ e h. absurd (h refl))
    (λ e h. refl)

-- A REFUSAL CHANGES NOTHING: whatever the state and its areas hold, well formed or not
pub refusal_changes_nothing : (m : Memory) (c : Command) → ((respond m c).answer.code ≡ 0 → ⊥) → respond m c ≡ refusal_in m (respond m c).answer.code
unfolding respond
refusal_changes_nothing m c = by_test (well_formed_memory m) (λ w. rw w (step_refused m c)) (λ w. rw w (λ h. refl))

-- ---- "Room beyond a count affects no answer"

module _ (m n : Memory) (s : AgreeInUse m n) where
  same_contracts : m.state.contractcount ≡ n.state.contractcount
  same_contracts = sym (contracts_in_use m) ∙ ap (λ (x : Exchange). length x.listings) s.contents ∙ contracts_in_use n

  trades_counted : (m : Memory) → length (exchange_of m).trades ≡ m.state.tradecount
  unfolding exchange_of
  trades_counted m = length_trades m.trades m.state.tradecount

  same_listing : (c : ℕ) → c < m.state.contractcount → listing_in m c ≡ listing_in n c
  same_listing c h =
      sym (listing_in_use m c h) ∙ ap (λ (x : Exchange). listing_at x c) s.contents ∙ listing_in_use n c (subst (λ (k : ℕ). c < k) same_contracts h)

  buys_counted : (m : Memory) (c : ℕ) → length (listing_in m c).buys ≡ get_or m.state.buycounts c 0
  unfolding listing_in
  buys_counted m c = length_queue m.buys c (get_or m.state.buycounts c 0)

  sells_counted : (m : Memory) (c : ℕ) → length (listing_in m c).sells ≡ get_or m.state.sellcounts c 0
  unfolding listing_in
  sells_counted m c = length_queue m.sells c (get_or m.state.sellcounts c 0)

  -- a side's counts, in range in both or in neither
  few : (own : Listing → List Order) (counts : Memory → List ℕ) → ((m : Memory) (c : ℕ) → length (own (listing_in m c)) ≡ get_or (counts m) c 0)
      → all (λ c. leb (get_or (counts m) c 0) max_resting) m.state.contractcount ≡ all (λ c. leb (get_or (counts n) c 0) max_resting) m.state.contractcount
  few own counts counted =
      all_ext _ _ m.state.contractcount
      (λ c h. ap (λ (k : ℕ). leb k max_resting) (sym (counted m c) ∙ ap (λ (l : Listing). length (own l)) (same_listing c h) ∙ counted n c))

  same_counts : counts_in_range m.state ≡ counts_in_range n.state
  unfolding counts_in_range
  same_counts =
      rw (few (λ l. l.buys) (λ m. m.state.buycounts) buys_counted, few (λ l. l.sells) (λ m. m.state.sellcounts) sells_counted)
      (rw (same_contracts, s.accounts, sym (trades_counted m) ∙ ap (λ (x : Exchange). length x.trades) s.contents ∙ trades_counted n) refl)

  -- both are well formed, or neither
  same_test : well_formed_memory m ≡ well_formed_memory n
  unfolding well_formed_memory
  same_test = rw (same_counts, s.room, s.contents) refl

-- a state written over another has as many accounts
written_accounts : (m : Memory) (xs : List Exchange) → (written m xs).state.accountcount ≡ m.state.accountcount
unfolding put put_state
written_accounts m [] = refl
written_accounts m (x ∷ xs) = written_accounts (put m x) xs

accounts_stay : (m : Memory) (c : Command) → (respond m c).memory.state.accountcount ≡ m.state.accountcount
unfolding respond step_in
accounts_stay m c = by_test (well_formed_memory m) (λ w. rw w (written_accounts m (decide (exchange_of m) c).stages)) (λ w. rw w refl)

unmoved : (m : Memory) (c : Command) → well_formed_memory m ≡ false → (respond m c).memory ≡ m
unfolding respond
unmoved m c w = rw w refl

-- the answer, by the test and by what is in use
answer_by : (m : Memory) (c : Command) → (respond m c).answer ≡ pick (well_formed_memory m) (decide (exchange_of m) c).answer (answer_of 21 0 0 0)
unfolding respond step_in
answer_by m c = by_test (well_formed_memory m) (λ w. rw w refl) (λ w. rw w refl)

module _ (m n : Memory) (s : AgreeInUse m n) (c : Command) where
  -- one command: the same answer
  one_answer : (respond m c).answer ≡ (respond n c).answer
  one_answer =
      answer_by m c ∙ ap₂ (λ (t : Bool) (x : Exchange). pick t (decide x c).answer (answer_of 21 0 0 0)) (same_test m n s) s.contents
      ∙ sym (answer_by n c)

  kept_room : (m : Memory) → well_formed_memory m ≡ true → has_room (respond m c).memory ≡ true
  kept_room m w = room_test (respond m c).memory (memory_ok (respond m c).memory (memory_keeps m c w)).room

  -- .. and memories that agree in use
  still_agree : AgreeInUse (respond m c).memory (respond n c).memory
  still_agree =
      by_test (well_formed_memory m)
      (λ w. let v : well_formed_memory n ≡ true = sym (same_test m n s) ∙ w in
      record {
        accounts = accounts_stay m c ∙ s.accounts ∙ sym (accounts_stay n c);
        contents = read_back m c w ∙ ap (λ (x : Exchange). step x c) s.contents ∙ sym (read_back n c v);
        room = kept_room m w ∙ sym (kept_room n v);
      })
      (λ w. let v : well_formed_memory n ≡ false = sym (same_test m n s) ∙ w in
      rw (unmoved m c w, unmoved n c v) s)

-- ROOM BEYOND A COUNT AFFECTS NO ANSWER: after any list of commands the two agree in use, and any further command gets one answer
pub run_agrees : (m n : Memory) → AgreeInUse m n → (cs : List Command) → AgreeInUse (run m cs) (run n cs)
unfolding run
run_agrees m n s [] = s
run_agrees m n s (c ∷ cs) = run_agrees (respond m c).memory (respond n c).memory (still_agree m n s c) cs

pub room_affects_no_answer : (m n : Memory) → AgreeInUse m n → (cs : List Command) (c : Command) → (respond (run m cs) c).answer ≡ (respond (run n cs) c).answer
room_affects_no_answer m n s cs c = one_answer (run m cs) (run n cs) (run_agrees m n s cs) c
