-- A run of commands: what it keeps of its states, and the moves of money by which it goes from one to the next; and a run in
-- parts. The first rests on two facts about one command, `kept` and `read_back`, which are parameters of the last section. Assumes
-- nothing else.
use lib.IntN.{ℤ, pos, neg_ℤ, ◌+ℤ◌, ◌-ℤ◌, +ℤ_idl, +ℤ_idr}
use Rattle.laws.specs.Logic.{Bool, true, false, ◌&&◌, false≢true, List, [], ◌∷◌, ◌++◌, ◌≡◌, refl, sym, ap, ap₂, ◌∙◌}
use Rattle.laws.specs.Numbers.{ℕ, ◌+◌, ◌<◌, arith, eq-eqb, eqb, length}
use Rattle.laws.specs.Choice.{pick, both_true, by_test}
use Rattle.laws.specs.Ring.{d_eq, ring}
use Rattle.laws.specs.Sums.{sum_of}
use Rattle.rules.specs.Condition3.{run, is_accepted, move_of, moves_of, in_to, out_of, paid_in, paid_out, made_by, made, trades_made, accounts_of, contracts_of}
use Rattle.rules.specs.Exchange.{Exchange}
use Rattle.rules.specs.Kinds.{Move, pays_in, pays_out, makes, settles, code_of, step}
use Rattle.rules.specs.Memory.{Memory, exchange_of, Declared, counts_in_range, has_room, well_formed_memory, step_in, respond}
use Rattle.rules.specs.WellFormed.{well_formed_contents}
use Rattle.rules.specs.declared.Command.{Command}
use Rattle.theory.proofs.Stages.{decided}
use Rattle.accounting.specs.Books.{books_of, Reached, stay, move, paid_by, paid, position}
use Rattle.accounting.specs.Money.{net_now, AllKnown}
use Rattle.accounting.specs.Shape.{Shaped}
use Rattle.accounting.proofs.Declared.{declared_shaped, declared_kept}
use Rattle.accounting.proofs.Facts.{facts, known_trades}
use Rattle.accounting.proofs.Identity.{net_moves, placed}
use Rattle.accounting.proofs.EachKind.{step_shape, step_moves}
use Rattle.accounting.proofs.StepMoves.{Makes, nothing_moves}
use Rattle.accounting.proofs.StepShape.{SameShape, same_shape, shape_trans}

-- ---- acceptance

step_in_code : (m : Memory) (command : Command) → eqb (step_in m command).answer.code 0 ≡ eqb (code_of (exchange_of m) command) 0
unfolding step_in
step_in_code m command =
    decided (λ d. eqb d.answer.code 0 ≡ eqb (code_of (exchange_of m) command) 0) (exchange_of m) command
    (λ e. sym (eq-eqb _ 0 e)) (λ e. refl)

module _ (m : Memory) (c : Command) where
  pub accepted_is : well_formed_memory m ≡ true → is_accepted m c ≡ eqb (code_of (exchange_of m) c) 0
  unfolding is_accepted respond
  accepted_is w = rw w (step_in_code m c)

  -- a state that is not well formed accepts nothing and stays as it is
  pub never_accepted : well_formed_memory m ≡ false → is_accepted m c ≡ false
  unfolding is_accepted respond
  never_accepted w = rw w

  pub stays_so : well_formed_memory m ≡ false → (respond m c).memory ≡ m
  unfolding respond
  stays_so w = rw w

pub in_wellformed : (m : Memory) → well_formed_memory m ≡ true → well_formed_contents (exchange_of m) ≡ true
unfolding well_formed_memory
in_wellformed m w = (both_true (counts_in_range m.state && has_room m) (well_formed_contents (exchange_of m)) w).1

-- ---- payments of moves

paid_move : (a : ℕ) (v : Move) → paid_by a v ≡ pos (in_to a v) -ℤ pos (out_of a v)
unfolding paid_by in_to out_of
paid_move a (pays_in account amount) = by_account (eqb account a)
  where
    by_account : (whose : Bool) → pick whose (pos amount) (pos 0) ≡ pos (pick whose amount 0) -ℤ pos 0
    by_account true = sym (+ℤ_idr (pos amount))
    by_account false = refl
paid_move a (pays_out account amount) = by_account (eqb account a)
  where
    by_account : (whose : Bool) → pick whose (neg_ℤ (pos amount)) (pos 0) ≡ pos 0 -ℤ pos (pick whose amount 0)
    by_account true = sym (+ℤ_idl (neg_ℤ (pos amount)))
    by_account false = refl
paid_move a (makes ts) = refl
paid_move a (settles price) = refl

paid_moves : (a : ℕ) (vs : List Move) → paid a vs ≡ pos (sum_of (in_to a) vs) -ℤ pos (sum_of (out_of a) vs)
unfolding paid sum_of
paid_moves a [] = refl
paid_moves a (v ∷ vs) = ap₂ (λ (y z : ℤ). y +ℤ z) (paid_move a v) (paid_moves a vs) ∙ simp ring (d_eq _ _ _ _ (omega arith))

pub paid_is : (a : ℕ) (m : Memory) (cs : List Command) → paid a (moves_of m cs) ≡ pos (paid_in a m cs) -ℤ pos (paid_out a m cs)
unfolding paid_in paid_out
paid_is a m cs = paid_moves a (moves_of m cs)

pub made_is : (m : Memory) (cs : List Command) → made (moves_of m cs) ≡ trades_made m cs
unfolding trades_made
made_is m cs = refl

-- ---- a run in parts

pub run_append : (m : Memory) (as' bs : List Command) → run m (as' ++ bs) ≡ run (run m as') bs
unfolding run
run_append m [] bs = refl
run_append m (c ∷ as') bs = run_append (respond m c).memory as' bs

pub run_last : (m : Memory) (before : List Command) (c : Command) → run m (before ++ (c ∷ [])) ≡ (respond (run m before) c).memory
unfolding run
run_last m before c = run_append m before (c ∷ [])

-- ---- a run from a state that is not well formed: it answers 21 to everything, and nothing moves

module _ (m : Memory) (w : well_formed_memory m ≡ false) where
  pub run_stays : (cs : List Command) → run m cs ≡ m
  unfolding run
  run_stays [] = refl
  run_stays (c ∷ cs) = rw (stays_so m c w) (run_stays cs)

  pub none_accepted : (before : List Command) (c : Command) → is_accepted (run m before) c ≡ true → ⊥
  none_accepted before c e = false≢true (sym (never_accepted m c w) ∙ ap (λ (k : Memory). is_accepted k c) (sym (run_stays before)) ∙ e)

  nothing_in : (a : ℕ) (cs : List Command) → sum_of (in_to a) (moves_of m cs) ≡ 0
  unfolding moves_of move_of sum_of in_to
  nothing_in a [] = refl
  nothing_in a (c ∷ cs) = rw (never_accepted m c w, stays_so m c w, nothing_in a cs)

  nothing_out : (a : ℕ) (cs : List Command) → sum_of (out_of a) (moves_of m cs) ≡ 0
  unfolding moves_of move_of sum_of out_of
  nothing_out a [] = refl
  nothing_out a (c ∷ cs) = rw (never_accepted m c w, stays_so m c w, nothing_out a cs)

  pub nothing_paid_in : (a : ℕ) (cs : List Command) → paid_in a m cs ≡ 0
  unfolding paid_in
  nothing_paid_in a cs = nothing_in a cs

  pub nothing_paid_out : (a : ℕ) (cs : List Command) → paid_out a m cs ≡ 0
  unfolding paid_out
  nothing_paid_out a cs = nothing_out a cs

  pub nothing_traded : (cs : List Command) → trades_made m cs ≡ []
  unfolding trades_made moves_of move_of made made_by
  nothing_traded [] = refl
  nothing_traded (c ∷ cs) = rw (never_accepted m c w, stays_so m c w) (nothing_traded cs)

-- ---- what a run keeps of its states: trades are between accounts in use, and the holdings are the positions

pub record Sound (x : Exchange) : Type 0 where
  pub known : AllKnown (length x.accounts) x.trades
  pub net : (a c : ℕ) → a < length x.accounts → c < length x.listings → net_now x a c ≡ position (books_of x) a c

sound : (x : Exchange) → well_formed_contents x ≡ true → Shaped x → Sound x
unfolding position books_of
sound x w h = record {
  known = known_trades x x.trades (facts x w).trades;
  net = λ a c l k. net_moves x (facts x w).replay a c (placed x h a c l k);
}

pub formed_sound : (m : Memory) → Declared m.state → well_formed_memory m ≡ true → Sound (exchange_of m)
formed_sound m d w = sound (exchange_of m) (in_wellformed m w) (declared_shaped m d w)

-- ---- the run

-- the state that a command leaves
abbrev next : Memory → Command → Exchange
next m c = exchange_of (respond m c).memory

module _
    (kept : (m : Memory) (c : Command) → well_formed_memory m ≡ true → well_formed_memory (respond m c).memory ≡ true)
    (read_back : (m : Memory) (c : Command) → well_formed_memory m ≡ true → exchange_of (respond m c).memory ≡ step (exchange_of m) c) where
  module _ (m : Memory) (c : Command) (d : Declared m.state) where
    one_shape : SameShape (exchange_of m) (next m c)
    one_shape =
        by_test (well_formed_memory m) (λ w. rw (read_back m c w) (step_shape (exchange_of m) c))
        (λ w. rw (stays_so m c w) (same_shape (exchange_of m)))

    next_sound : Sound (exchange_of m) → Sound (next m c)
    next_sound s =
        by_test (well_formed_memory m) (λ w. formed_sound (respond m c).memory (declared_kept m c d) (kept m c w))
        (λ w. rw (stays_so m c w) s)

    pub one_move : Makes (exchange_of m) (move_of m c) (next m c)
    unfolding move_of
    one_move =
        by_test (well_formed_memory m)
        (λ w. rw (read_back m c w, accepted_is m c w)
        (step_moves (exchange_of m) (facts (exchange_of m) (in_wellformed m w)).replay (declared_shaped m d w) c))
        (λ w. rw (stays_so m c w, never_accepted m c w) (nothing_moves (exchange_of m)))

  pub end_declared : (m : Memory) (cs : List Command) → Declared m.state → Declared (run m cs).state
  unfolding run
  end_declared m [] d = d
  end_declared m (c ∷ cs) d = end_declared (respond m c).memory cs (declared_kept m c d)

  pub end_shape : (m : Memory) (cs : List Command) → Declared m.state → SameShape (exchange_of m) (exchange_of (run m cs))
  unfolding run
  end_shape m [] d = same_shape (exchange_of m)
  end_shape m (c ∷ cs) d = shape_trans (one_shape m c d) (end_shape (respond m c).memory cs (declared_kept m c d))

  pub end_sound : (m : Memory) (cs : List Command) → Declared m.state → Sound (exchange_of m) → Sound (exchange_of (run m cs))
  unfolding run
  end_sound m [] d s = s
  end_sound m (c ∷ cs) d s = end_sound (respond m c).memory cs (declared_kept m c d) (next_sound m c d s)

  pub end_reached : (accounts contracts : ℕ) (m : Memory) (cs : List Command) → accounts_of m ≡ accounts → contracts_of m ≡ contracts →
      Declared m.state → Sound (exchange_of m) → Reached accounts contracts (books_of (exchange_of m)) (moves_of m cs) (books_of (exchange_of (run m cs)))
  unfolding run moves_of books_of
  end_reached accounts contracts m [] e f d s = stay
  end_reached accounts contracts m (c ∷ cs) e f d s =
      move (rw e at s.known) (rw (e, f) at (one_move m c d))
      (end_reached accounts contracts (respond m c).memory cs ((one_shape m c d).accounts ∙ e) ((one_shape m c d).listings ∙ f) (declared_kept m c d) (next_sound m c d s))
