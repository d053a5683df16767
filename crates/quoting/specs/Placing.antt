-- A quote as the code places it: the tests on the state alone, the old quote gone, an order of it entered or refused, and what has to
-- be put back where it is refused. Assumes nothing.
use Rattle.std.specs.Prelude.{Some, None, Option, Ok, Err, Result, false, List, ◌++◌, ◌≡◌, ℕ, ◌+◌, ◌*◌, eqb, leb, length, take, drop}
use Rattle.areas.specs.Lists.{over}
use Rattle.laws.specs.Choice.{pick}
use Rattle.rules.specs.Answers.{Refusal, first_of, listing_of, named_refusals, not_continuous, order_refusals}
use Rattle.rules.specs.Bounds.{max_resting, trades_with_room}
use Rattle.rules.specs.Codes.{code_number}
use Rattle.rules.specs.Exchange.{Exchange, account_at, holder_of, own, place_of}
use Rattle.rules.specs.Kinds.{refused}
use Rattle.rules.specs.Memory.{Memory, AfterCommand, exchange_of, in_memory, memory, put, queue_stride, step_in, trade_stride}
use Rattle.rules.specs.Quote.{offer_refusals, without_quote_of}
use Rattle.rules.specs.WellFormed.{quotes}
use Rattle.rules.specs.declared.Command.{Command}
use Rattle.rules.specs.declared.Command.TheVariants.{Quote}
use Rattle.rules.specs.declared.NewOrder.{NewOrder}
use Rattle.rules.specs.declared.State.{State}
use Rattle.rules.specs.declared.codes.Code.{Code}
use Rattle.engine.specs.Decision.{with_listed}
use Rattle.engine.specs.Outcome.{OutcomeIs, refused_with}
use Rattle.engine.specs.declared.answers.Outcome.{Outcome}
use Rattle.engine.specs.declared.updates.Listed.{Listed}
use Rattle.engine.specs.declared.updates.Quoted.{Quoted}
use Rattle.quoting.specs.declared.Rested.{Rested}
use Rattle.refusals.specs.Insertion.{Present}
use Rattle.insertion.specs.Entry.{entered_in}

-- 2, 3, 4, 23, 24: what a quote is refused for before its orders are looked at
abbrev pub early_refusals : Exchange → ℕ → ℕ → ℕ → ℕ → List Refusal
early_refusals x account contract buy sell =
    named_refusals x not_continuous account contract ++ offer_refusals (holder_of x account) buy sell

-- the account's old quote taken out of the contract's queues
abbrev pub gone_in : Memory → ℕ → ℕ → Memory
gone_in m account contract = put m (without_quote_of (exchange_of m) account contract)

-- .. and nothing else is: the accounts are the same, and so is the state once the contract is written
pub record GoneIs (s : State) (buys sells trades : List ℕ) (account contract : ℕ) (gone : State) (buys' sells' : List ℕ) : Type 0 where
  pub lies : memory gone buys' sells' trades ≡ gone_in (memory s buys sells trades) account contract
  pub accounts : gone.accounts ≡ s.accounts
  pub rest : (l : Listed) → l.place ≡ place_of contract → with_listed gone l ≡ with_listed s l

-- ---- an order of a quote, on the state that the step before it leaves

-- a maker's open, with no marked order of its account on its side
pub record Quotable (s : State) (buys sells trades : List ℕ) (o : NewOrder) : Type 0 where
  pub present : Present s o
  pub opens : o.close ≡ false
  pub maker : (account_at (exchange_of (memory s buys sells trades)).accounts (place_of o.account)).maker ≡ 1
  pub single : quotes (place_of o.account) (own o.sell (listing_of (exchange_of (memory s buys sells trades)) o)) ≡ 0

-- refused with its code from 5 on, or entered with the next number, marked
abbrev pub marked_in : Memory → NewOrder → AfterCommand
marked_in m o =
    pick (eqb (first_of (order_refusals (exchange_of m) o)) 0)
    (entered_in m o m.state.next 1 (m.state.next + 1))
    (in_memory m (refused (first_of (order_refusals (exchange_of m) o))))

-- what a step on a state gives: refused, it leaves the state
abbrev pub outcome_in : State → Result Outcome Code → Outcome
outcome_in s (Ok r) = r
outcome_in s (Err code) = refused_with s (code_number code)

-- ---- both orders

-- an area that is as it was once n words of it from a place on are put back
pub record Undoable (at n : ℕ) (before after : List ℕ) : Type 0 where
  pub long : length after ≡ length before
  pub back : over after at (take n (drop at before)) ≡ before

-- where the trades begin that the buy can make, and those before the end of the day's room
abbrev pub made_from : ℕ → ℕ
made_from recorded = trade_stride * pick (leb recorded trades_with_room) recorded trades_with_room

-- accepted as the rules say; or refused with the rules' code, and each area can be put back
pub record PlacedIs (s : State) (buys sells trades : List ℕ) (account contract lots buy sell : ℕ) (r : Outcome) (buys' sells' trades' : List ℕ) : Type 0 where
  pub accepted : r.answer.code ≡ 0 → OutcomeIs (step_in (memory s buys sells trades) (Quote account contract lots buy sell)) r buys' sells' trades'
  pub refused : (r.answer.code ≡ 0 → ⊥) → OutcomeIs (step_in (memory s buys sells trades) (Quote account contract lots buy sell)) r buys sells trades
  pub buys_back : (r.answer.code ≡ 0 → ⊥) → Undoable (queue_stride * place_of contract) queue_stride buys buys'
  pub sells_back : (r.answer.code ≡ 0 → ⊥) → Undoable (queue_stride * place_of contract) queue_stride sells sells'
  pub trades_back : (r.answer.code ≡ 0 → ⊥) → Undoable (made_from s.tradecount) (trade_stride * max_resting) trades trades'

-- ---- the way on which nothing trades

-- it rests as the rules say, and leaves the contract so
pub record Rests (s : State) (buys sells trades : List ℕ) (o : NewOrder) (r : Rested) (buys' sells' : List ℕ) : Type 0 where
  pub place : r.listed.place ≡ place_of o.contract
  pub code : r.answer.code ≡ 0
  pub outcome : OutcomeIs (marked_in (memory s buys sells trades) o) (record { answer = r.answer; state = with_listed s r.listed }) buys' sells' trades

-- an order refused or resting; or it would trade, and both queues are as they were
abbrev pub RestedIs : State → List ℕ → List ℕ → List ℕ → NewOrder → Result (Option Rested) Code → List ℕ → List ℕ → Type 0
RestedIs s buys sells trades o (Ok (Some r)) buys' sells' = Rests s buys sells trades o r buys' sells'
RestedIs s buys sells trades o (Ok None) buys' sells' = (buys' ≡ buys) × (sells' ≡ sells)
RestedIs s buys sells trades o (Err code) buys' sells' = OutcomeIs (marked_in (memory s buys sells trades) o) (refused_with s (code_number code)) buys' sells' trades

-- the quote that is asked for
abbrev pub asked : Quoted → Command
asked q = Quote q.account q.contract q.lots q.buy q.sell

-- each queue of the contract can be put back
pub record PutBack (buys sells : List ℕ) (q : Quoted) (buys' sells' : List ℕ) : Type 0 where
  pub of_buys : Undoable (queue_stride * place_of q.contract) queue_stride buys buys'
  pub of_sells : Undoable (queue_stride * place_of q.contract) queue_stride sells sells'

-- both rest as the rules say, and leave the contract so
pub record BothRest (s : State) (buys sells trades : List ℕ) (q : Quoted) (r : Rested) (buys' sells' : List ℕ) : Type 0 where
  pub place : r.listed.place ≡ place_of q.contract
  pub outcome : OutcomeIs (step_in (memory s buys sells trades) (asked q)) (record { answer = r.answer; state = with_listed s r.listed }) buys' sells' trades

-- the rules refuse it with that code
pub record BothRefused (s : State) (buys sells trades : List ℕ) (q : Quoted) (code : ℕ) (buys' sells' : List ℕ) : Type 0 where
  pub outcome : OutcomeIs (step_in (memory s buys sells trades) (asked q)) (refused_with s code) buys sells trades
  pub back : PutBack buys sells q buys' sells'

-- both orders: resting or the quote refused; or one would trade. Where they do not rest, each queue can be put back
abbrev pub RestedBothIs : State → List ℕ → List ℕ → List ℕ → Quoted → Result (Option Rested) Code → List ℕ → List ℕ → Type 0
RestedBothIs s buys sells trades q (Ok (Some r)) buys' sells' = BothRest s buys sells trades q r buys' sells'
RestedBothIs s buys sells trades q (Ok None) buys' sells' = PutBack buys sells q buys' sells'
RestedBothIs s buys sells trades q (Err code) buys' sells' = BothRefused s buys sells trades q (code_number code) buys' sells'
