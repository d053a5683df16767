-- WHAT A COMMAND IS, one clause a kind, to be held beside document 01: the refusals in the order in which they are tried, what
-- the command answers and does when it is accepted, and the money that it moves then. The code, the step, the payments and the
-- trades of condition 3 are all read off it. Assumes nothing.
use Rattle.std.specs.Prelude.{true, not, List, [], ◌∷◌, ℕ, eqb}
use Rattle.laws.specs.Choice.{pick}
use Rattle.rules.specs.Answers.{Refusal, ◌when◌, first_of, deposit_refusals, withdraw_refusals, insert_refusals, cancel_refusals, pull_refusals, phase_refusals, settle_refusals}
use Rattle.rules.specs.Auction.{match_of}
use Rattle.rules.specs.Change.{asked, change_refusals, changed, change_trades}
use Rattle.rules.specs.Bounds.{phase_known}
use Rattle.rules.specs.Exchange.{Exchange, place_of}
use Rattle.rules.specs.Quote.{offered, quote_refusals, quoted, quote_trades}
use Rattle.rules.specs.Settlement.{settlement_price}
use Rattle.rules.specs.Step.{Effect, answer_of, deposited, withdrawn, entered_of, inserted, cancelled, pulled, phase_changed, settled_all}
use Rattle.rules.specs.declared.Answer.{Answer}
use Rattle.rules.specs.declared.Trade.{Trade}
use Rattle.rules.specs.declared.Command.{Command}
use Rattle.rules.specs.declared.Command.TheVariants.{Malformed, Deposit, Withdraw, Insert, Cancel, Pull, Phase, Settle, Quote, Change}

-- what moves money: an account is paid an amount, or pays it; trades are made; all is settled, at a price for each contract
pub data Move : Type 0 where
  pays_in : (account amount : ℕ) → Move
  pays_out : (account amount : ℕ) → Move
  makes : List Trade → Move
  settles : (ℕ → ℕ) → Move

abbrev pub nothing : Move
nothing = makes []

pub record Kind : Type 0 where
  -- "given exactly when (first in the order below)"
  pub refusals : List Refusal
  -- what it answers and does when none of them holds
  pub effect : Effect
  -- the money that it moves then
  pub moves : Move

abbrev pub no_effect : Effect
no_effect = record { number = 0; traded = 0; lots = 0; stages = [] }

unfoldable pub kind_of : Exchange → Command → Kind
-- 1: "kind, flag value or unused field is wrong"; first of all but 21, and so never accepted
kind_of x Malformed =
    record { refusals = (1 when true) ∷ []; effect = no_effect; moves = nothing }
-- 1 deposit
kind_of x (Deposit account amount) =
    record {
      refusals = deposit_refusals x account amount;
      effect = deposited x (place_of account) amount;
      moves = pays_in (place_of account) amount;
    }
-- 2 withdraw
kind_of x (Withdraw account amount) =
    record {
      refusals = withdraw_refusals x account amount;
      effect = withdrawn x (place_of account) amount;
      moves = pays_out (place_of account) amount;
    }
-- 3 insert
kind_of x (Insert o) =
    record {
      refusals = insert_refusals x o;
      effect = inserted x o;
      moves = makes (entered_of x x.next 0 o).trades;
    }
-- 4 cancel
kind_of x (Cancel account contract operator number) =
    record {
      refusals = cancel_refusals x account contract operator number;
      effect = cancelled x (place_of contract) number;
      moves = nothing;
    }
-- 5 pull
kind_of x (Pull account contract operator) =
    record {
      refusals = pull_refusals x account contract operator;
      effect = pulled x (place_of account) (place_of contract);
      moves = nothing;
    }
-- 6 state; an unknown flag that no bytes give is 1 here too
kind_of x (Phase contract phase) =
    record {
      refusals = (1 when not (phase_known phase)) ∷ phase_refusals x contract phase;
      effect = phase_changed x (place_of contract) phase;
      moves = makes (match_of x (place_of contract)).trades;
    }
-- 7 settle
kind_of x Settle =
    record {
      refusals = settle_refusals x;
      effect = settled_all x;
      moves = settles (settlement_price x);
    }
-- 8 quote
kind_of x (Quote account contract lots buy sell) =
    record {
      refusals = quote_refusals x (offered account contract lots buy sell);
      effect = quoted x (offered account contract lots buy sell);
      moves = makes (quote_trades x (offered account contract lots buy sell));
    }
-- 9 change
kind_of x (Change account contract number lots price) =
    record {
      refusals = change_refusals x (asked account contract number lots price);
      effect = changed x (asked account contract number lots price);
      moves = makes (change_trades x (asked account contract number lots price));
    }

-- ---- the step of a well-formed state

-- the code that a command gets
unfoldable pub code_of : Exchange → Command → ℕ
code_of x command = first_of (kind_of x command).refusals

-- an answer, and the states that lead to what it leaves, each written over the last
pub record Decision : Type 0 where
  pub answer : Answer
  pub stages : List Exchange

-- "a refusal gives three zeros and changes nothing"
abbrev pub refused : ℕ → Decision
refused code = record { answer = answer_of code 0 0 0; stages = [] }

abbrev pub done : Effect → Decision
done e = record { answer = answer_of 0 e.number e.traded e.lots; stages = e.stages }

-- the first refusal that holds, or else what the command does
unfoldable pub decide : Exchange → Command → Decision
decide x command = pick (eqb (code_of x command) 0) (done (kind_of x command).effect) (refused (code_of x command))

-- the last of the stages; the state itself where there is none
abbrev pub last_of : Exchange → List Exchange → Exchange
last_of x [] = x
last_of x (y ∷ ys) = last_of y ys

-- THE STEP: the state that a command leaves
unfoldable pub step : Exchange → Command → Exchange
step x command = last_of x (decide x command).stages
