-- The lines of a response in memory are the rules' lines of the command. Assumes nothing.
use mathlib.Core.Bool.{Bool, true, false, ◌&&◌}
use mathlib.Core.List.{List, [], ◌∷◌, ◌++◌}
use mathlib.Core.Path.{◌≡◌, refl, sym, ap, ◌∙◌, subst, subst⁻¹}
use Prim.Native.Nat.{ℕ, zero, suc, ◌<◌}
use borrow.Author.Tests.{eq-eqb, ne_eqb}
use lib.Dec.{eqb}
use lib.IntN.{pos}
use lib.ListN.{length, drop, get_or}
use Rattle.laws.specs.Choice.{pick}
use Rattle.laws.specs.Tabulate.{tabulate, length_tabulate, get_d_tabulate}
use Rattle.areas.specs.Lists.{padded}
use Rattle.areas.proofs.Lists.{get_d_padded}
use Rattle.rules.specs.Bounds.{max_accounts, max_contracts}
use Rattle.rules.specs.Kinds.{code_of, decide, kind_of, step}
use Rattle.rules.specs.Command.{is_settle}
use Rattle.rules.specs.Exchange.{Exchange, account_at, no_account}
use Rattle.rules.specs.Lines.{price_lines, account_lines, settlement_lines, new_trades, step_lines}
use Rattle.rules.specs.Margin.{charged}
use Rattle.rules.specs.Memory.{Declared, Memory, exchange_of, put, put_state, recorded_trades, respond, step_in, well_formed_memory, memory, WellFormedState, written}
use Rattle.rules.specs.Settlement.{closing_profit, holding_profit, settled, settlement_price}
use Rattle.rules.specs.Step.{settled_all}
use Rattle.rules.specs.declared.Account.{Account}
use Rattle.rules.specs.declared.Answer.{Answer}
use Rattle.rules.specs.declared.Command.{Command}
use Rattle.rules.specs.declared.Command.TheVariants.{Settle}
use Rattle.rules.specs.declared.State.{State}
use Rattle.theory.proofs.Codecs.{length_trades}
use Rattle.theory.proofs.EachKind.{settle_is}
use Rattle.theory.proofs.Stages.{decided}
use Rattle.accounting.proofs.Declared.{declared_kept}
use Rattle.invariants.proofs.MemoryKeeps.{memory_keeps, step_in_read}
use Rattle.engine.proofs.Formed.{formed, account_at_lem, accounts_count, contracts_count}
use Rattle.exchange.specs.Response.{ResponseIs, report_of, settlement_report}
use Rattle.exchange.specs.declared.settling.Report.{Report}
use Rattle.exchange.specs.declared.settling.Response.{Response}
use Rattle.endian.specs.Written.{Written}
use Rattle.lines.specs.Tables.{price_line, account_line}
use Rattle.runner.specs.Rows.{rows, price_row, account_row, settlement_rows, report_rows, response_rows}
use Rattle.runner.specs.Turns.{command_most, InRange, TurnIs}
use Rattle.runner.proofs.Tables.{rows_ext}

-- ---- the rules' lines as tables

price_rows : (x : Exchange) (n : ℕ) → price_lines x n ≡ rows (λ c. price_line c (settlement_price x c)) n
unfolding price_lines rows
price_rows x zero = refl
price_rows x (suc n) = rw (price_rows x n)

abbrev account_rule : Exchange → Exchange → ℕ → List ℕ
account_rule x after a = account_line a (closing_profit x a) (holding_profit x a) (account_at after.accounts a).balance (charged after a)

account_rows : (x after : Exchange) (n : ℕ) → account_lines x after n ≡ rows (account_rule x after) n
unfolding account_lines rows
account_rows x after zero = refl
account_rows x after (suc n) = rw (account_rows x after n)

-- what a report has at a place in use
reported : {A : Type 0} (most n : ℕ) (f : ℕ → A) (z : A) (i : ℕ) → i < n → get_or (padded most z (tabulate n f)) i z ≡ f i
reported most n f z i h = get_d_padded most i z z (tabulate n f) (rw length_tabulate h) ∙ get_d_tabulate n i f z h

-- ---- a step in memory and the rules' step

step_in_answer : (m : Memory) (command : Command) → (step_in m command).answer ≡ (decide (exchange_of m) command).answer
unfolding step_in
step_in_answer m command = refl

-- what is written changes no count of contracts and accounts
written_contracts : (m : Memory) (ys : List Exchange) → (written m ys).state.contractcount ≡ m.state.contractcount
unfolding put put_state
written_contracts m [] = refl
written_contracts m (y ∷ ys) = written_contracts (put m y) ys

written_accounts : (m : Memory) (ys : List Exchange) → (written m ys).state.accountcount ≡ m.state.accountcount
unfolding put put_state
written_accounts m [] = refl
written_accounts m (y ∷ ys) = written_accounts (put m y) ys

step_in_contracts : (m : Memory) (command : Command) → (step_in m command).memory.state.contractcount ≡ m.state.contractcount
unfolding step_in
step_in_contracts m command = written_contracts m (decide (exchange_of m) command).stages

step_in_accounts : (m : Memory) (command : Command) → (step_in m command).memory.state.accountcount ≡ m.state.accountcount
unfolding step_in
step_in_accounts m command = written_accounts m (decide (exchange_of m) command).stages

-- the answer's code is the command's
decided_code : (x : Exchange) (command : Command) → eqb (decide x command).answer.code 0 ≡ eqb (code_of x command) 0
decided_code x command =
    decided (λ d. eqb d.answer.code 0 ≡ eqb (code_of x command) 0) x command (λ e. sym (eq-eqb (code_of x command) 0 e)) (λ e. refl)

settle_after : (x : Exchange) → eqb (code_of x Settle) 0 ≡ true → step x Settle ≡ settled x
unfolding step decide kind_of settled_all
settle_after x q = rw q

-- ---- the three ways of a report

module _ (command : Command) (r : Response) where
  pub report_none : is_settle command ≡ false → report_rows command r ≡ []
  unfolding report_rows
  report_none e = rw e

  pub report_refused : is_settle command ≡ true → (r.answer.code ≡ 0 → ⊥) → report_rows command r ≡ []
  unfolding report_rows
  report_refused e n = rw (e, ne_eqb r.answer.code 0 n)

  pub report_made : is_settle command ≡ true → r.answer.code ≡ 0 → report_rows command r ≡ settlement_rows r.state r.report
  unfolding report_rows
  report_made e n = rw (e, eq-eqb r.answer.code 0 n)

-- ---- a response

module _ {s : State} {buys sells trades : List ℕ} (w : WellFormedState s buys sells trades) (r : Response) {buys' sells' trades' : List ℕ}
    (w' : WellFormedState r.state buys' sells' trades') where
  abbrev m : Memory
  m = memory s buys sells trades

  abbrev x : Exchange
  x = exchange_of m

  abbrev m' : Memory
  m' = memory r.state buys' sells' trades'

  pub in_range_lem : InRange r trades'
  in_range_lem =
      let f = formed w' in
      record { contracts = f.contracts_high; accounts = f.accounts_high; count = f.trades_high; room = f.trades_room }

  module _ (command : Command) (is : ResponseIs m command r buys' sells' trades') where
    after_is : exchange_of m' ≡ step x command
    after_is = ap exchange_of is.memory ∙ step_in_read m w.formed command

    answer_is : r.answer ≡ (decide x command).answer
    answer_is = is.answer ∙ step_in_answer m command

    contracts_are : r.state.contractcount ≡ length x.listings
    contracts_are = ap (λ (v : Memory). v.state.contractcount) is.memory ∙ step_in_contracts m command ∙ sym (contracts_count m (formed w))

    accounts_are : r.state.accountcount ≡ length x.accounts
    accounts_are = ap (λ (v : Memory). v.state.accountcount) is.memory ∙ step_in_accounts m command ∙ sym (accounts_count m (formed w))

    balance_is : (a : ℕ) → a < r.state.accountcount → (get_or r.state.accounts a no_account).balance ≡ (account_at (step x command).accounts a).balance
    unfolding account_at
    balance_is a h =
        sym (ap (λ (v : Account). v.balance) (account_at_lem m' (formed w') a h))
        ∙ ap (λ (e : Exchange). (get_or e.accounts a no_account).balance) after_is

    trades_are : drop s.tradecount (recorded_trades trades' r.state.tradecount) ≡ new_trades x command
    unfolding new_trades exchange_of
    trades_are =
        rw (length_trades trades s.tradecount)
        (ap (λ (e : Exchange). drop s.tradecount e.trades) after_is)

    count_is : length x.trades ≡ s.tradecount
    unfolding exchange_of
    count_is = length_trades trades s.tradecount

  -- the tables of an accepted settlement
  module _ (is : ResponseIs m Settle r buys' sells' trades') (q : eqb (code_of x Settle) 0 ≡ true) where
    report_is : r.report ≡ settlement_report m
    unfolding report_of
    report_is = is.report ∙ rw q

    price_at : (c : ℕ) → c < s.contractcount → get_or r.report.prices c 0 ≡ settlement_price x c
    unfolding settlement_report
    price_at c h = ap (λ (v : Report). get_or v.prices c 0) report_is ∙ reported max_contracts s.contractcount (settlement_price x) 0 c h

    closing_at : (a : ℕ) → a < s.accountcount → get_or r.report.closing a (pos 0) ≡ closing_profit x a
    unfolding settlement_report
    closing_at a h = ap (λ (v : Report). get_or v.closing a (pos 0)) report_is ∙ reported max_accounts s.accountcount (closing_profit x) (pos 0) a h

    holding_at_lem : (a : ℕ) → a < s.accountcount → get_or r.report.holding a (pos 0) ≡ holding_profit x a
    unfolding settlement_report
    holding_at_lem a h = ap (λ (v : Report). get_or v.holding a (pos 0)) report_is ∙ reported max_accounts s.accountcount (holding_profit x) (pos 0) a h

    charged_at_lem : (a : ℕ) → a < s.accountcount → get_or r.report.charged a 0 ≡ charged (step x Settle) a
    unfolding settlement_report
    charged_at_lem a h =
        ap (λ (v : Report). get_or v.charged a 0) report_is ∙ reported max_accounts s.accountcount (charged (settled x)) 0 a h
        ∙ sym (ap (λ (e : Exchange). charged e a) (settle_after x q))

    contracts_same : r.state.contractcount ≡ s.contractcount
    contracts_same = contracts_are Settle is ∙ contracts_count m (formed w)

    accounts_same : r.state.accountcount ≡ s.accountcount
    accounts_same = accounts_are Settle is ∙ accounts_count m (formed w)

    settlement_rows_lem : settlement_rows r.state r.report ≡ price_lines x (length x.listings) ++ account_lines x (step x Settle) (length x.accounts)
    unfolding settlement_rows
    settlement_rows_lem =
        let n = r.state.contractcount in
        let p = rows_ext (price_row r.report.prices) (λ c. price_line c (settlement_price x c)) n (λ c h. ap (price_line c) (price_at c (rw contracts_same at h))) in
        let b = rows_ext (account_row r.report.closing r.report.holding r.report.charged r.state.accounts) (account_rule x (step x Settle)) r.state.accountcount row in
        rw (p, b, ← contracts_are Settle is, ← accounts_are Settle is, price_rows x n, account_rows x (step x Settle) r.state.accountcount)
      where
        row : (a : ℕ) → a < r.state.accountcount → account_row r.report.closing r.report.holding r.report.charged r.state.accounts a ≡ account_rule x (step x Settle) a
        row a h =
            let h' : a < s.accountcount = rw accounts_same at h in
            rw (closing_at a h', holding_at_lem a h', charged_at_lem a h', balance_is Settle is a h)

  report_lines : (command : Command) → ResponseIs m command r buys' sells' trades' → report_rows command r ≡ settlement_lines x command
  unfolding report_rows settlement_lines
  report_lines command is = by_settle_and_acceptance (is_settle command) (eqb (code_of x command) 0) refl refl
    where
      code_is : eqb r.answer.code 0 ≡ eqb (code_of x command) 0
      code_is = ap (λ (a : Answer). eqb a.code 0) (answer_is command is) ∙ decided_code x command

      made : command ≡ Settle → eqb (code_of x command) 0 ≡ true
          → settlement_rows r.state r.report ≡ price_lines x (length x.listings) ++ account_lines x (step x command) (length x.accounts)
      made e q =
          subst⁻¹ (λ (d : Command). settlement_rows r.state r.report ≡ price_lines x (length x.listings) ++ account_lines x (step x d) (length x.accounts)) e
          (settlement_rows_lem (subst (λ (d : Command). ResponseIs m d r buys' sells' trades') e is) (subst (λ (d : Command). eqb (code_of x d) 0 ≡ true) e q))

      by_settle_and_acceptance : (settles accepted : Bool) → is_settle command ≡ settles → eqb (code_of x command) 0 ≡ accepted
          → pick (is_settle command && eqb r.answer.code 0) (settlement_rows r.state r.report) []
          ≡ pick (is_settle command && eqb (code_of x command) 0) (price_lines x (length x.listings) ++ account_lines x (step x command) (length x.accounts)) []
      by_settle_and_acceptance false accepted e q = rw e
      by_settle_and_acceptance true true e q = rw (e, code_is, q) (made (settle_is command e) q)
      by_settle_and_acceptance true false e q = rw (e, code_is, q)

  pub response_lines : (k : ℕ) (command : Command) → ResponseIs m command r buys' sells' trades'
      → response_rows k command s.tradecount trades' r ≡ step_lines k x command
  unfolding response_rows step_lines
  response_lines k command is = rw (report_lines command is, trades_are command is, count_is command is, answer_is command is)

-- ---- the turn

module _ {s : State} {buys sells trades : List ℕ} (w : WellFormedState s buys sells trades) (given : Command) (r : Response) {buys' sells' trades' : List ℕ} where
  responded : ResponseIs (memory s buys sells trades) given r buys' sells' trades'
      → memory r.state buys' sells' trades' ≡ (respond (memory s buys sells trades) given).memory
  unfolding respond
  responded is = rw w.formed is.memory

  stays_formed : ResponseIs (memory s buys sells trades) given r buys' sells' trades' → WellFormedState r.state buys' sells' trades'
  stays_formed is =
      record {
        declared = subst⁻¹ (λ (v : Memory). Declared v.state) (responded is) (declared_kept (memory s buys sells trades) given w.declared);
        formed = subst⁻¹ (λ (v : Memory). well_formed_memory v ≡ true) (responded is) (memory_keeps (memory s buys sells trades) given w.formed);
      }

  module _ {command : Command} (e : command ≡ given) (is : ResponseIs (memory s buys sells trades) command r buys' sells' trades') where
    told : ResponseIs (memory s buys sells trades) given r buys' sells' trades'
    told = subst (λ (d : Command). ResponseIs (memory s buys sells trades) d r buys' sells' trades') e is

    pub counts_in_range_lem : InRange r trades'
    counts_in_range_lem = in_range_lem w r (stays_formed told)

    pub turn_is : (k : ℕ) {before after : List ℕ} {at end : ℕ} → Written command_most before at (response_rows k command s.tradecount trades' r) after end
        → TurnIs (memory s buys sells trades) given k before at (record { state = r.state; end = end }) (memory r.state buys' sells' trades') after
    turn_is k {before} {after} {at} {end} v =
        record {
          memory = responded told;
          lines =
              subst (λ (l : List ℕ). Written command_most before at l after end)
              (response_lines w r (stays_formed told) k command is ∙ ap (step_lines k (exchange_of (memory s buys sells trades))) e) v;
        }
