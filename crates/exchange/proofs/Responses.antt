-- From an outcome of one kind to the public response: what is not a settlement reports nothing; a settlement's codes, its state
-- and its report. Assumes nothing.
use mathlib.Core.Bool.{true, false}
use mathlib.Core.List.{List}
use mathlib.Core.Path.{◌≡◌, refl, ap, ◌∙◌, subst}
use Prim.Native.Nat.{ℕ, zero, suc, ◌<◌, ◌≤◌}
use borrow.Author.Tests.{le-leb, lt-leb}
use native.Mathlib.Omega.{arith}
use lib.Dec.{eqb, eqb-suc-zero}
use lib.ListN.{get_or}
use Rattle.laws.specs.Choice.{all, all_ext, all_of, all_of_all}
use Rattle.rules.specs.Bounds.{closed, max_settlements}
use Rattle.rules.specs.Kinds.{code_of, decide, kind_of}
use Rattle.rules.specs.Answers.{first_of, settle_refusals}
use Rattle.rules.specs.Command.{is_settle}
use Rattle.rules.specs.Exchange.{Listing, listing_at, no_contract, no_listing}
use Rattle.rules.specs.Memory.{Memory, exchange_of, listing_in, respond, step_in, well_formed_memory, memory, WellFormedState}
use Rattle.rules.specs.Step.{answer_of, settled_all}
use Rattle.rules.specs.declared.Command.{Command}
use Rattle.rules.specs.declared.Command.TheVariants.{Malformed, Settle}
use Rattle.rules.specs.declared.State.{State}
use Rattle.engine.proofs.Formed.{Formed, formed, contracts_count, listing_at_lem}
use Rattle.engine.proofs.Outcomes.{refusal}
use Rattle.engine.specs.Outcome.{OutcomeIs, refused_with}
use Rattle.engine.specs.declared.answers.Outcome.{Outcome}
use Rattle.settlement.specs.Settling.{SettledIs}
use Rattle.settlement.specs.declared.settle.Settled.{Settled}
use Rattle.exchange.specs.Response.{ExecutedIs, ResponseIs, no_report, report_of, settlement_report, with_report}
use Rattle.exchange.specs.declared.settling.Response.{Response}

-- a kind that is no settlement
pub plain_response : (m : Memory) (command : Command) (o : Outcome) (r : Response) (buys sells trades : List ℕ) → is_settle command ≡ false
    → OutcomeIs (step_in m command) o buys sells trades → r ≡ with_report o no_report → ResponseIs m command r buys sells trades
unfolding report_of
plain_response m command o r buys sells trades n k e =
    record {
      answer = ap (λ (v : Response). v.answer) e ∙ k.answer;
      memory = ap (λ (v : Response). memory v.state buys sells trades) e ∙ k.memory;
      report = ap (λ (v : Response). v.report) e ∙ rw n;
    }

-- "kind, flag value or unused field is wrong"
pub malformed_code : (m : Memory) → code_of (exchange_of m) Malformed ≡ 1
unfolding code_of kind_of first_of
malformed_code m = refl

-- ---- the codes of a settlement

module _ {s : State} {buys sells trades : List ℕ} (k : WellFormedState s buys sells trades) where
  abbrev m : Memory
  m = memory s buys sells trades

  f : Formed m
  f = formed k

  closed_test : all_of (λ l. eqb l.contract.phase closed) (exchange_of m).listings ≡ all (λ c. eqb (get_or s.contracts c no_contract).phase closed) s.contractcount
  unfolding listing_in listing_at
  closed_test =
      all_of_all (λ l. eqb l.contract.phase closed) (exchange_of m).listings no_listing
      ∙ ap (λ (n : ℕ). all (λ i. eqb (get_or (exchange_of m).listings i no_listing).contract.phase closed) n) (contracts_count m f)
      ∙ all_ext _ _ s.contractcount (λ c h. ap (λ (l : Listing). eqb l.contract.phase closed) (listing_at_lem m f c h))

  pub settle_open : all (λ c. eqb (get_or s.contracts c no_contract).phase closed) s.contractcount ≡ false → code_of (exchange_of m) Settle ≡ 18
  unfolding code_of kind_of settle_refusals first_of
  settle_open e = rw (closed_test, e)

  pub settle_many : all (λ c. eqb (get_or s.contracts c no_contract).phase closed) s.contractcount ≡ true → max_settlements ≤ s.settlements → code_of (exchange_of m) Settle ≡ 19
  unfolding code_of kind_of settle_refusals first_of exchange_of
  settle_many e h = rw (closed_test, e, le-leb max_settlements s.settlements h)

  pub settle_none : all (λ c. eqb (get_or s.contracts c no_contract).phase closed) s.contractcount ≡ true → s.settlements < max_settlements → code_of (exchange_of m) Settle ≡ 0
  unfolding code_of kind_of settle_refusals first_of exchange_of
  settle_none e h = rw (closed_test, e, lt-leb max_settlements s.settlements h)

  -- a settlement refused, and one made
  refused_with_lem : (code : ℕ) (o : Outcome) (r : Response) → code_of (exchange_of m) Settle ≡ suc code → o ≡ record { answer = answer_of (suc code) 0 0 0; state = s }
      → r ≡ with_report o no_report → ResponseIs m Settle r buys sells trades
  unfolding report_of
  refused_with_lem code o r e g h =
      let k' : OutcomeIs (step_in m Settle) o buys sells trades = refusal s buys sells trades Settle (suc code) (omega arith) e g in
      record {
        answer = ap (λ (v : Response). v.answer) h ∙ k'.answer;
        memory = ap (λ (v : Response). memory v.state buys sells trades) h ∙ k'.memory;
        report = ap (λ (v : Response). v.report) h ∙ rw (e, eqb-suc-zero code);
      }

  pub settle_refused : (code : ℕ) (o : Outcome) (r : Response) → (code ≡ 0 → ⊥) → code_of (exchange_of m) Settle ≡ code → o ≡ record { answer = answer_of code 0 0 0; state = s }
      → r ≡ with_report o no_report → ResponseIs m Settle r buys sells trades
  settle_refused zero o r n e g h = absurd (n refl)
  settle_refused (suc code) o r n e g h = refused_with_lem code o r e g h

  pub settle_made : (t : Settled) (buys' sells' trades' : List ℕ) → code_of (exchange_of m) Settle ≡ 0 → SettledIs m t buys' sells' trades'
      → ResponseIs m Settle (record { answer = answer_of 0 0 0 0; state = t.state; report = record { prices = t.prices; closing = t.closing; holding = t.holding; charged = t.charged } }) buys' sells' trades'
  unfolding report_of settlement_report step_in decide kind_of settled_all
  settle_made t buys' sells' trades' e k' =
      record {
        answer = rw e;
        memory = rw e k'.memory;
        report = rw (e, k'.prices, k'.closing, k'.holding, k'.charged);
      }

-- ---- any state: code 21, and the command of a well-formed one

pub executed_refused : (s : State) (buys sells trades : List ℕ) (command : Command) (o : Outcome) {r : Response} → well_formed_memory (memory s buys sells trades) ≡ false
    → o ≡ refused_with s 21 → r ≡ with_report o no_report → ExecutedIs (memory s buys sells trades) command r buys sells trades
unfolding respond
executed_refused s buys sells trades command o w g h =
    record {
      answer = ap (λ (v : Response). v.answer) h ∙ ap (λ (v : Outcome). v.answer) g ∙ rw w;
      memory = ap (λ (v : Response). memory v.state buys sells trades) h ∙ ap (λ (v : Outcome). memory v.state buys sells trades) g ∙ rw w;
      report = ap (λ (v : Response). v.report) h ∙ rw w;
    }

pub executed : (m : Memory) (command : Command) {r : Response} {buys sells trades : List ℕ} → well_formed_memory m ≡ true → ResponseIs m command r buys sells trades
    → ExecutedIs m command r buys sells trades
unfolding respond
executed m command w k = record { answer = rw w k.answer; memory = rw w k.memory; report = rw w k.report }

-- a command that is told to be another
pub executed_as : {m : Memory} {command told : Command} {r : Response} {buys sells trades : List ℕ} → told ≡ command → ExecutedIs m told r buys sells trades
    → ExecutedIs m command r buys sells trades
executed_as {m} {r = r} {buys = buys} {sells = sells} {trades = trades} e k = subst (λ (d : Command). ExecutedIs m d r buys sells trades) e k
