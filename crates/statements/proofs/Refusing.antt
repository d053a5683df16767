-- From the tests as the code makes them to the code of a statement. Assumes nothing.
use Rattle.laws.specs.Logic.{Bool, true, false, not, ◌&&◌, ◌||◌, List, ◌≡◌, refl, sym, ap, ◌∙◌}
use Rattle.laws.specs.Numbers.{ℕ, ◌<◌, ◌≤◌, arith, eqb-false, ltb-false, lt-ltb, le-ltb, not-false, eqb, ltb, length, get_or}
use Rattle.laws.specs.Choice.{all, all_ext, either_false, true_either, either_true}
use Rattle.rules.specs.Answers.{first_of}
use Rattle.rules.specs.Exchange.{Exchange, absent, no_account, no_holding, place_of, is_absent}
use Rattle.rules.specs.Memory.{Memory, exchange_of, well_formed_memory, WellFormedState, memory}
use Rattle.rules.specs.Codes.{code_in}
use Rattle.rules.specs.declared.codes.Code.{Code}
use Rattle.rules.specs.declared.codes.Code.TheVariants.{ClientsDoNotFit, NoSuchAccount, StateNotWellFormed}
use Rattle.rules.specs.declared.{Holding.Holding, State.State}
use Rattle.std.specs.Prelude.{Result, Err}
use Rattle.theory.proofs.InUse.{contracts_in_use, holding_in_use}
use Rattle.engine.proofs.Formed.{formed, no_account_lem}
use Rattle.statements.specs.Parts.{Postable, PostedIs, StatedIs, broker, length_in}
use Rattle.clients.specs.Clients.{Clients, client_exchange, start_long, start_short, starts_add_up, total, max_clients}
use Rattle.statements.specs.Statement.{StatementIs, broker_refusals, statement_code}
use Rattle.statements.proofs.Paid.{statement_adds_up}
use Rattle.statements.proofs.Answering.{code_here, code_later, refused_is, same_code}

module _ (m : Memory) (account : ℕ) (b : Clients) (out : List ℕ) where
  abbrev x : Exchange
  x = exchange_of m

  abbrev y : Exchange
  y = client_exchange x (place_of account) b

  -- the answer as a record
  pub answered : (r : Result ℕ Code) (out' : List ℕ) → StatedIs m account b out r out' → StatementIs m account b out (record { code = code_in r; length = length_in r }) out'
  answered r out' a =
      record {
        code = a.code_is;
        length_is = a.length_is;
        out_is = a.out_is;
        adds_up_lem = λ z. statement_adds_up m account b (length out) (sym a.code_is ∙ z);
      }

  pub by_21 : well_formed_memory m ≡ false → StatedIs m account b out (Err StateNotWellFormed) out
  unfolding statement_code
  by_21 e = refused_is y b.count out _ StateNotWellFormed (code_here 21 _ _ (ap not e)) refl

  module _ (w : well_formed_memory m ≡ true) where
    past_21 : statement_code m account b (length out) ≡ first_of (broker_refusals x account b (length out))
    unfolding statement_code
    past_21 = code_later 21 _ _ (ap not w)

    pub by_2 : absent account x.accounts ≡ true → StatedIs m account b out (Err NoSuchAccount) out
    unfolding broker_refusals
    by_2 e = refused_is y b.count out _ NoSuchAccount (past_21 ∙ code_here 2 _ _ e) refl

    module _ (there : absent account x.accounts ≡ false) where
      pub by_25 : (ltb max_clients b.count || not (starts_add_up x (place_of account) b)) ≡ true → StatedIs m account b out (Err ClientsDoNotFit) out
      unfolding broker_refusals
      by_25 e = refused_is y b.count out _ ClientsDoNotFit (past_21 ∙ code_later 2 _ _ there ∙ code_here 25 _ _ e) refl

      pub from_26 : (ltb max_clients b.count || not (starts_add_up x (place_of account) b)) ≡ false → (r : Result ℕ Code) (out' : List ℕ)
          → PostedIs m (place_of account) b.count b.starts b.postings out r out' → StatedIs m account b out r out'
      unfolding broker_refusals
      from_26 e r out' a = same_code y b.count out _ _ (sym (past_21 ∙ code_later 2 _ _ there ∙ code_later 25 _ _ e)) r out' a

-- ---- the tests on a well-formed state

module _ (number count : ℕ) (present : is_absent number count ≡ false) where
  pub account_low : 1 ≤ number
  account_low = let n = eqb-false number 0 (either_false (eqb number 0) (ltb count number) present).0 in omega arith

  pub account_high : number ≤ count
  account_high = ltb-false count number (either_false (eqb number 0) (ltb count number) present).1

module _ (s : State) (buys sells trades : List ℕ) (f : WellFormedState s buys sells trades) (account clients : ℕ) (starts postings out : List ℕ) where
  abbrev memory' : Memory
  memory' = memory s buys sells trades

  abbrev b' : Clients
  b' = broker clients starts postings

  pub no_such_account : is_absent account s.accountcount ≡ true → StatedIs memory' account b' out (Err NoSuchAccount) out
  no_such_account e = by_2 memory' account b' out f.formed (no_account_lem memory' (formed f) account ∙ e)

  module _ (present : is_absent account s.accountcount ≡ false) where
    there : absent account (exchange_of memory').accounts ≡ false
    there = no_account_lem memory' (formed f) account ∙ present

    pub too_many : max_clients < clients → StatedIs memory' account b' out (Err ClientsDoNotFit) out
    too_many h = by_25 memory' account b' out f.formed there (true_either _ _ (lt-ltb max_clients clients h))

    -- t: the code's answer whether the clients' lots add up, read at the account's place
    module _ (few : clients ≤ max_clients) (place : ℕ) (ep : place ≡ place_of account) (t : Bool)
        (et : t ≡ all (λ c. eqb (total clients (λ i. start_long starts i c)) (get_or (get_or s.accounts place no_account).holdings c no_holding).startlong
        && eqb (total clients (λ i. start_short starts i c)) (get_or (get_or s.accounts place no_account).holdings c no_holding).startshort) s.contractcount) where
      adds_is : t ≡ starts_add_up (exchange_of memory') (place_of account) b'
      unfolding starts_add_up
      adds_is =
          et ∙ rw (ep, contracts_in_use memory')
          (all_ext _ _ s.contractcount
          (λ c lc. ap (λ (h : Holding). eqb (total clients (λ i. start_long starts i c)) h.startlong && eqb (total clients (λ i. start_short starts i c)) h.startshort)
          (sym (holding_in_use memory' (place_of account) c (omega (arith, account_low account s.accountcount present, account_high account s.accountcount present)) lc))))

      pub not_adding : not t ≡ true → StatedIs memory' account b' out (Err ClientsDoNotFit) out
      not_adding h = by_25 memory' account b' out f.formed there (either_true (ltb max_clients clients) _ (ap not (sym adds_is) ∙ h))

      module _ (h : not t ≡ false) where
        at_place : Postable s buys sells trades (place_of account) clients starts
        unfolding starts_add_up
        at_place =
            record {
              formed = f;
              account = omega (arith, account_low account s.accountcount present, account_high account s.accountcount present);
              few = few;
              adds = sym adds_is ∙ not-false t h;
            }

        module _ {word : ℕ} (same : word ≡ place_of account) where
          pub postable : Postable s buys sells trades word clients starts
          postable = rw same at_place

          pub adding : (r : Result ℕ Code) (out' : List ℕ) → PostedIs memory' word clients starts postings out r out' → StatedIs memory' account b' out r out'
          adding r out' a =
              from_26 memory' account b' out f.formed there
              (rw (le-ltb max_clients clients few) (ap not (sym adds_is) ∙ h)) r out' (rw same at a)
