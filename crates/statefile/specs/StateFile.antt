-- Ticket 10 of document 02, "Continue tomorrow": the state as a file, when it may be written, and the state that a file gives. Assumes
-- nothing.
use Rattle.std.specs.Prelude.{Bool, not, ◌&&◌, List, [], ◌∷◌, ◌++◌, ◌≡◌, ℕ, ◌+◌, ◌*◌, leb, ltb, eqb, length, get_or}
use Rattle.laws.specs.Choice.{pick, all, all_of}
use Rattle.laws.specs.Sums.{sum_of}
use Rattle.laws.specs.Tabulate.{tabulate}
use Rattle.areas.specs.Lists.{over}
use Rattle.areas.specs.Records.{encode}
use Rattle.rules.specs.Answers.{first_of, ◌when◌}
use Rattle.rules.specs.Bounds.{within, max_contracts, max_accounts, pre_open}
use Rattle.rules.specs.DayFile.{u8_at, u32_at, u64_at, contracts_in, contract_from, count_width, contract_width}
use Rattle.rules.specs.Exchange.{Exchange, Listing, no_holding}
use Rattle.rules.specs.Memory.{Memory, exchange_of, has_room, memory, put_state, well_formed_memory}
use Rattle.rules.specs.WellFormed.{well_formed_contents}
use Rattle.rules.specs.declared.Account.{Account}
use Rattle.rules.specs.declared.Contract.{Contract}
use Rattle.rules.specs.declared.Holding.{Holding}
use Rattle.rules.specs.declared.State.{State}
use Rattle.endian.specs.Numbers.{two, four, eight, unsigned, signed_of}
use Rattle.sections.specs.Sections.{holding_bytes, section, holding_width}

-- ---- what is written: "Sections in a fixed order, each after its count"

-- "contracts (the day file's 20 bytes, then last price 4)"
unfoldable pub contract_bytes : Contract → List ℕ
contract_bytes c =
    two c.multiplier
    ++ (two c.tick
    ++ (four c.reference
    ++ (four c.band ++ (four c.limit ++ (two c.rate ++ (two c.method ++ four c.last))))))

abbrev pub price_width : ℕ
price_width = 4

abbrev pub saved_contract_width : ℕ
saved_contract_width = contract_width + price_width

-- "accounts (signed balance 8, maker mark 1, its value 0 or 1)"
unfoldable pub account_bytes : Account → List ℕ
account_bytes a = eight (unsigned a.balance) ++ (a.maker ∷ [])

abbrev pub balance_width : ℕ
balance_width = 8

abbrev pub mark_width : ℕ
mark_width = 1

abbrev pub saved_account_width : ℕ
saved_account_width = balance_width + mark_width

-- "holdings (long 4, short 4, by account then contract)"
unfoldable pub row_bytes : Account → List ℕ
row_bytes a = encode holding_bytes a.holdings

abbrev pub lots_width : ℕ
lots_width = 4

-- ".. then the settlement count (4) as a section of one"
unfoldable pub saved_bytes : Exchange → List ℕ
saved_bytes x =
    section (length x.listings) (encode (λ l. contract_bytes l.contract) x.listings)
    ++ (section (length x.accounts) (encode account_bytes x.accounts)
    ++ (section (length x.accounts * length x.listings) (encode row_bytes x.accounts) ++ section 1 (four x.settlements)))

abbrev pub settlements_width : ℕ
settlements_width = 4

-- ---- "A state is writable exactly when every contract is in pre-open, its long and short totals are equal, no trades or orders
-- exist and the next order number and stamp are 1."

unfoldable pub empty_pre_open : Listing → Bool
empty_pre_open l = eqb l.contract.phase pre_open && eqb (length l.buys) 0 && eqb (length l.sells) 0

unfoldable pub totals_equal : List Account → ℕ → Bool
totals_equal accounts c =
    eqb (sum_of (λ a. (get_or a.holdings c no_holding).long) accounts) (sum_of (λ a. (get_or a.holdings c no_holding).short) accounts)

unfoldable pub all_equal : Exchange → Bool
all_equal x = all (totals_equal x.accounts) (length x.listings)

unfoldable pub writable : Exchange → Bool
writable x =
    all_of empty_pre_open x.listings && all_equal x && eqb (length x.trades) 0 && eqb x.next 1 && eqb x.nextstamp 1

-- ---- where the sections of a file stand: the contracts' count at its start, as in a day file

abbrev pub saved_contract_place : ℕ → ℕ
saved_contract_place c = count_width + saved_contract_width * c

unfoldable pub saved_accounts_in : List ℕ → ℕ
saved_accounts_in bs = u32_at bs (saved_contract_place (contracts_in bs))

abbrev pub saved_account_place : ℕ → ℕ → ℕ
saved_account_place contracts a = saved_contract_place contracts + count_width + saved_account_width * a

abbrev pub row_place : ℕ → ℕ → ℕ → ℕ
row_place contracts accounts a = saved_account_place contracts accounts + count_width + holding_width * contracts * a

abbrev pub settlements_place : ℕ → ℕ → ℕ
settlements_place contracts accounts = row_place contracts accounts accounts + count_width

-- ---- what is read

-- the day file's contract, in pre-open, with its own last price
unfoldable pub saved_contract : List ℕ → ℕ → Contract
saved_contract bs at =
    record {
      multiplier = (contract_from bs at).multiplier;
      tick = (contract_from bs at).tick;
      reference = (contract_from bs at).reference;
      band = (contract_from bs at).band;
      limit = (contract_from bs at).limit;
      rate = (contract_from bs at).rate;
      method = (contract_from bs at).method;
      phase = (contract_from bs at).phase;
      last = u32_at bs (at + contract_width);
    }

-- a loaded day starts with what is held
unfoldable pub saved_holding : List ℕ → ℕ → Holding
saved_holding bs at =
    record { long = u32_at bs at; short = u32_at bs (at + lots_width); startlong = u32_at bs at; startshort = u32_at bs (at + lots_width) }

-- an account's eight bytes and its mark stand at one place, its holdings at another
unfoldable pub saved_account : List ℕ → ℕ → ℕ → ℕ → Account
saved_account bs contracts at row =
    record {
      balance = signed_of (u64_at bs at);
      maker = u8_at bs (at + balance_width);
      holdings = tabulate contracts (λ c. saved_holding bs (row + holding_width * c));
    }

unfoldable pub loaded_listing : List ℕ → ℕ → Listing
loaded_listing bs c = record { contract = saved_contract bs (saved_contract_place c); buys = []; sells = [] }

unfoldable pub loaded_account : List ℕ → ℕ → Account
loaded_account bs a =
    saved_account bs (contracts_in bs) (saved_account_place (contracts_in bs) a) (row_place (contracts_in bs) (saved_accounts_in bs) a)

-- the state that a file gives: no orders or trades, the next order number and stamp are 1
unfoldable pub loaded_from : List ℕ → Exchange
loaded_from bs =
    record {
      listings = tabulate (contracts_in bs) (loaded_listing bs);
      accounts = tabulate (saved_accounts_in bs) (loaded_account bs);
      trades = [];
      next = 1;
      nextstamp = 1;
      settlements = u32_at bs (settlements_place (contracts_in bs) (saved_accounts_in bs));
    }

-- ---- "20 for a broken file or a state not well formed (room of areas aside)"

-- the holdings' count is accounts times contracts, and the last section's is 1
unfoldable pub counts_right : List ℕ → Bool
counts_right bs =
    eqb (u32_at bs (saved_account_place (contracts_in bs) (saved_accounts_in bs))) (saved_accounts_in bs * contracts_in bs)
    && eqb (u32_at bs (row_place (contracts_in bs) (saved_accounts_in bs) (saved_accounts_in bs))) 1

-- the settlement count ends the file
unfoldable pub shaped : List ℕ → Bool
shaped bs =
    within 1 max_contracts (contracts_in bs)
    && within 1 max_accounts (saved_accounts_in bs)
    && eqb (length bs) (settlements_place (contracts_in bs) (saved_accounts_in bs) + settlements_width)
    && counts_right bs

-- "maker mark 1, its value 0 or 1"
unfoldable pub mark_sound : List ℕ → ℕ → Bool
mark_sound bs a = leb (u8_at bs (saved_account_place (contracts_in bs) a + balance_width)) 1

unfoldable pub saved_sound : List ℕ → Bool
saved_sound bs = shaped bs && all (mark_sound bs) (saved_accounts_in bs) && well_formed_contents (loaded_from bs)

-- ---- the state in memory: "Reading leaves places not in use untouched", so the areas stay as they are

unfoldable pub loaded_state : State → Exchange → State
loaded_state s x =
    record {
      contracts = (put_state s x).contracts;
      accounts = (put_state s x).accounts;
      buycounts = (put_state s x).buycounts;
      sellcounts = (put_state s x).sellcounts;
      contractcount = length x.listings;
      accountcount = length x.accounts;
      tradecount = length x.trades;
      next = x.next;
      nextstamp = x.nextstamp;
      settlements = x.settlements;
    }

abbrev pub loaded_into : Memory → List ℕ → Memory
loaded_into m bs = memory (loaded_state m.state (loaded_from bs)) m.buys m.sells m.trades

-- ---- the codes

-- "Refusals, in order: 21; 28 state not writable; 29 output area too short"
unfoldable pub write_code : Memory → ℕ → ℕ
write_code m room =
    first_of
    ((21 when not (well_formed_memory m))
    ∷ (28 when not (writable (exchange_of m)))
    ∷ (29 when ltb room (length (saved_bytes (exchange_of m))))
    ∷ [])

-- "reading gives 20 .., then 30 if a contract's long and short totals differ, then 29 if an area lent for the state lacks its room"
unfoldable pub read_code : Memory → List ℕ → ℕ
read_code m bs =
    first_of
    ((20 when not (saved_sound bs))
    ∷ (30 when not (all_equal (loaded_from bs)))
    ∷ (29 when not (has_room (loaded_into m bs)))
    ∷ [])

-- ---- THE WHOLE ANSWERS

-- the code, the file's length and the output area; "output bytes beyond the end stay", and a refusal writes nothing
pub record WrittenIs (m : Memory) (out : List ℕ) (code size : ℕ) (out' : List ℕ) : Type 0 where
  pub code_is : code ≡ write_code m (length out)
  pub length_is : size ≡ pick (eqb (write_code m (length out)) 0) (length (saved_bytes (exchange_of m))) 0
  pub out_is : out' ≡ pick (eqb (write_code m (length out)) 0) (over out 0 (saved_bytes (exchange_of m))) out

-- the code and the state; the areas are lent for reading alone, and a refusal alters nothing
pub record ReadIs (m : Memory) (bs : List ℕ) (code : ℕ) (state : State) : Type 0 where
  pub code_is : code ≡ read_code m bs
  pub state_is : state ≡ pick (eqb (read_code m bs) 0) (loaded_into m bs).state m.state
