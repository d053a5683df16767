-- The file's records: a contract, an account's balance and mark, a holding. Assumes nothing.
use mathlib.Core.Bool.{Bool, true, ◌&&◌}
use mathlib.Core.List.{List, [], ◌∷◌, ◌++◌}
use mathlib.Core.Path.{◌≡◌, refl}
use Prim.Native.Nat.{ℕ, ◌+◌, ◌≤◌}
use native.Mathlib.Nat.{add-zero}
use native.Mathlib.Omega.{arith}
use lib.Dec.{ltb, eqb}
use lib.IntN.{ℤ, nat_abs}
use lib.ListN.{length, take, drop}
use borrow.Author.Tests.{eqb-true, ltb-true}
use Rattle.laws.specs.Choice.{both_true}
use Rattle.laws.specs.Chains.{all_passed}
use Rattle.rules.specs.Bounds.{pre_open}
use Rattle.rules.specs.DayFile.{u8_at, u16_at, u32_at, u64_at, contract_from}
use Rattle.rules.specs.Exchange.{Listing}
use Rattle.rules.specs.declared.Account.{Account}
use Rattle.rules.specs.declared.Contract.{Contract}
use Rattle.rules.specs.declared.Holding.{Holding}
use Rattle.rules.specs.declared.Order.{Order}
use Rattle.endian.specs.Numbers.{two, four, eight, unsigned, sign_end, signed_of}
use Rattle.sections.specs.Sections.{holding_bytes, holding_width}
use Rattle.statefile.specs.StateFile.{empty_pre_open, contract_bytes, saved_contract, saved_holding, balance_width, saved_account_width, saved_contract_width}
use Rattle.endian.proofs.Numbers.{Bytes, parts, two_back, four_back, eight_back, one_forth, two_forth, four_forth, eight_forth, below_8, u8_drop, u16_drop, u32_drop, u64_drop}
use Rattle.endian.proofs.Signs.{signed_back, signed_forth}
use Rattle.statefile.proofs.Rows.{Field}

-- ---- a contract in pre-open, without orders

abbrev pub listing_bytes : Listing → List ℕ
listing_bytes l = contract_bytes l.contract

abbrev pub listing_from : List ℕ → Listing
listing_from xs = record { contract = saved_contract xs 0; buys = []; sells = [] }

pub nothing_in : {A : Type 0} (l : List A) → eqb (length l) 0 ≡ true → l ≡ []
nothing_in [] h = refl
nothing_in (a ∷ l) h = absurd (omega (arith, eqb-true (length (a ∷ l)) 0 h))

contract_back : (c : Contract) (ys : List ℕ) → c.phase ≡ pre_open → saved_contract (contract_bytes c ++ ys) 0 ≡ c
unfolding saved_contract contract_bytes contract_from u32_at u16_at u8_at four two
contract_back c ys h =
    rw (
      two_back c.multiplier [],
      two_back c.tick [],
      four_back c.reference [],
      four_back c.band [],
      four_back c.limit [],
      two_back c.rate [],
      two_back c.method [],
      four_back c.last [],
      ← h,
    )

listing_back : (l : Listing) (ys : List ℕ) → empty_pre_open l ≡ true → listing_from (listing_bytes l ++ ys) ≡ l
unfolding empty_pre_open
listing_back l ys h =
    let p = all_passed (eqb l.contract.phase pre_open) (eqb (length l.buys) 0 ∷ eqb (length l.sells) 0 ∷ []) h in
    let c = contract_back l.contract ys (eqb-true l.contract.phase pre_open p.0) in
    let b = nothing_in l.buys p.1.0 in
    let s = nothing_in l.sells p.1.1 in
    again l c b s
  where
    again : (l : Listing) {c : Contract} → c ≡ l.contract → l.buys ≡ [] → l.sells ≡ [] → record { contract = c; buys = []; sells = [] } ≡ l
    again l e b s = rw e (same l.contract l.buys l.sells b s)
      where
        same : (c : Contract) (buys sells : List Order) → buys ≡ [] → sells ≡ []
            → ◌≡◌ {A = Listing} (record { contract = c; buys = []; sells = [] }) (record { contract = c; buys = buys; sells = sells })
        same c buys sells b s = rw (b, s)

listing_forth : (xs : List ℕ) → Bytes xs → saved_contract_width ≤ length xs → listing_bytes (listing_from xs) ≡ take saved_contract_width xs
unfolding saved_contract contract_bytes contract_from
listing_forth xs b h =
    rw (
      two_forth xs b 0 (omega arith),
      two_forth xs b 2 (omega arith),
      four_forth xs b 4 (omega arith),
      four_forth xs b 8 (omega arith),
      four_forth xs b 12 (omega arith),
      two_forth xs b 16 (omega arith),
      two_forth xs b 18 (omega arith),
      four_forth xs b 20 (omega arith),
      parts 18 2 4 xs,
      parts 16 2 6 xs,
      parts 12 4 8 xs,
      parts 8 4 12 xs,
      parts 4 4 16 xs,
      parts 2 2 20 xs,
    )
    (parts 0 2 22 xs)

pub listing : Field Listing saved_contract_width empty_pre_open listing_bytes listing_from
unfolding contract_bytes four two
listing = record { wide = λ l h. refl; back = listing_back; forth = listing_forth }

-- ---- an account's balance, an i64, and its mark

pub record Entry : Type 0 where
  pub balance : ℤ
  pub mark : ℕ

abbrev pub entry_of : Account → Entry
entry_of a = record { balance = a.balance; mark = a.maker }

abbrev pub entry_bytes : Entry → List ℕ
entry_bytes e = eight (unsigned e.balance) ++ (e.mark ∷ [])

abbrev pub saved_entry : List ℕ → Entry
saved_entry xs = record { balance = signed_of (u64_at xs 0); mark = u8_at xs balance_width }

abbrev pub fits_signed : Entry → Bool
fits_signed e = ltb (nat_abs e.balance) sign_end

entry_back : (e : Entry) (ys : List ℕ) → fits_signed e ≡ true → saved_entry (entry_bytes e ++ ys) ≡ e
unfolding u64_at u32_at u16_at u8_at eight four two
entry_back e ys h =
    rw (eight_back (unsigned e.balance) [], signed_back e.balance (ltb-true (nat_abs e.balance) sign_end h))

entry_forth : (xs : List ℕ) → Bytes xs → saved_account_width ≤ length xs → entry_bytes (saved_entry xs) ≡ take saved_account_width xs
entry_forth xs b h =
    rw (signed_forth (u64_at xs 0) (below_8 xs b 0), eight_forth xs b 0 (omega arith), one_forth xs 8 (omega arith)) (parts 0 8 1 xs)

pub entry : Field Entry saved_account_width fits_signed entry_bytes saved_entry
unfolding eight four two
entry = record { wide = λ e h. refl; back = entry_back; forth = entry_forth }

-- ---- a holding as at the start of the day

abbrev pub unmoved : Holding → Bool
unmoved h = eqb h.startlong h.long && eqb h.startshort h.short

abbrev pub holding_from : List ℕ → Holding
holding_from xs = saved_holding xs 0

holding_back : (o : Holding) (ys : List ℕ) → unmoved o ≡ true → holding_from (holding_bytes o ++ ys) ≡ o
unfolding saved_holding holding_bytes u32_at u16_at u8_at four two
holding_back o ys h =
    let p = both_true (eqb o.startlong o.long) (eqb o.startshort o.short) h in
    rw (
      four_back o.long [],
      four_back o.short [],
      ← eqb-true o.startlong o.long p.0,
      ← eqb-true o.startshort o.short p.1,
    )

holding_forth : (xs : List ℕ) → Bytes xs → holding_width ≤ length xs → holding_bytes (holding_from xs) ≡ take holding_width xs
unfolding saved_holding holding_bytes
holding_forth xs b h = rw (four_forth xs b 0 (omega arith), four_forth xs b 4 (omega arith)) (parts 0 4 4 xs)

pub holding : Field Holding holding_width unmoved holding_bytes holding_from
unfolding holding_bytes four two
holding = record { wide = λ o h. refl; back = holding_back; forth = holding_forth }

-- ---- each read at its place of a file, and at the front of what begins there

module _ (bs : List ℕ) (at : ℕ) where
  pub contract_at_lem : saved_contract (drop at bs) 0 ≡ saved_contract bs at
  unfolding saved_contract contract_from
  contract_at_lem =
      rw (
        u16_drop bs at 0,
        u16_drop bs at 2,
        u32_drop bs at 4,
        u32_drop bs at 8,
        u32_drop bs at 12,
        u16_drop bs at 16,
        u16_drop bs at 18,
        u32_drop bs at 20,
        add-zero at,
      )

  pub entry_at : saved_entry (drop at bs) ≡ record { balance = signed_of (u64_at bs at); mark = u8_at bs (at + balance_width) }
  entry_at = rw (u64_drop bs at 0, u8_drop bs at 8, add-zero at)

  pub holding_at_lem : saved_holding (drop at bs) 0 ≡ saved_holding bs at
  unfolding saved_holding
  holding_at_lem = rw (u32_drop bs at 0, u32_drop bs at 4, add-zero at)
