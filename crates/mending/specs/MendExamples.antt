-- A file that `mend` accepts, with a malformed record, a settlement and a partial record, mended by the definitions. Assumes nothing.
use Rattle.std.specs.Prelude.{List, [], ◌∷◌, ◌++◌, ◌≡◌, refl, ℕ, replicate}
use Rattle.laws.specs.Choice.{all, all_of}
use Rattle.rules.specs.Answers.{first_of}
use Rattle.rules.specs.Bounds.{on_tick, tick_multiple, terms_in_range}
use Rattle.rules.specs.Command.{zeros, bits, command_of, settle_of}
use Rattle.rules.specs.DayFile.{u8_at, u16_at, u32_at, u64_at, contracts_in, contract_place, accounts_in, account_place, command_place, record_from, contract_from, contract_sound, balance_from, account_sound}
use Rattle.endian.specs.Numbers.{two, four, eight}
use Rattle.dayfile.specs.FileHead.{head_whole, head_sound}
use Rattle.mending.specs.Mend.{reason, kept, kept_bytes, dropped, list_from, mended_file, dropped_list, mend_code}

-- one contract and one account, up to the command count: contract 10, 1, 100, 10, 1,000, 1,000 and method 0, as in document 01's
-- example; balance 10,000
unfoldable pub front : List ℕ
front =
    (1 ∷ 0 ∷ 0 ∷ 0 ∷ [])
    ++ ((10 ∷ 0 ∷ 1 ∷ 0 ∷ 100 ∷ 0 ∷ 0 ∷ 0 ∷ 10 ∷ 0 ∷ 0 ∷ 0 ∷ 232 ∷ 3 ∷ 0 ∷ 0 ∷ 232 ∷ 3 ∷ 0 ∷ 0 ∷ [])
    ++ ((1 ∷ 0 ∷ 0 ∷ 0 ∷ []) ++ (16 ∷ 39 ∷ replicate 6 0)))

-- the stored count is 99; the records are one of kind 255, a settlement, and two bytes
unfoldable pub broken : List ℕ
broken = front ++ ((99 ∷ 0 ∷ 0 ∷ 0 ∷ 255 ∷ replicate 23 0) ++ ((7 ∷ replicate 23 0) ++ (3 ∷ 1 ∷ [])))

pub mended_example : mended_file broken ≡ front ++ ((1 ∷ 0 ∷ 0 ∷ 0 ∷ []) ++ (7 ∷ replicate 23 0))
unfolding front broken all_of zeros bits command_of settle_of u8_at u16_at u32_at u64_at contracts_in contract_place accounts_in account_place command_place record_from two four eight reason kept kept_bytes dropped list_from mended_file
mended_example = refl

-- two dropped: the first malformed, the third partial
pub list_example : dropped_list broken
    ≡ (2 ∷ replicate 7 0) ++ ((1 ∷ replicate 7 0) ++ ((1 ∷ []) ++ ((3 ∷ replicate 7 0) ++ (2 ∷ []))))
unfolding front broken all_of zeros bits command_of settle_of u8_at u16_at u32_at u64_at contracts_in contract_place accounts_in account_place command_place record_from two four eight reason kept kept_bytes dropped list_from mended_file
list_example = refl

-- it is accepted, with 64 bytes for the mended file and 26 for the list; with one byte less of either it is 29
pub code_example : (mend_code broken 64 26 ≡ 0) × (mend_code broken 63 26 ≡ 29) × (mend_code broken 64 25 ≡ 29)
unfolding front broken all all_of zeros bits command_of settle_of u8_at u16_at u32_at u64_at contracts_in contract_place accounts_in account_place command_place record_from contract_from contract_sound balance_from account_sound on_tick tick_multiple terms_in_range first_of two four eight reason kept kept_bytes dropped list_from mended_file head_whole head_sound mend_code
code_example = (refl, refl, refl)

-- "20" before "29": no bytes are no file's front, whatever the room
pub head_example : (mend_code [] 64 26 ≡ 20) × (mend_code [] 0 0 ≡ 20)
unfolding all all_of u8_at u16_at u32_at u64_at contracts_in contract_place accounts_in account_place command_place contract_from contract_sound balance_from account_sound on_tick tick_multiple terms_in_range first_of head_whole head_sound mend_code
head_example = (refl, refl)

-- of its first record none is kept, of its first two one
pub kept_example : (kept broken 40 1 ≡ 0) × (kept broken 40 2 ≡ 1)
unfolding front broken all_of zeros bits command_of settle_of u8_at u16_at u32_at u64_at record_from reason kept
kept_example = (refl, refl)

-- the settlement is kept behind 1,999 kept ones and is surplus behind 2,000; the record of kind 255 is malformed all the same
pub surplus_example : (reason broken 40 1 1_999 ≡ 0) × (reason broken 40 1 2_000 ≡ 3) × (reason broken 40 0 2_000 ≡ 1)
unfolding front broken all_of zeros bits command_of settle_of u8_at u16_at u32_at u64_at record_from reason
surplus_example = (refl, refl, refl)
