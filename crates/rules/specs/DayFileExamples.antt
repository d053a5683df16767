-- Files that are sound and near misses that are not, worked out by hand. Two tables, a statement each. Assumes nothing.
use Rattle.std.specs.Prelude.{true, List, [], ◌∷◌, ◌++◌, ◌≡◌, refl, ℕ, ◌*◌, ◌-◌, replicate}
use Rattle.laws.specs.Choice.{all}
use Rattle.rules.specs.Answers.{mark}
use Rattle.rules.specs.Bounds.{on_tick, terms_in_range, tick_multiple}
use Rattle.rules.specs.DayFile.{account_place, account_sound, accounts_in, balance_from, command_place, commands_in, contract_from, contract_place, contract_sound, contracts_in, sound, u16_at, u32_at, u64_at, u8_at}
use Rattle.rules.specs.Examples.{Row, ◌gives◌, all_right}

-- a contract with this multiplier, tick 1, reference 100, band 10, limit 1,000, rate 1,000, method 0
terms : ℕ → List ℕ
terms multiplier = multiplier ∷ 0 ∷ 1 ∷ 0 ∷ 100 ∷ 0 ∷ 0 ∷ 0 ∷ 10 ∷ 0 ∷ 0 ∷ 0 ∷ 232 ∷ 3 ∷ 0 ∷ 0 ∷ 232 ∷ 3 ∷ 0 ∷ 0 ∷ []

-- so many contracts, with these bytes
contracts : ℕ → List ℕ → List ℕ
contracts count bytes = (count ∷ 0 ∷ 0 ∷ 0 ∷ []) ++ bytes

contract : List ℕ
contract = contracts 1 (terms 10)

-- 10^18 and so many more
balance : ℕ → List ℕ
balance more = more ∷ 0 ∷ 100 ∷ 167 ∷ 179 ∷ 182 ∷ 224 ∷ 13 ∷ []

-- so many accounts, the last with that balance; no commands, and these bytes behind their count
file : ℕ → List ℕ → List ℕ → List ℕ
file accounts last behind =
    contract ++ ((accounts ∷ 0 ∷ 0 ∷ 0 ∷ []) ++ (replicate (8 * (accounts - 1)) 0 ++ (last ++ ((0 ∷ 0 ∷ 0 ∷ 0 ∷ []) ++ behind))))

-- these contracts, one account with nothing, no commands
listing : List ℕ → List ℕ
listing some = some ++ ((1 ∷ 0 ∷ 0 ∷ 0 ∷ []) ++ replicate 12 0)

pub table : List Row
table =
    -- 10^18 and no more, no bytes after the last command
    (mark (sound (file 1 (balance 0) [])) gives 1)
    ∷ (mark (sound (file 1 (balance 1) [])) gives 0)
    ∷ (mark (sound (file 1 (balance 0) (0 ∷ []))) gives 0)
    -- one to four contracts, each of them in range
    ∷ (mark (sound (listing (contracts 0 []))) gives 0)
    ∷ (mark (sound (listing (contracts 2 (terms 10 ++ terms 10)))) gives 1)
    ∷ (mark (sound (listing (contracts 2 (terms 10 ++ terms 0)))) gives 0)
    ∷ (mark (sound (listing (contracts 4 (terms 10 ++ (terms 10 ++ (terms 10 ++ terms 10)))))) gives 1)
    ∷ (mark (sound (listing (contracts 5 (terms 10 ++ (terms 10 ++ (terms 10 ++ (terms 10 ++ terms 10))))))) gives 0)
    -- the last price starts as the reference
    ∷ ((contract_from (file 1 (balance 0) []) 4).last gives 100)
    ∷ []

pub day_file_examples : all_right table ≡ true
unfolding all_right table terms contracts contract balance file listing account_place account_sound accounts_in all balance_from command_place commands_in contract_from contract_place contract_sound contracts_in on_tick sound terms_in_range tick_multiple u16_at u32_at u64_at u8_at
day_file_examples = refl

-- 32 accounts and no more
pub counts : List Row
counts = (mark (sound (file 32 (balance 0) [])) gives 1) ∷ (mark (sound (file 33 (balance 0) [])) gives 0) ∷ []

pub count_examples : all_right counts ≡ true
unfolding all_right counts terms contracts contract balance file account_place account_sound accounts_in all balance_from command_place commands_in contract_from contract_place contract_sound contracts_in on_tick sound terms_in_range tick_multiple u16_at u32_at u64_at u8_at
count_examples = refl
