-- A state's bytes written section by section. Assumes nothing.
use mathlib.Core.List.{List, [], ◌∷◌, ◌++◌}
use mathlib.Core.Path.{◌≡◌, refl, ap, ◌∙◌}
use Prim.Native.Nat.{ℕ, ◌+◌, ◌*◌, ◌≤◌}
use Rattle.laws.specs.Numbers.{take, get_or-take, length-take-le}
use native.Mathlib.Nat.{mul-le-mul}
use native.Mathlib.Omega.{arith}
use lib.ListN.{length, length-append}
use Rattle.areas.specs.Lists.{over}
use Rattle.rules.specs.Bounds.{max_accounts, max_contracts}
use Rattle.rules.specs.DayFile.{count_width}
use Rattle.rules.specs.Exchange.{no_account, no_contract}
use Rattle.rules.specs.declared.Account.{Account}
use Rattle.rules.specs.declared.Contract.{Contract}
use Rattle.rules.specs.declared.State.{State}
use Rattle.endian.specs.Written.{Written}
use Rattle.endian.proofs.Writes.{then, length_four}
use Rattle.endian.specs.Numbers.{two, four, eight, unsigned}
use Rattle.sections.specs.Sections.{section}
use Rattle.sections.proofs.Rows.{exact, row_ext}
use Rattle.statefile.specs.StateFile.{account_bytes, contract_bytes, balance_width, mark_width, price_width, saved_account_width, saved_contract_width, settlements_width}
use Rattle.saving.specs.Parts.{account_section, contract_section, holding_section, state_bytes}

-- ---- one part after another

pub count_room : (n : ℕ) (ys : List ℕ) (at room : ℕ) → at + length (section n ys) ≤ room → at + count_width ≤ room
count_room n ys at room h = omega (arith, length-append (four n) ys, length_four n)

module _ (xs ys : List ℕ) where
  module _ {before after : List ℕ} {most at next : ℕ} (w : Written most before at xs after next) where
    pub second_room : at + length (xs ++ ys) ≤ length before → next + length ys ≤ length after
    second_room h = omega (arith, length-append xs ys, w.ends, w.kept)

    pub both_written : {more end : ℕ} {last : List ℕ} → Written more after next ys last end → Written (length (xs ++ ys)) before at (xs ++ ys) last end
    both_written v = exact (then w v)

pub few_entries : {a b : ℕ} → a ≤ max_accounts → b ≤ max_contracts → a * b ≤ max_accounts * max_contracts
few_entries h k = mul-le-mul h k

-- ---- records

module _ {b₀ b₁ b₂ b₃ b₄ b₅ b₆ b₇ b₈ : List ℕ} {at p₁ p₂ p₃ p₄ p₅ p₆ p₇ p₈ : ℕ} (c : Contract) where
  pub contract_written : Written 2 b₀ at (two c.multiplier) b₁ p₁ → Written 2 b₁ p₁ (two c.tick) b₂ p₂ → Written 4 b₂ p₂ (four c.reference) b₃ p₃
      → Written 4 b₃ p₃ (four c.band) b₄ p₄ → Written 4 b₄ p₄ (four c.limit) b₅ p₅ → Written 2 b₅ p₅ (two c.rate) b₆ p₆
      → Written 2 b₆ p₆ (two c.method) b₇ p₇ → Written price_width b₇ p₇ (four c.last) b₈ p₈ → Written saved_contract_width b₀ at (contract_bytes c) b₈ p₈
  unfolding contract_bytes
  contract_written w₁ w₂ w₃ w₄ w₅ w₆ w₇ w₈ = then w₁ (then w₂ (then w₃ (then w₄ (then w₅ (then w₆ (then w₇ w₈))))))

module _ {b₀ b₁ b₂ b₃ b₄ b₅ b₆ b₇ : List ℕ} {at p₁ p₂ p₃ p₄ p₅ p₆ p₇ : ℕ} (c : Contract) where
  pub last_room : at + saved_contract_width ≤ length b₀ → Written 2 b₀ at (two c.multiplier) b₁ p₁ → Written 2 b₁ p₁ (two c.tick) b₂ p₂ → Written 4 b₂ p₂ (four c.reference) b₃ p₃
      → Written 4 b₃ p₃ (four c.band) b₄ p₄ → Written 4 b₄ p₄ (four c.limit) b₅ p₅ → Written 2 b₅ p₅ (two c.rate) b₆ p₆
      → Written 2 b₆ p₆ (two c.method) b₇ p₇ → p₇ + price_width ≤ length b₇
  last_room h w₁ w₂ w₃ w₄ w₅ w₆ w₇ =
      let w = then w₁ (then w₂ (then w₃ (then w₄ (then w₅ (then w₆ w₇))))) in
      omega (arith, w.ends, w.short, w.kept)

pub length_contract : (c : Contract) → length (contract_bytes c) ≡ saved_contract_width
unfolding contract_bytes four two
length_contract c = refl

pub account_written : {before middle after : List ℕ} {at j next : ℕ} (a : Account) (n m : ℕ) → n ≡ unsigned a.balance → m ≡ a.maker
    → Written balance_width before at (eight n) middle j → Written mark_width middle j (m ∷ []) after next → Written saved_account_width before at (account_bytes a) after next
unfolding account_bytes
account_written a n m e f w v = rw (← e, ← f) (then w v)

pub length_account : (a : Account) → length (account_bytes a) ≡ saved_account_width
unfolding account_bytes eight four two
length_account a = refl

-- ---- the section of a list's first n places

pub first_contracts : (list : List Contract) (n : ℕ) → n ≤ length list → contract_section (take n list) (length (take n list)) ≡ contract_section list n
first_contracts list n h =
    ap (contract_section (take n list)) (length-take-le n list h) ∙ ap (section n) (row_ext _ _ n (λ i l. ap contract_bytes (get_or-take n list i no_contract l)))

pub first_accounts : (list : List Account) (n : ℕ) → n ≤ length list → account_section (take n list) (length (take n list)) ≡ account_section list n
first_accounts list n h =
    ap (account_section (take n list)) (length-take-le n list h) ∙ ap (section n) (row_ext _ _ n (λ i l. ap account_bytes (get_or-take n list i no_account l)))

-- ---- the four sections of a state

module _ (s : State) (out : List ℕ) (room : length (state_bytes s) ≤ length out) where
  abbrev A : List ℕ
  A = contract_section s.contracts s.contractcount

  abbrev B : List ℕ
  B = account_section s.accounts s.accountcount

  abbrev C : List ℕ
  C = holding_section s.accounts s.accountcount s.contractcount

  abbrev D : List ℕ
  D = section 1 (four s.settlements)

  size : length (state_bytes s) ≡ length A + (length B + (length C + length D))
  size =
      length-append A (B ++ (C ++ D))
      ∙ ap (λ (n : ℕ). length A + n) (length-append B (C ++ D) ∙ ap (λ (n : ℕ). length B + n) (length-append C D))

  pub room_first : 0 + length A ≤ length out
  room_first = omega (arith, size)

  module _ {o₁ : List ℕ} {p₁ : ℕ} (w₁ : Written (length A) out 0 A o₁ p₁) where
    pub room_second : p₁ + length B ≤ length o₁
    room_second = omega (arith, size, w₁.ends, w₁.kept)

    module _ {o₂ : List ℕ} {p₂ : ℕ} (w₂ : Written (length B) o₁ p₁ B o₂ p₂) where
      pub room_third : p₂ + length C ≤ length o₂
      room_third = omega (arith, size, w₁.ends, w₁.kept, w₂.ends, w₂.kept)

      module _ {o₃ : List ℕ} {p₃ : ℕ} (w₃ : Written (length C) o₂ p₂ C o₃ p₃) where
        pub room_last : p₃ + (count_width + settlements_width) ≤ length o₃
        room_last = omega (arith, size, w₁.ends, w₁.kept, w₂.ends, w₂.kept, w₃.ends, w₃.kept, length-append (four 1) (four s.settlements), length_four 1, length_four s.settlements)

        pub all_written : {p₄ : ℕ} {o₄ : List ℕ} → Written (count_width + settlements_width) o₃ p₃ D o₄ p₄ → o₄ ≡ over out 0 (state_bytes s)
        all_written w₄ = (then w₁ (then w₂ (then w₃ w₄))).content
