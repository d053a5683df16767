-- The digits that are printed mean the number: twenty hold every number of 64 bits. Assumes nothing.
use native.Mathlib.Nat.{pow-suc}
use Rattle.laws.specs.Logic.{Bool, true, false, List, [], ◌∷◌, ◌++◌, ◌≡◌, refl}
use Rattle.laws.specs.Numbers.{ℕ, zero, suc, ◌+◌, ◌-◌, ◌*◌, ◌/◌, ◌%◌, ◌^◌, ◌<◌, div-add-mod', arith, ltb}
use Rattle.laws.specs.Choice.{pick}
use Rattle.rules.specs.Lines.{digits, decimal}

-- what a reader makes of digits after a number that is read already
unfoldable pub value_from : ℕ → List ℕ → ℕ
value_from n [] = n
value_from n (d ∷ ds) = value_from (n * 10 + (d - 48)) ds

abbrev pub value : List ℕ → ℕ
value ds = value_from 0 ds

value_snoc : (n : ℕ) (ds : List ℕ) (d : ℕ) → value_from n (ds ++ (d ∷ [])) ≡ value_from n ds * 10 + (d - 48)
unfolding value_from
value_snoc n [] d = refl
value_snoc n (e ∷ ds) d = value_snoc (n * 10 + (e - 48)) ds d

pub digits_value : (places n : ℕ) → n < 10 ^ places → value (digits places n) ≡ n
unfolding digits value_from
digits_value zero n h = omega arith
digits_value (suc places) n h = by_one_digit (ltb n 10) refl (λ q. digits_value places (n / 10) q)
  where
    by_one_digit : (t : Bool) → ltb n 10 ≡ t → (n / 10 < 10 ^ places → value (digits places (n / 10)) ≡ n / 10)
        → value (pick t ((48 + n) ∷ []) (digits places (n / 10) ++ ((48 + n % 10) ∷ []))) ≡ n
    by_one_digit true e before = omega arith
    by_one_digit false e before =
        let q : n / 10 < 10 ^ places = omega (arith, pow-suc 10 places) in
        rw (value_snoc 0 (digits places (n / 10)) (48 + n % 10), before q) (omega (arith, div-add-mod' n 10))

pub decimal_value : (n : ℕ) → n < 2 ^ 64 → value (decimal n) ≡ n
unfolding decimal
decimal_value n h = digits_value 20 n (omega arith)
