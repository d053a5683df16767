-- What the type of a State says of its arrays, for the proofs of functions that take one. Assumes nothing.
use mathlib.Core.List.{List, [], ◌∷◌}
use mathlib.Core.Path.{◌≡◌}
use Prim.Native.Nat.{ℕ, zero, suc, ◌<◌}
use native.Mathlib.Nat.{le_of_suc-le-suc, not-suc-le-zero}
use native.Mathlib.Omega.{arith}
use base.Fml.{Fml}
use borrow.Author.Rules.{rules}
use denote.Array.{each}
use denote.Laws.{Is}
use denote.Shadow.{shadow}
use denote.Struct.Declared.{row}
use lib.ListN.{length, get_or}
use mir.Val.{Val}
use Rattle.laws.specs.Lists.{unmapped}
use Rattle.rules.specs.Exchange.{account_at, no_account}
use Rattle.rules.specs.Memory.{Declared}
use Rattle.rules.specs.declared.State.{State}
use Rattle.rules.specs.contracts.Account.{the_type as account_type}
use Rattle.rules.specs.contracts.State.{the_type}

-- what an element's type says of it holds at each place of an array
each_at : {A : Type 0} (own : A → List Val → Fml) (P : A → Type 0) (l : List A) (us : List Val) → shadow (each A own l us)
    → ((a : A) (v : Val) → shadow (own a (v ∷ [])) → P a) → (i : ℕ) (d : A) → i < length l → P (get_or l i d)
each_at own P [] us s step i d h = absurd (not-suc-le-zero h)
each_at own P (a ∷ l) [] s step i d h = absurd s
each_at own P (a ∷ l) (v ∷ us) s step zero d h = step a v s.0
each_at own P (a ∷ l) (v ∷ us) s step (suc i) d h = each_at own P l us s.1 step i d (le_of_suc-le-suc h)

-- cite it with `c.good.0` where the State is the first parameter
pub declared : {s : State} {vs : List Val} → Is (row the_type) s vs → Declared s
unfolding account_at
declared {s} {vs} good =
    record {
      contracts = search (rules, unmapped);
      accounts = search (rules, unmapped);
      buycounts = search (rules, unmapped);
      sellcounts = search (rules, unmapped);
      holdings = λ a h. each_at (row account_type).own_val (λ v. length v.holdings ≡ 4) s.accounts _ good.1.1.1.0.1.1 (λ v u s. s.1.1.1.0.1.0.1) a no_account (let e : length s.accounts ≡ 32 = search (rules, unmapped) in omega arith);
    }
