-- Lists whose first places are written anew, as the memory's laws have them. Assumes nothing.
use Rattle.laws.specs.Logic.{List, [], ◌∷◌, ◌++◌, map, ◌≡◌, refl, ap, ◌∙◌}
use Rattle.laws.specs.Numbers.{ℕ, zero, suc, ◌≤◌, le_of_suc-le-suc, not-suc-le-zero, length, get_or, take, replicate, drop, length-map, List·getD-map, length-take-le}
use Rattle.laws.specs.Numbers.{get_or-take, get_or-replicate, length-replicate}
use Rattle.laws.specs.Tabulate.{tabulate, length_tabulate, tabulate_eq}
use Rattle.laws.specs.Written.{overwritten}
use Rattle.areas.specs.Lists.{padded}
use Rattle.areas.proofs.Lists.{drop_replicate}
use Rattle.rules.specs.Exchange.{no_account}
use Rattle.rules.specs.Memory.{put_first, put_account, put_accounts}
use Rattle.rules.specs.declared.Account.{Account}

-- as the memory's laws have it
pub overwritten_first : {A : Type 0} (f : ℕ → A) (l : List A) (n : ℕ) → put_first (tabulate n f) l ≡ overwritten f l n
unfolding overwritten
overwritten_first f l n = rw (length_tabulate n f)

pub zeros_first : (l part : List ℕ) (n : ℕ) → part ≡ replicate n 0 → part ++ drop n l ≡ put_first (tabulate n (λ c. 0)) l
zeros_first l part n e = rw (length_tabulate {A = ℕ} n (λ c. 0)) (ap (λ (xs : List ℕ). xs ++ drop n l) (e ∙ replicated n))
  where
    replicated : (k : ℕ) → replicate {A = ℕ} k 0 ≡ tabulate k (λ c. 0)
    replicated k = tabulate_eq k (λ c. 0) (replicate k 0) 0 (length-replicate k 0) (λ i h. get_or-replicate k i 0 0 h)

-- over zeros
pub overwritten_padded : {A : Type 0} (f : ℕ → A) (n m : ℕ) (z : A) → overwritten f (replicate m z) n ≡ padded m z (tabulate n f)
unfolding overwritten padded
overwritten_padded f n m z = rw (drop_replicate n m z, length_tabulate n f)

-- ---- accounts

pub overwritten_accounts : (f : ℕ → Account) (rooms : List Account) (n : ℕ) → n ≤ length rooms
    → put_accounts (tabulate n f) rooms ≡ overwritten (λ a. put_account (f a) (get_or rooms a no_account)) rooms n
unfolding put_accounts tabulate overwritten
overwritten_accounts f rooms zero h = refl
overwritten_accounts f [] (suc n) h = absurd (not-suc-le-zero h)
overwritten_accounts f (r ∷ rooms) (suc n) h = ap (λ (l : List Account). put_account (f 0) r ∷ l) (overwritten_accounts (λ i. f (suc i)) rooms n (le_of_suc-le-suc h))

-- ---- holdings: the first n of a list, each changed

pub overwritten_mapped : {A : Type 0} (g : A → A) (l : List A) (n : ℕ) (d : A) → n ≤ length l → put_first (map g (take n l)) l ≡ overwritten (λ i. g (get_or l i d)) l n
unfolding overwritten
overwritten_mapped g l n d h =
    let e : map g (take n l) ≡ tabulate n (λ i. g (get_or l i d)) =
    tabulate_eq n (λ i. g (get_or l i d)) (map g (take n l)) (g d) (length-map (take n l) g ∙ length-take-le n l h)
    (λ i k. List·getD-map g (take n l) i d ∙ ap g (get_or-take n l i d k)) in
    rw (e, length_tabulate n (λ i. g (get_or l i d)))
