-- A count from 0 to n, with the test p of each number. Assumes nothing.
use Rattle.laws.specs.Logic.{Bool, true, ◌≡◌, sym, subst, List, [], ◌∷◌, ap, ◌∙◌}
use Rattle.laws.specs.Numbers.{ℕ, ◌≤◌, arith, ◌+◌, ◌<◌, add-one, length, get_or, take, drop, length-take, drop_of_length-le, length-take-le, drop-cons, get_or-take}
use Rattle.laws.specs.Choice.{all, all_at, all_true, same_test}

pub all_end : (p : ℕ → Bool) {i n : ℕ} → all p i ≡ true → i ≤ n → n ≤ i → true ≡ all p n
all_end p {i} {n} h l r =
    let e : i ≡ n = omega arith in
    sym (subst (λ (k : ℕ). all p k ≡ true) e h)

-- two counts in either order
pub all_swap : (p : ℕ → ℕ → Bool) (n m : ℕ) → all (λ a. all (λ c. p a c) m) n ≡ all (λ c. all (λ a. p a c) n) m
all_swap p n m =
    same_test (all (λ a. all (λ c. p a c) m) n) (all (λ c. all (λ a. p a c) n) m)
    (λ t. all_true (λ c. all (λ a. p a c) n) m (λ c hc. all_true (λ a. p a c) n (λ a ha. all_at (λ c. p a c) c m (all_at (λ a. all (λ c. p a c) m) a n t ha) hc)))
    (λ t. all_true (λ a. all (λ c. p a c) m) n (λ a ha. all_true (λ c. p a c) m (λ c hc. all_at (λ a. p a c) a n (all_at (λ c. all (λ a. p a c) n) c m t hc) ha)))

-- ---- a list from its first element to its last

-- the element at i, and those behind it
pub next_of : {A : Type 0} (l : List A) (i : ℕ) (d : A) → i < length l → drop i l ≡ get_or l i d ∷ drop (i + 1) l
next_of l i d h = rw add-one (drop-cons l i d h)

-- the same of the first n elements
pub next_in : {A : Type 0} (n : ℕ) (l : List A) (i : ℕ) (d : A) → i < n → n ≤ length l → drop i (take n l) ≡ get_or l i d ∷ drop (i + 1) (take n l)
next_in n l i d h m = next_of (take n l) i d (rw (length-take-le n l m) h) ∙ ap (λ x. x ∷ drop (i + 1) (take n l)) (get_or-take n l i d h)

pub none_in : {A : Type 0} (n : ℕ) (l : List A) (i : ℕ) → n ≤ i → drop i (take n l) ≡ []
none_in n l i h = drop_of_length-le (take n l) {i = i} (rw length-take (omega arith))
