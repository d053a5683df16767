-- What `all` answers over a range, a slice and two slices, in the words of the definitions. Assumes nothing.
use Prim.Native.Nat.{ℕ, ◌-◌, ◌<◌}
use denote.Param.Members.{Mut}
use denote.Ref.{Bor}
use Rattle.std.specs.Prelude.{Bool, true, false, List, [], ◌∷◌, ◌≡◌, get_or, length, Option}
use Rattle.std.specs.Fn.{Called}
use Rattle.std.specs.Iterator.{YieldsThen}
use Rattle.std.specs.Iterator.Adapters.{zip_first, zip_second}
use Rattle.std.specs.List.{list_all, range_with_len, zip, FoldsTo}
use Rattle.std.specs.Option.{MatchOption}
use Rattle.std.specs.Slice.Iter.{iter_rest}
use Rattle.std.specs.declared.ops.Range.{Range}
use Rattle.std.specs.declared.iter.Zip.{Zip}
use Rattle.std.specs.declared.slice.Iter.{Iter}
use Rattle.std.proofs.iter.Yields.{fronts, nat_range_steps}
use Rattle.std.proofs.Common.{refl, sym, ap, ◌∙◌, arith}
use Rattle.std.proofs.lemmas.Iterator.{YieldsList-from_range, YieldsList-from_slice, YieldsList-from_zip, zips}
use Rattle.std.proofs.lemmas.Iterator.Search.{all_from_yields_List}
use Rattle.std.proofs.lemmas.List.FromFn.{length-range_with_len, get_or-range_with_len}
use Rattle.laws.specs.Choice.{all, all_ext, all_of, all_of_all}

list_all_of : {A : Type 0} (p : A → Bool) (l : List A) → list_all p l ≡ all_of p l
unfolding all_of
list_all_of p [] = refl
list_all_of p (x ∷ xs) = rw (list_all_of p xs) refl

range_all : (p : ℕ → Bool) (n : ℕ) → list_all p (range_with_len 0 n) ≡ all p n
range_all p n =
    list_all_of p (range_with_len 0 n)
    ∙ all_of_all p (range_with_len 0 n) 0
    ∙ rw length-range_with_len (all_ext _ p n (λ i h. rw (get_or-range_with_len 0 n i 0 h) (ap p (omega arith))))

-- `(a..b).all(..)`, where the closure makes the test p
pub range_tested : {F : Type 0} {g : Mut F (ℕ × Unit {0}) Bool} (p : ℕ → Bool) (a b : ℕ) {u : Range ℕ} {f : F} {r : Bool}
    → (xs : List ℕ) × (o : Option ℕ) × (j : F) × YieldsThen nat_range_steps (record { start = a; end = b }) xs o u × FoldsTo (λ p x q. Called g p (x, tt) true q) f xs j × MatchOption o (r ≡ true) (λ x. (r ≡ false) × ((h : F) × Called g j (x, tt) false h))
    → ((x : ℕ) (b : Bool) (q : F) → Called g f (x, tt) b q → (q ≡ f) × (b ≡ p x))
    → r ≡ list_all p (range_with_len a (b - a))
range_tested p a b {u} {f} {r} ran test = all_from_yields_List p u f r ran (YieldsList-from_range a b (b - a) refl refl) test

-- `(0..n).all(..)`
pub count_tested : {F : Type 0} {g : Mut F (ℕ × Unit {0}) Bool} (p : ℕ → Bool) (n : ℕ) {u : Range ℕ} {f : F} {r : Bool}
    → (xs : List ℕ) × (o : Option ℕ) × (j : F) × YieldsThen nat_range_steps (record { start = 0; end = n }) xs o u × FoldsTo (λ p x q. Called g p (x, tt) true q) f xs j × MatchOption o (r ≡ true) (λ x. (r ≡ false) × ((h : F) × Called g j (x, tt) false h))
    → ((x : ℕ) (b : Bool) (q : F) → Called g f (x, tt) b q → (q ≡ f) × (b ≡ p x))
    → r ≡ all p n
count_tested p n {u} {f} {r} ran test =
    all_from_yields_List p u f r ran (YieldsList-from_range 0 n n refl (omega arith)) test ∙ range_all p n

-- the elements of a list, each read at its place
pub each_read : {A : Type 0} (p : A → Bool) (l : List A) (d : A) {n : ℕ} (at : ℕ → A) → length l ≡ n → ((i : ℕ) → i < n → get_or l i d ≡ at i) → all (λ i. p (at i)) n ≡ all_of p l
each_read p l d {n} at e reads =
    sym (all_of_all p l d ∙ rw e (all_ext (λ i. p (get_or l i d)) (λ i. p (at i)) n (λ i h. ap p (reads i h))))

-- `xs.iter().all(..)`, where the closure makes the test p
pub slice_tested : {A F : Type 0} {g : Mut F (Bor A × Unit {0}) Bool} (p : A → Bool) (l : List A) {s u : Iter A} {f : F} {r : Bool} → iter_rest s ≡ l
    → (xs : List (Bor A)) × (o : Option (Bor A)) × (j : F) × YieldsThen fronts s xs o u × FoldsTo (λ p x q. Called g p (x, tt) true q) f xs j × MatchOption o (r ≡ true) (λ x. (r ≡ false) × ((h : F) × Called g j (x, tt) false h))
    → ((x : Bor A) (b : Bool) (q : F) → Called g f (x, tt) b q → (q ≡ f) × (b ≡ p x.now))
    → r ≡ all_of p l
slice_tested p l {s} {u} {f} {r} e ran test =
    all_from_yields_List p u f r ran (YieldsList-from_slice l e) test ∙ list_all_of p l

-- `xs.iter().zip(ys.iter()).all(..)`
pub zip_tested : {A B F : Type 0} {g : Mut F ((Bor A × Bor B) × Unit {0}) Bool} (p : A × B → Bool) (xs : List A) (ys : List B) (s u : Zip (Iter A) (Iter B)) {f : F} {r : Bool}
    → iter_rest (zip_first s) ≡ xs → iter_rest (zip_second s) ≡ ys
    → (zs : List (Bor A × Bor B)) × (o : Option (Bor A × Bor B)) × (j : F) × YieldsThen (zips fronts fronts) s zs o u × FoldsTo (λ p x q. Called g p (x, tt) true q) f zs j × MatchOption o (r ≡ true) (λ x. (r ≡ false) × ((h : F) × Called g j (x, tt) false h))
    → ((x : Bor A × Bor B) (b : Bool) (q : F) → Called g f (x, tt) b q → (q ≡ f) × (b ≡ p (x.0.now, x.1.now)))
    → r ≡ list_all p (zip xs ys)
zip_tested p xs ys s u {f} {r} d e ran test =
    all_from_yields_List p u f r ran (YieldsList-from_zip (YieldsList-from_slice xs d) (YieldsList-from_slice ys e)) test
