-- Accounts as they lie: those in use compared pair by pair, and all changed one after the other. Assumes nothing.
use lib.Seq.{get_or_at}
use Rattle.std.specs.List.{list_all, zip}
use Rattle.std.proofs.lemmas.List.{map_more}
use Rattle.laws.specs.Logic.{Bool, ◌&&◌, List, [], ◌∷◌, ◌++◌, append-nil, append_assoc, map, ◌≡◌, refl, ap, ◌∙◌}
use Rattle.laws.specs.Numbers.{ℕ, suc, ◌+◌, ◌<◌, ◌≤◌, add-one, arith, eqb, length, get_or, set, take, drop, drop-cons, length-map, length-take-le, take_all, drop_of_length-le, set_at}
use Rattle.rules.specs.Holdings.{same_holdings, same_lots}
use Rattle.rules.specs.Memory.{in_use}
use Rattle.rules.specs.declared.{Account.Account, Holding.Holding}

abbrev pub same_pair : Holding × Holding → Bool
same_pair p = eqb p.0.long p.1.long && eqb p.0.short p.1.short

pub lots_compared : (hs gs : List Holding) → length hs ≡ length gs → list_all same_pair (zip hs gs) ≡ same_lots hs gs
unfolding same_lots
lots_compared [] [] e = refl
lots_compared [] (g ∷ gs) e = absurd (omega arith)
lots_compared (h ∷ hs) [] e = absurd (omega arith)
lots_compared (h ∷ hs) (g ∷ gs) e = rw (lots_compared hs gs (omega arith)) refl

pub holdings_compared : (k : ℕ) (l r : List Account) → length l ≡ length r
    → list_all (λ (p : Account × Account). same_lots (take k p.0.holdings) (take k p.1.holdings)) (zip l r) ≡ same_holdings (map (in_use k) l) (map (in_use k) r)
unfolding same_holdings
holdings_compared k [] [] e = refl
holdings_compared k [] (b ∷ r) e = absurd (omega arith)
holdings_compared k (a ∷ l) [] e = absurd (omega arith)
holdings_compared k (a ∷ l) (b ∷ r) e = rw (holdings_compared k l r (omega arith)) refl

-- the element at i changed by h, behind those changed
pub mapped_more : {A : Type 0} (h : A → A) (l items : List A) (i : ℕ) (d : A) {r : A} → i < length l → items ≡ map h (take i l) ++ drop i l → r ≡ h (get_or items i d)
    → set items i r ≡ map h (take (i + 1) l) ++ drop (i + 1) l
mapped_more {A} h l items i d {r} b so_far e =
    let front : length (map h (take i l)) ≡ i = length-map (take i l) h ∙ length-take-le i l (omega arith) in
    let here : items ≡ map h (take i l) ++ (get_or l i d ∷ drop (suc i) l) = so_far ∙ ap (λ (xs : List A). map h (take i l) ++ xs) (drop-cons l i d b) in
    let read : r ≡ h (get_or l i d) = e ∙ ap (λ (xs : List A). h (get_or xs i d)) here ∙ ap h (get_or_at (map h (take i l)) (get_or l i d) (drop (suc i) l) d i front) in
    rw (map_more h l i d b, add-one i, append_assoc (map h (take i l)) (h (get_or l i d) ∷ []) (drop (suc i) l), here, read)
    (set_at (map h (take i l)) (get_or l i d) (drop (suc i) l) (h (get_or l i d)) i front)

pub mapped_all : {A : Type 0} (h : A → A) (l : List A) (i : ℕ) {items : List A} → length l ≤ i → items ≡ map h (take i l) ++ drop i l → items ≡ map h l
mapped_all h l i b so_far = so_far ∙ rw (take_all i l b, drop_of_length-le l {i = i} b) (append-nil (map h l))
