-- The laws of `specs/Lists.antt`. Assumes nothing.
use native.Mathlib.Nat.{add-zero, add_assoc, sub_self, sub-zero, suc-sub-suc, zero-sub, zero-add}
use lib.ListN.{take-append-drop, drop_of_length-le, get_or-append, get_or-replicate}
use lib.Seq.{sets, sets-eq, take-take, take-add, take_at, take-append-le, take-append-add, drop_at, drop-drop, drop-append-le, drop-append-add, length-take-le, set_split, get_or-take, get_or-drop, get_or-append-add}
use Rattle.laws.specs.Logic.{List, [], ◌∷◌, ◌++◌, append-nil, append_assoc, ◌≡◌, refl, sym, ap, ◌∙◌}
use Rattle.laws.specs.Numbers.{ℕ, zero, suc, ◌+◌, ◌-◌, ◌<◌, ◌≤◌, add-one, arith, length, get_or, set, take, drop, replicate, length-append, length-drop}
use Rattle.laws.specs.Numbers.{length-replicate, length-take}
use Rattle.areas.specs.Lists.{over, insert_at, remove_at, padded}

module _ {A : Type 0} where
  -- ---- parts of parts

  pub drop_take : (w k : ℕ) (l : List A) → w ≤ k → w ≤ length l → drop w (take k l) ≡ take (k - w) (drop w l)
  drop_take w k l h b =
      let e : k ≡ w + (k - w) = omega arith in
      ap (λ (n : ℕ). drop w (take n l)) e ∙ rw (take-add w (k - w) l, drop_at (take w l) (take (k - w) (drop w l)) w (length-take-le w l b))

  -- the first n from place k on, and what follows them
  pub part_rest : (n k : ℕ) (l : List A) → take n (drop k l) ++ drop (k + n) l ≡ drop k l
  part_rest n k l = rw (← drop-drop n k l) (take-append-drop n (drop k l))

  -- ---- a part replaced

  -- from what stands before and after it
  over_is : (l : List A) (at : ℕ) (ys before after : List A) → take at l ≡ before → drop (at + length ys) l ≡ after
      → over l at ys ≡ before ++ (ys ++ after)
  unfolding over
  over_is l at ys before after p q = rw (p, q)

  pub length_over : (l : List A) (at : ℕ) (ys : List A) → at + length ys ≤ length l → length (over l at ys) ≡ length l
  unfolding over
  length_over l at ys h = simp (length-append, length-take, length-drop) (omega arith)

  pub over_nil : (l : List A) (at : ℕ) → over l at [] ≡ l
  unfolding over
  over_nil l at = rw add-zero (take-append-drop at l)

  -- up to the end of the list
  pub over_tail : (l : List A) (at : ℕ) (ys : List A) → length l ≤ at + length ys → over l at ys ≡ take at l ++ ys
  unfolding over
  over_tail l at ys h = rw (drop_of_length-le l {i = at + length ys} h, append-nil)

  -- writing what stands there changes nothing
  pub over_part : (l : List A) (at n : ℕ) → at + n ≤ length l → over l at (take n (drop at l)) ≡ l
  unfolding over
  over_part l at n h =
      let e : length (take n (drop at l)) ≡ n = length-take-le n (drop at l) (rw length-drop (omega arith)) in
      rw (e, part_rest n at l) (take-append-drop at l)

  -- what is read before, at and after the replaced part
  module _ (l : List A) (at : ℕ) (ys : List A) (inside : at ≤ length l) where
    front : length (take at l) ≡ at
    front = length-take-le at l inside

    head : length (take at l ++ ys) ≡ at + length ys
    head = rw (length-append, front)

    pub take_over : (n : ℕ) → n ≤ at → take n (over l at ys) ≡ take n l
    unfolding over
    take_over n h = take-append-le n (take at l) _ (rw front h) ∙ take-take n at l h

    pub drop_over_at : drop at (over l at ys) ≡ ys ++ drop (at + length ys) l
    unfolding over
    drop_over_at = drop_at (take at l) _ at front

    pub take_over_after : (n : ℕ) → at + length ys ≤ n
        → take n (over l at ys) ≡ take at l ++ (ys ++ take (n - (at + length ys)) (drop (at + length ys) l))
    unfolding over
    take_over_after n h =
        let rest : List A = drop (at + length ys) l in
        let e : n ≡ length (take at l ++ ys) + (n - (at + length ys)) = rw head (omega arith) in
        ap (λ (k : ℕ). take k (take at l ++ (ys ++ rest))) e
        ∙ rw (← append_assoc (take at l) ys rest, take-append-add (take at l ++ ys) rest (n - (at + length ys))) (simp append_assoc)

    pub drop_over : (n : ℕ) → at + length ys ≤ n → drop n (over l at ys) ≡ drop n l
    unfolding over
    drop_over n h =
        let rest : List A = drop (at + length ys) l in
        let e : n ≡ length (take at l ++ ys) + (n - (at + length ys)) = rw head (omega arith) in
        let m : at + length ys + (n - (at + length ys)) ≡ n = omega arith in
        ap (λ (k : ℕ). drop k (take at l ++ (ys ++ rest))) e
        ∙ rw (← append_assoc (take at l) ys rest, drop-append-add (take at l ++ ys) rest (n - (at + length ys)), drop-drop, m)

    -- an element before the replaced part, in it and behind it
    pub get_d_over_before : (k : ℕ) (d : A) → k < at → get_or (over l at ys) k d ≡ get_or l k d
    get_d_over_before k d h =
        sym (get_or-take at (over l at ys) k d h) ∙ ap (λ (r : List A). get_or r k d) (take_over at (omega arith)) ∙ get_or-take at l k d h

    pub get_d_over_in : (k : ℕ) (d : A) → k < length ys → get_or (over l at ys) (at + k) d ≡ get_or ys k d
    get_d_over_in k d h =
        sym (get_or-drop at (over l at ys) k d) ∙ ap (λ (r : List A). get_or r k d) drop_over_at ∙ get_or-append ys (drop (at + length ys) l) d k h

    pub get_d_over_behind : (k : ℕ) (d : A) → at + length ys ≤ k → get_or (over l at ys) k d ≡ get_or l k d
    get_d_over_behind k d h =
        let e : k ≡ k + 0 = omega arith in
        ap (λ (j : ℕ). get_or (over l at ys) j d) e ∙ sym (get_or-drop k (over l at ys) 0 d)
        ∙ ap (λ (r : List A). get_or r 0 d) (drop_over k h) ∙ get_or-drop k l 0 d ∙ ap (λ (j : ℕ). get_or l j d) (sym e)

    -- a second write over the front of the first
    pub over_front : (zs : List A) → length zs ≤ length ys → over (over l at ys) at zs ≡ over l at (zs ++ drop (length zs) ys)
    unfolding over
    over_front zs h =
        let rest : List A = drop (at + length ys) l in
        let e : at + length (zs ++ drop (length zs) ys) ≡ at + length ys = simp (length-append, length-drop) (omega arith) in
        let d : drop at (take at l ++ (ys ++ rest)) ≡ ys ++ rest = drop_at (take at l) (ys ++ rest) at front in
        let r : drop (at + length zs) (take at l ++ (ys ++ rest)) ≡ drop (length zs) ys ++ rest =
        rw (← drop-drop (length zs) at (take at l ++ (ys ++ rest)), d) (drop-append-le (length zs) ys rest h) in
        rw (take_at (take at l) (ys ++ rest) at front, r, e) (simp append_assoc)

    -- the second of two writes of the same length at the same place is the one that stays
    pub over_over : (zs : List A) → length zs ≡ length ys → over (over l at ys) at zs ≡ over l at zs
    over_over zs h = over_front zs (omega arith) ∙ rw (drop_of_length-le ys {i = length zs} (omega arith), append-nil)

    -- one write after the other
    pub over_append : (zs : List A) → over l at (ys ++ zs) ≡ over (over l at ys) (at + length ys) zs
    over_append zs =
        let t : take (at + length ys) (over l at ys) ≡ take at l ++ ys = take_over_after (at + length ys) (omega arith) ∙ rw sub_self (rw append-nil) in
        let r : drop (at + length ys + length zs) (over l at ys) ≡ drop (at + length (ys ++ zs)) l =
        drop_over (at + length ys + length zs) (omega arith) ∙ rw (length-append, add_assoc) in
        over_is l at (ys ++ zs) _ _ refl refl ∙ sym (over_is (over l at ys) (at + length ys) zs _ _ t r ∙ simp append_assoc)

  -- a write inside a part is a write of the part, changed
  pub over_inside : (l : List A) (at n j : ℕ) (ys : List A) → j + length ys ≤ n → at + n ≤ length l
      → over l (at + j) ys ≡ over l at (over (take n (drop at l)) j ys)
  over_inside l at n j ys h b =
      let p : List A = take n (drop at l) in
      let e : ℕ = j + length ys in
      let lp : length p ≡ n = length-take-le n (drop at l) (rw length-drop (omega arith)) in
      let lo : length (over p j ys) ≡ n = length_over p j ys (rw lp h) ∙ lp in
      let t : take j p ≡ take j (drop at l) = take-take j n (drop at l) (omega arith) in
      let r : drop e p ≡ take (n - e) (drop (at + e) l) = drop_take e n (drop at l) h (rw length-drop (omega arith)) ∙ rw drop-drop in
      let o : over p j ys ≡ take j (drop at l) ++ (ys ++ take (n - e) (drop (at + e) l)) = over_is p j ys _ _ t r in
      let k : at + n ≡ at + e + (n - e) = omega arith in
      let q : drop (at + length (over p j ys)) l ≡ drop (at + e + (n - e)) l = rw (lo, k) in
      over_is l (at + j) ys _ _ (take-add at j l) refl
      ∙ sym (over_is l at (over p j ys) _ _ refl q ∙ rw o (simp append_assoc (rw (part_rest (n - e) (at + e) l, add_assoc at j (length ys)))))

  -- writes to places apart are in either order
  pub over_comm : (l : List A) (at : ℕ) (ys : List A) (bt : ℕ) (zs : List A) → at + length ys ≤ bt → bt + length zs ≤ length l
      → over (over l at ys) bt zs ≡ over (over l bt zs) at ys
  over_comm l at ys bt zs h b =
      let e : ℕ = at + length ys in
      let t : take bt (over l at ys) ≡ take at l ++ (ys ++ take (bt - e) (drop e l)) = take_over_after l at ys (omega arith) bt h in
      let r : drop (bt + length zs) (over l at ys) ≡ drop (bt + length zs) l = drop_over l at ys (omega arith) (bt + length zs) (omega arith) in
      let t2 : take at (over l bt zs) ≡ take at l = take_over l bt zs (omega arith) at (omega arith) in
      let lb : length (take bt l) ≡ bt = length-take-le bt l (omega arith) in
      let r2 : drop e (over l bt zs) ≡ take (bt - e) (drop e l) ++ (zs ++ drop (bt + length zs) l) =
      ap (drop e) (over_is l bt zs _ _ refl refl)
      ∙ drop-append-le e (take bt l) (zs ++ drop (bt + length zs) l) (rw lb h) ∙ rw (drop_take e bt l h (omega arith)) in
      over_is (over l at ys) bt zs _ _ t r ∙ sym (over_is (over l bt zs) at ys _ _ t2 r2 ∙ simp append_assoc)

  -- a run of stores, as code makes it, and one store
  pub sets_over : (l : List A) (at : ℕ) (ys : List A) → at + length ys ≤ length l → sets l at ys ≡ over l at ys
  unfolding over
  sets_over l at ys h = sets-eq ys l at h ∙ simp append_assoc

  pub set_over : (l : List A) (i : ℕ) (o : A) → i < length l → set l i o ≡ over l i (o ∷ [])
  unfolding over
  set_over l i o h = set_split l i o h ∙ rw add-one

  -- ---- an element put in or taken out

  pub length_insert_at : (i : ℕ) (o : A) (os : List A) → length (insert_at i o os) ≡ length os + 1
  unfolding insert_at
  length_insert_at i o os = simp (length-append, length-take, length-drop) (omega arith)

  pub length_remove_at : (i : ℕ) (os : List A) → i < length os → length (remove_at i os) ≡ length os - 1
  unfolding remove_at
  length_remove_at i os h = simp (length-append, length-take, length-drop) (omega arith)

  -- ---- filled up to n places

  pub length_padded : (n : ℕ) (z : A) (os : List A) → length os ≤ n → length (padded n z os) ≡ n
  unfolding padded
  length_padded n z os h = simp (length-append, length-replicate) (omega arith)

  pub padded_nil : (n : ℕ) (z : A) → padded n z [] ≡ replicate n z
  unfolding padded
  padded_nil n z = rw sub-zero

  pub padded_full : (z : A) (os : List A) → padded (length os) z os ≡ os
  unfolding padded
  padded_full z os = rw (sub_self, append-nil)

  pub take_padded : (n : ℕ) (z : A) (os : List A) → take (length os) (padded n z os) ≡ os
  unfolding padded
  take_padded n z os = take_at os (replicate (n - length os) z) (length os) refl

  pub get_d_padded : (n i : ℕ) (z d : A) (os : List A) → i < length os → get_or (padded n z os) i d ≡ get_or os i d
  unfolding padded
  get_d_padded n i z d os h = get_or-append os (replicate (n - length os) z) d i h

  pub get_d_fill : (n i : ℕ) (z d : A) (os : List A) → length os ≤ i → i < n → get_or (padded n z os) i d ≡ z
  unfolding padded
  get_d_fill n i z d os h l =
      let e : i ≡ length os + (i - length os) = omega arith in
      ap (λ (j : ℕ). get_or (os ++ replicate (n - length os) z) j d) e
      ∙ get_or-append-add os (replicate (n - length os) z) (i - length os) d ∙ get_or-replicate (n - length os) (i - length os) z d (omega arith)

  -- what is left of a list of copies
  pub drop_replicate : (k n : ℕ) (z : A) → drop k (replicate n z) ≡ replicate (n - k) z
  drop_replicate zero n z = rw sub-zero
  drop_replicate (suc k) zero z = rw zero-sub
  drop_replicate (suc k) (suc n) z = drop_replicate k n z ∙ rw suc-sub-suc

  -- past the elements there are only copies
  pub drop_padded : (n k : ℕ) (z : A) (os : List A) → length os ≤ k → drop k (padded n z os) ≡ replicate (n - k) z
  unfolding padded
  drop_padded n k z os h =
      let e : k ≡ length os + (k - length os) = omega arith in
      let m : n - length os - (k - length os) ≡ n - k = omega arith in
      ap (λ (j : ℕ). drop j (os ++ replicate (n - length os) z)) e
      ∙ drop-append-add os (replicate (n - length os) z) (k - length os) ∙ drop_replicate (k - length os) (n - length os) z ∙ rw m

  -- elements taken out of a full list, and as many copies of z put at its end
  module _ (n : ℕ) (z : A) (os : List A) (full : length os ≡ n) where
    pub padded_remove_at : (i : ℕ) → i < n → take i os ++ (drop (i + 1) os ++ replicate 1 z) ≡ padded n z (remove_at i os)
    unfolding padded remove_at
    padded_remove_at i h =
        let k : n - length (take i os ++ drop (suc i) os) ≡ 1 = rw (length-append, length-take, length-drop) (omega arith) in
        rw (k, add-one, append_assoc)

    pub padded_drop : (k : ℕ) → k ≤ n → take 0 os ++ (drop (0 + k) os ++ replicate k z) ≡ padded n z (drop k os)
    unfolding padded
    padded_drop k h =
        let m : n - length (drop k os) ≡ k = rw length-drop (omega arith) in
        rw (m, zero-add)
