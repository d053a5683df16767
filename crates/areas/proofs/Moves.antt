-- The laws of a part whose words were moved, cleared, or moved and then written in front or behind, for the callers. Assumes nothing.
use borrow.Rule.Slice.PartMut.{put_mid, Post-is}
use lib.Seq.{take_at, take-take, drop_at, drop-drop, length-take-le}
use Rattle.laws.specs.Logic.{List, ◌++◌, ◌≡◌, sym, ap, ◌∙◌}
use Rattle.laws.specs.Numbers.{ℕ, ◌+◌, ◌-◌, ◌≤◌, arith, length, take, drop, replicate, length-append, length-drop}
use Rattle.laws.specs.Numbers.{length-replicate}
use Rattle.areas.specs.Lists.{over}
use Rattle.areas.specs.Moves.{moved_back, moved_forward, closed_up}
use Rattle.areas.proofs.Lists.{drop_take, over_tail, over_front}

-- ---- a lent part, given back

-- the part of an area from s to e, replaced
pub lent_over : (a part : List ℕ) (s e : ℕ) → s ≤ e → length part ≡ e - s → put_mid s (e - s) a part ≡ over a s part
unfolding over
lent_over a part s e h l =
    let k : s + length part ≡ e = omega arith in
    rw (Post-is s e a h, k)

-- the part from s to e, cleared
pub lent_zeros : (a part : List ℕ) (s e : ℕ) → s ≤ e → e ≤ length a → part ≡ replicate (length (take (e - s) (drop s a))) 0
    → put_mid s (e - s) a part ≡ over a s (replicate (e - s) 0)
lent_zeros a part s e h b q =
    let l : length (take (e - s) (drop s a)) ≡ e - s = length-take-le (e - s) (drop s a) (rw length-drop (omega arith)) in
    let z : part ≡ replicate (e - s) 0 = q ∙ rw l in
    rw z (lent_over a (replicate (e - s) 0) s e h (length-replicate (e - s) 0))

-- moved forward by w, and the last w cleared: `areas::close_up`
pub moved_cleared : (w : ℕ) (p m zeros : List ℕ) → w ≤ length p → m ≡ moved_forward w p
    → zeros ≡ replicate (length (take (length m - (length m - w)) (drop (length m - w) m))) 0
    → put_mid (length m - w) (length m - (length m - w)) m zeros ≡ closed_up w p
unfolding moved_forward closed_up
moved_cleared w p m zeros h q z =
    let lm : length m ≡ length p = ap length q ∙ simp (length-append, length-drop) (omega arith) in
    let k : length m - (length m - w) ≡ w = omega arith in
    let t : take (length m - w) m ≡ drop w p =
    rw (lm, q) (take_at (drop w p) (drop (length p - w) p) (length p - w) (length-drop w p)) in
    lent_zeros m zeros (length m - w) (length m) (omega arith) (omega arith) z
    ∙ over_tail m (length m - w) (replicate (length m - (length m - w)) 0) (rw length-replicate (omega arith)) ∙ rw (t, k)

-- a part of w words and r more is moved back by w, and ys are written in front of it
pub over_insert : (a : List ℕ) (s e w r : ℕ) (b part ys c : List ℕ) → e ≡ s + (w + r) → e ≤ length a → length ys ≡ w
    → part ≡ moved_back w (take (e - s) (drop s a)) → b ≡ put_mid s (e - s) a part → c ≡ over b s ys → c ≡ over a s (ys ++ take r (drop s a))
unfolding moved_back
over_insert a s e w r b part ys c he ha hy ep eb ec =
    let m : e - s - w ≡ r = omega arith in
    let x : List ℕ = take w (drop s a) in
    let y : List ℕ = take r (drop s a) in
    let hd : e - s ≤ length (drop s a) = rw length-drop (omega arith) in
    let lx : length x ≡ length ys = length-take-le w (drop s a) (omega arith) ∙ sym hy in
    let ly : length y ≡ r = length-take-le r (drop s a) (omega arith) in
    let p : part ≡ x ++ y = ep ∙ rw (length-take-le (e - s) (drop s a) hd, m, take-take w (e - s) (drop s a) (omega arith), take-take r (e - s) (drop s a) (omega arith)) in
    let lp : length (x ++ y) ≡ e - s = rw (length-append, ly) (omega arith) in
    let o : b ≡ over a s (x ++ y) = eb ∙ rw p (lent_over a (x ++ y) s e (omega arith) lp) in
    ec ∙ rw o (over_front a s (x ++ y) (omega arith) ys (omega arith) ∙ rw (drop_at x y (length ys) lx))

-- a part of w words and r more has its first w words taken out
pub over_closed : (a : List ℕ) (s e w r : ℕ) (part : List ℕ) → e ≡ s + (w + r) → e ≤ length a
    → part ≡ closed_up w (take (e - s) (drop s a)) → put_mid s (e - s) a part ≡ over a s (take r (drop (s + w) a) ++ replicate w 0)
unfolding closed_up
over_closed a s e w r part he ha ep =
    let m : e - s - w ≡ r = omega arith in
    let y : List ℕ = take r (drop (s + w) a) in
    let p : part ≡ y ++ replicate w 0 = ep ∙ rw (drop_take w (e - s) (drop s a) (omega arith) (rw length-drop (omega arith)), drop-drop w s a, m) in
    let ly : length y ≡ r = length-take-le r (drop (s + w) a) (rw length-drop (omega arith)) in
    let lp : length (y ++ replicate w 0) ≡ e - s = rw (length-append, ly, length-replicate) (omega arith) in
    rw p (lent_over a (y ++ replicate w 0) s e (omega arith) lp)
