-- The reading loop, turn by turn: what is gathered and read so far makes up the answer with what comes from order i on. Assumes
-- nothing.
use Rattle.laws.specs.Logic.{true, false, List, [], ◌∷◌, ◌≡◌, refl, ap, ◌∙◌}
use Rattle.laws.specs.Numbers.{length, get_or, ℕ, ◌+◌, ◌-◌, ◌<◌, ◌≤◌, min, arith, lt-ltb, ltb, drop}
use Rattle.laws.specs.Choice.{pick_true}
use Rattle.book.specs.EarlyStop.{fillable_front}
use Rattle.rules.specs.Matching.{counterpart}
use Rattle.rules.specs.declared.{Order.Order, Taker.Taker}
use Rattle.book.proofs.EarlyStop.{front_end, front_met, front_unmet}
use Rattle.book.proofs.ReadOrders.{none_left, none_counts, counts}
use Rattle.rules.specs.Exchange.{no_order}
use Rattle.refusals.specs.Insertion.{Facing}
use Rattle.refusals.proofs.Arrivals.{facing_fillable}
use Rattle.query.specs.Gettable.{GatheredIs, orders_read}

-- ---- turns of the orders read

read_end : (t : Taker) (left : ℕ) → orders_read t left [] ≡ 0
unfolding orders_read
read_end t left = refl

read_covered : (t : Taker) (os : List Order) → orders_read t 0 os ≡ 0
unfolding orders_read
read_covered t [] = refl
read_covered t (o ∷ os) = refl

module _ (t : Taker) (left : ℕ) (some : 0 < left) (o : Order) where
  read_unmet : counterpart t o ≡ false → (os : List Order) → orders_read t left (o ∷ os) ≡ 1 + 0
  unfolding orders_read
  read_unmet e os = pick_true (ltb 0 left) _ _ (lt-ltb 0 left some) ∙ rw e

  read_met : counterpart t o ≡ true → (os : List Order) → orders_read t left (o ∷ os) ≡ 1 + orders_read t (left - o.lots) os
  unfolding orders_read
  read_met e os = pick_true (ltb 0 left) _ _ (lt-ltb 0 left some) ∙ rw e

-- ---- one counterpart's lots: they cover `left`, or leave `left - own` uncovered

covered_by : (lots left own : ℕ) → left ≤ lots → lots - (left - own) ≡ lots - left + min left own
covered_by lots left own few = omega arith

taken : (left own rest : ℕ) → min left (own + rest) ≡ min left own + min (left - own) rest
taken left own rest = omega arith

-- ---- the loop: `left` lots are uncovered when order i is reached

pub record Gathering (t : Taker) (lots : ℕ) (queue : List Order) (left i : ℕ) : Type 0 where
  pub uncovered : left ≤ lots
  pub gathered : (lots - left) + min left (fillable_front t (drop i queue)) ≡ min lots (fillable_front t queue)
  pub read : i + orders_read t left (drop i queue) ≡ orders_read t lots queue

module _ (t : Taker) (lots : ℕ) (queue : List Order) {left i : ℕ} (g : Gathering t lots queue left i) where
  module _ (some : 0 < left) (h : i < length queue) where
    abbrev o : Order
    o = get_or queue i no_order

    -- a counterpart
    pub gather_on : counterpart t o ≡ true → Gathering t lots queue (left - o.lots) (i + 1)
    gather_on met =
        record {
          uncovered = omega (arith, g.uncovered);
          gathered = ap (λ (k : ℕ). k + min (left - o.lots) (fillable_front t (drop (i + 1) queue))) (covered_by lots left o.lots g.uncovered)
              ∙ counts (λ os. min left (fillable_front t os)) queue i (lots - left) _ g.gathered h (λ os. min (left - o.lots) (fillable_front t os)) (min left o.lots)
              (λ os. ap (min left) (front_met t o os met) ∙ taken left o.lots (fillable_front t os));
          read = counts (orders_read t left) queue i i _ g.read h (orders_read t (left - o.lots)) 1 (λ os. read_met t left some o met os);
        }

    -- "that last one counted"
    pub gather_last : Facing t queue → counterpart t o ≡ false → GatheredIs t lots queue (record { lots = lots - left; read = i + 1 })
    gather_last f unmet =
        record {
          lots = none_counts (λ os. min left (fillable_front t os)) queue i (lots - left) _ g.gathered h (λ os. omega (arith, front_unmet t o os unmet))
              ∙ ap (min lots) (facing_fillable f);
          read = omega (arith, counts (orders_read t left) queue i i _ g.read h (λ os. 0) 1 (read_unmet t left some o unmet));
        }

  -- "when the lots are covered"
  pub gather_covered : Facing t queue → left ≡ 0 → GatheredIs t lots queue (record { lots = lots; read = i })
  gather_covered f z =
      let none : orders_read t left (drop i queue) ≡ 0 = rw (z, read_covered t _) in
      record { lots = omega (arith, g.gathered) ∙ ap (min lots) (facing_fillable f); read = omega (arith, g.read, none) }

  -- no order is left
  pub gather_end : Facing t queue → length queue ≤ i → {read : ℕ} → read ≡ i → GatheredIs t lots queue (record { lots = lots - left; read = read })
  gather_end f h e =
      record {
        lots = none_left (λ os. min left (fillable_front t os)) queue i (lots - left) _ g.gathered h (omega (arith, front_end t))
            ∙ ap (min lots) (facing_fillable f);
        read = e ∙ none_left (orders_read t left) queue i i _ g.read h (read_end t left);
      }
