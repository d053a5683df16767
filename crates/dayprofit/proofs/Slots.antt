-- Sums in slots, as the passes over the day's trades keep them: a leg changes its own slot alone, so what is known of every slot by the
-- legs so far is known with one trade more. Assumes nothing.
use Rattle.laws.specs.Logic.{Bool, true, false, ◌&&◌, List, [], ◌∷◌, ◌++◌, append-nil, append_assoc, ◌≡◌, refl, sym, ap, subst, ◌∙◌}
use Rattle.laws.specs.Numbers.{ℕ, ◌+◌, ◌<◌, ◌≤◌, arith, eqb-true, eqb-false, eqb, leb, length, get_or, set, take, length-set, get_or-set_same, ◌-◌, min}
use Rattle.laws.specs.Numbers.{get_or-set_other}
use Rattle.laws.specs.Choice.{pick, both_false}
use Rattle.laws.specs.Sums.{sum_of}
use Rattle.rules.specs.Bounds.{max_accounts, max_contracts}
use Rattle.rules.specs.Exchange.{no_trade}
use Rattle.rules.specs.Settlement.{Leg, leg, only, legs}
use Rattle.rules.specs.declared.Trade.{Trade}
use Rattle.accounting.proofs.Trades.{legs_append}
use Rattle.dayprofit.specs.Day.{Sized}
use Rattle.dayprofit.specs.Sides.{same, value_if}
use Rattle.dayprofit.specs.Slots.{slot_of, party_of, close_of, leg_slot, changed, Placed, Addable, slots, slot_value_most}
use Rattle.dayprofit.proofs.Legs.{is_kind}
use Rattle.dayprofit.proofs.Trading.{more_trades}

-- ---- two slots are apart

bit_small : (s : Bool) → pick s 1 0 < 2
bit_small true = omega arith
bit_small false = omega arith

bit_back : (s : Bool) → leb 1 (pick s 1 0) ≡ s
bit_back true = refl
bit_back false = refl

pub slot_small : (a c : ℕ) (s : Bool) → a < max_accounts → c < max_contracts → slot_of a c s < slots
slot_small a c s la lc = omega (arith, bit_small s)

module _ (a c a₀ c₀ : ℕ) (s s₀ : Bool) (lc : c < max_contracts) (lc₀ : c₀ < max_contracts) (e : slot_of a c s ≡ slot_of a₀ c₀ s₀) where
  pub one_account : a₀ ≡ a
  one_account = omega (arith, bit_small s, bit_small s₀)

  pub one_contract : c₀ ≡ c
  one_contract = omega (arith, bit_small s, bit_small s₀)

  pub one_side : s₀ ≡ s
  one_side =
      let b : ◌≡◌ {A = ℕ} (pick s₀ 1 0) (pick s 1 0) = omega (arith, bit_small s, bit_small s₀) in
      sym (bit_back s₀) ∙ ap (leb 1) b ∙ bit_back s

-- ---- what is told of a slot, on a side, by the legs so far: one number of each of two arrays

module _ (Told : ℕ → Bool → List Leg → ℕ → ℕ → Type 0) where
  abbrev pub Tells : (ℕ → ℕ → List Leg) → List ℕ → List ℕ → Type 0
  Tells legs us vs = (a c : ℕ) (s : Bool) → a < max_accounts → c < max_contracts → Told (slot_of a c s) s (legs a c) (get_or us (slot_of a c s) 0) (get_or vs (slot_of a c s) 0)

  -- one leg l more, of the account a₀ in the contract c₀: the slots us' and vs' afterwards
  module _ (legs : ℕ → ℕ → List Leg) (a₀ c₀ : ℕ) (l : Leg) (us' vs' : List ℕ) where
    abbrev Slot : ℕ → ℕ → Bool → List Leg → Type 0
    Slot a c s ls = Told (slot_of a c s) s ls (get_or us' (slot_of a c s) 0) (get_or vs' (slot_of a c s) 0)

    -- known where the leg is, and elsewhere
    module _ (own : (s : Bool) → Slot a₀ c₀ s (legs a₀ c₀ ++ (l ∷ [])))
        (others : (a c : ℕ) (s : Bool) → a < max_accounts → c < max_contracts → (a₀ ≡ a → c₀ ≡ c → ⊥) → Slot a c s (legs a c)) where
      at_leg : (a c : ℕ) (s : Bool) → a < max_accounts → c < max_contracts → (x y : Bool) → eqb c₀ c ≡ x → eqb a₀ a ≡ y → Slot a c s (legs a c ++ only (x && y) l)
      unfolding only
      at_leg a c s la lc true true e f =
          subst (λ (i : ℕ). Slot i c s (legs i c ++ (l ∷ []))) (eqb-true a₀ a f) (subst (λ (i : ℕ). Slot a₀ i s (legs a₀ i ++ (l ∷ []))) (eqb-true c₀ c e) (own s))
      at_leg a c s la lc true false e f = rw (append-nil (legs a c)) (others a c s la lc (λ p q. eqb-false a₀ a f p))
      at_leg a c s la lc false y e f = rw (append-nil (legs a c)) (others a c s la lc (λ p q. eqb-false c₀ c e q))

      tells_leg : Tells (λ a c. legs a c ++ only (eqb c₀ c && eqb a₀ a) l) us' vs'
      tells_leg a c s la lc = at_leg a c s la lc (eqb c₀ c) (eqb a₀ a) refl refl

-- ---- a pass over the legs that close, or that open: what a leg at price p of n lots makes of its slot's two numbers u and v

pub record Pass (close : Bool) (Told : ℕ → Bool → List Leg → ℕ → ℕ → Type 0) (F G : ℕ → ℕ → ℕ → ℕ → ℕ) : Type 0 where
  pub grows : (q : ℕ) (s : Bool) (ls : List Leg) (u v p n : ℕ) → Told q s ls u v → Told q s (ls ++ (leg s close p n ∷ [])) (F u v p n) (G u v p n)
  pub passes : (q : ℕ) (s : Bool) (ls : List Leg) (u v : ℕ) (s₀ k₀ : Bool) (p n : ℕ) → is_kind s close s₀ k₀ ≡ false → Told q s ls u v → Told q s (ls ++ (leg s₀ k₀ p n ∷ [])) u v
  pub below : (q : ℕ) (s : Bool) (ls : List Leg) (u v : ℕ) → Told q s ls u v → v ≤ sum_of (value_if s close) ls

pub record Kept (Told : ℕ → Bool → List Leg → ℕ → ℕ → Type 0) (L : ℕ → ℕ → List Leg) (us vs : List ℕ) : Type 0 where
  pub room : length us ≡ slots
  pub room_too : length vs ≡ slots
  pub tells : Tells Told L us vs

-- a trade's buy or sell leg, where it is the account's in the contract
abbrev pub leg_of : Bool → Trade → ℕ → ℕ → List Leg
leg_of sell t a c = only (eqb t.contract c && eqb (party_of sell t) a) (leg sell (close_of sell t) t.price t.lots)

party_known : (sell : Bool) (t : Trade) → Placed t → party_of sell t < max_accounts
party_known true t h = h.seller
party_known false t h = h.buyer

same_one : (k k₀ : Bool) → same k k₀ ≡ true → k₀ ≡ k
same_one true k₀ e = e
same_one false true e = sym e
same_one false false e = refl

other_side : (s s₀ k : Bool) → (s₀ ≡ s → ⊥) → is_kind s k s₀ k ≡ false
other_side true true k h = absurd (h refl)
other_side true false k h = refl
other_side false true k h = refl
other_side false false k h = absurd (h refl)

module _ {close : Bool} {Told : ℕ → Bool → List Leg → ℕ → ℕ → Type 0} {F G : ℕ → ℕ → ℕ → ℕ → ℕ} (pass : Pass close Told F G) where
  module _ {L : ℕ → ℕ → List Leg} {us vs : List ℕ} (w : Kept Told L us vs) (sell : Bool) (t : Trade) (h : Placed t) where
    abbrev at : ℕ
    at = leg_slot sell t

    abbrev party : ℕ
    party = party_of sell t

    known : party < max_accounts
    known = party_known sell t h

    abbrev its : Leg
    its = leg sell (close_of sell t) t.price t.lots

    slot_told : (s : Bool) → Told (slot_of party t.contract s) s (L party t.contract) (get_or us (slot_of party t.contract s) 0) (get_or vs (slot_of party t.contract s) 0)
    slot_told s = w.tells party t.contract s known h.contract

    -- room for the leg's value, where no sum of a kind passes what a slot may have
    pub leg_addable : Sized t → ((a c : ℕ) (s : Bool) → sum_of (value_if s close) (L a c) ≤ slot_value_most) → Addable us vs at t
    leg_addable z small =
        record {
          lots_room = w.room;
          value_room = w.room_too;
          placed = h;
          sized = z;
          small = omega (arith, pass.below _ sell _ _ _ (slot_told sell), small party t.contract sell);
        }

    -- a leg of the other kind changes nothing
    leg_passed : same close (close_of sell t) ≡ false → Tells Told (λ a c. L a c ++ leg_of sell t a c) us vs
    leg_passed e =
        tells_leg Told L party t.contract its us vs (λ s. pass.passes _ s _ _ _ sell (close_of sell t) _ _ (both_false (same s sell) _ e) (slot_told s))
        (λ a c s la lc apart. w.tells a c s la lc)

    -- one of the kind changes its slot
    module _ (e : close_of sell t ≡ close) where
      abbrev us' : List ℕ
      us' = set us at (F (get_or us at 0) (get_or vs at 0) t.price t.lots)

      abbrev vs' : List ℕ
      vs' = set vs at (G (get_or us at 0) (get_or vs at 0) t.price t.lots)

      elsewhere : (a c : ℕ) (s : Bool) (ls : List Leg) → (slot_of a c s ≡ at → ⊥) → Told (slot_of a c s) s ls (get_or us (slot_of a c s) 0) (get_or vs (slot_of a c s) 0)
          → Slot Told L party t.contract its us' vs' a c s ls
      elsewhere a c s ls apart k = rw (get_or-set_other us at (slot_of a c s) _ 0 apart, get_or-set_other vs at (slot_of a c s) _ 0 apart) k

      own_slot : Slot Told L party t.contract its us' vs' party t.contract sell (L party t.contract ++ (its ∷ []))
      own_slot =
          let l : at < length us = omega (arith, w.room, slot_small party t.contract sell known h.contract) in
          let l' : at < length vs = omega (arith, w.room_too, slot_small party t.contract sell known h.contract) in
          rw (get_or-set_same us at _ 0 l, get_or-set_same vs at _ 0 l', e) (pass.grows _ sell _ _ _ t.price t.lots (slot_told sell))

      own : (s : Bool) → Slot Told L party t.contract its us' vs' party t.contract s (L party t.contract ++ (its ∷ []))
      own s = by_slot (eqb (slot_of party t.contract s) at) refl
        where
          by_slot : (b : Bool) → eqb (slot_of party t.contract s) at ≡ b → Slot Told L party t.contract its us' vs' party t.contract s (L party t.contract ++ (its ∷ []))
          by_slot true q =
              subst (λ (x : Bool). Slot Told L party t.contract its us' vs' party t.contract x (L party t.contract ++ (its ∷ [])))
              (one_side party t.contract party t.contract s sell h.contract h.contract (eqb-true _ _ q)) own_slot
          by_slot false q =
              elsewhere party t.contract s _ (eqb-false _ _ q)
              (pass.passes _ s _ _ _ sell (close_of sell t) _ _ (ap (λ (k : Bool). is_kind s close sell k) e ∙ other_side s sell close (λ p. eqb-false _ _ q (ap (slot_of party t.contract) (sym p)))) (slot_told s))

      leg_told : Tells Told (λ a c. L a c ++ leg_of sell t a c) us' vs'
      leg_told =
          tells_leg Told L party t.contract its us' vs' own
          (λ a c s la lc apart. elsewhere a c s _ (λ q. apart (one_account a c party t.contract s sell lc h.contract q) (one_contract a c party t.contract s sell lc h.contract q)) (w.tells a c s la lc))

    -- one leg more
    pub leg_more : (xs ys : List ℕ) → xs ≡ changed (same close (close_of sell t)) us at (F (get_or us at 0) (get_or vs at 0) t.price t.lots)
        → ys ≡ changed (same close (close_of sell t)) vs at (G (get_or us at 0) (get_or vs at 0) t.price t.lots) → Kept Told (λ a c. L a c ++ leg_of sell t a c) xs ys
    leg_more xs ys p q = by_close (same close (close_of sell t)) refl p q
      where
        by_close : (b : Bool) → same close (close_of sell t) ≡ b → xs ≡ changed b us at (F (get_or us at 0) (get_or vs at 0) t.price t.lots)
            → ys ≡ changed b vs at (G (get_or us at 0) (get_or vs at 0) t.price t.lots) → Kept Told (λ a c. L a c ++ leg_of sell t a c) xs ys
        by_close true k e f =
            rw (e, f)
            (record {
              room = length-set us at _ ∙ w.room;
              room_too = length-set vs at _ ∙ w.room_too;
              tells = leg_told (same_one close (close_of sell t) k);
            })
        by_close false k e f = rw (e, f) (record { room = w.room; room_too = w.room_too; tells = leg_passed k })

-- ---- the loop: the legs of the first i trades

abbrev pub legs_to : List Trade → ℕ → ℕ → ℕ → List Leg
legs_to ts i a c = legs a c (take i ts)

trade_legs : (a c : ℕ) (t : Trade) → legs a c (t ∷ []) ≡ leg_of false t a c ++ leg_of true t a c
unfolding legs
trade_legs a c t = ap (λ (ls : List Leg). leg_of false t a c ++ ls) (append-nil (leg_of true t a c))

more_legs : (ts : List Trade) (i : ℕ) (t : Trade) → i < length ts → t ≡ get_or ts i no_trade → (a c : ℕ)
    → (legs_to ts i a c ++ leg_of false t a c) ++ leg_of true t a c ≡ legs_to ts (i + 1) a c
more_legs ts i t h e a c =
    append_assoc (legs_to ts i a c) (leg_of false t a c) (leg_of true t a c) ∙ ap (λ (ls : List Leg). legs_to ts i a c ++ ls) (sym (trade_legs a c t))
    ∙ sym (legs_append a c (take i ts) (t ∷ [])) ∙ ap (legs a c) (sym (more_trades ts i t h e))

pub trade_more : {Told : ℕ → Bool → List Leg → ℕ → ℕ → Type 0} (ts : List Trade) (i : ℕ) (t : Trade) (us vs : List ℕ)
    → i < length ts → t ≡ get_or ts i no_trade → Kept Told (λ a c. (legs_to ts i a c ++ leg_of false t a c) ++ leg_of true t a c) us vs
    → Kept Told (legs_to ts (i + 1)) us vs
trade_more {Told} ts i t us vs h e w =
    record {
      room = w.room;
      room_too = w.room_too;
      tells = λ a c s la lc. subst (λ (ls : List Leg). Told (slot_of a c s) s ls (get_or us (slot_of a c s) 0) (get_or vs (slot_of a c s) 0)) (more_legs ts i t h e a c) (w.tells a c s la lc);
    }

pub no_legs : (ts : List Trade) (a c : ℕ) → legs_to ts 0 a c ≡ []
unfolding legs
no_legs ts a c = refl

-- ---- as the code finds a leg's slot, and the lots that closes took beyond the start-of-day ones

pub party_small : (sell : Bool) (t : Trade) → Placed t → (p a : ℕ) → p ≡ party_of sell t → a ≡ p → a < max_accounts
party_small sell t h p a e f = rw (f, e) (party_known sell t h)

pub due_is : (left lots : List ℕ) (o o' k k' m start : ℕ) → o ≡ o' → k ≡ k' → m ≡ min (get_or lots k 0) start
    → set left o (get_or lots k 0 - m) ≡ set left o' (get_or lots k' 0 - start)
due_is left lots o o' k k' m start e f g =
    let d : get_or lots k 0 - m ≡ get_or lots k' 0 - start = rw (← f) (omega arith) in
    rw (e, d)
