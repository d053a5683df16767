-- The clients as accounts: their words added up, and their starting holdings, made place by place. Assumes nothing.
use denote.Param.Members.{Called, Mut}
use Rattle.std.specs.Array.{IsFromFnResult, IsFromFnResultFrom}
use Rattle.laws.specs.Logic.{Bool, ◌&&◌, List, ◌≡◌, sym, subst, ◌∙◌}
use Rattle.laws.specs.Numbers.{ℕ, zero, suc, ◌+◌, ◌*◌, ◌<◌, ◌≤◌, arith, eqb, get_or}
use Rattle.laws.specs.Tabulate.{tabulate, tabulate_eq}
use Rattle.rules.specs.Exchange.{no_holding}
use Rattle.rules.specs.declared.Holding.{Holding}
use Rattle.clients.specs.Clients.{start_long, start_short, total}
use Rattle.clients.proofs.Totals.{total_none, total_more}

-- ---- words added up: each is below 2^32

pub record Adding (f : ℕ → ℕ) (clients k lots : ℕ) : Type 0 where
  pub within : k ≤ clients
  pub sum : lots ≡ total k f
  pub small : lots ≤ 4_294_967_296 * k

module _ (f : ℕ → ℕ) (clients : ℕ) where
  pub adding_none : Adding f clients 0 0
  adding_none = record { within = omega arith; sum = sym (total_none f); small = omega arith }

  pub adding_more : (k lots word : ℕ) → k < clients → word ≡ f k → word < 4_294_967_296 → Adding f clients k lots → Adding f clients (k + 1) (lots + word)
  adding_more k lots word l e b w = record { within = omega arith; sum = omega (arith, w.sum, total_more f k); small = omega (arith, w.small) }

-- ---- contract by contract, long and short

abbrev pub adds_up : List ℕ → ℕ → List Holding → ℕ → Bool
adds_up starts clients holdings c =
    eqb (total clients (λ k. start_long starts k c)) (get_or holdings c no_holding).startlong
    && eqb (total clients (λ k. start_short starts k c)) (get_or holdings c no_holding).startshort

-- ---- an array made place by place by a closure that stays as it is
module _ {F B : Type 0} {g : Mut F (ℕ × Unit {0}) B} {f : F} (h : ℕ → B) (gives : (i : ℕ) (y : B) (q : F) → Called g f (i, tt) y q → (q ≡ f) × (y ≡ h i)) where
  made_from : (ys : List B) (i n k j : ℕ) (d : B) → IsFromFnResultFrom g f ys i n → k < n → j ≡ i + k → get_or ys j d ≡ h j
  made_from ys i zero k j d m l e = absurd (omega arith)
  made_from ys i (suc n) zero j d m l e = let p : j ≡ i = omega arith in rw p (m.2.1 d ∙ (gives i m.1 m.0 m.3).1)
  made_from ys i (suc n) (suc k) j d m l e =
      made_from ys (i + 1) n k j d (subst (λ (q : F). IsFromFnResultFrom g q ys (i + 1) n) (gives i m.1 m.0 m.3).0 m.4) (omega arith) (omega arith)

  pub made : {ys : List B} {n : ℕ} (d : B) → IsFromFnResult g f ys n → ys ≡ tabulate n h
  made {ys} {n} d m = tabulate_eq n h ys d m.long (λ i l. made_from ys 0 n i i d m.each l (omega arith))
