-- One order entered again and again: what a turn of the loop does to the book between two orders. Assumes nothing.
use mathlib.Core.List.{List}
use mathlib.Core.Path.{◌≡◌, sym, ap, subst, ◌∙◌}
use Prim.Native.Nat.{ℕ, ◌+◌}
use native.Mathlib.Numerals.{add-one}
use Rattle.matching.specs.Entry.{EntryReady, EntryIs}
use Rattle.matching.specs.declared.entry.Entry.{Entry}
use Rattle.rules.specs.Exchange.{holding_at}
use Rattle.rules.specs.Matching.{Entered, enter}
use Rattle.rules.specs.Memory.{queue_in}
use Rattle.rules.specs.declared.Account.{Account}
use Rattle.rules.specs.declared.Taker.{Taker}
use Rattle.bench_book.specs.Calls.{Book, taker_of, accounts_of, start, outcome, after, entered, BookReady, SweptOf}
use Rattle.bench_book.specs.declared.Sweeps.{Sweeps}

abbrev pub book_of : List ℕ → ℕ → List ℕ → ℕ → List ℕ → ℕ → ℕ → List Account → Book
book_of owns own opposites opposite area made last accounts =
    record {
      owns = owns;
      own = own;
      opposites = opposites;
      opposite = opposite;
      area = area;
      made = made;
      last = last;
      accounts = accounts;
    }

-- before the first order
pub begun : (s : Sweeps) {owns opposites area : List ℕ} {accounts : List Account} → accounts ≡ accounts_of s.held
    → book_of owns s.own opposites s.opposite area s.made s.last accounts ≡ entered s (start s owns opposites area) 0
unfolding entered
begun s {owns} {opposites} {area} e = ap (book_of owns s.own opposites s.opposite area s.made s.last) e

module _ (s : Sweeps) {t : Taker} (same : t ≡ taker_of s) (b₀ : Book) (n : ℕ)
    {owns : List ℕ} {own : ℕ} {opposites : List ℕ} {opposite : ℕ} {area : List ℕ} {made last : ℕ} {accounts : List Account}
    (now : book_of owns own opposites opposite area made last accounts ≡ entered s b₀ n) where
  pub ready : BookReady s (entered s b₀ n) → EntryReady t s.lots s.price s.day last accounts owns own opposites opposite area made
  ready h =
      subst (λ (u : Taker). EntryReady u s.lots s.price s.day last accounts owns own opposites opposite area made)
      (sym same)
      (subst (BookReady s) (sym now) h)

  module _ {r : Entry} {owns' opposites' area' : List ℕ} where
    after_it : {e : Entered}
        → EntryIs e s.contract owns own opposites opposite area made last accounts r owns' opposites' area'
        → book_of owns' r.own opposites' r.opposite area' r.made r.last r.accounts
        ≡ after s (book_of owns own opposites opposite area made last accounts) e
    after_it i =
        rw (i.own_queue_lem, i.own_count, i.opposite_queue_lem, i.opposite_count, i.trades, i.made, i.last, i.accounts)

    pub once_more : EntryIs (enter t s.lots s.price s.day last (queue_in owns t.contract own) (queue_in opposites t.contract opposite)) t.contract owns own opposites opposite area made last accounts r owns' opposites' area'
        → book_of owns' r.own opposites' r.opposite area' r.made r.last r.accounts ≡ entered s b₀ (n + 1)
    unfolding outcome entered
    once_more i =
        after_it
        (subst (λ (u : Taker). EntryIs (enter u s.lots s.price s.day last (queue_in owns u.contract own) (queue_in opposites u.contract opposite)) u.contract owns own opposites opposite area made last accounts r owns' opposites' area') same i)
        ∙ ap (λ (b : Book). after s b (outcome s b)) now
        ∙ ap (entered s b₀) (sym (add-one n))

  -- after the last one
  pub done : {m : ℕ} → n ≡ m
      → SweptOf s (entered s b₀ m)
      (record { own = own; opposite = opposite; made = made; last = last; long = (holding_at accounts s.probe s.contract).long; short = (holding_at accounts s.probe s.contract).short })
      owns opposites area
  done em =
      let e = now ∙ ap (entered s b₀) em in
      record {
        own = ap (λ (b : Book). b.own) e;
        opposite = ap (λ (b : Book). b.opposite) e;
        made = ap (λ (b : Book). b.made) e;
        last = ap (λ (b : Book). b.last) e;
        long = ap (λ (b : Book). (holding_at b.accounts s.probe s.contract).long) e;
        short = ap (λ (b : Book). (holding_at b.accounts s.probe s.contract).short) e;
        own_queue_lem = ap (λ (b : Book). b.owns) e;
        opposite_queue_lem = ap (λ (b : Book). b.opposites) e;
        trades = ap (λ (b : Book). b.area) e;
      }
