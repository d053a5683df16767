-- The postings of an order, as a loop meets them, and the client they give it. Assumes nothing.
use Rattle.laws.specs.Logic.{◌&&◌, List, [], ◌∷◌, ◌++◌, append-nil, ◌≡◌, refl, sym, ap, ◌∙◌}
use Rattle.laws.specs.Numbers.{ℕ, ◌+◌, ◌-◌, ◌*◌, ◌/◌, ◌<◌, ◌≤◌, arith, eq-eqb, ne_eqb, le-leb, lt-leb, eqb, leb, length, get_or, length-append}
use Rattle.laws.specs.Choice.{pick}
use Rattle.rules.specs.declared.Trade.{Trade}
use Rattle.sections.specs.Sections.{in_row}
use Rattle.clients.specs.Clients.{posted_to, posted, is_posted, client_place, client_trade, others}
use Rattle.sections.proofs.Rows.{row_more}

module _ (postings : List ℕ) (number : ℕ) where
  -- of the first i postings so many are the order's, and where it is one, it is the client's
  pub record Met (i times client : ℕ) : Type 0 where
    pub within : i ≤ length postings / 2
    pub few : times ≤ i
    pub count : times ≡ length (in_row i (posted_to postings number))
    pub one : times ≡ 1 → in_row i (posted_to postings number) ≡ client ∷ []

  pub met_none : Met 0 0 0
  unfolding in_row
  met_none = record { within = omega arith; few = omega arith; count = refl; one = λ e. absurd (omega arith) }

  module _ (i times client : ℕ) (l : i < length postings / 2) (m : Met i times client) where
    met_row : (xs : List ℕ) → posted_to postings number i ≡ xs → in_row (i + 1) (posted_to postings number) ≡ in_row i (posted_to postings number) ++ xs
    met_row xs e = row_more (posted_to postings number) i ∙ ap (λ (ys : List ℕ). in_row i (posted_to postings number) ++ ys) e

    pub met_other : (get_or postings (2 * i) 0 ≡ number → ⊥) → Met (i + 1) times client
    unfolding posted_to
    met_other h =
        let e : in_row (i + 1) (posted_to postings number) ≡ in_row i (posted_to postings number) =
        met_row [] (rw (ne_eqb (get_or postings (2 * i) 0) number h)) ∙ append-nil _ in
        record { within = omega arith; few = omega (arith, m.few); count = m.count ∙ ap length (sym e); one = λ t. e ∙ m.one t }

    pub met_more : get_or postings (2 * i) 0 ≡ number → Met (i + 1) (times + 1) (get_or postings (2 * i + 1) 0)
    unfolding posted_to
    met_more h =
        let v = get_or postings (2 * i + 1) 0 in
        let e : in_row (i + 1) (posted_to postings number) ≡ in_row i (posted_to postings number) ++ (v ∷ []) =
        met_row (v ∷ []) (rw (eq-eqb (get_or postings (2 * i) 0) number h)) in
        record {
          within = omega arith;
          few = omega (arith, m.few);
          count = omega (arith, m.count, ap length e, length-append (in_row i (posted_to postings number)) (v ∷ []));
          one = λ t. e ∙ alone (in_row i (posted_to postings number)) v (omega (arith, m.count));
        }
      where
        alone : (xs : List ℕ) (v : ℕ) → length xs ≡ 0 → xs ++ (v ∷ []) ≡ v ∷ []
        alone [] v q = refl
        alone (x ∷ xs) v q = absurd (omega arith)

  -- ---- after the last posting

  module _ (clients i times client : ℕ) (l : length postings / 2 ≤ i) (m : Met i times client) where
    all_met : i ≡ length postings / 2
    all_met = omega (arith, m.within)

    pub place_times : (times ≡ 1 → ⊥) → others ≡ client_place clients postings number
    unfolding client_place is_posted posted
    place_times h = rw (← all_met, ← m.count, ne_eqb times 1 h)

    pub place_single : times ≡ 1 → client_place clients postings number ≡ pick (leb 1 client && leb client clients) (client - 1) others
    unfolding client_place is_posted posted
    place_single h = rw (← all_met, m.one h)

    module _ (h : times ≡ 1) where
      pub place_zero : client < 1 → others ≡ client_place clients postings number
      place_zero z = sym (place_single h ∙ rw (lt-leb 1 client z))

      module _ (some : 1 ≤ client) where
        pub place_past : clients < client → others ≡ client_place clients postings number
        place_past z = sym (place_single h ∙ rw (le-leb 1 client some, lt-leb client clients z))

        pub place_known : client ≤ clients → client - 1 ≡ client_place clients postings number
        place_known z = sym (place_single h ∙ rw (le-leb 1 client some, le-leb client clients z))

-- ---- a trade's clients

pub as_clients : (t : Trade) (a clients : ℕ) (postings : List ℕ) (buyer seller buyclose sellclose : ℕ)
    → buyer ≡ pick (eqb t.buyer a) (client_place clients postings t.buyorder) others
    → seller ≡ pick (eqb t.seller a) (client_place clients postings t.sellorder) others → buyclose ≡ pick (eqb t.buyer a) t.buyclose 0
    → sellclose ≡ pick (eqb t.seller a) t.sellclose 0 → record {
      contract = t.contract;
      price = t.price;
      lots = t.lots;
      buyorder = t.buyorder;
      sellorder = t.sellorder;
      buyer = buyer;
      seller = seller;
      buyclose = buyclose;
      sellclose = sellclose;
    } ≡ client_trade a clients postings t
unfolding client_trade
as_clients t a clients postings buyer seller buyclose sellclose e f g h = rw (e, f, g, h)
