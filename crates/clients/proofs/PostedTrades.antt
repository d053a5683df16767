-- The day's trades with clients in the account's place, as a loop writes them into their area. Assumes nothing.
use lib.Seq.{get_or-append_seam}
use Rattle.laws.specs.Logic.{Bool, true, false, not, ◌&&◌, ◌||◌, List, [], ◌∷◌, ◌++◌, map, append-nil, ◌≡◌, refl, sym, ap, ap₂, ◌∙◌}
use Rattle.laws.specs.Numbers.{ℕ, ◌+◌, ◌*◌, ◌<◌, ◌≤◌, arith, lt-ltb, eqb, ltb, length, get_or, take, drop, length-append, length-map, take-append-drop}
use Rattle.laws.specs.Numbers.{List·getD-append}
use Rattle.std.specs.Prelude.{Some, None}
use Rattle.laws.specs.Choice.{pick, all_of, all_of_append, all_of_stop, both_true}
use Rattle.areas.specs.Records.{decode, records, store}
use Rattle.areas.proofs.Records.{store_append, store_nil, length_store, records_add, take_records}
use Rattle.rules.specs.Exchange.{no_trade}
use Rattle.rules.specs.Memory.{recorded_trades, trade_from, trade_words, trade_stride}
use Rattle.rules.specs.declared.Trade.{Trade}
use Rattle.theory.proofs.Codecs.{trade_codec, length_trades, trades_none, trade_at_lem}
use Rattle.replaying.proofs.Trades.{next_trade}
use Rattle.clients.specs.Parts.{before, client_trades, PostingIs}
use Rattle.clients.specs.Clients.{is_posted, client_place, client_trade, trade_posted, is_client, legs_in, leg_count, total, max_clients, others}
use Rattle.clients.proofs.Posted.{posted_place}
use Rattle.clients.proofs.Totals.{total_more, total_ext}

-- ---- one trade

module _ (a clients : ℕ) (postings : List ℕ) (few : clients ≤ max_clients) where
  -- a leg of the account has a client just where its order is posted
  leg_posted : (whose : Bool) (number : ℕ)
      → (not whose || is_client (pick whose (client_place clients postings number) others)) ≡ (not whose || is_posted clients postings number)
  unfolding client_place
  leg_posted false number = refl
  leg_posted true number = by_posted (is_posted clients postings number) refl
    where
      by_posted : (p : Bool) → is_posted clients postings number ≡ p → ltb (client_place clients postings number) max_clients ≡ is_posted clients postings number
      by_posted true e =
          let l : client_place clients postings number < max_clients = omega (arith, posted_place clients postings number e) in
          lt-ltb (client_place clients postings number) max_clients l ∙ sym e
      by_posted false e = rw e

  pub trade_posted_lem : (t u : Trade) → u ≡ client_trade a clients postings t
      → ((not (eqb t.buyer a) || is_client u.buyer) && (not (eqb t.seller a) || is_client u.seller)) ≡ trade_posted a clients postings t
  unfolding trade_posted client_trade
  trade_posted_lem t u e = rw (e, leg_posted (eqb t.buyer a) t.buyorder, leg_posted (eqb t.seller a) t.sellorder)

-- one more trade's legs
pub legs_more : (ts : List Trade) (u : Trade) → leg_count (ts ++ (u ∷ [])) ≡ leg_count ts + legs_in u
unfolding leg_count
legs_more ts u =
    let f : ℕ → ℕ = λ i. legs_in (get_or (ts ++ (u ∷ [])) i no_trade) in
    rw (length-append ts (u ∷ []))
    (total_more f (length ts) ∙ ap₂ (λ (x y : ℕ). x + y)
    (total_ext f (λ i. legs_in (get_or ts i no_trade)) (length ts) (λ i l. ap legs_in (List·getD-append ts (u ∷ []) no_trade i l)))
    (ap legs_in (get_or-append_seam ts u [] no_trade)))

map_more : (f : Trade → Trade) (ts : List Trade) (t : Trade) → map f (ts ++ (t ∷ [])) ≡ map f ts ++ (f t ∷ [])
map_more f [] t = refl
map_more f (x ∷ ts) t = ap (λ (us : List Trade). f x ∷ us) (map_more f ts t)

more_trades : (area : List ℕ) (i : ℕ) (t : Trade) → t ≡ trade_from (drop (trade_stride * i) area) → recorded_trades area (i + 1) ≡ recorded_trades area i ++ (t ∷ [])
unfolding recorded_trades records decode
more_trades area i t e =
    let k : 0 + trade_stride * i ≡ trade_stride * i = omega arith in
    rw (e, ← k) (records_add trade_codec area 0 i 1)

-- ---- the trades before the first that fails a test

module _ (p : Trade → Bool) where
  before_all : (ts : List Trade) → all_of p ts ≡ true → before p ts ≡ ts
  unfolding before all_of
  before_all [] h = refl
  before_all (t ∷ ts) h = let b = both_true (p t) (all_of p ts) h in rw b.0 (ap (λ (us : List Trade). t ∷ us) (before_all ts b.1))

  before_append : (ts us : List Trade) → all_of p ts ≡ true → before p (ts ++ us) ≡ ts ++ before p us
  unfolding before all_of
  before_append [] us h = refl
  before_append (t ∷ ts) us h = let b = both_true (p t) (all_of p ts) h in rw b.0 (ap (λ (vs : List Trade). t ∷ vs) (before_append ts us b.1))

-- the first i trades of those recorded
first_trades : (area : List ℕ) (count i : ℕ) → i < count → take i (recorded_trades area count) ≡ recorded_trades area i
unfolding recorded_trades
first_trades area count i h = take_records trade_codec area 0 count i (omega arith)

-- ---- the loop: the first i trades are written

module _ (a clients : ℕ) (postings trades : List ℕ) (count : ℕ) (area₀ : List ℕ) where
  pub record Going (i legs : ℕ) (area : List ℕ) : Type 0 where
    pub within : i ≤ count
    pub long : length area ≡ length area₀
    pub content : area ≡ store trade_words area₀ 0 (client_trades a clients postings trades i)
    pub counted : legs ≡ leg_count (client_trades a clients postings trades i)
    pub few : legs ≤ 2 * i
    pub all : all_of (trade_posted a clients postings) (recorded_trades trades i) ≡ true

  none : client_trades a clients postings trades 0 ≡ []
  none = rw (trades_none trades)

  pub going_first : Going 0 0 area₀
  unfolding leg_count total all_of
  going_first =
      record {
        within = omega arith;
        long = refl;
        content = rw none (sym (store_nil trade_codec area₀ 0));
        counted = rw none;
        few = omega arith;
        all = rw (trades_none trades);
      }

  module _ (i legs : ℕ) (area : List ℕ) (l : i < count) (g : Going i legs area) (t : Trade) (e : t ≡ trade_from (drop (trade_stride * i) trades)) where
    pub not_posted : trade_posted a clients postings t ≡ false → PostingIs a clients postings trades count area₀ None area
    unfolding before
    not_posted f =
        let p : Trade → Bool = trade_posted a clients postings in
        let day : List Trade = recorded_trades trades count in
        let front : before p day ≡ recorded_trades trades i =
        ap (before p) (sym (take-append-drop i day) ∙ ap₂ (λ (xs ys : List Trade). xs ++ ys) (first_trades trades count i l) (next_trade trades count i l e))
        ∙ before_append p (recorded_trades trades i) (t ∷ drop (i + 1) day) g.all ∙ rw f (append-nil (recorded_trades trades i)) in
        let some : all_of p day ≡ false = all_of_stop p day i no_trade (rw (length_trades trades count) l) (ap p (trade_at_lem trades count i l ∙ sym e) ∙ f) in
        record {
          content = g.content ∙ ap (λ (ts : List Trade). store trade_words area₀ 0 (map (client_trade a clients postings) ts)) (sym front);
          legs = rw some;
        }

    module _ (u : Trade) (w : u ≡ client_trade a clients postings t) where
      one_more : client_trades a clients postings trades (i + 1) ≡ client_trades a clients postings trades i ++ (u ∷ [])
      one_more =
          ap (map (client_trade a clients postings)) (more_trades trades i t e) ∙ map_more (client_trade a clients postings) (recorded_trades trades i) t
          ∙ ap (λ (v : Trade). client_trades a clients postings trades i ++ (v ∷ [])) (sym w)

      so_many : length (client_trades a clients postings trades i) ≡ i
      so_many = length-map (recorded_trades trades i) (client_trade a clients postings) ∙ length_trades trades i

      pub going_more : trade_posted a clients postings t ≡ true → (area' : List ℕ) (n : ℕ) → trade_stride * count ≤ length area₀
          → area' ≡ store trade_words area (trade_stride * i) (u ∷ []) → n ≡ legs_in u → n ≤ 2 → Going (i + 1) (legs + n) area'
      unfolding all_of
      going_more p area' n room s q k =
          let z : 0 + trade_stride * length (client_trades a clients postings trades i) ≡ trade_stride * i = omega (arith, so_many) in
          let c : area' ≡ store trade_words area₀ 0 (client_trades a clients postings trades (i + 1)) =
          s ∙ rw (g.content, one_more) (ap (λ (at : ℕ). store trade_words (store trade_words area₀ 0 (client_trades a clients postings trades i)) at (u ∷ [])) (sym z)
          ∙ sym (store_append trade_codec area₀ 0 (client_trades a clients postings trades i) (u ∷ []) (omega arith))) in
          record {
            within = omega arith;
            long = ap length s ∙ length_store trade_codec area (trade_stride * i) (u ∷ []) (omega (arith, g.long)) ∙ g.long;
            content = c;
            counted = rw one_more (omega (arith, g.counted, legs_more (client_trades a clients postings trades i) u));
            few = omega (arith, g.few);
            all = ap (all_of (trade_posted a clients postings)) (more_trades trades i t e)
                ∙ all_of_append (trade_posted a clients postings) (recorded_trades trades i) (t ∷ []) ∙ rw (g.all, p);
          }

  pub all_posted : (i legs : ℕ) (area : List ℕ) → count ≤ i → Going i legs area
      → PostingIs a clients postings trades count area₀ (Some legs) area
  all_posted i legs area h g =
      let e : i ≡ count = omega (arith, g.within) in
      let p : Trade → Bool = trade_posted a clients postings in
      let every : all_of p (recorded_trades trades count) ≡ true = ap (λ (n : ℕ). all_of p (recorded_trades trades n)) (sym e) ∙ g.all in
      record {
        content = g.content ∙ ap (λ (n : ℕ). store trade_words area₀ 0 (client_trades a clients postings trades n)) e
            ∙ ap (λ (ts : List Trade). store trade_words area₀ 0 (map (client_trade a clients postings) ts)) (sym (before_all p (recorded_trades trades count) every));
        legs = rw every (ap Some (g.counted ∙ ap (λ (n : ℕ). leg_count (client_trades a clients postings trades n)) e));
      }

-- what a call leaves that found a leg without a client, and one that found none

none_picked : (b : Bool) (y : ℕ) → None ≡ pick b (Some y) None → b ≡ false
none_picked true y e = absurd (cc)
none_picked false y e = refl

some_picked : (b : Bool) (x y : ℕ) → Some x ≡ pick b (Some y) None → (b ≡ true) × (x ≡ y)
some_picked true x y e = (refl, cc)
some_picked false x y e = absurd (cc)

module _ {a clients : ℕ} {postings trades : List ℕ} {count : ℕ} {area area' : List ℕ} where
  pub none_posted : PostingIs a clients postings trades count area None area' → all_of (trade_posted a clients postings) (recorded_trades trades count) ≡ false
  none_posted q = none_picked _ _ q.legs

  module _ {legs : ℕ} (q : PostingIs a clients postings trades count area (Some legs) area') where
    pub all_known : all_of (trade_posted a clients postings) (recorded_trades trades count) ≡ true
    all_known = (some_picked _ _ _ q.legs).0

    pub posted_legs : legs ≡ leg_count (client_trades a clients postings trades count)
    posted_legs = (some_picked _ _ _ q.legs).1

    pub posted_content : area' ≡ store trade_words area 0 (client_trades a clients postings trades count)
    posted_content =
        q.content ∙ ap (λ (ts : List Trade). store trade_words area 0 (map (client_trade a clients postings) ts))
        (before_all (trade_posted a clients postings) (recorded_trades trades count) all_known)
