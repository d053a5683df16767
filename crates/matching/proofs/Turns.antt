-- The sweep's loop: what it ends with if from here on it goes by the rules, a turn that keeps this, and each way out of the
-- loop. Assumes nothing.
use Rattle.laws.specs.Logic.{Bool, true, false, List, [], ◌∷◌, ◌++◌, ◌≡◌, refl, sym, ap, ◌∙◌}
use Rattle.laws.specs.Numbers.{ℕ, ◌+◌, ◌-◌, ◌*◌, ◌<◌, ◌≤◌, min, add-one, arith, length, get_or, set, take, drop, length-drop, take-append-drop, set_split}
use Rattle.laws.specs.Choice.{pick}
use Rattle.areas.specs.Records.{store}
use Rattle.areas.proofs.Records.{length_store}
use Rattle.book.specs.EarlyStop.{count_trades}
use Rattle.rules.specs.Exchange.{no_order}
use Rattle.rules.specs.Holdings.{book_trade}
use Rattle.rules.specs.Matching.{counterpart, trade_price, trade_with, with_lots, Swept, untouched, sweep}
use Rattle.rules.specs.Memory.{trade_words, order_from, queue_in, put_queue, trade_stride, first_word}
use Rattle.rules.specs.declared.{Account.Account, Order.Order, Taker.Taker, Trade.Trade}
use Rattle.theory.proofs.Codecs.{trade_codec, length_queue, order_at_lem, put_queue_lem}
use Rattle.book.proofs.EarlyStop.{trades_counted, count_met}
use Rattle.theory.proofs.Sweep.{trade_lots, trade_price_lem, sweep_end, sweep_used, sweep_unmet, sweep_part, sweep_full}
use Rattle.holdings.specs.Bounds.{HeldWithin}
use Rattle.matching.specs.Sweep.{SweepParties, FilledIs}
use Rattle.holdings.proofs.Bookings.{held_more, held_trade}
use Rattle.book.proofs.Queues.{next_order, no_more}
use Rattle.book.proofs.Trading.{Booked, booked, booked_trade, all_booked, still_made}

-- ---- what the loop ends with

-- what stands after a sweep, and the rest of the queue
pub record Outcome : Type 0 where
  pub booked : Booked
  pub rest : List Order

-- so much booked as it is, and a sweep still to come
unfoldable pub finish : ℕ → ℕ → ℕ → List Account → List ℕ → Swept → Outcome
finish done made last held area s = record { booked = booked done made last held area s.trades; rest = s.rest }

-- a trade passes from what is to come to what is done
finish_trade : (done made last : ℕ) (held : List Account) (area : List ℕ) (tr : Trade) (s : Swept) → trade_stride * made ≤ length area
    → finish done made last held area (record { trades = tr ∷ s.trades; rest = s.rest })
    ≡ finish (done + tr.lots) (made + 1) tr.price (book_trade held tr) (store trade_words area (trade_stride * made) (tr ∷ [])) s
unfolding finish
finish_trade done made last held area tr s room =
    ap (λ (b : Booked). record { booked = b; rest = s.rest }) (booked_trade done made last held area tr s.trades room)

-- nothing is to come: what stands is the answer
finished : (s : Swept) (queues : List ℕ) (c count : ℕ) (area₀ : List ℕ) (before last : ℕ) (held₀ : List Account)
    (queues' area : List ℕ) (held : List Account) (price made at done : ℕ) (rest : List Order)
    → finish done made price held area (untouched rest) ≡ finish 0 before last held₀ area₀ s
    → at + length rest ≡ count → queues' ≡ put_queue queues c count (take at (queue_in queues c count) ++ rest)
    → FilledIs s queues c count area₀ before last held₀ (record { traded = done; filled = at; made = made; last = price; accounts = held }) queues' area
unfolding finish
finished s queues c count area₀ before last held₀ queues' area held price made at done rest e l q =
    let r : rest ≡ s.rest = ap (λ o. o.rest) e in
    let b = all_booked s.trades (ap (λ o. o.booked) e) in
    record {
      traded = b.traded;
      filled = ap (λ (os : List Order). at + length os) (sym r) ∙ l;
      made = b.made;
      last = b.last;
      accounts = b.accounts;
      trades = b.trades;
      queue = q ∙ ap (λ (os : List Order). put_queue queues c count (take at (queue_in queues c count) ++ os)) r;
    }

-- ---- what the loop keeps

pub record Going
    (t : Taker) (lots last : ℕ) (held₀ : List Account) (queues : List ℕ) (count : ℕ) (area₀ : List ℕ) (before : ℕ)
    (queues' area : List ℕ) (held : List Account) (price made at done : ℕ) : Type 0 where
  pub same : queues' ≡ queues
  pub within : at ≤ count
  pub some : done ≤ lots
  pub long : length area ≡ length area₀
  pub parties : SweepParties (1_000_000 + done + done) t held queues count
  pub answer : finish done made price held area (sweep t (lots - done) price (drop at (queue_in queues t.contract count)))
      ≡ finish 0 before last held₀ area₀ (sweep t lots last (queue_in queues t.contract count))

-- the order that code reads at a place
pub order_read : {queues queues' : List ℕ} {c d : ℕ} (at : ℕ) {o : Order} → o ≡ order_from (drop (first_word c at) queues') → c ≡ d → queues' ≡ queues → o ≡ order_from (drop (first_word d at) queues)
order_read {queues} {queues'} {c} {d} at e ec eq =
    e ∙ ap (λ (k : ℕ). order_from (drop (first_word k at) queues')) ec ∙ ap (λ (q : List ℕ). order_from (drop (first_word d at) q)) eq

-- a turn that trades: the order met, and the trade
pub record Meeting (t : Taker) (queues : List ℕ) (count at left price : ℕ) (o : Order) (tr : Trade) : Type 0 where
  pub here : at < count
  pub order : o ≡ order_from (drop (first_word t.contract at) queues)
  pub some : 0 < left
  pub met : counterpart t o ≡ true
  pub trade : tr ≡ trade_with t o left price

-- from the tests that code makes before it
pub meeting : {t : Taker} {lots last : ℕ} {held₀ : List Account} {queues : List ℕ} {count : ℕ} {area₀ : List ℕ} {before : ℕ} {queues' area : List ℕ}
    {held : List Account} {price made at done : ℕ} → Going t lots last held₀ queues count area₀ before queues' area held price made at done
    → (at ≡ count → ⊥) → (lots - done ≡ 0 → ⊥) → {o : Order} {m : Bool} {tr : Trade} → o ≡ order_from (drop (first_word t.contract at) queues')
    → m ≡ counterpart t o → m ≡ true → tr ≡ trade_with t o (lots - done) price → Meeting t queues count at (lots - done) price o tr
meeting {at = at} g here some eo em met et =
    record { here = omega (arith, g.within); order = order_read at eo refl g.same; some = omega arith; met = sym em ∙ met; trade = et }

either_party : (used : ℕ) (sell : Bool) (a b : ℕ) → a < used → b < used → pick sell a b < used
either_party used true a b ha hb = ha
either_party used false a b ha hb = hb

-- the same accounts, with another bound on what they hold
pub parties_with : {b b' : ℕ} {t : Taker} {held held' : List Account} {queues : List ℕ} {count : ℕ} (p : SweepParties b t held queues count)
    → HeldWithin b' p.used t.contract held' → SweepParties b' t held' queues count
parties_with p w = record { used = p.used; few = p.few; taker = p.taker; resting = p.resting; holdings = w }

module _ {t : Taker} {queues : List ℕ} {count at left price : ℕ} {o : Order} {tr : Trade} (m : Meeting t queues count at left price o tr) where
  pub trade_size : tr.lots ≡ min left o.lots
  trade_size = ap (λ (x : Trade). x.lots) m.trade ∙ trade_lots t o left price

  pub trade_contract : tr.contract ≡ t.contract
  unfolding trade_with
  trade_contract = ap (λ (x : Trade). x.contract) m.trade

  standing : get_or (queue_in queues t.contract count) at no_order ≡ o
  standing = order_at_lem queues t.contract count at m.here ∙ sym m.order

  -- the two accounts are the taker's and the order's
  pub trade_parties : {b : ℕ} {held : List Account} (p : SweepParties b t held queues count) → (tr.buyer < p.used) × (tr.seller < p.used)
  unfolding trade_with
  trade_parties p =
      let resting : o.account < p.used = rw standing at (p.resting at m.here) in
      rw m.trade
      (either_party p.used t.sell o.account t.account resting p.taker, either_party p.used t.sell t.account o.account p.taker resting)

-- ---- why a sweep stops

-- no order from this place on is touched
pub record Stops (t : Taker) (left price : ℕ) (queues : List ℕ) (count at : ℕ) : Type 0 where
  pub rest : sweep t left price (drop at (queue_in queues t.contract count)) ≡ untouched (drop at (queue_in queues t.contract count))

module _ {t : Taker} {left price : ℕ} {queues : List ℕ} {count at : ℕ} where
  pub queue_ended : at ≡ count → Stops t left price queues count at
  queue_ended e = record { rest = rw (no_more queues t.contract count at (omega arith)) (sweep_end t left price) }

  pub lots_used : left ≡ 0 → Stops t left price queues count at
  lots_used e = record { rest = rw e (sweep_used t price _) }

  pub no_counterpart : {o : Order} → at < count → o ≡ order_from (drop (first_word t.contract at) queues) → counterpart t o ≡ false → Stops t left price queues count at
  no_counterpart {o} h e u = record { rest = rw (next_order queues t.contract count at o h e) (sweep_unmet t left price o _ u) }

-- ---- the ways on and out

module _
    {t : Taker} {lots last : ℕ} {held₀ : List Account} {queues : List ℕ} {count : ℕ} {area₀ : List ℕ} {before : ℕ} {queues' area : List ℕ}
    {held : List Account} {price made at done : ℕ} (g : Going t lots last held₀ queues count area₀ before queues' area held price made at done)
    (room : first_word t.contract count ≤ length queues) where
  -- the loop is left before a trade
  pub stopped : Stops t (lots - done) price queues count at
      → FilledIs (sweep t lots last (queue_in queues t.contract count)) queues t.contract count area₀ before last held₀
      (record { traded = done; filled = at; made = made; last = price; accounts = held }) queues' area
  stopped stops =
      let q : List Order = queue_in queues t.contract count in
      let l : at + length (drop at q) ≡ count = rw length-drop (omega (arith, g.within, length_queue queues t.contract count)) in
      finished (sweep t lots last q) queues t.contract count area₀ before last held₀ queues' area held price made at done (drop at q)
      (ap (finish done made price held area) (sym stops.rest) ∙ g.answer) l (g.same ∙ sym (rw take-append-drop (put_queue_lem queues t.contract count room)))

  -- a turn that trades
  module _ {o : Order} {tr : Trade} (m : Meeting t queues count at (lots - done) price o tr) where
    next : drop at (queue_in queues t.contract count) ≡ o ∷ drop (at + 1) (queue_in queues t.contract count)
    next = next_order queues t.contract count at o m.here m.order

    -- the area has room for the trade
    pub trade_room : trade_stride * (before + length (sweep t lots last (queue_in queues t.contract count)).trades) ≤ length area₀ → trade_stride * made + trade_stride ≤ length area
    unfolding finish
    trade_room h =
        let q : List Order = queue_in queues t.contract count in
        let n : length (sweep t (lots - done) price (drop at q)).trades ≡ 1 + count_trades t (lots - done - o.lots) (drop (at + 1) q)
        = trades_counted t (lots - done) price (drop at q) ∙ rw next (count_met t (lots - done) o (drop (at + 1) q) m.some m.met) in
        omega (arith, ap (λ x. x.booked.made) g.answer, still_made done made price held area (sweep t (lots - done) price (drop at q)).trades, still_made 0 before last held₀ area₀ (sweep t lots last q).trades, g.long)

    module _ (fits : trade_stride * made + trade_stride ≤ length area) {held' : List Account} (eh : held' ≡ book_trade held tr) {area' : List ℕ} (ea : area' ≡ store trade_words area (trade_stride * made) (tr ∷ [])) where
      long_still : length area' ≡ length area₀
      long_still = ap length ea ∙ length_store trade_codec area (trade_stride * made) (tr ∷ []) fits ∙ g.long

      -- the trade is done, and this sweep is to come
      traded_on : (s : Swept) → sweep t (lots - done) price (o ∷ drop (at + 1) (queue_in queues t.contract count)) ≡ record { trades = trade_with t o (lots - done) price ∷ s.trades; rest = s.rest }
          → finish (done + tr.lots) (made + 1) tr.price held' area' s ≡ finish 0 before last held₀ area₀ (sweep t lots last (queue_in queues t.contract count))
      traded_on s e =
          rw (eh, ea)
          (sym (finish_trade done made price held area tr s (omega arith))
          ∙ ap (λ (x : Trade). finish done made price held area (record { trades = x ∷ s.trades; rest = s.rest })) m.trade
          ∙ ap (finish done made price held area) (sym (ap (sweep t (lots - done) price) next ∙ e)) ∙ g.answer)

      -- the order is filled: the loop goes on behind it
      pub going_on : o.lots ≤ tr.lots
          → Going t lots last held₀ queues count area₀ before queues' area' held' tr.price (made + 1) (at + 1) (done + tr.lots)
      going_on full =
          let size : tr.lots ≡ min (lots - done) o.lots = trade_size m in
          let left : lots - done - o.lots ≡ lots - (done + tr.lots) = omega arith in
          let p : trade_price t.method t.condition o.price price ≡ tr.price = sym (ap (λ (x : Trade). x.price) m.trade ∙ trade_price_lem t o (lots - done) price) in
          record {
            same = g.same;
            within = omega (arith, m.here);
            some = omega (arith, g.some);
            long = long_still;
            parties =
                let both = trade_parties m g.parties in
                rw eh (parties_with g.parties (held_more (held_trade held tr (trade_contract m) both.0 both.1 g.parties.holdings) (omega arith)));
            answer = traded_on _ (rw (← left, ← p) (sweep_full t (lots - done) price o _ m.some m.met (omega arith)));
          }

      -- the order is filled in part: the loop is left, and its remaining lots are written
      pub part_filled : tr.lots < o.lots → {c : ℕ} {queues'' : List ℕ} → c ≡ t.contract
          → queues'' ≡ put_queue queues' c count (set (queue_in queues' c count) at (with_lots (get_or (queue_in queues' c count) at no_order) (o.lots - tr.lots)))
          → FilledIs (sweep t lots last (queue_in queues t.contract count)) queues t.contract count area₀ before last held₀
          (record { traded = done + tr.lots; filled = at; made = made + 1; last = tr.price; accounts = held' }) queues'' area'
      part_filled short ec eq =
          let q : List Order = queue_in queues t.contract count in
          let size : tr.lots ≡ min (lots - done) o.lots = trade_size m in
          let left : o.lots - (lots - done) ≡ o.lots - tr.lots = omega arith in
          let rest : List Order = with_lots o (o.lots - tr.lots) ∷ drop (at + 1) q in
          let l : at + length rest ≡ count = rw length-drop (omega (arith, m.here, length_queue queues t.contract count)) in
          let written : set q at (with_lots (get_or q at no_order) (o.lots - tr.lots)) ≡ take at q ++ rest
          = ap (λ (x : Order). set q at (with_lots x (o.lots - tr.lots))) (standing m) ∙ rw add-one (set_split q at (with_lots o (o.lots - tr.lots)) (rw length_queue m.here)) in
          finished (sweep t lots last q) queues t.contract count area₀ before last held₀ _ area' held' tr.price (made + 1) at (done + tr.lots) rest
          (traded_on (untouched rest) (rw (← left) (sweep_part t (lots - done) price o _ m.some m.met (omega arith)))) l
          (eq ∙ rw (ec, g.same, written))
