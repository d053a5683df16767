-- The statement's bytes written one after the other. Assumes nothing.
use lib.IntN.{ℤ}
use Rattle.laws.specs.Logic.{Bool, true, false, List, [], ◌∷◌, ◌++◌, ◌≡◌, refl}
use Rattle.laws.specs.Numbers.{ℕ, ◌+◌, ◌*◌, ◌<◌, ◌≤◌, mul-le-mul_right, arith, lt-ltb, le-ltb, eqb, length, get_or, length-append}
use Rattle.laws.specs.Choice.{pick}
use Rattle.areas.specs.Lists.{over}
use Rattle.rules.specs.Bounds.{max_resting}
use Rattle.rules.specs.Exchange.{no_trade}
use Rattle.rules.specs.Memory.{recorded_trades}
use Rattle.rules.specs.declared.Trade.{Trade}
use Rattle.theory.proofs.Codecs.{length_trades}
use Rattle.endian.specs.Written.{Written}
use Rattle.endian.proofs.Writes.{then, no_byte, looser, length_four}
use Rattle.endian.specs.Numbers.{two, four, eight, unsigned}
use Rattle.sections.specs.Sections.{in_row, section}
use Rattle.clients.specs.Clients.{is_client, legs_in}
use Rattle.statements.specs.Statement.{leg_bytes, trade_bytes, trades_bytes, profit_bytes}

-- ---- trades

module _ {b₀ b₁ b₂ b₃ b₄ b₅ b₆ b₇ : List ℕ} {at p₁ p₂ p₃ p₄ p₅ p₆ p₇ : ℕ} (t : Trade) (place sell close order mark : ℕ) where
  pub leg_written : mark ≡ pick (eqb close 0) 0 1 → Written 1 b₀ at ((place + 1) ∷ []) b₁ p₁ → Written 1 b₁ p₁ ((t.contract + 1) ∷ []) b₂ p₂
      → Written 1 b₂ p₂ (sell ∷ []) b₃ p₃ → Written 1 b₃ p₃ (mark ∷ []) b₄ p₄ → Written 4 b₄ p₄ (four t.price) b₅ p₅
      → Written 4 b₅ p₅ (four t.lots) b₆ p₆ → Written 4 b₆ p₆ (four order) b₇ p₇ → Written 16 b₀ at (leg_bytes t place sell close order) b₇ p₇
  unfolding leg_bytes
  leg_written e w₁ w₂ w₃ w₄ w₅ w₆ w₇ = rw (← e) (then w₁ (then w₂ (then w₃ (then w₄ (then w₅ (then w₆ w₇))))))

pub length_leg : (t : Trade) (place sell close order : ℕ) → length (leg_bytes t place sell close order) ≡ 16
unfolding leg_bytes four two
length_leg t place sell close order = refl

-- sixteen bytes for each leg of a client
pub length_trade : (t : Trade) → length (trade_bytes t) ≡ 16 * legs_in t
unfolding trade_bytes legs_in leg_bytes four two
length_trade t = by_parties (is_client t.buyer) (is_client t.seller)
  where
    by_parties : (buys sells : Bool)
        → length (pick buys (leg_bytes t t.buyer 0 t.buyclose t.buyorder) [] ++ pick sells (leg_bytes t t.seller 1 t.sellclose t.sellorder) [])
        ≡ 16 * (pick buys 1 0 + pick sells 1 0)
    by_parties true true = refl
    by_parties true false = refl
    by_parties false true = refl
    by_parties false false = refl

pub two_legs : (t : Trade) → legs_in t ≤ 2
unfolding legs_in
two_legs t = by_parties (is_client t.buyer) (is_client t.seller)
  where
    by_parties : (buys sells : Bool) → pick buys 1 0 + pick sells 1 0 ≤ 2
    by_parties true true = omega arith
    by_parties true false = omega arith
    by_parties false true = omega arith
    by_parties false false = omega arith

module _ (t : Trade) (place sell close order : ℕ) where
  abbrev side_bytes : List ℕ
  side_bytes = pick (is_client place) (leg_bytes t place sell close order) []

  pub side_none : (before : List ℕ) (at : ℕ) → 16 ≤ place → at + length side_bytes ≤ length before → Written 16 before at side_bytes before at
  side_none before at h room = rw (le-ltb place 16 h) (looser (no_byte before at (omega arith)) 16 (omega arith))

  pub side_room : (at room : ℕ) → place < 16 → at + length side_bytes ≤ room → at + 16 ≤ room
  side_room at room h k =
      let e : length side_bytes ≡ 16 = rw (lt-ltb place 16 h) (length_leg t place sell close order) in
      omega arith

  pub side_one : {before after : List ℕ} {at next : ℕ} → place < 16 → Written 16 before at (leg_bytes t place sell close order) after next
      → Written 16 before at side_bytes after next
  side_one h w = rw (lt-ltb place 16 h) w

module _ (t : Trade) where
  abbrev buyer_bytes : List ℕ
  buyer_bytes = pick (is_client t.buyer) (leg_bytes t t.buyer 0 t.buyclose t.buyorder) []

  abbrev seller_bytes : List ℕ
  seller_bytes = pick (is_client t.seller) (leg_bytes t t.seller 1 t.sellclose t.sellorder) []

  trade_length : length (trade_bytes t) ≡ length buyer_bytes + length seller_bytes
  unfolding trade_bytes
  trade_length = length-append buyer_bytes seller_bytes

  pub buyer_room : (at room : ℕ) → at + length (trade_bytes t) ≤ room → at + length buyer_bytes ≤ room
  buyer_room at room h = omega (arith, trade_length)

  pub seller_room : {before after : List ℕ} (at next most : ℕ) → at + length (trade_bytes t) ≤ length before → Written most before at buyer_bytes after next
      → next + length seller_bytes ≤ length after
  seller_room at next most h w = omega (arith, trade_length, w.ends, w.kept)

  pub trade_written : {before middle after : List ℕ} {at j next : ℕ} → Written 16 before at buyer_bytes middle j → Written 16 middle j seller_bytes after next
      → Written 32 before at (trade_bytes t) after next
  unfolding trade_bytes
  trade_written w v = then w v

pub trades_row : (area : List ℕ) (count : ℕ)
    → trades_bytes (recorded_trades area count) ≡ in_row count (λ i. trade_bytes (get_or (recorded_trades area count) i no_trade))
unfolding trades_bytes
trades_row area count = rw (length_trades area count)

-- ---- profit

pub profit_written : {before middle after : List ℕ} {at j next : ℕ} (closing holding : ℤ) (m n : ℕ) → m ≡ unsigned closing → n ≡ unsigned holding
    → Written 8 before at (eight m) middle j → Written 8 middle j (eight n) after next → Written 16 before at (profit_bytes closing holding) after next
unfolding profit_bytes
profit_written closing holding m n e f w v = rw (← e, ← f) (then w v)

pub length_profit : (closing holding : ℤ) → length (profit_bytes closing holding) ≡ 16
unfolding profit_bytes eight four two
length_profit closing holding = refl

-- ---- the three sections, each after its count

pub few_entries : {a b : ℕ} → a ≤ 16 → b ≤ 4 → a * b ≤ max_resting
few_entries {a} {b} h k = let p = mul-le-mul_right b h in omega arith

module _ (n₁ n₂ n₃ : ℕ) (A B C out : List ℕ) (room : length (section n₁ A ++ (section n₂ B ++ section n₃ C)) ≤ length out) where
  size : length (section n₁ A ++ (section n₂ B ++ section n₃ C)) ≡ 12 + length A + length B + length C
  size = simp (length-append, length_four) (omega arith)

  pub room_first : 0 + 4 ≤ length out
  room_first = omega (arith, size)

  module _ {o₁ : List ℕ} {p₁ : ℕ} (w₁ : Written 4 out 0 (four n₁) o₁ p₁) where
    pub room_second : p₁ + length A ≤ length o₁
    room_second = omega (arith, size, w₁.ends, w₁.kept, length_four n₁)

    module _ {o₂ : List ℕ} {p₂ : ℕ} (w₂ : Written (length A) o₁ p₁ A o₂ p₂) where
      pub room_third : p₂ + 4 ≤ length o₂
      room_third = omega (arith, size, w₁.ends, w₁.kept, length_four n₁, w₂.ends, w₂.kept)

      module _ {o₃ : List ℕ} {p₃ : ℕ} (w₃ : Written 4 o₂ p₂ (four n₂) o₃ p₃) where
        pub room_fourth : p₃ + length B ≤ length o₃
        room_fourth = omega (arith, size, w₁.ends, w₁.kept, length_four n₁, w₂.ends, w₂.kept, w₃.ends, w₃.kept, length_four n₂)

        module _ {o₄ : List ℕ} {p₄ : ℕ} (w₄ : Written (length B) o₃ p₃ B o₄ p₄) where
          pub room_fifth : p₄ + 4 ≤ length o₄
          room_fifth = omega (arith, size, w₁.ends, w₁.kept, length_four n₁, w₂.ends, w₂.kept, w₃.ends, w₃.kept, length_four n₂, w₄.ends, w₄.kept)

          module _ {o₅ : List ℕ} {p₅ : ℕ} (w₅ : Written 4 o₄ p₄ (four n₃) o₅ p₅) where
            pub room_sixth : p₅ + length C ≤ length o₅
            room_sixth =
                omega (arith, size, w₁.ends, w₁.kept, length_four n₁, w₂.ends, w₂.kept, w₃.ends, w₃.kept, length_four n₂, w₄.ends, w₄.kept, w₅.ends, w₅.kept, length_four n₃)

            pub all_told : {o₆ : List ℕ} {p₆ : ℕ} → Written (length C) o₅ p₅ C o₆ p₆ → o₆ ≡ over out 0 (section n₁ A ++ (section n₂ B ++ section n₃ C))
            all_told w₆ = (then (then w₁ w₂) (then (then w₃ w₄) (then w₅ w₆))).content
